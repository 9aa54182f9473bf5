-- Sockets that hand on what others say agree with them in their turns.
use Rattle.std.proofs.Common.{◌≡◌, ◌⊎◌, inl, inr, ap, arith, ◌+◌, List, [], ◌∷◌, ◌++◌, length, length-append}
use Rattle.hall_http.specs.Coming.{Heard, Nexts, Said, AreAllHeard, Hears, turns_in}
use Rattle.hall_http.specs.declared.server.Next.{Next}
use Rattle.hall_http.specs.declared.server.Next.TheVariants as next
use Rattle.hall_http.proofs.Comings.{turns_more}
use Rattle.hall_tests.specs.Brief.{AgreeInTurns}

module _ {P : Type 0} (nexts : Nexts P) (heard : List Heard) (old : Said P) (agree : AgreeInTurns nexts heard old)
  where
    pub agree_heard : length heard ≡ turns_in nexts → AreAllHeard old
    agree_heard all = omega (arith, agree.turns, agree.many, all)

    pub agree_refused : AgreeInTurns (nexts ++ next.Refused ∷ []) heard old
    agree_refused = record {
      turns = omega (arith, turns_more nexts next.Refused, agree.turns);
      many = agree.many;
    }

    module _ (new : Said P) where
      pub agree_next : (x : Next P) → new.nexts ≡ old.nexts ++ x ∷ [] → new.heard ≡ old.heard
          → AgreeInTurns (nexts ++ x ∷ []) heard new
      agree_next x said same = record {
        turns = omega (arith, turns_more nexts x, turns_more old.nexts x, ap turns_in said, agree.turns);
        many = omega (arith, agree.many, ap length same);
      }

      pub agree_told : (one : Heard) → Hears one old new → AgreeInTurns nexts (heard ++ one ∷ []) new
      agree_told one hears = record {
        turns = omega (arith, agree.turns, ap turns_in hears.0);
        many = omega (
          arith,
          agree.many,
          ap length hears.3,
          length-append heard (one ∷ []),
          length-append old.heard (one ∷ []),
        );
      }

      pub agree_same : new ≡ old → AgreeInTurns nexts heard new
      agree_same same = rw same agree

-- one thing more was said: that none can come in, and the others said nothing; or what the others said
pub agree_then : {P : Type 0} (nexts all : Nexts P) (heard : List Heard) (old new : Said P) (x : Next P)
    → AgreeInTurns nexts heard old → all ≡ nexts ++ x ∷ []
    → ((x ≡ next.Refused) × (new ≡ old)) ⊎ ((new.nexts ≡ old.nexts ++ x ∷ []) × (new.heard ≡ old.heard))
    → AgreeInTurns all heard new
agree_then nexts all heard old new x agree is (inl (refused, same)) =
    rw (is, refused, same) (agree_refused nexts heard old agree)
agree_then nexts all heard old new x agree is (inr (said, told)) =
    rw is (agree_next nexts heard old agree new x said told)
