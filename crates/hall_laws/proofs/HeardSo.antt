-- Of each turn the sockets heard when the first of all requests were answered.
use Rattle.std.proofs.Common.{◌≡◌, ◌∙◌, ap, subst, sym, inl, inr, ℕ, List, [], ◌∷◌, ◌++◌, append_assoc, arith}
use Rattle.std.specs.Prelude.{Contains}
use Rattle.std.proofs.lemmas.List.{append-nil}
use Rattle.std.proofs.lemmas.List.Elements.{Contains-push_cases}
use Rattle.hall_store.specs.Store.{Content}
use Rattle.hall_http.specs.Coming.{Heard, Nexts, since}
use Rattle.hall_http.specs.Crowd.{AreHeard, HaveGoneSince, IsToldRightly, Past, WaitsForWorkAfter}
use Rattle.hall_http.specs.Crowd.{heard_first, heard_other, heard_answer, heard_turn}
use Rattle.hall_http.specs.Peer.{Traffic}
use Rattle.hall_http.specs.Turns.{Turn}
use Rattle.hall_http.specs.declared.client.Step.{Step}
use Rattle.hall_http.specs.declared.server.Next.TheVariants as next
use Rattle.hall_laws.specs.Order.{EachIsHeardSo}

none_in : {X : Type 0} (x : X) → Contains [] x → ⊥
none_in x (k, few, at) = omega arith

module _ {H P : Type 0} (content : H → Content) (traffic : P → Traffic) (over : (H × H) × List (Past P)) (few : ℕ)
    (all : List Turn) where
  -- so it was told of a turn after the first of these requests
  pub record IsToldAt (some : List Turn) (told : ℕ × Step) : Type 0 where
    pub steps : Nexts P
    pub turns : List Turn
    pub later : List Turn
    pub first : some ≡ turns ++ later
    pub rightly : IsToldRightly (WaitsForWorkAfter content over.0.0 over.0.1 all) traffic few
        (HaveGoneSince traffic over.1) steps turns told

  -- more requests were answered since
  heard_before : (some more : List Turn) (told : ℕ × Step) → IsToldAt some told → IsToldAt (some ++ more) told
  heard_before some more told at = record {
    steps = at.steps;
    turns = at.turns;
    later = at.later ++ more;
    first = ap (λ ts. ts ++ more) at.first ∙ append_assoc at.turns at.later more;
    rightly = at.rightly;
  }

  heard_so : (steps : Nexts P) (some : List Turn) (heard : List Heard) (one : Heard)
      → AreHeard (WaitsForWorkAfter content over.0.0 over.0.1 all) traffic few (HaveGoneSince traffic over.1) steps
      some heard → Contains heard one → IsToldAt some one.0
  heard_so steps some heard one heard_first there = absurd (none_in one there)
  heard_so steps some heard one (heard_other before turns told other quiet more) there =
      heard_so before turns told one more there
  heard_so steps some heard one (heard_answer before turns answered told more) there =
      heard_before turns answered one.0 (heard_so before turns told one more there)
  heard_so steps some heard one (heard_turn before turns told place how held more rightly) there =
      elim (Contains-push_cases told ((place, how), held) one there) [
        | inl earlier ↦ heard_so before turns told one more earlier
        | inr same ↦ subst (λ (it : Heard). IsToldAt turns it.0) same (record {
          steps = before ++ next.Turn place ∷ [];
          turns = turns;
          later = [];
          first = sym (append-nil turns);
          rightly = rightly;
        })
      ]

pub each_is_heard_so : {H P : Type 0} (content : H → Content) (traffic : P → Traffic) → EachIsHeardSo content traffic
each_is_heard_so content traffic over old new all one so there =
    let at = heard_so content traffic over old.count all (since old new) all so.0 one so.2 there in
    record { steps = at.steps; turns = at.turns; later = at.later; first = at.first; rightly = at.rightly }
