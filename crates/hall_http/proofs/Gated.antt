-- What a responder that goes on has answered, it has answered.
use Rattle.std.proofs.Common.{◌≡◌, sym, subst, ap, inl, inr, ℕ, List, [], ◌∷◌, Option, true}
use Rattle.std.specs.Prelude.{Bool}
use Rattle.hall_http.specs.Connection.{Exchange, Session}
use Rattle.hall_http.specs.Steps.{AnswersAt, HasRequest, Looks, gated}
use Rattle.hall_http.specs.Head.{HasNoWholeRequest}
use Rattle.hall_http.specs.declared.connection.Connection.{Connection}
use Rattle.hall_http.proofs.Going.{none_whole}

module _ {H : Type 0} (answers : H → Option ℕ → List ℕ → List ℕ → H → Type 0) (goes_on : H → List ℕ → H → Type 0) where
  pub plain_session : (h : H × Bool) (xs : List Exchange) (i : H × Bool) → Session (gated answers goes_on) h xs i
      → Session answers h.0 xs i.0
  plain_session h [] i same = ap (λ (z : H × Bool). z.0) same
  plain_session h (x ∷ xs) i (m, says, rest) = (m.0, says.1, plain_session m xs i rest)

  module _ {C : Type 0} (now_gives : C → Option ℕ → C → Type 0) where
    pub looks_plain : (h i : H) (on : Bool) (c d : C) (k l : Connection)
        → Looks (gated answers goes_on) now_gives ((h, true), c) k ((i, on), d) l
        → Looks answers now_gives (h, c) k (i, d) l
    looks_plain h i on c d k l (inl a) =
        inl (record {
          exchange = a.exchange;
          size = a.size;
          ending = a.ending;
          front = a.front;
          exchanged = (a.exchanged.0, a.exchanged.1, a.exchanged.2.1);
          reply = a.reply;
          ends = a.ends;
          left = a.left;
        })
    looks_plain h i on c d k l (inr (same, w)) =
        inr (ap (λ (z : (H × Bool) × C). (z.0.0, z.1)) same, w)

-- it was found whole, the clock gave a moment, and it was answered at that
pub looks_at : {H C : Type 0} (answers : H → Option ℕ → List ℕ → List ℕ → H → Type 0)
    (now_gives : C → Option ℕ → C → Type 0) (h i : H) (c d : C) (moment : Option ℕ) (k m l : Connection) → m ≡ k
    → HasRequest k → now_gives c moment d → AnswersAt answers moment h m i l
    → Looks answers now_gives (h, c) k (i, d) l
looks_at answers now_gives h i c d moment k m l same has told (inl a) =
    rw (sym same) (inl (record {
      exchange = a.exchange;
      size = a.size;
      ending = a.ending;
      front = a.front;
      exchanged = (
        a.exchanged.0,
        subst (λ (m : Option ℕ). now_gives c m d) (sym a.exchanged.1) told,
        a.exchanged.2,
      );
      reply = a.reply;
      ends = a.ends;
      left = a.left;
    }))
looks_at answers now_gives h i c d moment k m l same has told (inr (stays, still, none)) =
    absurd (none_whole k.inbox has.0 (subst (λ (c : Connection). HasNoWholeRequest c.inbox) same none) has.1)
