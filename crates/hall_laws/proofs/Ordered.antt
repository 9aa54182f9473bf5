-- Requests are answered in the order in which their clients can tell that they were made.
use Rattle.std.proofs.Common.{◌≡◌, ◌∙◌, ap, subst, sym, inl, inr, ℕ, ◌≤◌, List, [], ◌∷◌, ◌++◌, length, arith}
use Rattle.std.proofs.Common.{append_assoc, length-append}
use Rattle.std.specs.Prelude.{All}
use Rattle.std.proofs.lemmas.List.Concat.{flat_map-append}
use Rattle.std.proofs.lemmas.List.Elements.{All-contains}
use Rattle.hall_http.specs.Connection.{Exchange, requests_of}
use Rattle.hall_store.specs.Store.{Content}
use Rattle.hall_http.specs.Crowd.{IsHandedOut, IsPast}
use Rattle.hall_http.specs.Peer.{IsLaterOn, Traffic}
use Rattle.hall_http.specs.Turns.{IsConnectionTold, Turn, of}
use Rattle.hall_http.proofs.Crowds.{client_told}
use Rattle.hall_http.proofs.Numbers.{of_append}
use Rattle.hall_laws.specs.Order.{AreAnsweredInOrder, IsAnsweredBefore, IsStillToCome}
use Rattle.hall_laws.proofs.Among.{Has, contains_between, in_either, own}

-- bytes that begin with requests are as many as those at least
as_many : (xs before : List Exchange) (y : Exchange) (rest : List Exchange) (t : Traffic) → IsConnectionTold xs t
    → xs ≡ before ++ y ∷ rest → length (requests_of (before ++ y ∷ [])) ≤ length t.came
as_many xs before y rest t told is =
    let all : t.came ≡ requests_of (before ++ y ∷ []) ++ (requests_of rest ++ told.rest) =
    told.spelled
    ∙ ap (λ (ys : List Exchange). requests_of ys ++ told.rest) (is ∙ sym (append_assoc before (y ∷ []) rest))
    ∙ ap (λ s. s ++ told.rest) (flat_map-append (λ x. x.request) (before ++ y ∷ []) rest)
    ∙ append_assoc (requests_of (before ++ y ∷ [])) (requests_of rest) told.rest in
    omega (
      arith,
      ap length all,
      length-append (requests_of (before ++ y ∷ [])) (requests_of rest ++ told.rest),
    )

-- a request that is still to come is one of those that are answered later
comes_later : (turns later : List Turn) (v u : Traffic) (y : Exchange) → IsConnectionTold (of v.number turns) v
    → IsLaterOn v u → IsStillToCome (turns ++ later) u y → Has (of u.number later) y
comes_later turns later v u y told more still =
    elim (in_either (of u.number turns) (of u.number later) still.before y still.after
    (sym (of_append u.number turns later) ∙ still.among)) [
      | inl (rest, came, tail) ↦
          let first : of v.number turns ≡ still.before ++ y ∷ rest = ap (λ n. of n turns) (sym more.number) ∙ came in
          let many = as_many (of v.number turns) still.before y rest v told first in
          let grown : length u.came ≡ length (v.came ++ more.came.0) = ap length more.came.1 in
          absurd (omega (arith, many, still.fewer, grown, length-append v.came more.came.0))
      | inr (front, cut, second) ↦ (front, still.after, second)
    ]

-- so it is of one that came later
comes_new : (few many : ℕ) (turns later : List Turn) (u : Traffic) (y : Exchange)
    → All (λ turn. IsHandedOut few many turn.0) turns → many ≤ u.number → IsStillToCome (turns ++ later) u y
    → Has (of u.number later) y
comes_new few many turns later u y known new still =
    elim (in_either (of u.number turns) (of u.number later) still.before y still.after
    (sym (of_append u.number turns later) ∙ still.among)) [
      | inl (rest, came, tail) ↦
          let (front, others, all) = own u.number turns y (still.before, rest, came) in
          let handed : IsHandedOut few many u.number =
          All-contains (λ (turn : Turn). IsHandedOut few many turn.0) turns (u.number, y) known
          (contains_between turns front (u.number, y) others all) in
          absurd (omega (arith, handed.1, new))
      | inr (front, cut, second) ↦ (front, still.after, second)
    ]

one_then : (turns later : List Turn) (x y : Turn) → Has turns x → Has later y → IsAnsweredBefore (turns ++ later) x y
one_then turns later x y (a, b, first) (c, d, second) = (
  a,
  b ++ c,
  d,
  ap (λ s. s ++ later) first ∙ append_assoc a (x ∷ b) later
      ∙ ap (λ s. a ++ x ∷ s) (ap (λ s. b ++ s) second ∙ sym (append_assoc b c (y ∷ d))),
)

module _ {H P : Type 0} (content : H → Content) (traffic : P → Traffic) where
  pub are_answered_in_order : AreAnsweredInOrder content traffic
  are_answered_in_order over few all told t u x y at here under_way had still =
      let arrives : IsStillToCome (at.turns ++ at.later) u y =
      subst (λ (ts : List Turn). IsStillToCome ts u y) at.first still in
      let later : Has (of u.number at.later) y = elim had [
        | inl (place, (k, stands, more)) ↦
            comes_later at.turns at.later _ u y (client_told traffic _ k (at.rightly.kept.here place k stands)) more
            arrives
        | inr (inl (one, gone, more)) ↦
            comes_later at.turns at.later _ u y
            (All-contains (IsPast traffic at.turns) at.rightly.clients.gone.items one at.rightly.kept.gone gone).0 more
            arrives
        | inr (inr new) ↦
            comes_new few at.rightly.many at.turns at.later u y at.rightly.kept.numbered.known new arrives
      ] in
      subst (λ (ts : List Turn). IsAnsweredBefore ts (t.number, x) (u.number, y)) (sym at.first)
      (one_then at.turns at.later (t.number, x) (u.number, y)
      (own t.number at.turns x (under_way.is_of.before, under_way.is_of.after, under_way.is_of.all))
      (own u.number at.later y later))
