-- A pass after what other passes made.
use Rattle.std.specs.Prelude.{Result, Ok, Err, OnErr}
use Rattle.std.proofs.Common.{◌≡◌, ◌≢◌, ℕ, ◌≤◌, ◌++◌, ◌∷◌, [], List, Option, Some, set, sym, ◌∙◌, refl, subst, arith}
use Rattle.hall_solve.specs.Question.{Question, IsHopeless, IsPartial, Narrows, open_places}
use Rattle.hall_solve.specs.Deduction.{IsDeduced, IsForced}
use Rattle.hall_solve.specs.Trail.{Trailed, Grows}
use Rattle.hall_solve.specs.declared.deduce.Pass.{Pass}
use Rattle.hall_solve.specs.declared.deduce.Pass.TheVariants.{Settled, Advanced, Dead}
use Rattle.hall_solve.proofs.Boards.{Narrows-itself, Narrows-twice, forced_after, hopeless_before, open-keeps}
use Rattle.hall_solve.proofs.Trails.{Grows-itself, Grows-twice, Grows-then_set}

pub on_err : {T E P : Type 0} (r : Result T E) → P → OnErr r P
on_err (Ok x) h = tt
on_err (Err e) h = h

module _ (q : Question) (a b c : List (Option ℕ)) (part : IsPartial q a) (n : Narrows q a b) where
  pub Narrows-settled : IsDeduced q b c Settled → Narrows q a c
  Narrows-settled d = subst (λ x. Narrows q a x) (sym d) n

  pub Deduced-settled : (pass : Pass) → IsDeduced q a b pass → IsDeduced q b c Settled → IsDeduced q a c pass
  Deduced-settled pass h d = subst (λ x. IsDeduced q a x pass) (sym d) h

  pub Deduced-advanced : IsDeduced q b c Advanced → IsDeduced q a c Advanced
  Deduced-advanced d = (
    Narrows-twice q a b c n d.0,
    (let fewer : open_places b ≤ open_places a = open-keeps a b (part.size ∙ sym n.partial.size) n.keeps in let less =
        d.1 in omega arith),
  )

  pub Deduced-dead : IsDeduced q b c Dead → IsHopeless q a
  Deduced-dead d = hopeless_before q a b n d

-- what passes have made of the partial filling so far, none of which found it dead
pub record IsSoFar (q : Question) (start now : Trailed) (pass : Pass) : Type 0 where
  pub narrows : Narrows q start.places now.places
  pub deduced : IsDeduced q start.places now.places pass
  pub grows : Grows start now
  pub alive : pass ≢ Dead

pub IsSoFar-begin : (q : Question) (start : Trailed) → IsPartial q start.places → IsSoFar q start start Settled
IsSoFar-begin q start part = record {
  narrows = Narrows-itself q start.places part;
  deduced = refl;
  grows = Grows-itself start;
  alive = λ (eq : Settled ≡ Dead). cc;
}

module _ (q : Question) (start now next : Trailed) (part : IsPartial q start.places) (pass : Pass)
    (so_far : IsSoFar q start now pass) where
  pub IsSoFar-settled : Grows now next → IsDeduced q now.places next.places Settled → IsSoFar q start next pass
  IsSoFar-settled grows d = record {
    narrows = Narrows-settled q start.places now.places next.places part so_far.narrows d;
    deduced = Deduced-settled q start.places now.places next.places part so_far.narrows pass so_far.deduced d;
    grows = Grows-twice start now next so_far.grows grows;
    alive = so_far.alive;
  }

  pub IsSoFar-advanced : Grows now next → IsDeduced q now.places next.places Advanced → IsSoFar q start next Advanced
  IsSoFar-advanced grows d =
      let whole = Deduced-advanced q start.places now.places next.places part so_far.narrows d in
      record {
        narrows = whole.0;
        deduced = whole;
        grows = Grows-twice start now next so_far.grows grows;
        alive =
            λ (eq : Advanced ≡ Dead). cc;
      }

  pub IsSoFar-set : (place value : ℕ) → IsForced q now.places place value
      → next.places ≡ set now.places place (Some value)
      → next.trail ≡ now.trail ++ place ∷ [] → IsSoFar q start next Advanced
  IsSoFar-set place value forced places trail =
      let after = forced_after q start.places now.places place value part so_far.narrows forced in
      record {
        narrows = rw places after.0;
        deduced = rw places after;
        grows = Grows-then_set start now next place value so_far.grows forced.unset.1 places trail;
        alive = λ (eq : Advanced ≡ Dead). cc;
      }

-- a pass that found it not dead, after one that set something
pub IsSoFar-then : (q : Question) (start now next : Trailed) → IsPartial q start.places → IsSoFar q start now Advanced
    → Grows now next
    → (last : Pass) → last ≢ Dead → IsDeduced q now.places next.places last → IsSoFar q start next Advanced
IsSoFar-then q start now next part so_far grows Settled alive d = IsSoFar-settled q start now next part Advanced so_far
    grows d
IsSoFar-then q start now next part so_far grows Advanced alive d = IsSoFar-advanced q start now next part Advanced
    so_far grows d
IsSoFar-then q start now next part so_far grows Dead alive d = absurd (alive refl)
