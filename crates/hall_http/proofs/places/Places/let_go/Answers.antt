use Rattle.std.proofs.Common.{◌≡◌, ◌∙◌, sym, subst, refl, inl, inr, ◌⊎◌, true}
use Rattle.std.proofs.lemmas.Option.{same_Some}
use Rattle.std.proofs.lemmas.List.Elements.{All-push}
use Rattle.hall_http.specs.Places.{HasExpired, IsLetGo, MayMakeRoom}
use Rattle.hall_http.specs.Seats.{are_full}
use Rattle.hall_http.specs.declared.places.LetGo.{LetGo}
use Rattle.hall_http.specs.declared.places.Visit.{Visit}
use Rattle.hall_http.proofs.Room.{goes_there}
use Rattle.hall_http.proofs.places.Places.let_go.Goals as goal

pub invariant_of-self-clause-rightly : goal.invariant_of-self-clause-rightly
invariant_of-self-clause-rightly c =
    let there = goes_there c.args.self.now c.args.place c.requires in
    let may =
    subst (λ (v : Visit). HasExpired v c.args.self.now.elapsed ⊎
    ((are_full c.args.self.now ≡ true) × MayMakeRoom v c.args.self.now.elapsed))
    (same_Some there.0 c.in-Some.visit (sym there.1 ∙ sym c.at.ensures.known ∙ c.in-Some.is)) there.2 in
    let one : LetGo = record { place = c.args.place; visit = c.in-Some.visit; is_full = c.are_full.result } in
    let rightly : IsLetGo (one, c.args.self.now.elapsed) =
    elim may [
      | inl x ↦ inl x
      | inr x ↦ inr (c.are_full.ensures ∙ x.0, x.1)
    ] in
    rw c.and-self.ensures
    (All-push (λ one. ∥ IsLetGo one ∥₁) c.args.self.now.let_go.items (one, c.args.self.now.elapsed)
    c.args.self.now.rightly ∣ rightly ∣₁)

pub returns-in_default-clause-gone : goal.returns-in_default-clause-gone
returns-in_default-clause-gone c =
    let clash = sym (goes_there c.args.self.now c.args.place c.requires).1 ∙ sym c.at.ensures.known ∙ c.in_default.is in
    absurd cc

pub returns-clause-gone : goal.returns-clause-gone
returns-clause-gone c = (_, refl, c.free.ensures.freed.2 ∙ c.and-self.ensures)
