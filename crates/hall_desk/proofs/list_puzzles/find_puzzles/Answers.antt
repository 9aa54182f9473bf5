use Rattle.std.proofs.Common.{◌≡◌, Bool, true, List, [], ◌∷◌, refl, sym, ap, ◌∙◌}
use Rattle.std.specs.List.{filter}
use Rattle.std.specs.FinMap.{values}
use Rattle.hall_policy.specs.declared.record.Roles.{Roles}
use Rattle.hall_store.proofs.Knowing.{served_turn}
use Rattle.hall_desk.specs.Shown.{sees_puzzle}
use Rattle.hall_desk.proofs.list_puzzles.find_puzzles.Goals as goal

-- a test that all pass leaves out none
filter_all : {X : Type 0} (p : X → Bool) → ((x : X) → p x ≡ true) → (xs : List X) → filter p xs ≡ xs
filter_all p passes [] = refl
filter_all p passes (x ∷ xs) = rw (passes x) (ap (λ rest. x ∷ rest) (filter_all p passes xs))

pub returns-then-get-clause-served : goal.returns-then-get-clause-served
returns-then-get-clause-served g c =
    let person = c.args.person.now in
    let director : person.roles.director ≡ true = sym (ap (λ (r : Roles). r.director) c.get.ensures.value)
    ∙ c.if-get.true in
    served_turn c.all_puzzles.result (λ world rows. rows.items ≡ values world.puzzles)
    (λ world rows. rows.items ≡ filter (sees_puzzle person) (values world.puzzles))
    (g.S.ReadStore.content c.all_puzzles.new.self)
    (λ rows same. same ∙ sym (filter_all (sees_puzzle person) (λ row. rw director refl)
    (values (g.S.ReadStore.content c.all_puzzles.new.self).world.puzzles)))
    c.all_puzzles.ensures.served
