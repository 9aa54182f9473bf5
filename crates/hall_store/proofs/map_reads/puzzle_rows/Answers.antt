use Rattle.std.proofs.Common.{◌≡◌, ◌++◌, ◌∷◌, [], List, Bool, true, false, ap, sym, ◌∙◌, append_assoc, rules}
use Rattle.std.specs.List.{take_while}
use Rattle.std.specs.Map.{values_of}
use Rattle.std.proofs.lemmas.List.{append-nil}
use Rattle.hall_policy.specs.declared.record.PuzzleRow.{PuzzleRow}
use Rattle.hall_policy.specs.World.{same_text}
use Rattle.hall_policy.specs.declared.record.PuzzleKey.{PuzzleKey}
use Rattle.hall_store.proofs.Firsts.{puzzles_together}
use Rattle.hall_store.proofs.Ranges.{taken, left}
use Rattle.hall_store.proofs.map_reads.puzzle_rows.Goals as goal
use Rattle.hall_store.proofs.map_reads.puzzle_rows.Goals.{in-None, in-Some+then-ne}

ended : {all : List PuzzleRow} (rows : List PuzzleRow) → all ≡ rows ++ [] → rows ≡ all
ended rows e = sym (e ∙ append-nil rows)

pub loop-key-init : goal.loop-key-init
loop-key-init c =
    let test : PuzzleKey × PuzzleRow → Bool = λ e. same_text e.0.author c.args.first.now.author in
    puzzles_together c.args.first.now c.requires.first c.args.puzzles.now.entries c.range-key-items.ensures.ordered
    c.requires.kept
    ∙ ap (λ (es : List (PuzzleKey × PuzzleRow)). values_of (take_while test es))
    (sym (c.into_iter-key-iterator.ensures.into_iter_gives ∙ c.range-key-items.ensures.between tt))
    ∙ ap (λ (rows : List PuzzleRow). rows ++ values_of (take_while test c.into_iter-key-iterator.result))
    (sym c.new-rows.ensures.items)

pub loop-key-preserved : goal.loop-key-preserved
loop-key-preserved c =
    let test : PuzzleKey × PuzzleRow → Bool = λ e. same_text e.0.author c.args.first.now.author in
    let old : List PuzzleRow = c.loop-key.rows.items in
    let row : PuzzleRow = c.in-Some.row.now in
    let rest : List (PuzzleKey × PuzzleRow) = c.next.new.self in
    let cloned : c.in_ok-clone.field-0 ≡ row = search rules in
    let passes : test (c.in-Some.key.now, row) ≡ true = search rules in
    c.loop-key.invariant
    ∙ ap (λ (es : List (PuzzleKey × PuzzleRow)). old ++ values_of es)
    (ap (take_while test) c.in-Some.ensures.steps ∙ taken test (c.in-Some.key.now, row) rest passes)
    ∙ sym (append_assoc old (row ∷ []) (values_of (take_while test rest)))
    ∙ ap (λ (rows : List PuzzleRow). rows ++ values_of (take_while test rest))
    (ap (λ (r : PuzzleRow). old ++ r ∷ []) (sym cloned) ∙ sym c.in_ok-push.ensures)

pub returns-clause-rows : goal.returns-clause-rows
returns-clause-rows c =
    let test : PuzzleKey × PuzzleRow → Bool = λ e. same_text e.0.author c.args.first.now.author in
    let old : List PuzzleRow = c.loop-key.rows.items in
    elim c.match-next.branch [
      | in-None w ↦ ended old (c.loop-key.invariant ∙ ap (λ (es : List (PuzzleKey × PuzzleRow)). old
          ++ values_of (take_while test es)) w.in-None.ensures.steps.0)
      | in-Some+then-ne w ↦
          let fails : test (w.in-Some.key.now, w.in-Some.row.now) ≡ false = search rules in
          ended old (c.loop-key.invariant
          ∙ ap (λ (es : List (PuzzleKey × PuzzleRow)). old ++ values_of es)
          (ap (take_while test) w.in-Some.ensures.steps ∙ left test (w.in-Some.key.now, w.in-Some.row.now)
          c.next.new.self fails))
    ]
