use Rattle.std.proofs.Common.{◌≡◌, ◌++◌, ◌∷◌, [], List, Bool, true, false, ap, sym, ◌∙◌, append_assoc, rules}
use Rattle.std.specs.List.{take_while}
use Rattle.std.specs.Map.{values_of}
use Rattle.std.proofs.lemmas.List.{append-nil}
use Rattle.hall_policy.specs.declared.record.AnswerRow.{AnswerRow}
use Rattle.hall_store.specs.Keyed.{agree}
use Rattle.hall_store.specs.declared.slot.AnswerSlot.{AnswerSlot}
use Rattle.hall_store.proofs.Firsts.{answers_ahead}
use Rattle.hall_store.proofs.Ranges.{taken, left}
use Rattle.hall_store.proofs.answer_reads.answer_rows.Goals as goal
use Rattle.hall_store.proofs.answer_reads.answer_rows.Goals.{in-None, in-Some+then-not-agree}

ended : {all : List AnswerRow} (rows : List AnswerRow) → all ≡ rows ++ [] → rows ≡ all
ended rows e = sym (e ∙ append-nil rows)

pub loop-slot-init : goal.loop-slot-init
loop-slot-init c =
    let test : AnswerSlot × AnswerRow → Bool = λ e. agree c.args.part e.0 c.args.first.now in
    answers_ahead c.args.first.now c.args.part c.requires.first c.args.answers.now.entries
    c.range-slot-items.ensures.ordered c.requires.kept
    c.into_iter-slot-iterator.result (c.into_iter-slot-iterator.ensures.into_iter_gives
    ∙ c.range-slot-items.ensures.between tt)
    ∙ ap (λ (rows : List AnswerRow). rows ++ values_of (take_while test c.into_iter-slot-iterator.result))
    (sym c.new-rows.ensures.items)

pub loop-slot-preserved : goal.loop-slot-preserved
loop-slot-preserved c =
    let test : AnswerSlot × AnswerRow → Bool = λ e. agree c.args.part e.0 c.args.first.now in
    let old : List AnswerRow = c.loop-slot.rows.items in
    let row : AnswerRow = c.in-Some.row.now in
    let rest : List (AnswerSlot × AnswerRow) = c.next.new.self in
    let cloned : c.in_ok-clone.field-0 ≡ row = search rules in
    let passes : test (c.in-Some.slot.now, row) ≡ true = search rules in
    c.loop-slot.invariant
    ∙ ap (λ (es : List (AnswerSlot × AnswerRow)). old ++ values_of es)
    (ap (take_while test) c.in-Some.ensures.steps ∙ taken test (c.in-Some.slot.now, row) rest passes)
    ∙ sym (append_assoc old (row ∷ []) (values_of (take_while test rest)))
    ∙ ap (λ (rows : List AnswerRow). rows ++ values_of (take_while test rest))
    (ap (λ (r : AnswerRow). old ++ r ∷ []) (sym cloned) ∙ sym c.in_ok-push.ensures)

pub returns-clause-rows : goal.returns-clause-rows
returns-clause-rows c =
    let test : AnswerSlot × AnswerRow → Bool = λ e. agree c.args.part e.0 c.args.first.now in
    let old : List AnswerRow = c.loop-slot.rows.items in
    elim c.match-next.branch [
      | in-None w ↦ ended old (c.loop-slot.invariant ∙ ap (λ (es : List (AnswerSlot × AnswerRow)). old
          ++ values_of (take_while test es)) w.in-None.ensures.steps.0)
      | in-Some+then-not-agree w ↦
          let fails : test (w.in-Some.slot.now, w.in-Some.row.now) ≡ false = search rules in
          ended old (c.loop-slot.invariant
          ∙ ap (λ (es : List (AnswerSlot × AnswerRow)). old ++ values_of es)
          (ap (take_while test) w.in-Some.ensures.steps ∙ left test (w.in-Some.slot.now, w.in-Some.row.now)
          c.next.new.self fails))
    ]
