use Rattle.std.proofs.Common.{get_or, take}
use Rattle.std.proofs.lemmas.List.{take_more}
use Rattle.hall_check.specs.Asking.{asked_world}
use Rattle.hall_check.specs.declared.sentence.Sentence.TheVariants.{OwnKey}
use Rattle.hall_check.proofs.Tellings.{told_more}
use Rattle.hall_check.proofs.sentences.tell_each.Goals as goal

pub loop-sentence-preserved : goal.loop-sentence-preserved
loop-sentence-preserved c = λ able.
    let sentences = c.args.sentences.now in
    let i = c.loop-sentence.sentence-index in
    rw (take_more sentences i OwnKey c.loop-sentence-test.true, c.in_ok-push.ensures)
    (told_more (asked_world c.args.asking.now) (take i sentences) c.loop-sentence.told.items (get_or sentences i OwnKey)
    c.in_ok-tell.field-0 (c.loop-sentence.invariant able) c.in_ok-tell.ensures.sentence
    (c.in_ok-tell.ensures.tells able))
