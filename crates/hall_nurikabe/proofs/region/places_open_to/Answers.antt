use Rattle.std.proofs.lemmas.Result.{IfOk-weaker}
use Rattle.hall_nurikabe.proofs.Marks.{Marks-open}
use Rattle.hall_nurikabe.proofs.region.places_open_to.Goals as goal

pub returns : goal.returns
returns c =
    IfOk-weaker c.lack_value.result _ _ (λ marks e. Marks-open c.args.partial.now.places c.args.value marks.items e)
    (rw c.as_slice.ensures at c.lack_value.ensures)
