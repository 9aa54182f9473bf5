use Rattle.std.proofs.lemmas.Result.{IfOk-weaker}
use Rattle.hall_nurikabe.proofs.Marks.{Marks-set}
use Rattle.hall_nurikabe.proofs.region.places_set_to.Goals as goal

pub returns : goal.returns
returns c =
    IfOk-weaker c.have_value.result _ _ (λ marks e. Marks-set c.args.partial.now.places c.args.value marks.items e)
    (rw c.as_slice.ensures at c.have_value.ensures)
