use Rattle.std.proofs.Common.{◌↔◌, IsTrue, sym, subst}
use Rattle.hall_check.specs.Asking.{asked_world}
use Rattle.hall_check.specs.Checks.{SaysOfEntry}
use Rattle.hall_check.specs.declared.sentence.Sentence.{Sentence}
use Rattle.hall_check.proofs.ask_places.PlaceAsked.is_true.Goals as goal

pub returns-in-InNoOther : goal.returns-in-InNoOther
returns-in-InNoOther c = λ able.
    subst
    (λ (s : Sentence). IsTrue c.is_in_no_other.result ↔ SaysOfEntry (asked_world c.args.asking.now) s c.args.self.now)
    (sym c.in-InNoOther.is) (c.is_in_no_other.ensures able.0)
