use Rattle.std.proofs.Common.{◌∙◌}
use Rattle.hall_http.specs.Reply.{fault_data}
use Rattle.hall_desk.proofs.JsonTold.{prints}
use Rattle.hall_http.proofs.reply.fault_text.Goals as goal

pub returns : goal.returns
returns c =
    c.into_text.ensures
    ∙ prints (fault_data c.args.fault) _ c.tell_fault.new.told c.in_ok-told.ensures c.in_ok-tell_fault.ensures
