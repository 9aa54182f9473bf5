use Rattle.std.proofs.Common.{◌∙◌}
use Rattle.hall_http.specs.Reply.{reply_data}
use Rattle.hall_desk.proofs.JsonTold.{prints}
use Rattle.hall_http.proofs.reply.reply_text.Goals as goal

pub returns : goal.returns
returns c =
    c.into_text.ensures
    ∙ prints (reply_data c.args.reply.now) _ c.tell_reply.new.told c.in_ok-told.ensures c.in_ok-tell_reply.ensures
