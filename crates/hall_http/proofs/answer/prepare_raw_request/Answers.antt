use Rattle.std.specs.Prelude.{Ok}
use Rattle.hall_http.proofs.Requests.{asked_of}
use Rattle.hall_http.proofs.answer.prepare_raw_request.Goals as goal

pub returns-in-Ok-clause-waits : goal.returns-in-Ok-clause-waits
returns-in-Ok-clause-waits g c = λ waits bytes lent. (
  c.in-Ok.request,
  asked_of bytes c.args.raw.now (Ok c.in-Ok.request) lent c.in-Ok.ensures,
  c.prepare.ensures.waits waits,
)
