use Rattle.std.proofs.Common.{◌<◌, ◌∙◌, ap, arith, inr, length, not, Bool, Some}
use Rattle.hall_http.proofs.Numbers.{read_at, some_of}
use Rattle.hall_http.proofs.clients.Clients.is_free.Goals as goal

pub returns-clause-taken : goal.returns-clause-taken
returns-clause-taken g c = λ taken.
    let inside : c.args.place < length c.args.self.now.places.items =
    omega (arith, c.if-place-len.false, c.len.ensures) in
    let (k, is) = some_of c.index.result.now (c.is_none.ensures ∙ ap (λ (b : Bool). not b) taken) in
    inr (k, read_at c.args.self.now.places.items c.args.place c.index.result.now (Some k) inside c.index.ensures is)
