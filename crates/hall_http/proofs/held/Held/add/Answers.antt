use Rattle.std.proofs.Common.{◌∙◌, ap, List, [], ◌∷◌, ◌++◌}
use Rattle.hall_http.specs.declared.clients.HeldRequest.{HeldRequest}
use Rattle.hall_http.proofs.held.Held.add.Goals as goal

pub returns : goal.returns
returns c =
    c.push_reserved.ensures.items
    ∙ ap (λ (all : List HeldRequest). all ++ record { place = c.args.place; moment = c.args.moment.now } ∷ [])
    c.self.view_is
