use Rattle.std.proofs.Common.{◌∙◌, ap, rules, List}
use Rattle.std.proofs.lemmas.Fn.{filter_same}
use Rattle.hall_http.specs.Held.{without}
use Rattle.hall_http.specs.declared.clients.HeldRequest.{HeldRequest}
use Rattle.hall_http.proofs.held.Held.forget.Goals as goal

pub returns : goal.returns
returns c =
    filter_same _ _ _ (λ x b f' k. search rules) _ _ c.retain.ensures.filtered
    ∙ ap (λ (held : List HeldRequest). without c.args.place held) c.self.view_is
