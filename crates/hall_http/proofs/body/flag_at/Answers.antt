use Rattle.std.proofs.Common.{◌∙◌, sym, ap, option_map}
use Rattle.serde_json.specs.View.{view, members_view}
use Rattle.serde_json.proofs.Views.{view-lookup}
use Rattle.hall_http.proofs.Listed.{missing_flag, wrong_flag, flag_member}
use Rattle.hall_http.proofs.body.flag_at.Goals as goal

pub returns-in_default : goal.returns-in_default
returns-in_default c =
    let got = rw c.in_default.is at c.get.ensures.value in
    missing_flag c.args.field c.args.name.now (members_view c.args.members.now.entries)
    (sym (view-lookup c.args.name.now c.args.members.now.entries) ∙ ap (option_map view) (sym got))

pub returns-in-Some-as_bool : goal.returns-in-Some-as_bool
returns-in-Some-as_bool c =
    let got = rw c.in-Some.is at c.get.ensures.value in
    flag_member c.args.field c.args.name.now (members_view c.args.members.now.entries) (view c.in-Some.value.now) _
    (sym (view-lookup c.args.name.now c.args.members.now.entries) ∙ ap (option_map view) (sym got))
    (sym (rw c.in-Some-as_bool.is at c.as_bool.ensures))

pub returns-in-None : goal.returns-in-None
returns-in-None c =
    let got = rw c.in-Some.is at c.get.ensures.value in
    wrong_flag c.args.field c.args.name.now (members_view c.args.members.now.entries) (view c.in-Some.value.now)
    (sym (view-lookup c.args.name.now c.args.members.now.entries) ∙ ap (option_map view) (sym got))
    (sym (rw c.in-None.is at c.as_bool.ensures))
