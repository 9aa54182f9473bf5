use Rattle.std.proofs.Common.{◌≡◌, ◌∙◌, sym, ap, rules, arith, option_map, Some, None}
use Rattle.std.specs.Prelude.{option_and_then}
use Rattle.std.proofs.lemmas.Grind.{common_steps}
use Rattle.std.proofs.lemmas.Int.{to_z-of_z}
use mir.Syntax.{w128}
use mir.Val.{SFits}
use Rattle.serde_json.specs.View.{view, members_view}
use Rattle.serde_json.specs.Find.{as_number, as_integer}
use Rattle.serde_json.proofs.Views.{view-lookup}
use Rattle.hall_http.proofs.Listed.{missing_integer, wrong_integer, integer_member}
use Rattle.hall_http.proofs.body.integer_at.Goals as goal

pub returns-in_default : goal.returns-in_default
returns-in_default c =
    let got = rw c.in_default.is at c.get.ensures.value in
    missing_integer c.args.field c.args.name.now (members_view c.args.members.now.entries)
    (sym (view-lookup c.args.name.now c.args.members.now.entries) ∙ ap (option_map view) (sym got))

pub returns-in-Some-and_then : goal.returns-in-Some-and_then
returns-in-Some-and_then c =
    let got = rw c.in-Some.is at c.get.ensures.value in
    let is : option_and_then as_integer (as_number (view c.in-Some.value.now)) ≡ Some c.in-Some-and_then.integer =
    grind (arith, common_steps) in
    let fits : SFits w128 c.in-Some-and_then.integer = search rules in
    simp to_z-of_z (integer_member c.args.field c.args.name.now (members_view c.args.members.now.entries)
    (view c.in-Some.value.now) _
    (sym (view-lookup c.args.name.now c.args.members.now.entries) ∙ ap (option_map view) (sym got)) is)

pub returns-in-None : goal.returns-in-None
returns-in-None c =
    let got = rw c.in-Some.is at c.get.ensures.value in
    let is : option_and_then as_integer (as_number (view c.in-Some.value.now)) ≡ None = grind (arith, common_steps) in
    wrong_integer c.args.field c.args.name.now (members_view c.args.members.now.entries) (view c.in-Some.value.now)
    (sym (view-lookup c.args.name.now c.args.members.now.entries) ∙ ap (option_map view) (sym got)) is
