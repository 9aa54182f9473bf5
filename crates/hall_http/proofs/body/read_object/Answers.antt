use Rattle.std.proofs.Common.{◌≡◌, ◌∙◌, sym, true, false, rules}
use Rattle.serde_json.specs.Data.{object}
use Rattle.serde_json.specs.View.{view, members_view}
use Rattle.serde_json.specs.declared.value.Value.{the_lemmas}
use Rattle.hall_http.proofs.Listed.{no_text, object_is, only_listed}
use Rattle.hall_http.proofs.body.read_object.Goals as goal

pub returns-in_default : goal.returns-in_default
returns-in_default c = no_text _ c.args.body.now (rw c.in_default.is at c.from_utf8.ensures.cases).0

pub returns-then-not-are_listed : goal.returns-then-not-are_listed
returns-then-not-are_listed c =
    let text = rw c.in-Ok.is at c.from_utf8.ensures.cases in
    let seen : view c.in-Ok-from_str.value ≡ object (members_view c.in-Object.members.entries) =
    rw c.in-Object.is (search (rules, the_lemmas)) in
    let got = rw (c.in-Ok-from_str.is, text.0, seen) at c.from_str.ensures.ok in
    object_is _ c.args.body.now (members_view c.in-Object.members.entries) false text.1 got
    (only_listed c.args.names.now c.in-Object.members.entries ∙ sym c.are_listed.ensures ∙ c.if-not-are_listed.true)

pub returns : goal.returns
returns c =
    let text = rw c.in-Ok.is at c.from_utf8.ensures.cases in
    let seen : view c.in-Ok-from_str.value ≡ object (members_view c.in-Object.members.entries) =
    rw c.in-Object.is (search (rules, the_lemmas)) in
    let got = rw (c.in-Ok-from_str.is, text.0, seen) at c.from_str.ensures.ok in
    object_is _ c.args.body.now (members_view c.in-Object.members.entries) true text.1 got
    (only_listed c.args.names.now c.in-Object.members.entries ∙ sym c.are_listed.ensures ∙ c.if-not-are_listed.false)
