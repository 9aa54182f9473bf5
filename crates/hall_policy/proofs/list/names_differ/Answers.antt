use Rattle.std.proofs.Common.{refl, sym, ◌∙◌}
use Rattle.std.proofs.lemmas.Bool.{false≢true}
use Rattle.hall_policy.specs.declared.record.Person.{Person}
use Rattle.hall_policy.proofs.Lists.{item_at, one_more, seen_twice, all_differ}
use Rattle.hall_policy.proofs.list.names_differ.Goals as goal

pub returns-then-not-branch : goal.returns-then-not-branch
returns-then-not-branch c =
    let here = item_at c.args.people.now c.loop-person.person-index c.person-item.result c.loop-person-test.true
    c.person-item.is in
    let old = sym c.in_ok-is_new.ensures.new ∙ c.if-not-branch.true in (
      λ no. absurd (false≢true no),
      λ none. absurd (seen_twice (λ (person : Person). person.name) c.args.people.now c.loop-person.person-index
          c.person-item.result c.loop-person.seen here c.loop-person-test.true c.loop-person.invariant old none),
    )

pub loop-person-preserved : goal.loop-person-preserved
loop-person-preserved c =
    let here = item_at c.args.people.now c.loop-person.person-index c.person-item.result c.loop-person-test.true
    c.person-item.is in
    let new = sym c.in_ok-is_new.ensures.new ∙ c.if-not-branch.false in
    one_more (λ (person : Person). person.name) c.args.people.now c.loop-person.person-index c.person-item.result
    c.loop-person.seen c.is_new.new.seen here c.loop-person.invariant new c.in_ok-is_new.ensures.seen

pub returns : goal.returns
returns c = (
  λ yes. all_differ (λ (person : Person). person.name) c.args.people.now c.loop-person.person-index c.loop-person.seen
      c.loop-person-test.false c.loop-person.invariant,
  λ all. refl,
)
