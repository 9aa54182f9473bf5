use Rattle.std.proofs.Common.{◌≡◌, inl, inr, Some, slice_get, sym, ap, ◌∙◌, subst, arith}
use Rattle.std.specs.Map.{lookup}
use Rattle.std.specs.BTreeMap.{is_at}
use Rattle.std.proofs.lemmas.Bool.{cases_eq}
use Rattle.std.proofs.lemmas.Option.{slice_get_within, get_or_from_slice_get, slice_get-get_or}
use Rattle.hall_policy.specs.Text.{text_cmp}
use Rattle.hall_policy.specs.declared.record.Person.{Person}
use Rattle.hall_store.proofs.Imports.{write_keeps}
use Rattle.hall_store.proofs.Tests.{contained, placed}
use Rattle.hall_store.proofs.map_adds.index_people.Goals as goal

pub loop-person-preserved : goal.loop-person-preserved
loop-person-preserved c =
    let list = c.args.list.now in
    let at = c.loop-person.person-index in
    let item = c.person-item.result in
    let written = c.in_ok-index_person.ensures.ok in
    let before = c.loop-person.keys.entries in
    let after = c.index_person.new.keys.entries in
    let here : slice_get list at ≡ Some item = slice_get-get_or list at item (omega (arith, c.loop-person-test.true))
    ∙ ap Some (sym c.person-item.is) in
    record {
      stay = λ key name agrees found. write_keeps before after item written.0 key name
          (agrees item (contained list item at here)) (c.loop-person.invariant.stay key name agrees found);
      led = λ k person below found. elim (cases_eq k at) as (λ _. lookup (is_at (text_cmp person.key)) after ≡ Some
          person.name) [
            | inl same ↦
                let is : item ≡ person = c.person-item.is ∙ get_or_from_slice_get list at person item
                (subst (λ i. slice_get list i ≡ Some person) same found) in
                subst (λ (p : Person). lookup (is_at (text_cmp p.key)) after ≡ Some p.name) is written.1
            | inr differ ↦ write_keeps before after item written.0 person.key person.name
                (λ same_key. absurd (c.requires k at item (omega (arith, below, differ))
                (omega (arith, c.loop-person-test.true))
                (inr (ap (λ (p : Person). p.key) (get_or_from_slice_get list k person item found) ∙ sym same_key
                ∙ ap (λ (p : Person). p.key) c.person-item.is))))
                (c.loop-person.invariant.led k person (omega (arith, below, differ)) found)
          ];
    }

pub returns-clause-led : goal.returns-clause-led
returns-clause-led c = λ person among.
    let at = placed c.args.list.now person among in
    let within = slice_get_within c.args.list.now at.0 person at.1 in
    c.loop-person.invariant.led at.0 person (omega (arith, within, c.loop-person-test.false)) at.1
