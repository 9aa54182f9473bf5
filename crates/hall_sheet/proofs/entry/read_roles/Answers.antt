use Rattle.std.proofs.Common.{◌∙◌, sym, arith, rules}
use Rattle.hall_sheet.proofs.RolesIn.{all_words, last_word, word_taken, word_refused}
use Rattle.hall_sheet.proofs.entry.read_roles.Goals as goal

pub loop-word-init : goal.loop-word-init
loop-word-init c = (all_words c.args.text.now, c.utf8.text)

pub returns-in_err-roles-clause-value : goal.returns-in_err-roles-clause-value
returns-in_err-roles-clause-value c =
    let h = c.in-Some.ensures.byte (omega arith) (λ w o f. f) in
    c.from_residual.ensures
    ∙ word_refused c.loop-word.roles c.loop-word.rest.now c.in-Some.word.now c.in-Some.more.now _ h.0 h.1 h.2
    (sym c.with_role.ensures.value ∙ c.in_err-roles.was) c.loop-word.invariant.0

pub loop-word-preserved : goal.loop-word-preserved
loop-word-preserved c =
    let h = c.in-Some.ensures.byte (omega arith) (λ w o f. f) in (
      word_taken c.loop-word.roles c.in_ok-roles.roles c.loop-word.rest.now c.in-Some.word.now c.in-Some.more.now _ h.0
          h.1 h.2
          (sym c.with_role.ensures.value ∙ c.in_ok-roles.was) c.loop-word.invariant.0,
      search rules,
    )

pub returns-clause-value : goal.returns-clause-value
returns-clause-value c =
    let h = c.in_default.ensures.byte (omega arith) (λ w o f. f) in
    c.with_role-2.ensures.value ∙ sym (last_word c.loop-word.roles c.loop-word.rest.now h) ∙ c.loop-word.invariant.0
