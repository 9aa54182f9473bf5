use Rattle.std.proofs.Common.{subst, sym}
use Rattle.hall_policy.specs.Text.{IsOfKind, is_word_byte}
use Rattle.hall_store.specs.Keyed.{IsUseKept}
use Rattle.hall_store.specs.declared.slot.UseKey.{UseKey}
use Rattle.hall_store.proofs.Adding.{use_stays}
use Rattle.hall_store.proofs.Firsts.{use_total, same_uses}
use Rattle.hall_store.proofs.Ranges.{each_after}
use Rattle.hall_store.proofs.map_adds.index_use.Goals as goal

pub returns-clause-kept : goal.returns-clause-kept
returns-clause-kept c =
    each_after use_total same_uses IsUseKept c.args.uses.now c.put.new.map c.in_ok-used.used tt c.put.result
    c.put.ensures.updates c.put.ensures.err
    (subst (λ (u : UseKey). IsOfKind 1 24 is_word_byte u.round) (sym c.in_ok-used.ensures)
    c.as_str-word.ensures.of_kind) c.requires

pub returns-clause-stay : goal.returns-clause-stay
returns-clause-stay c = use_stays c.put.result c.args.uses.now c.put.new.map c.in_ok-used.used c.put.ensures.updates
    c.put.ensures.err
