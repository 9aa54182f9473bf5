use Rattle.std.proofs.Common.{rules, ◌≡◌, ◌≢◌, ℕ, List, Option, Some, refl, sym, subst}
use Rattle.hall_score.specs.Tally.{TakesAnswer}
use Rattle.hall_score.specs.declared.tally.Tally.{Tally}
use Rattle.hall_store.proofs.Knowing.{kept_then}
use Rattle.hall_desk.specs.Slices.{AreUnderWay, AsksIfAny}
use Rattle.hall_desk.specs.TableCopy.{IsKept}
use Rattle.hall_desk.specs.Tabling.{BeginsTally, IsTalliedIn, TablesOn}
use Rattle.hall_desk.specs.Totals.{IsTableAt}
use Rattle.hall_desk.specs.declared.slices.Slices.{Slices}
use Rattle.hall_desk.specs.declared.table_copy.TableCopy.{TableCopy}
use Rattle.hall_desk.proofs.Copied.{copies_on, kept_told, tables_kept, tables_more}
use Rattle.hall_desk.proofs.Slicing.{other_ended, sliced_on, sliced_whole}
use Rattle.hall_desk.proofs.tabling.go_on.Goals as goal

pub returns-in_err-tabling-clause-copied : goal.returns-in_err-tabling-clause-copied
returns-in_err-tabling-clause-copied g c =
    let kept = c.under_way.ensures.kept in
    copies_on _ _ c.args.copies.now c.args.copies.now.tables c.take.new.self kept c.requires.copied
    (tables_kept _ _ c.args.copies.now.tables kept c.requires.copied.tables)
    (subst (λ (o : Option (Slices Tally)). AsksIfAny (g.S.ReadStore.content c.under_way.new.store) IsTalliedIn o)
    (sym c.take.ensures.after) tt)

pub returns-in_err-tabling-2-clause-copied : goal.returns-in_err-tabling-2-clause-copied
returns-in_err-tabling-2-clause-copied g c =
    let kept = kept_then _ _ _ c.under_way.ensures.kept c.go_on.ensures.kept in
    copies_on _ _ c.args.copies.now c.args.copies.now.tables c.take.new.self kept c.requires.copied
    (tables_kept _ _ c.args.copies.now.tables kept c.requires.copied.tables)
    (subst (λ (o : Option (Slices Tally)). AsksIfAny (g.S.ReadStore.content c.go_on.new.store) IsTalliedIn o)
    (sym c.take.ensures.after) tt)

pub returns-in_err-copy-in-Whole-clause-copied : goal.returns-in_err-copy-in-Whole-clause-copied
returns-in_err-copy-in-Whole-clause-copied g c =
    let kept = kept_then _ _ _ c.under_way.ensures.kept c.go_on.ensures.kept in
    copies_on _ _ c.args.copies.now c.args.copies.now.tables c.take.new.self kept c.requires.copied
    (tables_kept _ _ c.args.copies.now.tables kept c.requires.copied.tables)
    (subst (λ (o : Option (Slices Tally)). AsksIfAny (g.S.ReadStore.content c.go_on.new.store) IsTalliedIn o)
    (sym c.take.ensures.after) tt)

pub returns-in-On-clause-copied : goal.returns-in-On-clause-copied
returns-in-On-clause-copied g c =
    let mid = g.S.ReadStore.content c.under_way.new.store in
    let new = g.S.ReadStore.content c.go_on.new.store in
    let kept = kept_then _ _ _ c.under_way.ensures.kept c.go_on.ensures.kept in
    let on = sliced_on TakesAnswer BeginsTally mid new c.in_ok-tabling.tabling _ c.go_on.ensures.kept
    c.in_ok-tabling.ensures.tallied c.in_ok-tabling-2.ensures.sliced c.in-On.tabling c.in-On.is in
    copies_on _ new c.args.copies.now c.args.copies.now.tables (Some c.in-On.tabling) kept c.requires.copied
    (tables_kept _ _ c.args.copies.now.tables kept c.requires.copied.tables)
    (λ h s. (on h).1.1)

pub returns-then-not-is_own-clause-copied : goal.returns-then-not-is_own-clause-copied
returns-then-not-is_own-clause-copied g c =
    let mid = g.S.ReadStore.content c.under_way.new.store in
    let new = g.S.ReadStore.content c.go_on.new.store in
    let kept = kept_then _ _ _ c.under_way.ensures.kept c.go_on.ensures.kept in
    let copy = c.in_ok-copy-in-Whole.copy in
    let ends = sliced_whole TakesAnswer BeginsTally mid new c.in_ok-tabling.tabling _ c.go_on.ensures.kept
    c.in_ok-tabling.ensures.tallied c.in_ok-tabling-2.ensures.sliced c.in-Whole.made c.in-Whole.taken c.in-Whole.is in
    copies_on _ new c.args.copies.now c.keep_copy-kept.new.copied c.take.new.self kept c.requires.copied
    (tables_more new c.args.copies.now.tables c.keep_copy-kept.new.copied copy.round copy.text
    (tables_kept _ _ c.args.copies.now.tables kept c.requires.copied.tables)
    (kept_told c.args.copies.now.tables c.keep_copy-kept.new.copied copy copy.round copy.text
    c.keep_copy-kept.ensures.some (refl, refl))
    (λ h s. subst (λ (id : List ℕ). IsTableAt new.world id copy.text) (sym c.in_ok-copy-in-Whole.ensures.same)
    (c.in_ok-copy-in-Whole.ensures.table new.world (ends h).1.1)))
    (subst (λ (o : Option (Slices Tally)). AsksIfAny new IsTalliedIn o) (sym c.take.ensures.after) tt)

pub returns-else-kept-clause-copied : goal.returns-else-kept-clause-copied
returns-else-kept-clause-copied g c =
    let mid = g.S.ReadStore.content c.under_way.new.store in
    let new = g.S.ReadStore.content c.go_on.new.store in
    let kept = kept_then _ _ _ c.under_way.ensures.kept c.go_on.ensures.kept in
    let copy = c.in_ok-copy-in-Whole.copy in
    let ends = sliced_whole TakesAnswer BeginsTally mid new c.in_ok-tabling.tabling _ c.go_on.ensures.kept
    c.in_ok-tabling.ensures.tallied c.in_ok-tabling-2.ensures.sliced c.in-Whole.made c.in-Whole.taken c.in-Whole.is in
    copies_on _ new c.args.copies.now c.keep_copy-kept.new.copied c.take.new.self kept c.requires.copied
    (tables_more new c.args.copies.now.tables c.keep_copy-kept.new.copied copy.round copy.text
    (tables_kept _ _ c.args.copies.now.tables kept c.requires.copied.tables)
    (kept_told c.args.copies.now.tables c.keep_copy-kept.new.copied copy copy.round copy.text
    c.keep_copy-kept.ensures.some (refl, refl))
    (λ h s. subst (λ (id : List ℕ). IsTableAt new.world id copy.text) (sym c.in_ok-copy-in-Whole.ensures.same)
    (c.in_ok-copy-in-Whole.ensures.table new.world (ends h).1.1)))
    (subst (λ (o : Option (Slices Tally)). AsksIfAny new IsTalliedIn o) (sym c.take.ensures.after) tt)

pub returns-then-not-is_own-clause-waits : goal.returns-then-not-is_own-clause-waits
returns-then-not-is_own-clause-waits g c = λ _ h.
    let mid = g.S.ReadStore.content c.under_way.new.store in
    let new = g.S.ReadStore.content c.go_on.new.store in
    let tables = c.keep_copy-kept.new.copied in
    let ends = sliced_whole TakesAnswer BeginsTally mid new c.in_ok-tabling.tabling _ c.go_on.ensures.kept
    c.in_ok-tabling.ensures.tallied c.in_ok-tabling-2.ensures.sliced c.in-Whole.made c.in-Whole.taken c.in-Whole.is
    h in
    let other : c.in-Whole.made ≢ c.args.round.now = search rules in (
      ends.0,
      subst (λ (o : Option (Slices Tally)). TablesOn c.args.copies.now.tabling c.args.round.now o tables)
          (sym c.take.ensures.after)
          (other_ended c.args.copies.now.tabling c.args.round.now c.in_ok-tabling.tabling c.in-Whole.made
          (λ (round : List ℕ). (copy : TableCopy) × IsKept tables copy × (copy.round ≡ round))
          (subst (λ (o : Option (Slices Tally)). AreUnderWay o c.args.round.now c.in_ok-tabling.tabling)
          c.take.ensures.value c.in_ok-tabling.ensures.is) ends.1.0 other
          (c.in_ok-copy-in-Whole.copy, c.keep_copy-kept.ensures.kept c.if-kept.true, c.in_ok-copy-in-Whole.ensures.same)),
    )
