use Rattle.std.proofs.Common.{rules, inr, ◌≡◌, true, false, sym, subst, ◌∙◌, to_z, of_z, w64}
use Rattle.std.proofs.lemmas.Int.{to_z-of_z}
use Rattle.sqlite.specs.Given.{Advances}
use Rattle.hall_sql.specs.Scan.{IsAbove}
use Rattle.hall_sql.proofs.ScanCauseLemmas.{unfit_unread}
use Rattle.hall_sql.proofs.scan.next_id.Goals as goal

pub returns-in-Err-get-clause-cause : goal.returns-in-Err-get-clause-cause
returns-in-Err-get-clause-cause g c clean failed =
    let moves = subst (Advances g.S.Store c.args.rows.now.conn.now c.advance.new.self.conn.now) (sym c.in-Some.ensures)
    (c.in_default.ensures.ok clean) in
    inr (
      c.in_default.ensures.same clean,
      c.in-Some.row.now,
      moves,
      unfit_unread c.args.last c.in-Some.row.now (c.in-Err-get.ensures.kind (c.fault_of-in-Err-get.ensures failed)),
    )

pub returns-else-is_above-clause-cause : goal.returns-else-is_above-clause-cause
returns-else-is_above-clause-cause g c clean failed =
    let moves = subst (Advances g.S.Store c.args.rows.now.conn.now c.advance.new.self.conn.now) (sym c.in-Some.ensures)
    (c.in_default.ensures.ok clean) in
    let read = c.in-Ok.ensures.ok in
    inr (
      c.in_default.ensures.same clean,
      c.in-Some.row.now,
      moves,
      λ id is above.
          let same : id ≡ c.in-Ok.id = cc in
          let whole : to_z w64 (of_z w64 c.in-Ok.id) ≡ c.in-Ok.id = search (rules, to_z-of_z) in
          let up = c.is_above.ensures.only (subst (IsAbove c.args.last) (same ∙ sym whole) above) in
          let both : false ≡ true = sym c.if-is_above.false ∙ up in cc,
    )
