-- How many protests an entrant made, and whether one of a round is open.
use Rattle.std.proofs.Common.{◌≡◌, ◌↔◌, ◌&&◌, ℕ, List, length, Bool, true, IsTrue, Option, Some, None, is_none}
use Rattle.std.proofs.Common.{Contains, refl, sym, subst, ap, ◌∙◌}
use Rattle.std.proofs.lemmas.List.Sums.{length-filter}
use Rattle.std.specs.FinMap.{values}
use Rattle.sqlite.specs.Tree.{Trees}
use Rattle.sqlite_trees.proofs.ListLemmas.{filter_same, all_of}
use Rattle.hall_policy.specs.Rules.{protests_made}
use Rattle.hall_policy.specs.World.{World, same_text}
use Rattle.hall_policy.specs.declared.record.ProtestKey.{ProtestKey}
use Rattle.hall_policy.specs.declared.record.ProtestRow.{ProtestRow}
use Rattle.hall_policy.specs.declared.record.Ruling.{Ruling}
use Rattle.hall_policy.proofs.Maps.{value_of_get}
use Rattle.hall_policy.proofs.Orders.{protest_total, same_protest_keys}
use Rattle.hall_store.proofs.Tests.{Contains-filter, filter-Contains, and_both, and_turned}
use Rattle.hall_policy.proofs.Texts.{text_decides, and_first, and_second}
use Rattle.hall_store.specs.Store.{IsProtestOpen, protests_of, protests_in, is_protest_of, is_protest_in}
use Rattle.hall_sql.specs.Rows.{protest_of_row, world_of}
use Rattle.hall_sql.proofs.AmongLemmas.{kept_value}
use Rattle.hall_sql.proofs.UniqueLemmas.{kept_keyed}

-- the entrant's protests in the round are as many as the rules count
pub protests_counted : (world : World) (entrant round : List ℕ)
    → length (protests_of world entrant round) ≡ protests_made world entrant round
protests_counted world entrant round =
    let theirs : ProtestRow → Bool = λ row. same_text row.key.entrant entrant && same_text row.key.round round in
    let rows = values world.protests in
    ap length (filter_same (is_protest_of entrant round) theirs rows
    (all_of (λ row. is_protest_of entrant round row ≡ theirs row)
    (λ row. and_turned (same_text row.key.round round) (same_text row.key.entrant entrant)) rows))
    ∙ length-filter theirs rows

-- ---- open protests

-- the protest is one of the round, and open
abbrev is_open_in : List ℕ → ProtestRow → Bool
is_open_in round row = same_text row.key.round round && is_none row.ruling

module _ (db : Trees) (round : List ℕ) where
  abbrev protests : List ProtestRow
  protests = values (world_of db).protests

  none_is : (o : Option Ruling) → is_none o ≡ true → o ≡ None
  none_is None h = refl
  none_is (Some r) h = absurd cc

  passes_open : (row : ProtestRow) → Contains protests row → is_open_in round row ≡ true
      → IsProtestOpen (world_of db) round
  passes_open row among passes = (
    row.key,
    row,
    (text_decides row.key.round round).0 (and_first _ _ passes),
    kept_value protest_total same_protest_keys (λ (row : ProtestRow). row.key) protest_of_row (db 12) row among,
    none_is row.ruling (and_second (same_text row.key.round round) _ passes),
  )

  open_passes : (found : IsProtestOpen (world_of db) round) → Contains protests found.1
      × (is_open_in round found.1 ≡ true)
  open_passes found =
      let row = found.1 in
      let key = kept_keyed protest_total same_protest_keys (λ (row : ProtestRow). row.key) protest_of_row (db 12)
      found.0 row found.3 in (
        value_of_get (world_of db).protests found.0 row found.3,
        and_both _ _ ((text_decides row.key.round round).1 (ap (λ (k : ProtestKey). k.round) key ∙ found.2))
            (ap is_none found.4),
      )

  -- so the protests of the round tell whether one is open
  pub open_told : (found : Bool) (rows : List ProtestRow) → rows ≡ protests_in (world_of db) round
      → IsTrue found ↔ ((row : ProtestRow) × Contains rows row × (row.ruling ≡ None)) → IsTrue found
      ↔ IsProtestOpen (world_of db) round
  open_told found rows are told = (
    (λ yes.
        let one = told.0 yes in
        let among = filter-Contains (is_protest_in round) protests one.0
        (subst (λ list. Contains list one.0) are one.1) in
        passes_open one.0 among.0 (and_both _ _ among.1 (ap is_none one.2))),
    (λ one.
        let there = open_passes one in
        let among = Contains-filter (is_protest_in round) protests one.1 there.0 (and_first _ _ there.1) in
        told.1 (one.1, subst (λ list. Contains list one.1) (sym are) among, one.4)),
  )
