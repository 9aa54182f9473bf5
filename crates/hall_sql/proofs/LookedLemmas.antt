-- What looks at all rows of an answer, one after another.
use Rattle.std.proofs.Common.{◌≡◌, ◌≢◌, ◌↔◌, inl, inr, ℕ, ℤ, List, [], ◌∷◌, ◌++◌, map, Bool, true, false}
use Rattle.std.proofs.Common.{◌||◌, if◌then◌else◌, Option, Some, is_some, IsTrue, Ok, append-nil}
use Rattle.std.proofs.Common.{append_assoc, refl, sym, ap, subst, ◌∙◌, arith}
use Rattle.std.proofs.lemmas.List.{map-append}
use Rattle.std.proofs.lemmas.List.Elements.{Contains-append_left, Contains-append_right, filter-append}
use Rattle.sqlite_trees.specs.declared.store.Store.{Ghosts}
use Rattle.sqlite.specs.declared.types.Value.TheVariants.{Int}
use Rattle.sqlite.specs.Order.{Row}
use Rattle.sqlite_trees.proofs.ListLemmas.{all-append}
use Rattle.sqlite_value.specs.Order.{column}
use Rattle.sqlite.specs.State.{State, HasCleanDisk, Shown}
use Rattle.hall_policy.specs.Sink.{HasTaken}
use Rattle.hall_store.specs.declared.fault.StoreFault.{StoreFault}
use Rattle.hall_sql.specs.BadRows.{AreBadAmong, IsRoomLeft, last_rowid, no_records}
use Rattle.hall_sql.specs.Cause.{FeedFails, IsStoreCause}
use Rattle.hall_sql.specs.Feed.{AreLooked, FedRows, IsAdded, noted}

-- ---- the rows

all_added : (before rows after : List Row) → HasTaken IsAdded before rows after → after ≡ before ++ rows
all_added before [] after same = same ∙ sym (append-nil before)
all_added before (row ∷ rows) after (next, is, more) =
    all_added next rows after more ∙ ap (λ l. l ++ rows) is ∙ append_assoc before (row ∷ []) rows

same_rows : (rows taken : List Row) → map Some rows ≡ map Some taken → rows ≡ taken
same_rows [] [] is = refl
same_rows [] (x ∷ taken) is = absurd cc
same_rows (r ∷ rows) [] is = absurd cc
same_rows (r ∷ rows) (x ∷ taken) is =
    let head : r ≡ x = cc in
    let tail = same_rows rows taken cc in rw (head, tail)

module _ (sql : List ℕ) (params : Row) (old new : State) where
  -- they are the answer
  pub all_looked : {S : Type 0} (g : Ghosts S) (rows : List Row)
      → FedRows {E = StoreFault} g Some IsAdded sql params old new [] (Ok tt) rows → HasCleanDisk new
      → IsTrue new.is_open × IsTrue old.is_open × Shown sql params old new rows
  all_looked g rows fed clean =
      let (opens, all) = fed.2 clean in
      let is = same_rows all.rows fed.0 all.reads ∙ sym (all_added [] fed.0 rows fed.1) in
      (opens, all.served, subst (Shown sql params old new) is all.shown)

  -- none is turned away
  pub only_store : (before after : List Row)
      → FeedFails Some IsAdded (λ _ _. ⊥) sql params old new before after → IsStoreCause old new
  only_store before after (inl cause) = cause
  only_store before after (inr it) = elim it.stops [
    | inl none ↦ absurd (let e = none in cc)
    | inr refused ↦ absurd refused.2
  ]

-- ---- a row more

pub noted_more : (items : List (Row × Unit {0})) (row : Row) → noted (items ++ (row, tt) ∷ []) ≡ noted items ++ row ∷ []
noted_more items row = map-append (λ (it : Row × Unit {0}). it.0) items ((row, tt) ∷ [])

-- of which something is told, or nothing
pub looked_more : {C : Type 0} (Tells : List Row → C → Type 0) (IsUnread : Row → Type 0) (rows : List Row) (row : Row)
    (missed unread : Bool) (before after : C) → AreLooked Tells IsUnread rows missed before
    → (unread ≡ false → Tells rows before → Tells (rows ++ row ∷ []) after) → (unread ≡ true → IsUnread row)
    → AreLooked Tells IsUnread (rows ++ row ∷ []) (missed || unread) after
looked_more Tells IsUnread rows row true unread before after any more is =
    (any.0, Contains-append_left rows (row ∷ []) any.0 any.1, any.2)
looked_more Tells IsUnread rows row false false before after told more is = more refl told
looked_more Tells IsUnread rows row false true before after told more is =
    (row, Contains-append_right rows (row ∷ []) row (0, omega arith, refl), is refl)

module _ {X : Type 0} (read : Row → Option X) (at : ℕ) (rows : List Row) (row : Row) where
  ids_more : (ids : List ℤ) (id : ℤ) (made : Bool) → map Int ids ≡ map (λ r. column r at) (no_records read rows)
      → column row at ≡ Int id → made ≡ is_some (read row)
      → map Int (ids ++ (if made then [] else id ∷ [])) ≡ map (λ r. column r at) (no_records read (rows ++ row ∷ []))
  ids_more ids id true so is made_is = simp (append-nil, filter-append, sym made_is) so
  ids_more ids id false so is made_is =
      simp (map-append, filter-append, sym made_is, is) (ap (λ l. l ++ Int id ∷ []) so)

  room_more : (left : List Row) → IsRoomLeft at (left ++ row ∷ [])
      → IsRoomLeft at left × (column row at ≢ Int last_rowid)
  room_more [] room = (tt, room.0)
  room_more (r ∷ left) room = let more = room_more left room.1 in ((room.0, more.0), more.1)

  pub bad_more : (ids : List ℤ) (full : Bool) (id : ℤ) (made after : Bool) → AreBadAmong read at rows ids full
      → column row at ≡ Int id → made ≡ is_some (read row) → (after ≡ false) ↔ (full ≡ false) × (id ≢ last_rowid)
      → AreBadAmong read at (rows ++ row ∷ []) (ids ++ (if made then [] else id ∷ [])) after
  bad_more ids full id made after so is made_is after_is = (
    ids_more ids id made so.0 is made_is,
    (
      λ none.
          let both = after_is.0 none in
          all-append (λ r. column r at ≢ Int last_rowid) rows (row ∷ []) (so.1.0 both.0)
          (λ last. both.1 (let same : Int id ≡ Int last_rowid = sym is ∙ last in cc), tt),
      λ room.
          let both = room_more rows room in
          after_is.1 (so.1.1 both.0, λ same. both.1 (is ∙ ap Int same)),
    ),
  )
