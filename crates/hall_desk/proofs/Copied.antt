-- The copies that a desk keeps stay what its store's world says.
use Rattle.std.proofs.Common.{◌≡◌, ◌∙◌, ◌⊎◌, ◌+◌, ◌++◌, ℕ, Bool, List, [], ◌∷◌, Option, Some, None, Contains}
use Rattle.std.proofs.Common.{inl, inr, refl, sym, ap, subst}
use Rattle.std.specs.Prelude.{IfSome, IsTrue, OnErr, OnOk, Result, Ok, Err, true, false, if◌then◌else◌}
use Rattle.std.specs.FinMap.{get}
use Rattle.std.specs.List.{filter}
use Rattle.std.proofs.lemmas.List.Elements.{Contains-push_cases}
use Rattle.hall_policy.specs.World.{World}
use Rattle.hall_policy.specs.declared.record.Entry.{Entry}
use Rattle.hall_policy.specs.declared.record.ProtestRow.{ProtestRow}
use Rattle.hall_policy.specs.declared.record.ProtestKey.{ProtestKey}
use Rattle.hall_policy.specs.declared.record.Ruling.{Ruling}
use Rattle.hall_store.specs.Change.{CanMake, changed, with_ruling}
use Rattle.hall_store.specs.Store.{Asks, Content, Kept, Leads, MakesInWorld}
use Rattle.hall_store.specs.declared.change.Change.{Change}
use Rattle.hall_store.specs.declared.change.Change.TheVariants as change
use Rattle.hall_store.proofs.Knowing.{carried}
use Rattle.hall_store.proofs.Tests.{filter-Contains}
use Rattle.hall_desk.specs.Copies.{AreCopied}
use Rattle.hall_desk.specs.Listings.{AreLinesUpTo, AreListedIn, AreListings, leaves_listing}
use Rattle.hall_desk.specs.RoundCopy.{IsShownAt, IsRoundCopied, LeavesRounds}
use Rattle.hall_desk.specs.Shown.{ShowsPuzzles}
use Rattle.hall_desk.specs.Slices.{AsksIfAny, kept_where}
use Rattle.hall_desk.specs.TableCopy.{AreTablesCopied, IsKept, leaves_table}
use Rattle.hall_desk.specs.Tabling.{IsTalliedIn}
use Rattle.hall_desk.specs.Totals.{IsTableAt}
use Rattle.hall_desk.specs.declared.copies.Copies.{Copies}
use Rattle.hall_desk.specs.declared.reply.ShownPuzzle.{ShownPuzzle}
use Rattle.hall_desk.specs.declared.reply.ShownRound.{ShownRound}
use Rattle.hall_desk.specs.declared.round_copy.RoundCopy.{RoundCopy}
use Rattle.hall_desk.specs.declared.table_copy.TableCopy.{TableCopy}
use Rattle.hall_desk.specs.declared.listing.Listings.{Listings}
use Rattle.hall_desk.specs.declared.slices.Slices.{Slices}
use Rattle.hall_score.specs.declared.tally.Tally.{Tally}
use Rattle.hall_desk.proofs.TablesLeft.{lines_left, listed_left, same_at, table_left, tally_left}

-- ---- over a call that leaves the world
pub tables_kept : (old new : Content) (copied : Option (List TableCopy)) → Kept old new → AreTablesCopied old copied
    → AreTablesCopied new copied
tables_kept old new copied kept was copy there =
    carried (λ w. IsTableAt w copy.round copy.text) old new kept (was copy there)

pub any_kept : {X : Type 0} (Holds : World → X → Type 0) (old new : Content) (any : Option X) → Kept old new
    → AsksIfAny old Holds any → AsksIfAny new Holds any
any_kept Holds old new None kept was = tt
any_kept Holds old new (Some x) kept was = carried (λ w. Holds w x) old new kept was

-- and is so now
pub if_any : {X : Type 0} (content : Content) (Holds : World → X → Type 0) (any : Option X)
    → AsksIfAny content Holds any → content.honest → content.serves → IfSome any (Holds content.world)
if_any content Holds None was h s = tt
if_any content Holds (Some x) was h s = was h s

pub listings_kept : (old new : Content) (listings : Listings) → Kept old new → AreListings old listings
    → AreListings new listings
listings_kept old new listings kept was = record {
  listing = any_kept AreLinesUpTo old new listings.listing kept was.listing;
  listed = any_kept AreListedIn old new listings.listed kept was.listed;
}

pub copies_kept : (old new : Content) (copies : Copies) → Kept old new → AreCopied old copies → AreCopied new copies
copies_kept old new copies kept was =
    record {
      tables = tables_kept old new copies.tables kept was.tables;
      round = any_kept (λ w copy. IsShownAt w copy.round copy.shown) old new copies.round kept was.round;
      tabling = any_kept IsTalliedIn old new copies.tabling kept was.tabling;
      listings = listings_kept old new copies.listings kept was.listings;
    }

-- with other tables, and another tally
pub copies_on : (old new : Content) (copies : Copies) (tables : Option (List TableCopy))
    (tabling : Option (Slices Tally))
    → Kept old new → AreCopied old copies → AreTablesCopied new tables → AsksIfAny new IsTalliedIn tabling
    → AreCopied new (record copies { tables = tables; tabling = tabling })
copies_on old new copies tables tabling kept was are is =
    let left : AreCopied new copies = copies_kept old new copies kept was in
    record { tables = are; round = left.round; tabling = is; listings = left.listings }

-- ---- copies of tables
-- those that pass a test
pub kept_filtered : (passes : TableCopy → Bool) (copied : Option (List TableCopy)) (copies rows : List TableCopy)
    → copied ≡ Some copies → rows ≡ filter passes copies → (copy : TableCopy) → IsKept (Some rows) copy
    → IsKept copied copy × IsTrue (passes copy)
kept_filtered passes copied copies rows is made copy (others, at, among) =
    let one : rows ≡ others = cc in
    let passed = filter-Contains passes copies copy (subst (λ (l : List TableCopy). Contains l copy) (sym one ∙ made)
    among) in
    ((copies, is, passed.0), passed.1)

-- one more, where there was memory for it
pub kept_pushed : {R E : Type 0} (result : Result R E) (copied : Option (List TableCopy))
    (copies rows : List TableCopy) (added : TableCopy)
    → ((copy : TableCopy) → Contains copies copy → IsKept copied copy) → OnOk result (rows ≡ copies ++ added ∷ [])
    → OnErr result (rows ≡ copies) → (copy : TableCopy) → IsKept (Some rows) copy
    → IsKept copied copy ⊎ (copy ≡ added)
kept_pushed (Ok done) copied copies rows added were more same copy (others, at, among) =
    let one : rows ≡ others = cc in
    elim (Contains-push_cases copies added copy (subst (λ (l : List TableCopy). Contains l copy) (sym one ∙ more)
    among)) [
      | inl there ↦ inl (were copy there)
      | inr itself ↦ inr (sym itself)
    ]
kept_pushed (Err fault) copied copies rows added were more same copy (others, at, among) =
    let one : rows ≡ others = cc in
    inl (were copy (subst (λ (l : List TableCopy). Contains l copy) (sym one ∙ same) among))

-- one more, of this round with this text
pub kept_told : (before after : Option (List TableCopy)) (added : TableCopy) (round text : List ℕ)
    → ((copy : TableCopy) → IsKept after copy → IsKept before copy ⊎ (copy ≡ added))
    → (added.round ≡ round) × (added.text ≡ text) → (copy : TableCopy) → IsKept after copy
    → IsKept before copy ⊎ ((copy.round ≡ round) × (copy.text ≡ text))
kept_told before after added round text more told copy there = elim (more copy there) [
  | inl kept ↦ inl kept
  | inr itself ↦ inr (
    ap (λ (c : TableCopy). c.round) itself ∙ told.0,
    ap (λ (c : TableCopy). c.text) itself ∙ told.1,
  )
]

-- so each text is its round's table, where this one is
pub tables_more : (content : Content) (before after : Option (List TableCopy)) (round text : List ℕ)
    → AreTablesCopied content before
    → ((copy : TableCopy) → IsKept after copy → IsKept before copy ⊎ ((copy.round ≡ round) × (copy.text ≡ text)))
    → Asks content (λ world. IsTableAt world round text) → AreTablesCopied content after
tables_more content before after round text were more told copy there = elim (more copy there) [
  | inl kept ↦ were copy kept
  | inr (same, alike) ↦ λ h s. subst (λ (t : List ℕ). IsTableAt content.world copy.round t) (sym alike)
      (subst (λ (r : List ℕ). IsTableAt content.world r text) (sym same) (told h s))
]

-- the text of a copy is the table of its round
pub kept_table : (content : Content) (copied : Option (List TableCopy)) (copy : TableCopy) (round text : List ℕ)
    → AreTablesCopied content copied → IsKept copied copy → copy.round ≡ round → copy.text ≡ text
    → Asks content (λ world. IsTableAt world round text)
kept_table content copied copy round text are there same alike h s =
    subst (λ (t : List ℕ). IsTableAt content.world round t) alike
    (subst (λ (r : List ℕ). IsTableAt content.world r copy.text) same (are copy there h s))

-- ---- over a change of people, answers or protests
-- two worlds with the same rounds and puzzles
module _ (world other : World) (rounds : other.rounds ≡ world.rounds) (places : other.places ≡ world.places)
    (testers : other.testers ≡ world.testers) (puzzles : other.puzzles ≡ world.puzzles) where
  puzzles_alike : (number : ℕ) (entries : List Entry) (shown : List ShownPuzzle)
      → ShowsPuzzles world number entries shown → ShowsPuzzles other number entries shown
  puzzles_alike number [] [] shows = tt
  puzzles_alike number [] (line ∷ shown) shows = absurd shows
  puzzles_alike number (entry ∷ entries) [] shows = absurd shows
  puzzles_alike number (entry ∷ entries) (line ∷ shown) shows = (
    record {
      row = shows.0.row;
      kept = ap (λ kept. get kept entry.puzzle) puzzles ∙ shows.0.kept;
      number = shows.0.number;
      points = shows.0.points;
      text = shows.0.text;
    },
    puzzles_alike (number + 1) entries shown shows.1,
  )

  shown_alike : (id : List ℕ) (shown : ShownRound) → IsShownAt world id shown → IsShownAt other id shown
  shown_alike id shown (row, at, shows) = (
    row,
    same_at world other rounds places testers id row at,
    record {
      bonus = shows.bonus;
      id = shows.id;
      minutes = shows.minutes;
      mode = shows.mode;
      penalty = shows.penalty;
      protest_minutes = shows.protest_minutes;
      puzzles = puzzles_alike 1 row.puzzles shown.puzzles shows.puzzles;
      start = shows.start;
      title = shows.title;
    },
  )

ruled_alike : (world : World) (key : ProtestKey) (ruling : Ruling) (found : Option ProtestRow) (id : List ℕ)
    (shown : ShownRound) →
    IsShownAt world id shown → IsShownAt (with_ruling world key ruling found) id shown
ruled_alike world key ruling None id shown is = is
ruled_alike world key ruling (Some row) id shown is = shown_alike world (with_ruling world key ruling (Some row)) refl
    refl refl refl id shown is

changed_alike : (made : Change) (world : World) (id : List ℕ) (shown : ShownRound) → LeavesRounds made
    → IsShownAt world id shown → IsShownAt (changed made world) id shown
changed_alike change.Nothing world id shown leaves is = is
changed_alike (change.Import people) world id shown leaves is = shown_alike world (changed (change.Import people) world)
    refl refl refl refl id shown is
changed_alike (change.PutPuzzle row) world id shown leaves is = absurd leaves
changed_alike (change.SetState key state) world id shown leaves is = absurd leaves
changed_alike (change.PutRound row) world id shown leaves is = absurd leaves
changed_alike (change.SetRoundFlag round flag) world id shown leaves is = absurd leaves
changed_alike (change.AddAnswer row) world id shown leaves is = shown_alike world (changed (change.AddAnswer row) world)
    refl refl refl refl id shown is
changed_alike (change.AddAnswers rows) world id shown leaves is = shown_alike world
    (changed (change.AddAnswers rows) world) refl refl refl refl id shown is
changed_alike (change.AddProtest row) world id shown leaves is = shown_alike world
    (changed (change.AddProtest row) world) refl refl refl refl id shown is
changed_alike (change.RuleProtest key ruling) world id shown leaves is = ruled_alike world key ruling
    (get world.protests key) id shown is

-- what a change leaves true holds whether it was made or refused
made_alike : {R E : Type 0} (made : Change) (old new : Content) (result : Result R E) (Holds : World → Type 0)
    → (old.honest → old.serves → Holds old.world → Holds (changed made old.world)) → Leads old new
    → MakesInWorld made old new result → Asks old Holds → Asks new Holds
made_alike made old new (Ok done) Holds leaves leads did was h s =
    let before = leads.honest h in
    let served = leads.serves h s in
    subst Holds (sym (did h).1) (leaves before served (was before served))
made_alike made old new (Err fault) Holds leaves leads did was h s =
    subst Holds (sym (did h s)) (was (leads.honest h) (leads.serves h s))

-- what is left of the copy of a round, once the change was made or refused
left_copied : {R E : Type 0} (made : Change) (old new : Content) (result : Result R E) (copied : Option RoundCopy)
    → LeavesRounds made → Leads old new →
    MakesInWorld made old new result → IsRoundCopied old copied → IsRoundCopied new copied
left_copied made old new result None leaves leads did was = tt
left_copied made old new result (Some copy) leaves leads did was =
    made_alike made old new result (λ w. IsShownAt w copy.round copy.shown)
    (λ h s. changed_alike made old.world copy.round copy.shown leaves) leads did was

round_left : {S R E : Type 0} (content : S → Content) (old new : S) (made : Change) (result : Result R E)
    (copied left : Option RoundCopy) →
    Leads (content old) (content new) → (made ≡ change.Nothing) ⊎ MakesInWorld made (content old) (content new) result
    → (made ≡ change.Nothing → new ≡ old) →
    (LeavesRounds made × (left ≡ copied)) ⊎ (left ≡ None) → IsRoundCopied (content old) copied
    → IsRoundCopied (content new) left
round_left content old new made result copied left leads did nothing (inr none) was =
    subst (λ (kept : Option RoundCopy). IsRoundCopied (content new) kept) (sym none) tt
round_left content old new made result copied left leads (inl idle) nothing (inl (leaves, same)) was =
    subst (λ (kept : Option RoundCopy). IsRoundCopied (content new) kept) (sym same)
    (subst (λ s. IsRoundCopied (content s) copied) (sym (nothing idle)) was)
round_left content old new made result copied left leads (inr did) nothing (inl (leaves, same)) was =
    subst (λ (kept : Option RoundCopy). IsRoundCopied (content new) kept) (sym same)
    (left_copied made (content old) (content new) result copied leaves leads did was)

-- each table's copy that is left was there, and the change leaves it
tables_left : {S R E : Type 0} (content : S → Content) (old new : S) (made : Change) (result : Result R E)
    (copied left : Option (List TableCopy)) → Asks (content old) (CanMake made) → Leads (content old) (content new)
    → (made ≡ change.Nothing) ⊎ MakesInWorld made (content old) (content new) result
    → (made ≡ change.Nothing → new ≡ old)
    → ((copy : TableCopy) → IsKept left copy → IsKept copied copy × IsTrue (leaves_table made copy.round))
    → AreTablesCopied (content old) copied → AreTablesCopied (content new) left
tables_left content old new made result copied left can leads (inl idle) nothing stays was copy there =
    subst (λ s. Asks (content s) (λ w. IsTableAt w copy.round copy.text)) (sym (nothing idle))
    (was copy (stays copy there).0)
tables_left content old new made result copied left can leads (inr did) nothing stays was copy there =
    made_alike made (content old) (content new) result (λ w. IsTableAt w copy.round copy.text)
    (λ h s. table_left copy.round copy.text made (content old).world (stays copy there).1 (can h s)) leads did
    (was copy (stays copy there).0)

-- what there is stays where the change leaves it
any_left : {S R E X : Type 0} (Holds : World → X → Type 0) (content : S → Content) (old new : S) (made : Change)
    (result : Result R E) (leaves : X → Bool) (was left : Option X) → Asks (content old) (CanMake made)
    → Leads (content old) (content new)
    → (made ≡ change.Nothing) ⊎ MakesInWorld made (content old) (content new) result
    → (made ≡ change.Nothing → new ≡ old)
    → ((x : X) (world : World) → leaves x ≡ true → CanMake made world → Holds world x
    → Holds (changed made world) x)
    → left ≡ kept_where leaves was → AsksIfAny (content old) Holds was → AsksIfAny (content new) Holds left
any_left Holds content old new made result leaves None left can leads did nothing stays same was =
    subst (AsksIfAny (content new) Holds) (sym same) tt
any_left {S} {R} {E} {X} Holds content old new made result leaves (Some x) left can leads did nothing stays same was =
    subst (AsksIfAny (content new) Holds) (sym same) (where_it (leaves x) refl did)
  where
    where_it : (b : Bool) → leaves x ≡ b → (made ≡ change.Nothing)
        ⊎ MakesInWorld made (content old) (content new) result
        → AsksIfAny (content new) Holds (if b then Some x else None)
    where_it false spoils did = tt
    where_it true passes (inl idle) = subst (λ s. Asks (content s) (λ w. Holds w x)) (sym (nothing idle)) was
    where_it true passes (inr did) = made_alike made (content old) (content new) result (λ w. Holds w x)
        (λ h s. stays x (content old).world passes (can h s)) leads did was

-- so each copy that is left is what the store's world says, and the tally is of it, as the listings are
pub copies_left : {S R E : Type 0} (content : S → Content) (old new : S) (made : Change) (result : Result R E)
    (copies taken left : Copies) → taken ≡ copies → Asks (content old) (CanMake made)
    → Leads (content old) (content new)
    → (made ≡ change.Nothing) ⊎ MakesInWorld made (content old) (content new) result
    → (made ≡ change.Nothing → new ≡ old)
    → ((copy : TableCopy) → IsKept left.tables copy
    → IsKept taken.tables copy × IsTrue (leaves_table made copy.round))
    → (LeavesRounds made × (left.round ≡ taken.round)) ⊎ (left.round ≡ None)
    → left.tabling ≡ kept_where (λ tabling. leaves_table made tabling.round) taken.tabling
    → left.listings.listing ≡ kept_where (λ listing. leaves_listing made listing.round) taken.listings.listing
    → left.listings.listed ≡ kept_where (λ listed. leaves_listing made listed.round) taken.listings.listed
    → AreCopied (content old) copies → AreCopied (content new) left
copies_left content old new made result copies taken left same can leads did nothing stays rounds tally lines listed
    was =
    let were : AreCopied (content old) taken = subst (AreCopied (content old)) (sym same) was in
    record {
      tables = tables_left content old new made result taken.tables left.tables can leads did nothing stays were.tables;
      round = round_left content old new made result taken.round left.round leads did nothing rounds were.round;
      tabling = any_left IsTalliedIn content old new made result (λ tabling. leaves_table made tabling.round)
          taken.tabling left.tabling can leads did nothing (λ tabling. tally_left tabling made) tally were.tabling;
      listings = record {
        listing = any_left AreLinesUpTo content old new made result (λ listing. leaves_listing made listing.round)
            taken.listings.listing left.listings.listing can leads did nothing (λ listing. lines_left listing made)
            lines were.listings.listing;
        listed = any_left AreListedIn content old new made result (λ listed. leaves_listing made listed.round)
            taken.listings.listed left.listings.listed can leads did nothing (λ one. listed_left one made) listed
            were.listings.listed;
      };
    }
