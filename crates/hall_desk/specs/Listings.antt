-- What the listings of all answers of a round say of the store, which changes leave them, and that they come on.
use Rattle.std.specs.Prelude.{◌≡◌, ℕ, Bool, true, not, List, Option, Some}
use Rattle.std.specs.List.{list_all}
use Rattle.hall_policy.specs.World.{World, same_text}
use Rattle.hall_policy.specs.declared.request.Request.{Request}
use Rattle.hall_store.specs.Store.{Content, is_in}
use Rattle.hall_store.specs.declared.change.Change.{Change}
use Rattle.hall_store.specs.declared.change.Change.TheVariants.{AddAnswer, AddAnswers}
use Rattle.hall_desk.specs.Lines.{AreLinesOf, BeginsLines, IsLineAdded}
use Rattle.hall_desk.specs.Slices.{AreTaken, AsksIfAny, SlicesOn}
use Rattle.hall_desk.specs.Wanted.{AsksListing}
use Rattle.hall_desk.specs.declared.lines.Lines.{Lines}
use Rattle.hall_desk.specs.declared.listing.Listed.{Listed}
use Rattle.hall_desk.specs.declared.listing.Listings.{Listings}
use Rattle.hall_desk.specs.declared.slices.Slices.{Slices}

-- the lines, which began with none, tell of the round's answers by entrants up to the name
abbrev pub AreLinesUpTo : World → Slices Lines → Type 0
AreLinesUpTo = AreTaken IsLineAdded (λ world id. BeginsLines true)

-- the text lists all answers of the round
abbrev pub AreListedIn : World → Listed → Type 0
AreListedIn world listed = AreLinesOf world (is_in listed.round) true listed.text

-- the listing under way, and the finished one, are of the store's world
pub record AreListings (content : Content) (listings : Listings) : Type 0 where
  pub listing : AsksIfAny content AreLinesUpTo listings.listing
  pub listed : AsksIfAny content AreListedIn listings.listed

-- the change adds no answer to the round with this id; no other change is of what a listing of its answers tells
abbrev pub leaves_listing : Change → List ℕ → Bool
leaves_listing (AddAnswer row) id = not (same_text row.key.round id)
leaves_listing (AddAnswers rows) id = list_all (λ row. not (same_text row.key.round id)) rows
leaves_listing _ id = true

-- Who asks for all answers of the round waits for them: the listing under way, or else a new one, has come on; or that
-- under way was of another round and came to its end, and is kept.
abbrev pub ListsOn : Option (Slices Lines) → List ℕ → Option (Slices Lines) → Option Listed → Type 0
ListsOn old id new listed =
    SlicesOn old id new (λ round. (one : Listed) × (listed ≡ Some one) × (one.round ≡ round))

-- the request asks for all answers of a round, and waits for them
abbrev pub WaitsForListing : Content → Request → Listings → Listings → Type 0
WaitsForListing content request old new =
    content.honest → content.serves × (asks : AsksListing content.world request)
    × ListsOn old.listing asks.id new.listing new.listed
