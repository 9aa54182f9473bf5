-- What the copies that a desk keeps say of its store.
use Rattle.hall_store.specs.Store.{Content}
use Rattle.hall_desk.specs.Listings.{AreListings}
use Rattle.hall_desk.specs.RoundCopy.{IsRoundCopied}
use Rattle.hall_desk.specs.Slices.{AsksIfAny}
use Rattle.hall_desk.specs.TableCopy.{AreTablesCopied}
use Rattle.hall_desk.specs.Tabling.{IsTalliedIn}
use Rattle.hall_desk.specs.declared.copies.Copies.{Copies}

-- each copy is what the store's world says, and the tally of the table that is being made is of it, as the listings are
pub record AreCopied (content : Content) (copies : Copies) : Type 0 where
  pub tables : AreTablesCopied content copies.tables
  pub round : IsRoundCopied content copies.round
  pub tabling : AsksIfAny content IsTalliedIn copies.tabling
  pub listings : AreListings content copies.listings
