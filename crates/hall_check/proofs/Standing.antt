-- What stands in a map of rows, and in the rows.
use Rattle.std.proofs.Common.{◌≡◌, ◌≢◌, ◌↔◌, ◌&&◌, ◌||◌, ℕ, Bool, true, false, not, List, Option, Some, None, IsTrue}
use Rattle.std.proofs.Common.{Contains, refl, sym, ap, ◌∙◌, subst}
use Rattle.std.proofs.lemmas.Map.Entries.{place_from_lookup, lookup_from_place}
use Rattle.std.proofs.lemmas.Map.Keys.{IsDistinct-from_sorted}
use Rattle.std.specs.BTreeMap.{is_at}
use Rattle.std.specs.Cmp.{IsTotalOrder, eq_by_cmp_equiv}
use Rattle.std.specs.FinMap.{FinMap, IsAntisymmetric, get, entries, entries_sorted}
use Rattle.std.specs.List.Sorted.{IsStrictlySortedBy}
use Rattle.std.specs.Map.{keys_of}
use Rattle.std.specs.declared.cmp.Ordering.{Ordering}
use Rattle.hall_policy.specs.Rules.{ListsEntry, StandsReleased}
use Rattle.hall_policy.specs.World.{same_text}
use Rattle.hall_policy.specs.declared.record.Entry.{Entry}
use Rattle.hall_policy.specs.declared.record.PlaceKey.{PlaceKey}
use Rattle.hall_policy.proofs.Maps.{get_is_lookup, strictly_sorted}
use Rattle.hall_policy.proofs.Orders.{place_total, same_place_keys}
use Rattle.hall_policy.proofs.Texts.{text_decides, and_first, and_second}
use Rattle.hall_store.proofs.Ranges.{equal_from_test}
use Rattle.hall_store.proofs.Tests.{contained, placed, not_true, and_both, or_first, or_second}
use Rattle.hall_desk.specs.Lookups.{IsReleasedRound}
use Rattle.hall_policy.specs.declared.record.Person.{Person}
use Rattle.hall_desk.specs.Sane.{MayTakePart}
use Rattle.hall_check.specs.Sentences.{IsInAnother, IsInNoOther, IsAuthorIn}
use Rattle.hall_check.specs.Whole.{IsInOrder, world_of_whole}
use Rattle.hall_check.specs.declared.whole.Whole.{Whole}

module _ {K X : Type 0} {R : K → K → Ordering} (o : IsTotalOrder R) where
  -- what stands among a map's entries is what it has at the key
  pub get_of_entry : (m : FinMap R X) (k : K) (v : X) → Contains (entries m) (k, v) → get m k ≡ Some v
  get_of_entry m k v among =
      let at = placed (entries m) (k, v) among in
      let sorted : IsStrictlySortedBy R (keys_of (entries m)) = strictly_sorted R (entries m) (entries_sorted m) in
      get_is_lookup m k ∙ lookup_from_place (eq_by_cmp_equiv o) (entries m) at.0 k v
      (IsDistinct-from_sorted R (keys_of (entries m)) sorted) at.1

  -- what a map has at a key stands among its entries
  pub entry_of_get : IsAntisymmetric R → (m : FinMap R X) (k : K) (v : X) → get m k ≡ Some v
      → Contains (entries m) (k, v)
  entry_of_get same m k v found =
      let at = place_from_lookup (is_at (R k)) (entries m) v (sym (get_is_lookup m k) ∙ found) in
      let own : at.1 ≡ k = sym (same k at.1 (equal_from_test (R k at.1) at.3)) in
      subst (λ (q : K). Contains (entries m) (q, v)) own (contained (entries m) (at.1, v) at.0 at.2)

off : (b : Bool) → not b ≡ true → b ≡ false
off true e = let no : false ≡ true = e in absurd (cc)
off false e = refl

only_unit : (o : Option (Unit {0})) → o ≢ None → o ≡ Some tt
only_unit None there = absurd (there refl)
only_unit (Some tt) there = refl

module _ (whole : Whole) (ordered : IsInOrder whole) where
  -- the puzzle of a place in a released round is in another one, or in no other
  pub no_other : (place : PlaceKey × Entry) (told : Bool) → IsTrue told ↔ IsInAnother whole place
      → IsReleasedRound (world_of_whole whole) place.0.round → IsTrue (not told)
      ↔ IsInNoOther (world_of_whole whole) place
  no_other place told is released = (
    (λ t _ other stands. elim (same_text other place.0.round) as
        (λ b. same_text other place.0.round ≡ b → other ≡ place.0.round) [
          | true ↦ λ e. (text_decides other place.0.round).0 e
          | false ↦ λ e.
              let key : PlaceKey = record { round = other; number = stands.4.0 } in
              let among : Contains whole.places.items (key, stands.1) = subst (λ es. Contains es (key, stands.1))
              ordered.places (entry_of_get place_total same_place_keys (world_of_whole whole).places key stands.1
              stands.4.1) in
              let differ : other ≢ place.0.round = λ same. let no : false ≡ true = sym e
              ∙ (text_decides other place.0.round).1 same in cc in
              let on : IsTrue told = is.1 (
                (key, stands.1),
                among,
                (stands.5, differ, (stands.0, stands.2, stands.3)),
              ) in
              let off : not told ≡ true = t in
              absurd (let no : not true ≡ true = subst (λ b. not b ≡ true) on off in cc)
        ] refl),
    (λ alone. elim told as (λ b. told ≡ b → not b ≡ true) [
      | true ↦ λ e.
          let there = is.0 e in
          let other : PlaceKey × Entry = there.0 in
          let at = get_of_entry place_total (world_of_whole whole).places other.0 other.1
          (subst (λ es. Contains es other) (sym ordered.places) there.1) in
          let stands : StandsReleased (world_of_whole whole) place.1.puzzle other.0.round =
          (there.2.2.0, other.1, there.2.2.1, there.2.2.2, (other.0.number, at), there.2.0) in
          absurd (there.2.1 (alone released other.0.round stands))
      | false ↦ λ e. refl
    ] refl),
  )

  -- a round has a puzzle by the author where one of the places is one
  pub author_in : (author round : List ℕ) → IsAuthorIn whole.places.items author round → (entry : Entry)
      × ListsEntry (world_of_whole whole) round entry × (entry.puzzle.author ≡ author)
  author_in author round (place, among, (own, here)) =
      let at = get_of_entry place_total (world_of_whole whole).places place.0 place.1
      (subst (λ es. Contains es place) (sym ordered.places) among) in (
        place.1,
        (
          place.0.number,
          subst (λ (id : List ℕ). get (world_of_whole whole).places
              (record { round = id; number = place.0.number }) ≡ Some place.1) here at,
        ),
        own,
      )

  pub by_author : (author round : List ℕ) (entry : Entry) → ListsEntry (world_of_whole whole) round entry
      → entry.puzzle.author ≡ author → IsAuthorIn whole.places.items author round
  by_author author round entry lists own =
      let key : PlaceKey = record { round = round; number = lists.0 } in (
        (key, entry),
        subst (λ es. Contains es (key, entry)) ordered.places
            (entry_of_get place_total same_place_keys (world_of_whole whole).places key entry lists.1),
        (own, refl),
      )

  -- who is an entrant and has no hand in the round may take part in it
  pub takes_part : (name round : List ℕ) (person : Person) (author tester : Bool)
      → get (world_of_whole whole).people name ≡ Some person → IsTrue author ↔ IsAuthorIn whole.places.items name round
      →
      IsTrue tester ↔ (get (world_of_whole whole).testers (record { round = round; name = name }) ≢ None)
      → IsTrue (person.roles.entrant && not (author || tester)) ↔ MayTakePart (world_of_whole whole) name round
  takes_part name round person author tester there is tests = (
    (λ t.
        let free : not (author || tester) ≡ true = and_second person.roles.entrant (not (author || tester)) t in
        let none : (author || tester) ≡ false = off (author || tester) free in (
          person,
          there,
          and_first person.roles.entrant (not (author || tester)) t,
          (λ entry lists own. let on = is.1 (by_author name round entry lists own) in let no : true ≡ false = sym
              (or_first author tester on) ∙ none in absurd (cc)),
          (λ one. let on = tests.1 (λ gone. let no : Some tt ≡ None = sym one ∙ gone in cc) in let no : true ≡ false =
              sym (or_second author tester on) ∙ none in absurd (cc)),
        )),
    (λ (other, kept, entrant, writes, no_tester).
        let both : Some person ≡ Some other = sym there ∙ kept in
        let same : other ≡ person = cc in
        let no_author : author ≡ false = not_true author (λ on. let at = author_in name round (is.0 on) in writes at.0
        at.1 at.2) in
        let none : tester ≡ false = not_true tester (λ on. no_tester
        (only_unit (get (world_of_whole whole).testers (record { round = round; name = name })) (tests.0 on))) in
        and_both person.roles.entrant (not (author || tester))
        (ap (λ (p : Person). p.roles.entrant) (sym same) ∙ entrant)
        (ap (λ b. not (b || tester)) no_author ∙ ap not none)),
  )
