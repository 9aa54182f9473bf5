-- A round that is kept, of its head, its places and its testers.
use Rattle.std.proofs.Common.{◌≡◌, ◌↔◌, ◌++◌, ◌⊎◌, ◌+◌, ◌-◌, ◌<◌, ◌≤◌, inl, inr, ℕ, zero, suc, List, [], ◌∷◌, length}
use Rattle.std.proofs.Common.{map, Option, Some, None, option_map, slice_get, Contains, refl, sym, ap, ap₂, subst, ◌∙◌}
use Rattle.std.proofs.Common.{arith}
use Rattle.std.proofs.lemmas.Cmp.{ranked, nat_list_eq_equiv}
use Rattle.std.proofs.lemmas.Map.Made.{is_member-Decides, length-le_from_is_member, IsDistinct-from_AllPairs}
use Rattle.std.proofs.lemmas.Option.{slice_get-map}
use Rattle.std.specs.List.{AllByRecursion}
use Rattle.std.specs.List.Sorted.{IsStrictlySortedBy}
use Rattle.std.specs.Ordering.{MatchOrdering}
use Rattle.std.specs.declared.cmp.Ordering.TheVariants.{Less}
use Rattle.std.specs.FinMap.{get}
use Rattle.hall_policy.specs.Lists.{AreEntries, AreTesters}
use Rattle.hall_policy.specs.World.{World, IsTesterOf, entry_at}
use Rattle.hall_policy.specs.declared.record.Entry.{Entry}
use Rattle.hall_policy.specs.declared.record.PlaceKey.{PlaceKey}
use Rattle.hall_policy.specs.declared.record.Round.{Round}
use Rattle.hall_store.specs.Store.{AreTestersOf, HasNoRound, IsRoundKept}
use Rattle.hall_store.proofs.Tests.{contained, placed}
use Rattle.hall_policy.proofs.Texts.{text_decides}
use Rattle.hall_sql.specs.Cause.{AreNoRound}
use Rattle.hall_sql.specs.Places.{is_in_round, number_cmp, ArePlaces, AreListed, AreNumbered}

abbrev Place : Type 0
Place = PlaceKey × Entry

abbrev entry_of : Place → Entry
entry_of place = place.1

last_or : (places : List Place) (last : Place) (i : ℕ) (place : Place) → slice_get (places ++ last ∷ []) i ≡ Some place
    → (slice_get places i ≡ Some place) ⊎ ((i ≡ length places) × (last ≡ place))
last_or [] last zero place e = inr (refl, cc)
last_or [] last (suc i) place e = absurd cc
last_or (first ∷ places) last zero place e = inl e
last_or (first ∷ places) last (suc i) place e = elim (last_or places last i place e)
    [ inl h ↦ inl h | inr h ↦ inr (ap suc h.0, h.1) ]

-- one more place, numbered by how many there are
pub numbered_more : (places : List Place) (last : Place) → AreNumbered places → last.0.number ≡ suc (length places)
    → AreNumbered (places ++ last ∷ [])
numbered_more places last numbered next i place at = elim (last_or places last i place at) [
  | inl h ↦ numbered i place h
  | inr h ↦ ap (λ (p : Place). p.0.number) (sym h.1) ∙ next ∙ ap suc (sym h.0)
]

module _ (world : World) (id : List ℕ) (places : List Place) (are : ArePlaces world (is_in_round id) places) where
  abbrev key_at : ℕ → PlaceKey
  key_at number = record { round = id; number = number }

  -- what stands at a place of the round is among them
  among : (number : ℕ) (entry : Entry) → get world.places (key_at number) ≡ Some entry
      → Contains places (key_at number, entry)
  among number entry is = (are (key_at number, entry)).1 (is, (text_decides id id).1 refl)

  -- and each of them stands at its place of the round
  stands : (place : Place) → Contains places place → get world.places (key_at place.0.number) ≡ Some place.1
  stands place there =
      let fact = (are place).0 there in
      let round = (text_decides place.0.round id).0 fact.1 in
      let own : place.0 ≡ key_at place.0.number = λ i. record { round = round i; number = place.0.number } in
      subst (λ k. get world.places k ≡ Some place.1) own fact.0

  module _ (numbered : AreNumbered places) where
    entry_there : (number : ℕ) (entry : Entry) → get world.places (key_at number) ≡ Some entry
        → entry_at (map entry_of places) number ≡ Some entry
    entry_there number entry is =
        let at = placed places (key_at number, entry) (among number entry is) in
        let next : number ≡ suc at.0 = numbered at.0 (key_at number, entry) at.1 in
        ap (entry_at (map entry_of places)) next ∙ slice_get-map entry_of places at.0 ∙ ap (option_map entry_of) at.1

    nothing_there : (number : ℕ) → get world.places (key_at number) ≡ None
        → None ≡ entry_at (map entry_of places) number
    nothing_there zero none = refl
    nothing_there (suc before) none = go (slice_get places before) refl ∙ sym (slice_get-map entry_of places before)
      where
        go : (o : Option Place) → slice_get places before ≡ o → None ≡ option_map entry_of (slice_get places before)
        go None at = ap (option_map entry_of) (sym at)
        go (Some place) at =
            let next : place.0.number ≡ suc before = numbered before place at in
            let stays = subst (λ n. get world.places (key_at n) ≡ Some place.1) next
            (stands place (contained places place before at)) in
            absurd (let no : None ≡ Some place.1 = sym none ∙ stays in cc)

    at_each : (number : ℕ) → get world.places (key_at number) ≡ entry_at (map entry_of places) number
    at_each number = go (get world.places (key_at number)) refl
      where
        go : (o : Option Entry) → get world.places (key_at number) ≡ o → get world.places (key_at number) ≡ entry_at
            (map entry_of places) number
        go None is = is ∙ nothing_there number is
        go (Some entry) is = is ∙ sym (entry_there number entry is)

    pub round_assembled : (round : Round) (entries : List Entry) (names : List (List ℕ))
        → Some round ≡ get world.rounds id → entries ≡ map entry_of places
        → AreTestersOf world id names → IsRoundKept world id
        (Some (record { round = round; puzzles = entries; testers = names }))
    round_assembled round entries names head is test = record {
      row = record {
        head = sym head;
        list = λ number. at_each number ∙ ap (λ l. entry_at l number) (sym is);
        testers = λ name. ((test.whole name).1, (test.whole name).0);
      };
      empty = λ none entry lists. absurd cc;
    }

  pub round_absent : None ≡ get world.rounds id → length places ≡ 0 → IsRoundKept world id None
  round_absent head none = record {
    row = sym head;
    empty = λ same entry lists. let there = among lists.0 entry lists.1 in absurd (omega (arith, none, there.1));
  }

-- ---- a round that is no round with a list

-- the item stands in the list
abbrev Stands : List Place → Place → Type 0
Stands places place = (i : ℕ) × (slice_get places i ≡ Some place)

rises : (p : Place) (ps : List Place) → AllByRecursion (λ q. number_cmp p q ≡ Less) ps → (i : ℕ) (q : Place)
    → slice_get ps i ≡ Some q
    → p.0.number < q.0.number
rises p [] all i q at = absurd cc
rises p (r ∷ ps) all zero q at =
    let same : r ≡ q = cc in
    subst (λ (q : Place). p.0.number < q.0.number) same
    (subst (λ o. MatchOrdering o (p.0.number < r.0.number) (p.0.number ≡ r.0.number) (r.0.number < p.0.number)) all.0
    (ranked p.0.number r.0.number (number_cmp p r) refl))
rises p (r ∷ ps) all (suc i) q at = rises p ps all.1 i q at

module _ (world : World) (id : List ℕ) where
  abbrev place_key : ℕ → PlaceKey
  place_key number = record { round = id; number = number }

  -- they are the places of the round above a number, each once, in the order of their numbers
  record AreAbove (low : ℕ) (places : List Place) : Type 0 where
    there : (place : Place) → Stands places place → (get world.places place.0 ≡ Some place.1) × (place.0.round ≡ id)
        × (low < place.0.number)
    whole : (number : ℕ) (entry : Entry) → low < number → get world.places (place_key number) ≡ Some entry
        → Stands places (place_key number, entry)
    once : IsStrictlySortedBy number_cmp places

  abbrev AreNumberedAbove : ℕ → List Place → Type 0
  AreNumberedAbove low places = (i : ℕ) (place : Place) → slice_get places i ≡ Some place
      → place.0.number ≡ suc (low + i)

  tail_above : (low : ℕ) (p : Place) (ps : List Place) → p.0.number ≡ suc low → AreAbove low (p ∷ ps)
      → AreAbove (suc low) ps
  unfolding IsStrictlySortedBy
  tail_above low p ps first are = record {
    there = λ place at.
        let it = are.there place (suc at.0, at.1) in
        let more = rises p ps are.once.0 at.0 place at.1 in (it.0, it.1, omega (arith, first, more));
    whole = λ number entry above is. go number entry above (are.whole number entry (omega (arith, above)) is);
    once = are.once.1;
  }
    where
      go : (number : ℕ) (entry : Entry) → suc low < number → Stands (p ∷ ps) (place_key number, entry)
          → Stands ps (place_key number, entry)
      go number entry above (zero, at) =
          let same : p ≡ (place_key number, entry) = cc in
          let is : p.0.number ≡ number = ap (λ (q : Place). q.0.number) same in absurd (omega (arith, first, is, above))
      go number entry above (suc i, at) = (i, at)

  numbered_on : (low : ℕ) (p : Place) (ps : List Place) → AreNumberedAbove (suc low) ps → p.0.number ≡ suc low
      → AreNumberedAbove low (p ∷ ps)
  numbered_on low p ps more first zero place at =
      let same : p ≡ place = cc in
      sym (ap (λ (q : Place). q.0.number) same) ∙ first ∙ (let is : suc low ≡ suc (low + 0) = omega arith in is)
  numbered_on low p ps more first (suc i) place at = more i place at
      ∙ (let is : suc (suc low + i) ≡ suc (low + suc i) = omega arith in is)

  abbrev AreWhole : ℕ → List Place → List Entry → Type 0
  AreWhole low places entries = AreNumberedAbove low places × (map entry_of places ≡ entries)

  -- where they are what a list of puzzles says, they are numbered and have its puzzles
  all_placed : (low : ℕ) (places : List Place) (entries : List Entry) → AreAbove low places
      → ((j : ℕ) → get world.places (place_key (suc (low + j))) ≡ slice_get entries j) → AreWhole low places entries
  unfolding IsStrictlySortedBy
  all_placed low [] [] are list = ((λ i place at. absurd cc), refl)
  all_placed low [] (e ∷ es) are list =
      let no = are.whole (suc (low + 0)) e (omega arith) (list 0) in absurd
      (let none : None ≡ Some (place_key (suc (low + 0)), e) = no.1 in cc)
  all_placed low (p ∷ ps) [] are list =
      let it = are.there p (0, refl) in
      let j = p.0.number - suc low in
      let next : p.0.number ≡ suc (low + j) = omega (arith, it.2) in
      let own : p.0 ≡ place_key (suc (low + j)) = λ i. record { round = it.1 i; number = next i } in
      absurd (let no : Some p.1 ≡ None = sym it.0 ∙ ap (get world.places) own ∙ list j in cc)
  all_placed low (p ∷ ps) (e ∷ es) are list =
      go (λ first. all_placed (suc low) ps es (tail_above low p ps first are) (λ j.
      let is : suc (suc low + j) ≡ suc (low + suc j) = omega arith in ap (λ n. get world.places (place_key n)) is
      ∙ list (suc j)))
      (are.whole (suc (low + 0)) e (omega arith) (list 0))
    where
      go : (p.0.number ≡ suc low → AreWhole (suc low) ps es) → Stands (p ∷ ps) (place_key (suc (low + 0)), e)
          → AreWhole low (p ∷ ps) (e ∷ es)
      go more (suc i, at) =
          let after = rises p ps are.once.0 i (place_key (suc (low + 0)), e) at in
          let above = (are.there p (0, refl)).2 in absurd (omega (arith, after, above))
      go more (zero, at) =
          let same : p ≡ (place_key (suc (low + 0)), e) = cc in
          let first : p.0.number ≡ suc low = ap (λ (q : Place). q.0.number) same
          ∙ (let is : suc (low + 0) ≡ suc low = omega arith in is) in
          let rest = more first in
          (numbered_on low p ps rest.0 first, ap₂ (λ x l. x ∷ l) (ap entry_of same) rest.1)

  -- names of testers are as few as those of another list of them
  few_names : (names others : List (List ℕ)) → AreTestersOf world id names
      → ((name : List ℕ) → IsTesterOf world id name ↔ Contains others name) → AreTesters others → AreTesters names
  few_names names others test same are =
      let decides = λ (xs : List (List ℕ)) (q : List ℕ). is_member-Decides text_decides xs q in
      let fewer : length names ≤ length others = length-le_from_is_member nat_list_eq_equiv names others
      (IsDistinct-from_AllPairs text_decides names test.different)
      (λ q among. (decides others q).1 ((same q).0 ((test.whole q).0 ((decides names q).0 among)))) in
      record { few = omega (arith, fewer, are.few); different = test.different }

  module _ (places : List Place) (names : List (List ℕ)) (are : AreListed world id places)
      (test : AreTestersOf world id names) where
    all_above : (list : ℕ → Option Entry) → list 0 ≡ None → ((number : ℕ)
        → get world.places (place_key number) ≡ list number)
        → AreAbove 0 places
    all_above list none is = record {
      there = λ place at.
          let fact = (are.whole place).0 (contained places place at.0 at.1) in
          let round = (text_decides place.0.round id).0 fact.1 in (fact.0, round, positive place fact.0 round);
      whole = λ number entry above at. placed places (place_key number, entry)
          ((are.whole (place_key number, entry)).1 (at, (text_decides id id).1 refl));
      once = are.in_order;
    }
      where
        positive : (place : Place) → get world.places place.0 ≡ Some place.1 → place.0.round ≡ id → 0 < place.0.number
        positive place there round = go place.0.number refl
          where
            go : (n : ℕ) → place.0.number ≡ n → 0 < n
            go (suc before) at = omega arith
            go zero at =
                let own : place.0 ≡ place_key 0 = λ i. record { round = round i; number = at i } in
                absurd (let no : Some place.1 ≡ None = sym there ∙ ap (get world.places) own ∙ is 0 ∙ none in cc)

    -- no answer is right where they are numbered otherwise, or are no list of a round, or the names are no list of
    -- testers
    pub none_right : (head : Option Round) → get world.rounds id ≡ head → AreNoRound head places names
        → HasNoRound world id
    none_right None head some = (
      (λ kept. go places refl kept),
      (λ whole. let no : None ≡ Some whole.0.round = sym head ∙ whole.1.head in cc),
    )
      where
        go : (ps : List Place) → places ≡ ps → IsRoundKept world id None → ⊥
        go [] is kept = some is
        go (p ∷ ps) is kept =
            let there = contained places p 0 (ap (λ l. slice_get l 0) is) in
            kept.empty refl p.1 (p.0.number, stands world id places are.whole p there)
    none_right (Some round) head bad = (
      (λ kept. let no : None ≡ Some round = sym kept.row ∙ head in cc),
      (λ whole.
          let it = all_placed 0 places whole.0.puzzles (all_above (entry_at whole.0.puzzles) refl whole.1.list)
          (λ j. ap (λ n. get world.places (place_key n)) (let is : suc (0 + j) ≡ suc j = omega arith in is)
          ∙ whole.1.list (suc j)) in
          let numbered : AreNumbered places = λ i place at. it.0 i place at
          ∙ (let is : suc (0 + i) ≡ suc i = omega arith in is) in
          bad (
            numbered,
            subst AreEntries (sym it.1) whole.2,
            few_names names whole.0.testers test whole.1.testers
                whole.3,
          )),
    )
