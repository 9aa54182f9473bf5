-- What the people, the places and the testers are after a change.
use Rattle.std.proofs.Common.{◌≡◌, ◌≢◌, ◌⊎◌, inl, inr, ℕ, ◌+◌, ◌<◌, zero, suc, Bool, true, false, not, ◌||◌, cond}
use Rattle.std.proofs.Common.{if◌then◌else◌, List, [], ◌∷◌, Option, Some, None, Contains, ◌↔◌, is_some, slice_get, refl}
use Rattle.std.proofs.Common.{sym, ap, ◌∙◌, subst, arith}
use Rattle.std.specs.FinMap.{FinMap, IsAntisymmetric, get, insert, retain_keys, get-retain_keys}
use Rattle.std.specs.List.{list_any}
use Rattle.std.specs.declared.cmp.Ordering.{Ordering}
use Rattle.hall_policy.specs.Text.{text_cmp}
use Rattle.hall_policy.specs.World.{place_cmp, tester_cmp, same_text, entry_at}
use Rattle.hall_policy.specs.declared.record.Entry.{Entry}
use Rattle.hall_policy.specs.declared.record.Person.{Person}
use Rattle.hall_policy.specs.declared.record.PlaceKey.{PlaceKey}
use Rattle.hall_policy.specs.declared.record.TesterKey.{TesterKey}
use Rattle.hall_policy.proofs.Maps.{get-insert_other}
use Rattle.hall_policy.proofs.Orders.{text_total, same_texts, place_total, same_place_keys, tester_total}
use Rattle.hall_policy.proofs.Orders.{same_tester_keys}
use Rattle.hall_store.specs.Change.{with_person, with_people, without_list, with_list, relisted, without_testers_of}
use Rattle.hall_store.specs.Change.{with_testers, retested}
use Rattle.hall_store.proofs.Inserts.{found_after, others_stay, inserted_there}
use Rattle.hall_store.proofs.Tests.{not_true, true_not_false, contained, later, any-Contains, Contains-any}
use Rattle.hall_policy.proofs.Texts.{text_decides}

-- ---- what belongs to a round
-- what is found at the round's own keys and at others, as one test of the key's round
pub own_or_other : {Y : Type 0} (round id : List ℕ) (found own other : Y) → (round ≡ id → found ≡ own)
    → (round ≢ id → found ≡ other) →
    found ≡ (if same_text round id then own else other)
own_or_other round id found own other if_own if_other =
    elim (same_text round id) as (λ b. same_text round id ≡ b → found ≡ cond b own other) [
      | true ↦ λ e. if_own ((text_decides round id).0 e)
      | false ↦ λ e. if_other (λ same. true_not_false (same_text round id) ((text_decides round id).1 same) e)
    ] refl

module _ {K X : Type 0} {R : K → K → Ordering} (same : IsAntisymmetric R) (rows : FinMap R X) (round_of : K → List ℕ)
    (id : List ℕ) where
  abbrev without : FinMap R X
  without = retain_keys rows (λ k. not (same_text (round_of k) id))

  at_kept : (key : K) → get without key ≡ cond (not (same_text (round_of key) id)) (get rows key) None
  at_kept key = get-retain_keys rows (λ k. not (same_text (round_of k) id)) key
      (λ x tied. ap (λ (k : K). not (same_text (round_of k) id)) (sym (same key x tied)))

  -- what belongs to the round is gone
  own_gone : (key : K) → round_of key ≡ id → get without key ≡ None
  own_gone key own = at_kept key ∙ ap (λ (b : Bool). cond (not b) (get rows key) None)
      ((text_decides (round_of key) id).1 own)

  -- what belongs to others stays
  others_kept : (key : K) → round_of key ≢ id → get without key ≡ get rows key
  others_kept key other =
      at_kept key ∙ ap (λ (b : Bool). cond (not b) (get rows key) None)
      (not_true (same_text (round_of key) id) (λ e. other ((text_decides (round_of key) id).0 e)))

-- ---- places
abbrev place_key : List ℕ → ℕ → PlaceKey
place_key id number = record { round = id; number = number }

module _ (places : FinMap place_cmp Entry) (id : List ℕ) where
  -- a list changes no place of another round
  list_elsewhere : (number : ℕ) (entries : List Entry) (key : PlaceKey) → key.round ≢ id
      → get (with_list places id number entries) key ≡ get places key
  list_elsewhere number [] key other = refl
  list_elsewhere number (entry ∷ entries) key other =
      get-insert_other place_total same_place_keys (with_list places id (number + 1) entries) (place_key id number)
      entry key (λ same. other (ap (λ (k : PlaceKey). k.round) same))
      ∙ list_elsewhere (number + 1) entries key other

  -- nor one below its first
  list_below : (number : ℕ) (entries : List Entry) (low : ℕ) → low < number
      → get (with_list places id number entries) (place_key id low) ≡ get places (place_key id low)
  list_below number [] low below = refl
  list_below number (entry ∷ entries) low below =
      get-insert_other place_total same_place_keys (with_list places id (number + 1) entries) (place_key id number)
      entry (place_key id low)
      (λ same. let e : low ≡ number = ap (λ (k : PlaceKey). k.number) same in omega (arith, below, e))
      ∙ list_below (number + 1) entries low (omega (arith, below))

  -- where the round had no place, the list gives each of them
  list_there : (number : ℕ) (entries : List Entry) (k : ℕ) → get places (place_key id (number + k)) ≡ None
      → get (with_list places id number entries) (place_key id (number + k)) ≡ slice_get entries k
  list_there number [] k none = none
  list_there number (entry ∷ entries) zero none =
      let at : number + 0 ≡ number = omega arith in
      inserted_there place_total same_place_keys (with_list places id (number + 1) entries) (place_key id number) entry
      (place_key id (number + 0)) (ap (place_key id) at)
  list_there number (entry ∷ entries) (suc k) none =
      let at : number + suc k ≡ (number + 1) + k = omega arith in
      get-insert_other place_total same_place_keys (with_list places id (number + 1) entries) (place_key id number)
      entry (place_key id (number + suc k))
      (λ same. let e : number + suc k ≡ number = ap (λ (q : PlaceKey). q.number) same in omega (arith, e))
      ∙ ap (λ n. get (with_list places id (number + 1) entries) (place_key id n)) at
      ∙ list_there (number + 1) entries k (ap (λ n. get places (place_key id n)) (sym at) ∙ none)

-- the round's own places are its entries
own_places : (places : FinMap place_cmp Entry) (id : List ℕ) (entries : List Entry) (number : ℕ)
    → get (relisted places id entries) (place_key id number) ≡ entry_at entries number
own_places places id entries number =
    let gone : (n : ℕ) → get (without_list places id) (place_key id n) ≡ None =
    λ n. own_gone same_place_keys places (λ (k : PlaceKey). k.round) id (place_key id n) refl in
    elim number as (λ n. get (relisted places id entries) (place_key id n) ≡ entry_at entries n) [
      | zero ↦ list_below (without_list places id) id 1 entries 0 (omega arith) ∙ gone 0
      | suc k ↦ let at : suc k ≡ 1 + k = omega arith in
          ap (λ n. get (relisted places id entries) (place_key id n)) at
          ∙ list_there (without_list places id) id 1 entries k (gone (1 + k))
    ]

-- the round's places are its entries, and those of others stay
pub get-relisted : (places : FinMap place_cmp Entry) (id : List ℕ) (entries : List Entry) (key : PlaceKey) →
    get (relisted places id entries) key ≡ (if same_text key.round id then entry_at entries key.number else get places
    key)
get-relisted places id entries key =
    own_or_other key.round id (get (relisted places id entries) key) (entry_at entries key.number) (get places key)
    (λ own. ap (λ r. get (relisted places id entries) (place_key r key.number)) own
    ∙ own_places places id entries key.number)
    (λ other. list_elsewhere (without_list places id) id 1 entries key other
    ∙ others_kept same_place_keys places (λ (k : PlaceKey). k.round) id key other)

-- ---- testers
abbrev tester_key : List ℕ → List ℕ → TesterKey
tester_key id name = record { round = id; name = name }

-- what the testers have of the name in a round whose testers have these names
abbrev pub if_named : List (List ℕ) → List ℕ → Option (Unit {0})
if_named names name = cond (list_any (same_text name) names) (Some tt) None

-- they have it where it is one of these
pub if_named-Contains : (names : List (List ℕ)) (name : List ℕ) → if_named names name ≡ Some tt ↔ Contains names name
if_named-Contains names name = (
  (λ found.
      let passes : list_any (same_text name) names ≡ true = elim (list_any (same_text name) names) as
      (λ b. ◌≡◌ {A = Option (Unit {0})} (cond b (Some tt) None) (Some tt) → b ≡ true) [
        | true ↦ λ _. refl
        | false ↦ λ h. absurd (let no : ◌≡◌ {A = Option (Unit {0})} None (Some tt) = h in cc)
      ] found in
      let at = any-Contains (same_text name) names passes in
      subst (λ (n : List ℕ). Contains names n) (sym ((text_decides name at.0).0 at.2)) at.1),
  (λ among. ap (λ (b : Bool). cond b (Some tt) None) (Contains-any (same_text name) names name among
      ((text_decides name name).1 refl))),
)

module _ (testers : FinMap tester_cmp (Unit {0})) (id : List ℕ) where
  -- the names change no tester of another round
  testers_elsewhere : (names : List (List ℕ)) (key : TesterKey) → key.round ≢ id
      → get (with_testers testers id names) key ≡ get testers key
  testers_elsewhere [] key other = refl
  testers_elsewhere (first ∷ names) key other =
      get-insert_other tester_total same_tester_keys (with_testers testers id names) (tester_key id first) tt key
      (λ same. other (ap (λ (k : TesterKey). k.round) same))
      ∙ testers_elsewhere names key other

  -- where the round had no tester of the name, it has one where the name is one of these
  testers_there : (names : List (List ℕ)) (name : List ℕ) → get testers (tester_key id name) ≡ None
      → get (with_testers testers id names) (tester_key id name) ≡ if_named names name
  testers_there [] name none = none
  testers_there (first ∷ names) name none =
      let before = with_testers testers id names in
      elim (same_text name first) as (λ b. same_text name first ≡ b → get (insert before (tester_key id first) tt)
      (tester_key id name) ≡ cond (b || list_any (same_text name) names) (Some tt) None) [
        | true ↦ λ e. inserted_there tester_total same_tester_keys before (tester_key id first) tt (tester_key id name)
            (ap (tester_key id) ((text_decides name first).0 e))
        | false ↦ λ e.
            get-insert_other tester_total same_tester_keys before (tester_key id first) tt (tester_key id name)
            (λ same. true_not_false (same_text name first) ((text_decides name first).1
            (ap (λ (k : TesterKey). k.name) same)) e)
            ∙ testers_there names name none
      ] refl

-- the round's testers are those of the names, and those of others stay
pub get-retested : (testers : FinMap tester_cmp (Unit {0})) (id : List ℕ) (names : List (List ℕ)) (key : TesterKey) →
    get (retested testers id names) key ≡ (if same_text key.round id then if_named names key.name else get testers key)
get-retested testers id names key =
    own_or_other key.round id (get (retested testers id names) key) (if_named names key.name) (get testers key)
    (λ own.
    ap (λ r. get (retested testers id names) (tester_key r key.name)) own
    ∙ testers_there (without_testers_of testers id) id names key.name
    (own_gone same_tester_keys testers (λ (k : TesterKey). k.round) id (tester_key id key.name) refl))
    (λ other. testers_elsewhere (without_testers_of testers id) id names key other
    ∙ others_kept same_tester_keys testers (λ (k : TesterKey). k.round) id key other)

-- ---- people
module _ (people : FinMap text_cmp Person) (person : Person) where
  -- whom one knew one knows as before
  with_person-known : (name : List ℕ) (p : Person) → get people name ≡ Some p
      → get (with_person people person) name ≡ Some p
  with_person-known name p known =
      elim (get people person.name) as (λ (o : Option Person). get people person.name ≡ o
      → get (cond (is_some o) people (insert people person.name person)) name ≡ Some p) [
        | None ↦ λ e. others_stay text_total same_texts people person.name person name p
            (λ same. let no : None ≡ Some p = sym e ∙ ap (get people) (sym same) ∙ known in cc) known
        | Some q ↦ λ e. known
      ] refl

  -- who is found was known, or is the one who was added
  with_person-found : (name : List ℕ) (p : Person) → get (with_person people person) name ≡ Some p →
      (get people name ≡ Some p) ⊎ ((get people name ≡ None) × (person ≡ p) × (person.name ≡ name))
  with_person-found name p found =
      elim (get people person.name) as (λ (o : Option Person). get people person.name ≡ o
      → get (cond (is_some o) people (insert people person.name person)) name ≡ Some p →
      (get people name ≡ Some p) ⊎ ((get people name ≡ None) × (person ≡ p) × (person.name ≡ name))) [
        | None ↦ λ e h. elim (found_after text_total same_texts people person.name person name p h) [
          | inl own ↦ inr (ap (get people) own.0 ∙ e, sym own.1, sym own.0)
          | inr other ↦ inl other.1
        ]
        | Some q ↦ λ e h. inl h
      ] refl found

  with_person-there : get (with_person people person) person.name ≢ None
  with_person-there none =
      elim (get people person.name) as (λ (o : Option Person). get people person.name ≡ o
      → get (cond (is_some o) people (insert people person.name person)) person.name ≡ None → ⊥) [
        | None ↦ λ e h. let no : Some person ≡ None = sym (inserted_there text_total same_texts people person.name
            person person.name refl) ∙ h in cc
        | Some q ↦ λ e h. let no : Some q ≡ None = sym e ∙ h in cc
      ] refl none

pub with_people-known : (people : FinMap text_cmp Person) (list : List Person) (name : List ℕ) (p : Person) →
    get people name ≡ Some p → get (with_people people list) name ≡ Some p
with_people-known people [] name p known = known
with_people-known people (person ∷ rest) name p known = with_people-known (with_person people person) rest name p
    (with_person-known people person name p known)

pub with_people-found : (people : FinMap text_cmp Person) (list : List Person) (name : List ℕ) (p : Person) →
    get (with_people people list) name ≡ Some p → (get people name ≡ Some p)
    ⊎ ((get people name ≡ None) × Contains list p × (p.name ≡ name))
with_people-found people [] name p found = inl found
with_people-found people (person ∷ rest) name p found = elim (with_people-found (with_person people person) rest name p
    found) [
      | inl early ↦ elim (with_person-found people person name p early) [
        | inl known ↦ inl known
        | inr added ↦ inr (
          added.0,
          contained (person ∷ rest) p 0 (ap Some added.1),
          ap (λ (q : Person). q.name)
              (sym added.1) ∙ added.2,
        )
      ]
      | inr late ↦ inr (
        (elim (get people name) as (λ (o : Option Person). get people name ≡ o → o ≡ None) [
          | None ↦ λ e. refl
          | Some q ↦ λ e. let no : Some q ≡ None = sym (with_person-known people person name q e)
              ∙ late.0 in absurd (cc)
        ] refl),
        later person rest p late.1,
        late.2,
      )
    ]

-- who is found once is found to the end
still_found : (people : FinMap text_cmp Person) (list : List Person) (name : List ℕ) → get people name ≢ None
    → get (with_people people list) name ≢ None
still_found people list name there none =
    elim (get people name) as (λ (o : Option Person). get people name ≡ o → ⊥) [
      | None ↦ λ e. there e
      | Some q ↦ λ e. let no : Some q ≡ None = sym (with_people-known people list name q e) ∙ none in cc
    ] refl

pub with_people-there : (people : FinMap text_cmp Person) (list : List Person) (p : Person) → Contains list p
    → get (with_people people list) p.name ≢ None
with_people-there people [] p (i, within, is) = absurd (omega (arith, within))
with_people-there people (person ∷ rest) p (zero, within, is) =
    let same : person ≡ p = is in
    still_found (with_person people person) rest p.name (subst
    (λ (q : Person). get (with_person people person) q.name ≢ None) same (with_person-there people person))
with_people-there people (person ∷ rest) p (suc i, within, is) = with_people-there (with_person people person) rest p
    (i, omega (arith, within), is)
