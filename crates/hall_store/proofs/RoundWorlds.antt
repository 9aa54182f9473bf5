-- What an insertion of a round's row makes of the world's rounds, places and testers.
use Rattle.std.proofs.Common.{◌≡◌, ◌≢◌, ℕ, List, [], ◌∷◌, Bool, true, false, Option, Some, cond, if◌then◌else◌, ap, sym}
use Rattle.std.proofs.Common.{◌∙◌, refl, subst, map}
use Rattle.std.specs.Cmp.{IsTotalOrder, tied_itself}
use Rattle.std.specs.Option.{option_map, option_and_then}
use Rattle.std.specs.Ordering.{is_eq}
use Rattle.std.specs.declared.cmp.Ordering.{Ordering}
use Rattle.std.specs.List.{flat_map}
use Rattle.std.specs.List.Sorted.{IsStrictlySortedBy}
use Rattle.std.specs.Map.{lookup, keys_of, values_of}
use Rattle.std.specs.BTreeMap.{is_at}
use Rattle.std.specs.FinMap.{FinMap, IsAntisymmetric, get, insert, values, from_entries, same_map}
use Rattle.hall_policy.specs.Text.{text_cmp}
use Rattle.hall_policy.specs.World.{place_cmp, tester_cmp, same_text, entry_at}
use Rattle.hall_policy.specs.declared.record.Entry.{Entry}
use Rattle.hall_policy.specs.declared.record.Round.{Round}
use Rattle.hall_policy.specs.declared.record.RoundRow.{RoundRow}
use Rattle.hall_policy.proofs.Orders.{text_total, same_texts, place_total, same_place_keys, tester_total}
use Rattle.hall_policy.proofs.Orders.{same_tester_keys}
use Rattle.hall_store.specs.Change.{relisted, retested}
use Rattle.hall_store.specs.Maps.{round_head, places_in, testers_in}
use Rattle.hall_store.proofs.Changes.{own_or_other, get-relisted, if_named, get-retested}
use Rattle.hall_store.proofs.MapWorlds.{AreOfRounds, entries_made, inserted, head_found, get_part, places_of_rounds}
use Rattle.hall_store.proofs.MapWorlds.{testers_of_rounds}
use Rattle.hall_store.proofs.Ranges.{equal_from_test}
use Rattle.hall_store.proofs.Tests.{not_true}

abbrev heads : List (List ℕ × RoundRow) → FinMap text_cmp Round
heads es = from_entries (map round_head es)

abbrev places : List (List ℕ × RoundRow) → FinMap place_cmp Entry
places es = from_entries (flat_map places_in es)

abbrev testers : List (List ℕ × RoundRow) → FinMap tester_cmp (Unit {0})
testers es = from_entries (flat_map testers_in es)

head_chosen : (b : Bool) (row : RoundRow) (o : Option RoundRow)
    → option_map (λ (r : RoundRow). r.round) (cond b (Some row) o) ≡ cond b (Some row.round)
    (option_map (λ (r : RoundRow). r.round) o)
head_chosen true row o = refl
head_chosen false row o = refl

-- the ids of the heads are those of the rows
same_ids : (es : List (List ℕ × RoundRow)) → keys_of (map round_head es) ≡ keys_of es
same_ids [] = refl
same_ids (e ∷ es) = ap (λ ids. e.0 ∷ ids) (same_ids es)

heads_of_rows : (es : List (List ℕ × RoundRow)) → values_of (map round_head es) ≡ map (λ (row : RoundRow). row.round)
    (values_of es)
heads_of_rows [] = refl
heads_of_rows (e ∷ es) = ap (λ rest. e.1.round ∷ rest) (heads_of_rows es)

-- the world's rounds are the heads of the rows, in the order of their ids
pub heads_listed : (es : List (List ℕ × RoundRow)) → IsStrictlySortedBy text_cmp (keys_of es)
    → values (heads es) ≡ map (λ (row : RoundRow). row.round) (values_of es)
heads_listed es sorted =
    ap values_of (entries_made text_total same_texts (map round_head es)
    (subst (IsStrictlySortedBy text_cmp) (sym (same_ids es)) sorted)) ∙ heads_of_rows es

-- another id doesn't tie
untied : (k id : List ℕ) → id ≢ k → is_at (text_cmp k) id ≡ false
untied k id other = not_true (is_at (text_cmp k) id) (λ e. other
    (sym (same_texts k id (equal_from_test (text_cmp k id) e))))

module _ (es fs : List (List ℕ × RoundRow)) (k : List ℕ) (row : RoundRow)
    (updates : (q : List ℕ) → lookup (is_at (text_cmp q)) fs ≡ cond (is_at (text_cmp k) q) (Some row)
    (lookup (is_at (text_cmp q)) es))
    (before : IsStrictlySortedBy text_cmp (keys_of es)) (after : IsStrictlySortedBy text_cmp (keys_of fs)) where
  -- the rounds have its head
  pub heads_inserted : heads fs ≡ insert (heads es) k row.round
  heads_inserted = inserted text_total same_texts (map round_head es) (map round_head fs) k row.round (λ q.
      head_found (is_at (text_cmp q)) fs ∙ ap (option_map (λ (r : RoundRow). r.round)) (updates q)
      ∙ head_chosen (is_at (text_cmp k) q) row (lookup (is_at (text_cmp q)) es)
      ∙ ap (cond (is_at (text_cmp k) q) (Some row.round)) (sym (head_found (is_at (text_cmp q)) es)))

  -- what stands in the rows of rounds
  module _ {K X : Type 0} {R : K → K → Ordering} {parts : List ℕ × RoundRow → List (K × X)} {round_of : K → List ℕ}
      {has_at : K → RoundRow → Option X}
      (are : AreOfRounds R parts round_of has_at) (o : IsTotalOrder R) where
    abbrev of_rows : List (List ℕ × RoundRow) → FinMap R X
    of_rows rows = from_entries (flat_map parts rows)

    -- is in this row at the round's own keys
    part_own : (key : K) → round_of key ≡ k → get (of_rows fs) key ≡ has_at key row
    part_own key own =
        get_part are o fs after key
        ∙ ap (option_and_then (has_at key))
        (updates (round_of key) ∙ ap (λ b. cond b (Some row) (lookup (is_at (text_cmp (round_of key))) es))
        (ap (is_at (text_cmp k)) own ∙ ap is_eq (tied_itself text_total k)))

    -- and stays at those of others
    part_other : (key : K) → round_of key ≢ k → get (of_rows fs) key ≡ get (of_rows es) key
    part_other key other =
        get_part are o fs after key
        ∙ ap (option_and_then (has_at key))
        (updates (round_of key) ∙ ap (λ b. cond b (Some row) (lookup (is_at (text_cmp (round_of key))) es))
        (untied k (round_of key) other))
        ∙ sym (get_part are o es before key)

    part_put : (key : K) → get (of_rows fs) key ≡ (if same_text (round_of key) k then has_at key row else get
        (of_rows es) key)
    part_put key = own_or_other (round_of key) k (get (of_rows fs) key) (has_at key row) (get (of_rows es) key)
        (part_own key) (part_other key)

    -- where the row stands for one that has the same, all stays
    part_same : IsAntisymmetric R → (old : RoundRow) → lookup (is_at (text_cmp k)) es ≡ Some old
        → ((key : K) → has_at key row ≡ has_at key old) → of_rows fs ≡ of_rows es
    part_same exact old found same = same_map o exact _ _ (λ key.
        part_put key
        ∙ sym (own_or_other (round_of key) k (get (of_rows es) key) (has_at key row) (get (of_rows es) key)
        (λ own. get_part are o es before key ∙ ap (option_and_then (has_at key))
        (ap (λ (id : List ℕ). lookup (is_at (text_cmp id)) es) own ∙ found) ∙ sym (same key))
        (λ _. refl)))

  -- the places are those before, the round's being its entries
  pub places_relisted : places fs ≡ relisted (places es) k row.puzzles
  places_relisted = same_map place_total same_place_keys _ _
      (λ key. part_put places_of_rounds place_total key ∙ sym (get-relisted (places es) k row.puzzles key))

  -- where the row stands for one with the same entries, all places stay
  pub places_same : (old : RoundRow) → lookup (is_at (text_cmp k)) es ≡ Some old → row.puzzles ≡ old.puzzles
      → places fs ≡ places es
  places_same old found same = part_same places_of_rounds place_total same_place_keys old found
      (λ key. ap (λ (entries : List Entry). entry_at entries key.number) same)

  -- the testers are those before, the round's being the row's
  pub testers_retested : testers fs ≡ retested (testers es) k row.testers
  testers_retested = same_map tester_total same_tester_keys _ _
      (λ key. part_put testers_of_rounds tester_total key ∙ sym (get-retested (testers es) k row.testers key))

  -- where the row stands for one with the same testers, all testers stay
  pub testers_same : (old : RoundRow) → lookup (is_at (text_cmp k)) es ≡ Some old → row.testers ≡ old.testers
      → testers fs ≡ testers es
  testers_same old found same = part_same testers_of_rounds tester_total same_tester_keys old found
      (λ key. ap (λ (names : List (List ℕ)). if_named names key.name) same)
