-- The text of the names of a set.
use Rattle.std.proofs.Common.{◌≡◌, ◌≢◌, ◌↔◌, ℕ, ◌+◌, ◌^◌, ◌<◌, ◌≤◌, Bool, true, false, List, [], ◌∷◌, ◌++◌, take, refl}
use Rattle.std.proofs.Common.{sym, ap, ◌∙◌, inl, inr, IsTrue, bit_and}
use Rattle.std.specs.Prelude.{codes, if◌then◌else◌}
use Rattle.std.specs.List.{flat_map}
use Rattle.std.proofs.lemmas.List.{append-nil, take_all, take_more, flat_map_more}
use Rattle.std.proofs.lemmas.Bool.{ne_eqb, cases_eq, false≢true}
use Rattle.hall_grid.specs.declared.rule.Rule.{Rule}
use Rattle.hall_grid.specs.declared.rule.Rule.TheVariants.{A0}
use Rattle.hall_grid.specs.Rule.{Names, place, is_named, named_text, name_of, all_rules, verdict_text}
use Rattle.hall_grid.specs.declared.rule.TheConstants.{NAMES}
use Rattle.hall_grid.proofs.NameSets.{rule_at}

-- the test of a name, and the name
pub named_is : (names : ℕ) (rule : Rule) (b : Bool) → (IsTrue b ↔ Names names rule) → is_named names rule ≡ b
named_is names rule true h = rw (ne_eqb (bit_and names (2 ^ place rule)) 0 (h.0 refl)) refl
named_is names rule false h =
    elim (cases_eq (bit_and names (2 ^ place rule)) 0) [
      | inl e ↦ rw e refl
      | inr n ↦ absurd (false≢true (h.1 n))
    ]

more : (names i : ℕ) (part : List ℕ) → i < NAMES → named_text names (rule_at i) ≡ part
    → flat_map (named_text names) (take i all_rules) ++ part ≡ flat_map (named_text names) (take (i + 1) all_rules)
more names i part h same =
    ap (λ s. flat_map (named_text names) (take i all_rules) ++ s) (sym same)
    ∙ flat_map_more (named_text names) [] (take i all_rules) (rule_at i)
    ∙ ap (flat_map (named_text names)) (sym (take_more all_rules i A0 h))

-- a name of the set comes next
pub named_more : (names i : ℕ) (b : Bool) → i < NAMES → b ≡ true → (IsTrue b ↔ Names names (rule_at i))
    → flat_map (named_text names) (take i all_rules) ++ (32 ∷ name_of (rule_at i))
    ≡ flat_map (named_text names) (take (i + 1) all_rules)
named_more names i b h on n = more names i (32 ∷ name_of (rule_at i)) h (rw (named_is names (rule_at i) b n ∙ on) refl)

-- a name that the set doesn't have
pub unnamed_more : (names i : ℕ) (b : Bool) → i < NAMES → b ≡ false → (IsTrue b ↔ Names names (rule_at i))
    → flat_map (named_text names) (take i all_rules) ≡ flat_map (named_text names) (take (i + 1) all_rules)
unnamed_more names i b h off n = sym (append-nil _) ∙ more names i [] h (rw (named_is names (rule_at i) b n ∙ off) refl)

-- the verdict of a set that isn't empty
pub verdict_is : (names i : ℕ)
    → names ≢ 0
    → NAMES ≤ i
    → codes "wrong" ++ flat_map (named_text names) (take i all_rules) ≡ verdict_text names
verdict_is names i some h =
    ap (λ rules. codes "wrong" ++ flat_map (named_text names) rules) (take_all i all_rules h)
    ∙ ap (λ b. if b then codes "right" else codes "wrong" ++ flat_map (named_text names) all_rules)
    (sym (ne_eqb names 0 some))
