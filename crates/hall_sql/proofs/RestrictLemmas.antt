-- Where only RESTRICT refers to the rows that a step takes out, a step that is not refused is all that is done.
use Rattle.std.proofs.Common.{◌≡◌, ◌⊎◌, ◌==◌, ◌∙◌, inl, inr, ℕ, zero, suc, ℤ, List, [], ◌∷◌, ◌++◌, length, flat_map}
use Rattle.std.proofs.Common.{filter_map, Bool, true, false, cond, nat_lt, MatchBool, Option, Some, None, Ok, refl, sym}
use Rattle.std.proofs.Common.{ap, subst}
use Rattle.std.proofs.lemmas.Bool.{cases_Bool}
use Rattle.std.specs.List.{AllByRecursion}
use Rattle.sqlite.specs.Order.{Row}
use Rattle.sqlite.specs.Table.{Table}
use Rattle.sqlite.specs.Tree.{Trees}
use Rattle.sqlite.specs.Schema.{Schema}
use Rattle.sqlite_schema.specs.declared.schema.Keys.{Keys}
use Rattle.sqlite_rules.specs.Action.{Work, Leads, ActsOn, max_depth, refuses, work_by, work_for, works, deed_for}
use Rattle.sqlite_rules.specs.Action.{pairs}
use Rattle.sqlite_rules.specs.declared.action.Deed.{Deed}
use Rattle.sqlite_rules.specs.declared.action.Deed.TheVariants.{Refuse}
use Rattle.sqlite_schema.specs.Rules.{ParentKey, parent_key}
use Rattle.sqlite_schema.specs.declared.schema.Reference.{Reference}
use Rattle.hall_sql.proofs.InsertLemmas.{same_value}
use Rattle.hall_sql.proofs.QuietLemmas.{weaker}

picks : (P Q : Type 0) (b : Bool) → b ≡ true → MatchBool b P Q → P
picks P Q true e h = h
picks P Q false e h = absurd cc

abbrev pub Restricts : List Work → Type 0
Restricts = AllByRecursion (λ w. w.deed ≡ Refuse)

front : (below : List Work) (w : Work) → Restricts (below ++ w ∷ []) → Restricts below × (w.deed ≡ Refuse)
front [] w all = (tt, all.0)
front (x ∷ below) w all = let rest = front below w all.1 in ((all.0, rest.0), rest.1)

module _ (schema : Schema) (keys : Keys) where
  no_children : (n : ℕ) (db next : Trees) (w : Work) (below : List Work) → w.deed ≡ Refuse
      → (Leads schema keys n db below (Ok next) → db ≡ next) → (ids : List ℤ)
      → ActsOn schema keys (Leads schema keys n) db w below (Ok next) ids → db ≡ next
  no_children n db next w below is more [] h = more h
  no_children n db next w below is more (id ∷ ids) h = absurd
      (let e = picks _ _ (refuses w.deed) (ap refuses is) h in cc)

  pub restricted : (n : ℕ) (db next : Trees) (stack : List Work) → Restricts stack
      → Leads schema keys n db stack (Ok next) → db ≡ next
  restricted zero db next stack all h = sym (same_value h.1)
  restricted (suc n) db next stack all h =
      let parts = front h.0 h.1 (subst Restricts h.2 all) in
      elim (cases_Bool (nat_lt h.1.depth max_depth)) [
        | inl low ↦ let it = rw low at h.3 in no_children n db next h.1 h.0 parts.1 (restricted n db next h.0 parts.0)
            it.0 it.2
        | inr deep ↦ absurd (let e = rw deep at h.3 in cc)
      ]

-- ---- which steps RESTRICT alone acts on

-- the reference is to another table, or its action can only refuse
abbrev pub OnlyRefuses : ℕ → Option Deed → Option ParentKey → Type 0
OnlyRefuses tree None key = Unit {0}
OnlyRefuses tree (Some deed) None = Unit {0}
OnlyRefuses tree (Some deed) (Some key) = ((key.0 == tree) ≡ false) ⊎ (deed ≡ Refuse)

picked : (b : Bool) (made w : Work) → cond b (Some made) None ≡ Some w → made ≡ w
picked true made w is = cc
picked false made w is = absurd cc

refusing : (depth tree : ℕ) (moves : List (Row × Row)) (child : Table) (ref : Reference) (deed : Option Deed)
    (key : Option ParentKey) → OnlyRefuses tree deed key
    → (w : Work) → work_by depth tree moves child ref deed key ≡ Some w → w.deed ≡ Refuse
refusing depth tree moves child ref None key h w is = absurd cc
refusing depth tree moves child ref (Some deed) None h w is = absurd cc
refusing depth tree moves child ref (Some deed) (Some key) (inl other) w is = absurd (let e = rw other at is in cc)
refusing depth tree moves child ref (Some deed) (Some key) (inr e) w is = sym
    (ap (λ (x : Work). x.deed) (picked _ _ w is)) ∙ e

all_kept : {A B : Type 0} (P : B → Type 0) (f : A → Option B) (xs : List A)
    → AllByRecursion (λ x. (b : B) → f x ≡ Some b → P b) xs → AllByRecursion P (filter_map f xs)
all_kept P f [] all = tt
all_kept {B = B} P f (x ∷ xs) all = go (f x) refl (all_kept P f xs all.1)
  where
    go : (o : Option B) → f x ≡ o → AllByRecursion P (filter_map f xs) → AllByRecursion P (filter_map f (x ∷ xs))
    go None is more = rw is more
    go (Some b) is more = rw is (all.0 b is, more)

both_lists : {A : Type 0} (P : A → Type 0) (xs ys : List A) → AllByRecursion P xs → AllByRecursion P ys
    → AllByRecursion P (xs ++ ys)
both_lists P [] ys all more = more
both_lists P (x ∷ xs) ys all more = (all.0, both_lists P xs ys all.1 more)

all_lists : {A B : Type 0} (P : B → Type 0) (f : A → List B) (xs : List A)
    → AllByRecursion (λ x. AllByRecursion P (f x)) xs → AllByRecursion P (flat_map f xs)
all_lists P f [] all = tt
all_lists P f (x ∷ xs) all = both_lists P (f x) (flat_map f xs) all.0 (all_lists P f xs all.1)

-- where each reference to the table can only refuse, so does all that is to be done
pub refusing_works : (schema : Schema) (keys : Keys) (depth tree : ℕ) (olds news : List Row)
    → AllByRecursion (λ (t : Table). AllByRecursion (λ (ref : Reference). OnlyRefuses tree
    (deed_for keys (length news == 0) ref) (parent_key schema.tables ref)) t.references) schema.tables
    → Restricts (works schema keys depth tree olds news)
refusing_works schema keys depth tree olds news all =
    all_lists (λ w. w.deed ≡ Refuse) _ schema.tables (weaker _ _
    (λ t refs. all_kept (λ w. w.deed ≡ Refuse) (work_for schema keys depth tree olds news t) t.references
    (weaker _ _ (λ ref one. refusing depth tree (pairs olds news) t ref (deed_for keys (length news == 0) ref)
    (parent_key schema.tables ref) one) t.references refs)) schema.tables all)
