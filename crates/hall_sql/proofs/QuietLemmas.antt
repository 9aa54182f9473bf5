-- Where the key that others refer to stays, no foreign key acts.
use Rattle.std.proofs.Common.{◌≡◌, ℕ, List, [], ◌∷◌, length, Bool, true, false, not, ◌&&◌, ◌||◌, ◌==◌, Option, Some}
use Rattle.std.proofs.Common.{None, refl, flat_map, filter_map}
use Rattle.std.specs.List.{AllByRecursion, list_any}
use Rattle.sqlite.specs.Order.{Row}
use Rattle.sqlite_value.specs.Order.{column}
use Rattle.sqlite_value.specs.declared.keys.Order.{Order}
use Rattle.sqlite_schema.specs.Rules.{agree, ParentKey, parent_key}
use Rattle.sqlite_schema.specs.declared.schema.Keys.{Keys}
use Rattle.sqlite_schema.specs.declared.schema.Reference.{Reference}
use Rattle.sqlite.specs.Table.{Table}
use Rattle.sqlite.specs.Schema.{Schema}
use Rattle.sqlite_rules.specs.declared.action.Deed.{Deed}
use Rattle.sqlite_rules.specs.Action.{loses, pairs, work_by, work_for, works, deed_for}

-- no row of the moves loses the key
abbrev pub Spares : ℕ → List (Row × Row) → Option ParentKey → Type 0
Spares tree moves None = Unit {0}
Spares tree moves (Some key) = ((key.0 == tree) && list_any (loses key.2 key.1) moves) ≡ false

no_work : (depth tree : ℕ) (moves : List (Row × Row)) (child : Table) (ref : Reference) (deed : Option Deed)
    (key : Option ParentKey) → Spares tree moves key → work_by depth tree moves child ref deed key ≡ None
no_work depth tree moves child ref None key spares = refl
no_work depth tree moves child ref (Some deed) None spares = refl
no_work depth tree moves child ref (Some deed) (Some key) spares = rw spares

none_of : {A B : Type 0} (f : A → Option B) (xs : List A) → AllByRecursion (λ x. f x ≡ None) xs → filter_map f xs ≡ []
none_of f [] all = refl
none_of f (x ∷ xs) all = rw (all.0) (none_of f xs all.1)

no_lists : {A B : Type 0} (f : A → List B) (xs : List A) → AllByRecursion (λ x. f x ≡ []) xs → flat_map f xs ≡ []
no_lists f [] all = refl
no_lists f (x ∷ xs) all = rw (all.0) (no_lists f xs all.1)

pub weaker : {A : Type 0} (P Q : A → Type 0) → ((x : A) → P x → Q x) → (xs : List A) → AllByRecursion P xs
    → AllByRecursion Q xs
weaker P Q f [] all = tt
weaker P Q f (x ∷ xs) all = (f x all.0, weaker P Q f xs all.1)

module _ (schema : Schema) (keys : Keys) (depth tree : ℕ) (olds news : List Row) where
  -- each foreign key of the schema spares the moves
  abbrev pub AreSpared : Type 0
  AreSpared = AllByRecursion (λ (t : Table). AllByRecursion (λ (ref : Reference). Spares tree (pairs olds news)
      (parent_key schema.tables ref)) t.references) schema.tables

  pub no_works : AreSpared → works schema keys depth tree olds news ≡ []
  no_works spared =
      no_lists _ schema.tables (weaker _ _ (λ t all. none_of (work_for schema keys depth tree olds news t) t.references
      (weaker _ _ (λ ref one. no_work depth tree (pairs olds news) t ref (deed_for keys (length news == 0) ref)
      (parent_key schema.tables ref) one) t.references all)) schema.tables spared)

cancels : (b : Bool) → (b && not b) || false ≡ false
cancels true = refl
cancels false = refl

-- the two columns of a key stay
pub two_stay : (o : Order) (p q : ℕ) (r m : Row) → column m p ≡ column r p → column m q ≡ column r q
    → list_any (loses o (p ∷ q ∷ [])) ((r, m) ∷ []) ≡ false
two_stay o p q r m first second = rw (first, second) (cancels (agree o (p ∷ q ∷ []) r (p ∷ q ∷ []) r))

pub one_stays : (o : Order) (p : ℕ) (r m : Row) → column m p ≡ column r p → list_any (loses o (p ∷ [])) ((r, m) ∷ []) ≡
    false
one_stays o p r m first = rw first (cancels (agree o (p ∷ []) r (p ∷ []) r))
