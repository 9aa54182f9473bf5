-- Partial fillings: what a place that is set changes.
use Rattle.std.proofs.Common.{◌≡◌, ◌≢◌, ℕ, suc, ◌+◌, ◌<◌, ◌≤◌, List, [], ◌∷◌, Option, Some, None, length, get_or, set}
use Rattle.std.proofs.Common.{cond, refl, sym, ◌∙◌, subst, arith, inl, inr}
use Rattle.std.specs.Prelude.{is_none}
use Rattle.std.proofs.lemmas.Bool.{cases_eq, cases_lt}
use Rattle.std.proofs.lemmas.List.{get_or-set_same, get_or-set_other, get_or_past, length-set, same_lists}
use Rattle.std.proofs.lemmas.List.{get_or_default}
use Rattle.std.proofs.lemmas.List.Sums.{sum_by-set, sum_by-cons}
use Rattle.hall_solve.specs.Question.{Question, IsSameQuestion, IsQuestionFilling, IsPartial, Extends, Keeps, Solves}
use Rattle.hall_solve.specs.Question.{Narrows, IsWhole, IsHopeless, IsOpen, open_places}
use Rattle.hall_solve.specs.Deduction.{IsForced}

-- the weight of a place in the count of those that are open
abbrev pub weight : Option ℕ → ℕ
weight x = cond (is_none x) 1 0

pub set_keeps : (p : List (Option ℕ)) (i v : ℕ) → get_or p i None ≡ None → Keeps p (set p i (Some v))
set_keeps p i v unset j w h =
    elim (cases_eq j i) [
      | inl e ↦ (let at : get_or p i None ≡ Some w = (rw e at h) in let no : None ≡ Some w = sym unset ∙ at in cc)
      | inr ne ↦ rw get_or-set_other h
    ]

pub open-set : (p : List (Option ℕ)) (i v : ℕ) → i < length p → get_or p i None ≡ None
    → open_places (set p i (Some v)) + 1 ≡ open_places p
open-set p i v within unset =
    let e = (rw unset at (sum_by-set weight p i (Some v) None within)) in
    omega (arith, e)

-- setting more leaves no more open
pub open-keeps : (old new : List (Option ℕ)) → length old ≡ length new → Keeps old new
    → open_places new ≤ open_places old
open-keeps [] [] e k = omega arith
open-keeps [] (y ∷ ys) e k = absurd (omega arith)
open-keeps (x ∷ xs) [] e k = absurd (omega arith)
open-keeps (x ∷ xs) (y ∷ ys) e k =
    let rest : open_places ys ≤ open_places xs = open-keeps xs ys (omega arith) (λ i v h. k (suc i) v h) in
    let head : weight y ≤ weight x = heads x y (λ v h. k 0 v h) in
    rw (sum_by-cons weight x xs, sum_by-cons weight y ys) (omega arith)
  where
    heads : (x y : Option ℕ) → ((v : ℕ) → x ≡ Some v → y ≡ Some v) → weight y ≤ weight x
    heads None None h = omega arith
    heads None (Some w) h = omega arith
    heads (Some v) None h = let no : None ≡ Some v = h v refl in cc
    heads (Some v) (Some w) h = omega arith

-- what narrows leaves no more open
pub open-narrows : (q : Question) (old new : List (Option ℕ)) → IsPartial q old → Narrows q old new
    → open_places new ≤ open_places old
open-narrows q old new h n = open-keeps old new (h.size ∙ sym n.partial.size) n.keeps

-- a solution solves the branch that has its value
pub Solves-set : (q : Question) (p : List (Option ℕ)) (f : List ℕ) (i : ℕ) → Solves q p f → i < length p
    → Solves q (set p i (Some (get_or f i 0))) f
Solves-set q p f i s within = record {
  filling = s.filling;
  extends = λ j w h.
      elim (cases_eq j i) [
        | inl e ↦ (let at : get_or (set p i (Some (get_or f i 0))) i None ≡ Some w = (rw e at h) in
            let there : Some (get_or f i 0) ≡ Some w = sym (get_or-set_same p i (Some (get_or f i 0)) None within)
            ∙ at in
            let v : get_or f i 0 ≡ w = cc in rw e v)
        | inr ne ↦ s.extends j w (rw get_or-set_other at h)
      ];
  right = s.right;
}

-- a solution of a branch solves, and has the branch's value
pub Solves-unset : (q : Question) (p : List (Option ℕ)) (f : List ℕ) (i v : ℕ) → i < length p → get_or p i None ≡ None
    → Solves q (set p i (Some v)) f → Solves q p f × (get_or f i 0 ≡ v)
Solves-unset q p f i v within unset s = (
  record { filling = s.filling; extends = λ j w h. s.extends j w (set_keeps p i v unset j w h); right = s.right },
  s.extends i v (get_or-set_same p i (Some v) None within),
)

-- what keeps more has fewer solutions
pub Solves-keeps : (q : Question) (old new : List (Option ℕ)) (f : List ℕ) → Keeps old new → Solves q new f
    → Solves q old f
Solves-keeps q old new f k s = record {
  filling = s.filling;
  extends = λ i v h. s.extends i v (k i v h);
  right =
      s.right;
}

-- the same question has the same solutions
pub Solves-same : (q r : Question) (p : List (Option ℕ)) (f : List ℕ) → IsSameQuestion q r → Solves q p f → Solves r p f
Solves-same q r p f e s = record {
  filling = record {
    size = s.filling.size ∙ sym e.cells;
    in_range = λ i h. rw e.values
        (s.filling.in_range i (omega (arith, e.cells)));
  };
  extends = s.extends;
  right = (e.right f).1 s.right;
}

pub same_itself : (q : Question) → IsSameQuestion q q
same_itself q = record { cells = refl; values = refl; right = λ f. (λ h. h, λ h. h) }

pub same_turned : (q r : Question) → IsSameQuestion q r → IsSameQuestion r q
same_turned q r e = record { cells = sym e.cells; values = sym e.values; right = λ f. ((e.right f).1, (e.right f).0) }

pub same_twice : (q r s : Question) → IsSameQuestion q r → IsSameQuestion r s → IsSameQuestion q s
same_twice q r s d e = record {
  cells = e.cells ∙ d.cells;
  values = e.values ∙ d.values;
  right = λ f. (λ h. (d.right f).0 ((e.right f).0 h), λ h. (e.right f).1 ((d.right f).1 h));
}

-- a partial filling of one question is one of the same question
pub IsPartial-same : (q r : Question) (p : List (Option ℕ)) → IsSameQuestion q r → IsPartial q p → IsPartial r p
IsPartial-same q r p e h = record { size = h.size ∙ sym e.cells; in_range = λ i v at. rw e.values (h.in_range i v at) }

pub IsPartial-set : (q : Question) (p : List (Option ℕ)) (i v : ℕ) → i < length p → v < q.values → IsPartial q p
    → IsPartial q (set p i (Some v))
IsPartial-set q p i v within small h = record {
  size = length-set p i (Some v) ∙ h.size;
  in_range = λ j w hit.
      elim (cases_eq j i) [
        | inl e ↦ (let there : get_or (set p i (Some v)) i None ≡ Some w = (rw e at hit) in
            let same : Some v ≡ Some w = sym (get_or-set_same p i (Some v) None within) ∙ there in
            let w_is : v ≡ w = cc in omega arith)
        | inr ne ↦ h.in_range j w (rw get_or-set_other at hit)
      ];
}

value_of : (x : Option ℕ) → x ≢ None → (v : ℕ) × (x ≡ Some v)
value_of None ne = absurd (ne refl)
value_of (Some v) ne = (v, refl)

-- a whole board has one filling
pub whole_filling : (p : List (Option ℕ)) (f g : List ℕ) → IsWhole p → length f ≡ length p → length g ≡ length p
    → Extends f p → Extends g p → f ≡ g
whole_filling p f g whole lf lg ef eg =
    same_lists f g (lf ∙ sym lg) (λ k d h. rw (get_or_default f k d 0 h, get_or_default g k d 0 (omega arith))
    (at k (omega arith)))
  where
    at : (k : ℕ) → k < length p → get_or f k 0 ≡ get_or g k 0
    at k h = let there = value_of (get_or p k None) (whole k h) in ef k there.0 there.1 ∙ sym (eg k there.0 there.1)

-- what is set is on the board
pub set_within : (p : List (Option ℕ)) (i v : ℕ) → get_or p i None ≡ Some v → i < length p
set_within p i v h =
    elim (cases_lt i (length p)) [
      | inl lt ↦ lt
      | inr ge ↦ (let past = get_or_past p i None ge in let no : None ≡ Some v = sym past ∙ h in cc)
    ]

-- each value of a whole board's filling is one of the board
pub IsFilling-whole : (q : Question) (p : List (Option ℕ)) (f : List ℕ) → IsWhole p → IsPartial q p
    → length f ≡ length p → Extends f p → IsQuestionFilling q f
IsFilling-whole q p f whole h e ext = record {
  size = e ∙ h.size;
  in_range = λ i lt.
      let there = value_of (get_or p i None) (whole i (omega (arith, h.size))) in
      rw (ext i there.0 there.1) (h.in_range i there.0 there.1);
}

-- a partial filling narrows itself
pub Narrows-itself : (q : Question) (p : List (Option ℕ)) → IsPartial q p → Narrows q p p
Narrows-itself q p h = record { partial = h; keeps = λ i v e. e; solutions = λ f s. s }

pub Narrows-twice : (q : Question) (a b c : List (Option ℕ)) → Narrows q a b → Narrows q b c → Narrows q a c
Narrows-twice q a b c h k = record {
  partial = k.partial;
  keeps = λ i v e. k.keeps i v (h.keeps i v e);
  solutions = λ f s. k.solutions f (h.solutions f s);
}

-- to set what is forced narrows
pub Narrows-forced : (q : Question) (p : List (Option ℕ)) (place value : ℕ) → IsPartial q p → IsForced q p place value
    → Narrows q p (set p place (Some value))
Narrows-forced q p place value h e = record {
  partial = IsPartial-set q p place value e.unset.0 e.in_range h;
  keeps = set_keeps p place value e.unset.1;
  solutions = λ f s. subst (λ v. Solves q (set p place (Some v)) f) (e.forced f s) (Solves-set q p f place s e.unset.0);
}

-- what narrows to a hopeless one is hopeless
pub hopeless_before : (q : Question) (old new : List (Option ℕ)) → Narrows q old new → IsHopeless q new
    → IsHopeless q old
hopeless_before q old new n h = λ f s. h f (n.solutions f s)

-- to set what is forced leaves fewer places open than at the start
pub forced_after : (q : Question) (start p : List (Option ℕ)) (place value : ℕ) → IsPartial q start → Narrows q start p
    → IsForced q p place value → Narrows q start (set p place (Some value))
    × (open_places (set p place (Some value)) < open_places start)
forced_after q start p place value whole n e =
    let fewer : open_places p ≤ open_places start = open-keeps start p (whole.size ∙ sym n.partial.size) n.keeps in (
      Narrows-twice q start p (set p place (Some value)) n (Narrows-forced q p place value n.partial e),
      omega (arith, open-set p place value e.unset.0 e.unset.1),
    )

-- the best of the first n places so far: an open one, or none where all are set
abbrev pub IsBest : List (Option ℕ) → ℕ → Option ℕ → Type 0
IsBest p n None = (k : ℕ) → k < n → get_or p k None ≢ None
IsBest p n (Some i) = IsOpen p i
