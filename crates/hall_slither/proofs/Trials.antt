-- Trials of both values of a side.
use Rattle.std.proofs.Common.{◌≡◌, ℕ, zero, suc, ◌<◌, ◌≤◌, ◌⊎◌, ◌∙◌, ◌++◌, ◌∷◌, [], List, length, get_or, set, Option}
use Rattle.std.proofs.Common.{Some, None, sym, ap, subst, inl, inr, arith}
use Rattle.std.specs.Prelude.{All, Contains, Result, Ok, Err, IfOk, OnOk, OnErr}
use Rattle.std.proofs.lemmas.List.{get_or-set_same, get_or_default, length-take}
use Rattle.std.proofs.lemmas.List.Elements.{All-contains, All-get_or, All-from_get_or}
use Rattle.hall_solve.specs.Question.{Question, Solves, Narrows, IsPartial, IsHopeless, IsOpen, Keeps}
use Rattle.hall_solve.specs.Deduction.{IsDeduced, IsForced}
use Rattle.hall_solve.specs.declared.deduce.Pass.{Pass}
use Rattle.hall_solve.specs.declared.deduce.Pass.TheVariants.{Settled, Advanced, Dead as DeadPass}
use Rattle.hall_solve.specs.declared.rules.Step.{Step}
use Rattle.hall_solve.specs.declared.rules.Step.TheVariants.{Live, Dead}
use Rattle.hall_solve.proofs.Boards.{Narrows-itself, Narrows-twice, Solves-set, Solves-keeps, hopeless_before}
use Rattle.hall_solve.proofs.Boards.{open-keeps}
use Rattle.hall_solve.specs.Trail.{Trailed, Grows}
use Rattle.hall_slither.specs.declared.setting.Setting.{Setting}
use Rattle.hall_slither.specs.Trial.{IsHeld, IsKnown, AreKnown, AreIn, IsStep, IsTried, step_after}

pub IsStep-deduced : (q : Question) (old new : List (Option ℕ)) (pass : Pass) (step : Step) → IsPartial q old
    → step ≡ step_after pass
    → IsDeduced q old new pass → IsStep q old new step
IsStep-deduced q old new Settled step partial e h = rw e (subst (λ p. Narrows q old p) (sym h)
    (Narrows-itself q old partial))
IsStep-deduced q old new Advanced step partial e h = rw e (h.0)
IsStep-deduced q old new DeadPass step partial e h = rw e h

pub IsStep-twice : (q : Question) (a b c : List (Option ℕ)) (step : Step) → Narrows q a b → IsStep q b c step
    → IsStep q a c step
IsStep-twice q a b c Live n h = Narrows-twice q a b c n h
IsStep-twice q a b c Dead n h = hopeless_before q a b n h

-- what the partial filling has that a trial left, each solution of the trial has
IsKnown-held : (q : Question) (old new : List (Option ℕ)) (setting : Setting) → Narrows q old new → IsHeld new setting
    → IsKnown q old setting
IsKnown-held q old new setting n held = record {
  in_range = n.partial.in_range setting.side setting.value held;
  always = λ f s. (n.solutions f s).extends setting.side setting.value held;
}

map_all : {X : Type 0} (P Q : X → Type 0) (xs : List X) (d : X) → ((x : X) → P x → Q x) → All P xs → All Q xs
map_all P Q xs d step all = All-from_get_or Q xs d (λ i low. step (get_or xs i d) (All-get_or P xs i d low all))

abbrev pub nowhere : Setting
nowhere = record { side = 0; value = 0 }

one_at : (q : Question) (p : List (Option ℕ)) (x : Setting) → IsKnown q p x → (i : ℕ) → i < 1
    → IsKnown q p (get_or (x ∷ []) i nowhere)
one_at q p x known zero low = known
one_at q p x known (suc i) low = absurd (omega arith)

pub contains_at : (xs : List Setting) (i : ℕ) (x : Setting) → i < length xs → get_or xs i nowhere ≡ x → Contains xs x
contains_at xs i x low e = (i, low, get_or_default xs i x nowhere low ∙ e)

pub AreKnown-held : (q : Question) (old new : List (Option ℕ)) (settings : List Setting) → Narrows q old new
    → All (IsHeld new) settings
    → AreKnown q old settings
AreKnown-held q old new settings n all = map_all (IsHeld new) (IsKnown q old) settings nowhere
    (λ x held. IsKnown-held q old new x n held) all

pub IsTried-step : {E : Type 0} (q : Question) (old new : List (Option ℕ)) (settings : List Setting) (r : Result Step E)
    → IfOk r (IsStep q old new) → All (IsHeld new) settings → IfOk r (IsTried q old settings)
IsTried-step q old new settings (Ok Live) h all = AreKnown-held q old new settings h all
IsTried-step q old new settings (Ok Dead) h all = h
IsTried-step q old new settings (Err x) h all = tt

-- a solution has a line at the side or none
line_or_none : (n : ℕ) → n < 2 → (n ≡ 0) ⊎ (n ≡ 1)
line_or_none n h = grind arith

solves_one : (q : Question) (p : List (Option ℕ)) (f : List ℕ) (side : ℕ) → q.values ≡ 2 → IsPartial q p
    → side < length p → Solves q p f
    → Solves q (set p side (Some 0)) f ⊎ Solves q (set p side (Some 1)) f
solves_one q p f side two partial low s =
    let small = s.filling.in_range side (let e = partial.size in omega arith) in
    let here = Solves-set q p f side s low in
    elim (line_or_none (get_or f side 0) (omega arith)) [
      | inl e ↦ inl (subst (λ v. Solves q (set p side (Some v)) f) e here)
      | inr e ↦ inr (subst (λ v. Solves q (set p side (Some v)) f) e here)
    ]

-- where a value fails, the other is known
known_none : (q : Question) (p : List (Option ℕ)) (side : ℕ) → q.values ≡ 2 → IsPartial q p → side < length p
    → IsHopeless q (set p side (Some 1)) → IsKnown q p (record { side = side; value = 0 })
known_none q p side two partial low hopeless = record {
  in_range = omega arith;
  always = λ f s. elim (solves_one q p f side two partial low s) [
    | inl k ↦ k.extends side 0 (get_or-set_same p side (Some 0) None low)
    | inr k ↦ absurd (hopeless f k)
  ];
}

known_line : (q : Question) (p : List (Option ℕ)) (side : ℕ) → q.values ≡ 2 → IsPartial q p → side < length p
    → IsHopeless q (set p side (Some 0)) → IsKnown q p (record { side = side; value = 1 })
known_line q p side two partial low hopeless = record {
  in_range = omega arith;
  always = λ f s. elim (solves_one q p f side two partial low s) [
    | inl k ↦ absurd (hopeless f k)
    | inr k ↦ k.extends side 1 (get_or-set_same p side (Some 1) None low)
  ];
}

one_known : (q : Question) (p : List (Option ℕ)) (x : Setting) (xs ys : List Setting) → IsKnown q p x → xs ≡ []
    → ys ≡ xs ++ x ∷ [] → AreKnown q p ys
one_known q p x xs ys known none e =
    subst (AreKnown q p) (sym (e ∙ ap (λ zs. zs ++ x ∷ []) none))
    (All-from_get_or (IsKnown q p) (x ∷ []) nowhere (one_at q p x known))

pub AreKnown-none : (q : Question) (p : List (Option ℕ)) (side : ℕ) (xs ys : List Setting) → q.values ≡ 2
    → IsPartial q p → side < length p
    → IsHopeless q (set p side (Some 1)) → xs ≡ [] → ys ≡ xs ++ record { side = side; value = 0 } ∷ [] → AreKnown q p ys
AreKnown-none q p side xs ys two partial low hopeless = one_known q p (record { side = side; value = 0 }) xs ys
    (known_none q p side two partial low hopeless)

pub AreKnown-line : (q : Question) (p : List (Option ℕ)) (side : ℕ) (xs ys : List Setting) → q.values ≡ 2
    → IsPartial q p → side < length p
    → IsHopeless q (set p side (Some 0)) → xs ≡ [] → ys ≡ xs ++ record { side = side; value = 1 } ∷ [] → AreKnown q p ys
AreKnown-line q p side xs ys two partial low hopeless = one_known q p (record { side = side; value = 1 }) xs ys
    (known_line q p side two partial low hopeless)

-- what follows from both values is known
pub AreKnown-both : (q : Question) (p : List (Option ℕ)) (side : ℕ) (first second settings : List Setting)
    → q.values ≡ 2 → IsPartial q p → side < length p
    → AreKnown q (set p side (Some 1)) first → AreKnown q (set p side (Some 0)) second → AreIn first second settings
    → AreKnown q p settings
AreKnown-both q p side first second settings two partial low with_line without both =
    map_all (λ x. Contains first x × Contains second x) (IsKnown q p) settings nowhere (λ x is.
    let one = All-contains (IsKnown q (set p side (Some 1))) first x with_line is.0 in
    let none = All-contains (IsKnown q (set p side (Some 0))) second x without is.1 in
    record {
      in_range = one.in_range;
      always = λ f s. elim (solves_one q p f side two partial low s) [
        | inl k ↦ none.always f k
        | inr k ↦ one.always f k
      ];
    }) both

-- what is known is so still when more is set
pub IsForced-known : (q : Question) (start p : List (Option ℕ)) (setting : Setting) → Keeps start p
    → IsKnown q start setting → IsOpen p setting.side
    → IsForced q p setting.side setting.value
IsForced-known q start p setting keeps known unset = record {
  unset = unset;
  in_range = known.in_range;
  forced = λ f s. known.always f (Solves-keeps q start p f keeps s);
}

-- one pass after another
pub IsDeduced-advanced : (q : Question) (a b c : List (Option ℕ)) → IsPartial q a → Narrows q a b
    → IsDeduced q b c Advanced → IsDeduced q a c Advanced
IsDeduced-advanced q a b c partial n h =
    let le = open-keeps a b (partial.size ∙ sym n.partial.size) n.keeps in
    let fewer = h.1 in
    (Narrows-twice q a b c n h.0, omega arith)

pub OnErr-from : {T E : Type 0} (r : Result T E) (P : Type 0) → P → OnErr r P
OnErr-from (Ok x) P h = tt
OnErr-from (Err e) P h = h

pub OnErr-after : {T E : Type 0} (q : Question) (a b c : List (Option ℕ)) (r : Result T E) → Narrows q a b
    → OnErr r (Narrows q b c) → OnErr r (Narrows q a c)
OnErr-after q a b c (Ok x) n h = tt
OnErr-after q a b c (Err x) n h = Narrows-twice q a b c n h

pub AreKnown-agreed : {T E : Type 0} (r : Result T E) (q : Question) (p : List (Option ℕ)) (side : ℕ)
    (first second settings : List Setting) → q.values ≡ 2 → IsPartial q p
    → side < length p → AreKnown q (set p side (Some 1)) first → AreKnown q (set p side (Some 0)) second
    → OnOk r (AreIn first second settings) → OnOk r (AreKnown q p settings)
AreKnown-agreed (Ok x) q p side first second settings two partial low one none both = AreKnown-both q p side first
    second settings two partial low one none both
AreKnown-agreed (Err x) q p side first second settings two partial low one none both = tt

-- the trail is at least as long as it was
pub mark_within : (a b : Trailed) (m : ℕ) → m ≡ length a.trail → Grows a b → m ≤ length b.trail
mark_within a b m e g = let t = ap length g.trail in let l = length-take (length a.trail) b.trail in omega arith

-- a pass that found it not dead, after one that set something
pub Narrows-alive : (q : Question) (a b : List (Option ℕ)) (pass : Pass) → IsPartial q a → (pass ≡ Settled)
    ⊎ (pass ≡ Advanced) → IsDeduced q a b pass → Narrows q a b
Narrows-alive q a b Settled partial alive h = subst (λ p. Narrows q a p) (sym h) (Narrows-itself q a partial)
Narrows-alive q a b Advanced partial alive h = h.0
Narrows-alive q a b DeadPass partial (inl e) h = absurd (cc)
Narrows-alive q a b DeadPass partial (inr e) h = absurd (cc)

pub IsDeduced-more : (q : Question) (a b c : List (Option ℕ)) → Narrows q b c → IsDeduced q a b Advanced
    → IsDeduced q a c Advanced
IsDeduced-more q a b c n h =
    let le = open-keeps b c (h.0.partial.size ∙ sym n.partial.size) n.keeps in
    let fewer = h.1 in
    (Narrows-twice q a b c h.0 n, omega arith)
