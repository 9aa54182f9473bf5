-- What is found of a sentence, as it is told of a world.
use Rattle.std.proofs.Common.{◌≡◌, ◌⊎◌, ◌++◌, ◌∷◌, [], List, Result, Ok, Err, IfOk, inl, inr, sym, subst}
use Rattle.hall_policy.specs.World.{World}
use Rattle.hall_check.specs.Asking.{CanAsk, asked_world}
use Rattle.hall_check.specs.Checks.{TellsSentence, AreTold}
use Rattle.hall_check.specs.Finds.{Finds}
use Rattle.hall_check.specs.declared.counts.Asking.{Asking}
use Rattle.hall_check.specs.declared.sentence.Breaches.{Breaches}
use Rattle.hall_check.specs.declared.sentence.Sentence.{Sentence}
use Rattle.hall_check.specs.declared.sentence.Spot.{Spot}

-- the sentence is the first or one of the others
abbrev pub IsOneOf : Sentence → Sentence → List Sentence → Type 0
IsOneOf s first [] = s ≡ first
IsOneOf s first (next ∷ others) = (s ≡ first) ⊎ IsOneOf s next others

-- it is so of the first and of each of the others
abbrev pub EachOf : (Sentence → Type 0) → Sentence → List Sentence → Type 0
EachOf P first [] = P first
EachOf P first (next ∷ others) = P first × EachOf P next others

-- what is so of each is so of the one
one_of : (P : Sentence → Type 0) (s first : Sentence) (others : List Sentence) →
    IsOneOf s first others → EachOf P first others → P s
one_of P s first [] is so = subst P (sym is) so
one_of P s first (next ∷ others) (inl is) (so, _) = subst P (sym is) so
one_of P s first (next ∷ others) (inr is) (_, rest) = one_of P s next others is rest

-- what was found in the rows is told of their world
pub telling : {X E : Type 0} (asking : Asking) (says : Sentence → X → Type 0) (spot_of : X → Spot) (rows kept : List X)
    (s first : Sentence) (others : List Sentence) (result : Result Breaches E) → IsOneOf s first others →
    EachOf (λ t. (found : Breaches) → Finds (says t) spot_of kept found → TellsSentence (asked_world asking) t found)
    first others →
    (CanAsk asking → rows ≡ kept) → IfOk result (λ found. CanAsk asking → Finds (says s) spot_of rows found) →
    IfOk result (λ found. CanAsk asking → TellsSentence (asked_world asking) s found)
telling asking says spot_of rows kept s first others (Ok found) is turns same finds = λ able.
    one_of
    (λ t. (breaches : Breaches) → Finds (says t) spot_of kept breaches →
    TellsSentence (asked_world asking) t breaches)
    s first others is turns found
    (subst (λ xs. Finds (says s) spot_of xs found) (same able) (finds able))
telling asking says spot_of rows kept s first others (Err e) is turns same finds = tt

-- what is found of one sentence more stands at the end
pub told_more : (world : World) (sentences : List Sentence) (told : List Breaches) (sentence : Sentence)
    (found : Breaches) → AreTold world sentences told → found.sentence ≡ sentence →
    TellsSentence world sentence found → AreTold world (sentences ++ sentence ∷ []) (told ++ found ∷ [])
told_more world [] [] s f are is tells = (is, tells, tt)
told_more world [] (g ∷ gs) s f are is tells = absurd are
told_more world (t ∷ ts) [] s f are is tells = absurd are
told_more world (t ∷ ts) (g ∷ gs) s f (own, says, rest) is tells = (own, says, told_more world ts gs s f rest is tells)
