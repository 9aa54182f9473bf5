-- Colours that differ or not.
use Rattle.std.proofs.Common.{◌≡◌, ◌<◌, ◌∙◌, ℕ, Bool, true, false, List, length, get_or, set, refl, sym, ap, subst, inl}
use Rattle.std.proofs.Common.{inr, arith}
use Rattle.std.specs.Prelude.{All, not}
use Rattle.std.proofs.lemmas.Bool.{cases_eq}
use Rattle.std.proofs.lemmas.List.{length-set, get_or-set_same, get_or-set_other, get_or_default}
use Rattle.std.proofs.lemmas.List.Elements.{All-get_or}
use Rattle.hall_slither.specs.declared.colour.Link.{Link}
use Rattle.hall_slither.specs.Colour.{turned, Obeys, AreTurned, own_link}

turned_twice : (a b : Bool) → turned a (turned a b) ≡ b
turned_twice true true = refl
turned_twice true false = refl
turned_twice false b = refl

turned_both : (a b c : Bool) → turned (turned a b) c ≡ turned b (turned a c)
turned_both true true true = refl
turned_both true true false = refl
turned_both true false true = refl
turned_both true false false = refl
turned_both false b c = refl

-- a cell, the one that it hangs on, and the one on which that hangs
pub AreTurned-twice : (d e : Bool) (x y z : ℕ) (colour : ℕ → Bool) → AreTurned d x y colour → AreTurned e y z colour
    → AreTurned (turned e d) x z colour
AreTurned-twice d e x y z colour first second = first ∙ ap (turned d) second ∙ sym (turned_both e d (colour z))

-- the same the other way round
pub AreTurned-back : (d : Bool) (x y : ℕ) (colour : ℕ → Bool) → AreTurned d x y colour → AreTurned d y x colour
AreTurned-back d x y colour h = sym (ap (turned d) h ∙ turned_twice d (colour y))

unlike : (b : Bool) → b ≡ not b → ⊥
unlike true e = cc
unlike false e = cc

pub unlike_itself : (d : Bool) (x : ℕ) (colour : ℕ → Bool) → not d ≡ false → AreTurned d x x colour → ⊥
unlike_itself true x colour e h = unlike (colour x) h
unlike_itself false x colour e h = absurd (cc)

-- one link more that the colours follow
pub Obeys-set : (links : List Link) (x : ℕ) (link : Link) (colour : ℕ → Bool) → Obeys links colour → x < length links
    → colour x ≡ turned link.differs (colour link.to)
    → Obeys (set links x link) colour
Obeys-set links x link colour obeys low new y small = elim (cases_eq y x) [
  | inl same ↦
      let here : get_or (set links x link) y (own_link y) ≡ link =
      subst (λ k. get_or (set links x link) k (own_link y) ≡ link) (sym same)
      (get_or-set_same links x link (own_link y) low) in
      subst (λ (l : Link). colour y ≡ turned l.differs (colour l.to)) (sym here)
      (subst (λ k. colour k ≡ turned link.differs (colour link.to)) (sym same) new)
  | inr other ↦
      subst (λ (l : Link). colour y ≡ turned l.differs (colour l.to))
      (sym (get_or-set_other links x y link (own_link y) other))
      (obeys y (let size = length-set links x link in omega arith))
]

-- what a link tells
pub AreTurned-link : (links : List Link) (x : ℕ) (link : Link) (colour : ℕ → Bool) → Obeys links colour
    → x < length links → link ≡ get_or links x link
    → AreTurned link.differs x link.to colour
AreTurned-link links x link colour obeys low at =
    let same : get_or links x (own_link x) ≡ link = get_or_default links x (own_link x) link low ∙ sym at in
    subst (λ (l : Link). colour x ≡ turned l.differs (colour l.to)) same (obeys x low)

pub to_within : (links : List Link) (x : ℕ) (link : Link) → All (λ l. l.to < length links) links → x < length links
    → link ≡ get_or links x link → link.to < length links
to_within links x link all low at = subst (λ (l : Link). l.to < length links) (sym at)
    (All-get_or (λ l. l.to < length links) links x link low all)
