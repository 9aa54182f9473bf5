use Rattle.std.proofs.Common.{◌≡◌, ℕ, ◌+◌, ◌-◌, List, length, take, drop, get_or, arith}
use Rattle.std.proofs.lemmas.List.{take_all, length-drop}
use Rattle.hall_grid.specs.Slither.{flat_sides, all_sides}
use Rattle.hall_grid.proofs.Values.{sides_parts, sides_answer}
use Rattle.hall_grid.proofs.answer.parse_sides.Goals as goal
use Rattle.hall_grid.proofs.answer.parse_sides.Goals.{then-text-all_sides-via-then-text-all_sides}
use Rattle.hall_grid.proofs.answer.parse_sides.Goals.{then-text-all_sides-via-else-text-all_sides+then-text-flat-ne47}

-- what is behind a place, as a slice to the end
rest_of : (n : ℕ) (text : List ℕ) → take (length text - n) (drop n text) ≡ drop n text
rest_of n text = take_all (length text - n) (drop n text) (omega (arith, length-drop n text))

pub returns-then-text-all_sides : goal.returns-then-text-all_sides
returns-then-text-all_sides c = λ f a.
    let same = c.size-size.ensures.size in
    let parts = sides_parts c.args.puzzle.now c.size-size.result c.args.text.now f c.requires same a in
    elim c.then-text-all_sides.branch [
      | then-text-all_sides-via-then-text-all_sides w ↦ omega arith
      | then-text-all_sides-via-else-text-all_sides+then-text-flat-ne47 w ↦
          let slash = parts.slash in w.if-text-flat-ne47.true (cc)
    ]

pub returns-in_default : goal.returns-in_default
returns-in_default c = λ f a.
    let same = c.size-size.ensures.size in
    let parts = sides_parts c.args.puzzle.now c.size-size.result c.args.text.now f c.requires same a in
    let none = rw (c.in_default.is, c.flat_sides-flat.ensures) at c.in_ok-values.ensures in
    none _ parts.flat

pub returns-in_default-2 : goal.returns-in_default-2
returns-in_default-2 c = λ f a.
    let same = c.size-size.ensures.size in
    let parts = sides_parts c.args.puzzle.now c.size-size.result c.args.text.now f c.requires same a in
    let none = rw (c.in_default-2.is, c.flat_sides-flat.ensures, rest_of) at c.in_ok-upright.ensures in
    none _ parts.upright

pub returns : goal.returns
returns c =
    let same = c.size-size.ensures.size in
    let exact : length c.args.text.now ≡ all_sides c.size-size.result + 1 = omega arith in
    let slash : get_or c.args.text.now (flat_sides c.size-size.result) 0 ≡ 47 = cc in
    let before = rw (c.in-Some.is, c.flat_sides-flat.ensures) at c.in_ok-values.ensures in
    let after = rw (c.in-Some-2.is, c.flat_sides-flat.ensures, rest_of) at c.in_ok-upright.ensures in
    rw (c.new.ensures, c.in_ok-extend_from_slice.ensures.items, c.deref.ensures.value)
    (sides_answer c.args.puzzle.now c.size-size.result _ _ _ c.requires same exact slash before after)
