use Rattle.std.proofs.Common.{◌<◌, length, inr, arith}
use Rattle.hall_slither.proofs.Degree.{all_held, sides_below, degree_is}
use Rattle.hall_slither.proofs.dot.degree.Goals as goal

pub line_at-requires-4 : goal.line_at-requires-4
line_at-requires-4 c =
    rw c.sides_at.ensures (all_held _ (λ s. s < length c.args.lines.now)
    (λ s h. let k = sides_below c.args.size c.args.dot s c.requires.size.some_cols c.requires.board (inr (inr h)) in
    omega arith))

pub returns-clause-degree : goal.returns-clause-degree
returns-clause-degree c =
    let e = degree_is c.args.size c.args.lines.now c.args.dot c.requires.size.some_cols c.requires.board in
    let u = rw c.sides_at.ensures at c.line_at.ensures.count in
    let l = rw c.sides_at.ensures at c.line_at-2.ensures.count in
    let r = rw c.sides_at.ensures at c.line_at-3.ensures.count in
    let d = rw c.sides_at.ensures at c.line_at-4.ensures.count in
    omega arith
