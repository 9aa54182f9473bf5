use Rattle.std.proofs.Common.{◌≡◌, ◌<◌, ◌≤◌, Some, None, length, get_or, set, take, sym, ◌∙◌, subst, inl, inr, arith}
use Rattle.std.specs.Prelude.{Contains}
use Rattle.std.proofs.lemmas.List.{take_all, get_or-set_same}
use Rattle.hall_grid.specs.Board.{cells}
use Rattle.hall_grid.specs.Reached.{IsMarked}
use Rattle.hall_grid.specs.RegionLaws.{marked_below}
use Rattle.hall_grid.proofs.Labelling.{place_in, more_place}
use Rattle.hall_nurikabe.proofs.Raises.{Raises-none, Raises-set, rises}
use Rattle.hall_nurikabe.proofs.steps.raise_around.Goals as goal
use Rattle.hall_nurikabe.proofs.steps.raise_around.Goals.{in-Some+then-marks-other+then-left-other}
use Rattle.hall_nurikabe.proofs.steps.raise_around.Goals.{in-Some+else-marks-other}
use Rattle.hall_nurikabe.proofs.steps.raise_around.Goals.{else-marks-other-via-then-marks-other+else-left-other}
use Rattle.hall_nurikabe.proofs.steps.raise_around.Goals.{else-marks-other-via-else-marks-other, in_default}

pub bounds-marks-other : goal.bounds-marks-other
bounds-marks-other c =
    let low : c.in-Some.other < cells c.args.size =
    ((c.neighbours-place-items.ensures.touching c.in-Some.other).0
    (place_in c.neighbours-place-items.result c.loop-place.place-index _ _ (omega arith) c.in-Some.is)).0 in
    omega arith

pub loop-place-preserved : goal.loop-place-preserved
loop-place-preserved c = elim c.match-place.branch [
  | in-Some+then-marks-other+then-left-other w ↦
      let low : w.in-Some.other < cells c.args.size =
      ((c.neighbours-place-items.ensures.touching w.in-Some.other).0
      (place_in c.neighbours-place-items.result c.loop-place.place-index _ _ (omega arith) w.in-Some.is)).0 in
      let here : w.in-Some.other < length c.loop-place.left = omega arith in
      rw w.left-is
      record {
        raises = Raises-set c.args.reach c.args.left.now c.loop-place.left w.in-Some.other here w.if-left-other.true
            c.loop-place.invariant.raises;
        beside = λ other h m. elim (more_place c.neighbours-place-items.result c.loop-place.place-index None
            (Some other) (omega arith) h) [
              | inl k ↦
                  let before = c.loop-place.invariant.beside other k m in
                  let up = rises c.args.reach c.loop-place.left (set c.loop-place.left w.in-Some.other c.args.reach)
                  other
                  (Raises-set c.args.reach c.loop-place.left c.loop-place.left w.in-Some.other here w.if-left-other.true
                  (Raises-none c.args.reach c.loop-place.left)) in
                  omega arith
              | inr e ↦
                  let k : Some w.in-Some.other ≡ Some other = sym w.in-Some.is ∙ e in
                  let same : w.in-Some.other ≡ other = cc in
                  let at : get_or (set c.loop-place.left w.in-Some.other c.args.reach) w.in-Some.other 0 ≡
                  c.args.reach =
                  get_or-set_same c.loop-place.left w.in-Some.other c.args.reach 0 here in
                  subst (λ x. c.args.reach ≤ get_or (set c.loop-place.left w.in-Some.other c.args.reach) x 0) same
                  (omega arith)
            ];
      }
  | in-Some+else-marks-other w ↦
      rw w.left-is
      record {
        raises = c.loop-place.invariant.raises;
        beside = λ other h m. elim (more_place c.neighbours-place-items.result c.loop-place.place-index None
            (Some other) (omega arith) h) [
              | inl k ↦ c.loop-place.invariant.beside other k m
              | inr e ↦
                  let k : Some w.in-Some.other ≡ Some other = sym w.in-Some.is ∙ e in
                  let same : w.in-Some.other ≡ other = cc in
                  elim w.else-marks-other.branch [
                    | else-marks-other-via-then-marks-other+else-left-other v ↦
                        subst (λ x. c.args.reach ≤ get_or c.loop-place.left x 0) same
                        (omega (arith, v.if-left-other.false))
                    | else-marks-other-via-else-marks-other v ↦
                        let no = v.if-marks-other.false in
                        let yes : IsMarked c.args.marks.now w.in-Some.other = subst (λ x. IsMarked c.args.marks.now x)
                        (sym same) m in
                        absurd (cc)
                  ]
            ];
      }
  | in_default w ↦
      rw w.left-is
      record {
        raises = c.loop-place.invariant.raises;
        beside = λ other h m. elim (more_place c.neighbours-place-items.result c.loop-place.place-index None
            (Some other) (omega arith) h) [
              | inl k ↦ c.loop-place.invariant.beside other k m
              | inr e ↦ absurd (w.in_default.not-Some other e)
            ];
      }
]

pub returns-clause-beside : goal.returns-clause-beside
returns-clause-beside c = λ other t m.
    let low : other < cells c.args.size = marked_below c.args.marks.now other (cells c.args.size) c.requires.marks m in
    let all : take c.loop-place.place-index c.neighbours-place-items.result ≡ c.neighbours-place-items.result = take_all
    _ _ (omega arith) in
    c.loop-place.invariant.beside other
    (subst (λ l. Contains l (Some other)) (sym all) ((c.neighbours-place-items.ensures.touching other).1 (low, t))) m
