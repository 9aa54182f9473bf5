use Rattle.std.proofs.Common.{◌≡◌, ◌<◌, Some, None, length, get_or, set, take, sym, ◌∙◌, subst, inl, inr, arith}
use Rattle.std.specs.Prelude.{Contains}
use Rattle.std.proofs.lemmas.List.{take_all}
use Rattle.hall_grid.specs.Board.{cells}
use Rattle.hall_grid.specs.Component.{IsLabelled}
use Rattle.hall_grid.proofs.Labelling.{place_in, more_place, one_label, labelled_below}
use Rattle.hall_nurikabe.specs.declared.exits.Exits.TheVariants.{Nowhere}
use Rattle.hall_nurikabe.specs.Exit.{Covers}
use Rattle.hall_nurikabe.proofs.KnowsExits.{AddsExit-set, covers_here, covers_set}
use Rattle.hall_nurikabe.proofs.exits.add_exit.Goals as goal
use Rattle.hall_nurikabe.proofs.exits.add_exit.Goals.{in-Some+in-Some-labels, in-Some+in_default-labels, in_default}

pub offset_bounds-labels-other : goal.offset_bounds-labels-other
offset_bounds-labels-other c =
    let low : c.in-Some.other < cells c.args.size =
    ((c.neighbours-place-items.ensures.touching c.in-Some.other).0
    (place_in c.neighbours-place-items.result c.loop-place.place-index _ _ (omega arith) c.in-Some.is)).0 in
    omega arith

pub bounds : goal.bounds
bounds c =
    let low : c.in-Some.other < cells c.args.size =
    ((c.neighbours-place-items.ensures.touching c.in-Some.other).0
    (place_in c.neighbours-place-items.result c.loop-place.place-index _ _ (omega arith) c.in-Some.is)).0 in
    omega arith

pub loop-place-preserved : goal.loop-place-preserved
loop-place-preserved c = elim c.match-place.branch [
  | in-Some+in-Some-labels w ↦
      let low = c.requires.labels w.in-Some.other w.in-Some-labels.label w.in-Some-labels.is in
      let here : w.in-Some-labels.label < length c.loop-place.exits = omega arith in
      rw w.exits-is
      record {
        adds = AddsExit-set c.args.cell c.args.exits.now c.loop-place.exits w.in-Some-labels.label w.with.result here
            w.with.ensures.kept w.with.ensures.one c.loop-place.invariant.adds;
        beside = λ other label h l. elim (more_place c.neighbours-place-items.result c.loop-place.place-index None
            (Some other) (omega arith) h) [
              | inl k ↦
                  covers_set c.loop-place.exits w.in-Some-labels.label label w.with.result c.args.cell here
                  w.with.ensures.cell (λ _. w.with.ensures.cell)
                  (c.loop-place.invariant.beside other label k l)
              | inr e ↦
                  let k : Some w.in-Some.other ≡ Some other = sym w.in-Some.is ∙ e in
                  let same : w.in-Some.other ≡ other = cc in
                  let one = one_label c.args.labels.now w.in-Some.other w.in-Some-labels.label label w.in-Some-labels.is
                  (subst (λ x. IsLabelled c.args.labels.now x label) (sym same) l) in
                  subst (λ x. Covers (get_or (set c.loop-place.exits w.in-Some-labels.label w.with.result) x Nowhere)
                  c.args.cell) one
                  (covers_here c.loop-place.exits w.in-Some-labels.label w.with.result c.args.cell here
                  w.with.ensures.cell)
            ];
      }
  | in-Some+in_default-labels w ↦
      rw w.exits-is
      record {
        adds = c.loop-place.invariant.adds;
        beside = λ other label h l. elim (more_place c.neighbours-place-items.result c.loop-place.place-index None
            (Some other) (omega arith) h) [
              | inl k ↦ c.loop-place.invariant.beside other label k l
              | inr e ↦
                  let k : Some w.in-Some.other ≡ Some other = sym w.in-Some.is ∙ e in
                  let same : w.in-Some.other ≡ other = cc in
                  absurd (w.in_default-labels.not-Some label
                  (subst (λ x. IsLabelled c.args.labels.now x label) (sym same)
                  l))
            ];
      }
  | in_default w ↦
      rw w.exits-is
      record {
        adds = c.loop-place.invariant.adds;
        beside = λ other label h l. elim (more_place c.neighbours-place-items.result c.loop-place.place-index None
            (Some other) (omega arith) h) [
              | inl k ↦ c.loop-place.invariant.beside other label k l
              | inr e ↦ absurd (w.in_default.not-Some other e)
            ];
      }
]

pub returns-clause-beside : goal.returns-clause-beside
returns-clause-beside c = λ label b.
    let low : b.0 < cells c.args.size = (let k = labelled_below c.args.labels.now b.0 label b.2 in omega arith) in
    let all : take c.loop-place.place-index c.neighbours-place-items.result ≡ c.neighbours-place-items.result = take_all
    _ _ (omega arith) in
    c.loop-place.invariant.beside b.0 label
    (subst (λ l. Contains l (Some b.0)) (sym all) ((c.neighbours-place-items.ensures.touching b.0).1 (low, b.1))) b.2
