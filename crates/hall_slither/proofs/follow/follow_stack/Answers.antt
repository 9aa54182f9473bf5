use Rattle.std.proofs.Common.{◌≡◌, ◌<◌, Some, length, inl, inr, sym, subst, arith, rules, ap}
use Rattle.std.specs.Prelude.{Contains, Ok}
use Rattle.std.specs.declared.alloc.AllocError.{AllocError}
use Rattle.std.proofs.lemmas.List.Elements.{All-pop, Contains-push_cases}
use Rattle.hall_solve.specs.declared.deduce.Pass.{Pass}
use Rattle.hall_solve.specs.declared.deduce.Pass.TheVariants.{Settled, Advanced, Dead}
use Rattle.hall_slither.specs.Count.{IsCentre, IsSilent}
use Rattle.hall_slither.specs.Follow.{IsFollowed}
use Rattle.hall_slither.proofs.IsFollowed.{IsFollowed-settled, IsFollowed-advanced, IsFollowed-dead, IsFollowed-failed}
use Rattle.hall_slither.proofs.IsFollowed.{IsFollowed-start, IsFollowed-at}
use Rattle.hall_slither.proofs.follow.follow_stack.Goals as goal

pub returns-in_err-follow_centre-clause-followed : goal.returns-in_err-follow_centre-clause-followed
returns-in_err-follow_centre-clause-followed c =
    let now = c.args.position.now in
    let so_far = c.loop-centre.invariant in
    IsFollowed-failed now.puzzle.now now.partial.now c.loop-centre.position.partial.now
    c.follow_centre.new.position.partial.now c.loop-centre.pass
    c.in_err-follow_centre.field-0.0 c.from_residual.result c.from_residual.ensures.0 now.fits so_far.alive
    so_far.followed
    (IsFollowed-at _ _ _ _ _ (ap (λ n. n.0) so_far.same) c.in_err-follow_centre.ensures.followed)

pub returns-in-Dead-clause-followed : goal.returns-in-Dead-clause-followed
returns-in-Dead-clause-followed c =
    let now = c.args.position.now in
    let so_far = c.loop-centre.invariant in
    IsFollowed-dead now.puzzle.now now.partial.now c.loop-centre.position.partial.now
    c.follow_centre.new.position.partial.now c.loop-centre.pass
    c.in_ok-follow_centre.field-0 c.in-Dead.is now.fits so_far.alive so_far.followed
    (IsFollowed-at _ _ _ _ _ (ap (λ n. n.0) so_far.same) c.in_ok-follow_centre.ensures.followed)

pub loop-centre-preserved : goal.loop-centre-preserved
loop-centre-preserved c =
    let now = c.args.position.now in
    let so_far = c.loop-centre.invariant in
    record {
      followed = IsFollowed-advanced now.puzzle.now now.partial.now c.loop-centre.position.partial.now
          c.follow_centre.new.position.partial.now
          c.loop-centre.pass c.in_ok-follow_centre.field-0 c.in-Advanced.is now.fits so_far.alive so_far.followed
          (IsFollowed-at _ _ _ _ _ (ap (λ n. n.0) so_far.same) c.in_ok-follow_centre.ensures.followed);
      same = search rules;
      alive = λ (e : Advanced ≡ Dead). cc;
      silent = λ all (e : Advanced ≡ Settled). absurd (cc);
    }

pub loop-centre-preserved-in-Settled : goal.loop-centre-preserved-in-Settled
loop-centre-preserved-in-Settled c =
    let now = c.args.position.now in
    let before = c.loop-centre.invariant in
    let board = now.puzzle.now in
    let there = c.loop-centre.position.partial.now in
    let after = c.follow_centre.new.position.partial.now in
    let next = IsFollowed-at board _ _ _ _ (ap (λ n. n.0) before.same) c.in_ok-follow_centre.ensures.followed in
    let last : IsFollowed {E = AllocError} board there after (Ok Settled) = subst
    (λ (x : Pass). IsFollowed {E = AllocError} board there after (Ok x)) c.in-Settled.is next in
    record {
      followed = IsFollowed-settled board now.partial.now there after c.loop-centre.pass c.in_ok-follow_centre.field-0
          c.in-Settled.is before.alive before.followed next;
      same = search rules;
      alive = before.alive;
      silent = λ all settled x is. elim (before.silent all settled x is) [
        | inl has ↦ elim (Contains-push_cases c.pop.new.self.items c.in-Some.centre x
            (subst (λ xs. Contains xs x) c.in-Some.ensures.items has)) [
              | inl still ↦ inl (subst (λ xs. Contains xs x) (sym (c.in_ok-follow_centre.ensures.still c.in-Settled.is))
                  still)
              | inr e ↦ inr (subst (λ p. IsSilent board p x) (sym last.deduced)
                  (subst (IsSilent board there.places) e (subst (λ b. IsSilent b there.places c.in-Some.centre)
                  (ap (λ n. n.0) before.same) (c.in_ok-follow_centre.ensures.silent c.in-Settled.is))))
            ]
        | inr silent ↦ inr (subst (λ p. IsSilent board p x) (sym last.deduced) silent)
      ];
    }

pub returns-clause-silent : goal.returns-clause-silent
returns-clause-silent c = λ all settled x is. elim (c.loop-centre.invariant.silent all settled x is) [
  | inl has ↦ absurd (let low : has.0 < length c.loop-centre.position.stack.now.items = has.1 in let empty =
      c.in_default.ensures.cases in let size = c.loop-centre.position.stack.now.ok.0 in omega arith)
  | inr silent ↦ silent
]

pub loop-centre-init : goal.loop-centre-init
loop-centre-init c = record {
  followed = IsFollowed-start c.args.position.now.puzzle.now c.args.position.now.partial.now;
  same = search rules;
  alive = λ (e : Settled ≡ Dead). cc;
  silent = λ all settled centre is. inl (all centre is);
}

pub follow_centre-requires : goal.follow_centre-requires
follow_centre-requires c =
    (All-pop (IsCentre c.loop-centre.position.puzzle.now.size) c.loop-centre.position.stack.now.items
    c.pop.new.self.items (Some c.in-Some.centre) c.in-Some.ensures.items c.loop-centre.position.centres).1
