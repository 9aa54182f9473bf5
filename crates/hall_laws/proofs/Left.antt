-- What groups of requests leave has each of them that got another reply than 503.
use Rattle.std.proofs.Common.{◌≡◌, ◌∙◌, ap, sym, subst, inl, inr, List, [], ◌∷◌, ◌++◌}
use Rattle.hall_policy.specs.World.{World}
use Rattle.hall_desk.specs.declared.reply.Reply.TheVariants.{Unavailable}
use Rattle.hall_http.specs.Connection.{Exchange, of_groups}
use Rattle.hall_http.specs.Groups.{AreRefusedAlike, IsLeftByGroups, IsRunWithGroup}
use Rattle.hall_http.specs.Reply.{BytesOf}
use Rattle.hall_http.specs.Serving.{AnswersAt, IsRunOver}
use Rattle.hall_http.proofs.Grouped.{groups_append}
use Rattle.hall_laws.specs.Happened.{HaveHappened}
use Rattle.hall_laws.proofs.Among.{in_either}
use Rattle.hall_laws.proofs.Lived.{happened_then, in_run, made_happened, run_happened}

-- each of a group that was refused got 503
refused_in : (xs made : List Exchange) (front : List Exchange) (x : Exchange) (rest : List Exchange)
    → AreRefusedAlike xs made → xs ≡ front ++ x ∷ rest → BytesOf Unavailable x.reply
refused_in [] made [] x rest refused all = absurd cc
refused_in [] made (y ∷ front) x rest refused all = absurd cc
refused_in (y ∷ xs) made [] x rest (told, reply, others, is, more) all =
    let same : y ≡ x = cc in subst (λ (z : Exchange). BytesOf Unavailable z.reply) same told
refused_in (y ∷ xs) made (z ∷ front) x rest (told, reply, others, is, more) all =
    refused_in xs others front x rest more (let later : xs ≡ front ++ x ∷ rest = cc in later)

-- the request was answered in the world to which those before it led, and those after it lead on from what it left
pub record IsBetween (world : World) (before : List Exchange) (x : Exchange) (after : List Exchange) (left : World)
    : Type 0 where
  pub between : World
  pub kept : World
  pub led : HaveHappened world before between
  pub answered : AnswersAt between x.moment x.request x.reply kept
  pub since : HaveHappened kept after left

module _ (x : Exchange) where
  run_keeps : (before after : List Exchange) (world last : World) → IsRunOver world (before ++ x ∷ after) last
      → IsBetween world before x after last
  run_keeps before after world last run =
      let part = in_run before x after world last run in
      record {
        between = part.between;
        kept = part.kept;
        led = part.led;
        answered = part.answered;
        since = run_happened after part.kept last part.run;
      }

  -- more that happened before, or after
  before_that : (world : World) (xs : List Exchange) (mid : World) (before after : List Exchange) (left : World)
      → HaveHappened world xs mid → IsBetween mid before x after left → IsBetween world (xs ++ before) x after left
  before_that world xs mid before after left first it = record {
    between = it.between;
    kept = it.kept;
    led = happened_then world xs mid before it.between first it.led;
    answered = it.answered;
    since = it.since;
  }

  after_that : (world : World) (before after : List Exchange) (mid : World) (ys : List Exchange) (left : World)
      → IsBetween world before x after mid → HaveHappened mid ys left → IsBetween world before x (after ++ ys) left
  after_that world before after mid ys left it last = record {
    between = it.between;
    kept = it.kept;
    led = it.led;
    answered = it.answered;
    since = happened_then it.kept after mid ys left it.since last;
  }

  module _ (world left : World) (granted : ¬ (BytesOf Unavailable x.reply)) (before after : List Exchange) where
    with_group : (groups : List (List Exchange)) → (with : IsRunWithGroup world groups left)
        → of_groups with.before ++ (with.group ++ of_groups with.after) ≡ before ++ x ∷ after
        → IsBetween world before x after left
    with_group groups with parts =
        let firsts = of_groups with.before in
        let lasts = of_groups with.after in
        let made = made_happened with.group with.made with.between left with.refused with.answered in
        elim (in_either firsts (with.group ++ lasts) before x after parts) [
          | inl (rest, inside, tail) ↦
              let it = run_keeps before rest world with.between
              (subst (λ (ys : List Exchange). IsRunOver world ys with.between) inside with.run) in
              subst (λ (ys : List Exchange). IsBetween world before x ys left) (sym tail)
              (after_that world before rest with.between (with.group ++ lasts) left it
              (happened_then with.between with.group left lasts left made (run_happened lasts left left with.stays)))
          | inr (first, cut, second) ↦ elim (in_either with.group lasts first x after second) [
            | inl (rest, inside, tail) ↦
                absurd (granted (refused_in with.group with.made first x rest with.refused inside))
            | inr (more, through, third) ↦
                let it = run_keeps more after left left
                (subst (λ (ys : List Exchange). IsRunOver left ys left) third with.stays) in
                let grouped = before_that with.between with.group left more after left made it in
                let all = before_that world firsts with.between (with.group ++ more) after left
                (run_happened firsts world with.between with.run) grouped in
                subst (λ (ys : List Exchange). IsBetween world ys x after left)
                (sym (cut ∙ ap (λ (ys : List Exchange). firsts ++ ys) through)) all
          ]
        ]

    pub left_keeps : (groups : List (List Exchange)) → IsLeftByGroups world groups left
        → of_groups groups ≡ before ++ x ∷ after → IsBetween world before x after left
    left_keeps groups (inl run) all =
        run_keeps before after world left (subst (λ (ys : List Exchange). IsRunOver world ys left) all run)
    left_keeps groups (inr with) all =
        with_group groups with (sym (ap of_groups with.all ∙ groups_append with.before (with.group ∷ with.after)) ∙ all)
