-- Runs over a store, one step more.
use Rattle.std.proofs.Common.{◌≡◌, inl, inr, sym, ap, ℕ, zero, suc, ◌≤◌, length, take, arith, List, [], ◌∷◌, ◌++◌, refl}
use Rattle.std.proofs.Common.{◌∙◌, subst}
use Rattle.std.proofs.lemmas.List.{append_assoc}
use Rattle.hall_policy.specs.World.{World}
use Rattle.hall_policy.specs.declared.request.Request.{Request}
use Rattle.hall_store.specs.Store.{Content, IsSettled}
use Rattle.hall_desk.specs.Step.{Step}
use Rattle.hall_desk.specs.Run.{IsLeftBy, Run}
use Rattle.hall_desk.specs.Plans.{IsStepOver, StopsWithin, Runs, IsStepped, AreStepped, IsNobodys, IsAvailable}
use Rattle.hall_desk.specs.Plans.{NobodysAreAnswered}
use Rattle.hall_desk.specs.declared.reply.Reply.{Reply}
use Rattle.hall_desk.specs.declared.reply.Reply.TheVariants.{Unavailable}

-- a run and one step more
pub run_more : (world : World) (requests : List (ℕ × Request)) (replies : List Reply) (mid : World)
    (asked : ℕ × Request) (given : Reply) (last : World) →
    Run world requests replies mid → Step mid asked.0 asked.1 given last
    → Run world (requests ++ asked ∷ []) (replies ++ given ∷ []) last
run_more world [] [] mid asked given last run step = (
  last,
  subst (λ (w : World). Step w asked.0 asked.1 given last) run
      step,
  refl,
)
run_more world [] (r ∷ replies) mid asked given last run step = absurd run
run_more world (q ∷ requests) [] mid asked given last run step = absurd run
run_more world (q ∷ requests) (r ∷ replies) mid asked given last run step =
    (run.0, run.1, run_more run.0 requests replies mid asked given last run.2 step)

-- a run over a store and one step more over it
pub runs_more : (first old new : Content) (requests : List (ℕ × Request)) (replies : List Reply) (asked : ℕ × Request)
    (given : Reply) →
    (new.serves → old.serves) → Runs first requests replies old → IsStepOver old asked.0 asked.1 given new
    → Runs first (requests ++ asked ∷ []) (replies ++ given ∷ []) new
runs_more first old new requests replies asked given opened (last, run, own) (inl (always, left)) =
    (last, run_more first.world requests replies last asked given last run (always last), λ s. left s ∙ own (opened s))
runs_more first old new requests replies asked given opened (last, run, own) (inr (before, after, step)) = (
  new.world,
  run_more first.world requests replies last asked given new.world run
      (subst (λ (w : World). Step w asked.0 asked.1 given new.world) (own before) step),
  λ s. refl,
)

-- a prefix that is as long as the list is the list
pub take_all : {A : Type 0} (xs : List A) (n : ℕ) → length xs ≤ n → take n xs ≡ xs
take_all [] zero h = refl
take_all [] (suc n) h = refl
take_all (x ∷ xs) zero h = absurd (omega arith)
take_all (x ∷ xs) (suc n) h = let rest = take_all xs n (omega arith) in λ i. x ∷ rest i

-- replies to requests, and one more
pub nobodys_more : (requests : List (ℕ × Request)) (replies : List Reply) (asked : ℕ × Request) (given : Reply) →
    NobodysAreAnswered requests replies → (IsNobodys asked.1 → IsAvailable given)
    → NobodysAreAnswered (requests ++ asked ∷ []) (replies ++ given ∷ [])
nobodys_more [] [] asked given before here = (here, tt)
nobodys_more [] (r ∷ replies) asked given before here = absurd before
nobodys_more (q ∷ requests) [] asked given before here = absurd before
nobodys_more (q ∷ requests) (r ∷ replies) asked given before here =
    (before.0, nobodys_more requests replies asked given before.1 here)

-- requests that were stepped over a store, and one more
pub stepped_more : {S : Type 0} (content : S → Content) (first old new : S) (requests : List (ℕ × Request))
    (replies : List Reply) (asked : ℕ × Request) (given : Reply) →
    AreStepped content first requests replies old → IsStepped content old asked given new
    → AreStepped content first (requests ++ asked ∷ []) (replies ++ given ∷ []) new
stepped_more content first old new [] [] asked given same step =
    (new, subst (λ s. IsStepped content s asked given new) same step, refl)
stepped_more content first old new [] (r ∷ replies) asked given before step = absurd before
stepped_more content first old new (q ∷ requests) [] asked given before step = absurd before
stepped_more content first old new (q ∷ requests) (r ∷ replies) asked given (mid, says, rest) step =
    (mid, says, stepped_more content mid old new requests replies asked given rest step)

-- What a stop leaves after one request more.
module _ (first old new : Content) (requests : List (ℕ × Request)) (replies : List Reply) (asked : ℕ × Request)
    (given : Reply) (runs : Runs first requests replies old)
    (steps : IsStepOver old asked.0 asked.1 given new) (stops : StopsWithin old asked.0 asked.1 given new)
    (settled : IsSettled new) (honest : new.honest)
    (before : (left : World) → old.may_leave left → IsLeftBy first.world requests replies left) where
  -- the store's own world, where it served
  own : old.serves → Run first.world requests replies old.world
  own serves = subst (λ (w : World). Run first.world requests replies w) (sym (runs.2 serves)) runs.1

  onward : (left : World) → new.may_leave left → IsStepOver old asked.0 asked.1 given new
      → IsLeftBy first.world requests replies left
      → IsLeftBy first.world (requests ++ asked ∷ []) (replies ++ given ∷ []) left
  onward left may (inl (always, same)) (inl run) = inl (run_more first.world requests replies left asked given left run
      (always left))
  onward left may (inl (always, same)) (inr one) = inr (record {
    before = one.before;
    told = one.told;
    asked = one.asked;
    made = one.made;
    after = one.after ++ asked ∷ [];
    rest = one.rest ++ given ∷ [];
    all_requests = ap (λ xs. xs ++ asked ∷ []) one.all_requests ∙ append_assoc one.before (one.asked ∷ one.after)
        (asked ∷ []);
    all_replies = ap (λ xs. xs ++ given ∷ []) one.all_replies ∙ append_assoc one.told (Unavailable ∷ one.rest)
        (given ∷ []);
    between = one.between;
    run = one.run;
    step = one.step;
    stays = run_more left one.after one.rest left asked given left one.stays (always left);
  })
  onward left may (inr (was, serves, step)) any =
      inl (run_more first.world requests replies old.world asked given left (own was)
      (subst (λ (w : World). Step old.world asked.0 asked.1 given w) (sym (settled honest serves left may)) step))

  pub left_more : (left : World) → new.may_leave left → IsLeftBy first.world (requests ++ asked ∷ [])
      (replies ++ given ∷ []) left
  left_more left may = elim (stops honest left may) [
    | inl earlier ↦ onward left may steps (before left earlier)
    | inr (serves, it) ↦ elim it.1 [
      | inl same ↦ inl (run_more first.world requests replies old.world asked given left (own serves)
          (subst (λ (r : Reply). Step old.world asked.0 asked.1 r left) same it.2))
      | inr refused ↦ inr (record {
        before = requests;
        told = replies;
        asked = asked;
        made = it.0;
        after = [];
        rest = [];
        all_requests = refl;
        all_replies = ap (λ (r : Reply). replies ++ r ∷ []) refused;
        between = old.world;
        run = own serves;
        step = it.2;
        stays = refl;
      })
    ]
  ]
