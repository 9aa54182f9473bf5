-- A sink that takes rows, one after another.
use Rattle.std.proofs.Common.{◌≡◌, ◌↔◌, ◌⊎◌, inr, ◌++◌, ◌∷◌, [], List, Result, Ok, Err, IfErr, refl, sym, ap, ◌∙◌}
use Rattle.std.proofs.Common.{subst, append_assoc}
use Rattle.std.specs.Result.{IsErrAnd}
use Rattle.std.proofs.lemmas.List.{append-nil}
use Rattle.hall_policy.specs.World.{World}
use Rattle.hall_policy.specs.declared.sink.SinkFault.{SinkFault}
use Rattle.hall_policy.specs.declared.sink.SinkFault.TheVariants.{Refused}
use Rattle.hall_policy.specs.Sink.{HasTaken}
use Rattle.hall_store.specs.Store.{CanFailIn, Content, Kept, Fed, IsRefusedNext, Stops}
use Rattle.hall_store.specs.declared.fault.StoreFault.{StoreFault}
use Rattle.hall_store.specs.declared.fault.StoreFault.TheVariants.{Failed}

-- the sink took all the rows but the rest
pub record Feeding {K X : Type 0} (Takes : K → X → K → Type 0) (before : K) (rows rest : List X) (now : K) : Type 0
  where
    pub taken : List X
    pub took : HasTaken Takes before taken now
    pub whole : rows ≡ taken ++ rest

-- what was fed is all of the world after
pub fed_now : {K X : Type 0} (Takes : K → X → K → Type 0) (AreRows : World → List X → Type 0) (old new : Content)
    (before after : K) → Kept old new →
    Fed {E = StoreFault} Takes AreRows old new before (Ok tt) after → new.honest → new.serves
    × ((rows : List X) × AreRows new.world rows × HasTaken Takes before rows after)
fed_now Takes AreRows old new before after kept fed h =
    let it = fed h in
    (it.0, (it.1.0, subst (λ (w : World). AreRows w it.1.0) (sym (kept.world h it.0)) it.1.1, it.1.2))

-- one more at the end
took_more : {K X : Type 0} (Takes : K → X → K → Type 0) (before now next : K) (taken : List X) (row : X)
    → HasTaken Takes before taken now → Takes now row next →
    HasTaken Takes before (taken ++ row ∷ []) next
took_more Takes before now next [] row took step = (next, subst (λ s. Takes s row next) took step, refl)
took_more Takes before now next (first ∷ taken) row took step =
    (took.0, took.1, took_more Takes took.0 now next taken row took.2 step)

module _ {K X : Type 0} {Takes : K → X → K → Type 0} where
  pub feeding_begun : (before : K) (rows rest : List X) → rows ≡ rest → Feeding Takes before rows rest before
  feeding_begun before rows rest is = record { taken = []; took = refl; whole = is }

  pub feeding_on : (before now next : K) (rows left rest : List X) (row : X) → left ≡ row ∷ rest
      → Feeding Takes before rows left now → Takes now row next → Feeding Takes before rows rest next
  feeding_on before now next rows left rest row is feeding step = record {
    taken = feeding.taken ++ row ∷ [];
    took = took_more Takes before now next feeding.taken row feeding.took step;
    whole = feeding.whole ∙ ap (λ rows. feeding.taken ++ rows) is ∙ sym (append_assoc feeding.taken (row ∷ []) rest);
  }

  pub feeding_ended : (before now : K) (rows : List X) → Feeding Takes before rows [] now
      → HasTaken Takes before rows now
  feeding_ended before now rows feeding = subst (λ taken. HasTaken Takes before taken now)
      (sym (feeding.whole ∙ append-nil feeding.taken)) feeding.took

  pub feeding_stopped : (Refuses : K → X → Type 0) (before now after : K) (rows left rest : List X) (row : X)
      (cause : SinkFault) (result : Result (Unit {0}) SinkFault) → left ≡ row ∷ rest
      → Feeding Takes before rows left now → after ≡ now →
      (cause ≡ Refused → Refuses now row) → IsErrAnd result (λ fault. fault ≡ cause)
      → IfErr result (Stops Takes Refuses before rows after)
  feeding_stopped Refuses before now after rows left rest row cause (Ok done) is feeding same refused handed = absurd
      handed
  feeding_stopped Refuses before now after rows left rest row cause (Err fault) is feeding same refused handed =
      record {
        taken = feeding.taken;
        row = row;
        left = rest;
        whole = feeding.whole ∙ ap (λ rows. feeding.taken ++ rows) is;
        took = subst (λ s. HasTaken Takes before feeding.taken s) (sym same) feeding.took;
        refused = λ said. subst (λ s. Refuses s row) (sym same) (refused (sym handed ∙ said));
      }

  -- a store that gave its rows to the sink
  module _ (Refuses : K → X → Type 0) (AreRows : World → List X → Type 0) (store : Content) (before after : K)
      (rows : List X) (are : AreRows store.world rows) (serves : store.serves) where
    pub fed_whole : HasTaken Takes before rows after → Fed {E = StoreFault} Takes AreRows store store before (Ok tt)
        after
    fed_whole took _ = (serves, (rows, are, took))

    fed_partly : (cause : SinkFault) (fault : StoreFault) → Stops Takes Refuses before rows after cause
        → Fed Takes AreRows store store before (Err fault) after
    fed_partly cause fault stops = (
      stops.taken,
      stops.took,
      inr
          (λ _. (serves, (stops.row ∷ stops.left, subst (AreRows store.world) stops.whole are))),
    )

    refused_next : (cause : SinkFault) (fault : StoreFault) → Stops Takes Refuses before rows after cause
        → (fault ≡ Failed ↔ cause ≡ Refused) → fault ≡ Failed →
        IsRefusedNext Takes Refuses AreRows store store before after
    refused_next cause fault stops gives failed = (
      stops.taken,
      stops.row,
      stops.took,
      stops.refused (gives.0 failed),
      λ _.
          (serves, (stops.left, subst (AreRows store.world) stops.whole are)),
    )

    -- the sink's fault is handed on as the store's
    pub fed_or_refused : (cause : SinkFault) (result : Result (Unit {0}) StoreFault)
        → Stops Takes Refuses before rows after cause → IsErrAnd result (λ fault. fault ≡ Failed ↔ cause ≡ Refused) →
        Fed Takes AreRows store store before result after × IfErr result
        (λ fault. fault ≡ Failed → CanFailIn store store ⊎ IsRefusedNext Takes Refuses AreRows store store before after)
    fed_or_refused cause (Ok done) stops gives = absurd gives
    fed_or_refused cause (Err fault) stops gives = (
      fed_partly cause fault stops,
      λ failed. inr
          (refused_next cause fault stops gives failed),
    )
