use Rattle.std.proofs.Common.{◌≡◌, ◌∙◌, inl, inr, [], ◌∷◌, arith, sym, ap, subst}
use Rattle.std.proofs.lemmas.Result.{IfErr-weaker}
use Rattle.std.specs.FinMap.{get}
use Rattle.sqlite.specs.declared.types.Value.TheVariants.{Text}
use Rattle.sqlite.specs.Effect.{Database}
use Rattle.sqlite.specs.Held.{state}
use Rattle.sqlite.specs.State.{HasCleanDisk}
use Rattle.hall_sql.specs.Places.{AreListed}
use Rattle.hall_sql.specs.Rows.{place_in, tester_in, world_of}
use Rattle.hall_store.specs.Store.{Fails, HasNoRound}
use Rattle.hall_sql.specs.Cause.{RoundFails}
use Rattle.hall_sql.specs.declared.rounds.TheConstants.{HEAD, PLACES_OF}
use Rattle.hall_sql.specs.declared.testers.TheConstants.{TESTERS_OF}
use Rattle.hall_store.proofs.Knowing.{fails_as}
use Rattle.hall_sql.proofs.FailLemmas.{round_fault}
use Rattle.hall_sql.proofs.ReadCauseLemmas.{after_shown}
use Rattle.hall_sql.proofs.ReadLemmas.{refused}
use Rattle.hall_sql.proofs.RoundRows.{none_right}
use Rattle.hall_sql.proofs.StoreLemmas.{always, rested_kept, rests_on, served_so}
use Rattle.hall_sql.proofs.HeadTexts.{head_is}
use Rattle.hall_sql.proofs.RoundQueries.{places_of_is}
use Rattle.hall_sql.proofs.TesterTexts.{testers_of_is}
use Rattle.hall_sql.proofs.Queries.{asked}
use Rattle.hall_sql.proofs.rounds.round.Goals as goal

pub returns : goal.returns
returns g c =
    let old = state g.S.Store c.args.conn.now in
    let headed = state g.S.Store c.head.new.conn in
    let listed = state g.S.Store c.places_of.new.conn in
    let new = state g.S.Store c.testers_of.new.conn in
    let id = c.args.id.now in
    let rested = rests_on old listed new
    (rests_on old headed listed c.head.ensures.reads.rested c.places_of.ensures.rested) c.testers_of.ensures.rested in
    let why : HasCleanDisk new → Fails (RoundFails id old new) c.row_of.result = λ clean.
    let names = c.in_ok-names.ensures.served clean in
    let late : HasCleanDisk listed = omega (arith, c.testers_of.ensures.rested.follows.lasts.clean, clean) in
    let places = c.in_ok-places.ensures.served late in
    let was : HasCleanDisk headed = omega (arith, c.places_of.ensures.rested.follows.lasts.clean, late) in
    let served = c.in_ok-head.ensures.reads.served was in
    let same : new.now ≡ listed.now = c.testers_of.ensures.rested.same clean names.0 in
    let second : new.now ≡ headed.now = same ∙ c.places_of.ensures.rested.same late places.0 in
    let first : new.now ≡ old.now = second ∙ c.head.ensures.reads.rested.same was served.0 in
    let head = served.1 ∙ ap (λ (d : Database). get (world_of d.trees).rounds id) (sym second) in
    let list = subst (λ (d : Database). AreListed (world_of d.trees) id c.in_ok-places.places.items) (sym same)
    places.1 in
    IfErr-weaker c.row_of.result _ _ (λ fault none failed.
    inr (inr (inr (subst (λ (d : Database). HasNoRound (world_of d.trees) id) first
    (none_right (world_of new.now.trees) id c.in_ok-places.places.items c.in_ok-names.names.items list names.1 _
    (sym head) (none failed))))))
    c.row_of.ensures.none
    in
    record {
      kept = rested_kept old new rested;
      rested = rested;
      served =
          served_so new c.row_of.result _ (λ clean. (c.in_ok-names.ensures.served clean).0)
          (λ clean.
          let names = c.in_ok-names.ensures.served clean in
          let late : HasCleanDisk listed = omega (arith, c.testers_of.ensures.rested.follows.lasts.clean, clean) in
          let places = c.in_ok-places.ensures.served late in
          let was : HasCleanDisk headed = omega (arith, c.places_of.ensures.rested.follows.lasts.clean, late) in
          let same : new.now ≡ listed.now = c.testers_of.ensures.rested.same clean names.0 in
          let first : new.now ≡ headed.now = same ∙ c.places_of.ensures.rested.same late places.0 in
          let head = (c.in_ok-head.ensures.reads.served was).1 ∙ ap
          (λ (d : Database). get (world_of d.trees).rounds c.args.id.now) (sym first) in
          let list = subst (λ (d : Database). AreListed (world_of d.trees) c.args.id.now c.in_ok-places.places.items)
          (sym same) places.1 in
          c.row_of.ensures.row (world_of new.now.trees) c.args.id.now head list.whole names.1);
      fault = round_fault c.requires.hall rested c.row_of.result id why;
      whole = λ clean.
          let late : HasCleanDisk (state g.S.Store c.places_of.new.conn) = omega
          (arith, c.testers_of.ensures.rested.follows.lasts.clean, clean) in
          let was : HasCleanDisk (state g.S.Store c.head.new.conn) = omega
          (arith, c.places_of.ensures.rested.follows.lasts.clean, late) in
          always c.row_of.result _ (record {
            headed = c.head.new.conn;
            listed = c.places_of.new.conn;
            head = c.in_ok-head.ensures.reads.whole was;
            places = c.in_ok-places.ensures.whole late;
            testers = c.in_ok-names.ensures.whole clean;
          });
      cause = why;
    }

pub returns-in_err-head : goal.returns-in_err-head
returns-in_err-head g c =
    let old = state g.S.Store c.args.conn.now in
    let new = state g.S.Store c.head.new.conn in
    let id = c.args.id.now in
    let why : HasCleanDisk new → Fails (RoundFails id old new) c.from_residual.result = λ clean.
    fails_as c.from_residual.result _ _ c.from_residual.ensures.1
    (λ failed. inl (c.in_err-head.ensures.reads.cause clean failed))
    in
    let rested = c.head.ensures.reads.rested in
    refused c.from_residual.result _ _ _ _ _ rested c.from_residual.ensures.1
    (round_fault c.requires.hall rested c.from_residual.result id why) why

pub returns-in_err-places : goal.returns-in_err-places
returns-in_err-places g c =
    let old = state g.S.Store c.args.conn.now in
    let mid = state g.S.Store c.head.new.conn in
    let new = state g.S.Store c.places_of.new.conn in
    let id = c.args.id.now in
    let rested = c.head.ensures.reads.rested in
    let why : HasCleanDisk new → Fails (RoundFails id old new) c.from_residual-in_err-places.result = λ clean.
    let late : HasCleanDisk mid = omega (arith, c.places_of.ensures.rested.follows.lasts.clean, clean) in
    let was : HasCleanDisk old = omega (arith, rested.follows.lasts.clean, late) in
    let opens = rested.follows.opened late (c.in_ok-head.ensures.reads.served late).0 in
    let whole = c.in_ok-head.ensures.reads.whole late in
    fails_as c.from_residual-in_err-places.result _ _ c.from_residual-in_err-places.ensures.1 (λ failed.
    inr (inl (after_shown place_in HEAD.now (Text id ∷ []) PLACES_OF.now (Text id ∷ []) old mid new
    (c.requires.hall.settled was opens).1 (asked (head_is id)) (asked (places_of_is id)) rested.follows.lasts.counts
    whole.rows whole.shown
    (c.in_err-places.ensures.cause clean failed))))
    in
    let to_places = rests_on old mid new rested c.places_of.ensures.rested in
    let result = c.from_residual-in_err-places.result in
    refused result _ _ _ _ _ to_places c.from_residual-in_err-places.ensures.1
    (round_fault c.requires.hall to_places result id why) why

pub returns-in_err-names : goal.returns-in_err-names
returns-in_err-names g c =
    let old = state g.S.Store c.args.conn.now in
    let headed = state g.S.Store c.head.new.conn in
    let listed = state g.S.Store c.places_of.new.conn in
    let new = state g.S.Store c.testers_of.new.conn in
    let id = c.args.id.now in
    let rested = rests_on old listed new
    (rests_on old headed listed c.head.ensures.reads.rested c.places_of.ensures.rested) c.testers_of.ensures.rested in
    let why : HasCleanDisk new → Fails (RoundFails id old new) c.from_residual-in_err-names.result = λ clean.
    let first = c.head.ensures.reads.rested in
    let second = c.places_of.ensures.rested in
    let last : HasCleanDisk listed = omega (arith, c.testers_of.ensures.rested.follows.lasts.clean, clean) in
    let late : HasCleanDisk headed = omega (arith, second.follows.lasts.clean, last) in
    let was : HasCleanDisk old = omega (arith, first.follows.lasts.clean, late) in
    let opened = second.follows.opened last (c.in_ok-places.ensures.served last).0 in
    let opens = first.follows.opened late opened in
    let head = c.in_ok-head.ensures.reads.whole late in
    let places = c.in_ok-places.ensures.whole last in
    fails_as c.from_residual-in_err-names.result _ _ c.from_residual-in_err-names.ensures.1 (λ failed.
    inr (inr (inl (after_shown tester_in HEAD.now (Text id ∷ []) TESTERS_OF.now (Text id ∷ []) old headed new
    (c.requires.hall.settled was opens).1 (asked (head_is id)) (asked (testers_of_is id)) first.follows.lasts.counts
    head.rows head.shown
    (after_shown tester_in PLACES_OF.now (Text id ∷ []) TESTERS_OF.now (Text id ∷ []) headed listed new
    (first.tabled.settled late opened).1 (asked (places_of_is id)) (asked (testers_of_is id))
    second.follows.lasts.counts places.rows places.shown
    (c.in_err-names.ensures.cause clean failed))))))
    in
    let result = c.from_residual-in_err-names.result in
    refused result _ _ _ _ _ rested c.from_residual-in_err-names.ensures.1
    (round_fault c.requires.hall rested result id why) why
