-- What a transaction leaves, whether it is committed or rolled back.
use Rattle.std.proofs.Common.{◌≡◌, inl, inr, [], true, false, IsTrue, Ok, Err, refl, sym, ap, subst, ◌∙◌, arith}
use Rattle.sqlite_trees.specs.declared.store.Store.{Ghosts}
use Rattle.sqlite.specs.declared.error.Error.{Error}
use Rattle.sqlite.specs.Effect.{Database, IsDatabase}
use Rattle.sqlite.specs.Schema.{Schema}
use Rattle.sqlite.specs.Held.{Held, state}
use Rattle.sqlite.specs.Tree.{Trees}
use Rattle.sqlite.specs.State.{State, HasCleanDisk, IsLive, KeepsCounts, IsRolledBack, Shows, Survives}
use Rattle.sqlite.specs.Steps.{FailsToCommit}
use Rattle.hall_store.specs.Store.{Leads}
use Rattle.hall_store.specs.Change.{changed}
use Rattle.hall_store.specs.declared.change.Change.{Change}
use Rattle.hall_sql.specs.Rows.{world_of}
use Rattle.hall_sql.specs.Spared.{may_write, KeptOtherRows}
use Rattle.hall_sql.specs.Stands.{HoldsHall, ListsLike}
use Rattle.hall_sql.specs.Tables.{IsHallSchema, hall_schema}
use Rattle.hall_sql.specs.Standing.{AddsNoOutcome, AddsOutcomes, LeadsConnection, AreAllKeyed, IsHall, IsTabled}
use Rattle.hall_sql.specs.Standing.{KeptTables, KeptTablesIn, KeptRows, without_limit}
use Rattle.hall_sql.specs.Content.{MakesInTables, content_of}
use Rattle.hall_sql.specs.Inside.{IsHallData, LeadsUncommitted, MakesInside, Changes}
use Rattle.hall_sql.proofs.LastLemmas.{last_none, last_then, last_begun, quiet, quiet_none, quiet_then, survived}
use Rattle.hall_sql.proofs.WriteLemmas.{StopsAt, made_wrote, rested_wrote, stayed_wrote}

-- what changes nothing rests
pub rests_itself : {schema : Schema} (s : State) → IsTabled schema s → KeptTablesIn schema s s
rests_itself s hall = record {
  tabled = hall;
  follows = record { lasts = last_none s; opened = λ clean opens. opens };
  same = λ clean opens. refl;
  stops = quiet_none s;
}

-- and wrote nothing, where it is refused
pub wrote_nothing : {R E : Type 0} (change : Change) (s : State) (fault : E) → IsHall s
    → MakesInTables {R = R} change s s (Err fault)
wrote_nothing change s fault hall = rested_wrote change s s fault (rests_itself s hall)

-- a commit that is refused rolls back
pub commit_refused : (mid end : State) (e : Error) → IsTrue mid.in_transaction → FailsToCommit mid end e
    → IsRolledBack mid end
commit_refused mid end e mode (inl h) = h.3
commit_refused mid end e mode (inr h) = absurd (let no : false ≡ true = sym h.1 ∙ mode in cc)

-- what is committed over the hall's tables is a hall
pub shown_hall : (mid end : State) → IsHallData mid.now → end.in_transaction ≡ false
    → Shows mid end mid.now mid.now false → IsHall (without_limit end)
shown_hall mid end ours ended shown = record {
  unlimited = refl;
  autocommit = λ clean. ended;
  settled = λ clean opens. (
    shown.now_is ∙ sym shown.committed_is,
    subst (λ (d : Database). IsHallSchema d.schema)
        (sym shown.now_is) ours.schema,
  );
  keyed = λ clean opens. subst (λ (d : Database). AreAllKeyed d.trees) (sym shown.now_is) ours.keyed;
}

-- what a commit over the hall's tables leaves
pub record HasCommitted (Does : Database → Database → Type 0) (old end : State) : Type 0 where
  pub hall : IsHall end
  pub leads : Leads (content_of old) (content_of end)
  pub done : HasCleanDisk end → IsTrue end.is_open × Does old.now end.now

module _ {S : Type 0} (g : Ghosts S) (held : Held S) (hall : IsHall (state g held)) where
  -- where the transaction began
  abbrev base : State
  base = state g (record held { in_transaction = true })

  -- rolled back, the content is as it was
  pub rolled_stayed : (mid end : State) → LeadsUncommitted base mid → LeadsConnection mid end
      → end.in_transaction ≡ false
      → (HasCleanDisk end → IsRolledBack mid end) → KeptRows (state g held) end
  rolled_stayed mid end carries lasts ended rolled =
      let now : HasCleanDisk end → HasCleanDisk mid = λ (clean : HasCleanDisk end). let was : HasCleanDisk mid = omega
      (arith, lasts.clean, clean) in was in
      let before : HasCleanDisk end → HasCleanDisk (state g held) = λ (clean : HasCleanDisk end). let was : HasCleanDisk
      base = omega (arith, carries.lasts.clean, lasts.clean, clean) in was in
      let keeps = λ (clean : HasCleanDisk end). carries.kept (now clean) refl in
      let opens_mid = λ (clean : HasCleanDisk end) (opens : IsTrue end.is_open). (rolled clean).was_open opens in
      let opens_old = λ (clean : HasCleanDisk end) (opens : IsTrue end.is_open). (keeps clean).was_open
      (opens_mid clean opens) in
      let settled = λ (clean : HasCleanDisk end) (opens : IsTrue end.is_open). hall.settled (before clean)
      (opens_old clean opens) in
      let same : (clean : HasCleanDisk end) (opens : IsTrue end.is_open) → end.now ≡ (state g held).now =
      λ clean opens. ((rolled clean).undone opens).0 ∙ (keeps clean).committed (opens_mid clean opens)
      ∙ sym (settled clean opens).0 in
      record {
        tabled = record {
          unlimited = lasts.limit ∙ carries.lasts.limit ∙ hall.unlimited;
          autocommit = λ clean. ended;
          settled = λ clean opens. (
            ((rolled clean).undone opens).0
                ∙ sym ((rolled clean).undone opens).1,
            subst (λ (d : Database). IsHallSchema d.schema)
                (sym (same clean opens)) (settled clean opens).1,
          );
          keyed = λ clean opens. subst (λ (d : Database). AreAllKeyed d.trees) (sym (same clean opens))
              (hall.keyed (before clean) (opens_old clean opens));
        };
        follows = record {
          lasts = last_then (state g held) mid end (last_begun g held mid carries.lasts) lasts;
          opened = opens_old;
        };
        same = same;
      }

  -- rolled back by a call that commits nothing, no outcome is added
  pub rolled_rested : (mid end : State) → LeadsUncommitted base mid → LeadsConnection mid end → AddsNoOutcome mid end
      → end.in_transaction ≡ false
      → (HasCleanDisk end → IsRolledBack mid end) → KeptTables (state g held) end
  rolled_rested mid end carries lasts stops ended rolled =
      let it = rolled_stayed mid end carries lasts ended rolled in
      record {
        tabled = it.tabled;
        follows = it.follows;
        same = it.same;
        stops = quiet_then (state g held) mid end
            carries.stops lasts stops;
      }

  -- and the world was left
  pub rolled_wrote : {R E : Type 0} (change : Change) (fault : E) (mid end : State) → LeadsUncommitted base mid
      → Survives mid end (λ _. ⊥) → end.in_transaction ≡ false
      → (HasCleanDisk end → IsRolledBack mid end) → MakesInTables {R = R} change (state g held) end (Err fault)
  rolled_wrote change fault mid end carries survives ended rolled =
      rested_wrote change (state g held) end fault (rolled_rested mid end carries (survived mid end _ survives)
      (quiet mid end survives) ended rolled)

  -- the tables as the calls left them are listed
  done_lists : (Does : Database → Database → Type 0) (mid : State) → MakesInside Does base mid → IsHallData base.now
      → IsDatabase base.now → ListsLike hall_schema mid.now.trees
  done_lists Does mid done ours sound = (mid.now.schema, (done.steps.hall ours).schema, done.steps.sound ours sound)

  -- what a commit of what was done may leave
  pub commit_outcomes : IsLive (state g held) → (Does : Database → Database → Type 0) (mid end : State)
      → LeadsUncommitted base mid
      → (HasCleanDisk mid → IsTrue base.in_transaction → MakesInside Does base mid)
      → Survives mid end (λ db. db ≡ mid.now.trees) → IsTrue (state g held).is_open
      → AddsOutcomes (λ db. (d : Database) × Does (state g held).now d × ListsLike hall_schema d.trees × (db ≡ d.trees))
      (state g held) end
  commit_outcomes live Does mid end carries did survives opens clean db may =
      let clean_mid : HasCleanDisk mid = omega (arith, survives.clean, clean) in
      let was : HasCleanDisk base = omega (arith, carries.lasts.clean, clean_mid) in
      elim (survives.crash clean db may) [
        | inl earlier ↦ inl (carries.stops clean_mid db earlier)
        | inr is ↦
            let ours : IsHallData base.now = record {
              schema = (hall.settled was opens).1;
              keyed = hall.keyed was
                  opens;
            } in
            let done = did clean_mid refl in
            inr (mid.now, done.does ours, done_lists Does mid done ours (live opens).0, is)
      ]

  -- and where nothing was committed
  pub rolled_outcomes : (Among : Trees → Type 0) (mid end : State) → LeadsUncommitted base mid
      → Survives mid end (λ _. ⊥) → AddsOutcomes Among (state g held) end
  rolled_outcomes Among mid end carries survives clean db may =
      let clean_mid : HasCleanDisk mid = omega (arith, survives.clean, clean) in
      inl (carries.stops clean_mid db (quiet mid end survives clean db may))

  -- what a commit of the change may leave
  commit_stops : IsLive (state g held) → (change : Change) (mid end : State) → LeadsUncommitted base mid
      → (HasCleanDisk mid → IsTrue base.in_transaction → MakesInside (Changes change) base mid)
      → Survives mid end (λ db. db ≡ mid.now.trees) → StopsAt change (state g held) end
  commit_stops live change mid end carries did survives opens clean db may =
      elim (commit_outcomes live (Changes change) mid end carries did survives opens clean db may) [
        | inl earlier ↦ inl earlier
        | inr made ↦ inr (subst (HoldsHall (changed change (world_of base.now.trees))) (sym made.3)
            (made.2, made.1.world))
      ]

  -- so it was where the commit was refused
  pub refused_wrote : {R E : Type 0} → IsLive (state g held) → (change : Change) (fault : E) (error : Error)
      (mid end : State)
      → LeadsUncommitted base mid → (HasCleanDisk mid → IsTrue base.in_transaction
      → MakesInside (Changes change) base mid)
      → Survives mid end (λ db. db ≡ mid.now.trees) → end.in_transaction ≡ false
      → (HasCleanDisk end → FailsToCommit mid end error) → MakesInTables {R = R} change (state g held) end (Err fault)
  refused_wrote live change fault error mid end carries did survives ended fails =
      let lasts = survived mid end _ survives in
      stayed_wrote change (state g held) end fault (commit_stops live change mid end carries did survives)
      (rolled_stayed mid end carries lasts ended (λ clean.
      let was : HasCleanDisk mid = omega (arith, lasts.clean, clean) in
      commit_refused mid end error (did was refl).steps.mode (fails clean)))

  -- committed, the change is made
  pub committed_wrote : {R E : Type 0} → IsLive (state g held) → (change : Change) (done : R) (mid end : State)
      → LeadsUncommitted base mid → (HasCleanDisk mid → IsTrue base.in_transaction
      → MakesInside (Changes change) base mid)
      → Survives mid end (λ db. db ≡ mid.now.trees) → end.in_transaction ≡ false
      → (HasCleanDisk end → IsTrue mid.in_transaction × Shows mid end mid.now mid.now false × KeepsCounts mid end
      × (end.marks ≡ []))
      → MakesInTables {E = E} change (state g held) end (Ok done)
  committed_wrote live change done mid end carries did survives ended ok =
      let lasts = survived mid end _ survives in
      made_wrote change (state g held) end done hall (last_then (state g held) mid end
      (last_begun g held mid carries.lasts) lasts)
      (commit_stops live change mid end carries did survives) (λ was clean.
      let clean_mid : HasCleanDisk mid = omega (arith, lasts.clean, clean) in
      let shown = (ok clean).1 in
      let opened = (carries.kept clean_mid refl).was_open shown.was_open in
      let ours : IsHallData base.now = record { schema = (hall.settled was opened).1; keyed = hall.keyed was opened } in
      let it = did clean_mid refl in
      record {
        hall = shown_hall mid end (it.steps.hall ours) ended shown;
        was_open = opened;
        serves = shown.is_open;
        world = ap (λ (d : Database). world_of d.trees) shown.now_is ∙ (it.does ours).world;
        others = subst (λ (d : Database). KeptOtherRows (may_write change) base.now.trees d.trees) (sym shown.now_is)
            (it.does ours).others;
      })

  -- what was done makes the change, over the tables of a store that was open
  module _ (change : Change) (Did : Database → Database → Type 0)
      (makes : HasCleanDisk (state g held) → IsTrue (state g held).is_open → (d : Database)
      → Did (state g held).now d → Changes change (state g held).now d) where
    -- what a commit of it may leave
    pub did_stops : IsLive (state g held) → (mid end : State) → LeadsUncommitted base mid
        → (HasCleanDisk mid → IsTrue base.in_transaction → MakesInside Did base mid)
        → Survives mid end (λ db. db ≡ mid.now.trees) → StopsAt change (state g held) end
    did_stops live mid end carries did survives opens clean db may =
        let was : HasCleanDisk base = omega (arith, carries.lasts.clean, survives.clean, clean) in
        elim (commit_outcomes live Did mid end carries did survives opens clean db may) [
          | inl earlier ↦ inl earlier
          | inr made ↦ inr (subst (HoldsHall (changed change (world_of base.now.trees))) (sym made.3)
              (made.2, (makes was opens made.0 made.1).world))
        ]

    -- so it was where the commit was refused
    pub did_refused : {R E : Type 0} → IsLive (state g held) → (fault : E) (error : Error) (mid end : State)
        → LeadsUncommitted base mid → (HasCleanDisk mid → IsTrue base.in_transaction → MakesInside Did base mid)
        → Survives mid end (λ db. db ≡ mid.now.trees) → end.in_transaction ≡ false
        → (HasCleanDisk end → FailsToCommit mid end error)
        → MakesInTables {R = R} change (state g held) end (Err fault)
    did_refused live fault error mid end carries did survives ended fails =
        let lasts = survived mid end _ survives in
        stayed_wrote change (state g held) end fault (did_stops live mid end carries did survives)
        (rolled_stayed mid end carries lasts ended (λ clean.
        let was : HasCleanDisk mid = omega (arith, lasts.clean, clean) in
        commit_refused mid end error (did was refl).steps.mode (fails clean)))

    -- committed, the change is made
    pub did_committed : {R E : Type 0} → IsLive (state g held) → (done : R) (mid end : State)
        → LeadsUncommitted base mid → (HasCleanDisk mid → IsTrue base.in_transaction → MakesInside Did base mid)
        → Survives mid end (λ db. db ≡ mid.now.trees) → end.in_transaction ≡ false
        → (HasCleanDisk end → IsTrue mid.in_transaction × Shows mid end mid.now mid.now false × KeepsCounts mid end
        × (end.marks ≡ []))
        → MakesInTables {E = E} change (state g held) end (Ok done)
    did_committed live done mid end carries did survives ended ok =
        let lasts = survived mid end _ survives in
        made_wrote change (state g held) end done hall (last_then (state g held) mid end
        (last_begun g held mid carries.lasts) lasts)
        (did_stops live mid end carries did survives) (λ was clean.
        let clean_mid : HasCleanDisk mid = omega (arith, lasts.clean, clean) in
        let shown = (ok clean).1 in
        let opened = (carries.kept clean_mid refl).was_open shown.was_open in
        let ours : IsHallData base.now = record {
          schema = (hall.settled was opened).1;
          keyed = hall.keyed was opened;
        } in
        let it = did clean_mid refl in
        let made = makes was opened mid.now (it.does ours) in
        record {
          hall = shown_hall mid end (it.steps.hall ours) ended shown;
          was_open = opened;
          serves = shown.is_open;
          world = ap (λ (d : Database). world_of d.trees) shown.now_is ∙ made.world;
          others = subst (λ (d : Database). KeptOtherRows (may_write change) base.now.trees d.trees)
              (sym shown.now_is) made.others;
        })

  -- and the tables are as the calls before it left them
  pub committed_did : (Does : Database → Database → Type 0) (mid end : State)
      → LeadsUncommitted base mid → (HasCleanDisk mid → IsTrue base.in_transaction → MakesInside Does base mid)
      → LeadsConnection mid end
      → (HasCleanDisk end → IsTrue mid.in_transaction × Shows mid end mid.now mid.now false × KeepsCounts mid end
      × (end.marks ≡ []))
      → HasCleanDisk end → Does (state g held).now end.now
  committed_did Does mid end carries did lasts ok clean =
      let clean_mid : HasCleanDisk mid = omega (arith, lasts.clean, clean) in
      let was : HasCleanDisk base = omega (arith, carries.lasts.clean, clean_mid) in
      let shown = (ok clean).1 in
      let opened = (carries.kept clean_mid refl).was_open shown.was_open in
      let ours : IsHallData base.now = record { schema = (hall.settled was opened).1; keyed = hall.keyed was opened } in
      subst (Does base.now) (sym shown.now_is) ((did clean_mid refl).does ours)

  -- and a hall is left, which serves
  pub committed : (Does : Database → Database → Type 0) (mid end : State)
      → LeadsUncommitted base mid → (HasCleanDisk mid → IsTrue base.in_transaction → MakesInside Does base mid)
      → LeadsConnection mid end → end.in_transaction ≡ false
      → (HasCleanDisk end → IsTrue mid.in_transaction × Shows mid end mid.now mid.now false × KeepsCounts mid end
      × (end.marks ≡ []))
      → HasCommitted Does (state g held) end
  committed Does mid end carries did lasts ended ok =
      let clean_mid : HasCleanDisk end → HasCleanDisk mid = λ (clean : HasCleanDisk end). let was : HasCleanDisk mid =
      omega (arith, lasts.clean, clean) in was in
      let clean_old : HasCleanDisk end → HasCleanDisk (state g held) = λ (clean : HasCleanDisk end). let was :
      HasCleanDisk base = omega (arith, carries.lasts.clean, lasts.clean, clean) in was in
      let opened : (clean : HasCleanDisk end) → IsTrue (state g held).is_open = λ clean.
      (carries.kept (clean_mid clean) refl).was_open (ok clean).1.was_open in
      let ours : (clean : HasCleanDisk end) → IsHallData base.now = λ clean.
      record {
        schema = (hall.settled (clean_old clean) (opened clean)).1;
        keyed = hall.keyed (clean_old clean)
            (opened clean);
      } in
      let left : (clean : HasCleanDisk end) → IsHall (without_limit end) = λ clean. shown_hall mid end
      ((did (clean_mid clean) refl).steps.hall (ours clean)) ended (ok clean).1 in
      let all = last_then (state g held) mid end (last_begun g held mid carries.lasts) lasts in
      record {
        hall = record {
          unlimited = all.limit ∙ hall.unlimited;
          autocommit = λ clean. ended;
          settled = λ clean opens. (left clean).settled clean opens;
          keyed = λ clean opens. (left clean).keyed clean opens;
        };
        leads = record {
          honest = clean_old;
          serves = λ clean opens. opened clean;
          counts = all.counts;
          lasts = λ clean opens. inl (ok clean).1.is_open;
        };
        done = λ clean. ((ok clean).1.is_open, committed_did Does mid end carries did lasts ok clean);
      }
