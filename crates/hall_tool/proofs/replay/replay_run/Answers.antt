use Rattle.std.proofs.Common.{◌≡◌, ◌≢◌, ℕ, arith, inl, inr, refl, subst}
use Rattle.std.proofs.lemmas.Grind.{common_steps}
use Rattle.std.specs.Prelude.{Result, Ok}
use Rattle.hall_desk.specs.Desk.{kept_by}
use Rattle.hall_desk.specs.Sane.{Sane}
use Rattle.hall_tool.specs.Machine.{kinds, streams}
use Rattle.hall_tool.specs.ReplayRun.{IsSeedRun}
use Rattle.hall_tool.specs.declared.fault.ToolFault.{ToolFault}
use Rattle.hall_tool.proofs.ReplayLemmas.{then_sane}
use Rattle.hall_tool.proofs.replay.replay_run.Goals as goal

pub returns-in-Ok-eq0-clause-run : goal.returns-in-Ok-eq0-clause-run
returns-in-Ok-eq0-clause-run g c =
    let zero : c.seed_run.result ≡ Ok 0 = cc in
    let seeded = c.seed_run.ensures in
    inr (
      kept_by c.seed_run.new.desk,
      c.seed_run.new.writer,
      c.replay.result,
      subst (λ (ended : Result ℕ ToolFault). IsSeedRun
          (kinds g.S.ReadStore.content (streams g.R.Read.remaining g.W.Write.contents))
          c.args.list.now
          (g.S.ReadStore.content (kept_by c.args.desk.now)) (g.S.ReadStore.content (kept_by c.seed_run.new.desk))
          c.args.writer.now c.seed_run.new.writer ended) zero
          (record {
            leads = seeded.leads;
            once = seeded.once;
            stops = seeded.stops;
            settled = seeded.settled;
            line = seeded.line;
            same = seeded.same;
            left = seeded.left;
            device = seeded.device;
            part = seeded.part;
            memory = seeded.memory;
            store = seeded.store;
            cause = seeded.cause;
          }),
      c.replay.ensures.replayed,
      c.replay_end.ensures,
    )

pub returns-in-Ok-eq0-clause-sane : goal.returns-in-Ok-eq0-clause-sane
returns-in-Ok-eq0-clause-sane g c =
    then_sane Sane (g.S.ReadStore.content (kept_by c.args.desk.now))
    (g.S.ReadStore.content (kept_by c.seed_run.new.desk))
    (g.S.ReadStore.content (kept_by c.replay.new.desk)) c.replay.ensures.replayed.leads c.seed_run.ensures.sane
    c.replay.ensures.sane

pub returns-in_default-2-clause-run : goal.returns-in_default-2-clause-run
returns-in_default-2-clause-run g c =
    let seeded = c.seed_run.ensures in
    let other : c.seed_run.result ≢ Ok 0 = grind (arith, common_steps) in
    inl (
      record {
        leads = seeded.leads;
        once = seeded.once;
        stops = seeded.stops;
        settled = seeded.settled;
        line = seeded.line;
        same = seeded.same;
        left = seeded.left;
        device = seeded.device;
        part = seeded.part;
        memory = seeded.memory;
        store = seeded.store;
        cause = seeded.cause;
      },
      other,
      refl,
    )
