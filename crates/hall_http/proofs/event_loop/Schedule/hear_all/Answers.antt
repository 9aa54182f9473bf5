use Rattle.std.proofs.Common.{arith, refl, rules, inl, Some}
use Rattle.hall_http.proofs.Fair.{behind_then}
use Rattle.hall_http.proofs.Looked.{all_told, asked_again, asked_often}
use Rattle.hall_http.proofs.event_loop.Schedule.hear_all.Goals as goal

pub returns-then-tells_all-clause-all : goal.returns-then-tells_all-clause-all
returns-then-tells_all-clause-all g c =
    ∣ inl (all_told c.loop-asked.self.looks.items c.hear.new.self.looks.items (Some 0) c.in_ok-told.told
    c.in_ok-told.ensures.told (c.if-tells_all.ensures refl)) ∣₁

pub loop-asked-preserved : goal.loop-asked-preserved
loop-asked-preserved g c = record {
  places = search rules;
  line = behind_then c.args.self.now.ready c.loop-asked.self.ready c.hear.new.self.ready c.loop-asked.invariant.line
      c.hear.ensures.line;
  unheard = search rules;
  told = asked_again c.args.self.now.looks.items c.loop-asked.self.looks.items c.hear.new.self.looks.items
      c.loop-asked._asked c.in_ok-told.told c.loop-asked.invariant.told c.in_ok-told.ensures.told;
}

pub returns-clause-all : goal.returns-clause-all
returns-clause-all g c =
    ∣ asked_often c.args.self.now.looks.items c.loop-asked.self.looks.items c.loop-asked._asked
    c.loop-asked.invariant.told (omega (arith, c.loop-asked-test.false)) ∣₁
