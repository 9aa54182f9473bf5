use Rattle.std.proofs.Common.{◌≡◌, ◌∙◌, sym, ap, subst, length}
use Rattle.std.specs.FinMap.{values}
use Rattle.hall_check.specs.Checked.{AreStatesAsked}
use Rattle.hall_check.specs.Whole.{world_of_whole}
use Rattle.hall_check.proofs.SaneTold.{sane, states_true}
use Rattle.hall_check.proofs.sanity.check_whole.Goals as goal

pub returns : goal.returns
returns c = λ ordered.
    let whole = c.args.whole.now in
    let world = world_of_whole whole in
    let rows : c.as_slice.result.now ≡ values world.puzzles = c.as_slice.ensures.value ∙ sym ordered.puzzles in
    let asked = subst (λ rows. AreStatesAsked c.args.budget rows c.in_ok-states.states) rows c.in_ok-states.ensures in
    record {
      people = c.len.ensures ∙ whole.people.ok.0 ∙ ap length (sym ordered.people);
      puzzles = c.len-2.ensures ∙ whole.puzzles.ok.0 ∙ ap length (sym ordered.puzzles);
      rounds = c.len-3.ensures ∙ whole.rounds.ok.0 ∙ ap length (sym ordered.rounds);
      answers = c.len-4.ensures ∙ whole.answers.ok.0 ∙ ap length (sym ordered.answers);
      protests = c.len-5.ensures ∙ whole.protests.ok.0 ∙ ap length (sym ordered.protests);
      told = c.in_ok-told.ensures ordered;
      states = asked;
      but_states = λ none true_states. sane whole c.in_ok-told.told.items (c.in_ok-told.ensures ordered) none
          true_states c.in_range.ensures;
      sane = λ nothing. sane whole c.in_ok-told.told.items (c.in_ok-told.ensures ordered) nothing.0
          (states_true c.args.budget (values world.puzzles) c.in_ok-states.states asked nothing.1) c.in_range.ensures;
    }
