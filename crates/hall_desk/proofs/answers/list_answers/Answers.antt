use Rattle.std.proofs.Common.{Bool, List, true, sym, ◌∙◌, subst}
use Rattle.hall_store.specs.Store.{is_in, is_of}
use Rattle.hall_desk.specs.Lines.{AreLinesOf}
use Rattle.hall_desk.specs.Shown.{sees_answer, shows_verdict}
use Rattle.hall_desk.specs.declared.reply.AnswerLine.{AnswerLine}
use Rattle.hall_desk.proofs.AnswerPlans.{all_seen, own_seen, served_as}
use Rattle.hall_desk.proofs.answers.list_answers.Goals as goal

pub returns-then-sees_all-clause-served : goal.returns-then-sees_all-clause-served
returns-then-sees_all-clause-served g c =
    let person = c.args.person.now in
    let round = c.args.round.now in
    let id = c.args.id.now in
    let t = c.args.asked.now.t in
    let new = g.S.ReadStore.content c.take_listing.new.store in
    served_as c.take_listing.result new (λ world lines. AreLinesOf world (is_in id) true lines)
    (λ world lines. AreLinesOf world (sees_answer person round id t) (shows_verdict person round t) lines)
    (λ (lines : List AnswerLine). all_seen new.world person round id t lines
    (sym c.sees_all.ensures ∙ c.if-sees_all.true)) c.take_listing.ensures.served

pub returns-else-sees_all-clause-served : goal.returns-else-sees_all-clause-served
returns-else-sees_all-clause-served g c =
    let person = c.args.person.now in
    let round = c.args.round.now in
    let id = c.args.id.now in
    let t = c.args.asked.now.t in
    let new = g.S.ReadStore.content c.list_own.new.store in
    served_as c.list_own.result new
    (λ world lines. AreLinesOf world (is_of person.name id) c.shows_verdict-shows.result lines)
    (λ world lines. AreLinesOf world (sees_answer person round id t) (shows_verdict person round t) lines)
    (λ (lines : List AnswerLine) listed. own_seen new.world person round id t lines
    (sym c.sees_all.ensures ∙ c.if-sees_all.false) (subst (λ (shows : Bool). AreLinesOf new.world
    (is_of person.name id) shows lines) c.shows_verdict-shows.ensures listed)) c.list_own.ensures.served
