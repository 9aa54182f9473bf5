-- A request has one answer in a sane world.
use Rattle.std.proofs.Common.{◌≡◌, ◌⊎◌, ◌&&◌, ◌||◌, inl, inr, ℕ, Bool, true, false, List, map, Option, Some, refl, sym}
use Rattle.std.proofs.Common.{ap, ◌∙◌, subst}
use Rattle.std.specs.FinMap.{get, insert}
use Rattle.std.proofs.lemmas.Bool.{false≢true}
use Rattle.hall_grid.specs.Board.{Board}
use Rattle.hall_grid.specs.Canonical.{CanonicalText}
use Rattle.hall_grid.proofs.HasOneCanonicalText.{one_canonical_text}
use Rattle.hall_policy.specs.World.{World, IsRoundAt, protest_of, same_text}
use Rattle.hall_policy.specs.Ranges.{IsWorld, IsAction}
use Rattle.hall_policy.specs.Rules.{TheCaller}
use Rattle.hall_policy.specs.declared.rule.Decision.{Decision}
use Rattle.hall_policy.specs.declared.rule.Decision.TheVariants.{Allow, Repeat, Deny}
use Rattle.hall_policy.specs.declared.record.Person.{Person}
use Rattle.hall_policy.specs.declared.record.PuzzleKey.{PuzzleKey}
use Rattle.hall_policy.specs.declared.record.PuzzleRow.{PuzzleRow}
use Rattle.hall_policy.specs.declared.record.PuzzleState.{PuzzleState}
use Rattle.hall_policy.specs.declared.record.Round.{Round}
use Rattle.hall_policy.specs.declared.record.RoundRow.{RoundRow}
use Rattle.hall_policy.specs.declared.record.Entry.{Entry}
use Rattle.hall_policy.specs.declared.record.AnswerRow.{AnswerRow}
use Rattle.hall_policy.specs.declared.record.ProtestKey.{ProtestKey}
use Rattle.hall_policy.specs.declared.record.ProtestRow.{ProtestRow}
use Rattle.hall_policy.specs.declared.record.Ruling.{Ruling}
use Rattle.hall_policy.specs.declared.request.Action.{Action}
use Rattle.hall_policy.specs.declared.request.Action.TheVariants as action
use Rattle.hall_policy.specs.declared.request.Request.{Request}
use Rattle.hall_store.specs.Caller.{caller_of}
use Rattle.hall_store.specs.Store.{IsListing}
use Rattle.hall_desk.specs.Judged.{IsVerdictOn}
use Rattle.hall_desk.specs.Totals.{AreTotals}
use Rattle.hall_desk.specs.Shown.{state_name, sees_all, sees_answer, shows_verdict, answer_line, told_verdict}
use Rattle.hall_desk.specs.Shown.{ShowsRound, AreSolutions}
use Rattle.hall_desk.specs.Step.{answer_row, StandsAlready, IsPutAnew, IsSearched, IsSearchEnded, Allowed, FirstReply}
use Rattle.hall_desk.specs.Step.{Decided, IsAnswered, IsReadPuzzleStep, IsCertifyStep, IsReleaseStep, IsSubmitStep}
use Rattle.hall_desk.specs.Step.{IsAnswersStep, IsSolutionsStep, IsRuleProtestStep, IsPublishStep, IsTableStep}
use Rattle.hall_desk.specs.Agreement.{AnswersAgree, StepsAgree}
use Rattle.hall_desk.specs.declared.reply.Reply.{Reply}
use Rattle.hall_desk.specs.declared.reply.Reply.TheVariants as reply
use Rattle.hall_desk.specs.declared.reply.AnswerLine.{AnswerLine}
use Rattle.hall_desk.specs.declared.reply.ShownRound.{ShownRound}
use Rattle.hall_policy.proofs.Texts.{text_decides}
use Rattle.hall_policy.proofs.Deciding.{decisions_agree}
use Rattle.hall_desk.proofs.VerdictOnce.{one_verdict_on}
use Rattle.hall_desk.proofs.Shows.{one_row, tested_by, one_round_row, shows_tested, totals_tested, same_shown}
use Rattle.hall_desk.proofs.Shows.{same_solutions}
use Rattle.hall_desk.proofs.Listings.{same_listing}
use Rattle.hall_desk.proofs.TableOnce.{one_table}

-- two answers are one
abbrev One : Reply → Reply → World → World → Type 0
One given other new next = (given ≡ other) × (new ≡ next)

-- the caller is one
one_caller : (caller : Option Person) (P Q : Person → Type 0) (R : Type 0)
    → ((person : Person) → P person → Q person → R) → TheCaller caller P → TheCaller caller Q → R
one_caller caller P Q R one (a, is, p) (b, also, q) = let same : a ≡ b = one_row caller a b is also in one b
    (subst P same p) q

module _ (world : World) (typed : IsWorld world) where
  -- ---- the actions, one by one
  one_put : (key : PuzzleKey) (puzzle : Board) (text : List ℕ) (given other : Reply) (new next : World) →
      StandsAlready world key puzzle text given new ⊎ IsPutAnew world key puzzle text given new
      → StandsAlready world key puzzle text other next ⊎ IsPutAnew world key puzzle text other next
      → One given other new next
  one_put key puzzle text given other new next (inl a) (inl b) =
      let row : a.0 ≡ b.0 = one_row (get world.puzzles key) a.0 b.0 a.1 b.1 in
      (a.3 ∙ ap (λ (r : PuzzleRow). reply.PutPuzzle (state_name r.state) text) row ∙ sym b.3, a.4 ∙ sym b.4)
  one_put key puzzle text given other new next (inl a) (inr b) = absurd (b.0 a.0 a.1 a.2)
  one_put key puzzle text given other new next (inr a) (inl b) = absurd (a.0 b.0 b.1 b.2)
  one_put key puzzle text given other new next (inr a) (inr b) = (a.1 ∙ sym b.1, a.2 ∙ sym b.2)

  one_read : (key : PuzzleKey) (given other : Reply) → IsReadPuzzleStep world key given
      → IsReadPuzzleStep world key other → given ≡ other
  one_read key given other (row, text, kept, canonical, told) (same, script, found, also, says) =
      let rows : row ≡ same = one_row (get world.puzzles key) row same kept found in
      let texts : text ≡ script =
      one_canonical_text text script same.puzzle (typed.in_range.puzzles key same found).puzzle
      (subst (λ (r : PuzzleRow). CanonicalText text r.puzzle) rows canonical) also in
      told ∙ (λ i. reply.ReadPuzzle key (state_name (rows i).state) (texts i)) ∙ sym says

  one_search : (key : PuzzleKey) (budget : ℕ) (found again : PuzzleState) (given other : Reply) (new next : World)
      → found ≡ again →
      IsCertifyStep world key budget found given new → IsCertifyStep world key budget again other next
      → One given other new next
  one_search key budget found again given other new next same (row, kept, a) (twin, stands, b) =
      let rows : row ≡ twin = one_row (get world.puzzles key) row twin kept stands in
      outcome twin (subst (λ (r : PuzzleRow). IsSearched world key r budget found given new
      ⊎ IsSearchEnded world r given new) rows a) b
    where
      outcome : (row : PuzzleRow) → IsSearched world key row budget found given new ⊎ IsSearchEnded world row given new
          → IsSearched world key row budget again other next ⊎ IsSearchEnded world row other next
          → One given other new next
      outcome row (inl a) (inl b) = (
        a.told ∙ ap (λ (s : PuzzleState). reply.Certify (state_name s)) same ∙ sym b.told,
        a.stored ∙ ap (λ (s : PuzzleState). record world {
          puzzles = insert world.puzzles key
              (record row { state = s });
        }) same ∙ sym b.stored,
      )
      outcome row (inl a) (inr b) = absurd (false≢true (sym b.settled ∙ a.unsettled))
      outcome row (inr a) (inl b) = absurd (false≢true (sym a.settled ∙ b.unsettled))
      outcome row (inr a) (inr b) = (a.told ∙ sym b.told, a.same ∙ sym b.same)

  one_release : (id : List ℕ) (given other : Reply) (new next : World) → IsReleaseStep world id given new
      → IsReleaseStep world id other next → One given other new next
  one_release id given other new next (round, kept, told, stored) (same, found, says, after) =
      let rounds : round ≡ same = one_row (get world.rounds id) round same kept found in (
        told ∙ sym says,
        stored ∙ ap (λ (r : Round). record world
            { rounds = insert world.rounds id (record r { released = true }) }) rounds ∙ sym after,
      )

  one_publication : (id : List ℕ) (given other : Reply) (new next : World) → IsPublishStep world id given new
      → IsPublishStep world id other next → One given other new next
  one_publication id given other new next (round, kept, told, stored) (same, found, says, after) =
      let rounds : round ≡ same = one_row (get world.rounds id) round same kept found in (
        told ∙ sym says,
        stored ∙ ap (λ (r : Round). record world
            { rounds = insert world.rounds id (record r { published = true }) }) rounds ∙ sym after,
      )

  one_submission : (person : Person) (id : List ℕ) (number : ℕ) (token answer : List ℕ) (t : ℕ) (given other : Reply)
      (new next : World) →
      IsSubmitStep world person id number token answer t given new → IsSubmitStep world person id number token answer t
      other next → One given other new next
  one_submission person id number token answer t given other new next
      (round, entry, puzzle, verdict, kept, placed, stands, judged, (told, stored))
      (same, place, twin, also, found, listed, here, says, (tells, after)) =
      let rounds : round ≡ same = one_row (get world.rounds id) round same kept found in
      let entries : entry ≡ place = one_row (get world.places (record { round = id; number = number })) entry place
      placed listed in
      let puzzles : puzzle ≡ twin = one_row (get world.puzzles place.puzzle) puzzle twin
      (ap (λ (e : Entry). get world.puzzles e.puzzle) (sym entries) ∙ stands) here in
      let verdicts : verdict ≡ also = one_verdict_on twin answer verdict also
      (subst (λ (r : PuzzleRow). IsVerdictOn r answer verdict) puzzles judged) says in
      let row : ℕ → AnswerRow = answer_row world person id number token answer t in (
        told ∙ (λ i. reply.Submit (row (verdicts i)).n (told_verdict (rounds i) (verdicts i))) ∙ sym tells,
        stored ∙ (λ i. record world { answers = insert world.answers (row (verdicts i)).key (row (verdicts i)) })
            ∙ sym after,
      )

  -- a listing of answers lists those of one round
  in_round : (person : Person) (round : Round) (id : List ℕ) (t : ℕ) (row : AnswerRow)
      → sees_answer person round id t row ≡ true → row.key.round ≡ id
  in_round person round id t row seen = (text_decides row.key.round id).0
      (and_first (same_text row.key.round id) (sees_all person round t || same_text row.key.entrant person.name) seen)
    where
      and_first : (a b : Bool) → (a && b) ≡ true → a ≡ true
      and_first true b h = refl
      and_first false b h = absurd (false≢true h)

  one_listing : (person : Person) (id : List ℕ) (t : ℕ) (given other : Reply) → IsAnswersStep world person id t given
      → IsAnswersStep world person id t other → given ≡ other
  one_listing person id t given other (round, rows, kept, listed, told) (same, others, found, lists, says) =
      let rounds : round ≡ same = one_row (get world.rounds id) round same kept found in
      let line : AnswerRow → AnswerLine = answer_line (shows_verdict person same t) in
      let lines : map line rows ≡ map line others =
      same_listing world world id (sees_answer person same id t) line line rows others typed
      (λ row seen. in_round person same id t row seen) (λ a b. refl) (λ a b. refl) refl
      (subst (λ (r : Round). IsListing world (sees_answer person r id t) rows) rounds listed) lists in
      told ∙ ap (λ (r : Round). reply.Answers (map (answer_line (shows_verdict person r t)) rows)) rounds
      ∙ ap reply.Answers lines ∙ sym says

  one_solutions : (id : List ℕ) (given other : Reply) → IsSolutionsStep world id given → IsSolutionsStep world id other
      → given ≡ other
  one_solutions id given other (row, texts, at, solved, told) (same, others, there, solves, says) =
      let rows : row ≡ tested_by same row.testers = one_round_row world world id row same refl refl at there in
      let texts_same : texts ≡ others =
      same_solutions world world typed same.puzzles texts others (λ k entry here. refl)
      (subst (λ (r : RoundRow). AreSolutions world r.puzzles texts) rows solved) solves in
      told ∙ ap reply.Solutions texts_same ∙ sym says

  one_ruling : (round entrant token : List ℕ) (ruling : Ruling) (given other : Reply) (new next : World) →
      IsRuleProtestStep world round entrant token ruling given new → IsRuleProtestStep world round entrant token ruling
      other next → One given other new next
  one_ruling round entrant token ruling given other new next (row, kept, told, stored) (same, found, says, after) =
      let key : ProtestKey = record { entrant = entrant; round = round; token = token } in
      let rows : row ≡ same = one_row (protest_of world entrant round token) row same kept found in (
        told ∙ sym says,
        stored ∙ ap (λ (r : ProtestRow). record world
            { protests = insert world.protests key (record r { ruling = Some ruling }) }) rows ∙ sym after,
      )

  pub one_table_read : (id : List ℕ) (given other : Reply) → IsTableStep world id given → IsTableStep world id other
      → given ≡ other
  one_table_read id given other (text, (row, at, (totals, are, written)), told)
      (script, (same, there, (others, also, writes)), says) =
      let rows : row ≡ tested_by same row.testers = one_round_row world world id row same refl refl at there in
      let texts : text ≡ script =
      one_table world world id same totals others text script (λ entrant. refl) (λ entrant. refl)
      (totals_tested world id same row.testers totals (subst (λ (r : RoundRow). AreTotals world id r totals) rows
      are)) also written writes in
      told ∙ ap reply.Table texts ∙ sym says

  one_shown : (id : List ℕ) (given other : Reply) → (row : RoundRow) → (shown : ShownRound) → IsRoundAt world id row
      → ShowsRound world row shown → given ≡ reply.ReadRound shown →
      (same : RoundRow) → (screen : ShownRound) → IsRoundAt world id same → ShowsRound world same screen
      → other ≡ reply.ReadRound screen → given ≡ other
  one_shown id given other row shown at shows told same screen there showing says =
      let rows : row ≡ tested_by same row.testers = one_round_row world world id row same refl refl at there in
      let both : shown ≡ screen = same_shown world world typed same shown screen (λ k entry here. refl)
      (shows_tested world same row.testers shown (subst (λ (r : RoundRow). ShowsRound world r shown) rows shows))
      showing in
      told ∙ ap reply.ReadRound both ∙ sym says

  -- ---- what is allowed
  one_allowed : (caller : Option Person) (a : Action) (t : ℕ) (found again : PuzzleState) (given other : Reply)
      (new next : World) → IsAction a →
      ((key : PuzzleKey) (budget : ℕ) → a ≡ action.Certify key budget → found ≡ again) →
      Allowed world caller a t found given new → Allowed world caller a t again other next → One given other new next
  one_allowed caller (action.Import people) t found again given other new next is same p q =
      (p.0 ∙ sym q.0, p.1 ∙ sym q.1)
  one_allowed caller (action.PutPuzzle key puzzle) t found again given other new next is same (text, canonical, p)
      (script, also, q) =
      let texts : text ≡ script = one_canonical_text text script puzzle is.1 canonical also in
      one_put key puzzle script given other new next (subst (λ (x : List ℕ). StandsAlready world key puzzle x given new
      ⊎ IsPutAnew world key puzzle x given new) texts p) q
  one_allowed caller (action.ReadPuzzle key) t found again given other new next is same p q =
      (one_read key given other p.0 q.0, p.1 ∙ sym q.1)
  one_allowed caller action.ListPuzzles t found again given other new next is same p q =
      one_caller caller _ _ (One given other new next) (λ person x y. (x.0 ∙ sym y.0, x.1 ∙ sym y.1)) p q
  one_allowed caller (action.Certify key budget) t found again given other new next is same p q = one_search key budget
      found again given other new next (same key budget refl) p q
  one_allowed caller (action.PutRound id sheet) t found again given other new next is same p q =
      (p.0 ∙ sym q.0, p.1 ∙ sym q.1)
  one_allowed caller (action.Release id) t found again given other new next is same p q = one_release id given other new
      next p q
  one_allowed caller action.ListRounds t found again given other new next is same p q =
      one_caller caller _ _ (One given other new next) (λ person x y. (x.0 ∙ sym y.0, x.1 ∙ sym y.1)) p q
  one_allowed caller (action.ReadRound id) t found again given other new next is same
      ((row, shown, at, shows, told), stays) ((twin, screen, there, showing, says), still) =
      (one_shown id given other row shown at shows told twin screen there showing says, stays ∙ sym still)
  one_allowed caller (action.Submit id number token answer) t found again given other new next is same p q =
      one_caller caller _ _ (One given other new next) (λ person x y. one_submission person id number token answer t
      given other new next x y) p q
  one_allowed caller (action.Answers id) t found again given other new next is same p q =
      one_caller caller _ _ (One given other new next) (λ person x y.
      (one_listing person id t given other x.0 y.0, x.1 ∙ sym y.1)) p q
  one_allowed caller (action.Solutions id) t found again given other new next is same p q =
      (one_solutions id given other p.0 q.0, p.1 ∙ sym q.1)
  one_allowed caller (action.Protest id token number text) t found again given other new next is same p q =
      one_caller caller _ _ (One given other new next) (λ person x y. (x.0 ∙ sym y.0, x.1 ∙ sym y.1)) p q
  one_allowed caller (action.Protests id) t found again given other new next is same p q =
      one_caller caller _ _ (One given other new next) (λ person x y. (x.0 ∙ sym y.0, x.1 ∙ sym y.1)) p q
  one_allowed caller (action.RuleProtest id entrant token ruling) t found again given other new next is same p q =
      one_ruling id entrant token ruling given other new next p q
  one_allowed caller (action.Publish id) t found again given other new next is same p q = one_publication id given other
      new next p q
  one_allowed caller (action.Table id) t found again given other new next is same p q =
      (one_table_read id given other p.0 q.0, p.1 ∙ sym q.1)

  -- ---- what is told again
  one_first_reply : (caller : Option Person) (a : Action) (given other : Reply) → FirstReply world caller a given
      → FirstReply world caller a other → given ≡ other
  one_first_reply caller (action.Submit id number token answer) given other p q =
      one_caller caller _ _ (given ≡ other) (λ person x y.
      let rounds : x.0 ≡ y.0 = one_row (get world.rounds id) x.0 y.0 x.2 y.2 in
      let rows : x.1 ≡ y.1 = one_row (get world.answers (record
      { entrant = person.name; round = id; number = number; token = token })) x.1 y.1 x.3 y.3 in
      x.4 ∙ (λ i. reply.Submit (rows i).n (told_verdict (rounds i) (rows i).verdict)) ∙ sym y.4) p q
  one_first_reply caller (action.Protest id token number text) given other p q = one_caller caller _ _ (given ≡ other)
      (λ person x y. x.2 ∙ sym y.2) p q
  one_first_reply caller (action.RuleProtest id entrant token ruling) given other (row, ruled, kept, is, told)
      (same, rules, found, also, says) =
      let rows : row ≡ same = one_row (protest_of world entrant id token) row same kept found in
      let rulings : ruled ≡ rules = one_row same.ruling ruled rules (ap (λ (r : ProtestRow). r.ruling) (sym rows) ∙ is)
      also in
      told ∙ ap reply.RuleProtest rulings ∙ sym says
  one_first_reply caller _ given other p q = absurd p

  -- ---- what is decided
  one_decided : (caller : Option Person) (a : Action) (t : ℕ) (d : Decision) (found again : PuzzleState)
      (given other : Reply) (new next : World) → IsAction a →
      ((key : PuzzleKey) (budget : ℕ) → a ≡ action.Certify key budget → found ≡ again) →
      Decided d world caller a t found given new → Decided d world caller a t again other next
      → One given other new next
  one_decided caller a t (Deny k) found again given other new next is same p q = (p.0 ∙ sym q.0, p.1 ∙ sym q.1)
  one_decided caller a t Repeat found again given other new next is same p q =
      (one_first_reply caller a given other p.0 q.0, p.1 ∙ sym q.1)
  one_decided caller a t Allow found again given other new next is same p q = one_allowed caller a t found again given
      other new next is same p q

  -- a moment and a request have one answer, where a search would find the same
  one_answer : (t : ℕ) (request : Request) (found again : PuzzleState) (given other : Reply) (new next : World)
      → IsAction request.action →
      ((key : PuzzleKey) (budget : ℕ) → request.action ≡ action.Certify key budget → found ≡ again) →
      IsAnswered world (record { moment = t; request = request; found = found }) given new →
      IsAnswered world (record { moment = t; request = request; found = again }) other next → One given other new next
  one_answer t request found again given other new next is same (d, first, p) (e, second, q) =
      let caller : Option Person = caller_of world request.key in
      let a : Action = request.action in
      let one : d ≡ e = decisions_agree world caller a t d e first second in
      one_decided caller a t e found again given other new next is same
      (subst (λ (x : Decision). Decided x world caller a t found given new) one p) q

pub answers_agree : AnswersAgree
answers_agree world asked given other new next sane timed p q =
    one_answer world sane.typed asked.moment asked.request asked.found asked.found given other new next
    timed.request.action (λ key budget is. refl) p q

pub steps_agree : StepsAgree
steps_agree world t request given other new next sane timed plain (inl p) q serves also = absurd (serves p.0)
steps_agree world t request given other new next sane timed plain (inr p) (inl q) serves also = absurd (also q.0)
steps_agree world t request given other new next sane timed plain (inr (found, p)) (inr (again, q)) serves also =
    one_answer world sane.typed t request found again given other new next timed.request.action
    (λ key budget is. absurd (plain key budget is)) p q
