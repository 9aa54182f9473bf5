-- Two searches of one puzzle that are told alike find the same.
use Rattle.std.proofs.Common.{◌≡◌, inl, inr, if◌then◌else◌, ℕ, Bool, true, false, List, ◌∷◌, Option, Some, refl, sym}
use Rattle.std.proofs.Common.{ap, ◌∙◌, subst}
use Rattle.std.specs.FinMap.{FinMap, get}
use Rattle.std.proofs.lemmas.Bool.{false≢true}
use Rattle.hall_grid.specs.Board.{Board}
use Rattle.hall_grid.specs.Answer.{text_of}
use Rattle.hall_policy.specs.World.{World, puzzle_cmp}
use Rattle.hall_policy.specs.OwnAlike.{exchanged}
use Rattle.hall_policy.specs.declared.record.Person.{Person}
use Rattle.hall_policy.specs.declared.record.PuzzleKey.{PuzzleKey}
use Rattle.hall_policy.specs.declared.record.PuzzleRow.{PuzzleRow}
use Rattle.hall_policy.specs.declared.record.PuzzleState.{PuzzleState}
use Rattle.hall_policy.specs.declared.record.PuzzleState.TheVariants as state
use Rattle.hall_policy.specs.declared.request.Action.{Action}
use Rattle.hall_policy.specs.declared.request.Action.TheVariants as action
use Rattle.hall_policy.specs.declared.rule.Decision.{Decision}
use Rattle.hall_policy.specs.declared.rule.Decision.TheVariants.{Allow, Repeat, Deny}
use Rattle.hall_store.specs.Caller.{caller_of}
use Rattle.hall_desk.specs.Shown.{state_name}
use Rattle.hall_desk.specs.Step.{is_open, IsFound, IsSearched, IsCertifyStep, Asked, Allowed, Decided, IsAnswered}
use Rattle.hall_desk.specs.Without.{is_certify}
use Rattle.hall_desk.specs.declared.reply.StateName.TheVariants as name
use Rattle.hall_desk.specs.declared.reply.Reply.{Reply}
use Rattle.hall_desk.specs.declared.reply.Reply.TheVariants as reply
use Rattle.hall_desk.proofs.Shows.{one_row}

-- names tell states apart, where a search found them, but for the solution
found_once : (puzzle : Board) (budget : ℕ) (f g : PuzzleState) → IsFound puzzle budget f → IsFound puzzle budget g
    → state_name f ≡ state_name g → f ≡ g
found_once puzzle budget (state.One text) (state.One other) (solution, is, written) (filling, also, writes) same =
    let one : filling ≡ solution = is.answer.1 filling also.answer.0 in
    ap state.One (written.written ∙ ap (text_of puzzle.kind puzzle.size) (sym one) ∙ sym writes.written)
found_once puzzle budget state.NoSolution state.NoSolution p q same = refl
found_once puzzle budget state.More state.More p q same = refl
found_once puzzle budget state.GaveUp state.GaveUp p q same = refl
found_once puzzle budget state.New g p q same = absurd p
found_once puzzle budget f state.New p q same = absurd q
found_once puzzle budget (state.One text) state.NoSolution p q same = let none : name.One ≡ name.NoSolution = same in
    absurd (cc)
found_once puzzle budget (state.One text) state.More p q same = let none : name.One ≡ name.More = same in absurd (cc)
found_once puzzle budget (state.One text) state.GaveUp p q same = let none : name.One ≡ name.GaveUp = same in absurd
    (cc)
found_once puzzle budget state.NoSolution (state.One other) p q same = let none : name.NoSolution ≡ name.One = same in
    absurd (cc)
found_once puzzle budget state.NoSolution state.More p q same = let none : name.NoSolution ≡ name.More = same in absurd
    (cc)
found_once puzzle budget state.NoSolution state.GaveUp p q same = let none : name.NoSolution ≡ name.GaveUp = same in
    absurd (cc)
found_once puzzle budget state.More (state.One other) p q same = let none : name.More ≡ name.One = same in absurd (cc)
found_once puzzle budget state.More state.NoSolution p q same = let none : name.More ≡ name.NoSolution = same in absurd
    (cc)
found_once puzzle budget state.More state.GaveUp p q same = let none : name.More ≡ name.GaveUp = same in absurd (cc)
found_once puzzle budget state.GaveUp (state.One other) p q same = let none : name.GaveUp ≡ name.One = same in absurd
    (cc)
found_once puzzle budget state.GaveUp state.NoSolution p q same = let none : name.GaveUp ≡ name.NoSolution = same in
    absurd (cc)
found_once puzzle budget state.GaveUp state.More p q same = let none : name.GaveUp ≡ name.More = same in absurd (cc)

module _ (world other : World) (puzzles : world.puzzles ≡ other.puzzles) (found again : PuzzleState)
    (given answered : Reply) (next after : World) where
  same_found : (caller : Option Person) (key : PuzzleKey) (budget : ℕ) (t : ℕ) (d : Decision) (row : PuzzleRow)
      → given ≡ answered → get other.puzzles key ≡ Some row →
      Decided d world caller (action.Certify key budget) t found given next
      → IsSearched other key row budget again answered after → again ≡ found
  same_found caller key budget t (Deny k) row same at first h =
      let none : reply.Denied k ≡ reply.Certify (state_name again) = sym first.0 ∙ same ∙ h.told in absurd (cc)
  same_found caller key budget t Repeat row same at first h = absurd first.0
  same_found caller key budget t Allow row same at (own, here, inl g) h =
      let rows : own ≡ row = one_row (get other.puzzles key) own row
      (ap (λ (m : FinMap puzzle_cmp PuzzleRow). get m key) (sym puzzles) ∙ here) at in
      let told : reply.Certify (state_name found) ≡ reply.Certify (state_name again) = sym g.told ∙ same ∙ h.told in
      let names : state_name found ≡ state_name again = cc in
      sym (found_once row.puzzle budget found again (subst (λ (r : PuzzleRow). IsFound r.puzzle budget found) rows
      g.is_found) h.is_found names)
  same_found caller key budget t Allow row same at (own, here, inr g) h =
      let rows : own ≡ row = one_row (get other.puzzles key) own row
      (ap (λ (m : FinMap puzzle_cmp PuzzleRow). get m key) (sym puzzles) ∙ here) at in
      absurd (false≢true (sym g.settled ∙ ap (λ (r : PuzzleRow). is_open r.state) rows ∙ h.unsettled))

  -- the second search may be said to have found what the first did
  same_search : (caller : Option Person) (key : PuzzleKey) (budget : ℕ) (t : ℕ) (d : Decision) → given ≡ answered →
      Decided d world caller (action.Certify key budget) t found given next
      → IsCertifyStep other key budget again answered after → IsCertifyStep other key budget found answered after
  same_search caller key budget t d same first (row, at, inr h) = (row, at, inr h)
  same_search caller key budget t d same first (row, at, inl h) =
      subst (λ (s : PuzzleState). IsCertifyStep other key budget s answered after)
      (same_found caller key budget t d row same at first h) (row, at, inl h)

  same_allowed : (ex : List ℕ → List ℕ → List ℕ) (caller also : Option Person) (a : Action) (t u : ℕ) (d : Decision)
      → (is_certify a ≡ true → given ≡ answered) →
      Decided d world caller a t found given next → Allowed other also (exchanged ex a) u again answered after
      → Allowed other also (exchanged ex a) u found answered after
  same_allowed ex caller also (action.Certify key budget) t u d same first h = same_search caller key budget t d
      (same refl) first h
  same_allowed ex caller also (action.Import people) t u d same first h = h
  same_allowed ex caller also _ t u d same first h = h

-- what another search answers in a world with the same puzzles, a search answers that found what the first did
pub same_answer : (ex : List ℕ → List ℕ → List ℕ) (world other : World) → world.puzzles ≡ other.puzzles
    → (asked twin : Asked) → twin.request.action ≡ exchanged ex asked.request.action →
    (again : PuzzleState) (given answered : Reply) (next after : World)
    → (is_certify asked.request.action ≡ true → given ≡ answered) →
    IsAnswered world asked given next → IsAnswered other (record twin { found = again }) answered after
    → IsAnswered other (record twin { found = asked.found }) answered after
same_answer ex world other puzzles asked twin action again given answered next after same first (Deny k, decides, h) =
    (Deny k, decides, h)
same_answer ex world other puzzles asked twin action again given answered next after same first (Repeat, decides, h) =
    (Repeat, decides, h)
same_answer ex world other puzzles asked twin turned again given answered next after same (d, decided, done)
    (Allow, decides, h) =
    let caller = caller_of world asked.request.key in
    let also = caller_of other twin.request.key in (
      Allow,
      decides,
      subst (λ (a : Action). Allowed other also a twin.moment asked.found answered after) (sym turned)
          (same_allowed world other puzzles asked.found again given answered next after ex caller also
          asked.request.action asked.moment twin.moment d same done
          (subst (λ (a : Action). Allowed other also a twin.moment again answered after) turned h)),
    )

-- ---- the replies to requests that pass a test
-- where two lists of such replies are one, so are the heads, where they pass, and the rest
pub heads_alike : (b : Bool) (g h : Reply) (gs hs : List Reply)
    → (if b then g ∷ gs else gs) ≡ (if b then h ∷ hs else hs) → (b ≡ true → g ≡ h) × (gs ≡ hs)
heads_alike true g h gs hs same =
    let both : g ∷ gs ≡ h ∷ hs = same in
    let first : g ≡ h = cc in
    let rest : gs ≡ hs = cc in
    ((λ is. first), rest)
heads_alike false g h gs hs same = ((λ h. absurd (false≢true h)), same)
