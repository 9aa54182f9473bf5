-- Lists of requests with what their searches find: how they are answered, and what entrants can't learn from them.
use Rattle.std.specs.Prelude.{◌≡◌, ◌&&◌, ℕ, false, List, [], ◌∷◌, Some, map, All, IsTrue}
use Rattle.std.specs.List.{filter}
use Rattle.std.specs.FinMap.{get}
use Rattle.hall_policy.specs.World.{World}
use Rattle.hall_policy.specs.Ranges.{IsAnswer}
use Rattle.hall_policy.specs.OwnAlike.{is_entrant_alone}
use Rattle.hall_policy.specs.declared.record.Person.{Person}
use Rattle.hall_policy.specs.declared.record.PuzzleKey.{PuzzleKey}
use Rattle.hall_policy.specs.declared.record.PuzzleRow.{PuzzleRow}
use Rattle.hall_policy.specs.declared.record.PuzzleState.{PuzzleState}
use Rattle.hall_policy.specs.declared.record.Round.{Round}
use Rattle.hall_policy.specs.declared.request.Action.TheVariants.{Certify}
use Rattle.hall_policy.specs.declared.request.Request.{Request}
use Rattle.hall_desk.specs.Sane.{Sane}
use Rattle.hall_desk.specs.Step.{is_open, Asked, IsAnswered}
use Rattle.hall_desk.specs.Run.{IsTimed, Run}
use Rattle.hall_desk.specs.Without.{GrantsNoPublication, stays, replies_where, replies_to, certifies, Serve}
use Rattle.hall_desk.specs.Exchanged.{swapped, exchanged_request, exchanged_replies, IsSealedRound}
use Rattle.hall_desk.specs.declared.reply.Reply.{Reply}

-- each request is answered as it is decided, with what its search finds, and none is Unavailable
abbrev pub AnsweredRun : World → List Asked → List Reply → World → Type 0
AnsweredRun world [] [] last = last ≡ world
AnsweredRun world (asked ∷ rest) (given ∷ replies) last =
    (next : World) × IsAnswered world asked given next × AnsweredRun next rest replies last
AnsweredRun world [] (given ∷ replies) last = ⊥
AnsweredRun world (asked ∷ rest) [] last = ⊥

-- the moment and the request
abbrev pub timed : Asked → ℕ × Request
timed asked = (asked.moment, asked.request)

-- the request runs no search
abbrev pub SearchesNothing : World → Asked → Type 0
SearchesNothing world asked =
    (key : PuzzleKey) (budget : ℕ) (row : PuzzleRow) → asked.request.action ≡ Certify key budget →
    get world.puzzles key ≡ Some row → is_open row.state ≡ false

-- a list that is answered is run, and all its replies serve; a run whose replies all serve is that of a list that is
-- answered; and what a search would find is read only where a request runs one
pub record RunsAreAnswered : Type 0 where
  pub run : (world last : World) (list : List Asked) (replies : List Reply) → AnsweredRun world list replies last →
      Run world (map timed list) replies last × Serve replies
  pub answered : (world last : World) (requests : List (ℕ × Request)) (replies : List Reply) →
      Run world requests replies last → Serve replies →
      (list : List Asked) × (map timed list ≡ requests) × AnsweredRun world list replies last
  pub unread : (world new : World) (asked : Asked) (found : PuzzleState) (given : Reply) →
      SearchesNothing world asked →
      IsAnswered world asked given new → IsAnswered world (record asked { found = found }) given new

-- the list without the requests of others than e who hold the role entrant alone in the world at its end
abbrev pub left_in : World → Person → List Asked → List Asked
left_in last e list = filter (λ asked. stays last e (timed asked)) list

-- of others who hold the role entrant alone, e learns nothing: the replies to e are those to the list without their
-- requests, where each search that stands in both lists finds the same in both, and no reply grants a publication
abbrev pub OthersHiddenInAnswers : Type 0
OthersHiddenInAnswers =
    (world last end : World) (e : Person) (list : List Asked) (replies others : List Reply) →
    Sane world → All IsTimed (map timed list) →
    get last.people e.name ≡ Some e → IsTrue (is_entrant_alone e) →
    AnsweredRun world list replies last → AnsweredRun world (left_in last e list) others end →
    All GrantsNoPublication replies → All GrantsNoPublication others →
    replies_to e.key (map timed list) replies ≡ replies_to e.key (map timed (left_in last e list)) others

-- and each request to certify that stands in both is answered alike then
abbrev pub CertifiedWithoutOthers : Type 0
CertifiedWithoutOthers =
    (world last end : World) (e : Person) (list : List Asked) (replies others : List Reply) →
    Sane world → All IsTimed (map timed list) →
    get last.people e.name ≡ Some e → IsTrue (is_entrant_alone e) →
    AnsweredRun world list replies last → AnsweredRun world (left_in last e list) others end →
    All GrantsNoPublication replies → All GrantsNoPublication others →
    replies_where (λ asked. stays last e asked && certifies asked) (map timed list) replies
    ≡ replies_where certifies (map timed (left_in last e list)) others

-- the request with the text of its answer, where it hands one in, read by `ex`
abbrev pub exchanged_asked : (List ℕ → List ℕ → List ℕ) → Asked → Asked
exchanged_asked ex asked = record asked { request = exchanged_request ex asked.request }

-- until a sealed round's end, which of two texts is the answer is hidden: the replies to e are those to the list, with
-- the two texts exchanged where answers to the round are listed, where each search finds the same in both lists
abbrev pub SealedAnswers : Type 0
SealedAnswers =
    (world last end : World) (r a b : List ℕ) (round : Round) (e : Person) (list : List Asked)
    (replies others : List Reply) →
    Sane world → All IsTimed (map timed list) → IsSealedRound world r round (map timed list) →
    IsAnswer a → IsAnswer b → get last.people e.name ≡ Some e → IsTrue (is_entrant_alone e) →
    let turned : List Asked = map (exchanged_asked (swapped r a b)) list in
    AnsweredRun world list replies last → AnsweredRun world turned others end →
    replies_to e.key (map timed turned) others
    ≡ replies_to e.key (map timed list) (exchanged_replies r a b (map timed list) replies)

-- and each request to certify is answered alike then
abbrev pub CertifiedExchanged : Type 0
CertifiedExchanged =
    (world last end : World) (r a b : List ℕ) (round : Round) (e : Person) (list : List Asked)
    (replies others : List Reply) →
    Sane world → All IsTimed (map timed list) → IsSealedRound world r round (map timed list) →
    IsAnswer a → IsAnswer b → get last.people e.name ≡ Some e → IsTrue (is_entrant_alone e) →
    let turned : List Asked = map (exchanged_asked (swapped r a b)) list in
    AnsweredRun world list replies last → AnsweredRun world turned others end →
    replies_where certifies (map timed list) replies ≡ replies_where certifies (map timed turned) others
