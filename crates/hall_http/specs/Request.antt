-- What the bytes of one request ask of the hall, or the first fault of their form.
use Rattle.std.specs.Prelude.{◌≡◌, ◌≢◌, ◌⊎◌, ℕ, Bool, true, false, List, if◌then◌else◌, Option, Some, None}
use Rattle.std.specs.Prelude.{option_and_then, option_map, Result, Ok, Err, codes}
use Rattle.std.specs.Str.{bytes_eq}
use Rattle.httparse.specs.Grammar.{RequestHead}
use Rattle.hall_grid.specs.declared.fault.TextFault.{TextFault}
use Rattle.hall_grid.specs.declared.fault.TextFault.TheVariants as text_fault
use Rattle.hall_grid.specs.Board.{Board}
use Rattle.hall_grid.specs.Text.{SpellsText, FaultOf}
use Rattle.hall_policy.specs.Text.{is_kind, as_key}
use Rattle.hall_policy.specs.Reading.{◌>>=◌}
use Rattle.hall_policy.specs.declared.record.PuzzleKey.{PuzzleKey}
use Rattle.hall_policy.specs.declared.request.Action.{Action}
use Rattle.hall_policy.specs.declared.request.Action.TheVariants as action
use Rattle.hall_policy.specs.declared.request.Request.{Request}
use Rattle.hall_desk.specs.Plans.{IsNobodys}
use Rattle.hall_sheet.specs.declared.fault.Refusal.{Refusal}
use Rattle.hall_sheet.specs.declared.fault.SheetFault.{SheetFault}
use Rattle.hall_sheet.specs.declared.fault.SheetFault.TheVariants as sheet_fault
use Rattle.hall_sheet.specs.People.{people_in}
use Rattle.hall_sheet.specs.Sheet.{sheet_in}
use Rattle.hall_http.specs.declared.form.PuzzleFault.{PuzzleFault}
use Rattle.hall_http.specs.declared.form.PuzzleFault.TheVariants as puzzle
use Rattle.hall_http.specs.declared.form.FormFault.{FormFault}
use Rattle.hall_http.specs.declared.form.FormFault.TheVariants as fault
use Rattle.hall_http.specs.declared.form.RequestFault.{RequestFault}
use Rattle.hall_http.specs.declared.form.RequestFault.TheVariants as unread
use Rattle.hall_http.specs.declared.head.RawRequest.{RawRequest}
use Rattle.hall_http.specs.declared.routes.Resource.{Resource}
use Rattle.hall_http.specs.declared.routes.Resource.TheVariants as resource
use Rattle.hall_http.specs.Body.{answer_in_body, text_in_body, budget_in_body, protest_in_body, ruling_in_body}
use Rattle.hall_http.specs.Head.{IsHeadAndBody, IsWholeRequest, shown_key}
use Rattle.hall_http.specs.Routes.{Parts, word_in, token_in_path, puzzle_number, puzzle_key_in}
use Rattle.hall_http.specs.Routes.{by_method, puzzle_by, round_by, resource_in}

-- what is wrong with a text that is no puzzle; out of memory says nothing of it
abbrev pub puzzle_fault : TextFault → Option PuzzleFault
puzzle_fault text_fault.Memory = None
puzzle_fault text_fault.Kind = Some puzzle.Kind
puzzle_fault text_fault.SizeField = Some puzzle.SizeField
puzzle_fault text_fault.SizeLimit = Some puzzle.SizeLimit
puzzle_fault (text_fault.Strange place) = Some (puzzle.Strange place)
puzzle_fault (text_fault.Cut place) = Some (puzzle.Cut place)
puzzle_fault (text_fault.Range place) = Some (puzzle.Range place)
puzzle_fault (text_fault.After place) = Some (puzzle.After place)

-- why bytes that were not read as an entry list or a round sheet are not read as a request
abbrev pub unread_sheet : SheetFault → RequestFault
unread_sheet sheet_fault.Memory = unread.Memory
unread_sheet (sheet_fault.Refused r) = unread.Form (fault.Sheet r)

-- the puzzle that a text spells, to be put under the key, or the text's first fault
abbrev pub PutOf : PuzzleKey → List ℕ → Result Action FormFault → Type 0
PutOf key text (Ok asked) = (board : Board) × SpellsText text board × (asked ≡ action.PutPuzzle key board)
PutOf key text (Err found) =
    (first : TextFault) × (told : PuzzleFault) × FaultOf text first × (puzzle_fault first ≡ Some told)
    × (found ≡ fault.Puzzle told)

-- the same, where there are a key and a text, else the first fault
abbrev pub PutFrom : Result (PuzzleKey × List ℕ) FormFault → Result Action FormFault → Type 0
PutFrom (Err f) outcome = outcome ≡ Err f
PutFrom (Ok put) outcome = PutOf put.0 put.1 outcome

-- the puzzle that the body's text spells, to be put under the key of the path's parts
abbrev pub PutPuzzleAt : Parts → List ℕ → Result Action FormFault → Type 0
PutPuzzleAt p body outcome =
    PutFrom (puzzle_key_in p >>= (λ key. text_in_body body >>= (λ text. Ok (key, text)))) outcome

-- what is asked of a puzzle: PUT stores it, GET reads it
abbrev pub PuzzleAt : Bool → List ℕ → Parts → List ℕ → Result Action FormFault → Type 0
PuzzleAt true method p body outcome = PutPuzzleAt p body outcome
PuzzleAt false method p body outcome =
    outcome ≡ (puzzle_by method (codes "GET") p >>= (λ key. Ok (action.ReadPuzzle key)))

-- what an entry list or a round sheet spells; its refusal is the body's first fault
abbrev pub of_sheet : {A : Type 0} → Result A Refusal → Result A FormFault
of_sheet (Ok x) = Ok x
of_sheet (Err r) = Err (fault.Sheet r)

-- the draft of the round of the path's parts, by the sheet that the body spells
abbrev pub put_round_at : Parts → List ℕ → Result Action FormFault
put_round_at p body =
    word_in p.first >>= (λ id. of_sheet (sheet_in body) >>= (λ sheet. Ok (action.PutRound id sheet)))

-- what a method asks at a resource, with the path's parts and the body: the first fault of method and parts, then the
-- body's
abbrev pub ActionAt : List ℕ → Resource → Parts → List ℕ → Result Action FormFault → Type 0
ActionAt method resource.People p body outcome =
    outcome ≡ (by_method method (codes "POST")
    >>= (λ _. of_sheet (people_in body)
    >>= (λ people. Ok (action.Import people))))
ActionAt method resource.Puzzles p body outcome =
    outcome ≡ (by_method method (codes "GET") >>= (λ _. Ok action.ListPuzzles))
ActionAt method resource.Puzzle p body outcome = PuzzleAt (bytes_eq method (codes "PUT")) method p body outcome
ActionAt method resource.Certificate p body outcome =
    outcome ≡ (puzzle_by method (codes "POST") p
    >>= (λ key. budget_in_body body
    >>= (λ budget. Ok (action.Certify key budget))))
ActionAt method resource.Rounds p body outcome =
    outcome ≡ (by_method method (codes "GET") >>= (λ _. Ok action.ListRounds))
ActionAt method resource.Round p body outcome =
    outcome ≡ (if bytes_eq method (codes "PUT") then put_round_at p body
    else (round_by method (codes "GET") p >>= (λ id. Ok (action.ReadRound id))))
ActionAt method resource.Release p body outcome =
    outcome ≡ (round_by method (codes "POST") p >>= (λ id. Ok (action.Release id)))
ActionAt method resource.Answers p body outcome =
    outcome ≡ (round_by method (codes "GET") p >>= (λ id. Ok (action.Answers id)))
ActionAt method resource.Answer p body outcome =
    outcome ≡ (round_by method (codes "PUT") p
    >>= (λ id. puzzle_number p.second
    >>= (λ number. token_in_path p.third
    >>= (λ token. answer_in_body body
    >>= (λ answer. Ok (action.Submit id number token answer))))))
ActionAt method resource.Solutions p body outcome =
    outcome ≡ (round_by method (codes "GET") p >>= (λ id. Ok (action.Solutions id)))
ActionAt method resource.Protests p body outcome =
    outcome ≡ (round_by method (codes "GET") p >>= (λ id. Ok (action.Protests id)))
ActionAt method resource.Protest p body outcome =
    outcome ≡ (round_by method (codes "PUT") p
    >>= (λ id. token_in_path p.second
    >>= (λ token. protest_in_body body
    >>= (λ protest. Ok (action.Protest id token protest.0 protest.1)))))
ActionAt method resource.Ruling p body outcome =
    outcome ≡ (round_by method (codes "PUT") p
    >>= (λ id. word_in p.second
    >>= (λ entrant. token_in_path p.third
    >>= (λ token. ruling_in_body body
    >>= (λ ruling. Ok (action.RuleProtest id entrant token ruling))))))
ActionAt method resource.Publish p body outcome =
    outcome ≡ (round_by method (codes "POST") p >>= (λ id. Ok (action.Publish id)))
ActionAt method resource.Table p body outcome =
    outcome ≡ (round_by method (codes "GET") p >>= (λ id. Ok (action.Table id)))

-- the same at the resource that was found, or the path's fault
abbrev pub ActionFrom : List ℕ → Result (Resource × Parts) FormFault → List ℕ → Result Action FormFault → Type 0
ActionFrom method (Err f) body outcome = outcome ≡ Err f
ActionFrom method (Ok at) body outcome = ActionAt method at.0 at.1 body outcome

-- what a method, a path and a body ask for, or their first fault: the faults of method and path come before the
-- body's
abbrev pub ActionOf : List ℕ → List ℕ → List ℕ → Result Action FormFault → Type 0
ActionOf method path body outcome = ActionFrom method (resource_in path) body outcome

-- the caller's key: none where the text isn't of a key's form
abbrev pub caller_key_in : List ℕ → Option (List ℕ)
caller_key_in text = if as_key is_kind text then Some text else None

-- the action under the caller's key
abbrev pub asked_by : Option (List ℕ) → Result Action FormFault → Result Request FormFault
asked_by shown outcome =
    outcome >>= (λ asked. Ok (record { key = option_and_then caller_key_in shown; action = asked }))

-- what method, path and body ask for, by whoever shows this as the key
abbrev pub AsksBy : Option (List ℕ) → List ℕ → List ℕ → List ℕ → Result Request FormFault → Type 0
AsksBy shown method path body outcome =
    (asked : Result Action FormFault) × ActionOf method path body asked × (outcome ≡ asked_by shown asked)

-- what a head and a body ask for
abbrev pub AskedOf : RequestHead → List ℕ → Result Request FormFault → Type 0
AskedOf head body outcome = AsksBy (shown_key head) head.method head.target body outcome

-- what a request whose parts the code lends asks for
abbrev pub AsksFor : RawRequest → Result Request FormFault → Type 0
AsksFor raw outcome =
    AsksBy (option_map (λ key. key.now) raw.key) raw.method.now raw.path.now raw.body.now outcome

-- the bytes are one whole request, which asks for this or has this first fault, or they aren't
abbrev pub RequestOf : List ℕ → Result Request FormFault → Type 0
RequestOf bytes outcome =
    (¬ (IsWholeRequest bytes) × (outcome ≡ Err fault.NotWhole))
    ⊎ ((head : RequestHead) × (body : List ℕ) × IsHeadAndBody bytes head body × AskedOf head body outcome)

-- the bytes are one whole request of the hall
abbrev pub AsksRequest : List ℕ → Type 0
AsksRequest bytes = (request : Request) × RequestOf bytes (Ok request)

-- the bytes are no request of the hall, or one that nobody may make
abbrev pub AsksNothing : List ℕ → Type 0
AsksNothing bytes =
    ¬ (AsksRequest bytes) ⊎ ((request : Request) × RequestOf bytes (Ok request) × IsNobodys request)

-- the request is one that is put to the store: the clock told a moment for it, and it is one of the hall that somebody
-- may make
abbrev pub ReachesStore : Option ℕ → List ℕ → Type 0
ReachesStore moment bytes = (moment ≢ None) × ¬ (AsksNothing bytes)
