-- What is answered, and what is changed, is the same where people have other keys.
use Rattle.std.proofs.Common.{◌≡◌, ◌⊎◌, ◌+◌, inl, inr, ℕ, Bool, true, false, not, cond, List, [], ◌∷◌, count_by, map}
use Rattle.std.proofs.Common.{if◌then◌else◌, Option, Some, None, refl, sym, ap, ◌∙◌, subst}
use Rattle.std.specs.Prelude.{All}
use Rattle.std.specs.Option.{option_map, is_some}
use Rattle.std.specs.FinMap.{FinMap, get, insert, contains_key, get-insert}
use Rattle.std.specs.Ordering.{eq_by_cmp}
use Rattle.std.proofs.lemmas.Bool.{cases_order, false≢true}
use Rattle.std.proofs.lemmas.List.Elements.{All-head, All-tail}
use Rattle.hall_policy.specs.Text.{text_cmp}
use Rattle.hall_policy.specs.World.{World, IsRoundAt}
use Rattle.hall_policy.specs.First.{First}
use Rattle.hall_policy.specs.declared.record.Person.{Person}
use Rattle.hall_policy.specs.declared.record.PuzzleState.{PuzzleState}
use Rattle.hall_policy.specs.declared.record.Entry.{Entry}
use Rattle.hall_policy.specs.declared.record.RoundRow.{RoundRow}
use Rattle.hall_policy.specs.declared.request.Action.{Action}
use Rattle.hall_policy.specs.declared.request.Action.TheVariants as action
use Rattle.hall_policy.specs.declared.rule.Decision.{Decision}
use Rattle.hall_policy.specs.declared.rule.Decision.TheVariants.{Allow, Repeat, Deny}
use Rattle.hall_policy.proofs.Orders.{text_total}
use Rattle.hall_store.specs.Caller.{caller_of}
use Rattle.hall_store.specs.Change.{with_person, with_people}
use Rattle.hall_desk.specs.AnsweredRun.{AnsweredRun, timed}
use Rattle.hall_desk.specs.Run.{IsTimed}
use Rattle.hall_desk.specs.Sane.{Sane}
use Rattle.hall_desk.specs.Shown.{ShowsPuzzles, ShowsRound, AreSolutions}
use Rattle.hall_desk.specs.Step.{Asked, IsAnswered, Allowed, FirstReply, Decided, IsImportStep, unknown_people}
use Rattle.hall_desk.specs.Without.{replies_where}
use Rattle.hall_desk.specs.declared.reply.Reply.{Reply}
use Rattle.hall_desk.specs.declared.reply.Reply.TheVariants as reply
use Rattle.hall_desk.specs.declared.reply.ShownPuzzle.{ShownPuzzle}
use Rattle.hall_desk.specs.declared.reply.ShownRound.{ShownRound}
use Rattle.hall_desk.proofs.Agreeing.{answers_agree}
use Rattle.hall_desk.proofs.OthersAlike.{step_of}
use Rattle.hall_desk.proofs.StepsSane.{step_sane}
use Rattle.hall_http.proofs.Told.{one_spelling}
use Rattle.hall_laws.specs.Keys.{keyless, AreSameButKeys, DifferInKeys, AreAskedAlike, is_import, KeysHidden}
use Rattle.hall_laws.specs.Keys.{IsDeniedHere, ImportsTellConflicts, AreAllAskedAlike, imports}
use Rattle.hall_laws.specs.Keys.{RunsHideKeys, AreBytesOf, BytesHideKeys}
use Rattle.hall_laws.proofs.OtherKeys.{rekeyed, by_key, first_there, conflicts_alone, denied_alone, denied_later}

-- ---- what a request that is no import is told, and changes
module _ (world : World) (people : FinMap text_cmp Person) (key : List ℕ) where
  abbrev over : World → World
  over w = record w { people = people }

  abbrev also : Option Person → Option Person
  also c = option_map (rekeyed key) c

  abbrev called : {c : Option Person} {person : Person} → c ≡ Some person → also c ≡ Some (rekeyed key person)
  called is = ap (option_map (rekeyed key)) is

  round_at : (id : List ℕ) (row : RoundRow) → IsRoundAt world id row → IsRoundAt (over world) id row
  round_at id row at = record { head = at.head; list = at.list; testers = at.testers }

  puzzles_shown : (number : ℕ) (entries : List Entry) (shown : List ShownPuzzle)
      → ShowsPuzzles world number entries shown → ShowsPuzzles (over world) number entries shown
  puzzles_shown number [] [] h = tt
  puzzles_shown number [] (line ∷ shown) h = h
  puzzles_shown number (entry ∷ entries) [] h = h
  puzzles_shown number (entry ∷ entries) (line ∷ shown) (h, more) = (
    record { row = h.row; kept = h.kept; number = h.number; points = h.points; text = h.text },
    puzzles_shown (number + 1) entries shown more,
  )

  round_shown : (row : RoundRow) (shown : ShownRound) → ShowsRound world row shown → ShowsRound (over world) row shown
  round_shown row shown h = record {
    bonus = h.bonus;
    id = h.id;
    minutes = h.minutes;
    mode = h.mode;
    penalty = h.penalty;
    protest_minutes = h.protest_minutes;
    puzzles = puzzles_shown 1 row.puzzles shown.puzzles h.puzzles;
    start = h.start;
    title = h.title;
  }

  solved : (entries : List Entry) (texts : List (List ℕ)) → AreSolutions world entries texts
      → AreSolutions (over world) entries texts
  solved [] [] h = tt
  solved [] (text ∷ texts) h = h
  solved (entry ∷ entries) [] h = h
  solved (entry ∷ entries) (text ∷ texts) h = (h.0, solved entries texts h.1)

  -- the people stay, and the same is done there
  abbrev StaysAnd : World → Type 0 → Type 0
  StaysAnd new Done = (new.people ≡ world.people) × Done

  stay : (new next : World) → new ≡ next → new.people ≡ next.people
  stay new next made = ap (λ (w : World). w.people) made

  allowed : (c : Option Person) (a : Action) (t : ℕ) (found : PuzzleState) (given : Reply) (new : World)
      → is_import a ≡ false → Allowed world c a t found given new
      → StaysAnd new (Allowed (over world) (also c) a t found given (over new))
  allowed c (action.Import list) t found given new plain h = absurd (false≢true (sym plain))
  allowed c (action.PutPuzzle of puzzle) t found given new plain (text, is, inl (row, at, same, told, made)) =
      (stay new _ made, (text, is, inl (row, at, same, told, ap over made)))
  allowed c (action.PutPuzzle of puzzle) t found given new plain (text, is, inr (fresh, told, made)) =
      (stay new _ made, (text, is, inr (fresh, told, ap over made)))
  allowed c (action.ReadPuzzle of) t found given new plain (read, made) = (stay new _ made, (read, ap over made))
  allowed c action.ListPuzzles t found given new plain (person, is, (told, made)) =
      (stay new _ made, (rekeyed key person, called is, (told, ap over made)))
  allowed c (action.Certify of budget) t found given new plain (row, at, inl h) = (
    stay new _ h.stored,
    (
      row,
      at,
      inl (record { unsettled = h.unsettled; is_found = h.is_found; told = h.told; stored = ap over h.stored }),
    ),
  )
  allowed c (action.Certify of budget) t found given new plain (row, at, inr h) =
      (stay new _ h.same, (row, at, inr (record { settled = h.settled; told = h.told; same = ap over h.same })))
  allowed c (action.PutRound id sheet) t found given new plain (told, made) = (stay new _ made, (told, ap over made))
  allowed c (action.Release id) t found given new plain (round, at, told, made) =
      (stay new _ made, (round, at, told, ap over made))
  allowed c action.ListRounds t found given new plain (person, is, (told, made)) =
      (stay new _ made, (rekeyed key person, called is, (told, ap over made)))
  allowed c (action.ReadRound id) t found given new plain ((row, shown, at, shows, told), made) = (
    stay new _ made,
    ((row, shown, round_at id row at, round_shown row shown shows, told), ap over made),
  )
  allowed c (action.Submit id number token answer) t found given new plain
      (person, is, (round, entry, puzzle, verdict, at, place, grid, judged, (told, made))) = (
        stay new _ made,
        (
          rekeyed key person,
          called is,
          (round, entry, puzzle, verdict, at, place, grid, judged, (told, ap over made)),
        ),
      )
  allowed c (action.Answers id) t found given new plain (person, is, ((round, rows, at, listing, told), made)) = (
    stay new _ made,
    (
      rekeyed key person,
      called is,
      ((round, rows, at, record { whole = listing.whole; in_order = listing.in_order }, told), ap over made),
    ),
  )
  allowed c (action.Solutions id) t found given new plain ((row, texts, at, are, told), made) =
      (stay new _ made, ((row, texts, round_at id row at, solved row.puzzles texts are, told), ap over made))
  allowed c (action.Protest id token number text) t found given new plain (person, is, (told, made)) =
      (stay new _ made, (rekeyed key person, called is, (told, ap over made)))
  allowed c (action.Protests id) t found given new plain (person, is, (told, made)) =
      (stay new _ made, (rekeyed key person, called is, (told, ap over made)))
  allowed c (action.RuleProtest id entrant token ruling) t found given new plain (row, at, told, made) =
      (stay new _ made, (row, at, told, ap over made))
  allowed c (action.Publish id) t found given new plain (round, at, told, made) =
      (stay new _ made, (round, at, told, ap over made))
  allowed c (action.Table id) t found given new plain ((text, (row, at, (totals, are, written)), told), made) = (
    stay new _ made,
    (
      (
        text,
        (
          row,
          round_at id row at,
          (totals, record { each_once = are.each_once; listed = are.listed; right = are.right }, written),
        ),
        told,
      ),
      ap over made,
    ),
  )

  first_reply : (c : Option Person) (a : Action) (given : Reply) → FirstReply world c a given
      → FirstReply (over world) (also c) a given
  first_reply c (action.Submit id number token answer) given (person, is, h) = (rekeyed key person, called is, h)
  first_reply c (action.Protest id token number text) given (person, is, h) = (rekeyed key person, called is, h)
  first_reply c _ given h = h

  pub decided : (c : Option Person) (a : Action) (t : ℕ) (found : PuzzleState) (given : Reply) (new : World)
      → is_import a ≡ false → (e : Decision) → Decided e world c a t found given new
      → StaysAnd new (Decided e (over world) (also c) a t found given (over new))
  decided c a t found given new plain (Deny k) (told, made) = (stay new _ made, (told, ap over made))
  decided c a t found given new plain Repeat (first, made) =
      (stay new _ made, (first_reply c a given first, ap over made))
  decided c a t found given new plain Allow h = allowed c a t found given new plain h

-- what the caller who asks so is told, and makes of the world
abbrev IsTold : World → Option Person → Action × ℕ × PuzzleState → Reply → World → Type 0
IsTold world caller asks given new =
    (e : Decision) × First world caller asks.0 asks.1 e × Decided e world caller asks.0 asks.1 asks.2 given new

-- who is the same but for the key is told the same there
told_there : (world : World) (people : FinMap text_cmp Person) → AreSameButKeys world.people people →
    (c d : Option Person) → option_map keyless c ≡ option_map keyless d → (asks : Action × ℕ × PuzzleState)
    (given : Reply) (new : World) → is_import asks.0 ≡ false → IsTold world c asks given new
    → (new.people ≡ world.people)
    × IsTold (record world { people = people }) d asks given (record new { people = people })
told_there world people alike c d same (a, t, found) given new plain (e, first, done) =
    let (key, is) = by_key c d same in
    let (stays, does) = decided world people key c a t found given new plain e done in (
      stays,
      (
        e,
        first_there world people alike c d same a t plain e first,
        subst (λ (x : Option Person). Decided e (record world { people = people }) x a t found given
            (record new { people = people })) (sym is) does,
      ),
    )

-- ---- two worlds that differ in keys
-- the second is the first with other people
with_other_people : (world other : World) → DifferInKeys world other → other ≡ record world { people = other.people }
with_other_people world other differ = λ i. record {
  people = other.people;
  puzzles = sym differ.puzzles i;
  rounds = sym differ.rounds i;
  places = sym differ.places i;
  answers = sym differ.answers i;
  protests = sym differ.protests i;
  testers = sym differ.testers i;
}

-- what is told in the second world, in words of the first, and of its request
told_beside : (world other : World) (a b : Asked) (answered : Reply) (changed : World) → DifferInKeys world other
    → AreAskedAlike world other a b → IsAnswered other b answered changed
    → IsTold (record world { people = other.people }) (caller_of other b.request.key)
    (a.request.action, a.moment, a.found) answered changed
told_beside world other a b answered changed differ alike h =
    subst (λ (x : World × Action × ℕ × PuzzleState). IsTold x.0 (caller_of other b.request.key) (x.1, x.2, x.3)
    answered changed) (λ i. (
      with_other_people world other differ i,
      sym alike.action i,
      sym alike.moment i,
      sym alike.found i,
    )) h

-- what differs only in keys still does, where the first is the second with the people of the first
still_differ : (world other new changed : World) → AreSameButKeys world.people other.people
    → changed.people ≡ other.people → new ≡ record changed { people = world.people } → DifferInKeys new changed
still_differ world other new changed alike stays is = record {
  people = λ name. ap (λ (w : World). option_map keyless (get w.people name)) is ∙ alike name
      ∙ ap (λ (m : FinMap text_cmp Person). option_map keyless (get m name)) (sym stays);
  puzzles = ap (λ (w : World). w.puzzles) is;
  rounds = ap (λ (w : World). w.rounds) is;
  places = ap (λ (w : World). w.places) is;
  testers = ap (λ (w : World). w.testers) is;
  answers = ap (λ (w : World). w.answers) is;
  protests = ap (λ (w : World). w.protests) is;
}

pub keys_hidden : KeysHidden
keys_hidden world other new changed a b given answered sane typed differ alike plain first second =
    let (stays, told) = told_there (record world { people = other.people }) world.people
    (λ name. sym (differ.people name)) (caller_of other b.request.key) (caller_of world a.request.key)
    (sym alike.caller) (a.request.action, a.moment, a.found) answered changed plain
    (told_beside world other a b answered changed differ alike second) in
    let agree = answers_agree world a given answered new (record changed { people = world.people }) sane typed first
    told in
    (agree.0, still_differ world other new changed differ.people stays agree.1)

-- ---- imports
module _ (people others : FinMap text_cmp Person) (alike : AreSameButKeys people others) where
  -- who is known here is known there
  known_alike : (name : List ℕ) → contains_key people name ≡ contains_key others name
  known_alike name =
      sym (some_keyless (get people name)) ∙ ap is_some (alike name) ∙ some_keyless (get others name)
    where
      some_keyless : (x : Option Person) → is_some (option_map keyless x) ≡ is_some x
      some_keyless None = refl
      some_keyless (Some p) = refl

  one_more : (person : Person) → AreSameButKeys (with_person people person) (with_person others person)
  one_more person name = elim (contains_key people person.name) as (λ known. contains_key others person.name ≡ known
      → option_map keyless (get (if known then people else insert people person.name person) name)
      ≡ option_map keyless (get (with_person others person) name)) [
        | true ↦ λ is. alike name ∙ sym (ap (λ k. option_map keyless
            (get (if k then others else insert others person.name person) name)) is)
        | false ↦ λ is.
            ap (option_map keyless) (get-insert text_total people person.name person name)
            ∙ added (eq_by_cmp text_cmp name person.name)
            ∙ sym (ap (option_map keyless) (get-insert text_total others person.name person name))
            ∙ sym (ap (λ k. option_map keyless
            (get (if k then others else insert others person.name person) name)) is)
      ] (sym (known_alike person.name))
    where
      added : (same : Bool) → option_map keyless (cond same (Some person) (get people name))
          ≡ option_map keyless (cond same (Some person) (get others name))
      added true = refl
      added false = alike name

more_people : (list : List Person) (people others : FinMap text_cmp Person) → AreSameButKeys people others
    → AreSameButKeys (with_people people list) (with_people others list)
more_people [] people others alike = alike
more_people (person ∷ list) people others alike =
    more_people list (with_person people person) (with_person others person) (one_more people others alike person)

-- the worlds after both are these two
are_after : (world other new changed : World) → DifferInKeys world other → new ≡ world → changed ≡ other
    → DifferInKeys new changed
are_after world other new changed differ made makes =
    subst (λ (w : World). DifferInKeys w changed) (sym made)
    (subst (λ (w : World). DifferInKeys world w) (sym makes) differ)

-- the list is added in both worlds
both_added : (world other new changed : World) (list : List Person) (given answered : Reply) → DifferInKeys world other
    → IsImportStep world list given new → IsImportStep other list answered changed
    → (given ≡ answered) × DifferInKeys new changed
both_added world other new changed list given answered differ (told, made) (tells, makes) = (
  told ∙ (λ i. reply.Import (count_by
      (λ person. not (known_alike world.people other.people differ.people person.name i)) list)) ∙ sym tells,
  are_after _ _ new changed (record {
    people = more_people list world.people other.people differ.people;
    puzzles = differ.puzzles;
    rounds = differ.rounds;
    places = differ.places;
    testers = differ.testers;
    answers = differ.answers;
    protests = differ.protests;
  }) made makes,
)

-- the answers are the same, or one of them alone is the denial of the list
abbrev AreAnsweredAlike : Action → World × World → Reply × Reply → World × World → Type 0
AreAnsweredAlike a worlds told after =
    ((told.0 ≡ told.1) × DifferInKeys after.0 after.1)
    ⊎ (IsDeniedHere worlds.0 worlds.1 a told.0 after.0 told.1 ⊎ IsDeniedHere worlds.1 worlds.0 a told.1 after.1 told.0)

-- an import in a world, and in the one with these people
module _ (world : World) (people : FinMap text_cmp Person) (alike : AreSameButKeys world.people people)
    (c d : Option Person) (same : option_map keyless c ≡ option_map keyless d) (list : List Person) (t : ℕ)
    (found : PuzzleState) where
  abbrev second_world : World
  second_world = record world { people = people }

  abbrev asks : Action
  asks = action.Import list

  abbrev back : AreSameButKeys people world.people
  back name = sym (alike name)

  still : DifferInKeys world second_world
  still = record {
    people = alike;
    puzzles = refl;
    rounds = refl;
    places = refl;
    testers = refl;
    answers = refl;
    protests = refl;
  }

  pub import_alike : (given answered : Reply) (new changed : World) → IsTold world c (asks, t, found) given new
      → IsTold second_world d (asks, t, found) answered changed
      → AreAnsweredAlike asks (world, second_world) (given, answered) (new, changed)
  import_alike given answered new changed (Repeat, first, (told, made)) second = absurd told
  import_alike given answered new changed first (Repeat, second, (tells, makes)) = absurd tells
  import_alike given answered new changed (Deny k, first, (told, made)) (Deny l, second, (tells, makes)) =
      let one : k ≡ l = elim (cases_order k l) [
        | inl e ↦ e
        | inr (inl low) ↦ absurd (denied_later world people alike c d same asks t k l first second low)
        | inr (inr high) ↦ absurd
            (denied_later second_world world.people back d c (sym same) asks t l k second first high)
      ] in
      inl (
        told ∙ ap reply.Denied one ∙ sym tells,
        are_after world second_world new changed still made makes,
      )
  import_alike given answered new changed (Deny k, first, (told, made)) (Allow, second, (tells, makes)) =
      let (conflict, none) = conflicts_alone world people alike c d same asks t k first second in
      inr (inl (record {
        conflict = conflict;
        none = none;
        denied = told ∙ ap reply.Denied (denied_alone world people alike c d same asks t k first second);
        stays = made;
        added = unknown_people second_world list;
        granted = tells;
      }))
  import_alike given answered new changed (Allow, first, (told, made)) (Deny l, second, (tells, makes)) =
      let (conflict, none) = conflicts_alone second_world world.people back d c (sym same) asks t l second first in
      inr (inr (record {
        conflict = conflict;
        none = none;
        denied = tells ∙ ap reply.Denied
            (denied_alone second_world world.people back d c (sym same) asks t l second first);
        stays = makes;
        added = unknown_people world list;
        granted = told;
      }))
  import_alike given answered new changed (Allow, first, done) (Allow, second, does) =
      inl (both_added world second_world new changed list given answered still done does)

-- whoever imports brings a list
list_of : (a : Action) → is_import a ≡ true → (list : List Person) × (a ≡ action.Import list)
list_of (action.Import list) is = (list, refl)
list_of _ is = absurd (false≢true is)

pub imports_tell_conflicts : ImportsTellConflicts
imports_tell_conflicts world other new changed a b given answered differ alike is first second =
    let beside : World = record world { people = other.people } in
    let (list, one) = list_of a.request.action is in
    let c : Option Person = caller_of world a.request.key in
    let d : Option Person = caller_of other b.request.key in
    subst (λ (w : World). AreAnsweredAlike a.request.action (world, w) (given, answered) (new, changed))
    (sym (with_other_people world other differ))
    (subst (λ (x : Action). AreAnsweredAlike x (world, beside) (given, answered) (new, changed)) (sym one)
    (import_alike world other.people differ.people c d alike.caller list a.moment a.found given answered new changed
    (subst (λ (x : Action). IsTold world c (x, a.moment, a.found) given new) one first)
    (subst (λ (x : Action). IsTold beside d (x, a.moment, a.found) answered changed) one
    (told_beside world other a b answered changed differ alike second))))

-- ---- runs
-- where the replies to imports are the same, so is the first, where the first request is an import, and so are the rest
replies_first : (is same : Bool) → is ≡ same → (given answered : Reply) (replies answers : List Reply) →
    (if is then given ∷ replies else replies) ≡ (if same then answered ∷ answers else answers)
    → (is ≡ true → given ≡ answered) × (replies ≡ answers)
replies_first true true one given answered replies answers imported =
    let both : given ∷ replies ≡ answered ∷ answers = imported in ((λ is. cc), cc)
replies_first false false one given answered replies answers imported =
    ((λ is. absurd (false≢true is)), imported)
replies_first true false one given answered replies answers imported = absurd (false≢true (sym one))
replies_first false true one given answered replies answers imported = absurd (false≢true one)

-- one request of each list
answered_alike : (world other new changed : World) (a b : Asked) (given answered : Reply) → Sane world
    → IsTimed (timed a) → DifferInKeys world other → AreAskedAlike world other a b
    → (is_import a.request.action ≡ true → given ≡ answered)
    → IsAnswered world a given new → IsAnswered other b answered changed → (given ≡ answered) × DifferInKeys new changed
answered_alike world other new changed a b given answered sane typed differ alike imported first second =
    elim (is_import a.request.action) as (λ is. is_import a.request.action ≡ is
    → (given ≡ answered) × DifferInKeys new changed) [
      | false ↦ λ plain. keys_hidden world other new changed a b given answered sane typed differ alike plain first
          second
      | true ↦ λ is.
          elim (imports_tell_conflicts world other new changed a b given answered differ alike is first second) [
            | inl both ↦ both
            | inr (inl alone) ↦ absurd (apart alone.added (sym alone.denied ∙ imported is ∙ alone.granted))
            | inr (inr alone) ↦ absurd (apart alone.added (sym alone.denied ∙ sym (imported is) ∙ alone.granted))
          ]
    ] refl
  where
    apart : (added : ℕ) → ¬ (reply.Denied 20 ≡ reply.Import added)
    apart added is = let no : reply.Denied 20 ≡ reply.Import added = is in cc

runs_alike : (world other last end : World) (list others : List Asked) (replies answers : List Reply) → Sane world
    → All IsTimed (map timed list) → DifferInKeys world other → AreAllAskedAlike world other list others
    → AnsweredRun world list replies last → AnsweredRun other others answers end
    → replies_where imports (map timed list) replies ≡ replies_where imports (map timed others) answers
    → (replies ≡ answers) × DifferInKeys last end
runs_alike world other last end [] [] [] [] sane typed differ asked run beside imported =
    (refl, are_after world other last end differ run beside)
runs_alike world other last end [] [] [] (h ∷ answers) sane typed differ asked run beside imported = absurd beside
runs_alike world other last end [] [] (g ∷ replies) answers sane typed differ asked run beside imported = absurd run
runs_alike world other last end [] (b ∷ others) replies answers sane typed differ asked run beside imported =
    absurd asked
runs_alike world other last end (a ∷ list) [] replies answers sane typed differ asked run beside imported =
    absurd asked
runs_alike world other last end (a ∷ list) (b ∷ others) [] answers sane typed differ asked run beside imported =
    absurd run
runs_alike world other last end (a ∷ list) (b ∷ others) (g ∷ replies) [] sane typed differ asked run beside imported =
    absurd beside
runs_alike world other last end (a ∷ list) (b ∷ others) (g ∷ replies) (h ∷ answers) sane typed differ
    (alike, later) (new, first, run) (changed, second, beside) imported =
    let is : IsTimed (timed a) = All-head IsTimed (timed a) (map timed list) typed in
    let told = replies_first (is_import a.request.action) (is_import b.request.action) (ap is_import alike.action) g h
    (replies_where imports (map timed list) replies) (replies_where imports (map timed others) answers) imported in
    let (one, still) = answered_alike world other new changed a b g h sane is differ alike told.0 first second in
    let (rest, at_end) = runs_alike new changed last end list others replies answers
    (step_sane world a.moment a.request g new is.moment is.request (step_of world new a g first) sane)
    (All-tail IsTimed (timed a) (map timed list) typed) still (later g h new changed first second) run beside told.1 in
    ((λ i. one i ∷ rest i), at_end)

pub runs_hide_keys : RunsHideKeys
runs_hide_keys world other list others replies answers sane both =
    runs_alike world other both.last both.end list others replies answers sane both.typed both.differ both.asked
    both.run both.beside both.imported

one_text_each : (replies : List Reply) (texts words : List (List ℕ)) → AreBytesOf replies texts
    → AreBytesOf replies words → texts ≡ words
one_text_each [] [] [] are also = refl
one_text_each [] [] (word ∷ words) are also = absurd also
one_text_each [] (text ∷ texts) words are also = absurd are
one_text_each (given ∷ replies) [] words are also = absurd are
one_text_each (given ∷ replies) (text ∷ texts) [] are also = absurd also
one_text_each (given ∷ replies) (text ∷ texts) (word ∷ words) (is, are) (so, also) =
    λ i. one_spelling given given text word refl is so i ∷ one_text_each replies texts words are also i

pub bytes_hide_keys : BytesHideKeys
bytes_hide_keys world other list others replies answers texts words sane both are also =
    let told = runs_hide_keys world other list others replies answers sane both in
    one_text_each replies texts words are (subst (λ (rs : List Reply). AreBytesOf rs words) (sym told.0) also)
