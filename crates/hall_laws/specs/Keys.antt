-- Keys are told to nobody: where people have other keys, and whoever asks shows the own one, all is answered the same.
use Rattle.std.specs.Prelude.{◌≡◌, ◌⊎◌, ℕ, Bool, true, false, List, [], ◌∷◌, All, map}
use Rattle.std.specs.Option.{option_map}
use Rattle.std.specs.FinMap.{FinMap, get}
use Rattle.hall_policy.specs.Rules.{HasConflict}
use Rattle.hall_policy.specs.Text.{text_cmp}
use Rattle.hall_policy.specs.World.{World}
use Rattle.hall_policy.specs.declared.record.Person.{Person}
use Rattle.hall_policy.specs.declared.request.Action.{Action}
use Rattle.hall_policy.specs.declared.request.Action.TheVariants.{Import}
use Rattle.hall_policy.specs.declared.request.Request.{Request}
use Rattle.hall_store.specs.Caller.{caller_of}
use Rattle.hall_desk.specs.AnsweredRun.{AnsweredRun, timed}
use Rattle.hall_desk.specs.Run.{IsTimed}
use Rattle.hall_desk.specs.Sane.{Sane}
use Rattle.hall_desk.specs.Step.{Asked, IsAnswered}
use Rattle.hall_desk.specs.Without.{replies_where}
use Rattle.hall_desk.specs.declared.reply.Reply.{Reply}
use Rattle.hall_desk.specs.declared.reply.Reply.TheVariants as reply
use Rattle.hall_http.specs.Reply.{BytesOf}

-- the person without the key
abbrev pub keyless : Person → Person
keyless person = record person { key = [] }

-- under each name the same person stands, but for the key, or nobody
abbrev pub AreSameButKeys : FinMap text_cmp Person → FinMap text_cmp Person → Type 0
AreSameButKeys people others =
    (name : List ℕ) → option_map keyless (get people name) ≡ option_map keyless (get others name)

-- two worlds differ only in the keys of people
pub record DifferInKeys (world other : World) : Type 0 where
  pub people : AreSameButKeys world.people other.people
  pub puzzles : world.puzzles ≡ other.puzzles
  pub rounds : world.rounds ≡ other.rounds
  pub places : world.places ≡ other.places
  pub testers : world.testers ≡ other.testers
  pub answers : world.answers ≡ other.answers
  pub protests : world.protests ≡ other.protests

-- The same is asked at the same moment, and a search would find the same. Each by its own key, the callers are the same
-- in their worlds, but for the key; or neither request has a key that somebody holds.
pub record AreAskedAlike (world other : World) (a b : Asked) : Type 0 where
  pub moment : a.moment ≡ b.moment
  pub action : a.request.action ≡ b.request.action
  pub found : a.found ≡ b.found
  pub caller : option_map keyless (caller_of world a.request.key) ≡ option_map keyless (caller_of other b.request.key)

-- whether the action is to import people
abbrev pub is_import : Action → Bool
is_import (Import people) = true
is_import _ = false

-- where a sane world and another one differ only in keys, and the same is asked in both, no import, both give the same
-- reply, and the worlds after it differ only in keys
abbrev pub KeysHidden : Type 0
KeysHidden =
    (world other new changed : World) (a b : Asked) (given answered : Reply) → Sane world → IsTimed (timed a) →
    DifferInKeys world other → AreAskedAlike world other a b → is_import a.request.action ≡ false →
    IsAnswered world a given new → IsAnswered other b answered changed → (given ≡ answered) × DifferInKeys new changed

-- an import is denied by the rule on lists, which leaves the world: its list conflicts with people of it; elsewhere it
-- conflicts with nobody, and is granted
pub record IsDeniedHere (world other : World) (action : Action) (given : Reply) (new : World) (elsewhere : Reply)
    : Type 0 where
  pub conflict : HasConflict world action
  pub none : ¬ (HasConflict other action)
  pub denied : given ≡ reply.Denied 20
  pub stays : new ≡ world
  pub added : ℕ
  pub granted : elsewhere ≡ reply.Import added

-- so it is of an import too, in worlds that are sane or not; or one of the two denies it, since its list conflicts with
-- people there and not in the other, which grants it: this is all that an import tells of keys
abbrev pub ImportsTellConflicts : Type 0
ImportsTellConflicts =
    (world other new changed : World) (a b : Asked) (given answered : Reply) → DifferInKeys world other →
    AreAskedAlike world other a b → is_import a.request.action ≡ true →
    IsAnswered world a given new → IsAnswered other b answered changed →
    ((given ≡ answered) × DifferInKeys new changed)
    ⊎ (IsDeniedHere world other a.request.action given new answered
    ⊎ IsDeniedHere other world a.request.action answered changed given)

-- of two lists the requests are asked alike, one by one: each two in the worlds to which those before them lead
abbrev pub AreAllAskedAlike : World → World → List Asked → List Asked → Type 0
AreAllAskedAlike world other [] [] = Unit {0}
AreAllAskedAlike world other (a ∷ list) (b ∷ others) =
    AreAskedAlike world other a b
    × ((given answered : Reply) (new changed : World) → IsAnswered world a given new →
    IsAnswered other b answered changed → AreAllAskedAlike new changed list others)
AreAllAskedAlike world other [] (b ∷ others) = ⊥
AreAllAskedAlike world other (a ∷ list) [] = ⊥

-- whether the request is an import
abbrev pub imports : ℕ × Request → Bool
imports asked = is_import asked.1.action

-- From two worlds that differ only in keys two lists of requests are answered, each two requests are asked alike, and
-- each import is answered alike.
pub record AreAnsweredBeside (world other : World) (list others : List Asked) (replies answers : List Reply) : Type 0
  where
    pub last : World
    pub end : World
    pub typed : All IsTimed (map timed list)
    pub differ : DifferInKeys world other
    pub asked : AreAllAskedAlike world other list others
    pub run : AnsweredRun world list replies last
    pub beside : AnsweredRun other others answers end
    pub imported : replies_where imports (map timed list) replies ≡ replies_where imports (map timed others) answers

-- then all replies are the same, to whomever, and the worlds at the end differ only in keys, where the first of the two
-- worlds was sane
abbrev pub RunsHideKeys : Type 0
RunsHideKeys =
    (world other : World) (list others : List Asked) (replies answers : List Reply) → Sane world →
    (both : AreAnsweredBeside world other list others replies answers) →
    (replies ≡ answers) × DifferInKeys both.last both.end

-- each text is the bytes of its reply
abbrev pub AreBytesOf : List Reply → List (List ℕ) → Type 0
AreBytesOf [] [] = Unit {0}
AreBytesOf (given ∷ replies) (text ∷ texts) = BytesOf given text × AreBytesOf replies texts
AreBytesOf [] (text ∷ texts) = ⊥
AreBytesOf (given ∷ replies) [] = ⊥

-- and so are the bytes of all replies
abbrev pub BytesHideKeys : Type 0
BytesHideKeys =
    (world other : World) (list others : List Asked) (replies answers : List Reply) (texts words : List (List ℕ)) →
    Sane world → AreAnsweredBeside world other list others replies answers → AreBytesOf replies texts →
    AreBytesOf answers words → texts ≡ words
