-- A list of requests without those of other entrants, and the replies to some of a list's requests.
use Rattle.std.specs.Prelude.{◌≢◌, ◌&&◌, ℕ, Bool, true, false, not, List, [], ◌∷◌, Option, Some, None, All}
use Rattle.std.specs.Prelude.{if◌then◌else◌}
use Rattle.std.specs.List.{filter}
use Rattle.hall_policy.specs.World.{World, same_text}
use Rattle.hall_policy.specs.OwnAlike.{is_entrant_alone}
use Rattle.hall_policy.specs.declared.record.Person.{Person}
use Rattle.hall_policy.specs.declared.request.Action.{Action}
use Rattle.hall_policy.specs.declared.request.Action.TheVariants.{Certify}
use Rattle.hall_policy.specs.declared.request.Request.{Request}
use Rattle.hall_store.specs.Caller.{caller_of}
use Rattle.hall_desk.specs.declared.reply.Reply.{Reply}
use Rattle.hall_desk.specs.declared.reply.Reply.TheVariants as reply

-- the reply grants no publication
abbrev pub GrantsNoPublication : Reply → Type 0
GrantsNoPublication given = (round : List ℕ) → given ≢ reply.Publish round

-- the person is another one than e, and holds the role entrant alone
abbrev pub is_other_person : Person → Option Person → Bool
is_other_person e None = false
is_other_person e (Some person) = is_entrant_alone person && not (same_text person.name e.name)

-- the request's key doesn't belong, in the world at the list's end, to another person than e who holds the role entrant
-- alone
abbrev pub stays : World → Person → ℕ × Request → Bool
stays last e asked = not (is_other_person e (caller_of last asked.1.key))

-- the list without the requests whose key belongs, in the world at the list's end, to another person than e who holds
-- the role entrant alone
abbrev pub without : World → Person → List (ℕ × Request) → List (ℕ × Request)
without last e list = filter (stays last e) list

-- the replies to the requests that pass the test, in their order
abbrev pub replies_where : (ℕ × Request → Bool) → List (ℕ × Request) → List Reply → List Reply
replies_where test [] replies = []
replies_where test (asked ∷ rest) [] = []
replies_where test (asked ∷ rest) (given ∷ replies) =
    if test asked then given ∷ replies_where test rest replies else replies_where test rest replies

-- whether the key is that of the request
abbrev pub has_key : List ℕ → Option (List ℕ) → Bool
has_key key None = false
has_key key (Some other) = same_text other key

-- the replies to the requests with the key
abbrev pub replies_to : List ℕ → List (ℕ × Request) → List Reply → List Reply
replies_to key = replies_where (λ asked. has_key key asked.1.key)

-- whether the action is to certify a puzzle: no other runs a search
abbrev pub is_certify : Action → Bool
is_certify (Certify key budget) = true
is_certify _ = false

-- whether the request is to certify a puzzle
abbrev pub certifies : ℕ × Request → Bool
certifies asked = is_certify asked.1.action

-- the replies serve: none is Unavailable
abbrev pub Serve : List Reply → Type 0
Serve replies = All (λ given. given ≢ reply.Unavailable) replies
