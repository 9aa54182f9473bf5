-- What the bytes on some connections tell to one key.
use Rattle.std.specs.Prelude.{◌≡◌, ◌==◌, ◌&&◌, ◌⊎◌, ◌++◌, ℕ, Bool, true, List, [], ◌∷◌, map, filter, Some, All}
use Rattle.std.specs.Prelude.{IsTrue, if◌then◌else◌}
use Rattle.std.specs.FinMap.{get}
use Rattle.hall_policy.specs.World.{World}
use Rattle.hall_policy.specs.OwnAlike.{is_entrant_alone}
use Rattle.hall_policy.specs.Ranges.{IsAnswer}
use Rattle.hall_policy.specs.declared.record.Person.{Person}
use Rattle.hall_policy.specs.declared.record.Round.{Round}
use Rattle.hall_policy.specs.declared.request.Request.{Request}
use Rattle.hall_desk.specs.Sane.{Sane}
use Rattle.hall_desk.specs.Without.{GrantsNoPublication, stays, certifies, replies_where, has_key}
use Rattle.hall_desk.specs.Exchanged.{IsSealedRound}
use Rattle.hall_desk.specs.declared.reply.Reply.{Reply}
use Rattle.hall_http.specs.Serving.{IsRunOver}
use Rattle.hall_http.specs.Told.{AsksFor, AsksForOther, AreRepliesTold, AllServed, ComesAgain, is_others, AreWithout}
use Rattle.hall_http.specs.Told.{ComesExchanged, AreExchanged, AreBytesExchanged}
use Rattle.hall_http.specs.Peer.{Traffic}
use Rattle.hall_http.specs.Turns.{Turn, IsConnectionTold, exchanges_of, of}

-- whether a request has the key
abbrev pub shows : List ℕ → Request → Bool
shows key request = has_key key request.key

-- the replies on those connections whose numbers pass the test, in the order in which they were given
abbrev pub replies_on : (ℕ → Bool) → List Turn → List (List ℕ)
replies_on mine turns = map (λ x. x.reply) (exchanges_of (filter (λ turn. mine turn.0) turns))

-- ---- connections that alone show a key
-- of the requests of all connections those with the key, and all bytes that are no request, came on these, and no
-- others did
abbrev pub ShowAlone : List ℕ → (ℕ → Bool) → List Turn → Type 0
ShowAlone key mine turns = AreRepliesTold (shows key) (exchanges_of turns) (replies_on mine turns)

-- Connections that alone show e's key, one or several, have together the same replies, one after another, whether the
-- requests of others who hold the role entrant alone come, on whatever connections, or don't: the other connections'
-- order and the numbers may differ, and on which of these connections each request of e comes. It is as far as the
-- replies' bytes hide others of two runs.
abbrev pub WireHidesOthers : Type 0
WireHidesOthers =
    (world last end : World) (e : Person) (turns others : List Turn) (mine yours : ℕ → Bool) →
    (whole : IsRunOver world (exchanges_of turns) last) (left : IsRunOver world (exchanges_of others) end) →
    Sane world → get last.people e.name ≡ Some e → IsTrue (is_entrant_alone e) →
    AreWithout last e (exchanges_of turns) (exchanges_of others) → AllServed (exchanges_of turns) →
    AllServed (exchanges_of others) → All GrantsNoPublication whole.replies → All GrantsNoPublication left.replies →
    replies_where (λ asked. stays last e asked && certifies asked) whole.requests whole.replies
    ≡ replies_where certifies left.requests left.replies →
    ShowAlone e.key mine turns → ShowAlone e.key yours others → replies_on mine turns ≡ replies_on yours others

-- until a sealed round's end, connections that alone show e's key have together the bytes of the same replies where
-- two answers to the round are exchanged, with the two exchanged where answers to the round are listed
abbrev pub WireHidesAnswers : Type 0
WireHidesAnswers =
    (world last end : World) (r a b : List ℕ) (round : Round) (e : Person) (turns others : List Turn)
    (mine yours : ℕ → Bool) →
    (whole : IsRunOver world (exchanges_of turns) last) (turned : IsRunOver world (exchanges_of others) end) →
    Sane world → IsSealedRound world r round whole.requests → IsAnswer a → IsAnswer b →
    get last.people e.name ≡ Some e → IsTrue (is_entrant_alone e) →
    AreExchanged r a b (exchanges_of turns) (exchanges_of others) → AllServed (exchanges_of turns) →
    AllServed (exchanges_of others) →
    replies_where certifies whole.requests whole.replies ≡ replies_where certifies turned.requests turned.replies →
    ShowAlone e.key mine turns → ShowAlone e.key yours others →
    AreBytesExchanged r a b e.key whole.requests whole.replies (exchanges_of turns) (exchanges_of others)
    (replies_on mine turns) (replies_on yours others)

-- ---- some of the connections that show a key, and no other key
-- each request on these connections has the key; others may show it too
abbrev pub ShowNoOther : List ℕ → (ℕ → Bool) → List Turn → Type 0
ShowNoOther key mine turns = All (λ turn. mine turn.0 ≡ true → ¬ (AsksForOther (shows key) turn.1)) turns

-- of the first list all but the requests of others come again, in their order; and what came on these connections, and
-- nothing else, comes again on those
abbrev pub AreWithoutOn : World → Person → (ℕ → Bool) → (ℕ → Bool) → List Turn → List Turn → Type 0
AreWithoutOn last e mine yours [] others = others ≡ []
AreWithoutOn last e mine yours (turn ∷ turns) others =
    (AsksFor (is_others last e) turn.1 × AreWithoutOn last e mine yours turns others)
    ⊎ (¬ (AsksFor (is_others last e) turn.1)
    × (other : Turn) × (rest : List Turn) × (others ≡ other ∷ rest) × ComesAgain turn.1 other.1
    × (yours other.0 ≡ mine turn.0) × AreWithoutOn last e mine yours turns rest)

-- Connections that show e's key and no other, be it one of those of e or several, have the same replies, one after
-- another, whether the requests of others who hold the role entrant alone come or don't, where what came on these
-- comes again on those. Bytes that are no request may come on any connection, and e's key on others too.
abbrev pub WireHidesOthersOn : Type 0
WireHidesOthersOn =
    (world last end : World) (e : Person) (turns others : List Turn) (mine yours : ℕ → Bool) →
    (whole : IsRunOver world (exchanges_of turns) last) (left : IsRunOver world (exchanges_of others) end) →
    Sane world → get last.people e.name ≡ Some e → IsTrue (is_entrant_alone e) →
    AreWithoutOn last e mine yours turns others → AllServed (exchanges_of turns) →
    AllServed (exchanges_of others) → All GrantsNoPublication whole.replies → All GrantsNoPublication left.replies →
    replies_where (λ asked. stays last e asked && certifies asked) whole.requests whole.replies
    ≡ replies_where certifies left.requests left.replies →
    ShowNoOther e.key mine turns → replies_on mine turns ≡ replies_on yours others

-- the bytes are a first part of these
abbrev pub IsFirstPart : List ℕ → List ℕ → Type 0
IsFirstPart part all = (rest : List ℕ) × (all ≡ part ++ rest)

-- What a connection was sent that shows e's key and no other, and what it was sent where the requests of others who
-- hold the role entrant alone didn't come, are first parts of the same bytes. How far they go isn't said.
abbrev pub SentHidesOthers : Type 0
SentHidesOthers =
    (world last end : World) (e : Person) (turns others : List Turn) (m n : ℕ) (t u : Traffic) →
    (whole : IsRunOver world (exchanges_of turns) last) (left : IsRunOver world (exchanges_of others) end) →
    Sane world → get last.people e.name ≡ Some e → IsTrue (is_entrant_alone e) →
    AreWithoutOn last e (λ k. k == m) (λ k. k == n) turns others → AllServed (exchanges_of turns) →
    AllServed (exchanges_of others) → All GrantsNoPublication whole.replies → All GrantsNoPublication left.replies →
    replies_where (λ asked. stays last e asked && certifies asked) whole.requests whole.replies
    ≡ replies_where certifies left.requests left.replies →
    ShowNoOther e.key (λ k. k == m) turns → IsConnectionTold (of m turns) t → IsConnectionTold (of n others) u →
    (all : List ℕ) × IsFirstPart t.went all × IsFirstPart u.went all

-- each of the first list comes exchanged in the second, in their order; and what came on these connections, and
-- nothing else, comes on those
abbrev pub AreExchangedOn : List ℕ → List ℕ → List ℕ → (ℕ → Bool) → (ℕ → Bool) → List Turn → List Turn → Type 0
AreExchangedOn r a b mine yours [] others = others ≡ []
AreExchangedOn r a b mine yours (turn ∷ turns) others =
    (other : Turn) × (rest : List Turn) × (others ≡ other ∷ rest) × ComesExchanged r a b turn.1 other.1
    × (yours other.0 ≡ mine turn.0) × AreExchangedOn r a b mine yours turns rest

-- those of the texts at whose place is true
abbrev pub chosen : List Bool → List (List ℕ) → List (List ℕ)
chosen [] texts = []
chosen (is_there ∷ places) [] = []
chosen (is_there ∷ places) (text ∷ texts) = if is_there then text ∷ chosen places texts else chosen places texts

-- the replies on these connections and on those are at the same places among the texts of all replies to requests with
-- the key and to bytes that are no request, on whatever connection; and these are those of the same replies, with two
-- answers exchanged where answers to the round r are listed
pub record AreBytesExchangedOn (r a b key : List ℕ) (requests : List (ℕ × Request)) (replies : List Reply)
    (turns others : List Turn) (mine yours : ℕ → Bool) : Type 0 where
  pub texts : List (List ℕ)
  pub words : List (List ℕ)
  pub places : List Bool
  pub here : replies_on mine turns ≡ chosen places texts
  pub there : replies_on yours others ≡ chosen places words
  pub exchanged : AreBytesExchanged r a b key requests replies (exchanges_of turns) (exchanges_of others) texts words

-- until a sealed round's end, connections that show e's key and no other have the bytes of the same replies where two
-- answers to the round are exchanged, with the two exchanged where answers to the round are listed, where what came on
-- these comes on those
abbrev pub WireHidesAnswersOn : Type 0
WireHidesAnswersOn =
    (world last end : World) (r a b : List ℕ) (round : Round) (e : Person) (turns others : List Turn)
    (mine yours : ℕ → Bool) →
    (whole : IsRunOver world (exchanges_of turns) last) (turned : IsRunOver world (exchanges_of others) end) →
    Sane world → IsSealedRound world r round whole.requests → IsAnswer a → IsAnswer b →
    get last.people e.name ≡ Some e → IsTrue (is_entrant_alone e) →
    AreExchangedOn r a b mine yours turns others → AllServed (exchanges_of turns) →
    AllServed (exchanges_of others) →
    replies_where certifies whole.requests whole.replies ≡ replies_where certifies turned.requests turned.replies →
    ShowNoOther e.key mine turns →
    AreBytesExchangedOn r a b e.key whole.requests whole.replies turns others mine yours
