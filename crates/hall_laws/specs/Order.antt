-- Requests are answered in the order in which their clients can tell that they were made, on whatever connections.
use Rattle.std.specs.Prelude.{◌≡◌, ◌<◌, ◌≤◌, ◌⊎◌, ℕ, List, [], ◌∷◌, ◌++◌, length, Contains}
use Rattle.hall_store.specs.Store.{Content}
use Rattle.hall_http.specs.Coming.{Heard, Nexts, Said}
use Rattle.hall_http.specs.Connection.{Exchange, requests_of}
use Rattle.hall_http.specs.Crowd.{HaveGoneSince, HaveHeard, IsHereOrGone, IsToldRightly, Past}
use Rattle.hall_http.specs.Crowd.{WaitsForWorkAfter, WasAt, traffic_past}
use Rattle.hall_http.specs.Peer.{IsLaterOn, Traffic}
use Rattle.hall_http.specs.Turns.{Turn, of}
use Rattle.hall_http.specs.declared.client.Step.{Step}
use Rattle.hall_laws.specs.Sent.{IsByteOfReply}

-- While all these requests were answered, over stores and to connections as are given, it was told rightly of a turn
-- after the first of them.
pub record IsHeardAt {H P : Type 0} (content : H → Content) (traffic : P → Traffic) (over : (H × H) × List (Past P))
    (few : ℕ) (all : List Turn) (told : ℕ × Step) : Type 0 where
  pub steps : Nexts P
  pub turns : List Turn
  pub later : List Turn
  pub first : all ≡ turns ++ later
  pub rightly : IsToldRightly (WaitsForWorkAfter content over.0.0 over.0.1 all) traffic few
      (HaveGoneSince traffic over.1) steps turns told

-- so it was of each turn of which the sockets heard
abbrev pub EachIsHeardSo : {H P : Type 0} → (H → Content) → (P → Traffic) → Type 0
EachIsHeardSo {H} {P} content traffic =
    (over : (H × H) × List (Past P)) (old new : Said P) (all : List Turn) (one : Heard)
    → (so : HaveHeard (WaitsForWorkAfter content over.0.0 over.0.1 all) traffic (HaveGoneSince traffic over.1) old new
    all) → Contains so.0 one → IsHeardAt content traffic over old.count all one.0

-- a byte of the reply to this request was sent
pub record IsReplyUnderWay (turns : List Turn) (t : Traffic) (x : Exchange) : Type 0 where
  pub sent : List ℕ
  pub byte : ℕ
  pub more : List ℕ
  pub went : t.went ≡ sent ++ byte ∷ more
  pub is_of : IsByteOfReply (of t.number turns) sent byte x

-- fewer bytes had come than end this request, of all that were answered in the end
pub record IsStillToCome (all : List Turn) (t : Traffic) (y : Exchange) : Type 0 where
  pub before : List Exchange
  pub after : List Exchange
  pub among : of t.number all ≡ before ++ y ∷ after
  pub fewer : length t.came < length (requests_of (before ++ y ∷ []))

-- the first was answered before the second
abbrev pub IsAnsweredBefore : List Turn → Turn → Turn → Type 0
IsAnsweredBefore all x y = (front between after : List Turn) × (all ≡ front ++ x ∷ (between ++ y ∷ after))

-- By then no more had come of the connection than this: of one that is here, or has gone, or that came later.
abbrev pub HadNoMoreCome : {H P : Type 0} {content : H → Content} {traffic : P → Traffic}
    {over : (H × H) × List (Past P)} {few : ℕ} {all : List Turn} {told : ℕ × Step}
    → IsHeardAt content traffic over few all told → Traffic → Type 0
HadNoMoreCome {H} {P} {content} {traffic} at u =
    ((place : ℕ) × WasAt traffic at.rightly.clients place u)
    ⊎ (((one : Past P) × Contains at.rightly.clients.gone.items one × IsLaterOn (traffic_past traffic one) u)
    ⊎ (at.rightly.many ≤ u.number))

-- Where at a turn of which the sockets heard a byte of the reply to one request had been sent, and of the connection of
-- another no more had come than a part of it, the second is answered after the first.
abbrev pub AreAnsweredInOrder : {H P : Type 0} → (H → Content) → (P → Traffic) → Type 0
AreAnsweredInOrder {H} {P} content traffic =
    (over : (H × H) × List (Past P)) (few : ℕ) (all : List Turn) (told : ℕ × Step) (t u : Traffic) (x y : Exchange)
    → (at : IsHeardAt content traffic over few all told) → IsHereOrGone traffic at.rightly.clients t
    → IsReplyUnderWay at.turns t x → HadNoMoreCome at u → IsStillToCome all u y
    → IsAnsweredBefore all (t.number, x) (u.number, y)
