-- What the sockets said was to be done next, and why no more was.
use Rattle.std.specs.Prelude.{◌≡◌, ◌⊎◌, ◌+◌, ℕ, Bool, true, false, List, [], ◌∷◌, ◌++◌, Option, length, drop, map, All}
use Rattle.http_server.specs.declared.log.Log.{Log}
use Rattle.hall_http.specs.Peer.{Traffic, IsUntouched}
use Rattle.hall_http.specs.declared.client.Step.{Step}
use Rattle.hall_http.specs.declared.server.Next.{Next}
use Rattle.hall_http.specs.declared.server.Next.TheVariants as next
use Rattle.hall_http.specs.declared.server.ServeAllEnd.{ServeAllEnd}
use Rattle.hall_http.specs.declared.server.ServeAllEnd.TheVariants as end

-- things that were to be done, in order
abbrev pub Nexts : Type 0 → Type 0
Nexts P = List (Next P)

-- those that are in a log
abbrev pub logged : {P B : Type 0} → Log (Next P) B → Nexts P
logged log = map (λ one. one.0) log.items

-- what is heard of a turn: the place, and how the connection there stands; and where its request is held from now on,
-- the moment that was read for it
abbrev pub Heard : Type 0
Heard = (ℕ × Step) × Option (Option ℕ)

-- All that the sockets said was to be done, how many newcomers they have handed out, and how many connections they were
-- asked for. And all that they heard of turns, in order.
pub record Said (P : Type 0) : Type 0 where
  pub nexts : Nexts P
  pub count : ℕ
  pub most : ℕ
  pub heard : List Heard

-- 1 for a turn, and 0 for anything else
abbrev pub turn : {P : Type 0} → Next P → ℕ
turn (next.Turn place) = 1
turn _ = 0

-- how many of these are turns
abbrev pub turns_in : {P : Type 0} → Nexts P → ℕ
turns_in [] = 0
turns_in (one ∷ rest) = turn one + turns_in rest

-- of each turn that they gave they heard how its connection stands
abbrev pub AreAllHeard : {P : Type 0} → Said P → Type 0
AreAllHeard said = length said.heard ≡ turns_in said.nexts

-- this was heard, and nothing was said meanwhile
abbrev pub Hears : {P : Type 0} → Heard → Said P → Said P → Type 0
Hears one old new =
    (new.nexts ≡ old.nexts) × (new.count ≡ old.count) × (new.most ≡ old.most) × (new.heard ≡ old.heard ++ one ∷ [])

-- what they said in the meantime
abbrev pub since : {P : Type 0} → Said P → Said P → Nexts P
since before after = drop (length before.nexts) after.nexts

-- a newcomer has this number, nothing was read of it, and it was sent nothing
abbrev pub IsFreshPeer : {P : Type 0} → (P → Traffic) → ℕ → Next P → Type 0
IsFreshPeer traffic number (next.Newcomer place peer) =
    ((traffic peer).number ≡ number) × IsUntouched (traffic peer)
IsFreshPeer traffic number _ = Unit {0}

-- a newcomer comes, one has its turn, requests are answered, or one goes; and more may follow
abbrev pub IsNextStep : {P : Type 0} → Next P → Type 0
IsNextStep next.End = ⊥
IsNextStep next.Refused = ⊥
IsNextStep _ = Unit {0}

-- 1 for a newcomer, and 0 for anything else
abbrev pub newcomer : {P : Type 0} → Next P → ℕ
newcomer (next.Newcomer place peer) = 1
newcomer _ = 0

-- the newcomers among these have, in order, the numbers from the first on that are less than the last
abbrev pub AreCounted : {P : Type 0} → (P → Traffic) → ℕ → Nexts P → ℕ → Type 0
AreCounted traffic few [] many = many ≡ few
AreCounted traffic few (one ∷ rest) many =
    IsFreshPeer traffic few one × AreCounted traffic (few + newcomer one) rest many

-- why no more was done after these steps. `Served`: the sockets said that all have gone. `Refused`: they said that
-- none can come in, or 2^64 - 1 things were done. `Shut`: the last was that requests were answered.
abbrev pub EndsBy : {P : Type 0} → ServeAllEnd → Nexts P → Nexts P → Type 0
EndsBy end.Served steps last = last ≡ next.End ∷ []
EndsBy end.Refused steps last = (last ≡ next.Refused ∷ []) ⊎ ((last ≡ []) × (length steps ≡ 18446744073709551615))
EndsBy {P} end.Shut steps last = (last ≡ []) × (front : Nexts P) × (steps ≡ front ++ next.Answer ∷ [])

-- others may be answered still
abbrev pub stays_open : ServeAllEnd → Bool
stays_open end.Shut = false
stays_open _ = true

-- The sockets said these things, and then perhaps a last one, and none after it. The newcomers among them have the
-- numbers that follow on those of the newcomers before, in order. They were asked for as many connections as before.
pub record AreDone {P : Type 0} (traffic : P → Traffic) (end : ServeAllEnd) (before after : Said P) : Type 0 where
  pub steps : Nexts P
  pub last : Nexts P
  pub said : after.nexts ≡ before.nexts ++ steps ++ last
  pub each : All IsNextStep steps
  pub came : AreCounted traffic before.count steps after.count
  pub ended : EndsBy end steps last
  pub most : after.most ≡ before.most
