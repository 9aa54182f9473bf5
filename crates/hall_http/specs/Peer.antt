-- What is known of the other side of a connection.
use Rattle.std.specs.Prelude.{◌≡◌, ◌≤◌, ◌==◌, ◌+◌, ◌⊎◌, ◌++◌, if◌then◌else◌, ℕ, Bool, true, false, List, []}
use Rattle.hall_http.specs.declared.peer.Call.{Call}
use Rattle.hall_http.specs.declared.peer.Moved.{Moved}
use Rattle.hall_http.specs.declared.peer.Moved.TheVariants.{Some, Wait, None}

-- calls of a peer, in order, each with what it told
abbrev pub Calls : Type 0
Calls = List (Call × Moved)

-- its number among all that the same sockets handed out, all bytes that were read of it, how many reads gave some of
-- them, and all that it was sent; whether a read told that no more comes, or failed; whether a send told that no more
-- goes; whether it was told that no more is sent; and all calls of it
pub record Traffic : Type 0 where
  pub number : ℕ
  pub came : List ℕ
  pub reads : ℕ
  pub went : List ℕ
  pub over : Bool
  pub broke : Bool
  pub hung_up : Bool
  pub calls : Calls

-- so many bytes were moved
abbrev pub moved : Moved → ℕ
moved (Some n) = n
moved Wait = 0
moved None = 0

-- how many reads gave bytes: one more where a read did
abbrev pub reads_after : ℕ → Moved → ℕ
reads_after reads (Some n) = if n == 0 then reads else reads + 1
reads_after reads Wait = reads
reads_after reads None = reads

-- whether no more comes: a read told so, which gave nothing and had nothing to wait for; or one before it did
abbrev pub over_after : Bool → Moved → Bool
over_after over (Some n) = if n == 0 then true else over
over_after over Wait = over
over_after over None = true

-- whether no more goes: a send told so, or one before it did
abbrev pub broke_after : Bool → Moved → Bool
broke_after broke (Some n) = broke
broke_after broke Wait = broke
broke_after broke None = true

-- after it was told that no more is sent
abbrev pub then_hung_up : Traffic → Traffic
then_hung_up t = record t { hung_up = true }

-- So it is later on, the same connection: what came of it and what it was sent by then are first parts of what came and
-- was sent in all, no read is taken back, and what was told once is told.
pub record IsLaterOn (t u : Traffic) : Type 0 where
  pub number : u.number ≡ t.number
  pub came : (more : List ℕ) × (u.came ≡ t.came ++ more)
  pub reads : t.reads ≤ u.reads
  pub went : (more : List ℕ) × (u.went ≡ t.went ++ more)
  pub over : t.over ≡ true → u.over ≡ true
  pub broke : t.broke ≡ true → u.broke ≡ true
  pub hung_up : t.hung_up ≡ true → u.hung_up ≡ true
  pub calls : (more : Calls) × (u.calls ≡ t.calls ++ more)

-- nothing was read of it, not even that no more comes; and it was sent nothing, not even that no more is sent; and no
-- call told anything
pub record IsUntouched (t : Traffic) : Type 0 where
  pub came : t.came ≡ []
  pub reads : t.reads ≡ 0
  pub went : t.went ≡ []
  pub over : t.over ≡ false
  pub broke : t.broke ≡ false
  pub hung_up : t.hung_up ≡ false
  pub calls : t.calls ≡ []

-- no more goes to it; or no more is sent, and no more comes of it
abbrev pub IsOver : Traffic → Type 0
IsOver t = (t.broke ≡ true) ⊎ ((t.hung_up ≡ true) × (t.over ≡ true))
