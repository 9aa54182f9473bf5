-- What is served over files: from a world that an open found in them, to one that the next open finds.
use Rattle.std.specs.Prelude.{◌≡◌, List}
use Rattle.sqlite.specs.Files.{file_state}
use Rattle.sqlite.specs.Held.{Held}
use Rattle.sqlite.specs.Recovery.{Image}
use Rattle.sqlite_disk.specs.declared.Disk.{Ghosts}
use Rattle.sqlite_store.specs.FileStore as files
use Rattle.sqlite_store.specs.declared.store.FileStore.{FileStore}
use Rattle.hall_policy.specs.World.{World}
use Rattle.hall_store.specs.Store.{Content, Kept}
use Rattle.hall_sql.specs.Content.{content_of}
use Rattle.hall_sql.specs.Opened.{FindsWorld, Starts}
use Rattle.hall_sql.specs.Stopped.{StopsLeave}
use Rattle.hall_http.specs.Crowd.{AreServed, Past}
use Rattle.hall_http.specs.Peer.{Traffic}
use Rattle.hall_http.specs.declared.server.ServeAllEnd.{ServeAllEnd}
use Rattle.hall_laws.specs.Servings.{Serving}

-- what a connection over files keeps
abbrev pub content_in : {D : Type 0} {g : Ghosts D} → Held (FileStore D g) → Content
content_in it = content_of (file_state it)

-- A database was opened in files, with the world that was found there; it was read, and served to connections; and in
-- files that a stop leaves of it then, as it is let go, the second world is found.
pub record FileServing {D P : Type 0} (g : Ghosts D) (traffic : P → Traffic) (world found : World) : Type 0 where
  pub image : Image
  pub opened : Held (FileStore D g)
  pub starts : Starts image (content_in opened)
  pub began : (content_in opened).world ≡ world
  pub before : Held (FileStore D g)
  pub read : Kept (content_in opened) (content_in before)
  pub serves : (content_in before).serves
  pub why : ServeAllEnd
  pub after : Held (FileStore D g)
  pub gone : List (Past P)
  pub served : AreServed content_in traffic why before after gone
  pub honest : (content_in after).honest
  pub last : FileStore D g
  pub let_go : StopsLeave last (content_in after)
  pub left : Image
  pub may : (files.state last).may_leave left
  pub finds : FindsWorld left found

-- so it is a serving, from the one world to the other
abbrev pub FilesAreServed : {D P : Type 0} → Ghosts D → (P → Traffic) → Type 0
FilesAreServed {D} g traffic =
    (world found : World) → FileServing g traffic world found
    → Serving (λ (it : Held (FileStore D g)). content_in it) traffic world found
