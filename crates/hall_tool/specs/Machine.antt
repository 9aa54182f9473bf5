-- What the parts of a machine say, each by its kind, and the parts as they stand at a moment.
use Rattle.std.specs.Prelude.{ℕ, List, Option, Result}
use Rattle.sqlite_trees.specs.declared.store.Store
use Rattle.sqlite.specs.Held.{Held}
use Rattle.hall_grid.specs.Device.{Tally}
use Rattle.hall_store.specs.Store.{Content}
use Rattle.hall_sql.specs.Opened.{IsCauseAt, IsCauseThere, IsOldAsked, OpensAt, OpensThere}
use Rattle.hall_sql.specs.declared.open.OpenFault.{OpenFault}
use Rattle.hall_sql.specs.declared.open.PathFiles
use Rattle.hall_http.specs.declared.connection.Clock
use Rattle.hall_http.specs.declared.host.Host
use Rattle.hall_http.specs.declared.peer.Peer
use Rattle.hall_http.specs.declared.server.Sockets

-- ---- what they say

-- the bytes that are left of a reader, and those that a writer took
pub record Streams (R W : Type 0) : Type 0 where
  pub remaining : R → Option (List ℕ)
  pub contents : W → Option (List ℕ)

-- the streams of which a reader and a writer tell this
abbrev pub streams : {R W : Type 0} → (R → Option (List ℕ)) → (W → Option (List ℕ)) → Streams R W
streams remaining contents = record { remaining = remaining; contents = contents }

-- the content of a store, and the bytes of a reader and a writer
pub record Kinds (S R W : Type 0) : Type 1 where
  pub content : S → Content
  pub streams : Streams R W

-- a store that tells this of its content, beside these streams
abbrev pub kinds : {S R W : Type 0} → (S → Content) → Streams R W → Kinds S R W
kinds content streams = record { content = content; streams = streams }

-- files, each under its path, and the stores that the databases among them are kept in
pub record Files (F S : Type 0) : Type 1 where
  pub store : Store.Ghosts S
  pub paths : PathFiles.Ghosts F S

-- the files of these stores and these paths
abbrev pub files_of : {F S : Type 0} → Store.Ghosts S → PathFiles.Ghosts F S → Files F S
files_of store paths = record { store = store; paths = paths }

-- the files that a database to be migrated is asked for among, and those that any other is
pub record AllFiles (G O F S : Type 0) : Type 1 where
  pub sources : Files G O
  pub files : Files F S

-- those files, and these
abbrev pub all_files : {G O F S : Type 0} → Files G O → Files F S → AllFiles G O F S
all_files sources files = record { sources = sources; files = files }

-- a host, its sockets, the peers that come to these, and its clock
pub record Hosts (N L C P : Type 0) : Type 1 where
  pub host : Host.Ghosts N L C P
  pub sockets : Sockets.Ghosts L P
  pub peer : Peer.Ghosts P
  pub clock : Clock.Ghosts C

-- the host of these sockets, peers and clock
abbrev pub host_of : {N L C P : Type 0} → Host.Ghosts N L C P → Sockets.Ghosts L P → Peer.Ghosts P → Clock.Ghosts C
    → Hosts N L C P
host_of host sockets peer clock = record { host = host; sockets = sockets; peer = peer; clock = clock }

-- ---- the parts at a moment

-- a store, or the files that keep it, a reader and a writer
pub record Stand (S R W : Type 0) : Type 0 where
  pub kept : S
  pub reader : Tally R
  pub writer : Tally W

-- what is kept, beside this reader and this writer
abbrev pub stand : {S R W : Type 0} → S → Tally R → Tally W → Stand S R W
stand kept reader writer = record { kept = kept; reader = reader; writer = writer }

-- a store, or the files that keep it, a reader and a writer, and the host that these are on
pub record OnHost (N S R W : Type 0) : Type 0 where
  pub host : N
  pub stand : Stand S R W

-- what is kept, beside this reader and this writer, on this host
abbrev pub on_host : {N S R W : Type 0} → N → S → Tally R → Tally W → OnHost N S R W
on_host host kept reader writer = record { host = host; stand = stand kept reader writer }

-- the same host, reader and writer, beside another thing that is kept
abbrev pub keeping : {N F S R W : Type 0} → OnHost N F R W → S → OnHost N S R W
keeping it kept = on_host it.host kept it.stand.reader it.stand.writer

-- what a migration reads, what it fills, and a writer
pub record Copying (A B W : Type 0) : Type 0 where
  pub source : A
  pub target : B
  pub writer : Tally W

-- a migration from this into that, which writes here
abbrev pub copying : {A B W : Type 0} → A → B → Tally W → Copying A B W
copying source target writer = record { source = source; target = target; writer = writer }

-- all that a command is run over: on a host the files, a reader and a writer; and the files of a database to be
-- migrated
pub record Machine (G N F R W : Type 0) : Type 0 where
  pub sources : G
  pub on : OnHost N F R W

-- the machine of these files, this host and these streams
abbrev pub machine : {G N F R W : Type 0} → G → N → F → Tally R → Tally W → Machine G N F R W
machine sources host files reader writer = record { sources = sources; on = on_host host files reader writer }

-- of a machine what a migration is over
abbrev pub copied_over : {G N F R W : Type 0} → Machine G N F R W → Copying G F W
copied_over it = copying it.sources it.on.stand.kept it.on.stand.writer

-- ---- what files do

-- asked for the database at the path, they handed out the one that they held, which became the hall's so
abbrev pub HandsOut : {F S : Type 0} → Files F S → F → List ℕ → Held S → F → Type 0
HandsOut files = OpensAt files.store files.paths.image_at files.paths.opens

-- they told before that there is a file
abbrev pub HandsOutThere : {F S : Type 0} → Files F S → F → List ℕ → Held S → F → Type 0
HandsOutThere files = OpensThere files.store files.paths.image_at files.paths.tells files.paths.opens

-- asked for the database at the path, they refused it, or it was refused, for this cause
abbrev pub Refuses : {F S : Type 0} → Files F S → F → List ℕ → F → OpenFault → Type 0
Refuses files =
    IsCauseAt files.store files.paths.image_at files.paths.refuses files.paths.sees files.paths.opens
    files.paths.closes

-- so it was, or there is no file, as they told before
abbrev pub RefusesThere : {F S : Type 0} → Files F S → F → List ℕ → F → OpenFault → Type 0
RefusesThere files =
    IsCauseThere files.store files.paths.image_at files.paths.tells files.paths.refuses files.paths.sees
    files.paths.opens files.paths.closes

-- this came of asking for a database of the first version, which is there
abbrev pub AskedForOld : {F S : Type 0} → Files F S → F → List ℕ → Result (Option (Held S)) OpenFault → F → Type 0
AskedForOld files =
    IsOldAsked files.store files.paths.image_at files.paths.tells files.paths.refuses files.paths.sees
    files.paths.opens files.paths.closes
