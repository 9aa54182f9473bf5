-- What is served over files is a serving.
use Rattle.std.proofs.Common.{◌∙◌}
use Rattle.sqlite_disk.specs.declared.Disk.{Ghosts}
use Rattle.hall_http.specs.Peer.{Traffic}
use Rattle.hall_laws.specs.Found.{FilesAreServed}

pub files_are_served : {D P : Type 0} (g : Ghosts D) (traffic : P → Traffic) → FilesAreServed g traffic
files_are_served g traffic world found it = record {
  why = it.why;
  before = it.before;
  after = it.after;
  gone = it.gone;
  served = it.served;
  serves = it.serves;
  began = it.read.world (it.served.leads.honest it.honest) it.serves ∙ it.began;
  honest = it.honest;
  leaves = it.let_go it.left it.may found it.finds;
}
