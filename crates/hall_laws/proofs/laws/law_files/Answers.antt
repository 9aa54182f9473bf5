use Rattle.hall_laws.proofs.Found.{files_are_served}
use Rattle.hall_laws.proofs.laws.law_files.Goals as goal

pub returns : goal.returns
returns g c = files_are_served g.D.Disk g.P.Peer.traffic
