use Rattle.hall_http.proofs.Parts.{all_ascii, IsAscii-from_all}
use Rattle.hall_http.proofs.routes.find.Goals as goal

pub parts_of-requires : goal.parts_of-requires
parts_of-requires c = rw c.in-Ok.ensures.path (all_ascii _ _ _ _ 0 0 (IsAscii-from_all _ c.requires))
