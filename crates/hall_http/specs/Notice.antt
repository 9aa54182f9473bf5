-- What is told as a hall begins to be served.
use Rattle.std.specs.Prelude.{◌≡◌, ◌⊎◌, ◌++◌, ℕ, List, [], Option, Some, None, codes, decimal}
use Rattle.std.specs.Io.KnownBytes.{Appends}
use Rattle.hall_grid.specs.Device.{Tally}
use Rattle.hall_desk.specs.declared.census.Census.{Census}
use Rattle.hall_http.specs.Device.{WritesPart}

-- how many people and rounds the hall knows, where they were counted
abbrev pub census_text : Option Census → List ℕ
census_text (Some census) = codes ", people " ++ (decimal census.people ++ (codes ", rounds " ++ decimal census.rounds))
census_text None = []

-- the line: on which port the hall in the file at the path is served, and how many people and rounds it knows
abbrev pub notice_of : ℕ → List ℕ → Option Census → List ℕ
notice_of port path census =
    codes "hall: serving 127.0.0.1:"
    ++ (decimal port ++ (codes " from " ++ (path ++ (census_text census ++ codes "\n"))))

-- the line was written, or a first part of it, or nothing, out of memory
abbrev pub IsNotified : {E : Type 0} → (E → Option (List ℕ)) → ℕ → List ℕ → Option Census → Tally E → Tally E → Type 0
IsNotified contents port path census old new =
    Appends (contents old.device) (contents new.device) (notice_of port path census)
    ⊎ WritesPart (contents old.device) (contents new.device) (notice_of port path census)
    ⊎ (new ≡ old)
