-- Who stands in a line, each once, in the order in which they came.
use Rattle.std.specs.Prelude.{◌≡◌, ℕ, Bool, true, false, List, [], ◌∷◌, ◌++◌, ◌==◌, flat_map, take}
use Rattle.std.specs.List.{IsDistinct, list_any}
use Rattle.hall_http.specs.declared.queue.Motion.{Motion}
use Rattle.hall_http.specs.declared.queue.Motion.TheVariants.{Comes, Called}

-- what places did in a line, in order
abbrev pub Motions : Type 0
Motions = List (ℕ × Motion)

-- the place, if it comes by this
abbrev pub came_by : ℕ → Motion → List ℕ
came_by place Comes = place ∷ []
came_by place _ = []

-- the place, if it goes by this
abbrev pub gone_by : ℕ → Motion → List ℕ
gone_by place Comes = []
gone_by place _ = place ∷ []

-- the place, if it is called by this
abbrev pub called_by : ℕ → Motion → List ℕ
called_by place Called = place ∷ []
called_by place _ = []

-- those that came, in order
abbrev pub came_in : Motions → List ℕ
came_in motions = flat_map (λ one. came_by one.0 one.1) motions

-- those that went, in order
abbrev pub gone_in : Motions → List ℕ
gone_in motions = flat_map (λ one. gone_by one.0 one.1) motions

-- those that were called, in order
abbrev pub called_in : Motions → List ℕ
called_in motions = flat_map (λ one. called_by one.0 one.1) motions

-- whether the place is in the line
abbrev pub has : List ℕ → ℕ → Bool
has line place = list_any (λ one. one == place) line

-- The first of those that came have gone, in the order in which they came, and the others stand in this line, each
-- once.
abbrev pub IsLineSoFar : Motions → List ℕ → Type 0
IsLineSoFar motions line = (came_in motions ≡ gone_in motions ++ line) × IsDistinct (λ one other. one == other) line

-- after each first part of these there was such a line
abbrev pub WereLines : Motions → Type 0
WereLines motions = (count : ℕ) → (line : List ℕ) × IsLineSoFar (take count motions) line

-- nobody is called twice while another stands in line: whoever stood there when the first one was called has gone
-- before that one is called again
abbrev pub NobodyTwiceBefore : Type 0
NobodyTwiceBefore =
    (motions front between rest : Motions) (line : List ℕ) (mine other : ℕ)
    → WereLines motions → motions ≡ front ++ (other, Called) ∷ between ++ (other, Called) ∷ rest
    → IsLineSoFar front line → has line mine ≡ true → (mine == other) ≡ false → has (gone_in between) mine ≡ true
