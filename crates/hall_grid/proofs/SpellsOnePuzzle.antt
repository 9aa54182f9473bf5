-- A text spells one puzzle, or has one fault.
use Rattle.std.proofs.Common.{◌≡◌, ℕ, ◌⊎◌, List, [], ◌∷◌, get_or, refl, sym, ap, ◌∙◌, subst, inl, inr, arith}
use Rattle.hall_grid.specs.declared.board.Size.{Size}
use Rattle.hall_grid.specs.declared.board.Kind.{Kind}
use Rattle.hall_grid.specs.declared.board.Kind.TheVariants.{Sudoku, Slither, Nurikabe}
use Rattle.hall_grid.specs.declared.fault.TextFault.{TextFault}
use Rattle.hall_grid.specs.declared.fault.TextFault.TheVariants as faults
use Rattle.hall_grid.specs.declared.board.Clue.{Clue}
use Rattle.hall_grid.specs.Board.{Board, HasSize, of_parts}
use Rattle.hall_grid.specs.Body.{Spells, FaultAt}
use Rattle.hall_grid.specs.Head.{HasHead}
use Rattle.hall_grid.specs.Text.{IsBare, IsSide, word_of, word_field, cols_field, rows_field, body_of, Heads}
use Rattle.hall_grid.specs.Text.{SpellsText, HasNoKind, HasNoSide, HasNoLimit, HasBodyFault, FaultOf}
use Rattle.hall_grid.proofs.Number16Form.{some_is}
use Rattle.hall_grid.proofs.Spells.{one_spelling, no_fault}
use Rattle.hall_grid.proofs.FaultAt.{one_fault}

-- a field is one number
one_side : (field : List ℕ) (m n : ℕ) → IsSide field m → IsSide field n → m ≡ n
one_side [] m n h k = absurd h
one_side (a ∷ []) m n h k = omega (arith, h.1, k.1)
one_side (a ∷ b ∷ []) m n (x, y, h, h', e) (z, w, k, k', f) = omega arith
one_side (a ∷ b ∷ c ∷ rest) m n h k = absurd h

one_bare : (text s t : List ℕ) → IsBare text s → IsBare text t → s ≡ t
one_bare text s t h k = some_is s t (sym h ∙ k)

one_kind : (k l : Kind) → word_of k ≡ word_of l → k ≡ l
one_kind Sudoku Sudoku e = refl
one_kind Sudoku Slither e = absurd (omega (arith, ap (λ s. get_or s 1 0) e))
one_kind Sudoku Nurikabe e = absurd (omega (arith, ap (λ s. get_or s 0 0) e))
one_kind Slither Sudoku e = absurd (omega (arith, ap (λ s. get_or s 1 0) e))
one_kind Slither Slither e = refl
one_kind Slither Nurikabe e = absurd (omega (arith, ap (λ s. get_or s 0 0) e))
one_kind Nurikabe Sudoku e = absurd (omega (arith, ap (λ s. get_or s 0 0) e))
one_kind Nurikabe Slither e = absurd (omega (arith, ap (λ s. get_or s 0 0) e))
one_kind Nurikabe Nurikabe e = refl

-- what stands before the body is told by the text
record IsOneHead (s t : List ℕ) (k l : Kind) (y z : Size) : Type 0 where
  start : s ≡ t
  kind : k ≡ l
  size : y ≡ z

same_size : (y z : Size) → y.cols ≡ z.cols → y.rows ≡ z.rows → y ≡ z
same_size y z e f = λ i. record { cols = e i; rows = f i }

one_head : (text s t : List ℕ) (k l : Kind) (y z : Size) → Heads text s k y → Heads text t l z → IsOneHead s t k l y z
one_head text s t k l y z g h =
    let start = one_bare text s t g.bare h.bare in
    record {
      start = start;
      kind = one_kind k l (sym g.word ∙ ap word_field start ∙ h.word);
      size =
          same_size y z
          (one_side (cols_field t) y.cols z.cols (subst (λ r. IsSide (cols_field r) y.cols) start g.cols) h.cols)
          (one_side (rows_field t) y.rows z.rows (subst (λ r. IsSide (rows_field r) y.rows) start g.rows) h.rows);
    }

move : (P : List ℕ → Kind → Size → Type 0) (s t : List ℕ) (k l : Kind) (y z : Size)
    → IsOneHead s t k l y z
    → P s k y
    → P t l z
move P s t k l y z e p = subst (λ r. P r l z) e.start (subst (λ r. P s r z) e.kind (subst (λ r. P s k r) e.size p))

same_board : (a b : Board) → a.kind ≡ b.kind → a.size ≡ b.size → a.clues ≡ b.clues → a ≡ b
same_board a b e f g = λ i. record { kind = e i; size = f i; clues = g i }

-- no text spells two puzzles
pub one_puzzle : (text : List ℕ) (a b : Board) → SpellsText text a → SpellsText text b → a ≡ b
one_puzzle text a b s t =
    let head = one_head text s.start t.start a.kind b.kind a.size b.size s.heads t.heads in
    let body = move (λ r k z. Spells k z (body_of r) a.clues) s.start t.start a.kind b.kind a.size b.size head s.body in
    same_board a b head.kind head.size (one_spelling b.kind b.size (body_of t.start) a.clues b.clues body t.body)

-- a text with a kind word has one
kind_is : (text start : List ℕ) (kind : Kind) → IsBare text start → word_field start ≡ word_of kind → HasNoKind text → ⊥
kind_is text start kind h w (inl missing) = absurd (cc)
kind_is text start kind h w (inr (other, k, none)) = none kind (ap word_field (one_bare text other start k h) ∙ w)

sides_are : (text start : List ℕ) (kind : Kind) (size : Size) → Heads text start kind size → HasNoSide text → ⊥
sides_are text start kind size h none =
    elim none.side [
      | inl cols ↦
          cols size.cols
          (subst (λ r. IsSide (cols_field r) size.cols) (one_bare text start none.start h.bare none.bare) h.cols)
      | inr rows ↦
          rows size.rows
          (subst (λ r. IsSide (rows_field r) size.rows) (one_bare text start none.start h.bare none.bare) h.rows)
    ]

limit_is : (text start : List ℕ) (kind : Kind) (size : Size)
    → Heads text start kind size
    → HasSize kind size
    → HasNoLimit text
    → ⊥
limit_is text start kind size h fits none =
    none.limit
    (move (λ r k z. HasSize k z) start none.start kind none.kind size none.size
    (one_head text start none.start kind none.kind size none.size h none.heads) fits)

no_body_fault : (text : List ℕ) (board : Board) (fault : TextFault)
    → SpellsText text board
    → HasBodyFault text fault
    → ⊥
no_body_fault text board fault s f =
    let head = one_head text s.start f.start board.kind f.kind board.size f.size s.heads f.heads in
    no_fault f.kind f.size (body_of f.start) board.clues fault
    (move (λ r k z. Spells k z (body_of r) board.clues) s.start f.start board.kind f.kind board.size f.size head
    s.body) f.body

-- a text that spells a puzzle has no fault
pub no_text_fault : (text : List ℕ) (board : Board) (fault : TextFault) → SpellsText text board → FaultOf text fault → ⊥
no_text_fault text board faults.Memory s f = f
no_text_fault text board faults.Kind s f = kind_is text s.start board.kind s.heads.bare s.heads.word f
no_text_fault text board faults.SizeField s f = sides_are text s.start board.kind board.size s.heads f
no_text_fault text board faults.SizeLimit s f = limit_is text s.start board.kind board.size s.heads s.size f
no_text_fault text board (faults.Strange at) s f = no_body_fault text board (faults.Strange at) s f
no_text_fault text board (faults.Cut at) s f = no_body_fault text board (faults.Cut at) s f
no_text_fault text board (faults.Range at) s f = no_body_fault text board (faults.Range at) s f
no_text_fault text board (faults.After at) s f = no_body_fault text board (faults.After at) s f

one_body_fault : (text : List ℕ) (a b : TextFault) → HasBodyFault text a → HasBodyFault text b → a ≡ b
one_body_fault text a b f g =
    let head = one_head text f.start g.start f.kind g.kind f.size g.size f.heads g.heads in
    one_fault g.kind g.size (body_of g.start) a b
    (move (λ r k z. FaultAt k z (body_of r) a) f.start g.start f.kind g.kind f.size g.size head f.body) g.body

only_kind : (text : List ℕ) (b : TextFault) → HasNoKind text → FaultOf text b → faults.Kind ≡ b
only_kind text faults.Memory f g = absurd g
only_kind text faults.Kind f g = refl
only_kind text faults.SizeField f g = absurd (kind_is text g.start g.kind g.bare g.word f)
only_kind text faults.SizeLimit f g = absurd (kind_is text g.start g.kind g.heads.bare g.heads.word f)
only_kind text (faults.Strange at) f g = absurd (kind_is text g.start g.kind g.heads.bare g.heads.word f)
only_kind text (faults.Cut at) f g = absurd (kind_is text g.start g.kind g.heads.bare g.heads.word f)
only_kind text (faults.Range at) f g = absurd (kind_is text g.start g.kind g.heads.bare g.heads.word f)
only_kind text (faults.After at) f g = absurd (kind_is text g.start g.kind g.heads.bare g.heads.word f)

only_side : (text : List ℕ) (b : TextFault) → HasNoSide text → FaultOf text b → faults.SizeField ≡ b
only_side text faults.Memory f g = absurd g
only_side text faults.Kind f g = absurd (kind_is text f.start f.kind f.bare f.word g)
only_side text faults.SizeField f g = refl
only_side text faults.SizeLimit f g = absurd (sides_are text g.start g.kind g.size g.heads f)
only_side text (faults.Strange at) f g = absurd (sides_are text g.start g.kind g.size g.heads f)
only_side text (faults.Cut at) f g = absurd (sides_are text g.start g.kind g.size g.heads f)
only_side text (faults.Range at) f g = absurd (sides_are text g.start g.kind g.size g.heads f)
only_side text (faults.After at) f g = absurd (sides_are text g.start g.kind g.size g.heads f)

only_limit : (text : List ℕ) (b : TextFault) → HasNoLimit text → FaultOf text b → faults.SizeLimit ≡ b
only_limit text faults.Memory f g = absurd g
only_limit text faults.Kind f g = absurd (kind_is text f.start f.kind f.heads.bare f.heads.word g)
only_limit text faults.SizeField f g = absurd (sides_are text f.start f.kind f.size f.heads g)
only_limit text faults.SizeLimit f g = refl
only_limit text (faults.Strange at) f g = absurd (limit_is text g.start g.kind g.size g.heads g.limit f)
only_limit text (faults.Cut at) f g = absurd (limit_is text g.start g.kind g.size g.heads g.limit f)
only_limit text (faults.Range at) f g = absurd (limit_is text g.start g.kind g.size g.heads g.limit f)
only_limit text (faults.After at) f g = absurd (limit_is text g.start g.kind g.size g.heads g.limit f)

only_body : (text : List ℕ) (a b : TextFault) → HasBodyFault text a → FaultOf text b → a ≡ b
only_body text a faults.Memory f g = absurd g
only_body text a faults.Kind f g = absurd (kind_is text f.start f.kind f.heads.bare f.heads.word g)
only_body text a faults.SizeField f g = absurd (sides_are text f.start f.kind f.size f.heads g)
only_body text a faults.SizeLimit f g = absurd (limit_is text f.start f.kind f.size f.heads f.limit g)
only_body text a (faults.Strange at) f g = one_body_fault text a (faults.Strange at) f g
only_body text a (faults.Cut at) f g = one_body_fault text a (faults.Cut at) f g
only_body text a (faults.Range at) f g = one_body_fault text a (faults.Range at) f g
only_body text a (faults.After at) f g = one_body_fault text a (faults.After at) f g

-- two faults of a text are one
pub one_text_fault : (text : List ℕ) (a b : TextFault) → FaultOf text a → FaultOf text b → a ≡ b
one_text_fault text faults.Memory b f g = absurd f
one_text_fault text faults.Kind b f g = only_kind text b f g
one_text_fault text faults.SizeField b f g = only_side text b f g
one_text_fault text faults.SizeLimit b f g = only_limit text b f g
one_text_fault text (faults.Strange at) b f g = only_body text (faults.Strange at) b f g
one_text_fault text (faults.Cut at) b f g = only_body text (faults.Cut at) b f g
one_text_fault text (faults.Range at) b f g = only_body text (faults.Range at) b f g
one_text_fault text (faults.After at) b f g = only_body text (faults.After at) b f g

-- a head and a body that spells clues are a text that spells the puzzle
pub spells_from_head : (text : List ℕ) (kind : Kind) (size : Size) (body : List ℕ) (clues : List Clue)
    → HasHead text kind size body
    → Spells kind size body clues → SpellsText text (of_parts kind size clues)
spells_from_head text kind size body clues head s = record {
  start = head.start;
  heads = head.heads;
  size = head.limit;
  body = subst (λ b. Spells kind size b clues) head.follows s;
}

body_fault : (text : List ℕ) (kind : Kind) (size : Size) (body : List ℕ) (fault : TextFault)
    → HasHead text kind size body
    → FaultAt kind size body fault → HasBodyFault text fault
body_fault text kind size body fault head f = record {
  start = head.start;
  kind = kind;
  size = size;
  heads = head.heads;
  limit = head.limit;
  body = subst (λ b. FaultAt kind size b fault) head.follows f;
}

-- a head and a fault of the body are a fault of the text
pub fault_from_head : (text : List ℕ) (kind : Kind) (size : Size) (body : List ℕ) (fault : TextFault)
    → HasHead text kind size body
    → FaultAt kind size body fault → FaultOf text fault
fault_from_head text kind size body faults.Memory head f = absurd f.place
fault_from_head text kind size body faults.Kind head f = absurd f.place
fault_from_head text kind size body faults.SizeField head f = absurd f.place
fault_from_head text kind size body faults.SizeLimit head f = absurd f.place
fault_from_head text kind size body (faults.Strange at) head f =
    body_fault text kind size body (faults.Strange at) head f
fault_from_head text kind size body (faults.Cut at) head f = body_fault text kind size body (faults.Cut at) head f
fault_from_head text kind size body (faults.Range at) head f = body_fault text kind size body (faults.Range at) head f
fault_from_head text kind size body (faults.After at) head f = body_fault text kind size body (faults.After at) head f

-- at a text that spells a puzzle a reader answers no fault
pub only_memory : (text : List ℕ) (fault : TextFault)
    → (fault ≡ faults.Memory) ⊎ FaultOf text fault
    → (board : Board)
    → SpellsText text board
    → fault ≡ faults.Memory
only_memory text fault (inl memory) board s = memory
only_memory text fault (inr f) board s = absurd (no_text_fault text board fault s f)

-- nor does one that has read the head
pub only_memory_after_head : (text : List ℕ) (kind : Kind) (size : Size) (body : List ℕ) (fault : TextFault)
    → HasHead text kind size body
    → (fault ≡ faults.Memory) ⊎ FaultAt kind size body fault
    → (board : Board)
    → SpellsText text board
    → fault ≡ faults.Memory
only_memory_after_head text kind size body fault head (inl memory) board s = memory
only_memory_after_head text kind size body fault head (inr f) board s =
    absurd (no_text_fault text board fault s (fault_from_head text kind size body fault head f))
