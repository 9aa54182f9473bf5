-- One body spells the clues of one board.
use Rattle.std.proofs.Common.{◌≡◌, ℕ, ◌+◌, ◌<◌, List, [], ◌∷◌, ◌++◌, length, Result, Ok, refl, sym, ap, ◌∙◌, subst}
use Rattle.std.proofs.Common.{arith, zero-add}
use Rattle.std.proofs.lemmas.List.{length-append, append_assoc}
use Rattle.hall_grid.specs.declared.board.Size.{Size}
use Rattle.hall_grid.specs.declared.board.Kind.{Kind}
use Rattle.hall_grid.specs.declared.board.Clue.{Clue}
use Rattle.hall_grid.specs.declared.form.FormFault.{FormFault}
use Rattle.std.specs.Prelude.{All}
use Rattle.hall_grid.specs.declared.fault.TextFault.{TextFault}
use Rattle.hall_grid.specs.declared.fault.TextFault.TheVariants as faults
use Rattle.hall_grid.specs.Board.{cells, IsClue}
use Rattle.hall_grid.specs.Body.{Piece, Form, one, two, three, some_number, alone, before_one, before_two, some_count}
use Rattle.hall_grid.specs.Body.{run, IsChain, bytes_of, clues_of, Spells, FaultAt, IsWrong, fitted}
use Rattle.hall_grid.specs.FormReading.{form_at}
use Rattle.hall_grid.proofs.Number16Form.{ok_is}
use Rattle.hall_grid.proofs.FormAt.{form_again}

pub some_bytes : (kind : Kind) (form : List ℕ) (clues : List Clue) → Form kind form clues → 0 < length form
some_bytes kind form clues (one _ _) = omega arith
some_bytes kind form clues (two _ _ _) = omega arith
some_bytes kind form clues (three _ _ _ _) = omega arith
some_bytes kind form clues some_number = omega arith
some_bytes kind form clues (alone _ _) = omega arith
some_bytes kind form clues (before_one _ _) = omega arith
some_bytes kind form clues (before_two _ _) = omega arith
some_bytes kind form clues some_count = omega arith
some_bytes kind form clues (run _) = omega arith

pub same_clues : (kind : Kind) (size : Size) (g h : ℕ) (ps qs : List Piece)
    → IsChain kind size g ps
    → IsChain kind size h qs
    → bytes_of ps ≡ bytes_of qs → clues_of ps ≡ clues_of qs
same_clues kind size g h [] [] c d e = refl
same_clues kind size g h [] (q ∷ qs) c d e =
    absurd (let some = some_bytes kind q.bytes q.clues d.1.0 in let l = ap length e in
    omega (arith, length-append q.bytes (bytes_of qs)))
same_clues kind size g h (p ∷ ps) [] c d e =
    absurd (let some = some_bytes kind p.bytes p.clues c.1.0 in let l = ap length e in
    omega (arith, length-append p.bytes (bytes_of ps)))
same_clues kind size g h (p ∷ ps) (q ∷ qs) c d e =
    let a : form_at kind (p.bytes ++ bytes_of ps) ≡ Ok (p.clues, bytes_of ps) =
    form_again kind p.bytes (bytes_of ps) p.clues c.1.0 in
    let b : form_at kind (q.bytes ++ bytes_of qs) ≡ Ok (q.clues, bytes_of qs) =
    form_again kind q.bytes (bytes_of qs) q.clues d.1.0 in
    let r : ◌≡◌ {A = Result (List Clue × List ℕ) FormFault} (Ok (p.clues, bytes_of ps)) (Ok (q.clues, bytes_of qs)) =
    sym a ∙ ap (form_at kind) e ∙ b in
    let pair = ok_is (p.clues, bytes_of ps) (q.clues, bytes_of qs) r in
    let head : p.clues ≡ q.clues = ap (λ (x : List Clue × List ℕ). x.0) pair in
    let rest : bytes_of ps ≡ bytes_of qs = ap (λ (x : List Clue × List ℕ). x.1) pair in
    let tail = same_clues kind size (g + length p.clues) (h + length q.clues) ps qs c.2 d.2 rest in
    ap (λ s. s ++ clues_of ps) head ∙ ap (λ s. q.clues ++ s) tail

-- a body spells one list of clues
pub one_spelling : (kind : Kind) (size : Size) (body : List ℕ) (a b : List Clue)
    → Spells kind size body a
    → Spells kind size body b
    → a ≡ b
one_spelling kind size body a b s t =
    s.gives
    ∙ ap (fitted (cells size)) (same_clues kind size 0 0 s.pieces t.pieces s.chain t.chain (sym s.whole ∙ t.whole))
    ∙ sym t.gives

-- the piece of the longer chain that stands where the shorter one ends
pub record Stands (kind : Kind) (size : Size) (given : ℕ) (rest : List ℕ) : Type 0 where
  pub piece : Piece
  pub after : List ℕ
  pub front : rest ≡ piece.bytes ++ after
  pub room : given < cells size
  pub form : Form kind piece.bytes piece.clues
  pub ranges : All (IsClue kind size) piece.clues

stands : (kind : Kind) (size : Size) (g h : ℕ) (ps qs : List Piece) (rest : List ℕ)
    → g ≡ h
    → IsChain kind size g ps
    → IsChain kind size h qs
    → bytes_of ps ≡ bytes_of qs ++ rest → 0 < length rest → Stands kind size (h + length (clues_of qs)) rest
stands kind size g h [] [] rest s c d e some = absurd (let l = ap length e in omega arith)
stands kind size g h [] (q ∷ qs) rest s c d e some =
    absurd (let l = ap length e in omega (arith, length-append (q.bytes ++ bytes_of qs) rest))
stands kind size g h (p ∷ ps) [] rest s c d e some =
    record {
      piece = p;
      after = bytes_of ps;
      front = sym e;
      room = (let room = c.0 in omega arith);
      form = c.1.0;
      ranges = c.1.1;
    }
stands kind size g h (p ∷ ps) (q ∷ qs) rest s c d e some =
    let a : form_at kind (p.bytes ++ bytes_of ps) ≡ Ok (p.clues, bytes_of ps) =
    form_again kind p.bytes (bytes_of ps) p.clues c.1.0 in
    let b : form_at kind (q.bytes ++ (bytes_of qs ++ rest)) ≡ Ok (q.clues, bytes_of qs ++ rest) =
    form_again kind q.bytes (bytes_of qs ++ rest) q.clues d.1.0 in
    let r : ◌≡◌ {A = Result (List Clue × List ℕ) FormFault} (Ok (p.clues, bytes_of ps))
    (Ok (q.clues, bytes_of qs ++ rest)) =
    sym a ∙ ap (form_at kind) (e ∙ append_assoc q.bytes (bytes_of qs) rest) ∙ b in
    let pair = ok_is (p.clues, bytes_of ps) (q.clues, bytes_of qs ++ rest) r in
    let head : p.clues ≡ q.clues = ap (λ (x : List Clue × List ℕ). x.0) pair in
    let next : bytes_of ps ≡ bytes_of qs ++ rest = ap (λ (x : List Clue × List ℕ). x.1) pair in
    let t =
    stands kind size (g + length p.clues) (h + length q.clues) ps qs rest
    (let l = ap length head in omega arith) c.2 d.2 next some in
    let moved : (h + length q.clues) + length (clues_of qs) ≡ h + length (q.clues ++ clues_of qs) =
    omega (arith, length-append q.clues (clues_of qs)) in
    subst (λ m. Stands kind size m rest) moved t

-- a form at the front begins with the first byte
pub begun : (kind : Kind) (b : ℕ) (rest form after : List ℕ) (clues : List Clue)
    → b ∷ rest ≡ form ++ after
    → Form kind form clues
    → ((bytes : List ℕ) (clues : List Clue) → Form kind (b ∷ bytes) clues → ⊥) → ⊥
begun kind b rest [] after clues e f none = let some = some_bytes kind [] clues f in omega arith
begun kind b rest (x ∷ form) after clues e f none =
    let same : b ≡ x = cc in none form clues (subst (λ y. Form kind (y ∷ form) clues) (sym same) f)

-- two forms at one front give one list of clues
one_form : (kind : Kind) (bytes form form' after after' : List ℕ) (clues clues' : List Clue)
    → bytes ≡ form ++ after
    → bytes ≡ form' ++ after'
    → Form kind form clues → Form kind form' clues' → clues ≡ clues'
one_form kind bytes form form' after after' clues clues' e e' f f' =
    let r : ◌≡◌ {A = Result (List Clue × List ℕ) FormFault} (Ok (clues, after)) (Ok (clues', after')) =
    sym (form_again kind form after clues f) ∙ ap (form_at kind) (sym e ∙ e')
    ∙ form_again kind form' after' clues' f' in
    ap (λ (x : List Clue × List ℕ). x.0) (ok_is (clues, after) (clues', after') r)

-- no piece stands where something is wrong
pub wrong_or_stands : (kind : Kind) (size : Size) (given : ℕ) (rest : List ℕ) (fault : TextFault)
    → Stands kind size given rest
    → IsWrong kind size given rest fault
    → ⊥
wrong_or_stands kind size given rest (faults.After _) s w = let r = s.room in omega arith
wrong_or_stands kind size given rest (faults.Cut _) s w = w.3 s.piece.bytes s.after s.piece.clues s.form s.front
wrong_or_stands kind size given [] (faults.Strange _) s w = w.1
wrong_or_stands kind size given (b ∷ rest) (faults.Strange _) s w =
    begun kind b rest s.piece.bytes s.after s.piece.clues s.front s.form w.1
wrong_or_stands kind size given rest (faults.Range _) s w =
    let x = w.1 in
    x.wrong (subst (λ cs. All (IsClue kind size) cs)
    (one_form kind rest s.piece.bytes x.piece.bytes s.after x.after s.piece.clues x.piece.clues s.front x.front s.form
    x.form) s.ranges)
wrong_or_stands kind size given rest faults.Memory s w = w
wrong_or_stands kind size given rest faults.Kind s w = w
wrong_or_stands kind size given rest faults.SizeField s w = w
wrong_or_stands kind size given rest faults.SizeLimit s w = w

-- a body that spells clues has no fault
pub no_fault : (kind : Kind) (size : Size) (body : List ℕ) (clues : List Clue) (fault : TextFault)
    → Spells kind size body clues
    → FaultAt kind size body fault
    → ⊥
no_fault kind size body clues fault s f =
    wrong_or_stands kind size (length (clues_of f.pieces)) f.rest fault
    (subst (λ m. Stands kind size m f.rest) (zero-add (length (clues_of f.pieces)))
    (stands kind size 0 0 s.pieces f.pieces f.rest refl s.chain f.chain (sym s.whole ∙ f.whole) f.follows)) f.wrong
