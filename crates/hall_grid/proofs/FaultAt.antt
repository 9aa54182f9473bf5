-- A body has one leftmost fault.
use Rattle.std.proofs.Common.{◌≡◌, ℕ, ◌+◌, List, [], ◌∷◌, ◌++◌, length, Result, Ok, refl, sym, ap, ◌∙◌, subst, inl, inr}
use Rattle.std.proofs.Common.{arith, add-zero, zero-add}
use Rattle.std.proofs.lemmas.List.{length-append, append_assoc, append_cancel_right}
use Rattle.hall_grid.specs.declared.board.Size.{Size}
use Rattle.hall_grid.specs.declared.board.Kind.{Kind}
use Rattle.hall_grid.specs.declared.board.Clue.{Clue}
use Rattle.hall_grid.specs.declared.board.Clue.TheVariants.{Number}
use Rattle.hall_grid.specs.declared.form.FormFault.{FormFault}
use Rattle.hall_grid.specs.declared.fault.TextFault.{TextFault}
use Rattle.hall_grid.specs.declared.fault.TextFault.TheVariants as faults
use Rattle.hall_grid.specs.Body.{IsHexDigit, Piece, Form, two, three, HasNumber16, IsChain, bytes_of, clues_of, FaultAt}
use Rattle.hall_grid.specs.Body.{IsWrong, HasPlace, BeginsLong, BeginsNone, HasNone, HasWrong}
use Rattle.hall_grid.specs.FormReading.{form_at}
use Rattle.hall_grid.proofs.Number16Form.{ok_is}
use Rattle.hall_grid.proofs.FormAt.{form_again}
use Rattle.hall_grid.proofs.Spells.{Stands, begun, wrong_or_stands}

-- two forms at the front of one text are one form, with one rest
record IsOneForm (p q : Piece) (after after' : List ℕ) : Type 0 where
  bytes : p.bytes ≡ q.bytes
  clues : p.clues ≡ q.clues
  rest : after ≡ after'

one_form : (kind : Kind) (p q : Piece) (after after' : List ℕ)
    → Form kind p.bytes p.clues
    → Form kind q.bytes q.clues
    → p.bytes ++ after ≡ q.bytes ++ after'
    → IsOneForm p q after after'
one_form kind p q after after' f g e =
    let r : ◌≡◌ {A = Result (List Clue × List ℕ) FormFault} (Ok (p.clues, after)) (Ok (q.clues, after')) =
    sym (form_again kind p.bytes after p.clues f) ∙ ap (form_at kind) e ∙ form_again kind q.bytes after' q.clues g in
    let pair = ok_is (p.clues, after) (q.clues, after') r in
    let rest : after ≡ after' = ap (λ (x : List Clue × List ℕ). x.1) pair in
    record {
      bytes = append_cancel_right p.bytes q.bytes after' (ap (λ s. p.bytes ++ s) (sym rest) ∙ e);
      clues = ap (λ (x : List Clue × List ℕ). x.0) pair;
      rest = rest;
    }

-- two chains before two rests of one text
data Compares (kind : Kind) (size : Size) (given : ℕ) (ps qs : List Piece) (r s : List ℕ) : Type 0 where
  same : bytes_of ps ≡ bytes_of qs → clues_of ps ≡ clues_of qs → r ≡ s → Compares kind size given ps qs r s
  first_ends : Stands kind size (given + length (clues_of ps)) r → Compares kind size given ps qs r s
  second_ends : Stands kind size (given + length (clues_of qs)) s → Compares kind size given ps qs r s

-- one form more in front of both
compares_more : (kind : Kind) (size : Size) (given : ℕ) (p q : Piece) (ps qs : List Piece) (r s : List ℕ)
    → p.bytes ≡ q.bytes
    → p.clues ≡ q.clues
    → Compares kind size (given + length p.clues) ps qs r s → Compares kind size given (p ∷ ps) (q ∷ qs) r s
compares_more kind size given p q ps qs r s bytes clues (same b c e) =
    same (ap (λ x. x ++ bytes_of ps) bytes ∙ ap (λ x. q.bytes ++ x) b)
    (ap (λ x. x ++ clues_of ps) clues ∙ ap (λ x. q.clues ++ x) c) e
compares_more kind size given p q ps qs r s bytes clues (first_ends t) =
    let moved : (given + length p.clues) + length (clues_of ps) ≡ given + length (p.clues ++ clues_of ps) =
    omega (arith, length-append p.clues (clues_of ps)) in
    first_ends (subst (λ n. Stands kind size n r) moved t)
compares_more kind size given p q ps qs r s bytes clues (second_ends t) =
    let moved : (given + length p.clues) + length (clues_of qs) ≡ given + length (q.clues ++ clues_of qs) =
    omega (arith, length-append q.clues (clues_of qs), ap length clues) in
    second_ends (subst (λ n. Stands kind size n s) moved t)

stands_here : (kind : Kind) (size : Size) (given : ℕ) (p : Piece) (ps : List Piece) (r s : List ℕ)
    → IsChain kind size given (p ∷ ps)
    → (p.bytes ++ bytes_of ps) ++ s ≡ r
    → Stands kind size given r
stands_here kind size given p ps r s c e =
    record {
      piece = p;
      after = bytes_of ps ++ s;
      front = sym e ∙ append_assoc p.bytes (bytes_of ps) s;
      room = c.0;
      form = c.1.0;
      ranges = c.1.1;
    }

compare : (kind : Kind) (size : Size) (given : ℕ) (ps qs : List Piece) (r s : List ℕ)
    → IsChain kind size given ps
    → IsChain kind size given qs
    → bytes_of ps ++ r ≡ bytes_of qs ++ s → Compares kind size given ps qs r s
compare kind size given [] [] r s c d e = same refl refl e
compare kind size given [] (q ∷ qs) r s c d e =
    first_ends (rw add-zero (stands_here kind size given q qs r s d (sym e)))
compare kind size given (p ∷ ps) [] r s c d e = second_ends (rw add-zero (stands_here kind size given p ps s r c e))
compare kind size given (p ∷ ps) (q ∷ qs) r s c d e =
    let one =
    one_form kind p q (bytes_of ps ++ r) (bytes_of qs ++ s) c.1.0 d.1.0
    (sym (append_assoc p.bytes (bytes_of ps) r) ∙ e ∙ append_assoc q.bytes (bytes_of qs) s) in
    let count : given + length q.clues ≡ given + length p.clues = ap (λ cs. given + length cs) (sym one.clues) in
    compares_more kind size given p q ps qs r s one.bytes one.clues
    (compare kind size (given + length p.clues) ps qs r s c.2 (subst (λ n. IsChain kind size n qs) count d.2) one.rest)

zero_digit : IsHexDigit 48 0
zero_digit = inl (omega arith, refl)

-- bytes that begin with a sign begin as a form does
sign_begins : (kind : Kind) (bytes : List ℕ) → HasNumber16 kind → BeginsLong bytes → BeginsNone kind bytes → ⊥
sign_begins kind [] h long none = long
sign_begins kind (b ∷ bytes) h (inl minus) none =
    none (48 ∷ 48 ∷ []) (Number 0 ∷ []) (rw minus (two {m = 0} {n = 0} h zero_digit zero_digit))
sign_begins kind (b ∷ bytes) h (inr plus) none =
    none (48 ∷ 48 ∷ 48 ∷ []) (Number 0 ∷ [])
    (rw plus (three {l = 0} {m = 0} {n = 0} h zero_digit zero_digit zero_digit))

wrong_begins : (kind : Kind) (size : Size) (bytes : List ℕ) → HasWrong kind size bytes → BeginsNone kind bytes → ⊥
wrong_begins kind size [] w none = none
wrong_begins kind size (b ∷ bytes) w none = begun kind b bytes w.piece.bytes w.after w.piece.clues w.front w.form none

wrong_stands : (kind : Kind) (size : Size) (bytes : List ℕ) → HasWrong kind size bytes → HasNone kind bytes → ⊥
wrong_stands kind size bytes w none = none w.piece.bytes w.after w.piece.clues w.form w.front

-- at one place one thing is wrong
one_wrong : (kind : Kind) (size : Size) (given : ℕ) (rest : List ℕ) (place : ℕ) (a b : TextFault)
    → IsWrong kind size given rest a
    → IsWrong kind size given rest b
    → HasPlace a place → HasPlace b place → a ≡ b
one_wrong kind size given rest place (faults.After x) (faults.After y) v w p q = ap faults.After (p ∙ sym q)
one_wrong kind size given rest place (faults.After x) (faults.Cut y) v w p q = absurd (let room = w.0 in omega arith)
one_wrong kind size given rest place (faults.After x) (faults.Strange y) v w p q =
    absurd (let room = w.0 in omega arith)
one_wrong kind size given rest place (faults.After x) (faults.Range y) v w p q = absurd (let room = w.0 in omega arith)
one_wrong kind size given rest place (faults.Cut x) (faults.After y) v w p q = absurd (let room = v.0 in omega arith)
one_wrong kind size given rest place (faults.Cut x) (faults.Cut y) v w p q = ap faults.Cut (p ∙ sym q)
one_wrong kind size given rest place (faults.Cut x) (faults.Strange y) v w p q =
    absurd (sign_begins kind rest v.1 v.2 w.1)
one_wrong kind size given rest place (faults.Cut x) (faults.Range y) v w p q =
    absurd (wrong_stands kind size rest w.1 v.3)
one_wrong kind size given rest place (faults.Strange x) (faults.After y) v w p q =
    absurd (let room = v.0 in omega arith)
one_wrong kind size given rest place (faults.Strange x) (faults.Cut y) v w p q =
    absurd (sign_begins kind rest w.1 w.2 v.1)
one_wrong kind size given rest place (faults.Strange x) (faults.Strange y) v w p q = ap faults.Strange (p ∙ sym q)
one_wrong kind size given rest place (faults.Strange x) (faults.Range y) v w p q =
    absurd (wrong_begins kind size rest w.1 v.1)
one_wrong kind size given rest place (faults.Range x) (faults.After y) v w p q = absurd (let room = v.0 in omega arith)
one_wrong kind size given rest place (faults.Range x) (faults.Cut y) v w p q =
    absurd (wrong_stands kind size rest v.1 w.3)
one_wrong kind size given rest place (faults.Range x) (faults.Strange y) v w p q =
    absurd (wrong_begins kind size rest v.1 w.1)
one_wrong kind size given rest place (faults.Range x) (faults.Range y) v w p q = ap faults.Range (p ∙ sym q)
one_wrong kind size given rest place faults.Memory b v w p q = absurd v
one_wrong kind size given rest place faults.Kind b v w p q = absurd v
one_wrong kind size given rest place faults.SizeField b v w p q = absurd v
one_wrong kind size given rest place faults.SizeLimit b v w p q = absurd v
one_wrong kind size given rest place a b v w p q = absurd w

-- a body has one leftmost fault
pub one_fault : (kind : Kind) (size : Size) (body : List ℕ) (a b : TextFault)
    → FaultAt kind size body a
    → FaultAt kind size body b
    → a ≡ b
one_fault kind size body a b f g =
    elim (compare kind size 0 f.pieces g.pieces f.rest g.rest f.chain g.chain (sym f.whole ∙ g.whole)) [
      | same bytes clues rest ↦
          one_wrong kind size (length (clues_of g.pieces)) g.rest (length (bytes_of g.pieces)) a b
          (subst (λ n. IsWrong kind size n g.rest a) (ap length clues)
          (subst (λ r. IsWrong kind size (length (clues_of f.pieces)) r a) rest f.wrong)) g.wrong
          (subst (λ bs. HasPlace a (length bs)) bytes f.place) g.place
      | first_ends s ↦
          absurd (wrong_or_stands kind size (length (clues_of f.pieces)) f.rest a (rw zero-add at s) f.wrong)
      | second_ends s ↦
          absurd (wrong_or_stands kind size (length (clues_of g.pieces)) g.rest b (rw zero-add at s) g.wrong)
    ]
