-- The writer's loop: the forms so far, and the canonical body.
use Rattle.std.proofs.Common.{◌≡◌, ℕ, ◌+◌, ◌-◌, ◌<◌, ◌≤◌, List, [], ◌∷◌, ◌++◌, length, get_or, take, refl, sym, ap, ◌∙◌}
use Rattle.std.proofs.Common.{subst, inl, inr, arith, append_assoc, add-zero}
use Rattle.std.proofs.lemmas.Bool.{cases_lt}
use Rattle.std.proofs.lemmas.List.{append-nil, length-append, length-take-le, get_or-take, get_or_append_left}
use Rattle.std.proofs.lemmas.List.{get_or-append_right, ext_get_or}
use Rattle.hall_grid.specs.declared.board.Kind.{Kind}
use Rattle.hall_grid.specs.declared.board.Clue.{Clue}
use Rattle.hall_grid.specs.declared.board.Clue.TheVariants.{Blank}
use Rattle.hall_grid.specs.declared.form.Given.{Given}
use Rattle.hall_grid.specs.Board.{Board, IsBoard, cells}
use Rattle.hall_grid.specs.Body.{Piece, bytes_of, clues_of, IsChain, fitted}
use Rattle.hall_grid.specs.Canonical.{IsChosen, IsShortest, AreChosen}
use Rattle.hall_grid.specs.FormReading.{given_clues}
use Rattle.hall_grid.specs.Writing.{IsChoice, written, AppendsBody}
use Rattle.hall_grid.proofs.Bodies.{bytes_of-push, clues_of-push, IsChain-push}
use Rattle.hall_grid.proofs.IsChoice.{choice_form, choice_ranges, choice_shortest, choice_gives, choice_chosen}

-- the forms so far are those that the writer chooses, and give the clues of the cells so far
pub record IsWritten (board : Board) (old new : List ℕ) (cell : ℕ) : Type 0 where
  pub pieces : List Piece
  pub chain : IsChain board.kind board.size 0 pieces
  pub whole : new ≡ old ++ bytes_of pieces
  pub count : cell ≡ length (clues_of pieces)
  pub gives : (i : ℕ) → i < cell → get_or (clues_of pieces) i Blank ≡ get_or board.clues i Blank
  pub chosen : AreChosen board.kind board.clues 0 pieces

pub IsWritten-start : (board : Board) (old : List ℕ) → IsWritten board old old 0
IsWritten-start board old =
    record {
      pieces = [];
      chain = tt;
      whole = sym (append-nil old);
      count = refl;
      gives = λ i below. absurd (omega arith);
      chosen = tt;
    }

AreChosen-push : (kind : Kind) (clues : List Clue) (cell : ℕ) (pieces : List Piece) (p : Piece)
    → AreChosen kind clues cell pieces
    → IsChosen kind clues (cell + length (clues_of pieces)) p.clues
    → IsShortest kind p
    → AreChosen kind clues cell (pieces ++ p ∷ [])
AreChosen-push kind clues cell [] p before chosen shortest = (rw add-zero at chosen, shortest, tt)
AreChosen-push kind clues cell (q ∷ pieces) p before chosen shortest =
    let place : cell + length (q.clues ++ clues_of pieces) ≡ (cell + length q.clues) + length (clues_of pieces) =
    omega (arith, length-append q.clues (clues_of pieces)) in (
      before.0,
      before.1,
      AreChosen-push kind clues (cell + length q.clues) pieces p before.2
          (subst (λ n. IsChosen kind clues n p.clues) place chosen) shortest,
    )

-- the clues so far, and those of one more form
gives_more : (all so_far more : List Clue) (cell : ℕ)
    → cell ≡ length so_far
    → ((i : ℕ) → i < cell → get_or so_far i Blank ≡ get_or all i Blank)
    → ((j : ℕ) → j < length more → get_or more j Blank ≡ get_or all (cell + j) Blank)
    → (i : ℕ) → i < cell + length more → get_or (so_far ++ more) i Blank ≡ get_or all i Blank
gives_more all so_far more cell count old new i below =
    elim (cases_lt i cell) [
      | inl before ↦ get_or_append_left so_far more Blank i (omega arith) ∙ old i before
      | inr after ↦
          let place : cell + (i - cell) ≡ i = omega arith in
          get_or-append_right so_far more cell i Blank (sym count) after ∙ new (i - cell) (omega arith)
          ∙ ap (λ k. get_or all k Blank) place
    ]

-- one more form
pub IsWritten-more : (board : Board) (old new after : List ℕ) (cell : ℕ) (given : Given)
    → IsBoard board
    → IsWritten board old new cell
    → cell < cells board.size
    → IsChoice board cell given
    → after ≡ new ++ written board.kind given
    → IsWritten board old after (cell + length (given_clues given))
IsWritten-more board old new after cell given is_board so_far room choice adds =
    let piece : Piece = record { bytes = written board.kind given; clues = given_clues given } in
    let form =
    choice_form board.kind board.size board.clues cell given.clue given.blanks is_board.size is_board.ranges choice in
    let ranges = choice_ranges board.kind board.size board.clues cell given.clue given.blanks is_board.ranges choice in
    let chosen = choice_chosen board.kind board.clues cell given.clue given.blanks choice in
    let shortest =
    choice_shortest board.kind board.size board.clues cell given.clue given.blanks is_board.size is_board.ranges
    choice in
    record {
      pieces = so_far.pieces ++ piece ∷ [];
      chain =
          IsChain-push board.kind board.size 0 so_far.pieces piece so_far.chain (omega (arith, so_far.count))
          (form, ranges);
      whole =
          adds ∙ ap (λ s. s ++ piece.bytes) so_far.whole ∙ append_assoc old (bytes_of so_far.pieces) piece.bytes
          ∙ ap (λ s. old ++ s) (sym (bytes_of-push so_far.pieces piece));
      count =
          omega (
            arith,
            so_far.count,
            ap length (clues_of-push so_far.pieces piece),
            length-append (clues_of so_far.pieces) piece.clues,
          );
      gives =
          subst (λ cs. (i : ℕ) → i < cell + length (given_clues given) → get_or cs i Blank ≡ get_or board.clues i Blank)
          (sym (clues_of-push so_far.pieces piece))
          (gives_more board.clues (clues_of so_far.pieces) piece.clues cell so_far.count so_far.gives
          (choice_gives board.kind board.clues cell given.clue given.blanks choice));
      chosen = AreChosen-push board.kind board.clues 0 so_far.pieces piece so_far.chosen
          (subst (λ n. IsChosen board.kind board.clues n piece.clues)
          (let place : cell ≡ 0 + length (clues_of so_far.pieces) = omega (arith, so_far.count) in
          place) chosen) shortest;
    }

fitted_all : (n : ℕ) (clues covering : List Clue)
    → length clues ≡ n
    → n ≤ length covering
    → ((i : ℕ) → i < n → get_or covering i Blank ≡ get_or clues i Blank)
    → clues ≡ fitted n covering
fitted_all n clues covering l covers same =
    let none : n - length covering ≡ 0 = omega arith in
    let short : length (take n covering) ≡ n = length-take-le n covering covers in
    rw none (rw append-nil (ext_get_or Blank clues (take n covering) (l ∙ sym short)
    (λ i below. sym (get_or-take n covering i Blank (omega arith) ∙ same i (omega arith)))))

-- forms that cover every cell are a canonical body
pub AppendsBody-from_IsWritten : (board : Board) (old new : List ℕ) (cell : ℕ)
    → IsBoard board
    → IsWritten board old new cell
    → cells board.size ≤ cell
    → AppendsBody board old new
AppendsBody-from_IsWritten board old new cell is_board all covers =
    record {
      body = bytes_of all.pieces;
      appended = all.whole;
      canonical = record {
        pieces = all.pieces;
        chain = all.chain;
        whole = refl;
        gives =
            fitted_all (cells board.size) board.clues (clues_of all.pieces) is_board.clues (omega (arith, all.count))
            (λ i below. all.gives i (omega arith));
        covers = omega (arith, all.count);
        chosen = all.chosen;
      };
    }
