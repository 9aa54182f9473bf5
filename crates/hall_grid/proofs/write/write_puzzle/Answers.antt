use Rattle.std.proofs.lemmas.Result.{IfOk-from_err}
use Rattle.std.proofs.Common.{◌≡◌, ◌++◌, ℕ, List, ◌∙◌, ap, string_bytes}
use Rattle.hall_grid.specs.declared.board.Kind.{Kind}
use Rattle.hall_grid.specs.declared.board.Size.{Size}
use Rattle.hall_grid.specs.Board.{Board}
use Rattle.hall_grid.specs.Canonical.{CanonicalText, head_of}
use Rattle.hall_grid.specs.Writing.{AppendsBody}
use Rattle.hall_grid.proofs.CanonicalSpells.{SpellsText-from_CanonicalText}
use Rattle.hall_grid.proofs.HasOneCanonicalText.{one_canonical_text}
use Rattle.hall_grid.proofs.IsPrintableText.{IsPrintableText-from_CanonicalText}
use Rattle.hall_grid.proofs.write.write_puzzle.Goals as goal

-- the head and a canonical body
whole_text : (board : Board) (kind : Kind) (size : Size) (head text : List ℕ)
    → kind ≡ board.kind
    → size ≡ board.size
    → head ≡ head_of kind size
    → AppendsBody board head text
    → CanonicalText text board
whole_text board kind size head text same_kind same_size e adds =
    let start : head ≡ head_of board.kind board.size = rw (← same_kind, ← same_size) e in
    record { body = adds.body; canonical = adds.canonical; whole = adds.appended ∙ ap (λ s. s ++ adds.body) start }

pub returns-clause-reads_back : goal.returns-clause-reads_back
returns-clause-reads_back c =
    let head = c.in_ok-text.ensures in
    let adds = c.in_ok-push_body.ensures in
    SpellsText-from_CanonicalText _ c.args.puzzle.now c.size.ensures.board.size
    (whole_text c.args.puzzle.now _ _
    (string_bytes c.in_ok-text.text) _ c.kind.ensures.kind c.size.ensures.size head adds)

pub returns-clause-printable : goal.returns-clause-printable
returns-clause-printable c =
    let head = c.in_ok-text.ensures in
    let adds = c.in_ok-push_body.ensures in
    IsPrintableText-from_CanonicalText _ c.args.puzzle.now c.size.ensures.board.size
    (whole_text c.args.puzzle.now _ _
    (string_bytes c.in_ok-text.text) _ c.kind.ensures.kind c.size.ensures.size head adds)

pub returns-clause-only : goal.returns-clause-only
returns-clause-only c = λ other canonical.
    let head = c.in_ok-text.ensures in
    let adds = c.in_ok-push_body.ensures in
    one_canonical_text other _ c.args.puzzle.now c.size.ensures.board canonical
    (whole_text c.args.puzzle.now _ _
    (string_bytes c.in_ok-text.text) _ c.kind.ensures.kind c.size.ensures.size head adds)

pub returns-in_err-text-clause-canonical : goal.returns-in_err-text-clause-canonical
returns-in_err-text-clause-canonical c = IfOk-from_err c.from_residual.result _ c.from_residual.ensures.0

pub returns-in_err-text-clause-reads_back : goal.returns-in_err-text-clause-reads_back
returns-in_err-text-clause-reads_back c = IfOk-from_err c.from_residual.result _ c.from_residual.ensures.0

pub returns-in_err-text-clause-printable : goal.returns-in_err-text-clause-printable
returns-in_err-text-clause-printable c = IfOk-from_err c.from_residual.result _ c.from_residual.ensures.0

pub returns-in_err-text-clause-only : goal.returns-in_err-text-clause-only
returns-in_err-text-clause-only c = IfOk-from_err c.from_residual.result _ c.from_residual.ensures.0

pub returns-in_err-push_body-clause-canonical : goal.returns-in_err-push_body-clause-canonical
returns-in_err-push_body-clause-canonical c = IfOk-from_err c.from_residual-in_err-push_body.result _
    c.from_residual-in_err-push_body.ensures.0

pub returns-in_err-push_body-clause-reads_back : goal.returns-in_err-push_body-clause-reads_back
returns-in_err-push_body-clause-reads_back c = IfOk-from_err c.from_residual-in_err-push_body.result _
    c.from_residual-in_err-push_body.ensures.0

pub returns-in_err-push_body-clause-printable : goal.returns-in_err-push_body-clause-printable
returns-in_err-push_body-clause-printable c = IfOk-from_err c.from_residual-in_err-push_body.result _
    c.from_residual-in_err-push_body.ensures.0

pub returns-in_err-push_body-clause-only : goal.returns-in_err-push_body-clause-only
returns-in_err-push_body-clause-only c = IfOk-from_err c.from_residual-in_err-push_body.result _
    c.from_residual-in_err-push_body.ensures.0
