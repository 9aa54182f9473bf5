-- What bytes ask for is one thing.
use Rattle.std.proofs.Common.{◌≡◌, ◌∙◌, sym, ap, subst, ℕ, inl, inr, Bool, true, false, List, Option, Some}
use Rattle.std.specs.Prelude.{Result, Ok, Err}
use Rattle.httparse.specs.Grammar.{RequestHead}
use Rattle.hall_grid.proofs.SpellsOnePuzzle.{one_puzzle, no_text_fault, one_text_fault}
use Rattle.hall_policy.specs.declared.record.PuzzleKey.{PuzzleKey}
use Rattle.hall_policy.specs.declared.request.Action.{Action}
use Rattle.hall_policy.specs.declared.request.Action.TheVariants as action
use Rattle.hall_policy.specs.declared.request.Request.{Request}
use Rattle.hall_http.specs.declared.form.FormFault.{FormFault}
use Rattle.hall_http.specs.declared.form.FormFault.TheVariants as fault
use Rattle.hall_http.specs.declared.routes.Resource.{Resource}
use Rattle.hall_http.specs.declared.routes.Resource.TheVariants as resource
use Rattle.hall_http.specs.Head.{shown_key}
use Rattle.hall_http.specs.Routes.{Parts, resource_in}
use Rattle.hall_http.specs.Request.{puzzle_fault, PutOf, PutFrom, PuzzleAt, ActionAt, ActionFrom, asked_by, AsksBy}
use Rattle.hall_http.specs.Request.{AskedOf, RequestOf}
use Rattle.hall_http.proofs.Once.{one_request}

put_once : (key : PuzzleKey) (text : List ℕ) (a b : Result Action FormFault) → PutOf key text a → PutOf key text b
    → a ≡ b
put_once key text (Ok a) (Ok b) (x, s, e) (y, t, f) =
    ap (λ z. Ok z) (e ∙ ap (λ board. action.PutPuzzle key board) (one_puzzle text x y s t) ∙ sym f)
put_once key text (Ok a) (Err b) (x, s, e) (first, told, f, is, g) = absurd (no_text_fault text x first s f)
put_once key text (Err a) (Ok b) (first, told, f, is, g) (x, s, e) = absurd (no_text_fault text x first s f)
put_once key text (Err a) (Err b) (first, told, f, is, g) (second, tell, h, it, k) =
    let same : Some told ≡ Some tell = sym is ∙ ap puzzle_fault (one_text_fault text first second f h) ∙ it in
    let faults : told ≡ tell = cc in ap (λ z. Err z) (g ∙ ap (λ p. fault.Puzzle p) faults ∙ sym k)

put_from_once : (put : Result (PuzzleKey × List ℕ) FormFault) (a b : Result Action FormFault) → PutFrom put a
    → PutFrom put b → a ≡ b
put_from_once (Err f) a b e g = e ∙ sym g
put_from_once (Ok put) a b e g = put_once put.0 put.1 a b e g

puzzle_once : (puts : Bool) (method : List ℕ) (p : Parts) (body : List ℕ) (a b : Result Action FormFault)
    → PuzzleAt puts method p body a → PuzzleAt puts method p body b → a ≡ b
puzzle_once true method p body a b e g = put_from_once _ a b e g
puzzle_once false method p body a b e g = e ∙ sym g

action_once : (method : List ℕ) (at : Resource) (p : Parts) (body : List ℕ) (a b : Result Action FormFault)
    → ActionAt method at p body a → ActionAt method at p body b → a ≡ b
action_once method resource.Puzzle p body a b e g = puzzle_once _ method p body a b e g
action_once method _ p body a b e g = e ∙ sym g

found_once : (method : List ℕ) (found : Result (Resource × Parts) FormFault) (body : List ℕ)
    (a b : Result Action FormFault)
    → ActionFrom method found body a → ActionFrom method found body b → a ≡ b
found_once method (Err f) body a b e g = e ∙ sym g
found_once method (Ok at) body a b e g = action_once method at.0 at.1 body a b e g

asks_once : (shown : Option (List ℕ)) (method path body : List ℕ) (a b : Result Request FormFault)
    → AsksBy shown method path body a → AsksBy shown method path body b → a ≡ b
asks_once shown method path body a b (x, of, e) (y, on, g) =
    e ∙ ap (λ z. asked_by shown z) (found_once method (resource_in path) body x y of on) ∙ sym g

asked_once : (head : RequestHead) (body : List ℕ) (a b : Result Request FormFault) → AskedOf head body a
    → AskedOf head body b → a ≡ b
asked_once head body a b e g = asks_once (shown_key head) head.method head.target body a b e g

pub one_asked : (bytes : List ℕ) (a b : Result Request FormFault) → RequestOf bytes a → RequestOf bytes b → a ≡ b
one_asked bytes a b (inl (none, e)) (inl (nil, g)) = e ∙ sym g
one_asked bytes a b (inl (none, e)) (inr (head, body, is, asked)) = absurd (none (head, body, is))
one_asked bytes a b (inr (head, body, is, asked)) (inl (none, e)) = absurd (none (head, body, is))
one_asked bytes a b (inr (head, body, is, asked)) (inr (other, more, it, ask)) =
    let (heads, bodies) = one_request bytes head other body more is it in
    let moved = subst (λ (t : List ℕ). AskedOf head t a) bodies asked in
    asked_once other more a b (subst (λ (h : RequestHead). AskedOf h more a) heads moved) ask
