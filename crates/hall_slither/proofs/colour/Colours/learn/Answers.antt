use Rattle.std.proofs.Common.{◌≡◌, ◌∙◌, ℕ, Bool, sym, ap, subst}
use Rattle.hall_slither.specs.Colour.{turned, AreTurned}
use Rattle.hall_slither.proofs.Turned.{AreTurned-twice, AreTurned-back, unlike_itself}
use Rattle.hall_slither.proofs.colour.Colours.learn.Goals as goal

-- the roots of two cells, where it is learned whether these differ
of_roots : (colour : ℕ → Bool) (first second root other : ℕ) (differs first_differs second_differs apart : Bool)
    → AreTurned differs first second colour
    → AreTurned first_differs first root colour → AreTurned second_differs second other colour
    → apart ≡ turned second_differs (turned differs first_differs)
    → AreTurned apart root other colour
of_roots colour first second root other differs first_differs second_differs apart told one two is =
    subst (λ d. AreTurned d root other colour) (sym is)
    (AreTurned-twice (turned differs first_differs) second_differs root second other colour
    (AreTurned-twice first_differs differs root first second colour (AreTurned-back first_differs first root colour one)
    told) two)

pub returns-then-root-other-clause-contradicted : goal.returns-then-root-other-clause-contradicted
returns-then-root-other-clause-contradicted c = λ no colour obeys told.
    let found = c.in-Some-Some in
    let apart = of_roots colour c.args.first c.args.second found.root found.other c.args.differs found.first_differs
    found.second_differs c.turned-apart.result told
    (found.ensures.turned colour obeys) (found.ensures'.turned colour obeys)
    (c.turned-apart.ensures ∙ ap (turned found.second_differs) c.turned.ensures) in
    unlike_itself c.turned-apart.result found.root colour no
    (subst (λ x. AreTurned c.turned-apart.result found.root x colour) (sym c.if-root-other.true) apart)

pub returns-then-index-clause-obeyed : goal.returns-then-index-clause-obeyed
returns-then-index-clause-obeyed c = λ colour obeys told.
    let found = c.in-Some-Some in
    c.hang.ensures.obeyed colour obeys
    (of_roots colour c.args.first c.args.second found.root found.other c.args.differs found.first_differs
    found.second_differs c.turned-apart.result told
    (found.ensures.turned colour obeys) (found.ensures'.turned colour obeys)
    (c.turned-apart.ensures ∙ ap (turned found.second_differs) c.turned.ensures))

pub returns-else-index-clause-obeyed : goal.returns-else-index-clause-obeyed
returns-else-index-clause-obeyed c = λ colour obeys told.
    let found = c.in-Some-Some in
    c.hang-else-index.ensures.obeyed colour obeys
    (AreTurned-back c.turned-apart.result found.root found.other colour
    (of_roots colour c.args.first c.args.second found.root found.other c.args.differs found.first_differs
    found.second_differs c.turned-apart.result told
    (found.ensures.turned colour obeys) (found.ensures'.turned colour obeys)
    (c.turned-apart.ensures ∙ ap (turned found.second_differs) c.turned.ensures)))
