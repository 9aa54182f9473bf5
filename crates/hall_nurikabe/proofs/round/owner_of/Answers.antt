use Rattle.std.proofs.Common.{◌≡◌, true, false, Some, None, get_or, sym, ◌∙◌, subst, inl, inr, arith}
use Rattle.std.specs.Prelude.{Contains}
use Rattle.std.proofs.lemmas.Bool.{cases_eq}
use Rattle.std.proofs.lemmas.List.{get_or_default}
use Rattle.std.proofs.lemmas.List.Elements.{Contains-get_or}
use Rattle.hall_grid.specs.Nurikabe.{IsNumbered}
use Rattle.hall_nurikabe.proofs.Marks.{numbered_clue}
use Rattle.hall_nurikabe.proofs.round.owner_of.Goals as goal
use Rattle.hall_nurikabe.proofs.round.owner_of.Goals.{then-is_number+in_default-2, then-is_number+in_default}
use Rattle.hall_nurikabe.proofs.round.owner_of.Goals.{else-is_number}

pub clue-requires : goal.clue-requires
clue-requires c =
    let list = c.args.members.now in
    c.requires (get_or list c.loop-member.member-index 0) (Contains-get_or list c.loop-member.member-index 0
    (omega arith))

pub returns-in-Some : goal.returns-in-Some
returns-in-Some c =
    let list = c.args.members.now in
    let cell = get_or list c.loop-member.member-index 0 in
    let other = c.loop-member.invariant.owner c.in-Some.other c.in-Some.is in (
      c.in-Some.other,
      cell,
      (λ e. c.if-other-cell.true e),
      other.0,
      Contains-get_or list c.loop-member.member-index 0 (omega arith),
      other.1,
      (numbered_clue c.args.puzzle.now cell c.clue.result c.clue.ensures).0 (c.is_number.ensures.0 c.if-is_number.true),
    )

pub loop-member-preserved : goal.loop-member-preserved
loop-member-preserved c =
    let board = c.args.puzzle.now in
    let list = c.args.members.now in
    let cell = get_or list c.loop-member.member-index 0 in
    let clue = numbered_clue board cell c.clue.result c.clue.ensures in
    let listed : Contains list cell = Contains-get_or list c.loop-member.member-index 0 (omega arith) in
    elim c.if-is_number.branch [
      | then-is_number+in_default-2 w ↦
          rw w.owner-is (record {
            nobody = λ e i h n. (let clash : Some cell ≡ None = e in absurd (cc));
            owner = λ x e.
                let both : Some cell ≡ Some x = e in
                let same : cell ≡ x = cc in
                subst (λ y. Contains list y × IsNumbered board y) same
                (listed, clue.0 (c.is_number.ensures.0 w.if-is_number.true));
          })
      | then-is_number+in_default w ↦
          rw w.owner-is (record {
            nobody = λ e i h n. (let clash : Some cell ≡ None = e in absurd (cc));
            owner = λ x e.
                let both : Some cell ≡ Some x = e in
                let same : cell ≡ x = cc in
                subst (λ y. Contains list y × IsNumbered board y) same
                (listed, clue.0 (c.is_number.ensures.0 w.if-is_number.true));
          })
      | else-is_number w ↦
          rw w.owner-is (record {
            nobody = λ e i h n. elim (cases_eq i c.loop-member.member-index) [
              | inl same ↦
                  let here : IsNumbered board cell = subst (λ k. IsNumbered board (get_or list k 0)) same n in
                  let yes : c.is_number.result ≡ true = c.is_number.ensures.1 (clue.1 here) in
                  let no : c.is_number.result ≡ false = w.if-is_number.false in
                  absurd (cc)
              | inr ne ↦ c.loop-member.invariant.nobody e i (omega arith) n
            ];
            owner = c.loop-member.invariant.owner;
          })
    ]

pub returns-in-None : goal.returns-in-None
returns-in-None c = λ cell h numbered.
    let list = c.args.members.now in
    let low = h.1 in
    let is : get_or list h.0 0 ≡ cell = get_or_default list h.0 0 cell low ∙ h.2 in
    c.loop-member.invariant.nobody c.in-None.is h.0 (omega arith)
    (subst (λ y. IsNumbered c.args.puzzle.now y) (sym is) numbered)

pub returns-in-Some-owner : goal.returns-in-Some-owner
returns-in-Some-owner c = c.loop-member.invariant.owner c.in-Some-owner.cell c.in-Some-owner.is
