-- Released rounds: that one is found, and which have a puzzle.
use Rattle.std.proofs.Common.{◌≡◌, ◌≢◌, ◌↔◌, ℕ, zero, suc, Bool, true, false, not, ◌&&◌, List}
use Rattle.std.proofs.Common.{slice_get, Option, Some, None, Contains, inl, inr, refl, sym, ap, ◌∙◌, subst}
use Rattle.std.specs.List.{filter}
use Rattle.std.specs.FinMap.{get}
use Rattle.std.proofs.lemmas.Option.{slice_get-get_or, slice_get_within, get_or_from_slice_get}
use Rattle.hall_policy.specs.World.{World, IsRoundAt, entry_at, same_text}
use Rattle.hall_policy.specs.Actions.{finds_drafts, may, round_named}
use Rattle.hall_policy.specs.Rules.{ListsEntry, StandsReleased, RoundIsMissing, LacksRole, ReadsAsTester, IsOwnPuzzle}
use Rattle.hall_policy.specs.Rules.{is_director}
use Rattle.hall_policy.specs.declared.record.Person.{Person}
use Rattle.hall_policy.specs.declared.record.Round.{Round}
use Rattle.hall_policy.specs.declared.request.Action.{Action}
use Rattle.hall_policy.specs.declared.record.Entry.{Entry}
use Rattle.hall_policy.specs.declared.record.RoundRow.{RoundRow}
use Rattle.hall_policy.specs.declared.record.PuzzleKey.{PuzzleKey}
use Rattle.hall_store.specs.Store.{AreUsing}
use Rattle.hall_desk.specs.Lookups.{IsReleasedRound, HasFault, HasFaultyEntry}
use Rattle.hall_desk.specs.Sane.{MayTakePart}
use Rattle.hall_desk.specs.declared.release_faults.EntryFault.{EntryFault}
use Rattle.hall_policy.proofs.Texts.{text_decides}
use Rattle.hall_desk.proofs.Answering.{Contains-filter, filter-Contains}

and_false : (b : Bool) → (b && false) ≡ false
and_false true = refl
and_false false = refl

-- an action that finds no drafts, and whose round is not missing, names a released one
pub released_found : (world : World) (caller : Option Person) (asked : Action) (id : List ℕ)
    → finds_drafts asked ≡ false → ¬ (RoundIsMissing world caller asked id) → IsReleasedRound world id
released_found world caller asked id no_drafts there = elim (get world.rounds id) as
    (λ (o : Option Round). get world.rounds id ≡ o → IsReleasedRound world id) [
      | None ↦ λ gone. absurd (there (λ r at. absurd (let no : None ≡ Some r = sym gone ∙ at in cc)))
      | Some round ↦ λ kept. elim round.released as (λ b. round.released ≡ b → IsReleasedRound world id) [
        | true ↦ λ e. (round, kept, e)
        | false ↦ λ e. absurd (there (λ r at.
            let both : Some round ≡ Some r = sym kept ∙ at in
            let same : round ≡ r = cc in (
              subst (λ (x : Round). x.released ≡ false) same e,
              ap (λ b. is_director caller && b) no_drafts
                  ∙ and_false (is_director caller),
            )))
      ] refl
    ] refl

-- an entrant's action, not a tester's reading, that neither the rule on roles nor that on own puzzles forbids: its
-- caller may take part in the released round that it names
pub takes_part : (world : World) (caller : Option Person) (asked : Action) (person : Person) (id : List ℕ)
    → caller ≡ Some person → get world.people person.name ≡ Some person →
    may person.roles asked ≡ person.roles.entrant → round_named asked ≡ Some id → IsReleasedRound world id
    → ¬ (LacksRole caller asked) → ¬ (ReadsAsTester world caller asked) → ¬ (IsOwnPuzzle world caller asked) →
    MayTakePart world person.name id
takes_part world caller asked person id is there entrants named released may_ask not_reading not_own =
    let role = person.roles.entrant in
    let entrant : role ≡ true = elim role as (λ b. role ≡ b → b ≡ true) [
      | true ↦ λ e. refl
      | false ↦ λ e. absurd (may_ask (person, is, entrants ∙ e))
    ] refl in (
      person,
      there,
      entrant,
      (λ entry lists own. not_own (
        not_reading,
        (
          person,
          is,
          (entrant, inl (id, released.0, entry, named, released.1, lists, own)),
        ),
      )),
      (λ tests. not_own (not_reading, (person, is, (entrant, inr (id, released.0, named, released.1, tests))))),
    )

-- a round that has the puzzle and is released
pub released_using : (world : World) (key : PuzzleKey) (ids : List (List ℕ)) → AreUsing world key ids →
    ((id : List ℕ) × Contains ids id × IsReleasedRound world id) ↔ ((id : List ℕ) × StandsReleased world key id)
released_using world key ids using = (
  (λ h. let at = (using.whole h.0).0 h.1 in (h.0, (h.2.0, at.0, h.2.1, h.2.2, at.1, at.2))),
  (λ h. let at = h.1 in (h.0, (using.whole h.0).1 (at.1, at.4, at.5), (at.0, at.2, at.3))),
)

-- what is told of one fact is told of an equal one
pub through : {P Q R : Type 0} → (P ↔ Q) → (Q ↔ R) → P ↔ R
through first second = (λ p. second.0 (first.0 p), λ r. first.1 (second.1 r))

-- ---- what keeps a round from its release
not_true : (b : Bool) → not b ≡ true → b ≡ false
not_true true h = let no : false ≡ true = h in cc
not_true false h = refl

-- a round other than this one has the puzzle and is released
pub others_using : (world : World) (key : PuzzleKey) (id : List ℕ) (ids others : List (List ℕ)) → AreUsing world key ids
    → others ≡ filter (λ other. not (same_text other id)) ids →
    ((other : List ℕ) × Contains others other × IsReleasedRound world other)
    ↔ ((other : List ℕ) × (other ≢ id) × StandsReleased world key other)
others_using world key id ids others using left = (
  (λ h.
      let at = filter-Contains (λ other. not (same_text other id)) ids h.0 h.1.0
      (ap (λ (l : List (List ℕ)). slice_get l h.1.0) (sym left) ∙ slice_get-get_or others h.1.0 h.0 h.1.1
      ∙ ap Some h.1.2) in
      let entry = (using.whole h.0).0 (
        at.0,
        slice_get_within ids at.0 h.0 at.1,
        get_or_from_slice_get ids at.0 h.0 h.0
            at.1,
      ) in (
        h.0,
        (λ same. let no : false ≡ true = sym (not_true (same_text h.0 id) at.2)
            ∙ (text_decides h.0 id).1 same in cc),
        (h.2.0, entry.0, h.2.1, h.2.2, entry.1, entry.2),
      )),
  (λ h.
      let among = (using.whole h.0).1 (h.2.1, h.2.4, h.2.5) in
      let passes : not (same_text h.0 id) ≡ true = elim (same_text h.0 id) as (λ b. same_text h.0 id ≡ b → not b ≡ true)
      [ true ↦ λ e. absurd (h.1 ((text_decides h.0 id).0 e)) | false ↦ λ e. refl ] refl in
      let at = Contains-filter (λ other. not (same_text other id)) ids h.0 among passes in
      let shown : slice_get others at.0 ≡ Some h.0 = ap (λ (l : List (List ℕ)). slice_get l at.0) left ∙ at.1 in (
        h.0,
        (at.0, slice_get_within others at.0 h.0 shown, get_or_from_slice_get others at.0 h.0 h.0 shown),
        (h.2.0, h.2.2, h.2.3),
      )),
)

-- the entries of a round are those of its row
pub entries_listed : (world : World) (id : List ℕ) (row : RoundRow) → IsRoundAt world id row → (entry : Entry)
    → Contains row.puzzles entry ↔ ListsEntry world id entry
entries_listed world id row at entry = (
  (λ h. (suc h.0, at.list (suc h.0) ∙ slice_get-get_or row.puzzles h.0 entry h.1 ∙ ap Some h.2)),
  (λ h. listed_at h.0 (sym (at.list h.0) ∙ h.1)),
) where
  listed_at : (number : ℕ) → entry_at row.puzzles number ≡ Some entry → Contains row.puzzles entry
  listed_at zero e = let no : None ≡ Some entry = e in absurd (cc)
  listed_at (suc m) e = (m, slice_get_within row.puzzles m entry e, get_or_from_slice_get row.puzzles m entry entry e)

-- an entry of the row has the fault where one of the round has
pub faulty_listed : (fault : EntryFault) (world : World) (id : List ℕ) (row : RoundRow) → IsRoundAt world id row →
    ((entry : Entry) × Contains row.puzzles entry × HasFault fault world id entry) ↔ HasFaultyEntry fault world id
faulty_listed fault world id row at = (
  (λ h. (h.0, (entries_listed world id row at h.0).0 h.1, h.2)),
  (λ h. (h.0, (entries_listed world id row at h.0).1 h.1, h.2)),
)
