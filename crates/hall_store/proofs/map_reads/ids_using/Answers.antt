use Rattle.std.proofs.Common.{◌≡◌, ◌++◌, ◌∷◌, [], ℕ, List, true, false, cond, map, ap, sym, ◌∙◌, append_assoc, rules}
use Rattle.std.specs.List.{filter, take_while}
use Rattle.std.specs.BTreeMap.Range.{entries_between}
use Rattle.std.specs.declared.ops.Bound.TheVariants.{Included, Unbounded}
use Rattle.std.proofs.lemmas.List.{append-nil}
use Rattle.hall_policy.specs.declared.record.PuzzleKey.{PuzzleKey}
use Rattle.hall_policy.specs.declared.record.RoundRow.{RoundRow}
use Rattle.hall_store.specs.Keyed.{is_use_of, is_use_true, use_cmp}
use Rattle.hall_store.specs.declared.slot.UseKey.{UseKey}
use Rattle.hall_store.proofs.Firsts.{uses_together}
use Rattle.hall_store.proofs.Ranges.{taken, left}
use Rattle.hall_store.proofs.map_reads.ids_using.Goals as goal
use Rattle.hall_store.proofs.map_reads.ids_using.Goals.{in-None, in-Some+then-not-is_use_of}

-- the ids of the true uses
abbrev ids_of : List (List ℕ × RoundRow) → PuzzleKey → List (UseKey × Unit {0}) → List (List ℕ)
ids_of rounds key uses = map (λ (u : UseKey × Unit {0}). u.0.round) (filter (is_use_true rounds key) uses)

-- those at the head of the uses
abbrev ahead : List (List ℕ × RoundRow) → PuzzleKey → List (UseKey × Unit {0}) → List (List ℕ)
ahead rounds key uses = ids_of rounds key (take_while (λ u. is_use_of key u.0) uses)

one_more : (rounds : List (List ℕ × RoundRow)) (key : PuzzleKey) (used : UseKey × Unit {0})
    (uses : List (UseKey × Unit {0})) → is_use_of key used.0 ≡ true →
    ahead rounds key (used ∷ uses) ≡ cond (is_use_true rounds key used) (used.0.round ∷ []) [] ++ ahead rounds key uses
one_more rounds key used uses here =
    ap (ids_of rounds key) (taken (λ (u : UseKey × Unit {0}). is_use_of key u.0) used uses here)
    ∙ elim (is_use_true rounds key used) as (λ t. map (λ (u : UseKey × Unit {0}). u.0.round)
    (cond t (used ∷ filter (is_use_true rounds key) (take_while (λ u. is_use_of key u.0) uses))
    (filter (is_use_true rounds key) (take_while (λ u. is_use_of key u.0) uses)))
    ≡ cond t (used.0.round ∷ []) [] ++ ahead rounds key uses)
    [ true ↦ (λ i. used.0.round ∷ ahead rounds key uses) | false ↦ (λ i. ahead rounds key uses) ]

ended : {all : List (List ℕ)} (ids : List (List ℕ)) → all ≡ ids ++ [] → ids ≡ all
ended ids e = sym (e ∙ append-nil ids)

pub loop-used-init : goal.loop-used-init
loop-used-init c =
    let rounds : List (List ℕ × RoundRow) = c.args.rounds.now.entries in
    let uses : List (UseKey × Unit {0}) = c.args.uses.now.entries in
    let key : PuzzleKey = c.args.key.now in
    let iterator : List (UseKey × Unit {0}) = c.into_iter-used-iterator.result in
    let given : iterator ≡ entries_between use_cmp (Included c.args.first.now) Unbounded uses =
    c.into_iter-used-iterator.ensures.into_iter_gives ∙ c.range-used-items.ensures.between tt in
    let from = given ∙ ap (λ (k : UseKey). entries_between use_cmp (Included k) Unbounded uses) c.requires.first in
    ap (ids_of rounds key) (uses_together key uses c.range-used-items.ensures.ordered c.requires.kept)
    ∙ ap (ahead rounds key) (sym from)
    ∙ ap (λ (ids : List (List ℕ)). ids ++ ahead rounds key iterator) (sym c.new-ids.ensures.items)

pub loop-used-preserved : goal.loop-used-preserved
loop-used-preserved c =
    let rounds : List (List ℕ × RoundRow) = c.args.rounds.now.entries in
    let key : PuzzleKey = c.args.key.now in
    let old : List (List ℕ) = c.loop-used.ids.items in
    let used : UseKey × Unit {0} = (c.in-Some.used.now, c.in-Some.field-0-1.now) in
    let rest : List (List ℕ) = ahead rounds key c.next.new.self in
    let here : is_use_of key used.0 ≡ true = search rules in
    c.loop-used.invariant ∙ ap (λ (ids : List (List ℕ)). old ++ ids)
    (ap (ahead rounds key) c.in-Some.ensures.steps ∙ one_more rounds key used c.next.new.self here)
    ∙ sym (append_assoc old (cond (is_use_true rounds key used) (used.0.round ∷ []) []) rest)
    ∙ ap (λ (ids : List (List ℕ)). ids ++ rest) (sym c.in_ok-push_user.ensures)

pub returns-clause-ids : goal.returns-clause-ids
returns-clause-ids c =
    let rounds : List (List ℕ × RoundRow) = c.args.rounds.now.entries in
    let key : PuzzleKey = c.args.key.now in
    let old : List (List ℕ) = c.loop-used.ids.items in
    elim c.match-next.branch [
      | in-None w ↦ ended old (c.loop-used.invariant ∙ ap (λ (es : List (UseKey × Unit {0})). old
          ++ ahead rounds key es) w.in-None.ensures.steps.0)
      | in-Some+then-not-is_use_of w ↦
          let used : UseKey × Unit {0} = (w.in-Some.used.now, w.in-Some.field-0-1.now) in
          let fails : is_use_of key used.0 ≡ false = search rules in
          ended old (c.loop-used.invariant
          ∙ ap (λ (es : List (UseKey × Unit {0})). old ++ ids_of rounds key es)
          (ap (take_while (λ (u : UseKey × Unit {0}). is_use_of key u.0)) w.in-Some.ensures.steps
          ∙ left (λ (u : UseKey × Unit {0}). is_use_of key u.0) used c.next.new.self fails))
    ]
