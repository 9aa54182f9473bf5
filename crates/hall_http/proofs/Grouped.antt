-- Requests that are answered in groups, one after another.
use Rattle.std.proofs.Common.{◌≡◌, ◌∙◌, ap, refl, sym, subst, inl, inr, List, [], ◌∷◌, ◌++◌, append_assoc}
use Rattle.std.proofs.lemmas.List.{append-nil}
use Rattle.hall_http.specs.Connection.{Exchange, of_groups}
use Rattle.hall_http.specs.Resting.{HasRested, IsGroup, RestingGroups, RestingSession}
use Rattle.hall_http.specs.Turns.{GroupedSession, Service}
use Rattle.hall_http.proofs.Rested.{rests_never, rests_then}

-- the requests of some groups, and of others
pub groups_append : (groups others : List (List Exchange))
    → of_groups (groups ++ others) ≡ of_groups groups ++ of_groups others
groups_append [] others = refl
groups_append (xs ∷ groups) others =
    ap (λ (ys : List Exchange). xs ++ ys) (groups_append groups others)
    ∙ sym (append_assoc xs (of_groups groups) (of_groups others))

module _ {H : Type 0} (service : Service H) where
  abbrev Groups : H → List (List Exchange) → H → Type 0
  Groups = RestingGroups (IsGroup service.answers service.joins) service.rests

  pub grouped_rest : (h i : H) → HasRested service.rests h i → GroupedSession service h [] i
  grouped_rest h i rested = ([], refl, rested)

  pub grouped_none : (h : H) → GroupedSession service h [] h
  grouped_none h = grouped_rest h h (rests_never service.rests h)

  -- some that are answered together are one group
  pub grouped_joined : (h : H) (xs : List Exchange) (i : H) → service.joins h xs i → GroupedSession service h xs i
  grouped_joined h xs i says = (
    xs ∷ [],
    append-nil xs,
    (h, i, rests_never service.rests h, inr says, rests_never service.rests i),
  )

  groups_after : (h m : H) (groups : List (List Exchange)) (i : H) → HasRested service.rests h m
      → Groups m groups i → Groups h groups i
  groups_after h m [] i rested later = rests_then service.rests h m i rested later
  groups_after h m (xs ∷ groups) i rested (read, after, between, says, rest) =
      (read, after, rests_then service.rests h m read rested between, says, rest)

  groups_then : (h : H) (groups others : List (List Exchange)) (m i : H) → Groups h groups m → Groups m others i
      → Groups h (groups ++ others) i
  groups_then h [] others m i rested later = groups_after h m others i rested later
  groups_then h (xs ∷ groups) others m i (read, after, rested, says, rest) later =
      (read, after, rested, says, groups_then after groups others m i rest later)

  pub grouped_then : (xs ys : List Exchange) (h m i : H) → GroupedSession service h xs m
      → GroupedSession service m ys i → GroupedSession service h (xs ++ ys) i
  grouped_then xs ys h m i (groups, first, one) (others, second, two) = (
    groups ++ others,
    groups_append groups others ∙ ap (λ (zs : List Exchange). zs ++ of_groups others) first
        ∙ ap (λ (zs : List Exchange). xs ++ zs) second,
    groups_then h groups others m i one two,
  )

  groups_rested : (h : H) (groups : List (List Exchange)) (m i : H) → Groups h groups m → HasRested service.rests m i
      → Groups h groups i
  groups_rested h [] m i rested last = rests_then service.rests h m i rested last
  groups_rested h (xs ∷ groups) m i (read, after, rested, says, rest) last =
      (read, after, rested, says, groups_rested after groups m i rest last)

  -- and it rested after them
  pub grouped_last : (h : H) (xs : List Exchange) (m i : H) → GroupedSession service h xs m
      → HasRested service.rests m i → GroupedSession service h xs i
  grouped_last h xs m i (groups, is, one) last = (groups, is, groups_rested h groups m i one last)

  -- each that is answered alone is a group of its own
  pub grouped_alone : (xs : List Exchange) (h i : H) → RestingSession service.answers service.rests h xs i
      → GroupedSession service h xs i
  grouped_alone [] h i (m, same, rested) =
      ([], refl, subst (λ (m : H). HasRested service.rests m i) same rested)
  grouped_alone (x ∷ xs) h i (m, (after, (read, rested, says), more), last) =
      let (groups, is, rest) = grouped_alone xs after i (m, more, last) in (
        (x ∷ []) ∷ groups,
        ap (λ (ys : List Exchange). x ∷ ys) is,
        (read, after, rested, inl (x, refl, says), rest),
      )
