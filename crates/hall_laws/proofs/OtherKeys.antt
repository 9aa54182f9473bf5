-- What decides a request is the same where people have other keys, but for what an import's list is denied by.
use Rattle.std.proofs.Common.{◌≡◌, ◌⊎◌, ◌<◌, inl, inr, ℕ, false, List, [], Option, Some, None, arith, lit<}
use Rattle.std.proofs.Common.{refl, sym, ap, ◌∙◌, subst, Contains}
use Rattle.std.specs.Option.{option_map}
use Rattle.std.specs.FinMap.{FinMap, get}
use Rattle.std.proofs.lemmas.Bool.{false≢true}
use Rattle.hall_policy.specs.Text.{text_cmp}
use Rattle.hall_policy.specs.World.{World}
use Rattle.hall_policy.specs.Actions.{number_of, rules_asked}
use Rattle.hall_policy.specs.Rules.{TheCaller, is_director, may_test, IsMissing, IsOwnPuzzle, ReadsAsTester}
use Rattle.hall_policy.specs.Rules.{TokenStands, SameContent, IsInvolved, IsAtLimit, HasConflict}
use Rattle.hall_policy.specs.First.{Sentence, SameBefore, NoneBelow, First}
use Rattle.hall_policy.specs.declared.record.Person.{Person}
use Rattle.hall_policy.specs.declared.request.Action.{Action}
use Rattle.hall_policy.specs.declared.request.Action.TheVariants as action
use Rattle.hall_policy.specs.declared.rule.Rule.{Rule}
use Rattle.hall_policy.specs.declared.rule.Rule.TheVariants as rule
use Rattle.hall_policy.specs.declared.rule.Decision.{Decision}
use Rattle.hall_policy.specs.declared.rule.Decision.TheVariants.{Allow, Repeat, Deny}
use Rattle.hall_policy.proofs.DecidingAlike.{shows_here}
use Rattle.hall_desk.proofs.Shows.{one_row}
use Rattle.hall_laws.specs.Keys.{keyless, AreSameButKeys, is_import}

-- the person with another key
abbrev pub rekeyed : List ℕ → Person → Person
rekeyed key person = record person { key = key }

-- who is the same but for the key is the same with another key
pub by_key : (caller also : Option Person) → option_map keyless caller ≡ option_map keyless also → (key : List ℕ)
    × (also ≡ option_map (rekeyed key) caller)
by_key None None same = ([], refl)
by_key None (Some q) same = let no : None ≡ Some (keyless q) = same in absurd (cc)
by_key (Some p) None same = let no : Some (keyless p) ≡ None = same in absurd (cc)
by_key (Some p) (Some q) same =
    let both : Some (keyless p) ≡ Some (keyless q) = same in
    let one : keyless p ≡ keyless q = cc in
    (q.key, ap (λ (x : Person). Some (rekeyed q.key x)) (sym one))

-- the rule reads no key: only that on lists does, of an import
abbrev pub ReadsNoKey : Rule → Action → Type 0
ReadsNoKey rule.ListConflict a = is_import a ≡ false
ReadsNoKey _ a = Unit {0}

pub reads_no_key : (a : Action) → is_import a ≡ false → (r : Rule) → ReadsNoKey r a
reads_no_key a other rule.ListConflict = other
reads_no_key a other _ = tt

tests_alike : (x : Option Person) → may_test (option_map keyless x) ≡ may_test x
tests_alike None = refl
tests_alike (Some p) = refl

module _ (world : World) (people : FinMap text_cmp Person) (alike : AreSameButKeys world.people people)
    (key : List ℕ) (t : ℕ) where
  abbrev other : World
  other = record world { people = people }

  abbrev also : Option Person → Option Person
  also caller = option_map (rekeyed key) caller

  -- whoever calls here calls there, with the other key
  calls : (c : Option Person) (P Q : Person → Type 0) → ((p : Person) → P p → Q (rekeyed key p)) → TheCaller c P
      → TheCaller (also c) Q
  calls c P Q moves (person, is, h) = (rekeyed key person, ap (option_map (rekeyed key)) is, moves person h)

  called : (c : Option Person) (P Q : Person → Type 0) → ((p : Person) → Q (rekeyed key p) → P p)
      → TheCaller (also c) Q → TheCaller c P
  called None P Q moves (person, is, h) = let no : None ≡ Some person = is in absurd (cc)
  called (Some p) P Q moves (person, is, h) =
      let one : person ≡ rekeyed key p = one_row (Some (rekeyed key p)) person (rekeyed key p) is refl in
      (p, refl, moves p (subst Q one h))

  director : (c : Option Person) → is_director (also c) ≡ is_director c
  director None = refl
  director (Some p) = refl

  reads : (c : Option Person) (a : Action) → ReadsAsTester other (also c) a → ReadsAsTester world c a
  reads c (action.ReadRound id) h = called c _ _ (λ p x. x) h
  reads c _ h = h

  missing : (c : Option Person) (a : Action) → IsMissing world c a → IsMissing other (also c) a
  missing c (action.PutPuzzle of puzzle) h = λ person at.
      let (known, here, same) = shows_here keyless keyless (get world.people of.author) (get people of.author) person
      (alike of.author) at in
      ap (λ (p : Person). p.roles.author) (sym same) ∙ h known here
  missing c (action.PutRound id sheet) (inl lacks) = inl lacks
  missing c (action.PutRound id sheet) (inr (name, among, none)) = inr (
    name,
    among,
    sym (tests_alike (get people name)) ∙ ap may_test (sym (alike name)) ∙ tests_alike (get world.people name) ∙ none,
  )
  missing None _ h = h
  missing (Some p) _ h = h

  own : (c : Option Person) (a : Action) → IsOwnPuzzle world c a → IsOwnPuzzle other (also c) a
  own c a h = ((λ r. h.0 (reads c a r)), calls c _ _ (λ p x. x) h.1)

  stands : (c : Option Person) (a : Action) → TokenStands world c a → TokenStands other (also c) a
  stands c (action.Submit id number token answer) h = calls c _ _ (λ p x. x) h
  stands c (action.Protest id token number text) h = calls c _ _ (λ p x. x) h
  stands c _ h = h

  same_there : (c : Option Person) (a : Action) → SameContent world c a → SameContent other (also c) a
  same_there c (action.Submit id number token answer) h = calls c _ _ (λ p x. x) h
  same_there c (action.Protest id token number text) h = calls c _ _ (λ p x. x) h
  same_there c _ h = h

  same_here : (c : Option Person) (a : Action) → SameContent other (also c) a → SameContent world c a
  same_here c (action.Submit id number token answer) h = called c _ _ (λ p x. x) h
  same_here c (action.Protest id token number text) h = called c _ _ (λ p x. x) h
  same_here c _ h = h

  involved : (c : Option Person) (a : Action) → IsInvolved world c a → IsInvolved other (also c) a
  involved c (action.RuleProtest id entrant token ruling) h = calls c _ _ (λ p x. x) h
  involved c _ h = h

  at_limit : (c : Option Person) (a : Action) → IsAtLimit world c a → IsAtLimit other (also c) a
  at_limit c (action.Submit id number token answer) h = calls c _ _ (λ p x. x) h
  at_limit c (action.Protest id token number text) h = calls c _ _ (λ p x. x) h
  at_limit c _ h = h

  -- what a rule forbids here it forbids there
  sentence : (r : Rule) (c : Option Person) (a : Action) → ReadsNoKey r a → Sentence r world c a t
      → Sentence r other (also c) a t
  sentence rule.UnknownKey c a unread h = ap (option_map (rekeyed key)) h
  sentence rule.NoRole c a unread h = calls c _ _ (λ p x. x) h
  sentence rule.OtherAuthor c a unread h = calls c _ _ (λ p x. x) h
  sentence rule.Missing c a unread h = missing c a h
  sentence rule.OwnPuzzle c a unread h = own c a h
  sentence rule.TokenTaken c a unread h = (stands c a h.0, (λ s. h.1 (same_here c a s)))
  sentence rule.NotStarted c a unread h = (director c ∙ h.0, (λ r. h.1 (reads c a r)), h.2)
  sentence rule.Involved c a unread h = involved c a h
  sentence rule.LimitReached c a unread h = at_limit c a h
  sentence rule.ListConflict c (action.Import list) unread h = absurd (false≢true (sym unread))
  sentence _ c _ unread h = h

  repeats : (r : Rule) (c : Option Person) (a : Action) → SameBefore r world c a → SameBefore r other (also c) a
  repeats rule.TokenTaken c a h = same_there c a h
  repeats rule.RuledOtherwise c (action.RuleProtest id entrant token ruling) h = h
  repeats _ c a h = h

-- so it is for callers who are the same but for their keys
module _ (world : World) (people : FinMap text_cmp Person) (alike : AreSameButKeys world.people people)
    (c d : Option Person) (same : option_map keyless c ≡ option_map keyless d) (a : Action) (t : ℕ) where
  abbrev there : World
  there = record world { people = people }

  pub forbids_there : (r : Rule) → ReadsNoKey r a → Sentence r world c a t → Sentence r there d a t
  forbids_there r unread h =
      let (key, is) = by_key c d same in
      subst (λ (x : Option Person). Sentence r there x a t) (sym is) (sentence world people alike key t r c a unread h)

  pub repeats_there : (r : Rule) → SameBefore r world c a → SameBefore r there d a
  repeats_there r h =
      let (key, is) = by_key c d same in
      subst (λ (x : Option Person). SameBefore r there x a) (sym is) (repeats world people alike key t r c a h)

module _ (world : World) (people : FinMap text_cmp Person) (alike : AreSameButKeys world.people people)
    (c d : Option Person) (same : option_map keyless c ≡ option_map keyless d) (a : Action) (t : ℕ) where
  abbrev beside : World
  beside = record world { people = people }

  abbrev back : AreSameButKeys people world.people
  back name = sym (alike name)

  none_there : is_import a ≡ false → (n : ℕ) → NoneBelow n world c a t → NoneBelow n beside d a t
  none_there plain n none r low = (
    (λ (among, h). (none r low).0
        (among, forbids_there beside world.people back d c (sym same) a t r (reads_no_key a plain r) h)),
    (λ (among, h). (none r low).1 (among, repeats_there beside world.people back d c (sym same) a t r h)),
  )

  -- who decides here decides there, where no rule reads a key
  pub first_there : is_import a ≡ false → (e : Decision) → First world c a t e → First beside d a t e
  first_there plain (Deny k) (r, own, (among, h), none) = (
    r,
    own,
    (among, forbids_there world people alike c d same a t r (reads_no_key a plain r) h),
    none_there plain k none,
  )
  first_there plain Repeat (r, (among, h), none) =
      (r, (among, repeats_there world people alike c d same a t r h), none_there plain (number_of r) none)
  first_there plain Allow none = none_there plain 21 none

  small : (r : Rule) → number_of r < 21
  small rule.UnknownKey = lit< tt
  small _ = lit< tt

  -- a rule of an import is the one on lists, or reads no key
  reads_key : (r : Rule) → (r ≡ rule.ListConflict) ⊎ ReadsNoKey r a
  reads_key rule.ListConflict = inl refl
  reads_key _ = inr tt

  -- what is denied here and granted there is denied by the rule on lists
  pub denied_alone : (k : ℕ) → First world c a t (Deny k) → First beside d a t Allow → k ≡ 20
  denied_alone k (r, own, (among, h), none) granted = elim (reads_key r) [
    | inl lists ↦ sym own ∙ ap number_of lists
    | inr unread ↦ absurd ((granted r (small r)).0 (among, forbids_there world people alike c d same a t r unread h))
  ]

  -- there the list conflicts with people, and here with nobody
  pub conflicts_alone : (k : ℕ) → First world c a t (Deny k) → First beside d a t Allow
      → HasConflict world a × ¬ (HasConflict beside a)
  conflicts_alone k (r, own, (among, h), none) granted = elim (reads_key r) [
    | inl lists ↦ (
      subst (λ (x : Rule). Sentence x world c a t) lists h,
      λ conflict. (granted rule.ListConflict (small rule.ListConflict)).0
          (subst (λ (x : Rule). Contains (rules_asked a) x) lists among, conflict),
    )
    | inr unread ↦ absurd ((granted r (small r)).0 (among, forbids_there world people alike c d same a t r unread h))
  ]

  -- and what is denied in both is denied there by no later rule
  pub denied_later : (k l : ℕ) → First world c a t (Deny k) → First beside d a t (Deny l) → ¬ (k < l)
  denied_later k l (r, own, (among, h), none) (s, is, denies, before) low = elim (reads_key r) [
    | inl lists ↦
        let last : number_of r ≡ 20 = ap number_of lists in
        let least : number_of s < 21 = small s in omega (arith, own, is, last, least, low)
    | inr unread ↦ (before r (omega (arith, own, low))).0
        (among, forbids_there world people alike c d same a t r unread h)
  ]
