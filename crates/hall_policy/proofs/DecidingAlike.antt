-- A request is decided alike where the caller's own answers and protests, and what else its rules read, are alike.
use Rattle.std.proofs.Common.{◌≡◌, ◌≢◌, ◌↔◌, ◌==◌, ◌&&◌, ◌≤◌, ◌⊎◌, inl, inr, ℕ, Bool, List, Option, Some, None, refl}
use Rattle.std.proofs.Common.{sym, ap, ◌∙◌, subst}
use Rattle.std.specs.List.{AllByRecursion}
use Rattle.std.specs.Option.{option_map}
use Rattle.std.specs.FinMap.{FinMap, get}
use Rattle.hall_policy.specs.Limits.{most_answers, most_protests}
use Rattle.hall_policy.specs.World.{World, puzzle_cmp, answer_cmp, protest_cmp, answer_of, protest_of, same_text}
use Rattle.hall_policy.specs.Ranges.{IsWorld}
use Rattle.hall_policy.specs.Actions.{rules_asked}
use Rattle.hall_policy.specs.Rules.{TheCaller, TokenStands, SameContent, RoundIsMissing, IsInvolved, answers_given}
use Rattle.hall_policy.specs.Rules.{protests_made}
use Rattle.hall_policy.specs.First.{First, Sentence}
use Rattle.hall_policy.specs.declared.record.Person.{Person}
use Rattle.hall_policy.specs.declared.record.PuzzleKey.{PuzzleKey}
use Rattle.hall_policy.specs.declared.record.PuzzleRow.{PuzzleRow}
use Rattle.hall_policy.specs.declared.request.Sheet.{Sheet}
use Rattle.hall_grid.specs.Board.{Board}
use Rattle.hall_policy.specs.declared.record.AnswerKey.{AnswerKey}
use Rattle.hall_policy.specs.declared.record.AnswerRow.{AnswerRow}
use Rattle.hall_policy.specs.declared.record.ProtestKey.{ProtestKey}
use Rattle.hall_policy.specs.declared.record.ProtestRow.{ProtestRow}
use Rattle.hall_policy.specs.declared.record.Ruling.{Ruling}
use Rattle.hall_policy.specs.declared.request.Action.{Action}
use Rattle.hall_policy.specs.declared.request.Action.TheVariants as action
use Rattle.hall_policy.specs.declared.rule.Rule.TheVariants as rule
use Rattle.hall_policy.specs.declared.rule.Decision.{Decision}
use Rattle.hall_policy.proofs.Orders.{answer_total, same_answer_keys, protest_total, same_protest_keys}
use Rattle.hall_policy.specs.OwnAlike.{seen, as_is, exchanged, OwnAlike}
use Rattle.hall_policy.proofs.Texts.{text_decides, and_first}
use Rattle.hall_policy.proofs.Deciding.{SaysSame, decided_alike}
use Rattle.hall_policy.proofs.Viewed.{counted_alike}

-- what shows as a row does is a row
pub shows_there : {X Y : Type 0} (view late : X → Y) (found other : Option X) (row : X)
    → option_map view found ≡ option_map late other → found ≡ Some row → (x : X) × (other ≡ Some x)
    × (view row ≡ late x)
shows_there view late found None row alike at = let no : Some (view row) ≡ None = ap (option_map view) (sym at)
    ∙ alike in absurd (cc)
shows_there view late found (Some x) row alike at = let both : Some (view row) ≡ Some (late x) = ap (option_map view)
    (sym at) ∙ alike in (x, refl, cc)

pub shows_here : {X Y : Type 0} (view late : X → Y) (found other : Option X) (x : X)
    → option_map view found ≡ option_map late other → other ≡ Some x → (row : X) × (found ≡ Some row)
    × (view row ≡ late x)
shows_here view late None other x alike at = let no : None ≡ Some (late x) = alike
    ∙ ap (option_map late) at in absurd (cc)
shows_here view late (Some row) other x alike at = let both : Some (view row) ≡ Some (late x) = alike
    ∙ ap (option_map late) at in (row, refl, cc)

-- one caller
pub one_caller : (caller : Option Person) (a b : Person) → caller ≡ Some a → caller ≡ Some b → b ≡ a
one_caller caller a b p q = let both : Some b ≡ Some a = sym q ∙ p in cc

module _ (ex : List ℕ → List ℕ → List ℕ) (hidden : List ℕ → Bool)
    (apart : (id a b : List ℕ) → ex id a ≡ ex id b → a ≡ b)
    (world : World) (puzzles : FinMap puzzle_cmp PuzzleRow) (answers : FinMap answer_cmp AnswerRow)
    (protests : FinMap protest_cmp ProtestRow)
    (typed : IsWorld world) (retyped : IsWorld (record world
    { puzzles = puzzles; answers = answers; protests = protests })) where
  abbrev pub other : World
  other = record world { puzzles = puzzles; answers = answers; protests = protests }

  module _ (person : Person) (own : OwnAlike ex hidden person world other) where
    abbrev pub own_key : List ℕ → ℕ → List ℕ → AnswerKey
    own_key id number token = record { entrant = person.name; round = id; number = number; token = token }

    pub answer_there : (id : List ℕ) (number : ℕ) (token : List ℕ) (row : AnswerRow)
        → answer_of world person.name id number token ≡ Some row →
        (x : AnswerRow) × (answer_of other person.name id number token ≡ Some x)
        × (seen ex hidden row ≡ seen as_is hidden x)
    answer_there id number token row at = shows_there (seen ex hidden) (seen as_is hidden)
        (get world.answers (own_key id number token)) (get answers (own_key id number token)) row
        (own.answers (own_key id number token) refl) at

    pub answer_here : (id : List ℕ) (number : ℕ) (token : List ℕ) (x : AnswerRow)
        → answer_of other person.name id number token ≡ Some x →
        (row : AnswerRow) × (answer_of world person.name id number token ≡ Some row)
        × (seen ex hidden row ≡ seen as_is hidden x)
    answer_here id number token x at = shows_here (seen ex hidden) (seen as_is hidden)
        (get world.answers (own_key id number token)) (get answers (own_key id number token)) x
        (own.answers (own_key id number token) refl) at

    -- the text of an answer that shows alike
    pub text_there : (id : List ℕ) (number : ℕ) (token : List ℕ) (row x : AnswerRow)
        → answer_of world person.name id number token ≡ Some row → seen ex hidden row ≡ seen as_is hidden x
        → ex id row.answer ≡ x.answer
    text_there id number token row x at alike =
        ap (λ (key : AnswerKey). ex key.round row.answer) (sym (typed.answers (own_key id number token) row at))
        ∙ ap (λ (r : AnswerRow). r.answer) alike

    abbrev is_given : List ℕ → ℕ → AnswerKey → Bool
    is_given id number key = same_text key.entrant person.name && (same_text key.round id && (key.number == number))

    abbrev counts : List ℕ → ℕ → AnswerRow → Bool
    counts id number row = is_given id number row.key

    pub given_alike : (id : List ℕ) (number : ℕ) → answers_given world person.name id number ≡ answers_given other
        person.name id number
    given_alike id number =
        counted_alike answer_total same_answer_keys (is_given id number) (seen ex hidden) (seen as_is hidden)
        (counts id number) world.answers answers
        (λ key row at. ap (is_given id number) (typed.answers key row at))
        (λ key row at. ap (is_given id number) (retyped.answers key row at))
        (λ key passes. own.answers key ((text_decides key.entrant person.name).0 (and_first _ _ passes)))

    abbrev is_made : List ℕ → ProtestKey → Bool
    is_made id key = same_text key.entrant person.name && same_text key.round id

    pub made_alike : (id : List ℕ) → protests_made world person.name id ≡ protests_made other person.name id
    made_alike id =
        counted_alike protest_total same_protest_keys (is_made id) (λ row. row) (λ row. row) (λ row. is_made id row.key)
        world.protests protests
        (λ key row at. ap (is_made id) (typed.protests key row at))
        (λ key row at. ap (is_made id) (retyped.protests key row at))
        (λ key passes. ap (option_map (λ row. row)) (own.protests key
        ((text_decides key.entrant person.name).0 (and_first _ _ passes))))

  -- what the rules of an action read beside the people, the rounds, their lists, and the caller's own
  abbrev pub Needs : Action → Type 0
  Needs (action.PutPuzzle key puzzle) = world.puzzles ≡ puzzles
  Needs (action.ReadPuzzle key) = world.puzzles ≡ puzzles
  Needs (action.Certify key budget) = world.puzzles ≡ puzzles
  Needs (action.PutRound id sheet) = world.puzzles ≡ puzzles
  Needs (action.Release id) = world.puzzles ≡ puzzles
  Needs (action.RuleProtest id entrant token ruling) = protest_of world entrant id token ≡ protest_of other entrant id
      token
  Needs (action.Publish id) = world.protests ≡ protests
  Needs _ = Unit {0}

  module _ (caller : Option Person) (own : (person : Person) → caller ≡ Some person
      → OwnAlike ex hidden person world other) (t : ℕ) where
    moved : {X : Type 0} (F : X → Type 0) (a b : X) → a ≡ b → F a ↔ F b
    moved F a b e = ((λ h. subst F e h), (λ h. subst F (sym e) h))

    submit_stands : (id : List ℕ) (number : ℕ) (token answer : List ℕ) →
        TokenStands world caller (action.Submit id number token answer)
        ↔ TokenStands other caller (action.Submit id number token (ex id answer))
    submit_stands id number token answer = (
      (λ (person, is, (row, at)). let x = answer_there person (own person is) id number token row at in
          (person, is, (x.0, x.1))),
      (λ (person, is, (x, at)). let row = answer_here person (own person is) id number token x at in
          (person, is, (row.0, row.1))),
    )

    submit_same : (id : List ℕ) (number : ℕ) (token answer : List ℕ) →
        SameContent world caller (action.Submit id number token answer)
        ↔ SameContent other caller (action.Submit id number token (ex id answer))
    submit_same id number token answer = (
      (λ (person, is, (row, at, same)).
          let x = answer_there person (own person is) id number token row at in (
            person,
            is,
            (
              x.0,
              x.1,
              sym (text_there person (own person is) id number token row x.0 at x.2)
                  ∙ ap (ex id) same,
            ),
          )),
      (λ (person, is, (x, at, same)).
          let row = answer_here person (own person is) id number token x at in (
            person,
            is,
            (
              row.0,
              row.1,
              apart id row.0.answer answer
                  (text_there person (own person is) id number token row.0 x row.1 row.2 ∙ same),
            ),
          )),
    )

    own_protest : (person : Person) → caller ≡ Some person → (id token : List ℕ)
        → protest_of world person.name id token ≡ protest_of other person.name id token
    own_protest person is id token = (own person is).protests
        (record { entrant = person.name; round = id; token = token }) refl

    protest_stands : (id token : List ℕ) (number : ℕ) (text : List ℕ) →
        TokenStands world caller (action.Protest id token number text)
        ↔ TokenStands other caller (action.Protest id token number text)
    protest_stands id token number text = (
      (λ (person, is, (row, at)). (person, is, (row, sym (own_protest person is id token) ∙ at))),
      (λ (person, is, (row, at)). (person, is, (row, own_protest person is id token ∙ at))),
    )

    protest_same : (id token : List ℕ) (number : ℕ) (text : List ℕ) →
        SameContent world caller (action.Protest id token number text)
        ↔ SameContent other caller (action.Protest id token number text)
    protest_same id token number text = (
      (λ (person, is, (row, at, n, words)). (person, is, (row, sym (own_protest person is id token) ∙ at, n, words))),
      (λ (person, is, (row, at, n, words)). (person, is, (row, own_protest person is id token ∙ at, n, words))),
    )

    both_not : {P Q R S : Type 0} → (P ↔ Q) → (R ↔ S) → (P × ¬ R) ↔ (Q × ¬ S)
    both_not f g = ((λ h. (f.0 h.0, λ s. h.1 (g.1 s))), (λ h. (f.1 h.0, λ r. h.1 (g.0 r))))

    few_answers : (id : List ℕ) (number : ℕ) →
        TheCaller caller (λ person. most_answers ≤ answers_given world person.name id number)
        ↔ TheCaller caller (λ person. most_answers ≤ answers_given other person.name id number)
    few_answers id number = (
      (λ (person, is, many). (
        person,
        is,
        subst (λ n. most_answers ≤ n) (given_alike person (own person is) id number)
            many,
      )),
      (λ (person, is, many). (
        person,
        is,
        subst (λ n. most_answers ≤ n)
            (sym (given_alike person (own person is) id number)) many,
      )),
    )

    few_protests : (id : List ℕ) →
        TheCaller caller (λ person. most_protests ≤ protests_made world person.name id)
        ↔ TheCaller caller (λ person. most_protests ≤ protests_made other person.name id)
    few_protests id = (
      (λ (person, is, many). (person, is, subst (λ n. most_protests ≤ n) (made_alike person (own person is) id) many)),
      (λ (person, is, many). (
        person,
        is,
        subst (λ n. most_protests ≤ n) (sym (made_alike person (own person is) id))
            many,
      )),
    )

    involved : (id entrant token : List ℕ) (ruling : Ruling) →
        IsInvolved world caller (action.RuleProtest id entrant token ruling)
        ↔ IsInvolved other caller (action.RuleProtest id entrant token ruling)
    involved id entrant token ruling = (
      (λ (person, is, h). (
        person,
        is,
        elim h [
          | inl (number, used, row, at) ↦ let x = answer_there person (own person is) id number used row at in inl
              (number, used, x.0, x.1)
          | inr self ↦ inr self
        ],
      )),
      (λ (person, is, h). (
        person,
        is,
        elim h [
          | inl (number, used, x, at) ↦ let row = answer_here person (own person is) id number used x at in inl
              (number, used, row.0, row.1)
          | inr self ↦ inr self
        ],
      )),
    )

    abbrev Says : Action → Type 0
    Says a = AllByRecursion (λ r. SaysSame r world other caller a (exchanged ex a) t) (rules_asked a)

    says_import : (people : List Person) → Needs (action.Import people) → Says (action.Import people)
    says_import people needs = (
      record { forbids = ((λ h. h), (λ h. h)); repeats = ((λ h. h), (λ h. h)) },
      (
        record { forbids = ((λ h. h), (λ h. h)); repeats = ((λ h. h), (λ h. h)) },
        (record { forbids = ((λ h. h), (λ h. h)); repeats = ((λ h. h), (λ h. h)) }, tt),
      ),
    )

    says_putpuzzle : (key : PuzzleKey) (puzzle : Board) → Needs (action.PutPuzzle key puzzle)
        → Says (action.PutPuzzle key puzzle)
    says_putpuzzle key puzzle needs = (
      record { forbids = ((λ h. h), (λ h. h)); repeats = ((λ h. h), (λ h. h)) },
      (
        record { forbids = ((λ h. h), (λ h. h)); repeats = ((λ h. h), (λ h. h)) },
        (
          record { forbids = ((λ h. h), (λ h. h)); repeats = ((λ h. h), (λ h. h)) },
          (
            record { forbids = ((λ h. h), (λ h. h)); repeats = ((λ h. h), (λ h. h)) },
            (
              record { forbids = ((λ h. h), (λ h. h)); repeats = ((λ h. h), (λ h. h)) },
              (
                record {
                  forbids = moved (λ (X : FinMap puzzle_cmp PuzzleRow). Sentence rule.LimitReached
                      (record world { puzzles = X }) caller (action.PutPuzzle key puzzle) t) world.puzzles puzzles
                      needs;
                  repeats =
                      ((λ h. h), (λ h. h));
                },
                tt,
              ),
            ),
          ),
        ),
      ),
    )

    says_readpuzzle : (key : PuzzleKey) → Needs (action.ReadPuzzle key) → Says (action.ReadPuzzle key)
    says_readpuzzle key needs = (
      record { forbids = ((λ h. h), (λ h. h)); repeats = ((λ h. h), (λ h. h)) },
      (
        record { forbids = ((λ h. h), (λ h. h)); repeats = ((λ h. h), (λ h. h)) },
        (
          record { forbids = ((λ h. h), (λ h. h)); repeats = ((λ h. h), (λ h. h)) },
          (
            record {
              forbids = moved (λ (X : FinMap puzzle_cmp PuzzleRow). Sentence rule.Missing
                  (record world { puzzles = X }) caller (action.ReadPuzzle key) t) world.puzzles puzzles needs;
              repeats =
                  ((λ h. h), (λ h. h));
            },
            tt,
          ),
        ),
      ),
    )

    says_listpuzzles : Needs action.ListPuzzles → Says action.ListPuzzles
    says_listpuzzles needs = (
      record { forbids = ((λ h. h), (λ h. h)); repeats = ((λ h. h), (λ h. h)) },
      (record { forbids = ((λ h. h), (λ h. h)); repeats = ((λ h. h), (λ h. h)) }, tt),
    )

    says_certify : (key : PuzzleKey) (budget : ℕ) → Needs (action.Certify key budget) → Says (action.Certify key budget)
    says_certify key budget needs = (
      record { forbids = ((λ h. h), (λ h. h)); repeats = ((λ h. h), (λ h. h)) },
      (
        record { forbids = ((λ h. h), (λ h. h)); repeats = ((λ h. h), (λ h. h)) },
        (
          record { forbids = ((λ h. h), (λ h. h)); repeats = ((λ h. h), (λ h. h)) },
          (
            record {
              forbids = moved (λ (X : FinMap puzzle_cmp PuzzleRow). Sentence rule.Missing
                  (record world { puzzles = X }) caller (action.Certify key budget) t) world.puzzles puzzles needs;
              repeats =
                  ((λ h. h), (λ h. h));
            },
            tt,
          ),
        ),
      ),
    )

    says_putround : (id : List ℕ) (sheet : Sheet) → Needs (action.PutRound id sheet) → Says (action.PutRound id sheet)
    says_putround id sheet needs = (
      record { forbids = ((λ h. h), (λ h. h)); repeats = ((λ h. h), (λ h. h)) },
      (
        record { forbids = ((λ h. h), (λ h. h)); repeats = ((λ h. h), (λ h. h)) },
        (
          record {
            forbids = moved (λ (X : FinMap puzzle_cmp PuzzleRow). Sentence rule.Missing
                (record world { puzzles = X }) caller (action.PutRound id sheet) t) world.puzzles puzzles needs;
            repeats =
                ((λ h. h), (λ h. h));
          },
          (record { forbids = ((λ h. h), (λ h. h)); repeats = ((λ h. h), (λ h. h)) }, tt),
        ),
      ),
    )

    says_release : (id : List ℕ) → Needs (action.Release id) → Says (action.Release id)
    says_release id needs = (
      record { forbids = ((λ h. h), (λ h. h)); repeats = ((λ h. h), (λ h. h)) },
      (
        record { forbids = ((λ h. h), (λ h. h)); repeats = ((λ h. h), (λ h. h)) },
        (
          record { forbids = ((λ h. h), (λ h. h)); repeats = ((λ h. h), (λ h. h)) },
          (
            record { forbids = ((λ h. h), (λ h. h)); repeats = ((λ h. h), (λ h. h)) },
            (
              record {
                forbids = moved (λ (X : FinMap puzzle_cmp PuzzleRow). Sentence rule.NotCertified
                    (record world { puzzles = X }) caller (action.Release id) t) world.puzzles puzzles needs;
                repeats =
                    ((λ h. h), (λ h. h));
              },
              (
                record { forbids = ((λ h. h), (λ h. h)); repeats = ((λ h. h), (λ h. h)) },
                (record { forbids = ((λ h. h), (λ h. h)); repeats = ((λ h. h), (λ h. h)) }, tt),
              ),
            ),
          ),
        ),
      ),
    )

    says_listrounds : Needs action.ListRounds → Says action.ListRounds
    says_listrounds needs = (record { forbids = ((λ h. h), (λ h. h)); repeats = ((λ h. h), (λ h. h)) }, tt)

    says_readround : (id : List ℕ) → Needs (action.ReadRound id) → Says (action.ReadRound id)
    says_readround id needs = (
      record { forbids = ((λ h. h), (λ h. h)); repeats = ((λ h. h), (λ h. h)) },
      (
        record { forbids = ((λ h. h), (λ h. h)); repeats = ((λ h. h), (λ h. h)) },
        (
          record { forbids = ((λ h. h), (λ h. h)); repeats = ((λ h. h), (λ h. h)) },
          (
            record { forbids = ((λ h. h), (λ h. h)); repeats = ((λ h. h), (λ h. h)) },
            (record { forbids = ((λ h. h), (λ h. h)); repeats = ((λ h. h), (λ h. h)) }, tt),
          ),
        ),
      ),
    )

    says_submit : (id : List ℕ) (number : ℕ) (token : List ℕ) (answer : List ℕ)
        → Needs (action.Submit id number token answer) → Says (action.Submit id number token answer)
    says_submit id number token answer needs = (
      record {
        forbids = ((λ h. h), (λ h. h));
        repeats =
            ((λ h. h), (λ h. h));
      },
      (
        record { forbids = ((λ h. h), (λ h. h)); repeats = ((λ h. h), (λ h. h)) },
        (
          record { forbids = ((λ h. h), (λ h. h)); repeats = ((λ h. h), (λ h. h)) },
          (
            record { forbids = ((λ h. h), (λ h. h)); repeats = ((λ h. h), (λ h. h)) },
            (
              record {
                forbids = both_not (submit_stands id number token answer) (submit_same id number token answer);
                repeats = submit_same id number token answer;
              },
              (
                record
                    { forbids = ((λ h. h), (λ h. h)); repeats = ((λ h. h), (λ h. h)) },
                (
                  record { forbids = ((λ h. h), (λ h. h)); repeats = ((λ h. h), (λ h. h)) },
                  (
                    record { forbids = ((λ h. h), (λ h. h)); repeats = ((λ h. h), (λ h. h)) },
                    (record { forbids = few_answers id number; repeats = ((λ h. h), (λ h. h)) }, tt),
                  ),
                ),
              ),
            ),
          ),
        ),
      ),
    )

    says_answers : (id : List ℕ) → Needs (action.Answers id) → Says (action.Answers id)
    says_answers id needs = (
      record { forbids = ((λ h. h), (λ h. h)); repeats = ((λ h. h), (λ h. h)) },
      (
        record { forbids = ((λ h. h), (λ h. h)); repeats = ((λ h. h), (λ h. h)) },
        (record { forbids = ((λ h. h), (λ h. h)); repeats = ((λ h. h), (λ h. h)) }, tt),
      ),
    )

    says_solutions : (id : List ℕ) → Needs (action.Solutions id) → Says (action.Solutions id)
    says_solutions id needs = (
      record { forbids = ((λ h. h), (λ h. h)); repeats = ((λ h. h), (λ h. h)) },
      (
        record { forbids = ((λ h. h), (λ h. h)); repeats = ((λ h. h), (λ h. h)) },
        (
          record { forbids = ((λ h. h), (λ h. h)); repeats = ((λ h. h), (λ h. h)) },
          (record { forbids = ((λ h. h), (λ h. h)); repeats = ((λ h. h), (λ h. h)) }, tt),
        ),
      ),
    )

    says_protest : (id : List ℕ) (token : List ℕ) (number : ℕ) (text : List ℕ)
        → Needs (action.Protest id token number text) → Says (action.Protest id token number text)
    says_protest id token number text needs = (
      record {
        forbids = ((λ h. h), (λ h. h));
        repeats =
            ((λ h. h), (λ h. h));
      },
      (
        record { forbids = ((λ h. h), (λ h. h)); repeats = ((λ h. h), (λ h. h)) },
        (
          record { forbids = ((λ h. h), (λ h. h)); repeats = ((λ h. h), (λ h. h)) },
          (
            record { forbids = ((λ h. h), (λ h. h)); repeats = ((λ h. h), (λ h. h)) },
            (
              record {
                forbids = both_not (protest_stands id token number text) (protest_same id token number text);
                repeats = protest_same id token number text;
              },
              (
                record
                    { forbids = ((λ h. h), (λ h. h)); repeats = ((λ h. h), (λ h. h)) },
                (
                  record { forbids = ((λ h. h), (λ h. h)); repeats = ((λ h. h), (λ h. h)) },
                  (
                    record { forbids = ((λ h. h), (λ h. h)); repeats = ((λ h. h), (λ h. h)) },
                    (record { forbids = few_protests id; repeats = ((λ h. h), (λ h. h)) }, tt),
                  ),
                ),
              ),
            ),
          ),
        ),
      ),
    )

    says_protests : (id : List ℕ) → Needs (action.Protests id) → Says (action.Protests id)
    says_protests id needs = (
      record { forbids = ((λ h. h), (λ h. h)); repeats = ((λ h. h), (λ h. h)) },
      (
        record { forbids = ((λ h. h), (λ h. h)); repeats = ((λ h. h), (λ h. h)) },
        (record { forbids = ((λ h. h), (λ h. h)); repeats = ((λ h. h), (λ h. h)) }, tt),
      ),
    )

    says_rule : (id : List ℕ) (entrant : List ℕ) (token : List ℕ) (ruling : Ruling)
        → Needs (action.RuleProtest id entrant token ruling) → Says (action.RuleProtest id entrant token ruling)
    says_rule id entrant token ruling needs = (
      record {
        forbids = ((λ h. h), (λ h. h));
        repeats =
            ((λ h. h), (λ h. h));
      },
      (
        record { forbids = ((λ h. h), (λ h. h)); repeats = ((λ h. h), (λ h. h)) },
        (
          record {
            forbids = moved (λ (found : Option ProtestRow). RoundIsMissing world caller
                (action.RuleProtest id entrant token ruling) id ⊎ (found ≡ None)) (protest_of world entrant id token)
                (protest_of other entrant id token) needs;
            repeats = ((λ h. h), (λ h. h));
          },
          (
            record { forbids = involved id entrant token ruling; repeats = ((λ h. h), (λ h. h)) },
            (
              record {
                forbids = both_not (moved (λ (found : Option ProtestRow). (row : ProtestRow) × (found ≡ Some row)
                    × (row.ruling ≢ None)) (protest_of world entrant id token) (protest_of other entrant id token)
                    needs)
                    (moved (λ (found : Option ProtestRow). (row : ProtestRow) × (found ≡ Some row)
                    × (row.ruling ≡ Some ruling))
                    (protest_of world entrant id token) (protest_of other entrant id token) needs);
                repeats = moved
                    (λ (found : Option ProtestRow). (row : ProtestRow) × (found ≡ Some row)
                    × (row.ruling ≡ Some ruling))
                    (protest_of world entrant id token) (protest_of other entrant id token) needs;
              },
              tt,
            ),
          ),
        ),
      ),
    )

    says_publish : (id : List ℕ) → Needs (action.Publish id) → Says (action.Publish id)
    says_publish id needs = (
      record { forbids = ((λ h. h), (λ h. h)); repeats = ((λ h. h), (λ h. h)) },
      (
        record { forbids = ((λ h. h), (λ h. h)); repeats = ((λ h. h), (λ h. h)) },
        (
          record { forbids = ((λ h. h), (λ h. h)); repeats = ((λ h. h), (λ h. h)) },
          (
            record { forbids = ((λ h. h), (λ h. h)); repeats = ((λ h. h), (λ h. h)) },
            (
              record { forbids = ((λ h. h), (λ h. h)); repeats = ((λ h. h), (λ h. h)) },
              (
                record {
                  forbids = moved (λ (X : FinMap protest_cmp ProtestRow). Sentence rule.OpenProtest
                      (record world { protests = X }) caller (action.Publish id) t) world.protests protests needs;
                  repeats =
                      ((λ h. h), (λ h. h));
                },
                tt,
              ),
            ),
          ),
        ),
      ),
    )

    says_table : (id : List ℕ) → Needs (action.Table id) → Says (action.Table id)
    says_table id needs = (
      record { forbids = ((λ h. h), (λ h. h)); repeats = ((λ h. h), (λ h. h)) },
      (record { forbids = ((λ h. h), (λ h. h)); repeats = ((λ h. h), (λ h. h)) }, tt),
    )

    says : (a : Action) → Needs a → Says a
    says (action.Import people) needs = says_import people needs
    says (action.PutPuzzle key puzzle) needs = says_putpuzzle key puzzle needs
    says (action.ReadPuzzle key) needs = says_readpuzzle key needs
    says action.ListPuzzles needs = says_listpuzzles needs
    says (action.Certify key budget) needs = says_certify key budget needs
    says (action.PutRound id sheet) needs = says_putround id sheet needs
    says (action.Release id) needs = says_release id needs
    says action.ListRounds needs = says_listrounds needs
    says (action.ReadRound id) needs = says_readround id needs
    says (action.Submit id number token answer) needs = says_submit id number token answer needs
    says (action.Answers id) needs = says_answers id needs
    says (action.Solutions id) needs = says_solutions id needs
    says (action.Protest id token number text) needs = says_protest id token number text needs
    says (action.Protests id) needs = says_protests id needs
    says (action.RuleProtest id entrant token ruling) needs = says_rule id entrant token ruling needs
    says (action.Publish id) needs = says_publish id needs
    says (action.Table id) needs = says_table id needs

    same_rules : (a : Action) → rules_asked a ≡ rules_asked (exchanged ex a)
    same_rules (action.Import people) = refl
    same_rules _ = refl

    -- the request, and the one in the exchanged list, are decided alike
    pub same_decision : (a : Action) → Needs a → (d e : Decision) → First world caller a t d
        → First other caller (exchanged ex a) t e → d ≡ e
    same_decision a needs d e first second = decided_alike world other caller a (exchanged ex a) t (same_rules a)
        (says a needs) d e first second
