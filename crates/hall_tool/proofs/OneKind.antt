-- A parse of a simple command without subcommands has one kind of fault at most.
use Rattle.std.proofs.Common.{ap, sym, subst, inl, inr, arith, ◌≤◌, ℕ, Bool, zero, suc, true, false, cond, List, []}
use Rattle.std.proofs.Common.{◌∷◌, ◌≡◌, Option, Some, None, length}
use Rattle.std.specs.Prelude.{slice_get}
use Rattle.std.specs.Option.{option_map_or}
use Rattle.std.specs.Str.{chars}
use Rattle.clap.specs.Lexer.{long_of, short_of}
use Rattle.clap.specs.Simple.{App, Shape}
use Rattle.clap.specs.Walk.{Held, Row, Rule, Step, Text, Waiting, Walk, arg_by_id, arg_by_index, arg_by_long}
use Rattle.clap.specs.Walk.{arg_by_short}
use Rattle.clap.specs.Walk.{attached_value, nothing_held, settled, value, walk, walk_from, walked}
use Rattle.clap.specs.Walk.{with_default, word_met}
use Rattle.clap.specs.Walk.{idle, option, positional, next, trailing, subcommand}
use Rattle.clap.specs.Kinds.{Kinds, IsAmong, check_kinds, or_else, range_kinds, request_kinds, value_kinds}
use Rattle.clap.specs.Kinds.{values_kinds}
use Rattle.clap.specs.Faults.{action_fault, bundle_fault, bundle_step_fault, built_fault, count_fault}
use Rattle.clap.specs.Faults.{default_fault, defaults_fault, entered_fault, flag_word_fault, flags_fault}
use Rattle.clap.specs.Faults.{level_fault, long_fault, option_fault}
use Rattle.clap.specs.Faults.{positional_fault, react_fault, set_fault, settle_fault, short_fault, step_fault}
use Rattle.clap.specs.Faults.{stray_fault, turn_fault, use_fault, walk_fault, word_fault}
use Rattle.clap.specs.declared.builder.action.ArgAction.{ArgAction}
use Rattle.clap.specs.declared.builder.action.ArgAction.TheVariants.{Set, Append, SetTrue, SetFalse, Count}
use Rattle.clap.specs.declared.builder.action.ArgAction.TheVariants.{Help, HelpShort, HelpLong, Version}
use Rattle.clap.specs.declared.builder.value_parser.ValueParser.{ValueParser}
use Rattle.clap.specs.declared.error.kind.ErrorKind.{ErrorKind}

-- one kind at most
pub record IsSingle (kinds : Kinds) : Type 0 where
  pub few : length kinds ≤ 1

nothing : IsSingle []
nothing = record { few = omega arith }

single : (k : ErrorKind) → IsSingle (k ∷ [])
single k = record { few = omega arith }

-- the kind of an error is then the whole list
pub only_kind : (kinds : Kinds) (k : ErrorKind) → IsSingle kinds → IsAmong k kinds → kinds ≡ k ∷ []
only_kind [] k one among = absurd among
only_kind (x ∷ []) k one (inl e) = ap (λ y. y ∷ []) (sym e)
only_kind (x ∷ []) k one (inr none) = absurd none
only_kind (x ∷ y ∷ ks) k one among = let few = one.few in absurd (omega (arith, few))

either : (a b : Kinds) → IsSingle a → IsSingle b → IsSingle (or_else a b)
either [] b one other = other
either (x ∷ xs) b one other = one

chosen : (test : Bool) (a b : Kinds) → IsSingle a → IsSingle b → IsSingle (cond test a b)
chosen true a b one other = one
chosen false a b one other = other

ruleset one_or_none = (nothing, single)

value_one : (ignore_case : Bool) (p : ValueParser) (v : Text) → IsSingle (value_kinds ignore_case p v)
value_one ignore_case p v = search (chosen, one_or_none)

values_one : (ignore_case : Bool) (p : ValueParser) (vs : List Text) → IsSingle (values_kinds ignore_case p vs)
values_one ignore_case p [] = search one_or_none
values_one ignore_case p (v ∷ vs) = either _ _ (value_one ignore_case p v) (values_one ignore_case p vs)

range_one : (least most n : ℕ) → IsSingle (range_kinds least most n)
range_one least most n = search (chosen, one_or_none)

request_one : (a : ArgAction) → IsSingle (request_kinds a)
request_one Help = search one_or_none
request_one HelpShort = search one_or_none
request_one HelpLong = search one_or_none
request_one Version = search one_or_none
request_one Set = search one_or_none
request_one Append = search one_or_none
request_one SetTrue = search one_or_none
request_one SetFalse = search one_or_none
request_one Count = search one_or_none

count_one : (a : Rule) (vs : List Text) (rows : List Row) → IsSingle (count_fault a vs rows)
count_one a [] rows = search value_one
count_one a (v ∷ vs) rows = search values_one

set_one : (again : Bool) (a : Rule) (vs : List Text) (rows : List Row) → IsSingle (set_fault again a vs rows)
set_one again a vs rows = search (either, chosen, one_or_none, values_one)

action_one : (act : ArgAction) (again : Bool) (a : Rule) (vs : List Text) (rows : List Row)
    → IsSingle (action_fault act again a vs rows)
action_one Set again a vs rows = set_one again a vs rows
action_one SetTrue again a vs rows = set_one again a vs rows
action_one SetFalse again a vs rows = set_one again a vs rows
action_one Append again a vs rows = values_one _ _ vs
action_one Count again a vs rows = count_one a vs rows
action_one Help again a vs rows = search one_or_none
action_one HelpShort again a vs rows = search one_or_none
action_one HelpLong again a vs rows = search one_or_none
action_one Version again a vs rows = search one_or_none

use_one : (again : Bool) (a : Rule) (vs : List Text) (rows : List Row) → IsSingle (use_fault again a vs rows)
use_one again a vs rows = search (either, range_one, action_one)

used_one : (o : Option Rule) (again : Bool) (vs : List Text) (rows : List Row)
    → IsSingle (option_map_or (λ a. use_fault again a vs rows) o [])
used_one None again vs rows = search one_or_none
used_one (Some a) again vs rows = use_one again a vs rows

settle_one : (c : List Rule) (again : Bool) (h : Held) → IsSingle (settle_fault c again h)
settle_one c again h = go h.pending
  where
    go : (p : Option (Text × List Text)) → IsSingle (option_map_or (λ p. option_map_or (λ a.
        use_fault again a p.1 h.rows) (arg_by_id c p.0) []) p [])
    go None = search one_or_none
    go (Some p) = used_one (arg_by_id c p.0) again p.1 h.rows

react_one : (c : List Rule) (again : Bool) (a : Rule) (vs : List Text) (h : Held)
    → IsSingle (react_fault c again a vs h)
react_one c again a vs h = either _ _ (settle_one c again h) (use_one again a vs (settled c h).rows)

option_one : (c : List Rule) (again : Bool) (a : Rule) (v : Option Text) (h : Held)
    → IsSingle (option_fault c again a v h)
option_one c again a (Some v) h = react_one c again a (v ∷ []) h
option_one c again a None h = settle_one c again h

long_one : (c : List Rule) (again : Bool) (o : Option Rule) (v : Option Text) (h : Held)
    → IsSingle (long_fault c again o v h)
long_one c again None v h = search one_or_none
long_one c again (Some a) v h =
    chosen _ _ _ (option_one c again a v h) (chosen _ _ _ (single _) (react_one c again a [] h))

short_one : (c : List Rule) (again : Bool) (o : Option Rule) (rest : Text) (h : Held) (more : Held → Kinds)
    → ((g : Held) → IsSingle (more g)) → IsSingle (short_fault c again o rest h more)
short_one c again None rest h more one = search one_or_none
short_one c again (Some a) rest h more one =
    chosen _ _ _ (option_one c again a (attached_value rest) h) (either _ _ (react_one c again a [] h) (one _))

bundle_step_one : (c : List Rule) (again : Bool) (x : Option ℕ) (flags : Text) (skip : ℕ) (h : Held)
    (more : Text → ℕ → Held → Kinds) → ((t : Text) (n : ℕ) (g : Held) → IsSingle (more t n g))
    → IsSingle (bundle_step_fault c again x flags skip h more)
bundle_step_one c again None flags skip h more one = search one_or_none
bundle_step_one c again (Some x) flags zero h more one =
    short_one c again (arg_by_short c x) _ h _ (λ g. one _ 0 g)
bundle_step_one c again (Some x) flags (suc skip) h more one = one _ skip h

flags_one : (c : List Rule) (again : Bool) (k : ℕ) (flags : Text) (skip : ℕ) (h : Held)
    → IsSingle (flags_fault c again k flags skip h)
unfolding flags_fault
flags_one c again zero flags skip h = search one_or_none
flags_one c again (suc k) flags skip h =
    bundle_step_one c again (slice_get (chars flags) 0) flags skip h (flags_fault c again k) (flags_one c again k)

flag_word_one : (c : List Rule) (again : Bool) (long : Option (Text × Option Text)) (word : Text) (h : Held)
    → IsSingle (flag_word_fault c again long word h)
flag_word_one c again (Some p) word h = long_one c again (arg_by_long c p.0) p.1 h
flag_word_one c again None word h = go (short_of word)
  where
    go : (o : Option Text) → IsSingle (option_map_or (λ flags. bundle_fault c again flags h) o [])
    go None = search one_or_none
    go (Some flags) = flags_one c again (length flags) flags h.skip _

word_one : (s : Shape) (trails : Bool) (waiting : Waiting) (word : Text) (h : Held)
    → IsSingle (word_fault s [] trails waiting word h)
word_one s trails idle word h =
    chosen trails _ _ nothing
    (chosen _ _ _ nothing (flag_word_one s.rules s.args_override_self (long_of word) word h))
word_one s trails (option id) word h =
    chosen trails _ _ nothing
    (chosen _ _ _ nothing (flag_word_one s.rules s.args_override_self (long_of word) word h))
word_one s trails positional word h =
    chosen trails _ _ nothing
    (chosen _ _ _ nothing (flag_word_one s.rules s.args_override_self (long_of word) word h))

module _ (s : Shape) (leaf : s.is_leaf ≡ true) where
  stray_one : IsSingle (stray_fault s)
  stray_one = rw leaf (search one_or_none)

  placed_one : (o : Option Rule) (h : Held)
      → IsSingle (option_map_or (λ a. positional_fault s.rules s.args_override_self a h) o (stray_fault s))
  placed_one None h = stray_one
  placed_one (Some a) h = chosen _ _ _ nothing (settle_one s.rules s.args_override_self h)

  step_one : (position : ℕ) (h : Held) (step : Step) → IsSingle (step_fault s position h step)
  step_one position h value = placed_one (arg_by_index s.rules position) h
  step_one position h (next w) = search one_or_none
  step_one position h (trailing p) = search one_or_none
  step_one position h (subcommand name) = search one_or_none

  turn_one : (w : Walk) (word : Text) → IsSingle (turn_fault s [] w word)
  turn_one w word =
      let met = word_met s.rules [] w.is_trailing w.waiting w.position word w.held in
      chosen _ _ _ nothing
      (either _ _ (word_one s w.is_trailing w.waiting word w.held) (step_one w.position met.0 met.1))

  walk_one : (w : Walk) (words : List Text) → IsSingle (walk_fault s [] w words)
  unfolding walk_fault
  walk_one w [] = search one_or_none
  walk_one w (word ∷ rest) = either _ _ (turn_one w word) (walk_one (walked s.rules [] w word) rest)

  default_one : (rows : List Row) (a : Rule) → IsSingle (default_fault rows a)
  default_one rows a = search (either, chosen, one_or_none, request_one, values_one)

  defaults_one : (rows : List Row) (rules : List Rule) → IsSingle (defaults_fault rows rules)
  unfolding defaults_fault
  defaults_one rows [] = search one_or_none
  defaults_one rows (a ∷ rest) = either _ _ (default_one rows a) (defaults_one (with_default rows a) rest)

  check_one : (help sub wanted : Bool) → IsSingle (check_kinds help sub wanted)
  check_one help sub wanted =
      chosen help _ _ (search one_or_none)
      (chosen sub _ _ (search one_or_none) (chosen wanted _ _ (search one_or_none) (search one_or_none)))

  level_one : (h : Held) (words : List Text) (sub : Bool) (below : Kinds) → IsSingle below
      → IsSingle (level_fault s [] h words sub below)
  level_one h words sub below one =
      let end = (walk s.rules [] h words).held in
      either _ _ (walk_one (walk_from h) words)
      (either _ _ one (either _ _ (settle_one s.rules s.args_override_self end)
      (either _ _ (defaults_one (settled s.rules end).rows s.rules) (check_one _ _ _))))

entered_one : (s : Shape) (stop : Option (Text × List Text))
    → IsSingle (entered_fault (record { top = s; subs = [] }) stop)
entered_one s None = search one_or_none
entered_one s (Some p) = search one_or_none

-- one kind at most, of a built command without subcommands
pub built_one : (a : App) (words : List Text) → a.subs ≡ [] → a.top.is_leaf ≡ true
    → IsSingle (built_fault a nothing_held words)
built_one a words alone leaf =
    subst (λ (subs : List Shape). IsSingle (built_fault (record { top = a.top; subs = subs }) nothing_held words))
    (sym alone) (level_one a.top leaf nothing_held words _ _ (entered_one a.top _))
