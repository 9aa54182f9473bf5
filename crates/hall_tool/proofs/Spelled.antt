-- Words of each command, and that no words spell two.
use Rattle.std.proofs.Common.{ap, inl, inr, sym, subst, refl, ◌∙◌, ◌≡◌, ℕ, List, Option, Some, None, codes}
use Rattle.std.specs.Prelude.{◌⊎◌}
use Rattle.clap.specs.Words.{Row, Text, first_of}
use Rattle.clap.specs.declared.error.kind.ErrorKind.{ErrorKind}
use Rattle.clap.specs.declared.error.kind.ErrorKind.TheVariants.{DisplayHelp, DisplayVersion}
use Rattle.clap.proofs.OnLiterals.{clap_on_literals}
use Rattle.hall_tool.specs.declared.pages.Page.{Page}
use Rattle.hall_tool.specs.declared.pages.Page.TheVariants as pages
use Rattle.hall_tool.specs.declared.words.Command.{Command}
use Rattle.hall_tool.specs.declared.words.Command.TheVariants.{Solve, Init, Serve, Replay, Table, Migrate}
use Rattle.hall_tool.specs.declared.words.Command.TheVariants.{Check, Help, Version}
use Rattle.hall_tool.specs.declared.words.Numbers.{Numbers}
use Rattle.hall_tool.specs.Words.{AreSpelled, AsksForPage, IsNumber, IsNumberIfAny, SpellOneCommand}
use Rattle.hall_tool.specs.Words.{budgets, connection_limits, options_of, page_of, ports}
use Rattle.hall_tool.proofs.Spelling.{asked_is, none_is_some, same_kind}
use Rattle.hall_tool.proofs.Taken.{TakenBy, taken_by}

pub are_spelled : AreSpelled
unfolding clap_on_literals
are_spelled = record {
  judge = inl (refl, refl);
  solve = inl (refl, (refl, refl));
  budget = λ text budget is. inl (refl, (refl, is));
  init = λ db people. inl (refl, (refl, refl, refl));
  serve = λ db text port is. inl (refl, (refl, refl, is, refl));
  connections = λ db text count port connections is limits. inl (refl, (refl, refl, is, limits));
  replay = λ path. inl (refl, (refl, refl));
  apart = inl (refl, (refl, refl));
  table = λ db round. inl (refl, (refl, refl, refl));
  migrate = λ from to. inl (refl, (refl, refl, refl));
  turned = λ from to. inl (refl, (refl, refl, refl));
  check = λ db. inl (refl, (refl, refl, tt));
  search = λ db text budget is. inl (refl, (refl, refl, is));
  help = inr (DisplayHelp, refl, (refl, refl));
  judge_help = inr (DisplayHelp, refl, (refl, refl));
  solve_help = inr (DisplayHelp, refl, (refl, refl));
  init_help = inr (DisplayHelp, refl, (refl, refl));
  serve_help = inr (DisplayHelp, refl, (refl, refl));
  replay_help = inr (DisplayHelp, refl, (refl, refl));
  table_help = inr (DisplayHelp, refl, (refl, refl));
  migrate_help = inr (DisplayHelp, refl, (refl, refl));
  check_help = inr (DisplayHelp, refl, (refl, refl));
  version = inr (DisplayVersion, refl, refl);
}

same_number : (numbers : Numbers) (text : Option Text) (m n : ℕ) → IsNumber numbers text m → IsNumber numbers text n
    → m ≡ n
same_number numbers None m n s t = some_one (sym s ∙ t)
  where
    some_one : {x y : ℕ} → Some x ≡ Some y → x ≡ y
    some_one e = cc
same_number numbers (Some text) m n s t = s.1 ∙ sym t.1

same_if_any : (numbers : Numbers) (text : Option Text) (m n : Option ℕ) → IsNumberIfAny numbers text m
    → IsNumberIfAny numbers text n → m ≡ n
same_if_any numbers None None None s t = refl
same_if_any numbers None None (Some n) s t = absurd t
same_if_any numbers None (Some m) n s t = absurd s
same_if_any numbers (Some text) None n s t = absurd s
same_if_any numbers (Some text) (Some m) None s t = absurd t
same_if_any numbers (Some text) (Some m) (Some n) s t = ap Some (s.1 ∙ sym t.1)

same_word : {given : Option Text} {l m : Text} → given ≡ Some l → given ≡ Some m → l ≡ m
same_word s t = let e = sym s ∙ t in cc

one_by : (page : Page) (rows : List Row) (one other : Command) → TakenBy page rows one → TakenBy page rows other
    → one ≡ other
one_by pages.Hall rows one other s t = absurd s
one_by pages.Judge rows one other s t = s ∙ sym t
one_by pages.Solve rows one other s t =
    let budget = same_number budgets (first_of (codes "budget") rows) s.0 t.0 s.1 t.1 in
    s.2 ∙ ap Solve budget ∙ sym t.2
one_by pages.Init rows one other s t =
    let db = same_word s.2 t.2 in
    let people = same_word s.3 t.3 in
    s.4 ∙ ap (λ d. Init d s.1) db ∙ ap (λ p. Init t.0 p) people ∙ sym t.4
one_by pages.Serve rows one other s t =
    let db = same_word s.3 t.3 in
    let port = same_number ports (first_of (codes "port") rows) s.1 t.1 s.4 t.4 in
    let connections = same_number connection_limits (first_of (codes "connections") rows) s.2 t.2 s.5 t.5 in
    s.6 ∙ ap (λ d. Serve d s.1 s.2) db ∙ ap (λ p. Serve t.0 p s.2) port ∙ ap (λ c. Serve t.0 t.1 c) connections
    ∙ sym t.6
one_by pages.Replay rows one other s t = s.2 ∙ ap Replay (same_word s.1 t.1) ∙ sym t.2
one_by pages.Table rows one other s t =
    let db = same_word s.2 t.2 in
    let round = same_word s.3 t.3 in
    s.4 ∙ ap (λ d. Table d s.1) db ∙ ap (λ r. Table t.0 r) round ∙ sym t.4
one_by pages.Migrate rows one other s t =
    let from = same_word s.2 t.2 in
    let to = same_word s.3 t.3 in
    s.4 ∙ ap (λ f. Migrate f s.1) from ∙ ap (λ g. Migrate t.0 g) to ∙ sym t.4
one_by pages.Check rows one other s t =
    let db = same_word s.2 t.2 in
    let budget = same_if_any budgets (first_of (codes "budget") rows) s.1 t.1 s.3 t.3 in
    s.4 ∙ ap (λ d. Check d s.1) db ∙ ap (λ b. Check t.0 b) budget ∙ sym t.4

one_asked : (page : Page) (kind : ErrorKind) (one other : Command) → AsksForPage page kind one
    → AsksForPage page kind other → one ≡ other
one_asked page kind one other s t = go (asked_is page kind one s) (asked_is page kind other t)
  where
    go : ((kind ≡ DisplayHelp) × (one ≡ Help page)) ⊎ ((kind ≡ DisplayVersion) × (one ≡ Version))
        → ((kind ≡ DisplayHelp) × (other ≡ Help page)) ⊎ ((kind ≡ DisplayVersion) × (other ≡ Version)) → one ≡ other
    go (inl s) (inl t) = s.1 ∙ sym t.1
    go (inl s) (inr t) = let kinds = sym s.0 ∙ t.0 in cc
    go (inr s) (inl t) = let kinds = sym s.0 ∙ t.0 in cc
    go (inr s) (inr t) = s.1 ∙ sym t.1

pub one_command : SpellOneCommand
one_command words one other (inl s) (inl t) =
    one_by (page_of words) (options_of words) one other
    (taken_by (page_of words) (options_of words) one s.1) (taken_by (page_of words) (options_of words) other t.1)
one_command words one other (inl s) (inr t) = absurd (none_is_some _ (sym s.0 ∙ t.1))
one_command words one other (inr s) (inl t) = absurd (none_is_some _ (sym t.0 ∙ s.1))
one_command words one other (inr s) (inr t) =
    let kinds = same_kind _ _ (sym t.1 ∙ s.1) in
    one_asked (page_of words) s.0 one other s.2 (subst (λ kind. AsksForPage (page_of words) kind other) kinds t.2)
