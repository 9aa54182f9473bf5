-- What the program's words spell.
use Rattle.std.proofs.Common.{ap, sym, subst, refl, inl, inr, ◌∙◌, ◌≡◌, Bool, true, false, List, [], ◌∷◌, map}
use Rattle.std.proofs.Common.{Option, Some, codes}
use Rattle.std.specs.Prelude.{◌≢◌, ◌⊎◌, IfErr, IfOk, IsErrAnd, Result, Ok, Err, slice_get, unwrap_or}
use Rattle.std.specs.Str.{bytes_eq}
use Rattle.std.proofs.lemmas.Slice.Eq.{bytes_eq-Decides}
use Rattle.clap.specs.Words.{App, Kinds, HasKind, IsAmong, Row, Text, fault_of, first_of, first_value, is_simple}
use Rattle.clap.specs.Words.{is_simple_and_free, kind_of, matches_of, rows_of}
use Rattle.clap.specs.declared.parser.matches.Found.{Found}
use Rattle.clap.proofs.WalkLemmas.{first_value-rows}
use Rattle.clap.specs.Simple.{argument_words, built}
use Rattle.clap.specs.declared.error.Error.{Error}
use Rattle.clap.specs.declared.error.kind.ErrorKind.{ErrorKind}
use Rattle.clap.specs.declared.error.kind.ErrorKind.TheVariants.{DisplayHelp, DisplayVersion}
use Rattle.clap.proofs.OnLiterals.{clap_on_literals}
use Rattle.hall_tool.specs.declared.pages.Page.{Page}
use Rattle.hall_tool.specs.declared.pages.Page.TheVariants as pages
use Rattle.hall_tool.specs.declared.words.Command.{Command}
use Rattle.hall_tool.specs.declared.words.Command.TheVariants.{Judge, Solve, Init, Serve, Replay, Table, Migrate}
use Rattle.hall_tool.specs.declared.words.Command.TheVariants.{Check, Help, Version}
use Rattle.hall_tool.specs.Pages.{command_line_of}
use Rattle.hall_tool.specs.declared.words.WordsFault.{WordsFault}
use Rattle.hall_tool.specs.declared.words.WordsFault.TheVariants.{Memory, Line}
use Rattle.hall_tool.specs.Words.{AsksForPage, AsksNone, IfLine, IsTaken, SpellsCommand, SpellsNone, TakesNone}
use Rattle.hall_tool.specs.Words.{IsTakenFrom, faults_of, options_of, page_of}
use Rattle.hall_tool.proofs.OneKind.{IsSingle, built_one, only_kind}

differs : (a b : Text) → a ≢ b → bytes_eq a b ≡ false
differs a b unlike = go (bytes_eq a b) refl
  where
    go : (test : Bool) → bytes_eq a b ≡ test → test ≡ false
    go true e = absurd (unlike ((bytes_eq-Decides a b).0 e))
    go false e = refl

-- a first word that is no command's name
pub no_command : {X : Type 0} (f : X → Text) (xs : List X) (x : X) → Some x ≡ slice_get xs 0
    → f x ≢ codes "judge" → f x ≢ codes "solve" → f x ≢ codes "init" → f x ≢ codes "serve" → f x ≢ codes "replay"
    → f x ≢ codes "table" → f x ≢ codes "migrate" → f x ≢ codes "check" → pages.Hall ≡ page_of (map f xs)
no_command f [] x e judge solve init serve replay table migrate check = cc
no_command f (y ∷ ys) x e judge solve init serve replay table migrate check =
    let same : f x ≡ f y = ap f (ap (λ o. unwrap_or o x) e) in
    rw (
      ← same,
      differs (f x) (codes "judge") judge,
      differs (f x) (codes "solve") solve,
      differs (f x) (codes "init") init,
      differs (f x) (codes "serve") serve,
      differs (f x) (codes "replay") replay,
      differs (f x) (codes "table") table,
      differs (f x) (codes "migrate") migrate,
      differs (f x) (codes "check") check,
    ) refl

-- what holds of the value that clap's matches give for an option
pub value_row : (f : Found) (id : Text) (named : Option Text) (P : Option Text → Type 0) → named ≡ first_value f id
    → P named → P (first_of id (rows_of f))
value_row f id named P e p = subst P (e ∙ first_value-rows f id) p

-- a claim that holds
pub line_tells : (fault : WordsFault) (claim : Type 0) → claim → IfLine fault claim
line_tells Memory claim p = tt
line_tells (Line error) claim p = p

pub line_weaker : (fault : WordsFault) (claim other : Type 0) → (claim → other) → IfLine fault claim
    → IfLine fault other
line_weaker Memory claim other step p = tt
line_weaker (Line error) claim other step p = step p

-- the same, of a fault that is passed on
pub line_passed : {A : Type 0} (result : Result A WordsFault) (fault : WordsFault) (claim other : Type 0)
    → IsErrAnd result (λ passed. passed ≡ fault) → (claim → other) → IfLine fault claim
    → IfErr result (λ passed. IfLine passed other)
line_passed (Ok done) fault claim other same step p = tt
line_passed (Err passed) fault claim other same step p =
    line_weaker passed claim other step (subst (λ f. IfLine f claim) (sym same) p)

-- where a fault is passed on, no command is taken
pub none_passed : (page : Page) (rows : List Row) (result : Result Command WordsFault) (fault : WordsFault)
    (claim : Type 0) → IsErrAnd result (λ passed. passed ≡ fault) → (claim → TakesNone page rows) → IfLine fault claim
    → IsTakenFrom page rows result
none_passed page rows (Ok command) fault claim same step p = absurd same
none_passed page rows (Err passed) fault claim same step p =
    line_passed {A = Command} (Err passed) fault claim (TakesNone page rows) same step p

-- clap's contract covers the program's lines, and none has subcommands
line_covered : (page : Page) → (is_simple (command_line_of page) ≡ true)
    × (is_simple_and_free (command_line_of page) ≡ true)
    × ((built (command_line_of page)).subs ≡ [])
    × ((built (command_line_of page)).top.is_leaf ≡ true)
unfolding clap_on_literals
line_covered pages.Hall = (refl, refl, refl, refl)
line_covered pages.Judge = (refl, refl, refl, refl)
line_covered pages.Solve = (refl, refl, refl, refl)
line_covered pages.Init = (refl, refl, refl, refl)
line_covered pages.Serve = (refl, refl, refl, refl)
line_covered pages.Replay = (refl, refl, refl, refl)
line_covered pages.Table = (refl, refl, refl, refl)
line_covered pages.Migrate = (refl, refl, refl, refl)
line_covered pages.Check = (refl, refl, refl, refl)

one_fault : (page : Page) (words : List Text) → IsSingle (fault_of (command_line_of page) words)
one_fault page words =
    built_one (built (command_line_of page)) (argument_words (command_line_of page) words)
    (line_covered page).2 (line_covered page).3

-- a line is that of the page which the words name
pub record IsLineOf (words : List Text) (page : Page) (line : App) : Type 0 where
  pub named : page ≡ page_of words
  pub is : line ≡ command_line_of page

module _ {words : List Text} {page : Page} {line : App} (it : IsLineOf words page line) where
  same_line : line ≡ command_line_of (page_of words)
  same_line = it.is ∙ ap command_line_of it.named

  pub line_simple : is_simple line ≡ true
  line_simple = ap is_simple same_line ∙ (line_covered (page_of words)).0

  pub line_free : is_simple_and_free line ≡ true
  line_free = ap is_simple_and_free same_line ∙ (line_covered (page_of words)).1

  pub line_faults : fault_of line words ≡ faults_of words
  line_faults = ap (λ (a : App). fault_of a words) same_line

  pub line_options : matches_of line words ≡ options_of words
  line_options = ap (λ (a : App). matches_of a words) same_line

pub none_is_some : (k : ErrorKind) → ◌≡◌ {A = Kinds} [] (k ∷ []) → ⊥
none_is_some k e = cc

pub same_kind : (k l : ErrorKind) → ◌≡◌ {A = Kinds} (k ∷ []) (l ∷ []) → k ≡ l
same_kind k l e = cc

-- what asks in place of a run is help of the page, or the version
pub asked_is : (page : Page) (kind : ErrorKind) (command : Command) → AsksForPage page kind command
    → ((kind ≡ DisplayHelp) × (command ≡ Help page)) ⊎ ((kind ≡ DisplayVersion) × (command ≡ Version))
asked_is page kind Judge asks = absurd asks
asked_is page kind (Solve budget) asks = absurd asks
asked_is page kind (Init db people) asks = absurd asks
asked_is page kind (Serve db port connections) asks = absurd asks
asked_is page kind (Replay people) asks = absurd asks
asked_is page kind (Table db round) asks = absurd asks
asked_is page kind (Migrate from to) asks = absurd asks
asked_is page kind (Check db budget) asks = absurd asks
asked_is page kind (Help asked) asks = inl (asks.1, ap Help asks.0)
asked_is page kind Version asks = inr (asks, refl)

module _ (words : List Text) where
  -- words that the line takes
  module _ (rows : List Row) (fine : faults_of words ≡ []) (same : rows ≡ options_of words) where
    pub taken_spells : (result : Result Command WordsFault) → IsTakenFrom (page_of words) rows result
        → IfOk result (SpellsCommand words)
    taken_spells (Ok command) t =
        inl (fine, subst (λ (rs : List Row). IsTaken (page_of words) rs command) same t)
    taken_spells (Err fault) t = tt

    none_taken : TakesNone (page_of words) rows → SpellsNone words
    none_taken none command (inl run) =
        none command (subst (λ (rs : List Row). IsTaken (page_of words) rs command) (sym same) run.1)
    none_taken none command (inr asked) = absurd (none_is_some asked.0 (sym fine ∙ asked.1))

    pub taken_tells : (result : Result Command WordsFault) → IsTakenFrom (page_of words) rows result
        → IfErr result (λ fault. IfLine fault (SpellsNone words))
    taken_tells (Ok command) t = tt
    taken_tells (Err fault) t = line_weaker fault _ (SpellsNone words) none_taken t

  whole : (k : ErrorKind) → IsAmong k (faults_of words) → faults_of words ≡ k ∷ []
  whole k among = only_kind (faults_of words) k (one_fault (page_of words) words) among

  -- words that it doesn't take
  pub asked_spells : (e : Error) (command : Command) → HasKind (faults_of words) e
      → AsksForPage (page_of words) (kind_of e) command → SpellsCommand words command
  asked_spells e command (inl memory) asks = go (asked_is (page_of words) (kind_of e) command asks)
    where
      go : ((kind_of e ≡ DisplayHelp) × (command ≡ Help (page_of words)))
          ⊎ ((kind_of e ≡ DisplayVersion) × (command ≡ Version)) → SpellsCommand words command
      go (inl help) = let is = help.0 in cc
      go (inr version) = let is = version.0 in cc
  asked_spells e command (inr among) asks = inr (kind_of e, whole (kind_of e) among, asks)

  pub none_asked : (e : Error) → HasKind (faults_of words) e → AsksNone (kind_of e) → SpellsNone words
  none_asked e (inl memory) none command spells = absurd (none.0 memory)
  none_asked e (inr among) none command (inl run) =
      absurd (none_is_some _ (sym run.0 ∙ whole (kind_of e) among))
  none_asked e (inr among) none command (inr asked) = go (asked_is (page_of words) asked.0 command asked.2)
    where
      same : kind_of e ≡ asked.0
      same = same_kind _ _ (sym (whole (kind_of e) among) ∙ asked.1)

      go : ((asked.0 ≡ DisplayHelp) × (command ≡ Help (page_of words)))
          ⊎ ((asked.0 ≡ DisplayVersion) × (command ≡ Version)) → ⊥
      go (inl help) = none.1 (same ∙ help.0)
      go (inr version) = none.2 (same ∙ version.0)
