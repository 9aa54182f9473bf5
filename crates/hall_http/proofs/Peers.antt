-- What each step of a connection and its peer keeps.
use Rattle.std.proofs.Common.{◌≡◌, ◌∙◌, sym, ap, subst, refl, arith, ℕ, ◌<◌, ◌≤◌, ◌+◌, ◌==◌, ◌⊎◌, inl, inr, List, []}
use Rattle.std.proofs.Common.{◌∷◌}
use Rattle.std.proofs.Common.{◌++◌, length, take, drop, Option, append_assoc, true, false, if◌then◌else◌}
use Rattle.std.specs.Prelude.{Bool}
use Rattle.std.proofs.lemmas.Bool.{eqb-false}
use Rattle.std.proofs.lemmas.List.{append-nil, length-append}
use Rattle.hall_http.specs.Outgoing.{outgoing_text}
use Rattle.hall_http.specs.Peer.{Calls, Traffic, IsLaterOn, IsUntouched, over_after, reads_after, then_hung_up}
use Rattle.hall_http.specs.Turns.{Service, IsClient, IsClientAnswered, IsClientKept}
use Rattle.hall_http.specs.Connection.{Exchange}
use Rattle.hall_http.specs.Resting.{HasRested}
use Rattle.hall_http.specs.History.{nothing, then_heard, then_ended, then_answered, then_sent, HasHistory}
use Rattle.hall_http.specs.Steps.{pending, fresh, gives, Answers, AnswersAt, IsAfterHearing, IsAfterEnd, IsAfterSending}
use Rattle.hall_http.specs.Steps.{Refuses, StandsRightly, Waits, WaitsRightly}
use Rattle.hall_http.specs.declared.client.Client.{Client}
use Rattle.hall_http.specs.declared.client.Step.{Step}
use Rattle.hall_http.specs.declared.client.Step.TheVariants as step
use Rattle.hall_http.specs.declared.connection.Connection.{Connection}
use Rattle.hall_http.specs.declared.connection.ServeEnd.{ServeEnd}
use Rattle.hall_http.specs.declared.connection.State.{State}
use Rattle.hall_http.specs.declared.connection.State.TheVariants as state
use Rattle.hall_http.specs.declared.peer.Moved.{Moved}
use Rattle.hall_http.specs.declared.peer.Moved.TheVariants as moved
use Rattle.hall_http.proofs.Histories.{at_the_start, heard, ended, answered, waited, refused, sent}
use Rattle.hall_http.proofs.Rested.{one_session, rest_session, rested_first}

-- a read that gave bytes tells of no end
pub over_some : (over : Bool) (count : ℕ) → 0 < count → over_after over (moved.Some count) ≡ over
over_some over count some =
    let other : (count == 0) ≡ false = grind (arith, some) in ap (λ (b : Bool). if b then true else over) other

-- a read that gave bytes is one more that did
pub reads_some : (reads count : ℕ) → 0 < count → reads_after reads (moved.Some count) ≡ reads + 1
reads_some reads count some =
    let other : (count == 0) ≡ false = grind (arith, some) in
    ap (λ (b : Bool). if b then reads else reads + 1) other

-- by such a read no more comes, and it isn't one that gave bytes
abbrev pub TellsEnd : Moved → Type 0
TellsEnd t = ((over : Bool) → over_after over t ≡ true) × ((reads : ℕ) → reads_after reads t ≡ reads)

-- as one is that gave none
pub gave_none : (count : ℕ) → count ≡ 0 → TellsEnd (moved.Some count)
gave_none count none = (
  (λ over. ap (λ n. over_after over (moved.Some n)) none),
  (λ reads. ap (λ n. reads_after reads (moved.Some n))
      none),
)

reads_by : (reads count : ℕ) (b : Bool) → (count == 0) ≡ b
    → (more : ℕ) × (reads_after reads (moved.Some count) ≡ reads + more) × (more ≤ count)
reads_by reads count true is =
    (0, ap (λ (b : Bool). if b then reads else reads + 1) is ∙ omega arith, omega arith)
reads_by reads count false is =
    (1, ap (λ (b : Bool). if b then reads else reads + 1) is, omega (arith, eqb-false _ _ is))

-- whether it gave any or not, there are no more of these than bytes
pub reads_more : (reads count : ℕ)
    → (more : ℕ) × (reads_after reads (moved.Some count) ≡ reads + more) × (more ≤ count)
reads_more reads count = reads_by reads count (count == 0) refl

-- what was told stays told
pub over_by : (none over : Bool) → over ≡ true → (if none then true else over) ≡ true
over_by true over told = refl
over_by false over told = told

-- the same connection later on, of which this came in between, and which was sent this
later_by : (t u : Traffic) (came went : List ℕ) → u.number ≡ t.number → u.came ≡ t.came ++ came
    → t.reads ≤ u.reads → u.went ≡ t.went ++ went → (t.over ≡ true → u.over ≡ true) → (t.broke ≡ true → u.broke ≡ true)
    → (t.hung_up ≡ true → u.hung_up ≡ true) → (more : Calls) × (u.calls ≡ t.calls ++ more) → IsLaterOn t u
later_by t u came went number more_came reads more_went over broke hung_up calls = record {
  number = number;
  came = (came, more_came);
  reads = reads;
  went = (went, more_went);
  over = over;
  broke = broke;
  hung_up = hung_up;
  calls = calls;
}

-- no call was made
no_calls : (t u : Traffic) → u.calls ≡ t.calls → (more : Calls) × (u.calls ≡ t.calls ++ more)
no_calls t u same = ([], same ∙ sym (append-nil t.calls))

-- a text that is the same has none more
none_more : (xs ys : List ℕ) → ys ≡ xs → ys ≡ xs ++ []
none_more xs ys same = same ∙ sym (append-nil xs)

-- or the same connection now
pub later_same : (t : Traffic) → IsLaterOn t t
later_same t =
    later_by t t [] [] refl (none_more _ _ refl) (omega arith) (none_more _ _ refl) (λ told. told) (λ told. told)
    (λ told. told) (no_calls t t refl)

pub later_as : (t u : Traffic) → u ≡ t → IsLaterOn t u
later_as t u same = subst (IsLaterOn t) (sym same) (later_same t)

then_more : (xs ys zs : List ℕ) → (more : List ℕ) × (ys ≡ xs ++ more) → (more : List ℕ) × (zs ≡ ys ++ more)
    → (more : List ℕ) × (zs ≡ xs ++ more)
then_more xs ys zs (one, first) (two, second) =
    (one ++ two, second ∙ ap (λ (s : List ℕ). s ++ two) first ∙ append_assoc xs one two)

pub later_then : (t u v : Traffic) → IsLaterOn t u → IsLaterOn u v → IsLaterOn t v
later_then t u v first second = record {
  number = second.number ∙ first.number;
  came = then_more t.came u.came v.came first.came second.came;
  reads = omega (arith, first.reads, second.reads);
  went = then_more t.went u.went v.went first.went second.went;
  over = λ told. second.over (first.over told);
  broke = λ told. second.broke (first.broke told);
  hung_up = λ told. second.hung_up (first.hung_up told);
  calls = (
    first.calls.0 ++ second.calls.0,
    second.calls.1 ∙ ap (λ (s : Calls). s ++ second.calls.0) first.calls.1
        ∙ append_assoc t.calls first.calls.0 second.calls.0,
  );
}

-- so it is after a read, a send, and once it was told that no more is sent
pub later_read : (t u : Traffic) (piece : List ℕ) → u.number ≡ t.number → u.came ≡ t.came ++ piece → t.reads ≤ u.reads
    → u.went ≡ t.went → (t.over ≡ true → u.over ≡ true) → u.broke ≡ t.broke → u.hung_up ≡ t.hung_up
    → (more : Calls) × (u.calls ≡ t.calls ++ more) → IsLaterOn t u
later_read t u piece number came reads went over broke hung_up calls =
    later_by t u piece [] number came reads (none_more _ _ went) over (λ told. broke ∙ told) (λ told. hung_up ∙ told)
    calls

pub later_sent : (t u : Traffic) (piece : List ℕ) → u.number ≡ t.number → u.came ≡ t.came → u.reads ≡ t.reads
    → u.went ≡ t.went ++ piece → u.over ≡ t.over → (t.broke ≡ true → u.broke ≡ true) → u.hung_up ≡ t.hung_up
    → (more : Calls) × (u.calls ≡ t.calls ++ more) → IsLaterOn t u
later_sent t u piece number came reads went over broke hung_up calls =
    later_by t u [] piece number (none_more _ _ came) (omega (arith, reads)) went (λ told. over ∙ told) broke
    (λ told. hung_up ∙ told) calls

pub later_hung_up : (t u : Traffic) → u ≡ then_hung_up t → IsLaterOn t u
later_hung_up t u is = subst (IsLaterOn t) (sym is) (later_by t (then_hung_up t) [] [] refl (none_more _ _ refl)
    (omega arith) (none_more _ _ refl) (λ told. told) (λ told. told) (λ told. refl)
    (no_calls t (then_hung_up t) refl))

-- who waits for what it is at stands rightly
pub stands_so : {H : Type 0} (may_wait : H → List ℕ → Type 0) (k : Connection) (h : H) (s : Step) → WaitsRightly s k
    → StandsRightly may_wait k h s
stands_so may_wait k h step.Again so = so
stands_so may_wait k h step.Leaves so = so
stands_so may_wait k h (step.Waits what requests) so = so
stands_so may_wait k h (step.Searches requests) so = absurd so
stands_so may_wait k h step.Holds so = absurd so
stands_so may_wait k h step.Over so = so

module _ {P : Type 0} (traffic : P → Traffic) where
  abbrev client : Connection → P → Bool → Bool → Client P
  client k p f v = record { connection = k; peer = p; is_over = f; is_leaving = v }

  pub client_new : (k : Connection) (p : P) → k ≡ fresh → IsUntouched (traffic p)
      → IsClient traffic [] (client k p false false)
  client_new k p is untouched = record {
    history = nothing;
    has = subst (HasHistory nothing) (sym is) at_the_start;
    answered = refl;
    off = [];
    quiet = inl refl;
    over = λ e. refl;
    at_end = λ e. absurd cc;
    read_over = λ e. absurd cc;
    hung_up = untouched.hung_up;
    leaving = λ e. absurd cc;
    heard = untouched.came;
    read_off = 0;
    counted = untouched.reads;
    some_off = omega arith;
    sent = untouched.went;
  }

  module _ (k : Connection) (p : P) (f v : Bool) (xs : List Exchange)
      (is : IsClient traffic xs (client k p f v)) where
    -- nothing was read off while it hasn't ended
    none_off : (s : State) → k.state ≡ s → ((e : ServeEnd) → s ≡ state.Ended e → ⊥) → is.off ≡ []
    none_off s at never =
        elim is.quiet [
          | inl none ↦ none
          | inr x ↦ absurd (never x.0 (sym at ∙ x.1))
        ]

    heard_all : is.off ≡ [] → (traffic p).came ≡ is.history.came
    heard_all none = is.heard ∙ ap (λ s. is.history.came ++ s) none ∙ append-nil is.history.came

    -- nor was any read of its peer but its own
    counted_all : is.off ≡ [] → (traffic p).reads ≡ is.history.pieces
    counted_all none = omega (arith, is.counted, is.some_off, ap (λ (s : List ℕ). length s) none)

    reading_off : k.state ≡ state.Reading → is.off ≡ []
    reading_off at = none_off state.Reading at (λ e same. absurd cc)

    writing_off : (ending : Option ServeEnd) → k.state ≡ state.Writing ending → is.off ≡ []
    writing_off ending at = none_off (state.Writing ending) at (λ e same. absurd cc)

    looking_off : k.state ≡ state.Looking → is.off ≡ []
    looking_off at = none_off state.Looking at (λ e same. absurd cc)

    -- while it hasn't ended its peer wasn't told that no more is sent
    open_by : (s : State) → k.state ≡ s → ((e : ServeEnd) → s ≡ state.Ended e → ⊥) → (b : Bool) → v ≡ b → v ≡ false
    open_by s at never false same = same
    open_by s at never true same = let ends = is.leaving same in absurd (never ends.0 (sym at ∙ ends.1))

    reading_open : k.state ≡ state.Reading → v ≡ false
    reading_open at = open_by state.Reading at (λ e same. absurd cc) v refl

    looking_open : k.state ≡ state.Looking → v ≡ false
    looking_open at = open_by state.Looking at (λ e same. absurd cc) v refl

    writing_open : (ending : Option ServeEnd) → k.state ≡ state.Writing ending → v ≡ false
    writing_open ending at = open_by (state.Writing ending) at (λ e same. absurd cc) v refl

    -- so it may be sent something
    pub may_send : (ending : Option ServeEnd) → k.state ≡ state.Writing ending → (traffic p).hung_up ≡ false
    may_send ending at = is.hung_up ∙ writing_open ending at

    -- it was told so already
    pub was_told : v ≡ true → (traffic p).hung_up ≡ true
    was_told leaving = is.hung_up ∙ leaving

    module _ (l : Connection) (q : P) where
      pub client_heard : (piece : List ℕ) → k.state ≡ state.Reading → 0 < length piece → length piece ≤ 4096
          → IsAfterHearing k piece l → (traffic q).came ≡ (traffic p).came ++ piece
          → (traffic q).reads ≡ (traffic p).reads + 1 → (traffic q).went ≡ (traffic p).went
          → (traffic q).over ≡ (traffic p).over → (traffic q).hung_up ≡ (traffic p).hung_up
          → IsClient traffic xs (client l q f v)
      client_heard piece at some few after more one same stays hung = record {
        history = then_heard is.history piece;
        has = heard is.history k is.has at piece l some few after;
        answered = is.answered;
        off = [];
        quiet = inl refl;
        over = is.over;
        at_end = λ e. stays ∙ is.at_end e;
        read_over = λ e. stays ∙ is.read_over e;
        hung_up = hung ∙ is.hung_up;
        leaving = λ e. let clash = sym (reading_open at) ∙ e in absurd cc;
        heard = more ∙ ap (λ s. s ++ piece) (heard_all (reading_off at)) ∙ sym (append-nil (is.history.came ++ piece));
        read_off = 0;
        counted = omega (arith, one, counted_all (reading_off at));
        some_off = omega arith;
        sent = same ∙ is.sent;
      }

      pub client_ended : (piece : List ℕ) → k.state ≡ state.Reading → IsAfterEnd k l → piece ≡ []
          → (traffic q).came ≡ (traffic p).came ++ piece → (traffic q).reads ≡ (traffic p).reads
          → (traffic q).went ≡ (traffic p).went → (traffic q).over ≡ true → (traffic q).hung_up ≡ (traffic p).hung_up
          → IsClient traffic xs (client l q true v)
      client_ended piece at after empty more none same over hung = record {
        history = then_ended is.history;
        has = ended is.history k is.has at l after;
        answered = is.answered;
        off = [];
        quiet = inl refl;
        over = λ e. absurd cc;
        at_end = λ e. over;
        read_over = λ e. over;
        hung_up = hung ∙ is.hung_up;
        leaving = λ e. let clash = sym (reading_open at) ∙ e in absurd cc;
        heard = more ∙ ap (λ s. (traffic p).came ++ s) empty ∙ append-nil ((traffic p).came)
            ∙ heard_all (reading_off at)
            ∙ sym (append-nil is.history.came);
        read_off = 0;
        counted = omega (arith, none, counted_all (reading_off at));
        some_off = omega arith;
        sent = same ∙ is.sent;
      }

      pub client_sent : (ending : Option ServeEnd) (count : ℕ) → k.state ≡ state.Writing ending
          → IsAfterSending k count l → (traffic q).came ≡ (traffic p).came
          → (traffic q).reads ≡ (traffic p).reads
          → (traffic q).went ≡ (traffic p).went ++ take count (drop k.sent (outgoing_text k.reply))
          → (traffic q).over ≡ (traffic p).over → (traffic q).hung_up ≡ (traffic p).hung_up
          → IsClient traffic xs (client l q f v)
      client_sent ending count at after same none more stays hung = record {
        history = then_sent is.history (take count (pending k));
        has = sent is.history k is.has count ending l at after;
        answered = is.answered;
        off = [];
        quiet = inl refl;
        over = is.over;
        at_end = λ e. stays ∙ is.at_end e;
        read_over = λ e. stays ∙ is.read_over e;
        hung_up = hung ∙ is.hung_up;
        leaving = λ e. let clash = sym (writing_open ending at) ∙ e in absurd cc;
        heard = same ∙ heard_all (writing_off ending at) ∙ sym (append-nil is.history.came);
        read_off = 0;
        counted = omega (arith, none, counted_all (writing_off ending at));
        some_off = omega arith;
        sent = more ∙ ap (λ s. s ++ take count (pending k)) is.sent;
      }

      pub client_waits : (traffic q).came ≡ (traffic p).came → (traffic q).reads ≡ (traffic p).reads
          → (traffic q).went ≡ (traffic p).went → (traffic q).over ≡ (traffic p).over
          → (traffic q).hung_up ≡ (traffic p).hung_up → IsClient traffic xs (client k q f v)
      client_waits heard_same none sent_same stays hung = record {
        history = is.history;
        has = is.has;
        answered = is.answered;
        off = is.off;
        quiet = is.quiet;
        over = is.over;
        at_end = λ e. stays ∙ is.at_end e;
        read_over = λ e. stays ∙ is.read_over e;
        hung_up = hung ∙ is.hung_up;
        leaving = is.leaving;
        heard = heard_same ∙ is.heard;
        read_off = is.read_off;
        counted = none ∙ is.counted;
        some_off = is.some_off;
        sent = sent_same ∙ is.sent;
      }

      -- its peer is told that no more is sent
      pub client_hung_up : (e : ServeEnd) → k.state ≡ state.Ended e → traffic q ≡ then_hung_up (traffic p)
          → IsClient traffic xs (client k q f true)
      client_hung_up e at told = record {
        history = is.history;
        has = is.has;
        answered = is.answered;
        off = is.off;
        quiet = is.quiet;
        over = is.over;
        at_end = λ e. ap (λ (t : Traffic). t.over) told ∙ is.at_end e;
        read_over = λ e. ap (λ (t : Traffic). t.over) told ∙ is.read_over e;
        hung_up = ap (λ (t : Traffic). t.hung_up) told;
        leaving = λ _. (e, at);
        heard = ap (λ (t : Traffic). t.came) told ∙ is.heard;
        read_off = is.read_off;
        counted = ap (λ (t : Traffic). t.reads) told ∙ is.counted;
        some_off = is.some_off;
        sent = ap (λ (t : Traffic). t.went) told ∙ is.sent;
      }

      -- what is no longer answered is read off
      pub client_left : (e : ServeEnd) (g : Bool) (piece : List ℕ) → k.state ≡ state.Ended e → f ≡ false
          → (traffic q).came ≡ (traffic p).came ++ piece
          → (some : ℕ) × ((traffic q).reads ≡ (traffic p).reads + some) × (some ≤ length piece)
          → (traffic q).went ≡ (traffic p).went → (g ≡ true → (traffic q).over ≡ true)
          → (traffic q).hung_up ≡ (traffic p).hung_up → IsClient traffic xs (client k q g v)
      client_left e g piece at unended more (some, rise, few) same over hung = record {
        history = is.history;
        has = is.has;
        answered = is.answered;
        off = is.off ++ piece;
        quiet = inr (e, at, is.over unended);
        over = λ _. is.over unended;
        at_end = λ e. let clash = sym (is.over unended) ∙ e in absurd cc;
        read_over = over;
        hung_up = hung ∙ is.hung_up;
        leaving = λ _. (e, at);
        heard = more ∙ ap (λ s. s ++ piece) is.heard ∙ append_assoc is.history.came is.off piece;
        read_off = is.read_off + some;
        counted = omega (arith, rise, is.counted);
        some_off = omega (arith, is.some_off, few, length-append is.off piece);
        sent = same ∙ is.sent;
      }

      same_heard : k.state ≡ state.Looking → q ≡ p → (traffic q).came ≡ is.history.came ++ []
      same_heard at same =
          ap (λ (p : P). (traffic p).came) same ∙ heard_all (looking_off at) ∙ sym (append-nil is.history.came)

      same_counted : k.state ≡ state.Looking → q ≡ p → (traffic q).reads ≡ is.history.pieces + 0
      same_counted at same = omega (arith, ap (λ (p : P). (traffic p).reads) same, counted_all (looking_off at))

      -- of what waits a request was answered
      pub client_answered : {H : Type 0} (answers : H → Option ℕ → List ℕ → List ℕ → H → Type 0) (h i : H)
          (moment : Option ℕ) → k.state ≡ state.Looking → q ≡ p
          → (a : Answers answers (gives moment) (h, tt) k (i, tt) l)
          → IsClient traffic (xs ++ a.exchange ∷ []) (client l q f v)
      client_answered answers h i moment at same a = record {
        history = then_answered is.history a.exchange;
        has = answered is.history k is.has at answers (gives moment) h i tt tt l a;
        answered = ap (λ ys. ys ++ a.exchange ∷ []) is.answered;
        off = [];
        quiet = inl refl;
        over = is.over;
        at_end = λ e. ap (λ (p : P). (traffic p).over) same ∙ is.at_end e;
        read_over = λ e. ap (λ (p : P). (traffic p).over) same ∙ is.read_over e;
        hung_up = ap (λ (p : P). (traffic p).hung_up) same ∙ is.hung_up;
        leaving = λ e. let clash = sym (looking_open at) ∙ e in absurd cc;
        heard = same_heard at same;
        read_off = 0;
        counted = same_counted at same;
        some_off = omega arith;
        sent = ap (λ (p : P). (traffic p).went) same ∙ is.sent;
      }

      -- none was found in it
      pub client_looked : k.state ≡ state.Looking → q ≡ p → Waits k l ⊎ Refuses k l
          → IsClient traffic xs (client l q f v)
      client_looked at same unanswered = record {
        history = is.history;
        has = elim unanswered [
          | inl x ↦ waited is.history k is.has at l x
          | inr x ↦ refused is.history k is.has at l x
        ];
        answered = is.answered;
        off = [];
        quiet = inl refl;
        over = is.over;
        at_end = λ e. ap (λ (p : P). (traffic p).over) same ∙ is.at_end e;
        read_over = λ e. ap (λ (p : P). (traffic p).over) same ∙ is.read_over e;
        hung_up = ap (λ (p : P). (traffic p).hung_up) same ∙ is.hung_up;
        leaving = λ e. let clash = sym (looking_open at) ∙ e in absurd cc;
        heard = same_heard at same;
        read_off = 0;
        counted = same_counted at same;
        some_off = omega arith;
        sent = ap (λ (p : P). (traffic p).went) same ∙ is.sent;
      }

  -- nothing changed
  pub kept_same : (k : Client P) → IsClientKept traffic k k
  kept_same k = record { later = later_same (traffic k.peer); kept = λ xs is. is }

  pub kept_then : (k l u : Client P) → IsClientKept traffic k l → IsClientKept traffic l u → IsClientKept traffic k u
  kept_then k l u one two = record {
    later = later_then (traffic k.peer) (traffic l.peer) (traffic u.peer) one.later two.later;
    kept = λ xs is. two.kept xs (one.kept xs is);
  }

  -- it was looked at what waits
  pub kept_looked : (k l : Connection) (p : P) (f v : Bool) → k.state ≡ state.Looking → Waits k l ⊎ Refuses k l
      → IsClientKept traffic (client k p f v) (client l p f v)
  kept_looked k l p f v at unanswered =
      record { later = later_same (traffic p); kept = λ xs is. client_looked k p f v xs is l p at refl unanswered }

  module _ {H : Type 0} (service : Service H) (moment : Option ℕ) where
    -- none of its requests was answered
    pub answered_none : (h i : H) (k : Client P) → HasRested service.rests h i
        → IsClientAnswered service traffic moment h k i k
    answered_none h i k rested = record {
      later = later_same (traffic k.peer);
      answered = λ xs is. (
        [],
        inl refl,
        rest_session service.rests service.answers h i rested,
        subst (λ (ys : List Exchange). IsClient traffic ys k) (sym (append-nil xs)) is,
      );
    }

    -- the responder rested, and then one was
    pub answered_one : (h m i : H) (k l : Connection) (p : P) (f v : Bool) → HasRested service.rests h m
        → k.state ≡ state.Looking → AnswersAt service.answers moment m k i l
        → IsClientAnswered service traffic moment h (client k p f v) i (client l p f v)
    answered_one h m i k l p f v rested at (inl a) = record {
      later = later_same (traffic p);
      answered = λ xs is. (
        a.exchange ∷ [],
        inr (a.exchange, refl, a.exchanged.1),
        rested_first service.rests service.answers h m (a.exchange ∷ []) i rested
            (one_session service.rests service.answers m a.exchange i a.exchanged.2),
        client_answered k p f v xs is l p service.answers m i moment at refl a,
      );
    }
    answered_one h m i k l p f v rested at (inr (same, still, none)) =
        rw (same, still) (answered_none h m (client k p f v) rested)

    -- and then some of its reply was sent
    pub answered_sent : (h i : H) (k l u : Client P) → IsClientAnswered service traffic moment h k i l
        → IsClientKept traffic l u → IsClientAnswered service traffic moment h k i u
    answered_sent h i k l u one keeps = record {
      later = later_then (traffic k.peer) (traffic l.peer) (traffic u.peer) one.later keeps.later;
      answered = λ xs is.
          let (more, few, session, last) = one.answered xs is in (more, few, session, keeps.kept (xs ++ more) last);
    }

    pub answered_client : (h i : H) (k l : Client P) → (xs : List Exchange) × IsClient traffic xs k
        → IsClientAnswered service traffic moment h k i l → (xs : List Exchange) × IsClient traffic xs l
    answered_client h i k l (xs, is) one =
        let (more, few, session, last) = one.answered xs is in (xs ++ more, last)
