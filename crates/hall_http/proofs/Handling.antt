-- What serving a connection over a reader and a writer keeps, and how each of its ends follows.
use Rattle.std.proofs.Common.{◌≡◌, ◌∙◌, sym, ap, subst, refl, arith, ℕ, ◌+◌, ◌-◌, ◌*◌, ◌≤◌, inl, inr, List, [], ◌∷◌}
use Rattle.std.proofs.Common.{◌++◌, length, take, drop, Option, Some, None, true}
use Rattle.std.proofs.lemmas.List.{append-nil, take_all}
use Rattle.std.proofs.KnownBytes.{Appends-nil, Appends-trans, Consumes-nil, Consumes-trans}
use Rattle.std.specs.Io.KnownBytes.{Appends, Consumes, IsAtEnd}
use Rattle.hall_grid.specs.Device.{MadeCalls, Rises}
use Rattle.hall_http.specs.Outgoing.{outgoing_text}
use Rattle.hall_http.specs.Connection.{Exchange, Session, AreMoments, replies_of}
use Rattle.hall_http.specs.Device.{WritesPart, NoneFailed, ReadFailed, WriteFailed}
use Rattle.hall_http.specs.Feeding.{IsFed}
use Rattle.hall_http.specs.History.{ConnectionHistory, nothing, then_heard, then_ended, then_answered, then_sent}
use Rattle.hall_http.specs.History.{reads_of, HasHistory, StandsSo, IsReplying, IsRefusing, Ends, told_at}
use Rattle.hall_http.specs.Served.{Line, IsHandled, ConnectionEnded, IsNoRequest, refusal}
use Rattle.hall_http.specs.Steps.{pending, fresh, IsAfterSending, Looks}
use Rattle.hall_http.specs.declared.connection.Connection.{Connection}
use Rattle.hall_http.specs.declared.connection.ServeEnd.{ServeEnd}
use Rattle.hall_http.specs.declared.connection.ServeEnd.TheVariants as end
use Rattle.hall_http.specs.declared.connection.State.{State}
use Rattle.hall_http.specs.declared.connection.State.TheVariants as state
use Rattle.hall_http.proofs.Histories.{at_the_start, heard, ended, answered, waited, refused, sent, open_reads}
use Rattle.hall_http.proofs.Histories.{ended_reads, stands_at}
use Rattle.hall_http.proofs.Readings.{one_call_more, session_more}

-- a further moment is told
moments_more : {C : Type 0} (now_gives : C → Option ℕ → C → Type 0) (c : C) (xs : List Exchange) (n : C) (x : Exchange)
    (d : C)
    → AreMoments now_gives c xs n → now_gives n x.moment d → AreMoments now_gives c (xs ++ x ∷ []) d
moments_more {C} now_gives c [] n x d same told = (d, subst (λ (n : C). now_gives n x.moment d) same told, refl)
moments_more now_gives c (y ∷ ys) n x d (p, first, rest) told = (p, first, moments_more now_gives p ys n x d rest told)

-- where nothing was sent of a text
none_taken : (n : ℕ) (told text : List ℕ) → n ≡ 0 → told ++ take n text ≡ told
none_taken n told text none = rw none (append-nil told)

all_left : (n : ℕ) (text : List ℕ) → n ≡ 0 → drop n text ≡ text
all_left n text none = rw none refl

-- how much is left of a connection: each request and each read, and between them what it is at
abbrev pub rank : State → ℕ
rank (state.Writing None) = 4
rank state.Looking = 3
rank (state.Writing (Some e)) = 2
rank state.Reading = 1
rank (state.Ended e) = 0

abbrev pub left_of : Connection → ℕ
left_of k = 5 * ((1000 - k.requests) + (100001 - k.reads)) + rank k.state

-- with this left to be read, so many reads made and failed, this written and so many writes failed
abbrev pub line_at : Option (List ℕ) → ℕ → ℕ → Option (List ℕ) → ℕ → Line
line_at left reads failed written broken =
    record { left = left; reads = reads; failed = failed; written = written; broken = broken }

module _ {H C : Type 0} (answers : H → Option ℕ → List ℕ → List ℕ → H → Type 0) (now_gives : C → Option ℕ → C → Type 0)
  where
    -- after some turns
    pub record Kept (stream after wrote written : Option (List ℕ)) (h : H) (c : C) (i : H) (d : C) (k : Connection)
        (asked asks : ℕ) : Type 0 where
      pub history : ConnectionHistory
      pub has : HasHistory history k
      pub session : Session answers h history.exchanges i
      pub moments : AreMoments now_gives c history.exchanges d
      pub consumed : Consumes stream after history.came
      pub made : MadeCalls (reads_of history) asked asks
      pub at_end : history.ended ≡ true → IsAtEnd after
      pub replied : Appends wrote written history.went
      pub unsent : k.sent ≡ 0

    pub kept_start : (stream wrote : Option (List ℕ)) (h : H) (c : C) (asked : ℕ)
        → Kept stream stream wrote wrote h c h c fresh asked asked
    kept_start stream wrote h c asked = record {
      history = nothing;
      has = at_the_start;
      session = refl;
      moments = refl;
      consumed = Consumes-nil stream;
      made = inl (omega arith);
      at_end = λ e. absurd cc;
      replied = Appends-nil wrote;
      unsent = refl;
    }

    module _ (stream after wrote written : Option (List ℕ)) (h : H) (c : C) (m : H) (n : C) (k : Connection)
        (asked asks : ℕ) (kept : Kept stream after wrote written h c m n k asked asks) where
      abbrev t : ConnectionHistory
      t = kept.history

      -- it was looked at what waits
      pub kept_looked : (i : H) (d : C) (l : Connection) → k.state ≡ state.Looking
          → Looks answers now_gives (m, n) k (i, d) l → Kept stream after wrote written h c i d l asked asks
      kept_looked i d l at (inl a) = record {
        history = then_answered t a.exchange;
        has = answered t k kept.has at answers now_gives m i n d l a;
        session = session_more answers h t.exchanges m a.exchange i kept.session a.exchanged.2;
        moments = moments_more now_gives c t.exchanges n a.exchange d kept.moments a.exchanged.1;
        consumed = kept.consumed;
        made = kept.made;
        at_end = kept.at_end;
        replied = kept.replied;
        unsent = ap (λ (k : Connection). k.sent) a.left;
      }
      kept_looked i d l at (inr (both, inl w)) =
          rw (ap (λ (z : H × C). z.0) both, ap (λ (z : H × C). z.1) both) (record {
            history = t;
            has = waited t k kept.has at l w;
            session = kept.session;
            moments = kept.moments;
            consumed = kept.consumed;
            made = kept.made;
            at_end = kept.at_end;
            replied = kept.replied;
            unsent = ap (λ (k : Connection). k.sent) w.left ∙ kept.unsent;
          })
      kept_looked i d l at (inr (both, inr r)) =
          rw (ap (λ (z : H × C). z.0) both, ap (λ (z : H × C). z.1) both) (record {
            history = t;
            has = refused t k kept.has at l r;
            session = kept.session;
            moments = kept.moments;
            consumed = kept.consumed;
            made = kept.made;
            at_end = kept.at_end;
            replied = kept.replied;
            unsent = ap (λ (k : Connection). k.sent) r.left;
          })

      -- a read was made, and it failed not
      pub kept_fed : (then : Option (List ℕ)) (failed fails later : ℕ) (l : Connection) → k.state ≡ state.Reading
          → IsFed after then failed fails k l → Rises asks later
          → Kept stream then wrote written h c m n l asked later
      kept_fed then failed fails later l at (steady, inl (piece, some, few, more, is)) rise =
          let (free, unfinished, seldom) = stands_at t k state.Reading kept.has at in
          let one : reads_of (then_heard t piece) ≡ reads_of t + 1 =
          open_reads (then_heard t piece) free.more ∙ ap (λ n. n + 1) (sym (open_reads t free.more)) in
          record {
            history = then_heard t piece;
            has = heard t k kept.has at piece l some few is;
            session = kept.session;
            moments = kept.moments;
            consumed = Consumes-trans stream after then t.came piece kept.consumed more;
            made = rw one (one_call_more (reads_of t) asked asks later kept.made rise);
            at_end = λ e. let clash = sym free.more ∙ e in absurd cc;
            replied = kept.replied;
            unsent = ap (λ (k : Connection). k.sent) is ∙ kept.unsent;
          }
      kept_fed then failed fails later l at (steady, inr (none, over, is)) rise =
          let (free, unfinished, seldom) = stands_at t k state.Reading kept.has at in
          let one : reads_of (then_ended t) ≡ reads_of t + 1 = ap (λ n. n + 1) (sym (open_reads t free.more)) in
          record {
            history = then_ended t;
            has = ended t k kept.has at l is;
            session = kept.session;
            moments = kept.moments;
            consumed = subst (λ s. Consumes stream then s) (append-nil t.came)
                (Consumes-trans stream after then t.came [] kept.consumed none);
            made = rw one (one_call_more (reads_of t) asked asks later kept.made rise);
            at_end = λ e. over;
            replied = kept.replied;
            unsent = elim is [
              | inl x ↦ ap (λ (k : Connection). k.sent) x.1 ∙ kept.unsent
              | inr x ↦ ap (λ (k : Connection). k.sent) x.1
            ];
          }

      -- all that waits was written
      pub kept_written : (ending : Option ServeEnd) (then : Option (List ℕ)) (l : Connection)
          → k.state ≡ state.Writing ending → Appends written then (pending k)
          → IsAfterSending k (length (pending k)) l → Kept stream after wrote then h c m n l asked asks
      kept_written ending then l at sends is =
          let bytes : take (length (pending k)) (pending k) ≡ pending k =
          take_all (length (pending k)) (pending k) (omega arith) in
          record {
            history = then_sent t (pending k);
            has = subst (λ s. HasHistory (then_sent t s) l) bytes
                (sent t k kept.has (length (pending k)) ending l at is);
            session = kept.session;
            moments = kept.moments;
            consumed = kept.consumed;
            made = kept.made;
            at_end = kept.at_end;
            replied = Appends-trans wrote written then t.went (pending k) kept.replied sends;
            unsent = elim is [
              | inl x ↦ absurd (omega (arith, x.0))
              | inr x ↦ ap (λ (k : Connection). k.sent) x.1
            ];
          }

      -- how it ends
      module _ (failed fails broke breaks : ℕ) where
        abbrev old : Line
        old = line_at stream asked failed wrote broke

        handled : (then last : Option (List ℕ)) (pieces reads later : ℕ) (e : ServeEnd) → t.pieces ≡ pieces
            → Consumes after then [] → MadeCalls reads asked later → reads ≤ 100000
            → ConnectionEnded e old (line_at then later fails last breaks) t.exchanges k.inbox pieces reads
            → IsHandled answers now_gives old (h, c) (line_at then later fails last breaks) (m, n) e
        handled then last pieces reads later e same none made seldom ended = record {
          exchanges = t.exchanges;
          unread = k.inbox;
          pieces = pieces;
          reads = reads;
          session = kept.session;
          whole = kept.has.whole;
          moments = kept.moments;
          few = kept.has.few;
          seldom = seldom;
          made = made;
          reading = rw same at kept.has.reading;
          consumed = rw kept.has.came at
              (subst (λ s. Consumes stream then s) (append-nil t.came)
              (Consumes-trans stream after then t.came [] kept.consumed none));
          bounded = kept.has.bounded;
          ended = ended;
        }

        reads_more : t.ended ≡ true → reads_of t ≡ t.pieces + 1
        reads_more over = ended_reads t over

        no_request : Ends end.BadHead t k.inbox → IsNoRequest after k.inbox t.pieces (reads_of t)
        no_request (goes_on, inl (some, unfinished, over)) = inl (some, unfinished, kept.at_end over, reads_more over)
        no_request (goes_on, inr (never, more)) = inr (never, open_reads t more)

        ended_by : (e : ServeEnd) → t.went ≡ told_at e t.exchanges → Ends e t k.inbox
            → NoneFailed failed fails broke breaks
            → ConnectionEnded e old (line_at after asks fails written breaks) t.exchanges k.inbox t.pieces (reads_of t)
        ended_by end.Closed told (inl (goes_on, empty, over)) steady =
            (rw told at kept.replied, steady, inl (goes_on, empty, kept.at_end over, reads_more over))
        ended_by end.Closed told (inr (closes, more)) steady =
            (rw told at kept.replied, steady, inr (closes, open_reads t more))
        ended_by end.BadHead told (goes_on, why) steady =
            (rw told at kept.replied, steady, goes_on, no_request (goes_on, why))
        ended_by end.Limit told (opened, more, inl all) steady =
            (rw told at kept.replied, steady, opened, open_reads t more, inl all)
        ended_by end.Limit told (opened, more, inr (fewer, all, unfinished)) steady = (
          rw told at kept.replied,
          steady,
          opened,
          open_reads t more,
          inr
              (fewer, open_reads t more ∙ all, unfinished),
        )
        ended_by end.Device told why steady = absurd why

        pub has_ended : (e : ServeEnd) → k.state ≡ state.Ended e → NoneFailed failed fails broke breaks
            → IsHandled answers now_gives old (h, c) (line_at after asks fails written breaks) (m, n) e
        has_ended e at steady =
            let (told, why) = stands_at t k (state.Ended e) kept.has at in
            handled after written t.pieces (reads_of t) asks e refl (Consumes-nil after) kept.made kept.has.seldom
            (ended_by e told why steady)

        -- a read failed
        pub read_failed : (then : Option (List ℕ)) (later : ℕ) → k.state ≡ state.Reading → Consumes after then []
            → Rises asks later → ReadFailed failed fails broke breaks
            → IsHandled answers now_gives old (h, c) (line_at then later fails written breaks) (m, n)
            end.Device
        read_failed then later at none rise rose =
            let (free, unfinished, seldom) = stands_at t k state.Reading kept.has at in
            let made = rw (open_reads t free.more) at (one_call_more (reads_of t) asked asks later kept.made rise) in
            handled then written t.pieces (t.pieces + 1) later end.Device refl none made (omega (arith, seldom))
            (inl (rw free.told at kept.replied, rose, free.goes_on, unfinished, refl))

        -- a write failed
        replying_failed : (then : Option (List ℕ)) → IsReplying t k → WritesPart written then (pending k)
            → WriteFailed failed fails broke breaks
            → IsHandled answers now_gives old (h, c) (line_at after asks fails then breaks) (m, n) end.Device
        replying_failed then r part rose =
            let told : t.went ≡ replies_of r.before =
            r.told ∙ none_taken k.sent (replies_of r.before) r.last.reply kept.unsent in
            let text : pending k ≡ r.last.reply = all_left k.sent (outgoing_text k.reply) kept.unsent ∙ r.reply in
            handled after then t.pieces (reads_of t) asks end.Device refl (Consumes-nil after) kept.made kept.has.seldom
            (inr (inl (
              (r.before, r.last, written, r.is_last, r.opened, rw told at kept.replied, rw text at part),
              rose,
              open_reads t r.more,
            )))

        refusing_failed : (then : Option (List ℕ)) → IsRefusing t k → Ends end.BadHead t k.inbox
            → WritesPart written then (pending k) → WriteFailed failed fails broke breaks
            → IsHandled answers now_gives old (h, c) (line_at after asks fails then breaks) (m, n) end.Device
        refusing_failed then r (goes_on, why) part rose =
            let told : t.went ≡ replies_of t.exchanges =
            r.told ∙ none_taken k.sent (replies_of t.exchanges) refusal kept.unsent in
            let text : pending k ≡ refusal = all_left k.sent (outgoing_text k.reply) kept.unsent ∙ r.reply in
            handled after then t.pieces (reads_of t) asks end.Device refl (Consumes-nil after) kept.made kept.has.seldom
            (inr (inr (
              (written, goes_on, rw told at kept.replied, rw text at part),
              rose,
              no_request (goes_on, why),
            )))

        failed_at : (then : Option (List ℕ)) (ending : Option ServeEnd) → StandsSo (state.Writing ending) t k
            → WritesPart written then (pending k) → WriteFailed failed fails broke breaks
            → IsHandled answers now_gives old (h, c) (line_at after asks fails then breaks) (m, n) end.Device
        failed_at then None (r, goes_on) part rose = replying_failed then r part rose
        failed_at then (Some end.Closed) (r, why) part rose = replying_failed then r part rose
        failed_at then (Some end.Limit) (r, why) part rose = replying_failed then r part rose
        failed_at then (Some end.BadHead) (r, why) part rose = refusing_failed then r why part rose
        failed_at then (Some end.Device) (r, why) part rose = absurd why

        pub write_failed : (then : Option (List ℕ)) (ending : Option ServeEnd) → k.state ≡ state.Writing ending
            → WritesPart written then (pending k) → WriteFailed failed fails broke breaks
            → IsHandled answers now_gives old (h, c) (line_at after asks fails then breaks) (m, n) end.Device
        write_failed then ending at part rose =
            failed_at then ending (stands_at t k (state.Writing ending) kept.has at) part rose
