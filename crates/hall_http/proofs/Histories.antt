-- What each step of a connection makes of its history.
use Rattle.std.proofs.Common.{◌≡◌, ◌≢◌, ◌∙◌, sym, ap, subst, refl, arith, ℕ, ◌+◌, ◌<◌, ◌≤◌, ◌==◌, inl, inr, List, []}
use Rattle.std.proofs.Common.{◌∷◌, ◌++◌, if◌then◌else◌, length, take, drop, Option, Some, None, append_assoc}
use Rattle.std.proofs.Common.{length-append, length-drop, true, false}
use Rattle.std.specs.Prelude.{Bool}
use Rattle.std.proofs.lemmas.Bool.{eqb-true}
use Rattle.std.proofs.lemmas.List.{append-nil, take-append-drop, take_all}
use Rattle.std.proofs.Math.Seq.{take-add}
use Rattle.std.proofs.lemmas.List.Concat.{flat_map-append}
use Rattle.std.proofs.lemmas.List.Elements.{All-nil, All-push}
use Rattle.hall_http.specs.Outgoing.{outgoing_text}
use Rattle.hall_http.specs.Connection.{Exchange, requests_of, replies_of, AreOpen, LeavesOpen}
use Rattle.hall_http.specs.Head.{IsWholeRequest, IsUnfinished, IsUnfinishedBelow}
use Rattle.hall_http.specs.History.{ConnectionHistory, nothing, then_heard, then_ended, then_answered, then_sent}
use Rattle.hall_http.specs.History.{reads_of, HasHistory, StandsSo, IsOpenAndIdle, IsReplying, IsRefusing}
use Rattle.hall_http.specs.Reading.{at_first, after_read, after_answer}
use Rattle.hall_http.specs.Served.{HaveRead, IsLastRequest, refusal}
use Rattle.hall_http.specs.Steps.{pending, fresh, IsAfterHearing, IsAfterEnd, IsAfterSending, Answers, Waits, Refuses}
use Rattle.hall_http.specs.Steps.{EndsAfter, after_reply}
use Rattle.hall_http.specs.declared.connection.Connection.{Connection}
use Rattle.hall_http.specs.declared.connection.ServeEnd.{ServeEnd}
use Rattle.hall_http.specs.declared.connection.ServeEnd.TheVariants as end
use Rattle.hall_http.specs.declared.connection.State.{State}
use Rattle.hall_http.specs.declared.connection.State.TheVariants as state
use Rattle.hall_http.specs.declared.outgoing.Outgoing.{Outgoing}
use Rattle.hall_http.specs.declared.outgoing.Outgoing.TheVariants.{Refusal, Nothing}
use Rattle.hall_http.proofs.Heads.{below_none, below_more}
use Rattle.hall_http.proofs.Refusals.{refusal_text}

pub requests_more : (xs : List Exchange) (x : Exchange) → requests_of (xs ++ x ∷ []) ≡ requests_of xs ++ x.request
requests_more xs x =
    flat_map-append (λ x. x.request) xs (x ∷ []) ∙ ap (λ s. requests_of xs ++ s) (append-nil x.request)

pub replies_more : (xs : List Exchange) (x : Exchange) → replies_of (xs ++ x ∷ []) ≡ replies_of xs ++ x.reply
replies_more xs x = flat_map-append (λ x. x.reply) xs (x ∷ []) ∙ ap (λ s. replies_of xs ++ s) (append-nil x.reply)

pub not_nil : (xs : List ℕ) → 0 < length xs → xs ≢ []
not_nil xs some e = let z : length xs ≡ 0 = ap length e in omega arith

pub open_reads : (t : ConnectionHistory) → t.ended ≡ false → reads_of t ≡ t.pieces
open_reads t more = rw more (omega arith)

pub ended_reads : (t : ConnectionHistory) → t.ended ≡ true → reads_of t ≡ t.pieces + 1
ended_reads t over = rw over (omega arith)

-- of a connection that just came
pub at_the_start : HasHistory nothing fresh
at_the_start = record {
  came = refl;
  reading = at_first;
  whole = All-nil (λ x. IsWholeRequest x.request);
  requests = refl;
  few = omega arith;
  reads = refl;
  seldom = omega arith;
  bounded = omega arith;
  below = below_none [];
  inside = omega arith;
  stands = record { goes_on = (All-nil (λ x. LeavesOpen x.request), omega arith); more = refl; told = refl };
}

pub stands_at : (t : ConnectionHistory) (k : Connection) (s : State) → HasHistory t k → k.state ≡ s → StandsSo s t k
stands_at t k s h e = subst (λ (s : State). StandsSo s t k) e h.stands

module _ (t : ConnectionHistory) (k : Connection) (h : HasHistory t k) where
  -- no more bytes were heard, and no further request was answered
  as_before : (over : Bool) (went : List ℕ) (least : ℕ) (reply : Outgoing) (sent reads : ℕ) (s : State)
      → reads ≡ reads_of (record t { ended = over; went = went })
      → reads_of (record t { ended = over; went = went }) ≤ 100000 → IsUnfinishedBelow least k.inbox
      → sent ≤ length (outgoing_text reply)
      → StandsSo s (record t { ended = over; went = went })
      (record k { least = least; reply = reply; sent = sent; reads = reads; state = s })
      → HasHistory (record t { ended = over; went = went })
      (record k { least = least; reply = reply; sent = sent; reads = reads; state = s })
  as_before over went least reply sent reads s counted seldom below inside stands = record {
    came = h.came;
    reading = h.reading;
    whole = h.whole;
    requests = h.requests;
    few = h.few;
    reads = counted;
    seldom = seldom;
    bounded = h.bounded;
    below = below;
    inside = inside;
    stands = stands;
  }

  -- some more bytes were heard
  module _ (at : k.state ≡ state.Reading) where
    reading_now : IsOpenAndIdle t × IsUnfinished k.inbox × (t.pieces < 100000)
    reading_now = stands_at t k state.Reading h at

    pub heard : (piece : List ℕ) (l : Connection) → 0 < length piece → length piece ≤ 4096 → IsAfterHearing k piece l
        → HasHistory (then_heard t piece) l
    heard piece l some small is =
        let (free, unfinished, seldom) = reading_now in
        let before : reads_of t ≡ t.pieces = open_reads t free.more in
        let after : reads_of (then_heard t piece) ≡ t.pieces + 1 = open_reads (then_heard t piece) free.more in
        subst (HasHistory (then_heard t piece)) (sym is) (record {
          came = ap (λ s. s ++ piece) h.came ∙ append_assoc (requests_of t.exchanges) k.inbox piece;
          reading = after_read t.exchanges t.pieces k.inbox piece h.reading unfinished some small;
          whole = h.whole;
          requests = h.requests;
          few = h.few;
          reads = ap (λ n. n + 1) (h.reads ∙ before) ∙ sym after;
          seldom = omega (arith, after, seldom);
          bounded = omega (arith, length-append k.inbox piece, unfinished.short);
          below = below_more k.least k.inbox piece h.below;
          inside = h.inside;
          stands = record { goes_on = free.goes_on; more = free.more; told = free.told };
        })

    -- the end of the input was heard
    pub ended : (l : Connection) → IsAfterEnd k l → HasHistory (then_ended t) l
    ended l (inl (empty, is)) =
        let (free, unfinished, seldom) = reading_now in
        let before : reads_of t ≡ t.pieces = open_reads t free.more in
        subst (HasHistory (then_ended t)) (sym is)
        (as_before true t.went k.least k.reply k.sent (k.reads + 1) (state.Ended end.Closed)
        (ap (λ n. n + 1) (h.reads ∙ before)) (omega (arith, seldom)) h.below h.inside
        (free.told, inl (free.goes_on, empty, refl)))
    ended l (inr (some, is)) =
        let (free, unfinished, seldom) = reading_now in
        let before : reads_of t ≡ t.pieces = open_reads t free.more in
        subst (HasHistory (then_ended t)) (sym is)
        (as_before true t.went k.least Refusal 0 (k.reads + 1) (state.Writing (Some end.BadHead))
        (ap (λ n. n + 1) (h.reads ∙ before)) (omega (arith, seldom)) h.below (omega arith) (
          record { reply = refusal_text; told = free.told ∙ sym (append-nil (replies_of t.exchanges)) },
          (free.goes_on, inl (not_nil k.inbox some, unfinished, refl)),
        ))

  -- it was looked at what waits
  module _ (at : k.state ≡ state.Looking) where
    free_now : IsOpenAndIdle t
    free_now = stands_at t k state.Looking h at

    module _ {H C : Type 0} (answers : H → Option ℕ → List ℕ → List ℕ → H → Type 0)
        (now_gives : C → Option ℕ → C → Type 0) (m i : H) (c d : C) (l : Connection)
        (a : Answers answers now_gives (m, c) k (i, d) l) where
      abbrev x : Exchange
      x = a.exchange

      abbrev xs : List Exchange
      xs = t.exchanges

      abbrev next : Connection
      next = record k {
        inbox = drop a.size k.inbox;
        least = 0;
        reply = l.reply;
        sent = 0;
        requests = k.requests + 1;
        state = state.Writing a.ending;
      }

      same_bytes : requests_of (xs ++ x ∷ []) ++ drop a.size k.inbox ≡ requests_of xs ++ k.inbox
      same_bytes =
          ap (λ s. s ++ drop a.size k.inbox) (requests_more xs x ∙ ap (λ s. requests_of xs ++ s) a.front)
          ∙ append_assoc (requests_of xs) (take a.size k.inbox) (drop a.size k.inbox)
          ∙ ap (λ s. requests_of xs ++ s) (take-append-drop a.size k.inbox)

      before_it : HaveRead xs t.pieces (x.request ++ drop a.size k.inbox)
      before_it =
          subst (HaveRead xs t.pieces)
          (sym (ap (λ s. s ++ drop a.size k.inbox) a.front ∙ take-append-drop a.size k.inbox)) h.reading

      is_last : IsLastRequest xs x (xs ++ x ∷ []) t.pieces (drop a.size k.inbox)
      is_last = record { all = refl; reading = before_it }

      one_more : length (xs ++ x ∷ []) ≡ k.requests + 1
      one_more = length-append xs (x ∷ []) ∙ ap (λ n. n + 1) (sym h.requests)

      replying : IsReplying (then_answered t x) next
      replying = record {
        before = xs;
        last = x;
        is_last = is_last;
        more = free_now.more;
        opened = free_now.goes_on.0;
        reply = a.reply;
        told = free_now.told ∙ sym (append-nil (replies_of xs));
      }

      opened : LeavesOpen x.request → AreOpen (xs ++ x ∷ [])
      opened stays = All-push (λ x. LeavesOpen x.request) xs x free_now.goes_on.0 stays

      goes_on : (ending : Option ServeEnd) → EndsAfter x.request (k.requests + 1) ending
          → StandsSo (state.Writing ending) (then_answered t x) next
      goes_on None (stays, other) =
          (replying, (opened stays, omega (arith, one_more, h.requests, free_now.goes_on.1, other)))
      goes_on (Some end.Closed) shut =
          (replying, inr ((xs, x, is_last, free_now.goes_on.0, shut), free_now.more))
      goes_on (Some end.Limit) (stays, all) =
          (replying, (opened stays, free_now.more, inl (one_more ∙ all, (xs, x, is_last))))
      goes_on (Some end.BadHead) never = absurd never
      goes_on (Some end.Device) never = absurd never

      pub answered : HasHistory (then_answered t x) l
      answered =
          subst (HasHistory (then_answered t x)) (sym a.left) (record {
            came = h.came ∙ sym same_bytes;
            reading = after_answer xs t.pieces (drop a.size k.inbox) x before_it;
            whole = All-push (λ x. IsWholeRequest x.request) xs x h.whole a.exchanged.0;
            requests = sym one_more;
            few = omega (arith, one_more, h.requests, free_now.goes_on.1);
            reads = h.reads;
            seldom = h.seldom;
            bounded = omega (arith, h.bounded, length-drop a.size k.inbox);
            below = below_none (drop a.size k.inbox);
            inside = omega arith;
            stands = goes_on a.ending a.ends;
          })

    waits_at : (b : Bool) → (k.reads == 100000) ≡ b → (w : ℕ) → IsUnfinished k.inbox
        → StandsSo (if b then state.Ended end.Limit else state.Reading) t
        (record k { least = w; state = if b then state.Ended end.Limit else state.Reading })
    waits_at true e w unfinished =
        let reads : reads_of t ≡ t.pieces = open_reads t free_now.more in
        let all : k.reads ≡ 100000 = eqb-true _ _ e in (
          free_now.told,
          (free_now.goes_on.0, free_now.more, inr (free_now.goes_on.1, omega (arith, reads, all, h.reads), unfinished)),
        )
    waits_at false e w unfinished =
        let reads : reads_of t ≡ t.pieces = open_reads t free_now.more in
        let other : k.reads ≢ 100000 = λ same. grind (arith, e, same) in (
          free_now,
          unfinished,
          omega (arith, reads, other, h.reads, h.seldom),
        )

    pub waited : (l : Connection) → Waits k l → HasHistory t l
    waited l w =
        subst (HasHistory t) (sym w.left)
        (as_before t.ended t.went l.least k.reply k.sent k.reads
        (if k.reads == 100000 then state.Ended end.Limit else state.Reading) h.reads h.seldom w.below h.inside
        (waits_at (k.reads == 100000) refl l.least w.unfinished))

    pub refused : (l : Connection) → Refuses k l → HasHistory t l
    refused l r =
        subst (HasHistory t) (sym r.left)
        (as_before t.ended t.went k.least Refusal 0 k.reads (state.Writing (Some end.BadHead)) h.reads h.seldom h.below
        (omega arith) (
          record { reply = refusal_text; told = free_now.told ∙ sym (append-nil (replies_of t.exchanges)) },
          (free_now.goes_on, inr (r.never, free_now.more)),
        ))

  -- a part of what waits was sent
  part_sent : (told text last : List ℕ) (n count : ℕ) → text ≡ last
      → (told ++ take n last) ++ take count (drop n text) ≡ told ++ take (n + count) last
  part_sent told text last n count same =
      append_assoc told (take n last) (take count (drop n text))
      ∙ ap (λ s. told ++ s) (ap (λ r. take n last ++ take count (drop n r)) same ∙ sym (take-add n count last))

  all_sent : (told text last : List ℕ) (n count : ℕ) → text ≡ last → count ≡ length (drop n text)
      → (told ++ take n last) ++ take count (drop n text) ≡ told ++ last
  all_sent told text last n count same all =
      append_assoc told (take n last) (take count (drop n text))
      ∙ ap (λ s. told ++ s)
      (ap (λ s. take n last ++ s) (take_all count (drop n text) (omega (arith, all)) ∙ ap (drop n) same)
      ∙ take-append-drop n last)

  -- so many of the bytes that wait were sent
  module _ (count : ℕ) where
    abbrev bytes : List ℕ
    bytes = take count (pending k)

    abbrev after : ConnectionHistory
    after = then_sent t bytes

    module _ (r : IsReplying t k) where
      replying_on : IsReplying after (record k { sent = k.sent + count })
      replying_on = record {
        before = r.before;
        last = r.last;
        is_last = r.is_last;
        more = r.more;
        opened = r.opened;
        reply = r.reply;
        told = ap (λ s. s ++ bytes) r.told
            ∙ part_sent (replies_of r.before) (outgoing_text k.reply) r.last.reply k.sent count r.reply;
      }

      replied : count ≡ length (pending k) → after.went ≡ replies_of t.exchanges
      replied all =
          ap (λ s. s ++ bytes) r.told
          ∙ all_sent (replies_of r.before) (outgoing_text k.reply) r.last.reply k.sent count r.reply all
          ∙ sym (ap replies_of r.is_last.all ∙ replies_more r.before r.last)

    module _ (r : IsRefusing t k) where
      refusing_on : IsRefusing after (record k { sent = k.sent + count })
      refusing_on = record {
        reply = r.reply;
        told = ap (λ s. s ++ bytes) r.told
            ∙ part_sent (replies_of t.exchanges) (outgoing_text k.reply) refusal k.sent count r.reply;
      }

      refused_whole : count ≡ length (pending k) → after.went ≡ replies_of t.exchanges ++ refusal
      refused_whole all =
          ap (λ s. s ++ bytes) r.told
          ∙ all_sent (replies_of t.exchanges) (outgoing_text k.reply) refusal k.sent count r.reply all

    part_stands : (ending : Option ServeEnd) → StandsSo (state.Writing ending) t k
        → StandsSo (state.Writing ending) after (record k { sent = k.sent + count })
    part_stands None (r, goes_on) = (replying_on r, goes_on)
    part_stands (Some end.Closed) (r, why) = (replying_on r, why)
    part_stands (Some end.Limit) (r, why) = (replying_on r, why)
    part_stands (Some end.BadHead) (r, why) = (refusing_on r, why)
    part_stands (Some end.Device) (r, why) = absurd why

    whole_stands : (ending : Option ServeEnd) → count ≡ length (pending k) → StandsSo (state.Writing ending) t k
        → StandsSo (after_reply (state.Writing ending)) after
        (record k { sent = 0; reply = Nothing; state = after_reply (state.Writing ending) })
    whole_stands None all (r, goes_on) = record { goes_on = goes_on; more = r.more; told = replied r all }
    whole_stands (Some end.Closed) all (r, why) = (replied r all, why)
    whole_stands (Some end.Limit) all (r, why) = (replied r all, why)
    whole_stands (Some end.BadHead) all (r, why) = (refused_whole r all, why)
    whole_stands (Some end.Device) all (r, why) = absurd why

    pub sent : (ending : Option ServeEnd) (l : Connection) → k.state ≡ state.Writing ending → IsAfterSending k count l
        → HasHistory after l
    sent ending l at (inl (part, is)) =
        subst (HasHistory after) (sym is)
        (as_before t.ended after.went k.least k.reply (k.sent + count) k.reads k.state h.reads h.seldom h.below
        (omega (arith, part, h.inside, length-drop k.sent (outgoing_text k.reply)))
        (subst (λ (s : State). StandsSo s after (record k { sent = k.sent + count })) (sym at)
        (part_stands ending (stands_at t k (state.Writing ending) h at))))
    sent ending l at (inr (all, is)) =
        subst (HasHistory after) (sym (is ∙ ap (λ (s : State). record k
        { sent = 0; reply = Nothing; state = after_reply s }) at))
        (as_before t.ended after.went k.least Nothing 0 k.reads (after_reply (state.Writing ending)) h.reads h.seldom
        h.below
        (omega arith) (whole_stands ending all (stands_at t k (state.Writing ending) h at)))
