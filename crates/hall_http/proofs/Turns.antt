-- What the loop of a replay keeps, and how each of its ends follows.
use Rattle.std.proofs.Common.{◌≡◌, ◌∙◌, sym, ap, subst, refl, arith, ℕ, zero, suc, ◌+◌, ◌<◌, ◌≤◌, inl, inr, List, []}
use Rattle.std.proofs.Common.{◌∷◌, ◌++◌, length, take, drop, Option, Some, append_assoc, length-append, length-drop}
use Rattle.std.specs.Prelude.{Result, Ok, Err, false, All, MatchResult}
use Rattle.std.proofs.lemmas.List.{append-nil, take-append-drop, map-append}
use Rattle.std.proofs.lemmas.List.Concat.{flat_map-append}
use Rattle.std.proofs.lemmas.List.Elements.{All-nil, All-push}
use Rattle.std.proofs.KnownBytes.{Appends-nil, Appends-trans, Consumes-nil, Consumes-trans}
use Rattle.std.specs.Io.KnownBytes.{Appends, Consumes}
use Rattle.hall_grid.specs.Device.{MadeCalls, Rises}
use Rattle.hall_store.specs.Store.{Content, IsSettled}
use Rattle.hall_store.proofs.Knowing.{leads_same}
use Rattle.hall_http.specs.declared.fault.ReplayFault.{ReplayFault}
use Rattle.hall_http.specs.declared.fault.ReplayFault.TheVariants as fault
use Rattle.hall_http.specs.Device.{WritesPart, NoneFailed, ReadFailed, WriteFailed}
use Rattle.hall_http.specs.Reading.{at_first, after_read, after_answer}
use Rattle.hall_http.specs.Records.{Record, IsRecord, record_bytes, header_of, NeverHasRecord, IsCut}
use Rattle.hall_http.specs.Records.{IsUnfinishedRecord, bytes_between}
use Rattle.hall_http.specs.Served.{Line}
use Rattle.hall_http.specs.Serving.{AreAnswered, IsAnsweredOver}
use Rattle.hall_http.specs.Replay.{AnsweredRecord, exchange_of, exchanges_of_records, records_of, reply_bytes_of}
use Rattle.hall_http.specs.Replay.{IsReplayed, ReplayEnded, HaveReadRecords}
use Rattle.hall_http.proofs.Readings.{one_call_more, session_more}
use Rattle.hall_http.specs.Inbox.{ReadsMore}
use Rattle.hall_http.proofs.Handling.{line_at}
use Rattle.hall_http.proofs.Histories.{not_nil}
use Rattle.hall_http.proofs.Runs.{session_leads, session_runs, session_stops}

records_more : (xs : List AnsweredRecord) (x : AnsweredRecord) → records_of (xs ++ x ∷ []) ≡ records_of xs
    ++ record_bytes x.asked
records_more xs x =
    flat_map-append (λ x. record_bytes x.asked) xs (x ∷ [])
    ∙ ap (λ s. records_of xs ++ s) (append-nil (record_bytes x.asked))

replies_more : (xs : List AnsweredRecord) (x : AnsweredRecord) → reply_bytes_of (xs ++ x ∷ []) ≡ reply_bytes_of xs
    ++ x.reply
replies_more xs x = flat_map-append (λ x. x.reply) xs (x ∷ []) ∙ ap (λ s. reply_bytes_of xs ++ s) (append-nil x.reply)

exchanges_more : (xs : List AnsweredRecord) (x : AnsweredRecord)
    → exchanges_of_records (xs ++ x ∷ []) ≡ exchanges_of_records xs ++ exchange_of x ∷ []
exchanges_more xs x = map-append exchange_of xs (x ∷ [])

-- a whole record is at least a byte
pub some_record : (bytes : List ℕ) (r : Record) (start end : ℕ) → IsCut bytes r start end → 0 < end
some_record bytes r start zero h =
    let none : length (take 0 bytes) ≡ length (record_bytes r) = ap length h.whole in
    absurd (omega (arith, length-append (header_of r.moment (length r.request)) (10 ∷ r.request)))
some_record bytes r start (suc end) h = omega arith

-- a record may follow where there are no bytes
pub never_nil : NeverHasRecord [] → ⊥
never_nil h =
    let r : Record = record { moment = 0; request = [] } in
    h (record_bytes r) r [] (record { moment = omega arith; size = omega arith }) (sym (append-nil (record_bytes r)))

-- after some turns: the records answered, and what was read after them
pub record Kept {H : Type 0} (content : H → Content) (stream after wrote written : Option (List ℕ)) (old new : H)
    (inbox : List ℕ) (reads asked asks : ℕ) : Type 0 where
  pub done : List AnsweredRecord
  pub settled : IsSettled (content old)
  pub session : AreAnswered content old (exchanges_of_records done) new
  pub whole : All (λ x. IsRecord x.asked) done
  pub consumed : Consumes stream after (records_of done ++ inbox)
  pub reading : HaveReadRecords done reads inbox
  pub made : MadeCalls reads asked asks
  pub replied : Appends wrote written (reply_bytes_of done)
  pub bounded : length inbox ≤ 81920

module _ {H : Type 0} (content : H → Content) where
  pub kept_start : (stream wrote : Option (List ℕ)) (store : H) (asked : ℕ) → IsSettled (content store)
      → Kept content stream stream wrote wrote store store [] 0 asked asked
  kept_start stream wrote store asked settled =
      record {
        done = [];
        settled = settled;
        session = refl;
        whole = All-nil (λ x. IsRecord x.asked);
        consumed = Consumes-nil stream;
        reading = at_first;
        made = inl (omega arith);
        replied = Appends-nil wrote;
        bounded = omega arith;
      }

  module _ (stream after wrote written : Option (List ℕ)) (old new : H) (inbox : List ℕ) (reads asked asks : ℕ)
      (kept : Kept content stream after wrote written old new inbox reads asked asks) where
    abbrev was_at : ℕ → ℕ → Line
    was_at failed broke = line_at stream asked failed wrote broke

    pub kept_read : (then : Option (List ℕ)) (piece : List ℕ) (later : ℕ) → IsUnfinishedRecord inbox → 0 < length piece
        → length piece ≤ 4096 → Consumes after then piece → Rises asks later
        → Kept content stream then wrote written old new (inbox ++ piece) (reads + 1) asked later
    kept_read then piece later unfinished some few more rise =
        let all : records_of kept.done ++ (inbox ++ piece) ≡ (records_of kept.done ++ inbox) ++ piece =
        sym (append_assoc (records_of kept.done) inbox piece) in
        record {
          done = kept.done;
          settled = kept.settled;
          session = kept.session;
          whole = kept.whole;
          consumed = rw all (Consumes-trans stream after then (records_of kept.done ++ inbox) piece kept.consumed more);
          reading = after_read kept.done reads inbox piece kept.reading unfinished some few;
          made = one_call_more reads asked asks later kept.made rise;
          replied = kept.replied;
          bounded = omega (arith, length-append inbox piece, unfinished.1);
        }

    shorter : (size : ℕ) → length (drop size inbox) ≤ 81920
    shorter size = omega (arith, kept.bounded, length-drop size inbox)

    module _ (r : Record) (start end : ℕ) (text : List ℕ) (next : H) (cut : IsCut inbox r start end)
        (says : IsAnsweredOver content new (Some r.moment) (bytes_between inbox start end) text next) where
      abbrev x : AnsweredRecord
      x = record { asked = r; reply = text }

      same_bytes : records_of (kept.done ++ x ∷ []) ++ drop end inbox ≡ records_of kept.done ++ inbox
      same_bytes =
          ap (λ s. s ++ drop end inbox) (records_more kept.done x ∙ ap (λ s. records_of kept.done ++ s) (sym cut.whole))
          ∙ append_assoc (records_of kept.done) (take end inbox) (drop end inbox)
          ∙ ap (λ s. records_of kept.done ++ s) (take-append-drop end inbox)

      abbrev all : List AnsweredRecord
      all = kept.done ++ x ∷ []

      longer : AreAnswered content old (exchanges_of_records all) next
      longer =
          rw (exchanges_more kept.done x)
          (session_more (IsAnsweredOver content) old (exchanges_of_records kept.done) new (exchange_of x) next
          kept.session
          (subst (λ s. IsAnsweredOver content new (Some r.moment) s text next) (sym cut.request) says))

      whole_all : All (λ x. IsRecord x.asked) all
      whole_all = All-push (λ x. IsRecord x.asked) kept.done x kept.whole cut.is

      before_it : HaveReadRecords kept.done reads (record_bytes r ++ drop end inbox)
      before_it =
          subst (HaveReadRecords kept.done reads)
          (sym (ap (λ s. s ++ drop end inbox) (sym cut.whole) ∙ take-append-drop end inbox)) kept.reading

      after_it : HaveReadRecords all reads (drop end inbox)
      after_it = after_answer kept.done reads (drop end inbox) x before_it

      pub kept_answered : (then : Option (List ℕ)) → Appends written then text
          → Kept content stream after wrote then old next (drop end inbox) reads asked asks
      kept_answered then sent = record {
        done = all;
        settled = kept.settled;
        session = longer;
        whole = whole_all;
        consumed = rw same_bytes kept.consumed;
        reading = after_it;
        made = kept.made;
        replied = rw (replies_more kept.done x)
            (Appends-trans wrote written then (reply_bytes_of kept.done) text kept.replied sent);
        bounded = shorter end;
      }

      -- the text couldn't be written whole
      pub unsent : {U : Type 0} (then : Option (List ℕ)) (failed fails broke breaks : ℕ) → reads ≤ 1000000000
          → WritesPart written then text → WriteFailed failed fails broke breaks
          → IsReplayed {U = U} content (was_at failed broke) old
          (line_at after asks fails then breaks) next
          (Err fault.Device)
      unsent then failed fails broke breaks seldom part rose = record {
        records = all;
        unread = drop end inbox;
        pieces = reads;
        reads = reads;
        settled = kept.settled;
        answered = longer;
        whole = whole_all;
        leads = session_leads content old (exchanges_of_records all) next longer;
        run = session_runs content old (exchanges_of_records all) next longer;
        stops = session_stops content old (exchanges_of_records all) next kept.settled longer;
        seldom = seldom;
        made = kept.made;
        reading = after_it;
        consumed = rw same_bytes kept.consumed;
        bounded = shorter end;
        ended = inr (
          (kept.done, x, written, record { all = refl; reading = before_it }, kept.replied, part),
          rose,
          refl,
        );
      }

    one_read : (later : ℕ) → Rises asks later → MadeCalls (reads + 1) asked later
    one_read later rise = one_call_more reads asked asks later kept.made rise

    module _ {U : Type 0} (failed fails broke breaks : ℕ) where
      -- how it ends with no further record answered
      ends : (then : Option (List ℕ)) (total later : ℕ) (end : Result U ReplayFault) → Consumes after then []
          → MadeCalls total asked later → total ≤ 1000000000
          → ReplayEnded end (was_at failed broke) (line_at then later fails written breaks) kept.done inbox reads
          total
          → IsReplayed {U = U} content (was_at failed broke) old (line_at then later fails written breaks) new end
      ends then total later end none made seldom ended = record {
        records = kept.done;
        unread = inbox;
        pieces = reads;
        reads = total;
        settled = kept.settled;
        answered = kept.session;
        whole = kept.whole;
        leads = session_leads content old (exchanges_of_records kept.done) new kept.session;
        run = session_runs content old (exchanges_of_records kept.done) new kept.session;
        stops = session_stops content old (exchanges_of_records kept.done) new kept.settled kept.session;
        seldom = seldom;
        made = made;
        reading = kept.reading;
        consumed = subst (λ s. Consumes stream then s) (append-nil (records_of kept.done ++ inbox))
            (Consumes-trans stream after then (records_of kept.done ++ inbox) [] kept.consumed none);
        bounded = kept.bounded;
        ended = ended;
      }

      pub too_many : IsUnfinishedRecord inbox → reads ≡ 1000000000 → NoneFailed failed fails broke breaks
          → IsReplayed {U = U} content (was_at failed broke) old (line_at after asks fails written breaks) new
          (Err fault.Record)
      too_many unfinished many steady =
          ends after reads asks (Err fault.Record) (Consumes-nil after) kept.made (omega arith)
          (kept.replied, steady, inr (unfinished, many, refl))

      -- no record begins so
      pub never_record : reads ≤ 1000000000 → NeverHasRecord inbox → NoneFailed failed fails broke breaks
          → IsReplayed {U = U} content (was_at failed broke) old (line_at after asks fails written breaks) new
          (Err fault.Record)
      never_record seldom never steady =
          ends after reads asks (Err fault.Record) (Consumes-nil after) kept.made seldom
          (kept.replied, steady, inl ((λ e. never_nil (subst NeverHasRecord e never)), inr (never, refl)))

      -- after one read more
      module _ (unfinished : IsUnfinishedRecord inbox) (seldom : reads < 1000000000) (then : Option (List ℕ))
          (later : ℕ)
          (rise : Rises asks later) where
        -- it was refused
        pub unread_device : Consumes after then [] → ReadFailed failed fails broke breaks
            → IsReplayed {U = U} content (was_at failed broke) old (line_at then later fails written breaks) new
            (Err fault.Device)
        unread_device none rose =
            ends then (reads + 1) later (Err fault.Device) none (one_read later rise) (omega arith)
            (inl (kept.replied, rose, unfinished, refl))

        -- the input is at its end
        pub at_end : (result : Result U ReplayFault) (now : List ℕ)
            → ReadsMore after then inbox now failed fails (Ok false) → breaks ≡ broke
            → MatchResult result (λ _. now ≡ []) (λ e. (e ≡ fault.Record) × (0 < length now))
            → IsReplayed {U = U} content (was_at failed broke) old (line_at then later fails written breaks) new result
        at_end (Ok u) now (same, none, over, steady) whole empty =
            ends then (reads + 1) later (Ok u) none (one_read later rise) (omega arith)
            (kept.replied, (steady, whole), sym same ∙ empty, over, refl)
        at_end (Err e) now (same, none, over, steady) whole (is, some) =
            rw is
            (ends then (reads + 1) later (Err fault.Record) none (one_read later rise) (omega arith) (
              kept.replied,
              (steady, whole),
              inl (not_nil inbox (subst (λ s. 0 < length s) same some), inl (unfinished.0, over, refl)),
            ))

  -- nothing was read for want of memory
  pub unbegun : {U : Type 0} (stream wrote : Option (List ℕ)) (store : H) (failed broke asked : ℕ)
      → IsSettled (content store)
      → IsReplayed {U = U} content (line_at stream asked failed wrote broke) store
      (line_at stream asked failed wrote broke) store (Err fault.Memory)
  unbegun stream wrote store failed broke asked settled = record {
    records = [];
    unread = [];
    pieces = 0;
    reads = 0;
    settled = settled;
    answered = refl;
    whole = All-nil (λ x. IsRecord x.asked);
    leads = leads_same (content store);
    run = session_runs content store [] store refl;
    stops = session_stops content store [] store settled refl;
    seldom = omega arith;
    made = inl (omega arith);
    reading = at_first;
    consumed = Consumes-nil stream;
    bounded = omega arith;
    ended = (Appends-nil wrote, (refl, refl), refl, refl, refl);
  }
