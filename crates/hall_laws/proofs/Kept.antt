-- Acknowledged means kept, across restarts.
use Rattle.std.proofs.Common.{◌≡◌, ◌∙◌, ap, append_assoc, subst, refl, inl, inr, ℕ, List, [], ◌∷◌, ◌++◌}
use Rattle.std.proofs.Math.Logic.{∥∥₁_elim, ∥∥₁_map, ∥∥₁_prop}
use Rattle.std.proofs.lemmas.List.{map-append}
use Rattle.std.proofs.lemmas.List.Elements.{All-contains}
use Rattle.hall_policy.specs.World.{World}
use Rattle.hall_store.specs.Store.{Content}
use Rattle.hall_desk.specs.History.{seeded}
use Rattle.hall_desk.proofs.Remaining.{records_stay}
use Rattle.hall_http.specs.Answered.{IsUnavailable}
use Rattle.hall_http.specs.Connection.{Exchange, of_groups}
use Rattle.hall_http.specs.Crowd.{IsPast, number_past, traffic_past}
use Rattle.hall_http.specs.Groups.{IsLeftByGroups}
use Rattle.hall_http.specs.Peer.{IsLaterOn, Traffic}
use Rattle.hall_http.specs.Serving.{AnswersAt}
use Rattle.hall_http.specs.Turns.{IsConnectionTold, Turn, exchanges_of, of}
use Rattle.hall_http.proofs.Crowds.{client_told}
use Rattle.hall_http.proofs.Groups.{groups_stop}
use Rattle.hall_laws.specs.Accepted.{IsAnswerAccepted, IsProtestAccepted}
use Rattle.hall_laws.specs.Acknowledged.{AnswersAreKept, BytesAreKept, BytesAreKeptSoFar, EachByteIsKept}
use Rattle.hall_laws.specs.Acknowledged.{AreRepeatedAlikeMeanwhile, ProtestsAreKept, RecordsAreKept}
use Rattle.hall_laws.specs.Happened.{HaveHappened, IsKeptIn}
use Rattle.hall_laws.specs.Sent.{IsByteOfRefusal, IsByteOfReply}
use Rattle.hall_laws.specs.Servings.{Lasts, Serving, WasSent, at_once, by_list, by_serving}
use Rattle.hall_laws.proofs.Among.{Has, contains_between, own}
use Rattle.hall_laws.proofs.Alike.{alike_meanwhile, serving_alike}
use Rattle.hall_laws.proofs.Bytes.{byte_told}
use Rattle.hall_laws.proofs.Left.{left_keeps}
use Rattle.hall_laws.proofs.Lived.{Life, life_of, lives_on, made_happened, run_happened}
use Rattle.hall_laws.proofs.Standing.{answer_stands, answer_step, answer_told_alike, protest_stands, protest_step}
use Rattle.hall_laws.proofs.Standing.{not_served, protest_told_alike, unavailable}

-- what a world that all groups leave keeps of a request
module _ (world left : World) (turns : List Turn) (groups : List (List Exchange))
    (grouped : of_groups groups ≡ exchanges_of turns) (leaves : IsLeftByGroups world groups left) (number : ℕ) where
  request_kept : (x : Exchange) → Has (of number turns) x → ¬ (IsUnavailable x.reply)
      → IsKeptIn world turns (number, x) left
  request_kept x has told =
      let (front, rest, all) = own number turns x has in
      let parts : of_groups groups ≡ exchanges_of front ++ x ∷ exchanges_of rest =
      grouped ∙ ap exchanges_of all ∙ map-append (λ (turn : Turn). turn.1) front ((number, x) ∷ rest) in
      let it = left_keeps x world left (λ none. told (unavailable x.reply none)) (exchanges_of front)
      (exchanges_of rest) groups leaves parts in
      record {
        front = front;
        rest = rest;
        all = all;
        between = it.between;
        kept = it.kept;
        led = it.led;
        answered = it.answered;
        since = it.since;
      }

each_byte : (world left : World) (turns : List Turn) (groups : List (List Exchange))
    → of_groups groups ≡ exchanges_of turns → IsLeftByGroups world groups left → (t : Traffic)
    → IsConnectionTold (of t.number turns) t → EachByteIsKept world turns t left
each_byte world left turns groups grouped leaves t told sent byte more part =
    elim (byte_told (of t.number turns) t told sent byte more part) [
      | inl (x, is) ↦
          inl (x, is, request_kept world left turns groups grouped leaves t.number x (is.before, is.after, is.all))
      | inr refusal ↦ inr refusal
    ]

module _ {H P : Type 0} (content : H → Content) (traffic : P → Traffic) where
  left_by : (world left : World) (serving : Serving content traffic world left)
      → (content serving.after).may_leave left → IsLeftByGroups world serving.served.groups left
  left_by world left serving may =
      subst (λ (w : World). IsLeftByGroups w serving.served.groups left) serving.began
      (serving.served.stops serving.honest serving.serves left may)

  pub bytes_are_kept : BytesAreKept content traffic
  bytes_are_kept world left serving one there = ∥∥₁_map serving.leaves (λ may.
      each_byte world left serving.served.turns serving.served.groups serving.served.grouped
      (left_by world left serving may) (traffic_past traffic one)
      (All-contains (IsPast traffic serving.served.turns) serving.gone one serving.served.told.told there).0)

  -- what is kept of a connection later on is kept of it
  kept_earlier : (world left : World) (turns : List Turn) (t u : Traffic) → IsLaterOn t u
      → EachByteIsKept world turns u left → EachByteIsKept world turns t left
  kept_earlier world left turns t u later all sent byte more part =
      let longer : u.went ≡ sent ++ byte ∷ (more ++ later.went.0) =
      later.went.1 ∙ ap (λ s. s ++ later.went.0) part ∙ append_assoc sent (byte ∷ more) later.went.0 in
      let same : of u.number turns ≡ of t.number turns = ap (λ n. of n turns) later.number in
      elim (all sent byte (more ++ later.went.0) longer) [
        | inl (x, is, kept) ↦ inl (
          x,
          subst (λ (xs : List Exchange). IsByteOfReply xs sent byte x) same is,
          λ told. subst (λ n. IsKeptIn world turns (n, x) left) later.number (kept told),
        )
        | inr refusal ↦ inr (subst (λ (xs : List Exchange). IsByteOfRefusal xs sent byte) same refusal)
      ]

  pub bytes_are_kept_so_far : BytesAreKeptSoFar content traffic
  bytes_are_kept_so_far over few all told before after left t at settled serves (groups, grouped, answered) honest may
      here =
      let world = (content before).world in
      let leaves : IsLeftByGroups world groups left =
      groups_stop content before groups after settled answered honest serves left may in
      elim here [
        | inl (place, k, stands, later) ↦ kept_earlier world left at.turns t _ later
            (each_byte world left at.turns groups grouped leaves _
            (client_told traffic _ k (at.rightly.kept.here place k stands)))
        | inr (front, one, rest, among, later) ↦ kept_earlier world left at.turns t (traffic_past traffic one) later
            (each_byte world left at.turns groups grouped leaves (traffic_past traffic one)
            (All-contains (IsPast traffic at.turns) at.rightly.clients.gone.items one at.rightly.kept.gone
            (contains_between at.rightly.clients.gone.items front one rest among)).0)
      ]

  -- ---- lives over several servings
  group_lives : (world left : World) (groups : List (List Exchange)) → IsLeftByGroups world groups left
      → Life world left
  group_lives world left groups (inl run) =
      life_of world (of_groups groups) left (run_happened (of_groups groups) world left run)
  group_lives world left groups (inr with) =
      lives_on world with.between left
      (life_of world (of_groups with.before) with.between (run_happened (of_groups with.before) world with.between
      with.run))
      (life_of with.between with.group left
      (made_happened with.group with.made with.between left with.refused with.answered))

  lasts : (world later : World) → Lasts content traffic world later → ∥ Life world later ∥₁
  lasts world later (at_once same) = ∣ ([], refl) ∣₁
  lasts world later (by_list first next last people given seed more) =
      ∥∥₁_map (lasts next last more) (λ life.
      lives_on first next last (seeded people given ∷ [], (next, seed, refl)) life)
  lasts world later (by_serving first left last serving more) =
      ∥∥₁_elim serving.leaves ∥∥₁_prop (λ may. ∥∥₁_map (lasts left last more) (λ life.
      lives_on first left last
      (group_lives first left serving.served.groups (left_by first left serving may)) life))

  -- where what was sent was answered, and the life from there on
  record Answered (world : World) (xs : List Exchange) (x : Exchange) (later : World) : Type 0 where
    front : List Exchange
    rest : List Exchange
    all : xs ≡ front ++ x ∷ rest
    between : World
    kept : World
    led : HaveHappened world front between
    answered : AnswersAt between x.moment x.request x.reply kept
    life : Life kept later

  sent_answered : (world left later : World) (serving : Serving content traffic world left) (x : Exchange)
      → WasSent serving x → ¬ (IsUnavailable x.reply) → Lasts content traffic left later
      → ∥ Answered world (exchanges_of serving.served.turns) x later ∥₁
  sent_answered world left later serving x sent told more =
      ∥∥₁_elim serving.leaves ∥∥₁_prop (λ may. ∥∥₁_map (lasts left later more) (λ life.
      let it = request_kept world left serving.served.turns serving.served.groups serving.served.grouped
      (left_by world left serving may) (number_past traffic sent.one) x
      (sent.is_of.before, sent.is_of.after, sent.is_of.all) told in
      record {
        front = exchanges_of it.front;
        rest = exchanges_of it.rest;
        all = ap exchanges_of it.all
            ∙ map-append (λ (turn : Turn). turn.1) it.front ((number_past traffic sent.one, x) ∷ it.rest);
        between = it.between;
        kept = it.kept;
        led = it.led;
        answered = it.answered;
        life = lives_on it.kept left later (life_of it.kept (exchanges_of it.rest) left it.since) life;
      }))

  pub records_are_kept : RecordsAreKept content traffic
  records_are_kept world left later serving x sent told more =
      ∥∥₁_map (sent_answered world left later serving x sent told more) (λ it. record {
        front = it.front;
        rest = it.rest;
        all = it.all;
        between = it.between;
        kept = it.kept;
        led = it.led;
        answered = it.answered;
        records = records_stay it.kept later it.life.0 it.life.1;
      })

  pub answers_are_kept : AnswersAreKept content traffic
  answers_are_kept world left later serving x sent is more =
      ∥∥₁_map (sent_answered world left later serving x sent (not_served x.reply is.granted) more)
      (λ it.
      let step = answer_step x is it.between it.kept x.moment it.answered in (
        answer_stands x is it.between it.kept step later it.life,
        serving_alike x it.kept (answer_told_alike x is it.between it.kept step) content traffic later it.life,
      ))

  pub protests_are_kept : ProtestsAreKept content traffic
  protests_are_kept world left later serving x sent is more =
      ∥∥₁_map (sent_answered world left later serving x sent (not_served x.reply is.granted) more)
      (λ it.
      let step = protest_step x is it.between it.kept x.moment it.answered in (
        protest_stands x is it.between it.kept step later it.life,
        serving_alike x it.kept (protest_told_alike x is it.between it.kept step) content traffic later it.life,
      ))

  -- ---- later in the same serving
  pub answers_meanwhile : AreRepeatedAlikeMeanwhile content traffic IsAnswerAccepted
  answers_meanwhile = alike_meanwhile content traffic IsAnswerAccepted (λ x is between kept answered.
      answer_told_alike x is between kept (answer_step x is between kept x.moment answered))

  pub protests_meanwhile : AreRepeatedAlikeMeanwhile content traffic IsProtestAccepted
  protests_meanwhile = alike_meanwhile content traffic IsProtestAccepted (λ x is between kept answered.
      protest_told_alike x is between kept (protest_step x is between kept x.moment answered))
