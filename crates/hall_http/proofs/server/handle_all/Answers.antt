use Rattle.std.proofs.Common.{◌≡◌, ◌∙◌, ap, refl, arith, inl, subst, sym, List, [], ◌∷◌, ◌++◌, true, false}
use Rattle.hall_http.specs.Coming.{Heard, Nexts, Said, since}
use Rattle.hall_http.specs.Crowd.{MayWaitAfter}
use Rattle.hall_http.specs.Turns.{service_of}
use Rattle.hall_http.specs.declared.clients.Departure.TheVariants as departure
use Rattle.hall_http.specs.declared.server.Next.TheVariants as next
use Rattle.hall_http.specs.declared.server.ServeAllEnd.TheVariants as end
use Rattle.hall_http.proofs.Comings.{counted_since, counted_turn, done_all, done_answer, done_last, done_start}
use Rattle.hall_http.proofs.Comings.{done_step}
use Rattle.hall_http.proofs.Comings.{heard_one, heard_still, same_count, since_more, since_none}
use Rattle.hall_http.proofs.Heard.{handled_admits, handled_answer, handled_keeps, handled_none, handled_same}
use Rattle.hall_http.proofs.Heard.{handled_turn, may_rest, stand_first}
use Rattle.hall_http.proofs.Holdings.{AreHeldSo, so_answer, so_comes, so_first, so_goes, so_held, so_moments, so_other}
use Rattle.hall_http.proofs.Ready.{left_ready, ready_held, ready_there, ready_without}
use Rattle.hall_http.proofs.Became.{loses_passes, onward, passes_none, receives_passes}
use Rattle.hall_http.proofs.Rested.{rests_still}
use Rattle.hall_http.proofs.SoFar.{grows_none, keeps_all, loses_grows, loses_none, receives_grows, said_comes}
use Rattle.hall_http.proofs.SoFar.{said_gone}
use Rattle.hall_http.proofs.SoFar.{said_none, said_still, said_turn, still_same, turn_said}
use Rattle.hall_http.proofs.server.handle_all.Goals as goal
use Rattle.hall_http.proofs.server.handle_all.Goals.{in-Newcomer, in-Turn, in-Answer+else-not-answer_held, in-Gone}

pub loop-step-init : goal.loop-step-init
loop-step-init g c = record {
  so_far = handled_none _ (c.args.responder.now, true) _ (
    stand_first _ g.S.Peer.Peer.traffic _ (g.S.Sockets.said c.args.sockets.now) _
        c.requires.none,
    rw c.requires.unheld
        (subst
        (λ (steps : Nexts g.row.S-Peer.Denot).
        AreHeldSo g.S.Peer.Peer.traffic g.C.Clock.now_gives c.args.clock.now
        (g.S.Sockets.said c.args.sockets.now).heard
        (MayWaitAfter
        (service_of g.H.Responder.answers g.H.Responder.joins g.H.Responder.goes_on g.H.Responder.rests
        g.H.Responder.may_wait) (c.args.responder.now, true) (c.args.responder.now, true) [])
        steps (g.S.Sockets.said c.args.sockets.now).heard c.args.clients.now
        [] c.args.clock.now []) (sym (since_none (g.S.Sockets.said c.args.sockets.now)))
        (so_first g.S.Peer.Peer.traffic g.C.Clock.now_gives c.args.clock.now
        (g.S.Sockets.said c.args.sockets.now).heard _ c.args.clients.now)),
  );
  ready = rw c.requires.unheld tt;
  said = said_none g.S.Peer.Peer.traffic _ _ _ _ c.requires.none;
  fair = λ less. absurd (omega (arith, less));
  heard = c.requires.heard;
  long = c.requires.long;
  done = done_start g.S.Peer.Peer.traffic _;
}

pub next-requires : goal.next-requires
next-requires g c = c.loop-step.invariant.heard

pub visit-step-requires : goal.visit-step-requires
visit-step-requires g c = (_, _, c.loop-step.invariant.so_far.turns, c.loop-step.invariant.so_far.holds.0.0)

pub answer_held-requires-clause-ready : goal.answer_held-requires-clause-ready
answer_held-requires-clause-ready g c = c.loop-step.invariant.ready

pub answer_held-requires-clause-kept : goal.answer_held-requires-clause-kept
answer_held-requires-clause-kept g c =
    (_, _, c.loop-step.invariant.so_far.turns, c.loop-step.invariant.so_far.holds.0.0)

pub forget-requires : goal.forget-requires
forget-requires g c = λ k at. tt

pub loop-step-preserved : goal.loop-step-preserved
loop-step-preserved g c =
    let traffic = g.S.Peer.Peer.traffic in
    let gives = g.C.Clock.now_gives in
    let first = c.args.clock.now in
    let old = g.S.Sockets.said c.args.sockets.now in
    let now = g.S.Sockets.said c.loop-step.sockets in
    let then = g.S.Sockets.said c.next.new.self in
    let before = c.loop-step.clients in
    let so_far = c.loop-step.invariant.so_far in
    let said = c.loop-step.invariant.said in
    let done = c.loop-step.invariant.done in
    let ready = c.loop-step.invariant.ready in
    elim c.match-next.branch [
      | in-Newcomer w ↦
          let place = w.in-Newcomer.place in
          let peer = w.in-Newcomer.peer in
          let one = next.Newcomer place peer in
          let more = since_more traffic old now _ done one then w.in-Newcomer.ensures.nexts in
          let clients = w.let_in.new.clients in
          let receives = w.let_in.ensures.receives in
          let fresh = w.in-Newcomer.ensures.fresh.0 in
          rw (w.clients-is, w.responder-is, w.clock-is, w.sockets-is, w.held-is) (record {
            so_far = handled_admits _ traffic old now _ _ _ _ so_far then clients
                (receives_passes traffic now.count place peer before clients fresh w.let_in.ensures.admits.0 receives)
                _ one more w.in-Newcomer.ensures.heard tt
                (λ turns became so. rw more
                (so_comes traffic gives first old.heard _ _ (since old now) now.heard before clients
                (receives_grows traffic place peer before clients receives) c.loop-step.held c.loop-step.clock turns so
                became (λ turns request may. may) place peer then.heard w.in-Newcomer.ensures.heard ready
                w.let_in.ensures.there)) place peer fresh w.in-Newcomer.ensures.count w.let_in.ensures.admits;
            ready = ready_there before clients c.loop-step.held w.let_in.ensures.there ready;
            said = said_comes traffic old now before then one more said clients c.loop-step.invariant.long place peer
                (so_far.holds.0.0.numbered.left place) refl w.let_in.ensures.admits.0 receives;
            fair = λ less. w.in-Newcomer.ensures.fair;
            heard = heard_still now then one c.loop-step.invariant.heard w.in-Newcomer.ensures.nexts
                w.in-Newcomer.ensures.heard refl;
            long = w.let_in.ensures.long ∙ c.loop-step.invariant.long;
            done = done_step traffic old now _ done one then w.in-Newcomer.ensures.fresh
                w.in-Newcomer.ensures.count w.in-Newcomer.ensures.nexts w.in-Newcomer.ensures.most tt;
          })
      | in-Turn w ↦
          let told = w.stands.ensures.heard in
          let later = g.S.Sockets.said w.stands.new.self in
          let nexts = told.0 ∙ w.in-Turn.ensures.nexts in
          let count = told.1 ∙ w.in-Turn.ensures.count in
          let most = told.2 ∙ w.in-Turn.ensures.most in
          let place = w.in-Turn.place in
          let how = w.visit-step.result in
          let read = w.hold-moment.result in
          let heard = told.3
          ∙ ap (λ (all : List Heard). all ++ ((place, how), read) ∷ []) w.in-Turn.ensures.heard in
          let one = next.Turn place in
          let more = since_more traffic old now _ done one later nexts in
          let clients = w.visit-step.new.clients in
          let still = w.visit-step.ensures.kept.0 in
          let lost = w.visit-step.ensures.lost in
          let service = service_of g.H.Responder.answers g.H.Responder.joins g.H.Responder.goes_on
          g.H.Responder.rests g.H.Responder.may_wait in
          let passes = loses_passes traffic now.count departure.Over place before clients still lost in
          let rested = rests_still g.H.Responder.rests _ _ true w.visit-step.ensures.rests in
          let so = so_held traffic gives first old.heard
          (MayWaitAfter service (c.args.responder.now, true) (c.loop-step.responder, true) so_far.turns)
          (MayWaitAfter service (c.args.responder.now, true) (w.visit-step.new.responder, true) so_far.turns)
          (since old now) now.heard before clients
          (loses_grows traffic departure.Over place before clients lost) c.loop-step.held c.loop-step.clock so_far.turns
          so_far.holds.1
          (onward traffic old.count now.count now.count so_far.turns so_far.turns before clients so_far.holds.0.0
          (w.visit-step.ensures.kept.1 old.count now.count so_far.turns so_far.holds.0.0) (omega arith) passes)
          (may_rest service (c.args.responder.now, true) (c.loop-step.responder, true)
          (w.visit-step.new.responder, true) so_far.turns rested) said place how read later.heard heard
          w.hold-moment.new.clock w.hold-moment.new.self w.hold-moment.ensures still w.visit-step.ensures.over in
          rw (w.clients-is, w.responder-is, w.clock-is, w.sockets-is, w.held-is) (record {
            so_far = handled_turn _ traffic old now _ _ _ _ so_far later clients
                passes _ place (w.visit-step.new.responder, true) more rested how w.visit-step.ensures.stands
                w.visit-step.ensures.over w.visit-step.ensures.takes read (count ∙ same_count _) heard
                (counted_turn traffic old.count _ now.count place (counted_since traffic old now _ done))
                (turn_said traffic _ before clients said place still lost) w.visit-step.ensures.kept so.heard so.held
                so.moments so.turned (rw more so);
            ready = ready_held g.H.Responder.may_wait traffic w.visit-step.new.responder before clients place
                w.visit-step.ensures.others how w.visit-step.ensures.over w.visit-step.ensures.stands
                w.visit-step.ensures.takes c.loop-step.held ready gives read c.loop-step.clock w.hold-moment.new.clock
                w.hold-moment.new.self w.hold-moment.ensures;
            said = said_turn traffic old now before later one more said clients place refl still lost;
            fair = λ less. w.stands.ensures.fair;
            heard = heard_one now later place ((place, how), read) c.loop-step.invariant.heard nexts heard;
            long = w.visit-step.ensures.long ∙ c.loop-step.invariant.long;
            done = done_step traffic old now _ done one later tt count nexts most tt;
          })
      | in-Answer+else-not-answer_held w ↦
          let on = w.if-not-answer_held.false in
          let same = w.hear_of_writes.ensures.said ∙ w.answer_held.ensures.said in
          let later = g.S.Sockets.said w.hear_of_writes.new.self in
          let nexts = ap (λ (s : Said g.row.S-Peer.Denot). s.nexts) same ∙ w.in-Answer.ensures.nexts in
          let count = ap (λ (s : Said g.row.S-Peer.Denot). s.count) same ∙ w.in-Answer.ensures.count in
          let most = ap (λ (s : Said g.row.S-Peer.Denot). s.most) same ∙ w.in-Answer.ensures.most in
          let heard = ap (λ (s : Said g.row.S-Peer.Denot). s.heard) same ∙ w.in-Answer.ensures.heard in
          let one = next.Answer in
          let more = since_more traffic old now _ done one later nexts in
          let clients = w.answer_held.new.clients in
          let (front, is, least, serves) = w.answer_held.ensures.serves in
          let lost = loses_none traffic departure.Over 0 before clients w.answer_held.ensures.gone in
          rw (w.clients-is, w.responder-is, w.clock-is, w.sockets-is, w.held-is) (record {
            so_far = handled_answer _ traffic old now _ _ _ _ so_far later clients
                (loses_passes traffic now.count departure.Over 0 before clients serves.0 lost) _ _ front more
                (count ∙ same_count _) heard (rw on at serves)
                (λ some answered became on ahead so. rw more
                (so_answer traffic gives first old.heard _ _ (since old now) now.heard before clients
                (loses_grows traffic departure.Over 0 before clients lost) c.loop-step.held c.loop-step.clock _ so
                became on said _ ahead front _ later.heard heard is least serves.0 some answered));
            ready = left_ready before clients c.loop-step.held front _ ready is (w.answer_held.ensures.same on);
            said = said_still traffic old now before later one more said clients (λ place. tt) serves.0
                w.answer_held.ensures.gone;
            fair = λ less. w.hear_of_writes.ensures.fair;
            heard = heard_still now later one c.loop-step.invariant.heard nexts heard refl;
            long = w.answer_held.ensures.long ∙ c.loop-step.invariant.long;
            done = done_step traffic old now _ done one later tt count nexts most tt;
          })
      | in-Gone w ↦
          let place = w.in-Gone.place in
          let one = next.Gone place in
          let more = since_more traffic old now _ done one then w.in-Gone.ensures.nexts in
          let clients = w.forget.new.self in
          let keeps = w.forget.ensures.kept in
          let lost = w.forget.ensures.lost in
          rw (w.clients-is, w.responder-is, w.clock-is, w.sockets-is, w.held-is, w.forget-in-Gone.ensures) (record {
            so_far = handled_keeps _ traffic old now _ _ _ _ so_far then clients
                (loses_passes traffic now.count departure.LetGo place before clients keeps.0 lost) _ one more
                w.in-Gone.ensures.heard tt
                (λ turns became so. rw more
                (so_goes traffic gives first old.heard _ _ (since old now) now.heard before clients
                (loses_grows traffic departure.LetGo place before clients lost) c.loop-step.held c.loop-step.clock turns
                so became (λ turns request may. may) place then.heard w.in-Gone.ensures.heard keeps.0))
                (w.in-Gone.ensures.count ∙ same_count _) keeps;
            ready = ready_without before clients place w.forget.ensures.others c.loop-step.held ready;
            said = said_gone traffic old now before then one more said clients place refl keeps.0
                w.forget.ensures.none lost;
            fair = λ less. w.in-Gone.ensures.fair;
            heard = heard_still now then one c.loop-step.invariant.heard w.in-Gone.ensures.nexts
                w.in-Gone.ensures.heard refl;
            long = w.forget.ensures.long ∙ c.loop-step.invariant.long;
            done = done_step traffic old now _ done one then tt w.in-Gone.ensures.count
                w.in-Gone.ensures.nexts w.in-Gone.ensures.most tt;
          })
    ]

pub returns-in-End-clause-handled : goal.returns-in-End-clause-handled
returns-in-End-clause-handled g c =
    let traffic = g.S.Peer.Peer.traffic in
    let gives = g.C.Clock.now_gives in
    let old = g.S.Sockets.said c.args.sockets.now in
    let now = g.S.Sockets.said c.loop-step.sockets in
    let then = g.S.Sockets.said c.next.new.self in
    let more = since_more traffic old now _ c.loop-step.invariant.done next.End then c.in-End.ensures.nexts in
    let clients = c.loop-step.clients in
    handled_keeps _ traffic old now _ _ _ _ c.loop-step.invariant.so_far then _
    (passes_none traffic now.count _) _ next.End more c.in-End.ensures.heard tt
    (λ turns became so.
    so_moments traffic gives c.args.clock.now old then _ clients c.loop-step.held c.loop-step.clock turns
    (rw more
    (so_other traffic gives c.args.clock.now old.heard _ _ (since old now) now.heard clients clients
    (grows_none traffic clients.gone.items) c.loop-step.held c.loop-step.clock turns so became
    (λ turns request may. may) next.End then.heard tt refl c.in-End.ensures.heard (still_same traffic clients))))
    (c.in-End.ensures.count ∙ same_count _) (keeps_all traffic _)

pub returns-in-Refused-clause-handled : goal.returns-in-Refused-clause-handled
returns-in-Refused-clause-handled g c =
    let traffic = g.S.Peer.Peer.traffic in
    let gives = g.C.Clock.now_gives in
    let old = g.S.Sockets.said c.args.sockets.now in
    let now = g.S.Sockets.said c.loop-step.sockets in
    let then = g.S.Sockets.said c.next.new.self in
    let more = since_more traffic old now _ c.loop-step.invariant.done next.Refused then c.in-Refused.ensures.nexts in
    let clients = c.loop-step.clients in
    handled_keeps _ traffic old now _ _ _ _ c.loop-step.invariant.so_far then _
    (passes_none traffic now.count _) _ next.Refused more c.in-Refused.ensures.heard tt
    (λ turns became so.
    so_moments traffic gives c.args.clock.now old then _ clients c.loop-step.held c.loop-step.clock turns
    (rw more
    (so_other traffic gives c.args.clock.now old.heard _ _ (since old now) now.heard clients clients
    (grows_none traffic clients.gone.items) c.loop-step.held c.loop-step.clock turns so became
    (λ turns request may. may) next.Refused then.heard tt refl c.in-Refused.ensures.heard (still_same traffic clients))))
    (c.in-Refused.ensures.count ∙ same_count _) (keeps_all traffic _)

pub returns-then-not-answer_held-clause-handled : goal.returns-then-not-answer_held-clause-handled
returns-then-not-answer_held-clause-handled g c =
    let off = c.if-not-answer_held.true in
    let traffic = g.S.Peer.Peer.traffic in
    let gives = g.C.Clock.now_gives in
    let first = c.args.clock.now in
    let old = g.S.Sockets.said c.args.sockets.now in
    let now = g.S.Sockets.said c.loop-step.sockets in
    let later = g.S.Sockets.said c.answer_held.new.sockets in
    let same = c.answer_held.ensures.said in
    let nexts = ap (λ (s : Said g.row.S-Peer.Denot). s.nexts) same ∙ c.in-Answer.ensures.nexts in
    let count = ap (λ (s : Said g.row.S-Peer.Denot). s.count) same ∙ c.in-Answer.ensures.count in
    let heard = ap (λ (s : Said g.row.S-Peer.Denot). s.heard) same ∙ c.in-Answer.ensures.heard in
    let more = since_more traffic old now _ c.loop-step.invariant.done next.Answer later nexts in
    let before = c.loop-step.clients in
    let clients = c.answer_held.new.clients in
    let (front, is, least, serves) = c.answer_held.ensures.serves in
    let lost = loses_none traffic departure.Over 0 before clients c.answer_held.ensures.gone in
    handled_answer _ traffic old now _ _ _ _ c.loop-step.invariant.so_far later clients
    (loses_passes traffic now.count departure.Over 0 before clients serves.0 lost) _ _ front more
    (count ∙ same_count _) heard (rw off at serves)
    (λ some answered became on ahead so.
    so_moments traffic gives first old later _ clients c.answer_held.new.held c.loop-step.clock
    (c.loop-step.invariant.so_far.turns ++ some)
    (rw more
    (so_answer traffic gives first old.heard _ _ (since old now) now.heard before clients
    (loses_grows traffic departure.Over 0 before clients lost) _ _ _ so became on c.loop-step.invariant.said _ ahead
    front _ later.heard heard is least serves.0 some answered)))

pub returns-clause-handled : goal.returns-clause-handled
returns-clause-handled g c =
    handled_same _ _ _ _ _ c.loop-step.invariant.so_far
    (λ turns holds. (
      holds.0,
      so_moments g.S.Peer.Peer.traffic g.C.Clock.now_gives c.args.clock.now (g.S.Sockets.said c.args.sockets.now)
          (g.S.Sockets.said c.loop-step.sockets) _ _ _ _ turns holds.1,
    ))

pub returns-in-End-clause-said : goal.returns-in-End-clause-said
returns-in-End-clause-said g c =
    let old = g.S.Sockets.said c.args.sockets.now in
    let now = g.S.Sockets.said c.loop-step.sockets in
    let then = g.S.Sockets.said c.next.new.self in
    said_still g.S.Peer.Peer.traffic old now c.loop-step.clients then next.End
    (since_more g.S.Peer.Peer.traffic old now _ c.loop-step.invariant.done next.End then c.in-End.ensures.nexts)
    c.loop-step.invariant.said c.loop-step.clients (λ place. tt)
    (still_same g.S.Peer.Peer.traffic c.loop-step.clients) refl

pub returns-in-Refused-clause-said : goal.returns-in-Refused-clause-said
returns-in-Refused-clause-said g c =
    let old = g.S.Sockets.said c.args.sockets.now in
    let now = g.S.Sockets.said c.loop-step.sockets in
    let then = g.S.Sockets.said c.next.new.self in
    said_still g.S.Peer.Peer.traffic old now c.loop-step.clients then next.Refused
    (since_more g.S.Peer.Peer.traffic old now _ c.loop-step.invariant.done next.Refused then c.in-Refused.ensures.nexts)
    c.loop-step.invariant.said c.loop-step.clients (λ place. tt)
    (still_same g.S.Peer.Peer.traffic c.loop-step.clients) refl

pub returns-then-not-answer_held-clause-said : goal.returns-then-not-answer_held-clause-said
returns-then-not-answer_held-clause-said g c =
    let old = g.S.Sockets.said c.args.sockets.now in
    let now = g.S.Sockets.said c.loop-step.sockets in
    let later = g.S.Sockets.said c.answer_held.new.sockets in
    let nexts = ap (λ (s : Said g.row.S-Peer.Denot). s.nexts) c.answer_held.ensures.said ∙ c.in-Answer.ensures.nexts in
    said_still g.S.Peer.Peer.traffic old now c.loop-step.clients later next.Answer
    (since_more g.S.Peer.Peer.traffic old now _ c.loop-step.invariant.done next.Answer later nexts)
    c.loop-step.invariant.said c.answer_held.new.clients (λ place. tt) c.answer_held.ensures.serves.3.0
    c.answer_held.ensures.gone

pub returns-clause-said : goal.returns-clause-said
returns-clause-said g c = c.loop-step.invariant.said

pub returns-then-not-answer_held-clause-done : goal.returns-then-not-answer_held-clause-done
returns-then-not-answer_held-clause-done g c =
    let same = c.answer_held.ensures.said in
    done_answer g.S.Peer.Peer.traffic _ _ _ c.loop-step.invariant.done _
    (ap (λ (s : Said g.row.S-Peer.Denot). s.count) same ∙ c.in-Answer.ensures.count)
    (ap (λ (s : Said g.row.S-Peer.Denot). s.nexts) same ∙ c.in-Answer.ensures.nexts)
    (ap (λ (s : Said g.row.S-Peer.Denot). s.most) same ∙ c.in-Answer.ensures.most)

pub returns-in-End-clause-done : goal.returns-in-End-clause-done
returns-in-End-clause-done g c =
    done_last g.S.Peer.Peer.traffic _ _ _ c.loop-step.invariant.done next.End _ tt c.in-End.ensures.count
    c.in-End.ensures.nexts c.in-End.ensures.most end.Served refl refl

pub returns-in-Refused-clause-done : goal.returns-in-Refused-clause-done
returns-in-Refused-clause-done g c =
    done_last g.S.Peer.Peer.traffic _ _ _ c.loop-step.invariant.done next.Refused _ tt c.in-Refused.ensures.count
    c.in-Refused.ensures.nexts c.in-Refused.ensures.most end.Refused refl (inl refl)

pub returns-clause-done : goal.returns-clause-done
returns-clause-done g c =
    done_all g.S.Peer.Peer.traffic _ _ _ c.loop-step.invariant.done
    (omega (arith, c.loop-step.auto._step-end, c.loop-step-test.false))

pub returns-then-not-answer_held-clause-fair : goal.returns-then-not-answer_held-clause-fair
returns-then-not-answer_held-clause-fair g c = c.answer_held.ensures.fair c.in-Answer.ensures.fair

pub returns-clause-fair : goal.returns-clause-fair
returns-clause-fair g c =
    c.loop-step.invariant.fair (omega (arith, c.loop-step.auto._step-end, c.loop-step-test.false))
