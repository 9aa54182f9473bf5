-- What was served so far.
use Rattle.std.proofs.Common.{◌≡◌, ◌∙◌, sym, ap, subst, refl, arith, inl, inr, ℕ, List, [], ◌∷◌, ◌++◌, ◌⊎◌, ◌≢◌}
use Rattle.std.proofs.Common.{◌==◌, append_assoc, get_or, length, ◌≤◌, true, false}
use Rattle.std.specs.Prelude.{All, Bool}
use Rattle.std.proofs.lemmas.Bool.{eqb-true, eqb-false}
use Rattle.std.proofs.lemmas.List.{append-nil}
use Rattle.std.proofs.lemmas.List.Elements.{All-nil, All-push}
use Rattle.http_server.specs.declared.log.Log.{Log}
use Rattle.hall_http.specs.Peer.{Traffic}
use Rattle.hall_http.specs.Coming.{Nexts, Said, since}
use Rattle.hall_http.specs.Crowd.{AreKept, AreStill}
use Rattle.hall_http.specs.Crowd.{AnswersNoMore, ComesTo, HasAt, IsAt, IsFor, AllLeave, AreAsSaid, WentSo}
use Rattle.hall_http.specs.Crowd.{IsFree, KeepsPlace, MayLose, Past, Receives, WasHandedOut, WasHere, WasNext, WasToGo}
use Rattle.hall_http.specs.Crowd.{WasTurnedAway, number_past}
use Rattle.hall_http.specs.Crowd.{MayTurnAway}
use Rattle.hall_http.specs.Crowd.{WasAt, WasStillHere, WasTaken}
use Rattle.hall_http.specs.Turns.{Turn}
use Rattle.hall_http.specs.declared.client.Client.{Client}
use Rattle.hall_http.specs.declared.clients.Away.{Away}
use Rattle.hall_http.specs.declared.clients.Away.TheVariants as away
use Rattle.hall_http.specs.declared.clients.Clients.{Clients}
use Rattle.hall_http.specs.declared.clients.Departure.{Departure}
use Rattle.hall_http.specs.declared.clients.Departure.TheVariants as departure
use Rattle.hall_http.specs.declared.peer.Closed.{Closed}
use Rattle.hall_http.specs.declared.server.Next.{Next}
use Rattle.hall_http.specs.declared.server.Next.TheVariants as next
use Rattle.hall_http.proofs.Peers.{later_same, later_then}

module _ {P : Type 0} (traffic : P → Traffic) where
  pub still_same : (s : Clients P) → AreStill traffic s s
  still_same s place l at = (l, at, later_same (traffic l.peer))

  pub still_then : (s m u : Clients P) → AreStill traffic s m → AreStill traffic m u → AreStill traffic s u
  still_then s m u first second place l at =
      let (k, there, same) = second place l at in
      let (j, here, later) = first place k there in
      (j, here, later_then (traffic j.peer) (traffic k.peer) (traffic l.peer) later same)

  -- nothing changed
  pub keeps_all : (s : Clients P) → AnswersNoMore traffic s s
  keeps_all s = (still_same s, λ few many turns kept. kept)

  pub keeps_then : (s m u : Clients P) → AnswersNoMore traffic s m → AnswersNoMore traffic m u
      → AnswersNoMore traffic s u
  keeps_then s m u first second = (
    still_then s m u first.0 second.0,
    λ few many turns kept. second.1 few many turns (first.1 few many turns kept),
  )

  -- at each place of the later there was one before
  was_before : (s m : Clients P) → AreStill traffic s m → (place : ℕ) (t : Traffic) → WasAt traffic m place t
      → WasAt traffic s place t
  was_before s m still place t (k, at, later) =
      let (j, there, first) = still place k at in
      (j, there, later_then (traffic j.peer) (traffic k.peer) t first later)

  has_was : (s : Clients P) (place : ℕ) (t : Traffic) → WasAt traffic s place t → HasAt traffic s place t.number
  has_was s place t (k, at, later) = (k, at, sym later.number)

  -- some more have gone
  abbrev pub Grows : List (Past P) → List (Past P) → Type 0
  Grows gone more = (last : List (Past P)) × (more ≡ gone ++ last)

  grows_same : (gone more : List (Past P)) → more ≡ gone → Grows gone more
  grows_same gone more same = ([], same ∙ sym (append-nil gone))

  pub grows_none : (gone : List (Past P)) → Grows gone gone
  grows_none gone = ([], sym (append-nil gone))

  pub grows_by : (gone last more : List (Past P)) → more ≡ gone ++ last → Grows gone more
  grows_by gone last more all = (last, all)

  pub split_grown : (gone last more front rest : List (Past P)) (one : Past P) → more ≡ gone ++ last
      → gone ≡ front ++ one ∷ rest → more ≡ front ++ one ∷ (rest ++ last)
  split_grown gone last more front rest one all is =
      all ∙ ap (λ (gone : List (Past P)). gone ++ last) is ∙ append_assoc front (one ∷ rest) last

  -- who was turned away among those that had gone was so among those that have
  away_grown : (gone more : List (Past P)) → Grows gone more → (number : ℕ) → WasTurnedAway traffic gone number
      → WasTurnedAway traffic more number
  away_grown gone more (last, all) number (front, one, rest, is, why, turned, same) =
      (front, one, rest ++ last, split_grown gone last more front rest one all is, why, turned, same)

  -- and who was still here then was so
  here_grown : (gone more : List (Past P)) → Grows gone more → (number other : ℕ)
      → WasStillHere traffic gone number other → WasStillHere traffic more number other
  here_grown gone more (last, all) number other (front, one, rest, is, same, apart) =
      (front, one, rest ++ last, split_grown gone last more front rest one all is, same, apart)

  -- none goes
  pub loses_none : (went : Departure) (place : ℕ) (s u : Clients P) → u.gone ≡ s.gone → MayLose traffic went place s u
  loses_none went place s u same = inl (ap (λ (gone : Log (Closed P) (Departure × ℕ)). gone.items) same)

  -- one goes of those that were here before
  pub loses_before : (s m u : Clients P) → AreStill traffic s m → m.gone ≡ s.gone → (went : Departure) (place : ℕ)
      → MayLose traffic went place m u → MayLose traffic went place s u
  loses_before s m u still gone went place (inl same) =
      inl (same ∙ ap (λ (gone : Log (Closed P) (Departure × ℕ)). gone.items) gone)
  loses_before s m u still gone went place (inr (closed, has, more)) = inr (
    closed,
    was_before s m still place (traffic closed.peer) has,
    more ∙ ap (λ (gone : Log (Closed P) (Departure × ℕ)). gone.items ++ (closed, (went, place)) ∷ []) gone,
  )

  pub loses_grows : (went : Departure) (place : ℕ) (s u : Clients P) → MayLose traffic went place s u
      → Grows s.gone.items u.gone.items
  loses_grows went place s u (inl same) = grows_same s.gone.items u.gone.items same
  loses_grows went place s u (inr (closed, has, more)) =
      grows_by s.gone.items ((closed, (went, place)) ∷ []) u.gone.items more

  pub receives_grows : (place : ℕ) (peer : P) (s u : Clients P) → Receives place peer s u
      → Grows s.gone.items u.gone.items
  receives_grows place peer s u (inl (free, same)) = grows_same s.gone.items u.gone.items same
  receives_grows place peer s u (inr (closed, why, is, may, more)) =
      grows_by s.gone.items ((closed, (departure.TurnedAway why, place)) ∷ []) u.gone.items more

  -- none has gone at the end
  pub leave_none : (s : Clients P) → AllLeave traffic s s
  leave_none s = ([], sym (append-nil s.gone.items), All-nil (WasHere traffic s))

  -- and one more goes then
  pub leave_more : (s m u : Clients P) → AreStill traffic s m → (place : ℕ) → AllLeave traffic s m
      → MayLose traffic departure.AtEnd place m u → AllLeave traffic s u
  leave_more s m u still place (last, is, all) (inl same) = (last, same ∙ is, all)
  leave_more s m u still place (last, is, all) (inr (closed, has, more)) =
      let one : Past P = (closed, (departure.AtEnd, place)) in (
        last ++ one ∷ [],
        more ∙ ap (λ (gone : List (Past P)). gone ++ one ∷ []) is ∙ append_assoc s.gone.items last (one ∷ []),
        All-push (WasHere traffic s) last one all
            (refl, was_before s m still place (traffic closed.peer) has),
      )

  -- who keeps the place
  keeps_grown : (gone more : List (Past P)) → Grows gone more → (place : ℕ) (one : Next P)
      → KeepsPlace traffic gone place one → KeepsPlace traffic more place one
  keeps_grown gone more grows place (next.Newcomer other peer) (inl differs) = inl differs
  keeps_grown gone more grows place (next.Newcomer other peer) (inr away) =
      inr (away_grown gone more grows ((traffic peer).number) away)
  keeps_grown gone more grows place (next.Turn other) keeps = tt
  keeps_grown gone more grows place next.Answer keeps = tt
  keeps_grown gone more grows place (next.Gone other) keeps = keeps
  keeps_grown gone more grows place next.End keeps = tt
  keeps_grown gone more grows place next.Refused keeps = tt

  pub for_grown : (gone more : List (Past P)) → Grows gone more → (steps : Nexts P) (place number : ℕ)
      → IsFor traffic gone steps place number → IsFor traffic more steps place number
  for_grown gone more grows steps place number (rest, handed, keeps) = (
    rest,
    handed,
    λ i d inside. keeps_grown gone more grows place (get_or rest i d) (keeps i d inside),
  )

  next_grown : (gone more : List (Past P)) → Grows gone more → (steps : Nexts P) (one : Next P) (place number : ℕ)
      → WasNext traffic gone steps one place number → WasNext traffic more steps one place number
  next_grown gone more grows steps one place number (front, rest, is, was) =
      (front, rest, is, for_grown gone more grows front place number was)

  taken_grown : (gone more : List (Past P)) → Grows gone more → (steps : Nexts P) (place number : ℕ) (why : Away)
      → WasTaken traffic gone steps place number why → WasTaken traffic more steps place number why
  taken_grown gone more grows steps place number away.NoPlace (inl beyond) = inl beyond
  taken_grown gone more grows steps place number away.NoPlace (inr (other, was, here)) = inr (
    other,
    for_grown gone more grows steps place other was,
    here_grown gone more grows number other here,
  )
  taken_grown gone more grows steps place number (away.NoMemory refusal) was = was

  to_go_grown : (gone more : List (Past P)) → Grows gone more → (steps : Nexts P) (went : Departure) (place number : ℕ)
      → WasToGo traffic gone steps went place number → WasToGo traffic more steps went place number
  to_go_grown gone more grows steps (departure.TurnedAway why) place number (front, rest, peer, is, same, taken) =
      (front, rest, peer, is, same, taken_grown gone more grows front place number why taken)
  to_go_grown gone more grows steps departure.Over place number was =
      next_grown gone more grows steps (next.Turn place) place number was
  to_go_grown gone more grows steps departure.LetGo place number was =
      next_grown gone more grows steps (next.Gone place) place number was
  to_go_grown gone more grows steps departure.AtEnd place number was = absurd was

  pub left_grown : (gone more : List (Past P)) → Grows gone more → (steps : Nexts P) (left : List (Past P))
      → All (WentSo traffic gone steps) left → All (WentSo traffic more steps) left
  left_grown gone more grows steps left each i d inside =
      let it = get_or left i d in
      to_go_grown gone more grows steps it.1.0 it.1.1 (number_past traffic it) (each i d inside)

  -- what was said before, and one thing more
  handed_more : (steps rest : Nexts P) (one : Next P) (place number : ℕ) → WasHandedOut traffic steps rest place number
      → WasHandedOut traffic (steps ++ one ∷ []) (rest ++ one ∷ []) place number
  handed_more steps rest one place number (front, peer, is, same) = (
    front,
    peer,
    ap (λ (all : Nexts P). all ++ one ∷ []) is ∙ append_assoc front (next.Newcomer place peer ∷ rest) (one ∷ []),
    same,
  )

  for_more : (gone : List (Past P)) (steps : Nexts P) (one : Next P) (place number : ℕ)
      → KeepsPlace traffic gone place one → IsFor traffic gone steps place number
      → IsFor traffic gone (steps ++ one ∷ []) place number
  for_more gone steps one place number keeps (rest, handed, kept) = (
    rest ++ one ∷ [],
    handed_more steps rest one place number handed,
    All-push (KeepsPlace traffic gone place) rest one kept keeps,
  )

  next_more : (gone : List (Past P)) (steps : Nexts P) (one it : Next P) (place number : ℕ)
      → WasNext traffic gone steps it place number → WasNext traffic gone (steps ++ one ∷ []) it place number
  next_more gone steps one it place number (front, rest, is, was) = (
    front,
    rest ++ one ∷ [],
    ap (λ (all : Nexts P). all ++ one ∷ []) is ∙ append_assoc front (it ∷ rest) (one ∷ []),
    was,
  )

  to_go_more : (gone : List (Past P)) (steps : Nexts P) (one : Next P) (went : Departure) (place number : ℕ)
      → WasToGo traffic gone steps went place number → WasToGo traffic gone (steps ++ one ∷ []) went place number
  to_go_more gone steps one (departure.TurnedAway why) place number (front, rest, peer, is, same, taken) = (
    front,
    rest ++ one ∷ [],
    peer,
    ap (λ (all : Nexts P). all ++ one ∷ []) is ∙ append_assoc front (next.Newcomer place peer ∷ rest) (one ∷ []),
    same,
    taken,
  )
  to_go_more gone steps one departure.Over place number was =
      next_more gone steps one (next.Turn place) place number was
  to_go_more gone steps one departure.LetGo place number was =
      next_more gone steps one (next.Gone place) place number was
  to_go_more gone steps one departure.AtEnd place number was = absurd was

  left_more : (gone : List (Past P)) (steps : Nexts P) (one : Next P) (left : List (Past P))
      → All (WentSo traffic gone steps) left → All (WentSo traffic gone (steps ++ one ∷ [])) left
  left_more gone steps one left each i d inside =
      let it = get_or left i d in
      to_go_more gone steps one it.1.0 it.1.1 (number_past traffic it) (each i d inside)

  pub said_none : (few : ℕ) (turns : List Turn) (s : Clients P) (steps : Nexts P) → AreKept traffic few few turns s
      → AreAsSaid traffic steps s
  said_none few turns s steps kept = record {
    here = λ place k at. let within = kept.numbered.counted place k at in absurd (omega (arith, within.0, within.1));
    gone = λ i d inside. let within = kept.numbered.past i d inside in absurd (omega (arith, within.0, within.1));
  }

  -- one thing more is done, and others go
  module _ (steps : Nexts P) (s u : Clients P) (said : AreAsSaid traffic steps s) where
    pub for_one : (place number : ℕ) → HasAt traffic s place number → IsFor traffic s.gone.items steps place number
    for_one place number (k, there, same) =
        subst (IsFor traffic s.gone.items steps place) same (said.here place k there)

    module _ (grows : Grows s.gone.items u.gone.items) (one : Next P) where
      here_still : (place : ℕ) (l : Client P) → HasAt traffic s place (traffic l.peer).number
          → KeepsPlace traffic u.gone.items place one
          → IsFor traffic u.gone.items (steps ++ one ∷ []) place (traffic l.peer).number
      here_still place l was keeps =
          for_more u.gone.items steps one place ((traffic l.peer).number) keeps
          (for_grown s.gone.items u.gone.items grows steps place ((traffic l.peer).number)
          (for_one place ((traffic l.peer).number) was))

      left_still : All (WentSo traffic u.gone.items (steps ++ one ∷ [])) s.gone.items
      left_still =
          left_more u.gone.items steps one s.gone.items
          (left_grown s.gone.items u.gone.items grows steps s.gone.items said.gone)

      left_lost : (went : Departure) (place : ℕ)
          → ((number : ℕ) → HasAt traffic s place number
          → WasToGo traffic u.gone.items (steps ++ one ∷ []) went place number)
          → MayLose traffic went place s u → All (WentSo traffic u.gone.items (steps ++ one ∷ [])) u.gone.items
      left_lost went place to_go (inl same) =
          subst (All (WentSo traffic u.gone.items (steps ++ one ∷ []))) (sym same) left_still
      left_lost went place to_go (inr (closed, has, more)) =
          subst (All (WentSo traffic u.gone.items (steps ++ one ∷ []))) (sym more)
          (All-push (WentSo traffic u.gone.items (steps ++ one ∷ [])) s.gone.items (closed, (went, place)) left_still
          (to_go ((traffic closed.peer).number) (has_was s place (traffic closed.peer) has)))

      next_here : (place number : ℕ) → HasAt traffic s place number
          → WasNext traffic u.gone.items (steps ++ one ∷ []) one place number
      next_here place number has = (
        steps,
        [],
        refl,
        for_grown s.gone.items u.gone.items grows steps place number (for_one place number has),
      )

    -- nobody was let go
    still_said : (one : Next P) → ((place : ℕ) → KeepsPlace traffic u.gone.items place one) → AreStill traffic s u
        → u.gone ≡ s.gone → AreAsSaid traffic (steps ++ one ∷ []) u
    still_said one keeps still gone =
        let same : u.gone.items ≡ s.gone.items = ap (λ (gone : Log (Closed P) (Departure × ℕ)). gone.items) gone in
        let grows = grows_same s.gone.items u.gone.items same in
        record {
          here = λ place l at. here_still grows one place l (has_was s place (traffic l.peer) (still place l at))
              (keeps place);
          gone = subst (All (WentSo traffic u.gone.items (steps ++ one ∷ []))) (sym same) (left_still grows one);
        }

    -- the one at the place had its turn, and may be over
    pub turn_said : (place : ℕ) → AreStill traffic s u → MayLose traffic departure.Over place s u
        → AreAsSaid traffic (steps ++ next.Turn place ∷ []) u
    turn_said place still lost =
        let grows = loses_grows departure.Over place s u lost in
        record {
          here = λ other l at. here_still grows (next.Turn place) other l
              (has_was s other (traffic l.peer) (still other l at)) tt;
          gone = left_lost grows (next.Turn place) departure.Over place (next_here grows (next.Turn place) place) lost;
        }

    -- the one at the place was let go
    gone_said : (place : ℕ) → AreStill traffic s u → IsFree u place → MayLose traffic departure.LetGo place s u
        → AreAsSaid traffic (steps ++ next.Gone place ∷ []) u
    gone_said place still free lost =
        let grows = loses_grows departure.LetGo place s u lost in
        record {
          here = λ other l at. here_still grows (next.Gone place) other l
              (has_was s other (traffic l.peer) (still other l at)) (λ same.
              let clash = sym (subst (IsFree u) same free) ∙ at in
              absurd cc);
          gone = left_lost grows (next.Gone place) departure.LetGo place (next_here grows (next.Gone place) place) lost;
        }

    -- a newcomer came for the place, which is one of 500, or none that there is
    module _ (long : length s.places.items ≡ 500) (place : ℕ) (peer : P)
        (apart : (k : Client P) → IsAt s place k
        → All (λ past. number_past traffic past ≢ (traffic k.peer).number) s.gone.items) where
      abbrev came : Next P
      came = next.Newcomer place peer

      -- one that was at another place keeps it, or where it is at this one the newcomer was turned away
      keeps_from : (b : Bool) (other : ℕ) → (other == place) ≡ b → (k : Client P) → IsAt s other k
          → Receives place peer s u → KeepsPlace traffic u.gone.items other came
      keeps_from false other e k at receives = inl (λ same. eqb-false _ _ e (sym same))
      keeps_from true other e k at (inl (free, same)) =
          let clash = sym free ∙ subst (λ (place : ℕ). IsAt s place k) (eqb-true _ _ e) at in
          absurd cc
      keeps_from true other e k at (inr (closed, why, is, may, more)) =
          let one : Past P = (closed, (departure.TurnedAway why, place)) in
          inr (s.gone.items, one, [], more, why, refl, ap (λ (p : P). (traffic p).number) is)

      here_comes : Receives place peer s u → (other : ℕ) (l : Client P) → IsAt u other l
          → WasAt traffic s other (traffic l.peer)
          ⊎ ((other ≡ place) × ((traffic l.peer).number ≡ (traffic peer).number))
          → IsFor traffic u.gone.items (steps ++ came ∷ []) other (traffic l.peer).number
      here_comes receives other l at (inl was) =
          here_still (receives_grows place peer s u receives) came other l (has_was s other (traffic l.peer) was)
          (keeps_from (other == place) other refl was.0 was.1 receives)
      here_comes receives other l at (inr (here, same)) =
          rw here ([], (steps, peer, refl, sym same), All-nil (KeepsPlace traffic u.gone.items place))

      -- a newcomer was turned away as it may be
      was_taken : (closed : Closed P) (why : Away)
          → u.gone.items ≡ s.gone.items ++ (closed, (departure.TurnedAway why, place)) ∷ [] → MayTurnAway s place why
          → WasTaken traffic u.gone.items steps place ((traffic closed.peer).number) why
      was_taken closed away.NoPlace more (inl beyond) = inl (subst (λ (n : ℕ). n ≤ place) long beyond)
      was_taken closed away.NoPlace more (inr (k, at)) =
          let one : Past P = (closed, (departure.TurnedAway away.NoPlace, place)) in
          let grows = grows_by s.gone.items (one ∷ []) u.gone.items more in
          inr (
            (traffic k.peer).number,
            for_grown s.gone.items u.gone.items grows steps place ((traffic k.peer).number) (said.here place k at),
            (s.gone.items, one, [], more, refl, apart k at),
          )
      was_taken closed (away.NoMemory refusal) more may = tt

      left_comes : Receives place peer s u → All (WentSo traffic u.gone.items (steps ++ came ∷ [])) u.gone.items
      left_comes (inl (free, same)) =
          subst (All (WentSo traffic u.gone.items (steps ++ came ∷ []))) (sym same)
          (left_still (grows_same s.gone.items u.gone.items same) came)
      left_comes (inr (closed, why, is, may, more)) =
          let one : Past P = (closed, (departure.TurnedAway why, place)) in
          let grows = grows_by s.gone.items (one ∷ []) u.gone.items more in
          subst (All (WentSo traffic u.gone.items (steps ++ came ∷ []))) (sym more)
          (All-push (WentSo traffic u.gone.items (steps ++ came ∷ [])) s.gone.items one (left_still grows came) (
            steps,
            [],
            peer,
            refl,
            sym (ap (λ (p : P). (traffic p).number) is),
            was_taken closed why more may,
          ))

      comes_said : ComesTo traffic place peer s u → Receives place peer s u
          → AreAsSaid traffic (steps ++ came ∷ []) u
      comes_said comes receives = record {
        here = λ other l at. here_comes receives other l at (comes other l at);
        gone = left_comes receives;
      }

  module _ (old now : Said P) (s : Clients P) (then : Said P) (one : Next P)
      (more : since old then ≡ since old now ++ one ∷ []) (said : AreAsSaid traffic (since old now) s)
      (u : Clients P) where
    pub said_still : ((place : ℕ) → KeepsPlace traffic u.gone.items place one) → AreStill traffic s u → u.gone ≡ s.gone
        → AreAsSaid traffic (since old then) u
    said_still keeps still gone = rw more (still_said (since old now) s u said one keeps still gone)

    pub said_turn : (place : ℕ) → one ≡ next.Turn place → AreStill traffic s u
        → MayLose traffic departure.Over place s u
        → AreAsSaid traffic (since old then) u
    said_turn place is still lost = rw (more, is) (turn_said (since old now) s u said place still lost)

    pub said_gone : (place : ℕ) → one ≡ next.Gone place → AreStill traffic s u → IsFree u place
        → MayLose traffic departure.LetGo place s u → AreAsSaid traffic (since old then) u
    said_gone place is still free lost = rw (more, is) (gone_said (since old now) s u said place still free lost)

    pub said_comes : length s.places.items ≡ 500 → (place : ℕ) (peer : P)
        → ((k : Client P) → IsAt s place k
        → All (λ past. number_past traffic past ≢ (traffic k.peer).number) s.gone.items)
        → one ≡ next.Newcomer place peer → ComesTo traffic place peer s u → Receives place peer s u
        → AreAsSaid traffic (since old then) u
    said_comes long place peer apart is comes receives =
        rw (more, is) (comes_said (since old now) s u said long place peer apart comes receives)
