-- What has become of the connections that came.
use Rattle.std.proofs.Common.{◌≡◌, ◌∙◌, sym, ap, subst, refl, arith, ℕ, suc, ◌≤◌, inl, inr, ◌⊎◌, List, [], ◌∷◌, ◌++◌}
use Rattle.std.proofs.Common.{append_assoc, get_or, None}
use Rattle.std.specs.Prelude.{All}
use Rattle.std.proofs.lemmas.Option.{same_Some}
use Rattle.std.proofs.lemmas.List.{append-nil}
use Rattle.std.proofs.lemmas.List.Elements.{All-append, All-cons, All-nil}
use Rattle.hall_http.specs.Peer.{Traffic, IsLaterOn}
use Rattle.hall_http.specs.Crowd.{AllLeave, AreGone, AreKept, AreStill, ComesTo, HasGone, HaveGoneSince, HaveBecome}
use Rattle.hall_http.specs.Crowd.{IsAt}
use Rattle.hall_http.specs.Crowd.{IsHereOrGone, MayLose, Past, Receives, WasAt, WentLater, number_past, traffic_past}
use Rattle.hall_http.specs.Turns.{Turn}
use Rattle.hall_http.specs.declared.client.Client.{Client}
use Rattle.hall_http.specs.declared.clients.Clients.{Clients}
use Rattle.hall_http.specs.declared.clients.Departure.{Departure}
use Rattle.hall_http.specs.declared.clients.Departure.TheVariants as departure
use Rattle.hall_http.specs.declared.peer.Closed.{Closed}
use Rattle.hall_http.proofs.Peers.{later_same, later_then}
use Rattle.hall_http.proofs.SoFar.{split_grown}

-- what holds of all holds of each
pub of_each : {X : Type 0} (Holds : X → Type 0) (front rest : List X) (x : X) → All Holds (front ++ x ∷ rest) → Holds x
of_each Holds [] rest x all = all 0 x (omega arith)
of_each Holds (y ∷ front) rest x all = of_each Holds front rest x (λ i d inside. all (suc i) d (omega arith))

module _ {P : Type 0} (traffic : P → Traffic) where
  -- one was at a place before, or has a number that follows on these
  abbrev pub WasBefore : ℕ → Clients P → Traffic → Type 0
  WasBefore many s t = ((place : ℕ) × WasAt traffic s place t) ⊎ (many ≤ t.number)

  -- whoever is here now, or has gone since, was there before, or came since
  pub record Passes (many : ℕ) (s u : Clients P) : Type 0 where
    pub last : List (Past P)
    pub more : u.gone.items ≡ s.gone.items ++ last
    pub lost : All (λ one. WasBefore many s (traffic_past traffic one)) last
    pub still : (place : ℕ) (l : Client P) → IsAt u place l → WasBefore many s (traffic l.peer)

  pub passes_none : (many : ℕ) (s : Clients P) → Passes many s s
  passes_none many s = record {
    last = [];
    more = sym (append-nil s.gone.items);
    lost = All-nil (λ (one : Past P). WasBefore many s (traffic_past traffic one));
    still = λ place l at. inl (place, (l, at, later_same (traffic l.peer)));
  }

  pub loses_passes : (many : ℕ) (went : Departure) (place : ℕ) (s u : Clients P) → AreStill traffic s u
      → MayLose traffic went place s u → Passes many s u
  loses_passes many went place s u still (inl same) = record {
    last = [];
    more = same ∙ sym (append-nil s.gone.items);
    lost = All-nil (λ (one : Past P). WasBefore many s (traffic_past traffic one));
    still = λ other l at. inl (other, still other l at);
  }
  loses_passes many went place s u still (inr (closed, was, more)) = record {
    last = (closed, (went, place)) ∷ [];
    more = more;
    lost = All-cons (λ (one : Past P). WasBefore many s (traffic_past traffic one)) (closed, (went, place)) []
        (inl (place, was)) (All-nil (λ (one : Past P). WasBefore many s (traffic_past traffic one)));
    still = λ other l at. inl (other, still other l at);
  }

  came_before : (many place : ℕ) (peer : P) (s u : Clients P) → (traffic peer).number ≡ many
      → ComesTo traffic place peer s u → (other : ℕ) (l : Client P) → IsAt u other l
      → WasBefore many s (traffic l.peer)
  came_before many place peer s u number comes other l at =
      elim (comes other l at) [
        | inl was ↦ inl (other, was)
        | inr x ↦ inr (omega (arith, x.1, number))
      ]

  pub receives_passes : (many place : ℕ) (peer : P) (s u : Clients P) → (traffic peer).number ≡ many
      → ComesTo traffic place peer s u → Receives place peer s u → Passes many s u
  receives_passes many place peer s u number comes (inl (free, same)) = record {
    last = [];
    more = same ∙ sym (append-nil s.gone.items);
    lost = All-nil (λ (one : Past P). WasBefore many s (traffic_past traffic one));
    still = came_before many place peer s u number comes;
  }
  receives_passes many place peer s u number comes (inr (closed, why, is, may, more)) =
      let one : Past P = (closed, (departure.TurnedAway why, place)) in
      record {
        last = one ∷ [];
        more = more;
        lost = All-cons (λ (one : Past P). WasBefore many s (traffic_past traffic one)) one []
            (inr (omega (arith, ap (λ (p : P). (traffic p).number) is, number)))
            (All-nil (λ (one : Past P). WasBefore many s (traffic_past traffic one)));
        still = came_before many place peer s u number comes;
      }

  pub leave_passes : (many : ℕ) (s u : Clients P) → AreGone u → AllLeave traffic s u → Passes many s u
  leave_passes many s u empty (last, is, all) = record {
    last = last;
    more = is;
    lost = λ i d inside. inl ((get_or last i d).1.1, (all i d inside).1);
    still = λ place l at. let clash = sym (empty place) ∙ at in absurd cc;
  }

  pub became_now : (u : Clients P) → HaveBecome traffic u u
  became_now u = record {
    rest = [];
    first = sym (append-nil u.gone.items);
    here = λ place k at. inl (place, k, at, later_same (traffic k.peer));
  }

  -- where all have gone
  pub all_went : (u : Clients P) → AreGone u → (t : Traffic) → IsHereOrGone traffic u t
      → WentLater traffic u.gone.items t
  all_went u empty t (inl x) = let clash = sym (empty x.0) ∙ x.2 in absurd cc
  all_went u empty t (inr went) = went

  pub all_became : (s u : Clients P) → AreGone u → HaveBecome traffic u s → HaveGoneSince traffic u.gone.items s
  all_became s u empty became = record {
    rest = became.rest;
    first = became.first;
    here = λ place k at. all_went u empty (traffic k.peer) (became.here place k at);
  }

  module _ (few many then : ℕ) (turns later : List Turn) (s u : Clients P) (kept : AreKept traffic few many turns s)
      (after : AreKept traffic few then later u) (order : many ≤ then) (passes : Passes many s u) where
    same_one : (place other : ℕ) (k j : Client P) → IsAt s place k → IsAt s other j
        → (traffic k.peer).number ≡ (traffic j.peer).number → k ≡ j
    same_one place other k j at there same =
        let here : place ≡ other = kept.numbered.apart place other k j at there same in
        same_Some k j (sym at ∙ subst (λ (place : ℕ). IsAt s place j) (sym here) there)

    module _ (place : ℕ) (k : Client P) (at : IsAt s place k) where
      is_later : (t : Traffic) → t.number ≡ (traffic k.peer).number → WasBefore many s t → IsLaterOn (traffic k.peer) t
      is_later t same (inl (other, (j, there, later))) =
          subst (λ (j : Client P). IsLaterOn (traffic j.peer) t)
          (sym (same_one place other k j at there (sym same ∙ later.number))) later
      is_later t same (inr high) =
          absurd (omega (arith, (kept.numbered.counted place k at).1, same, high))

      abbrev IsIt : Past P → Type 0
      IsIt one = number_past traffic one ≡ (traffic k.peer).number → IsLaterOn (traffic k.peer) (traffic_past traffic one)

      all_later : All IsIt (s.gone.items ++ passes.last)
      all_later =
          All-append IsIt s.gone.items passes.last
          (λ i d inside same. absurd (kept.numbered.left place k at i d inside same))
          (λ i d inside same. is_later (traffic_past traffic (get_or passes.last i d)) same (passes.lost i d inside))

      found_later : ((other : ℕ) × (l : Client P) × IsAt u other l
          × ((traffic l.peer).number ≡ (traffic k.peer).number))
          ⊎ HasGone traffic (traffic k.peer).number u.gone.items → IsHereOrGone traffic u (traffic k.peer)
      found_later (inl (other, l, there, same)) =
          inl (other, l, there, is_later (traffic l.peer) same (passes.still other l there))
      found_later (inr (front, one, rest, is, same)) =
          inr (
            front,
            one,
            rest,
            is,
            of_each IsIt front rest one (subst (All IsIt) (sym passes.more ∙ is) all_later) same,
          )

      become : IsHereOrGone traffic u (traffic k.peer)
      become =
          let within = kept.numbered.counted place k at in
          found_later
          (after.numbered.found ((traffic k.peer).number) (within.0, omega (arith, within.1, order)))

    later_still : (t v : Traffic) → IsLaterOn t v → IsHereOrGone traffic u v → IsHereOrGone traffic u t
    later_still t v first (inl (place, l, at, second)) =
        inl (place, l, at, later_then t v (traffic l.peer) first second)
    later_still t v first (inr (front, one, rest, is, second)) =
        inr (front, one, rest, is, later_then t v (traffic_past traffic one) first second)

    pub onward : (t : Traffic) → IsHereOrGone traffic s t → IsHereOrGone traffic u t
    onward t (inl (place, l, at, later)) = later_still t (traffic l.peer) later (become place l at)
    onward t (inr (front, one, rest, is, later)) = inr (
      front,
      one,
      rest ++ passes.last,
      split_grown traffic s.gone.items passes.last u.gone.items front rest one passes.more is,
      later,
    )

    pub became_on : (z : Clients P) → HaveBecome traffic s z → HaveBecome traffic u z
    became_on z was = record {
      rest = was.rest ++ passes.last;
      first = passes.more ∙ ap (λ (gone : List (Past P)). gone ++ passes.last) was.first
          ∙ append_assoc z.gone.items was.rest passes.last;
      here = λ place k at. onward (traffic k.peer) (was.here place k at);
    }
