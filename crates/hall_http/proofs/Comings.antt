-- What was done of what the sockets said.
use Rattle.std.proofs.Common.{◌≡◌, ◌∙◌, sym, ap, subst, refl, arith, ℕ, ◌+◌, inr, [], ◌∷◌, ◌++◌, length, append_assoc}
use Rattle.std.proofs.Common.{◌≤◌, drop, length-append}
use Rattle.std.specs.Prelude.{All}
use Rattle.std.proofs.lemmas.List.{append-nil, drop-append-le, drop_all, drop_at}
use Rattle.std.proofs.lemmas.List.Elements.{All-nil, All-push}
use Rattle.hall_http.specs.Coming.{Nexts, Said, IsFreshPeer, IsNextStep, newcomer, since, AreCounted, EndsBy, AreDone}
use Rattle.hall_http.specs.Coming.{AreAllHeard, Heard, turn, turns_in}
use Rattle.hall_http.specs.Peer.{Traffic}
use Rattle.hall_http.specs.declared.server.Next.{Next}
use Rattle.hall_http.specs.declared.server.Next.TheVariants as next
use Rattle.hall_http.specs.declared.server.ServeAllEnd.{ServeAllEnd}
use Rattle.hall_http.specs.declared.server.ServeAllEnd.TheVariants as end

pub same_count : (many : ℕ) → many + 0 ≡ many
same_count many = omega arith

pub since_none : {P : Type 0} (before : Said P) → since before before ≡ []
since_none before = drop_all (length before.nexts) before.nexts (omega arith)

pub turns_more : {P : Type 0} (xs : Nexts P) (x : Next P) → turns_in (xs ++ x ∷ []) ≡ turns_in xs + turn x
turns_more [] x = omega arith
turns_more (y ∷ xs) x = omega (arith, turns_more xs x)

-- all turns were heard of, and no other was given
pub heard_still : {P : Type 0} (before after : Said P) (x : Next P) → AreAllHeard before
    → after.nexts ≡ before.nexts ++ x ∷ [] → after.heard ≡ before.heard → turn x ≡ 0 → AreAllHeard after
heard_still before after x all nexts heard none =
    omega (arith, all, ap length heard, ap turns_in nexts, turns_more before.nexts x, none)

-- all turns were heard of, and so was one more
pub heard_one : {P : Type 0} (before after : Said P) (place : ℕ) (told : Heard) → AreAllHeard before
    → after.nexts ≡ before.nexts ++ next.Turn place ∷ [] → after.heard ≡ before.heard ++ told ∷ [] → AreAllHeard after
heard_one before after place told all nexts heard =
    omega (
      arith,
      all,
      ap length heard,
      length-append before.heard (told ∷ []),
      ap turns_in nexts,
      turns_more before.nexts (next.Turn place),
    )

module _ {P : Type 0} (traffic : P → Traffic) where
  counted_more : (few : ℕ) (xs : Nexts P) (many : ℕ) (x : Next P) → AreCounted traffic few xs many
      → IsFreshPeer traffic many x → AreCounted traffic few (xs ++ x ∷ []) (many + newcomer x)
  counted_more few [] many x same fresh =
      (subst (λ (n : ℕ). IsFreshPeer traffic n x) same fresh, ap (λ (n : ℕ). n + newcomer x) same)
  counted_more few (y ∷ xs) many x (first, rest) fresh =
      (first, counted_more (few + newcomer y) xs many x rest fresh)

  -- so many things were done so far
  pub record DoneSoFar (before after : Said P) (count : ℕ) : Type 0 where
    pub steps : Nexts P
    pub said : after.nexts ≡ before.nexts ++ steps
    pub each : All IsNextStep steps
    pub came : AreCounted traffic before.count steps after.count
    pub counted : length steps ≡ count
    pub most : after.most ≡ before.most

  pub done_start : (before : Said P) → DoneSoFar before before 0
  done_start before = record {
    steps = [];
    said = sym (append-nil before.nexts);
    each = All-nil IsNextStep;
    came = refl;
    counted = refl;
    most = refl;
  }

  -- the newcomers among what was said have these numbers
  pub counted_since : (before after : Said P) (count : ℕ) → DoneSoFar before after count
      → AreCounted traffic before.count (since before after) after.count
  counted_since before after count done =
      let all : since before after ≡ done.steps =
      ap (drop (length before.nexts)) done.said ∙ drop_at before.nexts done.steps (length before.nexts) refl in
      rw all done.came

  pub counted_turn : (few : ℕ) (xs : Nexts P) (many place : ℕ) → AreCounted traffic few xs many
      → AreCounted traffic few (xs ++ next.Turn place ∷ []) many
  counted_turn few xs many place counted =
      subst (λ (n : ℕ). AreCounted traffic few (xs ++ next.Turn place ∷ []) n) (same_count many)
      (counted_more few xs many (next.Turn place) counted tt)

  -- one thing more was said
  pub since_more : (before after : Said P) (count : ℕ) → DoneSoFar before after count → (x : Next P) (then : Said P)
      → then.nexts ≡ after.nexts ++ x ∷ [] → since before then ≡ since before after ++ x ∷ []
  since_more before after count done x then said =
      let long : length before.nexts ≤ length after.nexts =
      omega (arith, ap length done.said, length-append before.nexts done.steps) in
      ap (drop (length before.nexts)) said ∙ drop-append-le (length before.nexts) after.nexts (x ∷ []) long

  module _ (before after : Said P) (count : ℕ) (done : DoneSoFar before after count) (x : Next P) (then : Said P)
      (fresh : IsFreshPeer traffic after.count x) (many : then.count ≡ after.count + newcomer x)
      (said : then.nexts ≡ after.nexts ++ x ∷ []) (stays : then.most ≡ after.most) where
    abbrev steps : Nexts P
    steps = done.steps ++ x ∷ []

    more : then.nexts ≡ before.nexts ++ steps
    more = said ∙ ap (λ (all : Nexts P). all ++ x ∷ []) done.said ∙ append_assoc before.nexts done.steps (x ∷ [])

    came : AreCounted traffic before.count steps then.count
    came =
        subst (λ (n : ℕ). AreCounted traffic before.count steps n) (sym many)
        (counted_more before.count done.steps after.count x done.came fresh)

    -- one step more
    pub done_step : IsNextStep x → DoneSoFar before then (count + 1)
    done_step step = record {
      steps = steps;
      said = more;
      each = All-push IsNextStep done.steps x done.each step;
      came = came;
      counted = omega (arith, length-append done.steps (x ∷ []), done.counted);
      most = stays ∙ done.most;
    }

    -- and a last thing, which is no step and no newcomer
    pub done_last : (why : ServeAllEnd) → newcomer x ≡ 0 → EndsBy why done.steps (x ∷ [])
        → AreDone traffic why before then
    done_last why none ends = record {
      steps = done.steps;
      last = x ∷ [];
      said = said ∙ ap (λ (all : Nexts P). all ++ x ∷ []) done.said;
      each = done.each;
      came = subst (λ (n : ℕ). AreCounted traffic before.count done.steps n) (omega (arith, many, none)) done.came;
      ended = ends;
      most = stays ∙ done.most;
    }

  -- so many that none is done any more
  pub done_all : (before after : Said P) (count : ℕ) → DoneSoFar before after count → count ≡ 18446744073709551615
      → AreDone traffic end.Refused before after
  done_all before after count done all = record {
    steps = done.steps;
    last = [];
    said = done.said ∙ sym (append-nil (before.nexts ++ done.steps));
    each = done.each;
    came = done.came;
    ended = inr (refl, done.counted ∙ all);
    most = done.most;
  }

  -- the last was that requests were answered
  pub done_answer : (before after : Said P) (count : ℕ) → DoneSoFar before after count → (then : Said P)
      → then.count ≡ after.count + 0 → then.nexts ≡ after.nexts ++ next.Answer ∷ [] → then.most ≡ after.most
      → AreDone traffic end.Shut before then
  unfolding done_step
  done_answer before after count done then many said stays =
      let all = done_step before after count done next.Answer then tt many said stays tt in
      record {
        steps = all.steps;
        last = [];
        said = all.said ∙ sym (append-nil (before.nexts ++ all.steps));
        each = all.each;
        came = all.came;
        ended = (refl, done.steps, refl);
        most = all.most;
      }
