-- What a connection does in one step and then in another.
use Rattle.std.proofs.Common.{◌≡◌, ◌∙◌, sym, ap, subst, refl, arith, ℕ, ◌≤◌, ◌+◌, ◌==◌, ◌⊎◌, inl, inr, List, []}
use Rattle.std.proofs.Common.{◌∷◌, ◌++◌, length, take, drop, Option, Some, None, append_assoc, true, false}
use Rattle.std.proofs.Common.{if◌then◌else◌}
use Rattle.std.specs.Prelude.{Bool, All, ◌≢◌}
use Rattle.std.proofs.lemmas.List.{append-nil, length-append, take-append-drop}
use Rattle.std.proofs.lemmas.List.Elements.{All-nil, All-append}
use Rattle.hall_http.specs.Head.{IsWholeRequest, HasNoWholeRequest}
use Rattle.hall_http.specs.Limits.{most_reads}
use Rattle.hall_http.specs.Peer.{Calls, Traffic}
use Rattle.hall_http.specs.Progress.{EndsCalls, Goes, HadNoWait, HoldsFirst, TakesTurn, rank}
use Rattle.hall_http.specs.Steps.{HasRequest, IsAfterSending, Refuses, Waits, after_reply, pending}
use Rattle.hall_http.specs.declared.client.Client.{Client}
use Rattle.hall_http.specs.declared.client.Step.{Step}
use Rattle.hall_http.specs.declared.client.Step.TheVariants as step
use Rattle.hall_http.specs.declared.connection.Connection.{Connection}
use Rattle.hall_http.specs.declared.connection.ServeEnd.{ServeEnd}
use Rattle.hall_http.specs.declared.connection.ServeEnd.TheVariants as end
use Rattle.hall_http.specs.declared.connection.State.{State}
use Rattle.hall_http.specs.declared.connection.State.TheVariants as state

-- calls after some are some
some_then : (xs ys : Calls) → xs ≢ [] → (xs ++ ys) ≢ []
some_then [] ys some = λ _. some refl
some_then (x ∷ xs) ys some = λ e. absurd cc

then_some : (xs ys : Calls) → ys ≢ [] → (xs ++ ys) ≢ []
then_some [] ys some = some
then_some (x ∷ xs) ys some = λ e. absurd cc

-- none of them told that it would have to wait, but for the last of a turn
ends_then : (how : Step) (xs ys : Calls) → All HadNoWait xs → EndsCalls how ys → EndsCalls how (xs ++ ys)
ends_then step.Again xs ys one two = All-append HadNoWait xs ys one two
ends_then step.Leaves xs ys one (before, count, all, is) = (
  xs ++ before,
  count,
  All-append HadNoWait xs before one all,
  ap (λ (s : Calls). xs ++ s) is ∙ sym (append_assoc xs before _),
)
ends_then (step.Waits what requests) xs ys one (before, all, is) = (
  xs ++ before,
  All-append HadNoWait xs before one all,
  ap (λ (s : Calls). xs ++ s) is ∙ sym (append_assoc xs before _),
)
ends_then (step.Searches requests) xs ys one two = All-append HadNoWait xs ys one two
ends_then step.Over xs ys one two = All-append HadNoWait xs ys one two
ends_then step.Holds xs ys one two = All-append HadNoWait xs ys one two

-- no whole request stands at the front of what is unfinished
pub none_whole : (bytes : List ℕ) (size : ℕ) → HasNoWholeRequest bytes → IsWholeRequest (take size bytes) → ⊥
none_whole bytes size none whole = none (take size bytes) (drop size bytes) (sym (take-append-drop size bytes)) whole

-- it reads, or has ended, where it looked in vain
waits_rank : (b : Bool) → 2 ≤ rank (if b then state.Ended end.Limit else state.Reading)
waits_rank true = omega arith
waits_rank false = omega arith

sent_rank : (ending : Option ServeEnd)
    → rank (state.Writing ending) + 1 ≤ rank (after_reply (state.Writing ending))
sent_rank None = omega arith
sent_rank (Some e) = omega arith

low_rank : (s : State) → rank s ≤ 3
low_rank state.Looking = omega arith
low_rank state.Reading = omega arith
low_rank (state.Writing None) = omega arith
low_rank (state.Writing (Some e)) = omega arith
low_rank (state.Ended e) = omega arith

module _ {P : Type 0} (traffic : P → Traffic) where
  abbrev client : Connection → P → Bool → Bool → Client P
  client k p f v = record { connection = k; peer = p; is_over = f; is_leaving = v }

  -- what was done before made no call and changed nothing of the connection
  pub goes_from : (steps : ℕ) (k m l : Client P) (how : Step) → m.connection ≡ k.connection
      → (traffic m.peer).calls ≡ (traffic k.peer).calls → Goes traffic steps m how l → Goes traffic steps k how l
  goes_from steps k m l how same calls goes = record {
    calls = goes.calls;
    made = goes.made ∙ ap (λ (s : Calls). s ++ goes.calls) calls;
    few = goes.few;
    ends = goes.ends;
    answered = goes.answered ∙ ap (λ (c : Connection). c.requests) same;
    first = subst
        (λ (c : Connection). c.state ≡ state.Looking → HasRequest c
        → (how ≡ step.Holds) ⊎ ((requests : ℕ) × (how ≡ step.Searches requests))) same goes.first;
    comes = subst
        (λ (c : Connection). how ≡ step.Again → (goes.calls ≢ []) ⊎ (rank c.state + steps ≤ rank l.connection.state))
        same goes.comes;
  }

  -- no call was made
  goes_silent : (k l : Connection) (p : P) (f v : Bool) (how : Step) → EndsCalls how [] → l.requests ≡ k.requests
      → HoldsFirst (client k p f v) how → (how ≡ step.Again → rank k.state + 1 ≤ rank l.state)
      → Goes traffic 1 (client k p f v) how (client l p f v)
  goes_silent k l p f v how ends answered first comes = record {
    calls = [];
    made = sym (append-nil (traffic p).calls);
    few = omega arith;
    ends = ends;
    answered = answered;
    first = first;
    comes = λ again. inr (comes again);
  }

  -- its request is to wait for the work that it needs
  pub goes_searching : (k : Connection) (p : P) (f v : Bool) (requests : ℕ)
      → Goes traffic 1 (client k p f v) (step.Searches requests) (client k p f v)
  goes_searching k p f v requests =
      goes_silent k k p f v (step.Searches requests) (All-nil HadNoWait) refl (λ at has. inr (requests, refl))
      (λ again. absurd cc)

  -- or it is to be answered
  pub goes_held : (k l : Connection) (p : P) (f v : Bool) → l ≡ k
      → Goes traffic 1 (client k p f v) step.Holds (client l p f v)
  goes_held k l p f v same =
      goes_silent k l p f v step.Holds (All-nil HadNoWait) (ap (λ (c : Connection). c.requests) same)
      (λ at has. inl refl) (λ again. absurd cc)

  -- it was looked at what waits, and none stands there
  pub goes_looked : (k l : Connection) (p : P) (f v : Bool) → k.state ≡ state.Looking → Waits k l ⊎ Refuses k l
      → Goes traffic 1 (client k p f v) step.Again (client l p f v)
  goes_looked k l p f v at (inl w) =
      let low : rank k.state ≡ 1 = ap rank at in
      let high : 2 ≤ rank l.state =
      subst (λ (c : Connection). 2 ≤ rank c.state) (sym w.left) (waits_rank (k.reads == most_reads)) in
      goes_silent k l p f v step.Again (All-nil HadNoWait) (ap (λ (c : Connection). c.requests) w.left)
      (λ at has. absurd (none_whole k.inbox has.0 w.unfinished.none has.1)) (λ again. omega (arith, low, high))
  goes_looked k l p f v at (inr r) =
      let low : rank k.state ≡ 1 = ap rank at in
      let high : rank l.state ≡ 2 = ap (λ (c : Connection). rank c.state) r.left in
      goes_silent k l p f v step.Again (All-nil HadNoWait) (ap (λ (c : Connection). c.requests) r.left)
      (λ at has. absurd (none_whole k.inbox has.0 (subst HasNoWholeRequest (append-nil k.inbox) (r.never [])) has.1))
      (λ again. omega (arith, low, high))

  -- nothing was left of a reply
  pub goes_sent : (k l : Connection) (p : P) (f v : Bool) (ending : Option ServeEnd)
      → k.state ≡ state.Writing ending → length (pending k) ≡ 0 → IsAfterSending k 0 l
      → Goes traffic 1 (client k p f v) step.Again (client l p f v)
  goes_sent k l p f v ending at none (inl x) = absurd (omega (arith, none, x.0))
  goes_sent k l p f v ending at none (inr x) =
      let on : rank k.state + 1 ≤ rank l.state =
      subst (λ (c : Connection). rank k.state + 1 ≤ rank c.state) (sym x.1)
      (subst (λ (s : State). rank s + 1 ≤ rank (after_reply s)) (sym at) (sent_rank ending)) in
      goes_silent k l p f v step.Again (All-nil HadNoWait) (ap (λ (c : Connection). c.requests) x.1)
      (λ looks has. let clash = sym at ∙ looks in absurd cc) (λ again. on)

  -- it is over, and no call was made
  pub goes_over : (k l : Client P) (e : ServeEnd) → k.connection.state ≡ state.Ended e → l.connection ≡ k.connection
      → (traffic l.peer).calls ≡ (traffic k.peer).calls → Goes traffic 1 k step.Over l
  goes_over k l e at is same = record {
    calls = [];
    made = same ∙ sym (append-nil (traffic k.peer).calls);
    few = omega arith;
    ends = All-nil HadNoWait;
    answered = ap (λ (c : Connection). c.requests) is;
    first = λ looks has. let clash = sym at ∙ looks in absurd cc;
    comes = λ again. absurd cc;
  }

  pub goes_then : (steps : ℕ) (k m u : Client P) (how : Step) → Goes traffic steps k step.Again m
      → Goes traffic 1 m how u → Goes traffic (steps + 1) k how u
  goes_then steps k m u how one two = record {
    calls = one.calls ++ two.calls;
    made = two.made ∙ ap (λ (s : Calls). s ++ two.calls) one.made ∙ append_assoc (traffic k.peer).calls one.calls two.calls;
    few = omega (arith, one.few, two.few, length-append one.calls two.calls);
    ends = ends_then how one.calls two.calls one.ends two.ends;
    answered = two.answered ∙ one.answered;
    first = λ at has. elim (one.first at has) [
      | inl x ↦ absurd cc
      | inr x ↦ let clash = x.1 in absurd cc
    ];
    comes = λ again. elim (one.comes refl) [
      | inl x ↦ inl (some_then one.calls two.calls x)
      | inr x ↦ elim (two.comes again) [
        | inl y ↦ inl (then_some one.calls two.calls y)
        | inr y ↦ inr (omega (arith, x, y))
      ]
    ];
  }

  -- it took so many steps, or none yet
  abbrev pub HasGone : ℕ → Client P → Client P → Type 0
  HasGone steps k m = ((steps ≡ 0) × (m ≡ k)) ⊎ Goes traffic steps k step.Again m

  pub goes_next : (steps : ℕ) (k m u : Client P) (how : Step) → HasGone steps k m → Goes traffic 1 m how u
      → Goes traffic (steps + 1) k how u
  goes_next steps k m u how (inl (none, same)) two =
      subst (λ (n : ℕ). Goes traffic n k how u) (omega (arith, none))
      (subst (λ (c : Client P). Goes traffic 1 c how u) same two)
  goes_next steps k m u how (inr one) two = goes_then steps k m u how one two

  -- a turn ends after at most five steps, where it doesn't go on at once
  pub turn_ended : (steps : ℕ) (k u : Client P) (how : Step) → steps ≤ 5 → (how ≡ step.Again → ⊥)
      → Goes traffic steps k how u → TakesTurn traffic k how u
  turn_ended steps k u how few stops goes = record {
    calls = goes.calls;
    made = goes.made;
    few = omega (arith, goes.few, few);
    ends = goes.ends;
    answered = goes.answered;
    first = goes.first;
    comes = λ again. absurd (stops again);
  }

  -- or after five, by which it came on
  pub turn_spent : (steps : ℕ) (k u : Client P) → steps ≡ 5 → HasGone steps k u → TakesTurn traffic k step.Again u
  turn_spent steps k u five (inl (none, same)) = absurd (omega (arith, five, none))
  turn_spent steps k u five (inr goes) = record {
    calls = goes.calls;
    made = goes.made;
    few = omega (arith, goes.few, five);
    ends = goes.ends;
    answered = goes.answered;
    first = goes.first;
    comes = λ again. elim (goes.comes again) [
      | inl x ↦ x
      | inr x ↦ absurd (omega (arith, x, five, low_rank u.connection.state))
    ];
  }
