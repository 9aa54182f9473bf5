-- What the bytes on some connections tell to one key.
use Rattle.std.proofs.Common.{◌≡◌, ◌∙◌, sym, ap, refl, subst, inl, inr, List, ℕ, [], ◌∷◌, Bool, true, false, cond, not}
use Rattle.std.proofs.Common.{if◌then◌else◌, map, Some}
use Rattle.std.specs.Prelude.{All, ◌⊎◌, IsTrue, filter, Ok}
use Rattle.std.specs.FinMap.{get}
use Rattle.std.proofs.lemmas.List.Elements.{All-head, All-tail, All-nil, All-cons}
use Rattle.hall_policy.specs.World.{World}
use Rattle.hall_policy.specs.Ranges.{IsWorld}
use Rattle.hall_policy.specs.OwnAlike.{is_entrant_alone}
use Rattle.hall_policy.specs.declared.record.Person.{Person}
use Rattle.hall_policy.specs.declared.request.Request.{Request}
use Rattle.hall_desk.specs.Exchanged.{swapped, exchanged_request}
use Rattle.hall_desk.specs.declared.reply.Reply.{Reply}
use Rattle.hall_desk.proofs.StepsSane.{run_sane}
use Rattle.hall_http.specs.Connection.{Exchange}
use Rattle.hall_http.specs.Request.{RequestOf, AsksRequest}
use Rattle.hall_http.specs.Serving.{AreRequestsMade}
use Rattle.hall_http.specs.Told.{AsksFor, AsksForOther, AreRepliesTold, AllServed, AreWithout, ComesExchanged}
use Rattle.hall_http.specs.Told.{AreExchanged}
use Rattle.hall_http.specs.Turns.{Turn, exchanges_of}
use Rattle.hall_http.specs.Wire.{shows, replies_on, WireHidesOthers, WireHidesAnswers, ShowNoOther, AreWithoutOn}
use Rattle.hall_http.specs.Wire.{AreExchangedOn, chosen, WireHidesOthersOn, WireHidesAnswersOn}
use Rattle.hall_http.proofs.Told.{bytes_hide_others, bytes_hide_answers, served_first, served_later, not_made_asks}
use Rattle.hall_http.proofs.Told.{not_both, not_others, asks_again}

-- ---- connections that alone show the key
pub wire_hides_others : WireHidesOthers
wire_hides_others world last end e turns others mine yours whole left sane known alone without served also granted given
    alike shows_it shown =
    bytes_hide_others world last end e (exchanges_of turns) (exchanges_of others) (replies_on mine turns)
    (replies_on yours others) whole left sane known alone without served also granted given alike shows_it shown

pub wire_hides_answers : WireHidesAnswers
wire_hides_answers world last end r a b round e turns others mine yours whole turned sane sealed first second known
    alone
    exchanged served also alike shows_it shown =
    bytes_hide_answers world last end r a b round e (exchanges_of turns) (exchanges_of others) (replies_on mine turns)
    (replies_on yours others) whole turned sane sealed first second known alone exchanged served also alike shows_it
    shown

-- ---- connections that show no other key
module _ (test : Request → Bool) where
  -- of each request that passes the test, and of bytes that are no request, whether they came on these connections
  abbrev ArePlaces : (ℕ → Bool) → List Turn → List Bool → Type 0
  ArePlaces mine [] places = places ≡ []
  ArePlaces mine (turn ∷ turns) places =
      ((AsksFor test turn.1 ⊎ ¬ (AsksRequest turn.1.request)) × (rest : List Bool) × (places ≡ mine turn.0 ∷ rest)
      × ArePlaces mine turns rest)
      ⊎ (AsksForOther test turn.1 × ArePlaces mine turns places)

  -- no request on these connections fails the test
  abbrev NoneOther : (ℕ → Bool) → Turn → Type 0
  NoneOther mine turn = mine turn.0 ≡ true → ¬ (AsksForOther test turn.1)

  -- all that is told to those who pass the test, and which of it on these connections
  record ToldOn (mine : ℕ → Bool) (turns : List Turn) : Type 0 where
    texts : List (List ℕ)
    places : List Bool
    told : AreRepliesTold test (exchanges_of turns) texts
    placed : ArePlaces mine turns places
    here : replies_on mine turns ≡ chosen places texts

  module _ (mine : ℕ → Bool) (turn : Turn) (turns : List Turn) where
    abbrev others_here : List Turn
    others_here = filter (λ (turn : Turn). mine turn.0) turns

    abbrev replies_of : List Turn → List (List ℕ)
    replies_of all = map (λ (x : Exchange). x.reply) (exchanges_of all)

    told_one : (b : Bool) (texts : List (List ℕ)) → replies_of others_here ≡ texts
        → replies_of (cond b (turn ∷ others_here) others_here) ≡ (if b then turn.1.reply ∷ texts else texts)
    told_one true texts same = ap (λ (all : List (List ℕ)). turn.1.reply ∷ all) same
    told_one false texts same = same

    told_none : (b : Bool) → (b ≡ true → ⊥) → replies_of (cond b (turn ∷ others_here) others_here) ≡ replies_of
        others_here
    told_none true never = absurd (never refl)
    told_none false never = refl

    -- it passes the test, or is no request
    with_it : AsksFor test turn.1 ⊎ ¬ (AsksRequest turn.1.request) → ToldOn mine turns → ToldOn mine (turn ∷ turns)
    with_it asks on = record {
      texts = turn.1.reply ∷ on.texts;
      places = mine turn.0 ∷ on.places;
      told = inl (asks, on.texts, refl, on.told);
      placed = inl (asks, on.places, refl, on.placed);
      here = told_one (mine turn.0) (chosen on.places on.texts) on.here;
    }

    -- it fails the test
    without_it : AsksForOther test turn.1 → NoneOther mine turn → ToldOn mine turns → ToldOn mine (turn ∷ turns)
    without_it fails none on = record {
      texts = on.texts;
      places = on.places;
      told = inr (fails, on.told);
      placed = inr (fails, on.placed);
      here = told_none (mine turn.0) (λ mine_too. none mine_too fails) ∙ on.here;
    }

    made_on : (asked : Request) → RequestOf turn.1.request (Ok asked) → NoneOther mine turn → ToldOn mine turns
        → ToldOn mine (turn ∷ turns)
    made_on asked reads none on = elim (test asked) as (λ b. test asked ≡ b → ToldOn mine (turn ∷ turns)) [
      | true ↦ λ passes. with_it (inl (asked, reads, passes)) on
      | false ↦ λ fails. without_it (asked, reads, ap not fails) none on
    ] refl

  told_on : (mine : ℕ → Bool) (turns : List Turn) (requests : List (ℕ × Request)) (replies : List Reply)
      → AllServed (exchanges_of turns) → AreRequestsMade (exchanges_of turns) requests replies
      → All (NoneOther mine) turns
      → ToldOn mine turns
  told_on mine [] requests replies served made none = record {
    texts = [];
    places = [];
    told = refl;
    placed = refl;
    here = refl;
  }
  told_on mine (turn ∷ turns) requests replies served (inl (missed, made)) none =
      with_it mine turn turns
      (inr (λ asks. not_made_asks turn.1 missed (served_first turn.1 (exchanges_of turns) served) (λ request. true)
      (asks.0, asks.1, refl)))
      (told_on mine turns requests replies (served_later turn.1 (exchanges_of turns) served) made
      (All-tail (NoneOther mine) turn turns none))
  told_on mine (turn ∷ turns) requests replies served (inr (asked, given, later, rest, are, come, is, made)) none =
      made_on mine turn turns asked.1 is.reads (All-head (NoneOther mine) turn turns none)
      (told_on mine turns later rest (served_later turn.1 (exchanges_of turns) served) made
      (All-tail (NoneOther mine) turn turns none))

  -- what comes again comes at the same place
  module _ (mine yours : ℕ → Bool) (turn other : Turn) (turns rest : List Turn)
      (on : AsksFor test turn.1 → AsksFor test other.1) (off : AsksForOther test turn.1 → AsksForOther test other.1)
      (back : AsksRequest other.1.request → AsksRequest turn.1.request) (same : yours other.0 ≡ mine turn.0)
      (claim : (p q : List Bool) → ArePlaces mine turns p → ArePlaces yours rest q → p ≡ q) where
    same_place : (p q : List Bool) → ArePlaces mine (turn ∷ turns) p → ArePlaces yours (other ∷ rest) q → p ≡ q
    same_place p q (inl (asks, p_rest, p_is, p_more)) (inl (asks_too, q_rest, q_is, q_more)) =
        let later : p_rest ≡ q_rest = claim p_rest q_rest p_more q_more in
        p_is ∙ (λ i. sym same i ∷ later i) ∙ sym q_is
    same_place p q (inl (inl asks, p_rest, p_is, p_more)) (inr (fails, q_more)) =
        absurd (not_both test other.1 (on asks) fails)
    same_place p q (inl (inr never, p_rest, p_is, p_more)) (inr (fails, q_more)) =
        absurd (never (back (fails.0, fails.1)))
    same_place p q (inr (fails, p_more)) (inl (inl asks, q_rest, q_is, q_more)) =
        absurd (not_both test other.1 asks (off fails))
    same_place p q (inr (fails, p_more)) (inl (inr never, q_rest, q_is, q_more)) =
        let fails_too = off fails in absurd (never (fails_too.0, fails_too.1))
    same_place p q (inr (fails, p_more)) (inr (fails_too, q_more)) = claim p q p_more q_more

-- ---- the requests of others don't come
module _ (last : World) (e : Person) (mine yours : ℕ → Bool) where
  -- whatever the connections
  without_on : (turns others : List Turn) → AreWithoutOn last e mine yours turns others
      → AreWithout last e (exchanges_of turns) (exchanges_of others)
  without_on [] others none = ap exchanges_of none
  without_on (turn ∷ turns) others (inl (struck, left)) = inl (struck, without_on turns others left)
  without_on (turn ∷ turns) others (inr (stays, other, rest, are, again, same, left)) =
      inr (stays, other.1, exchanges_of rest, ap exchanges_of are, again, without_on turns rest left)

  none_without : (turns others : List Turn) → AreWithoutOn last e mine yours turns others → ShowNoOther e.key mine turns
      → ShowNoOther e.key yours others
  none_without [] others none shown =
      subst (ShowNoOther e.key yours) (sym none) (All-nil (NoneOther (shows e.key) yours))
  none_without (turn ∷ turns) others (inl (struck, left)) shown =
      none_without turns others left (All-tail (NoneOther (shows e.key) mine) turn turns shown)
  none_without (turn ∷ turns) others (inr (stays, other, rest, are, again, same, left)) shown =
      subst (ShowNoOther e.key yours) (sym are)
      (All-cons (NoneOther (shows e.key) yours) other rest
      (λ there fails. All-head (NoneOther (shows e.key) mine) turn turns shown (sym same ∙ there)
      (asks_again (λ request. not (shows e.key request)) turn.1 other.1 again.0 fails))
      (none_without turns rest left (All-tail (NoneOther (shows e.key) mine) turn turns shown)))

  module _ (settled : IsWorld last) (known : get last.people e.name ≡ Some e) (alone : IsTrue (is_entrant_alone e))
    where
      places_without : (turns others : List Turn) → AreWithoutOn last e mine yours turns others → (p q : List Bool)
          → ArePlaces (shows e.key) mine turns p → ArePlaces (shows e.key) yours others q → p ≡ q
      places_without [] others none p q first second =
          first ∙ sym (subst (λ (all : List Turn). ArePlaces (shows e.key) yours all q) none second)
      places_without (turn ∷ turns) others (inl (struck, left)) p q (inl (inl asks, rest, is, more)) second =
          absurd (not_others last e settled known alone turn.1 asks struck)
      places_without (turn ∷ turns) others (inl (struck, left)) p q (inl (inr never, rest, is, more)) second =
          absurd (never (struck.0, struck.1))
      places_without (turn ∷ turns) others (inl (struck, left)) p q (inr (fails, more)) second =
          places_without turns others left p q more second
      places_without (turn ∷ turns) others (inr (stays, other, rest, are, again, same, left)) p q first second =
          same_place (shows e.key) mine yours turn other turns rest
          (asks_again (shows e.key) other.1 turn.1 (sym again.0))
          (asks_again (λ request. not (shows e.key request)) other.1 turn.1 (sym again.0))
          (λ asks. (asks.0, subst (λ (bytes : List ℕ). RequestOf bytes (Ok asks.0)) again.0 asks.1)) same
          (places_without turns rest left) p q first
          (subst (λ (all : List Turn). ArePlaces (shows e.key) yours all q) are second)

pub wire_hides_others_on : WireHidesOthersOn
wire_hides_others_on world last end e turns others mine yours whole left sane known alone again served also granted
    given
    alike shown =
    let first = told_on (shows e.key) mine turns whole.requests whole.replies served whole.made shown in
    let second = told_on (shows e.key) yours others left.requests left.replies also left.made
    (none_without last e mine yours turns others again shown) in
    let settled = run_sane world whole.requests whole.replies last whole.timed whole.run sane in
    let texts : first.texts ≡ second.texts =
    bytes_hide_others world last end e (exchanges_of turns) (exchanges_of others) first.texts second.texts whole left
    sane
    known alone (without_on last e mine yours turns others again) served also granted given alike first.told
    second.told in
    let places : first.places ≡ second.places =
    places_without last e mine yours settled.typed known alone turns others again first.places second.places
    first.placed
    second.placed in
    first.here ∙ (λ i. chosen (places i) (texts i)) ∙ sym second.here

-- ---- two answers are exchanged
module _ (r a b : List ℕ) (mine yours : ℕ → Bool) where
  exchanged_on : (turns others : List Turn) → AreExchangedOn r a b mine yours turns others
      → AreExchanged r a b (exchanges_of turns) (exchanges_of others)
  exchanged_on [] others none = ap exchanges_of none
  exchanged_on (turn ∷ turns) others (other, rest, are, comes, same, left) =
      (other.1, exchanges_of rest, ap exchanges_of are, comes, exchanged_on turns rest left)

  module _ (key : List ℕ) (turn other : Turn) (comes : ComesExchanged r a b turn.1 other.1) where
    -- the exchanged request has the same key
    turns_to : (wanted : Bool → Bool) → AsksFor (λ request. wanted (shows key request)) turn.1
        → AsksFor (λ request. wanted (shows key request)) other.1
    turns_to wanted (request, reads, passes) =
        (exchanged_request (swapped r a b) request, comes.turned request reads, passes)

    back_to : AsksRequest other.1.request → AsksRequest turn.1.request
    back_to (request, reads) = let asks = comes.back request reads in (asks.0, asks.1)

    -- one that has another key came with another
    turns_back : AsksForOther (shows key) other.1 → AsksForOther (shows key) turn.1
    turns_back fails =
        let (request, reads) = back_to (fails.0, fails.1) in
        elim (shows key request) as (λ b. shows key request ≡ b → AsksForOther (shows key) turn.1) [
          | true ↦ λ passes. absurd (not_both (shows key) other.1 (turns_to (λ is. is) (request, reads, passes)) fails)
          | false ↦ λ differs. (request, reads, ap not differs)
        ] refl

  none_exchanged : (key : List ℕ) (turns others : List Turn) → AreExchangedOn r a b mine yours turns others
      → ShowNoOther key mine turns → ShowNoOther key yours others
  none_exchanged key [] others none shown =
      subst (ShowNoOther key yours) (sym none) (All-nil (NoneOther (shows key) yours))
  none_exchanged key (turn ∷ turns) others (other, rest, are, comes, same, left) shown =
      subst (ShowNoOther key yours) (sym are)
      (All-cons (NoneOther (shows key) yours) other rest
      (λ there fails. All-head (NoneOther (shows key) mine) turn turns shown (sym same ∙ there)
      (turns_back key turn other comes fails))
      (none_exchanged key turns rest left (All-tail (NoneOther (shows key) mine) turn turns shown)))

  places_exchanged : (key : List ℕ) (turns others : List Turn) → AreExchangedOn r a b mine yours turns others
      → (p q : List Bool) → ArePlaces (shows key) mine turns p → ArePlaces (shows key) yours others q → p ≡ q
  places_exchanged key [] others none p q first second =
      first ∙ sym (subst (λ (all : List Turn). ArePlaces (shows key) yours all q) none second)
  places_exchanged key (turn ∷ turns) others (other, rest, are, comes, same, left) p q first second =
      same_place (shows key) mine yours turn other turns rest (turns_to key turn other comes (λ is. is))
      (turns_to key turn other comes not) (back_to key turn other comes) same (places_exchanged key turns rest left) p q
      first
      (subst (λ (all : List Turn). ArePlaces (shows key) yours all q) are second)

pub wire_hides_answers_on : WireHidesAnswersOn
wire_hides_answers_on world last end r a b round e turns others mine yours whole turned sane sealed is_a is_b known
    alone
    exchange served also alike shown =
    let first = told_on (shows e.key) mine turns whole.requests whole.replies served whole.made shown in
    let second = told_on (shows e.key) yours others turned.requests turned.replies also turned.made
    (none_exchanged r a b mine yours e.key turns others exchange shown) in
    let places : first.places ≡ second.places =
    places_exchanged r a b mine yours e.key turns others exchange first.places second.places first.placed
    second.placed in
    record {
      texts = first.texts;
      words = second.texts;
      places = first.places;
      here = first.here;
      there = second.here ∙ ap (λ (all : List Bool). chosen all second.texts) (sym places);
      exchanged = bytes_hide_answers world last end r a b round e (exchanges_of turns) (exchanges_of others) first.texts
          second.texts whole turned sane sealed is_a is_b known alone
          (exchanged_on r a b mine yours turns others exchange)
          served also alike first.told second.told;
    }
