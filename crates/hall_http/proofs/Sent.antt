-- What the bytes that a connection was sent tell to one key.
use Rattle.std.proofs.Common.{◌≡◌, ◌∙◌, ◌==◌, ap, refl, sym, inl, inr, List, ℕ, [], ◌∷◌, ◌++◌, append_assoc, map}
use Rattle.std.specs.Prelude.{flat_map}
use Rattle.std.proofs.lemmas.List.{append-nil}
use Rattle.std.proofs.lemmas.List.Concat.{flat_map-append}
use Rattle.hall_http.specs.Connection.{Exchange, replies_of}
use Rattle.hall_http.specs.Peer.{Traffic}
use Rattle.hall_http.specs.Served.{refusal}
use Rattle.hall_http.specs.Turns.{Turn, AreSent, IsConnectionTold, IsRefusedAfter, exchanges_of, of}
use Rattle.hall_http.specs.Wire.{IsFirstPart, SentHidesOthers, replies_on}
use Rattle.hall_http.proofs.Wire.{wire_hides_others_on}

-- the texts of the replies, one after another, are their bytes
joined : (xs : List Exchange) → flat_map (λ text. text) (map (λ x. x.reply) xs) ≡ replies_of xs
joined [] = refl
joined (x ∷ xs) = ap (λ s. x.reply ++ s) (joined xs)

-- a text that goes on, and then a third
then_more : (all part rest more : List ℕ) → all ≡ part ++ rest → all ++ more ≡ part ++ (rest ++ more)
then_more all part rest more is = ap (λ s. s ++ more) is ∙ append_assoc part rest more

-- what was sent is a first part of all replies and of the reply to bytes that are no request
sent_part : (xs : List Exchange) (went : List ℕ) → AreSent xs went → IsFirstPart went (replies_of xs ++ refusal)
sent_part xs went (inl all) = (refusal, ap (λ s. s ++ refusal) (sym all))
sent_part xs went (inr (before, last, front, rest, is, cut, some)) =
    let replies : replies_of xs ≡ replies_of before ++ last.reply =
    ap replies_of is ∙ flat_map-append (λ x. x.reply) before (last ∷ [])
    ∙ ap (λ s. replies_of before ++ s) (append-nil last.reply) in
    let whole : replies_of xs ≡ went ++ rest =
    replies ∙ ap (λ s. replies_of before ++ s) cut ∙ sym (append_assoc (replies_of before) front rest)
    ∙ ap (λ s. s ++ rest) (sym some) in
    (rest ++ refusal, then_more (replies_of xs) went rest refusal whole)

refused_part : (xs : List Exchange) (went : List ℕ) → IsRefusedAfter xs went
    → IsFirstPart went (replies_of xs ++ refusal)
refused_part xs went (front, rest, cut, all) = (
  rest,
  ap (λ s. replies_of xs ++ s) cut ∙ sym (append_assoc (replies_of xs) front rest) ∙ ap (λ s. s ++ rest) (sym all),
)

told_part : (xs : List Exchange) (t : Traffic) → IsConnectionTold xs t
    → IsFirstPart t.went (replies_of xs ++ refusal)
told_part xs t told = elim told.told [
  | inl sent ↦ sent_part xs t.went sent
  | inr refused ↦ refused_part xs t.went refused.0
]

pub sent_hides_others : SentHidesOthers
sent_hides_others world last end e turns others m n t u whole left sane known alone without served also granted given
    alike shows_it told tells =
    let same : replies_on (λ k. k == m) turns ≡ replies_on (λ k. k == n) others =
    wire_hides_others_on world last end e turns others (λ k. k == m) (λ k. k == n) whole left sane known alone without
    served also granted given alike shows_it in
    let bytes : replies_of (of n others) ≡ replies_of (of m turns) =
    sym (joined (of n others)) ∙ ap (λ texts. flat_map (λ text. text) texts) (sym same) ∙ joined (of m turns) in
    let (rest, is) = told_part (of n others) u tells in
    (replies_of (of m turns) ++ refusal, told_part (of m turns) t told, (rest, ap (λ s. s ++ refusal) (sym bytes) ∙ is))
