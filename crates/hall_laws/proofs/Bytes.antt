-- Which reply a byte that was sent is of.
use Rattle.std.proofs.Common.{◌≡◌, ◌⊎◌, ◌∙◌, ap, sym, refl, inl, inr, ℕ, List, [], ◌∷◌, ◌++◌, append_assoc}
use Rattle.std.proofs.lemmas.List.{append-nil}
use Rattle.std.proofs.lemmas.List.Concat.{flat_map-append}
use Rattle.hall_http.specs.Connection.{Exchange, replies_of}
use Rattle.hall_http.specs.Peer.{Traffic}
use Rattle.hall_http.specs.Served.{refusal}
use Rattle.hall_http.specs.Turns.{AreSent, IsConnectionTold, IsRefusedAfter}
use Rattle.hall_laws.specs.Sent.{IsByteOfRefusal, IsByteOfReply}
use Rattle.hall_laws.proofs.Among.{in_either}

-- a byte of some replies is one of one of them
of_replies : (xs : List Exchange) (sent : List ℕ) (byte : ℕ) (more : List ℕ) → replies_of xs ≡ sent ++ byte ∷ more
    → (x : Exchange) × IsByteOfReply xs sent byte x
of_replies [] [] byte more is = absurd cc
of_replies [] (b ∷ sent) byte more is = absurd cc
of_replies (x ∷ xs) sent byte more is = elim (in_either x.reply (replies_of xs) sent byte more is) [
  | inl (rest, reply, tail) ↦ (
    x,
    record { before = []; after = xs; all = refl; front = sent; rest = rest; reply = reply; then = refl },
  )
  | inr (front, cut, later) ↦
      let (y, of) = of_replies xs front byte more later in (
        y,
        record {
          before = x ∷ of.before;
          after = of.after;
          all = ap (λ (ys : List Exchange). x ∷ ys) of.all;
          front = of.front;
          rest = of.rest;
          reply = of.reply;
          then = cut ∙ ap (λ s. x.reply ++ s) of.then
              ∙ sym (append_assoc x.reply (replies_of of.before) of.front);
        },
      )
]

-- what goes on goes on after the byte too
after_byte : (all went rest sent : List ℕ) (byte : ℕ) (more : List ℕ) → all ≡ went ++ rest
    → went ≡ sent ++ byte ∷ more → all ≡ sent ++ byte ∷ (more ++ rest)
after_byte all went rest sent byte more whole part =
    whole ∙ ap (λ s. s ++ rest) part ∙ append_assoc sent (byte ∷ more) rest

module _ (xs : List Exchange) (sent : List ℕ) (byte : ℕ) (more went : List ℕ) (part : went ≡ sent ++ byte ∷ more)
  where
    of_sent : AreSent xs went → (x : Exchange) × IsByteOfReply xs sent byte x
    of_sent (inl all) = of_replies xs sent byte more (sym all ∙ part)
    of_sent (inr (before, last, front, rest, is, cut, some)) =
        let whole : replies_of xs ≡ went ++ rest =
        ap replies_of is ∙ flat_map-append (λ x. x.reply) before (last ∷ [])
        ∙ ap (λ s. replies_of before ++ s) (append-nil last.reply ∙ cut)
        ∙ sym (append_assoc (replies_of before) front rest) ∙ ap (λ s. s ++ rest) (sym some) in
        of_replies xs sent byte (more ++ rest) (after_byte (replies_of xs) went rest sent byte more whole part)

    of_refusal : IsRefusedAfter xs went
        → ((x : Exchange) × IsByteOfReply xs sent byte x) ⊎ IsByteOfRefusal xs sent byte
    of_refusal (front, rest, cut, all) = elim (in_either (replies_of xs) front sent byte more (sym all ∙ part)) [
      | inl (left, replies, tail) ↦ inl (of_replies xs sent byte left replies)
      | inr (first, then, later) ↦ inr (record {
        front = first;
        rest = more ++ rest;
        reply = after_byte refusal front rest first byte more cut later;
        then = then;
      })
    ]

-- each byte that a connection was sent is one of a reply
pub byte_told : (xs : List Exchange) (t : Traffic) → IsConnectionTold xs t → (sent : List ℕ) (byte : ℕ) (more : List ℕ)
    → t.went ≡ sent ++ byte ∷ more → ((x : Exchange) × IsByteOfReply xs sent byte x) ⊎ IsByteOfRefusal xs sent byte
byte_told xs t told sent byte more part = elim told.told [
  | inl all ↦ inl (of_sent xs sent byte more t.went part all)
  | inr refused ↦ of_refusal xs sent byte more t.went part refused.0
]
