-- The same bytes are told the same in each later serving, and later in the same one.
use Rattle.std.proofs.Common.{◌≡◌, ◌∙◌, append_assoc, subst, refl, List, [], ◌∷◌, ◌++◌}
use Rattle.hall_policy.specs.World.{World}
use Rattle.hall_store.specs.Store.{Content}
use Rattle.hall_http.specs.Connection.{Exchange}
use Rattle.hall_http.specs.Peer.{Traffic}
use Rattle.hall_http.specs.Serving.{AnswersAt, IsRunOver}
use Rattle.hall_http.specs.Turns.{exchanges_of}
use Rattle.hall_laws.specs.Accepted.{IsRepeatedAlike}
use Rattle.hall_laws.specs.Acknowledged.{AreRepeatedAlike, AreRepeatedAlikeMeanwhile}
use Rattle.hall_laws.proofs.Lived.{Life, answer_happened, happened_then, in_run, life_of, lives_on}
use Rattle.hall_laws.proofs.Standing.{ToldAlike}

module _ (x : Exchange) (kept : World) (alike : ToldAlike x kept) where
  run_alike : (world last : World) (front rest : List Exchange) (y : Exchange) → Life kept world
      → IsRunOver world (front ++ y ∷ rest) last → y.request ≡ x.request → IsRepeatedAlike x world front y
  run_alike world last front rest y life run same =
      let part = in_run front y rest world last run in
      let (stays, told) = alike part.between
      (lives_on kept world part.between life (life_of world front part.between part.led)) y same y.moment part.kept
      part.answered in
      record {
        between = part.between;
        led = part.led;
        answered = subst (λ (w : World). AnswersAt part.between y.moment y.request y.reply w) stays part.answered;
        told = told;
      }

  module _ {H P : Type 0} (content : H → Content) (traffic : P → Traffic) where
    pub serving_alike : (world : World) → Life kept world → AreRepeatedAlike content traffic x world
    serving_alike world life left serving front rest y all same =
        let (last, run, serves) = serving.served.run serving.honest in
        run_alike world last front rest y life
        (subst (λ (ys : List Exchange). IsRunOver world ys last) all
        (subst (λ (w : World). IsRunOver w (exchanges_of serving.served.turns) last) serving.began run)) same

module _ {H P : Type 0} (content : H → Content) (traffic : P → Traffic) (IsAccepted : Exchange → Type 0)
    (alike : (x : Exchange) → IsAccepted x → (between kept : World) → AnswersAt between x.moment x.request x.reply kept
    → ToldAlike x kept) where
  pub alike_meanwhile : AreRepeatedAlikeMeanwhile content traffic IsAccepted
  alike_meanwhile world left serving before between after x y all is same =
      let (last, run, serves) = serving.served.run serving.honest in
      let part = in_run before x (between ++ y ∷ after) world last
      (subst (λ (ys : List Exchange). IsRunOver world ys last) (all ∙ append_assoc before (x ∷ between) (y ∷ after))
      (subst (λ (w : World). IsRunOver w (exchanges_of serving.served.turns) last) serving.began run)) in
      let told = run_alike x part.kept (alike x is part.between part.kept part.answered) part.kept last between after y
      ([], refl) part.run same in
      record {
        between = told.between;
        led = happened_then world before part.between (x ∷ between) told.between part.led
            (happened_then part.between (x ∷ []) part.kept between told.between
            (answer_happened part.between x part.kept part.answered) told.led);
        answered = told.answered;
        told = told.told;
      }
