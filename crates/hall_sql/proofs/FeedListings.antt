-- The rows of a round that a sink is given, are those of the world.
use Rattle.std.proofs.Common.{◌≡◌, inr, ℕ, List, [], Option, refl}
use Rattle.sqlite.specs.State.{State}
use Rattle.hall_policy.specs.declared.record.ProtestRow.{ProtestRow}
use Rattle.hall_policy.proofs.Orders.{protest_total, same_protest_keys}
use Rattle.hall_store.specs.Store.{IsListing, is_between, is_protest_in, listing_cmp, protests_in}
use Rattle.hall_sql.proofs.AnswerTexts.{answers_between}
use Rattle.hall_sql.proofs.ProtestTexts as queries
use Rattle.hall_sql.proofs.AnswerLemmas as answers
use Rattle.hall_sql.proofs.ProtestLemmas as protests
use Rattle.hall_sql.proofs.FeedLemmas.{Lists}
use Rattle.hall_sql.proofs.SelectedLemmas.{records_selected, records_in_order, values_selected}

module _ (s : State) (round : List ℕ) where
  pub answers_between_selected : (after last : Option (List ℕ)) → Lists (answers_between round after last) s.now
      (λ world rows. IsListing world (is_between round after last) rows)
  answers_between_selected after last has keyed sound rows sel =
      let db = s.now.trees in
      let at = keyed.1.1.1.1.0 in
      let q = answers_between round after last in
      record {
        whole = records_selected q (db 9) rows sel (is_between round after last)
            (answers.between_agrees s s has at sound [] [] refl round after last) _
            (answers.answers_listed {schema = s.now.schema} (inr has) db at sound);
        in_order = records_in_order q (db 9) rows sel listing_cmp (answers.same_order q.text q.params q.terms);
      }

  pub protests_in_selected : Lists (queries.protests_in round) s.now (λ world rows. rows ≡ protests_in world round)
  protests_in_selected has keyed sound rows sel =
      let db = s.now.trees in
      let at = keyed.1.1.1.1.1.0 in
      let q = queries.protests_in round in
      values_selected q (db 12) rows sel protest_total same_protest_keys (λ (row : ProtestRow). row.key)
      (protests.protests_listed {schema = s.now.schema} (inr has) db at sound)
      (is_protest_in round) (protests.in_agrees s s has at sound [] [] refl round)
      (protests.same_order q.text q.params q.terms)
