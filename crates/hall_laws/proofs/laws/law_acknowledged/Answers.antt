use Rattle.sqlite.specs.Held.{state}
use Rattle.hall_sql.specs.Content.{content_of}
use Rattle.hall_laws.proofs.Kept.{answers_are_kept, answers_meanwhile, bytes_are_kept, bytes_are_kept_so_far}
use Rattle.hall_laws.proofs.Kept.{protests_are_kept, protests_meanwhile, records_are_kept}
use Rattle.hall_laws.proofs.laws.law_acknowledged.Goals as goal

pub returns-clause-kept : goal.returns-clause-kept
returns-clause-kept g c = bytes_are_kept (λ s. content_of (state g.S.Store s)) g.P.Peer.traffic

pub returns-clause-so_far : goal.returns-clause-so_far
returns-clause-so_far g c = bytes_are_kept_so_far (λ s. content_of (state g.S.Store s)) g.P.Peer.traffic

pub returns-clause-records : goal.returns-clause-records
returns-clause-records g c = records_are_kept (λ s. content_of (state g.S.Store s)) g.P.Peer.traffic

pub returns-clause-answers : goal.returns-clause-answers
returns-clause-answers g c = answers_are_kept (λ s. content_of (state g.S.Store s)) g.P.Peer.traffic

pub returns-clause-protests : goal.returns-clause-protests
returns-clause-protests g c = protests_are_kept (λ s. content_of (state g.S.Store s)) g.P.Peer.traffic

pub returns-clause-answers_again : goal.returns-clause-answers_again
returns-clause-answers_again g c = answers_meanwhile (λ s. content_of (state g.S.Store s)) g.P.Peer.traffic

pub returns-clause-protests_again : goal.returns-clause-protests_again
returns-clause-protests_again g c = protests_meanwhile (λ s. content_of (state g.S.Store s)) g.P.Peer.traffic
