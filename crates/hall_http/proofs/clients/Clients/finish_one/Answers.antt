use Rattle.std.proofs.Common.{arith, ◌<◌, length, Some}
use Rattle.hall_http.proofs.Crowds.{keep_place}
use Rattle.hall_http.proofs.Numbers.{read_at}
use Rattle.hall_http.proofs.SoFar.{keeps_all}
use Rattle.hall_http.proofs.clients.Clients.finish_one.Goals as goal

pub returns-then-place-len-clause-kept : goal.returns-then-place-len-clause-kept
returns-then-place-len-clause-kept g c = keeps_all g.P.Peer.traffic c.args.self.now

pub finish_at-requires : goal.finish_at-requires
finish_at-requires g c =
    let inside : c.args.place < length c.args.self.now.places.items =
    omega (arith, c.if-place-len.false, c.len.ensures, c.args.self.now.places.ok.0) in
    λ k is. (
      _,
      c.requires.3.here c.args.place k
          (read_at c.args.self.now.places.items c.args.place c.index_mut.result.now (Some k) inside
          c.index_mut.ensures.value is),
    )

pub returns-clause-kept : goal.returns-clause-kept
returns-clause-kept g c =
    let inside : c.args.place < length c.args.self.now.places.items =
    omega (arith, c.if-place-len.false, c.len.ensures, c.args.self.now.places.ok.0) in
    keep_place g.P.Peer.traffic c.args.self.now c.args.place inside c.index_mut.result.now c.finish_at.new.place
    c.index_mut.ensures.value c.finish_at.ensures
