use Rattle.std.proofs.Common.{◌≡◌, ℕ, List, [], arith, length, take, refl, subst, sym}
use Rattle.std.proofs.lemmas.List.{append-nil, take_all}
use Rattle.hall_http.specs.Head.{IsLentBy}
use Rattle.hall_http.specs.declared.head.RawRequest.{RawRequest}
use Rattle.hall_http.proofs.Heads.{lent_whole}
use Rattle.hall_http.proofs.Once.{whole_front}
use Rattle.hall_http.proofs.head.read_raw_request.Goals as goal

lent_all : (bytes : List ℕ) (n : ℕ) (raw : RawRequest) → n ≡ length bytes → IsLentBy (take n bytes) raw
    → IsLentBy bytes raw
lent_all bytes n raw all lent = subst (λ (front : List ℕ). IsLentBy front raw) (take_all n bytes (omega arith)) lent

pub returns-then-size-bytes : goal.returns-then-size-bytes
returns-then-size-bytes c = λ whole.
    c.if-size-bytes.true
    (whole_front c.args.bytes.now c.in-Whole.size c.in-Whole.ensures.0
    (lent_whole _ c.in-Whole.request c.in-Whole.ensures.1) whole)

pub returns-in-More : goal.returns-in-More
returns-in-More c = λ whole. c.in-More.ensures.0.none c.args.bytes.now [] (sym (append-nil c.args.bytes.now)) whole

pub returns-in-Never : goal.returns-in-Never
returns-in-Never c = λ whole. c.in-Never.ensures [] c.args.bytes.now [] refl whole
