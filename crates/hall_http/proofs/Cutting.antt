-- What stands at the front of some bytes, by their first line.
use Rattle.std.proofs.Common.{◌≡◌, ◌∙◌, sym, ap, ap₂, refl, arith, ℕ, suc, ◌+◌, ◌-◌, ◌<◌, ◌≤◌, ◌==◌, List, [], ◌∷◌}
use Rattle.std.proofs.Common.{◌++◌, length, take, drop, Option, Some, None, length-append, length-drop, append_assoc}
use Rattle.std.specs.List.{position}
use Rattle.std.proofs.lemmas.List.{append-nil, length-take-le}
use Rattle.std.proofs.Math.Seq.{take-append-add}
use Rattle.hall_http.specs.Records.{Record, IsRecord, record_bytes, header_of, header_in, HasNoRecord, NeverHasRecord}
use Rattle.hall_http.specs.Records.{bytes_between, IsCut, record_limit}
use Rattle.hall_http.proofs.Splits.{Free, split_unique, free_front, found_free, found_split, found_none}
use Rattle.hall_http.proofs.Headers.{header_free, header_short, header_reads, header_writes}

pub line_free : (r : Record) → IsRecord r → Free 10 (header_of r.moment (length r.request))
line_free r is =
    let a = is.moment in let b = is.size in header_free r.moment (length r.request) (omega arith) (omega arith)

pub split_record : (r : Record) (rest : List ℕ)
    → record_bytes r ++ rest ≡ header_of r.moment (length r.request) ++ 10 ∷ (r.request ++ rest)
split_record r rest = append_assoc (header_of r.moment (length r.request)) (10 ∷ r.request) rest

pub never_long : (bytes : List ℕ) → position (λ y. y == 10) bytes ≡ None → 17 < length bytes → NeverHasRecord bytes
never_long bytes e long more r rest is same =
    let front =
    free_front 10 bytes more (header_of r.moment (length r.request)) (r.request ++ rest) (found_none 10 bytes e)
    (same ∙ split_record r rest) in
    let short = header_short r.moment (length r.request) is.moment is.size in omega arith

pub none_yet : (bytes : List ℕ) → position (λ y. y == 10) bytes ≡ None → HasNoRecord bytes
none_yet bytes e r rest is same =
    let whole : bytes ≡ header_of r.moment (length r.request) ++ 10 ∷ (r.request ++ rest) =
    same ∙ split_record r rest in
    let front =
    free_front 10 bytes [] (header_of r.moment (length r.request)) (r.request ++ rest) (found_none 10 bytes e)
    (append-nil bytes ∙ whole) in
    omega (arith, ap length whole, length-append (header_of r.moment (length r.request)) (10 ∷ (r.request ++ rest)))

-- the first line is the header of the record at the front
first_line : (bytes more : List ℕ) (i : ℕ) → position (λ y. y == 10) bytes ≡ Some i → (r : Record) (rest : List ℕ)
    → IsRecord r → bytes ++ more ≡ record_bytes r ++ rest
    → (take i bytes ≡ header_of r.moment (length r.request)) × (drop (i + 1) bytes ++ more ≡ r.request ++ rest)
first_line bytes more i e r rest is same =
    let split = (found_split 10 bytes i e).1 in
    split_unique 10 (take i bytes) (drop (i + 1) bytes ++ more) (header_of r.moment (length r.request))
    (r.request ++ rest) (found_free 10 bytes i e) (line_free r is)
    (sym (append_assoc (take i bytes) (10 ∷ drop (i + 1) bytes) more) ∙ ap (λ s. s ++ more) (sym split) ∙ same
    ∙ split_record r rest)

read_line : (bytes : List ℕ) (i : ℕ) (r : Record) → IsRecord r → take i bytes ≡ header_of r.moment (length r.request)
    → header_in (take i bytes) ≡ Some (r.moment, length r.request)
read_line bytes i r is e = ap header_in e ∙ header_reads r.moment (length r.request) is.moment is.size

pub never_header : (bytes : List ℕ) (i : ℕ) → position (λ y. y == 10) bytes ≡ Some i → header_in (take i bytes) ≡ None
    → NeverHasRecord bytes
never_header bytes i e bad more r rest is same =
    let line = first_line bytes more i e r rest is same in
    let good = read_line bytes i r is line.0 in
    let clash : None ≡ Some (r.moment, length r.request) = sym bad ∙ good in absurd cc

-- what waits for the rest of a record is shorter than the longest one
pub short_yet : (bytes : List ℕ) (i m n : ℕ) → position (λ y. y == 10) bytes ≡ Some i
    → header_in (take i bytes) ≡ Some (m, n) → length bytes - (i + 1) < n → length bytes < record_limit
short_yet bytes i m n e good few =
    let (inside, split) = found_split 10 bytes i e in
    let (line, late, long) = header_writes (take i bytes) m n good in
    let short = header_short m n late long in
    omega (arith, ap length line, length-take-le i bytes (omega arith))

abbrev size_in : Option (ℕ × ℕ) → ℕ
size_in None = 0
size_in (Some p) = p.1

pub not_yet : (bytes : List ℕ) (i m n : ℕ) → position (λ y. y == 10) bytes ≡ Some i
    → header_in (take i bytes) ≡ Some (m, n) → length bytes - (i + 1) < n → HasNoRecord bytes
not_yet bytes i m n e good few r rest is same =
    let line = first_line bytes [] i e r rest is (append-nil bytes ∙ same) in
    let told : Some (m, n) ≡ Some (r.moment, length r.request) = sym good ∙ read_line bytes i r is line.0 in
    let size : n ≡ length r.request = ap size_in told in
    let tail : drop (i + 1) bytes ≡ r.request ++ rest = sym (append-nil (drop (i + 1) bytes)) ∙ line.1 in
    omega (arith, ap length tail, length-append r.request rest, length-drop (i + 1) bytes)

pub cut_whole : (bytes : List ℕ) (i m n : ℕ) → position (λ y. y == 10) bytes ≡ Some i
    → header_in (take i bytes) ≡ Some (m, n) → n ≤ length bytes - (i + 1)
    → (r : Record) × (r.moment ≡ m) × IsCut bytes r (i + 1) (i + 1 + n)
cut_whole bytes i m n e good enough =
    let (inside, split) = found_split 10 bytes i e in
    let (line, late, long) = header_writes (take i bytes) m n good in
    let request = bytes_between bytes (i + 1) (i + 1 + n) in
    let same : request ≡ take n (drop (i + 1) bytes) =
    let k : (i + 1 + n) - (i + 1) ≡ n = omega arith in ap (λ j. take j (drop (i + 1) bytes)) k in
    let size : length request ≡ n =
    ap length same ∙ length-take-le n (drop (i + 1) bytes) (omega (arith, length-drop (i + 1) bytes)) in
    let front : take (i + 1 + n) bytes ≡ take i bytes ++ 10 ∷ take n (drop (i + 1) bytes) =
    let k : i + 1 + n ≡ length (take i bytes) + suc n = omega (arith, length-take-le i bytes (omega arith)) in
    ap (λ j. take j bytes) k ∙ ap (λ s. take (length (take i bytes) + suc n) s) split
    ∙ take-append-add (take i bytes) (10 ∷ drop (i + 1) bytes) (suc n) in
    let r : Record = record { moment = m; request = request } in (
      r,
      refl,
      record {
        ordered = omega arith;
        inside = omega arith;
        is = record { moment = late; size = rw size long };
        request = refl;
        whole = front ∙ ap (λ s. s ++ 10 ∷ take n (drop (i + 1) bytes)) line
            ∙ ap₂ (λ k s. header_of m k ++ 10 ∷ s) (sym size) (sym same);
      },
    )
