-- The first request of some bytes, by the head at their front.
use Rattle.std.proofs.Common.{◌≡◌, ◌∙◌, sym, ap, ap₂, subst, refl, ℕ, ◌+◌, ◌<◌, ◌≤◌, List, [], ◌++◌, length, take, drop}
use Rattle.std.proofs.Common.{map, arith, append_assoc, length-append, ◌-◌, inl, inr, replicate, Option, Some, None}
use Rattle.std.proofs.Common.{true, false, if◌then◌else◌}
use Rattle.std.proofs.lemmas.Option.{same_Some}
use Rattle.std.proofs.lemmas.List.{length-map, length-replicate, length-take-le, append-nil, take-append-le}
use Rattle.std.proofs.lemmas.List.{take-append-drop, take_at}
use Rattle.std.proofs.Math.Seq.{take-append-add}
use Rattle.std.proofs.lemmas.Bool.{and_parts}
use Rattle.std.specs.Prelude.{nat_le, ◌&&◌, ◌||◌, Bool, slice_range}
use Rattle.std.specs.List.{list_any}
use Rattle.hall_http.specs.Head.{headers_named, Header, field_limit, first_value, shown_key, says_close, closes}
use Rattle.std.specs.Prelude.{codes, ◌==◌}
use Rattle.httparse.specs.Grammar.{RequestHead, ReadsRequest, HasNoRequest, MayBecomeRequest, print_request}
use Rattle.httparse.specs.Spans.{RequestOverflows, name_and_value, header_bytes, span_bytes, IsRequestAt}
use Rattle.httparse.specs.declared.spans.HeaderSpan.{HeaderSpan}
use Rattle.httparse.specs.declared.spans.RequestSpans.{RequestSpans}
use Rattle.hall_http.specs.declared.head.RawRequest.{RawRequest}
use Rattle.httparse.proofs.GrammarLemmas.{ReadsRequest-append, request_prefix_free}
use Rattle.hall_http.specs.Head.{body_size, headers_of, IsHeadAndBody, IsLentBy, IsWholeRequest, HasNoWholeRequest}
use Rattle.hall_http.specs.Head.{NeverHas, IsUnfinished, IsUnfinishedBelow, length_in, head_limit, is_accepted}
use Rattle.hall_http.specs.Head.{within_size_limit}

size_of : RequestHead → Option ℕ
size_of h = body_size (length (print_request h)) (headers_of h)

-- a whole request at the front has the head that is at the front, and the size that it asks for
pub same_size : (bytes more front rest : List ℕ) (h : RequestHead) (after : List ℕ)
    → ReadsRequest bytes h after → bytes ++ more ≡ front ++ rest → IsWholeRequest front
    → (body : List ℕ) × (body_size (length (print_request h)) (headers_of h) ≡ Some (length body))
    × (front ≡ print_request h ++ body)
same_size bytes more front rest h after reads split (k, body, whole) =
    let longer : ReadsRequest (bytes ++ more) k (body ++ rest) = rw split
    (ReadsRequest-append front k body rest whole.reads) in
    let same = (request_prefix_free bytes more h k after (body ++ rest) reads longer).0 in
    (body, rw same whole.size, rw same whole.reads.1)

pub never_without : (bytes : List ℕ) (h : RequestHead) (after : List ℕ) → ReadsRequest bytes h after
    → body_size (length (print_request h)) (headers_of h) ≡ None → NeverHas bytes
never_without bytes h after reads none more front rest split whole =
    let (body, size, front_is) = same_size bytes more front rest h after reads split whole in
    let bad = sym none ∙ size in cc

-- a head at the front, and so many bytes behind it
request_at : (bytes : List ℕ) (h : RequestHead) (after : List ℕ) (n : ℕ) → ReadsRequest bytes h after
    → body_size (length (print_request h)) (headers_of h) ≡ Some n → n ≤ length after
    → IsHeadAndBody (take (length (print_request h) + n) bytes) h (take n after)
request_at bytes h after n reads size fits =
    let cut : take (length (print_request h) + n) bytes ≡ print_request h
    ++ take n after = rw reads.1 (take-append-add (print_request h) after n) in
    record { reads = (reads.0, cut); size = size ∙ ap Some (sym (length-take-le n after fits)) }

pub none_yet : (bytes : List ℕ) (h : RequestHead) (after : List ℕ) (n : ℕ) → ReadsRequest bytes h after
    → body_size (length (print_request h)) (headers_of h) ≡ Some n → length after < n → HasNoWholeRequest bytes
none_yet bytes h after n reads size short front rest split whole =
    let (body, asked, front_is) = same_size bytes [] front rest h after reads (append-nil bytes ∙ split) whole in
    let n_is : n ≡ length body = same_Some _ _ (sym size ∙ asked) in
    let one : length bytes ≡ length (print_request h) + length after = ap length reads.1
    ∙ length-append (print_request h) after in
    let two : length bytes ≡ length front + length rest = ap length split ∙ length-append front rest in
    let three : length front ≡ length (print_request h) + length body = ap length front_is
    ∙ length-append (print_request h) body in
    absurd (omega arith)

pub none_in : (bytes : List ℕ) → HasNoRequest bytes → HasNoWholeRequest bytes
none_in bytes none front rest split (k, body, whole) =
    none k (body ++ rest) (rw split (ReadsRequest-append front k body rest whole.reads))

accepted : (size n : ℕ) (headers : List Header) (b : Bool) (o : Option ℕ) → (if b then o else None) ≡ Some n → b ≡ true
accepted size n headers true o h = refl
accepted size n headers false o h = cc

pub small_head : (size n : ℕ) (headers : List Header) → body_size size headers ≡ Some n → (size ≤ 8192)
    × (length headers ≤ 32)
small_head size n headers h =
    let yes = accepted size n headers (is_accepted size headers) _ h in
    let few_keys = and_parts (nat_le size head_limit && nat_le (length headers) field_limit &&
    (length (headers_named (codes "transfer-encoding") headers) == 0))
    (nat_le (length (headers_named (codes "hall-key") headers)) 1) yes in
    let not_coded = and_parts (nat_le size head_limit && nat_le (length headers) field_limit)
    (length (headers_named (codes "transfer-encoding") headers) == 0) few_keys.0 in
    let both = and_parts (nat_le size head_limit) (nat_le (length headers) field_limit) not_coded.0 in
    (grind (arith, both.0), grind (arith, both.1))

-- the hall takes no head with two keys
one_key : (size n : ℕ) (headers : List Header) → body_size size headers ≡ Some n
    → length (headers_named (codes "hall-key") headers) ≤ 1
one_key size n headers h =
    let yes = accepted size n headers (is_accepted size headers) _ h in
    let few_keys = and_parts (nat_le size head_limit && nat_le (length headers) field_limit &&
    (length (headers_named (codes "transfer-encoding") headers) == 0))
    (nat_le (length (headers_named (codes "hall-key") headers)) 1) yes in
    grind (arith, few_keys.1)

-- what is lent is one whole request
pub lent_whole : (bytes : List ℕ) (raw : RawRequest) → IsLentBy bytes raw → IsWholeRequest bytes
lent_whole bytes raw (head, is, method, path, key, closing) = (head, raw.body.now, is)

rest_of : (m n : ℕ) → (m + n) - m ≡ n
rest_of m n = omega arith

-- what the spans of a head lend, and so many bytes behind it
pub lent_at : (bytes : List ℕ) (headers : List HeaderSpan) (r : RequestSpans) (h : RequestHead) (n : ℕ)
    (method path : List ℕ) (shown : Option (List ℕ)) (body : List ℕ) (closing : Bool) → IsRequestAt bytes headers r h
    → body_size (length (print_request h)) (headers_of h) ≡ Some n → n ≤ length (drop r.len bytes)
    → method ≡ span_bytes bytes r.method → path ≡ span_bytes bytes r.path
    → (length (headers_named (codes "hall-key") (map (header_bytes bytes) (take r.headers headers))) ≤ 1
    → shown ≡ first_value (headers_named (codes "hall-key") (map (header_bytes bytes) (take r.headers headers))))
    → body ≡ slice_range bytes r.len (r.len + n)
    → closing ≡ (r.version == 0 || list_any says_close (map (header_bytes bytes) (take r.headers headers)))
    → (head : RequestHead) × IsHeadAndBody (take (r.len + n) bytes) head body × (method ≡ head.method)
    × (path ≡ head.target) × (shown ≡ shown_key head) × (closing ≡ closes head)
lent_at bytes headers r h n method path shown body closing found size fits methods paths keys bodies close = (
  h,
  subst (IsHeadAndBody (take (r.len + n) bytes) h) (sym (bodies
      ∙ ap (λ k. take k (drop r.len bytes)) (rest_of r.len n)))
      (subst (λ (len : ℕ). IsHeadAndBody (take (len + n) bytes) h (take n (drop r.len bytes))) (sym found.len)
      (request_at bytes h (drop r.len bytes) n found.reads size fits)),
  methods ∙ found.method,
  paths ∙ found.path,
  subst (λ (fields : List Header). length (headers_named (codes "hall-key") fields) ≤ 1
      → shown ≡ first_value (headers_named (codes "hall-key") fields)) found.fields keys
      (one_key (length (print_request h)) n (headers_of h) size),
  close ∙ ap₂ (λ (version : ℕ) (fields : List Header). version == 0 || list_any says_close fields) found.version
      found.fields,
)

pub never_past : (bytes : List ℕ) → HasNoRequest bytes → 8192 ≤ length bytes → NeverHas bytes
never_past bytes none long more front rest split (k, body, whole) =
    let small = (small_head (length (print_request k)) (length body) (headers_of k) whole.size).0 in
    let p = print_request k in
    let all : bytes ++ more ≡ p ++ (body ++ rest) = split ∙ ap (λ x. x ++ rest) whole.reads.1
    ∙ append_assoc p body rest in
    let fits : length p ≤ length bytes = omega arith in
    let front_is : take (length p) bytes ≡ p = sym (take-append-le (length p) bytes more fits)
    ∙ ap (take (length p)) all ∙ take_at p (body ++ rest) (length p) refl in
    none k (drop (length p) bytes) (
      whole.reads.0,
      sym (take-append-drop (length p) bytes)
          ∙ ap (λ x. x ++ drop (length p) bytes) front_is,
    )

pub never_over : (bytes : List ℕ) → RequestOverflows 32 bytes → NeverHas bytes
never_over bytes over more front rest split (k, body, whole) =
    let many = over more k (body ++ rest) (rw split (ReadsRequest-append front k body rest whole.reads)) in
    let few = (small_head (length (print_request k)) (length body) (headers_of k) whole.size).1 in
    absurd (omega (arith, many, few, length-map k.fields name_and_value))

pub size_at : (bytes : List ℕ) (headers : List HeaderSpan) (r : RequestSpans) (h : RequestHead)
    → IsRequestAt bytes headers r h
    → body_size r.len (map (header_bytes bytes) (take r.headers headers)) ≡ body_size (length (print_request h))
    (headers_of h)
size_at bytes headers r h found = rw (found.len, found.fields) refl

accepted_size : (n : ℕ) (b : Bool) (o : Option ℕ) → (if b then o else None) ≡ Some n → o ≡ Some n
accepted_size n true o h = h
accepted_size n false o h = cc

fits_within : (limit m n : ℕ) (b : Bool) → nat_le m limit ≡ b → (if b then Some m else None) ≡ Some n → n ≤ limit
fits_within limit m n true e h = let same : m ≡ n = same_Some _ _ h in grind (arith, e)
fits_within limit m n false e h = cc

within_limit : (limit n : ℕ) (o : Option ℕ) → within_size_limit limit o ≡ Some n → n ≤ limit
within_limit limit n None h = cc
within_limit limit n (Some m) h = fits_within limit m n (nat_le m limit) refl h

pub small_body : (size n : ℕ) (headers : List Header) → body_size size headers ≡ Some n → n ≤ 65536
small_body size n headers h =
    let asked = length_in (headers_named (codes "content-length") headers) in
    within_limit 65536 n asked (accepted_size n (is_accepted size headers) (within_size_limit 65536 asked) h)

-- a whole head, and a part of its body
pub lacks_body : (bytes : List ℕ) (h : RequestHead) (after : List ℕ) (n : ℕ) → ReadsRequest bytes h after
    → body_size (length (print_request h)) (headers_of h) ≡ Some n → length after < n → IsUnfinished bytes
lacks_body bytes h after n reads size few =
    let more : List ℕ = replicate (n - length after) 0 in
    let long : n ≡ length (after ++ more) =
    omega (arith, length-append after more, length-replicate {A = ℕ} (n - length after) 0) in
    let small = (small_head (length (print_request h)) n (headers_of h) size).0 in
    let body = small_body (length (print_request h)) n (headers_of h) size in
    let all : length bytes ≡ length (print_request h) + length after =
    ap length reads.1 ∙ length-append (print_request h) after in
    record {
      none = none_yet bytes h after n reads size few;
      short = omega (arith, small, body, all);
      possible = inl (
        more,
        (h, after ++ more, record { reads = ReadsRequest-append bytes h after more reads; size = size ∙ ap Some long }),
      );
    }

-- no whole head so far
pub lacks_head : (bytes : List ℕ) → HasNoRequest bytes → MayBecomeRequest bytes → length bytes < 8192
    → IsUnfinished bytes
lacks_head bytes none may few =
    record { none = none_in bytes none; short = omega arith; possible = inr (few, none, may) }

-- it stays so until all its bytes are there
pub lacks_body_below : (bytes : List ℕ) (h : RequestHead) (after : List ℕ) (n : ℕ) → ReadsRequest bytes h after
    → body_size (length (print_request h)) (headers_of h) ≡ Some n
    → IsUnfinishedBelow (length (print_request h) + n) bytes
lacks_body_below bytes h after n reads size more few =
    let longer = ReadsRequest-append bytes h after more reads in
    let all : length (bytes ++ more) ≡ length (print_request h) + length (after ++ more) =
    ap length longer.1 ∙ length-append (print_request h) (after ++ more) in
    lacks_body (bytes ++ more) h (after ++ more) n longer size (omega arith)

-- nothing is said below no bytes
pub below_none : (bytes : List ℕ) → IsUnfinishedBelow 0 bytes
below_none bytes more few = absurd (omega arith)

pub below_more : (least : ℕ) (bytes piece : List ℕ) → IsUnfinishedBelow least bytes
    → IsUnfinishedBelow least (bytes ++ piece)
below_more least bytes piece below more few = rw append_assoc (below (piece ++ more) (rw append_assoc at few))

pub unfinished_now : (least : ℕ) (bytes : List ℕ) → IsUnfinishedBelow least bytes → length bytes < least
    → IsUnfinished bytes
unfinished_now least bytes below few =
    subst IsUnfinished (append-nil bytes) (below [] (rw append-nil few))
