-- What bytes are as requests and as records, they are in one way.
use Rattle.std.proofs.Common.{◌≡◌, ◌∙◌, sym, ap, ap₂, subst, refl, arith, ℕ, List, [], ◌∷◌, ◌++◌, length, All, Option}
use Rattle.std.proofs.Common.{Some, None, append_assoc, flat_map, ◌≤◌, take, drop}
use Rattle.std.proofs.lemmas.List.{append-nil, length-take-le, take-append-drop}
use Rattle.std.proofs.lemmas.List.Elements.{All-head, All-tail}
use Rattle.httparse.specs.Grammar.{RequestHead, print_request, ReadsRequest}
use Rattle.httparse.proofs.GrammarLemmas.{request_unique, ReadsRequest-append}
use Rattle.hall_http.specs.Head.{IsHeadAndBody, IsWholeRequest, HasNoWholeRequest, body_size, headers_of}
use Rattle.hall_http.specs.Records.{Record, IsRecord, Records, record_bytes, header_of, header_in, HasNoRecord}
use Rattle.hall_http.specs.Laws.{Requests}
use Rattle.hall_http.proofs.Splits.{split_unique}
use Rattle.hall_http.proofs.Headers.{header_reads}
use Rattle.hall_http.proofs.Cutting.{line_free, split_record}

-- two texts of one length at the front of the same bytes
cut_same : (a c b d : List ℕ) → length a ≡ length c → a ++ b ≡ c ++ d → (a ≡ c) × (b ≡ d)
cut_same [] [] b d size same = (refl, same)
cut_same [] (z ∷ c) b d size same = absurd (omega arith)
cut_same (y ∷ a) [] b d size same = absurd (omega arith)
cut_same (y ∷ a) (z ∷ c) b d size same =
    let tails : a ++ b ≡ c ++ d = cc in
    let shorter : length a ≡ length c = omega arith in
    let (fronts, rests) = cut_same a c b d shorter tails in (cc, rests)

-- the first request of a stream
first_parts : (one other : List ℕ) (h k : RequestHead) (body more rest left : List ℕ) → IsHeadAndBody one h body
    → IsHeadAndBody other k more → one ++ rest ≡ other ++ left → (h ≡ k) × (body ≡ more) × (rest ≡ left)
first_parts one other h k body more rest left is it same =
    let (heads, tails) =
    request_unique (other ++ left) h k (body ++ rest) (more ++ left)
    (subst (λ s. ReadsRequest s h (body ++ rest)) same (ReadsRequest-append one h body rest is.reads))
    (ReadsRequest-append other k more left it.reads) in
    let sizes : Some (length body) ≡ Some (length more) =
    sym is.size ∙ ap (λ h. body_size (length (print_request h)) (headers_of h)) heads ∙ it.size in
    let (bodies, rests) = cut_same body more rest left (cc) tails in (heads, bodies, rests)

pub one_request : (bytes : List ℕ) (h k : RequestHead) (body more : List ℕ) → IsHeadAndBody bytes h body
    → IsHeadAndBody bytes k more → (h ≡ k) × (body ≡ more)
one_request bytes h k body more is it =
    let (heads, bodies, rests) = first_parts bytes bytes h k body more [] [] is it refl in (heads, bodies)

pub one_first : (one other rest left : List ℕ) → IsWholeRequest one → IsWholeRequest other → one ++ rest ≡ other ++ left
    → (one ≡ other) × (rest ≡ left)
one_first one other rest left (h, body, is) (k, more, it) same =
    let (heads, bodies, rests) = first_parts one other h k body more rest left is it same in
    (is.reads.1 ∙ ap₂ (λ h s. print_request h ++ s) heads bodies ∙ sym it.reads.1, rests)

-- bytes that are one whole request have no shorter one at their front
pub whole_front : (bytes : List ℕ) (n : ℕ) → n ≤ length bytes → IsWholeRequest (take n bytes) → IsWholeRequest bytes
    → n ≡ length bytes
whole_front bytes n fits front whole =
    let same = (one_first (take n bytes) bytes (drop n bytes) [] front whole
    (take-append-drop n bytes ∙ sym (append-nil bytes))).0 in
    sym (length-take-le n bytes fits) ∙ ap length same

abbrev joined : List (List ℕ) → List ℕ
joined requests = flat_map (λ request. request) requests

same_lists : (xs ys : List (List ℕ)) (rest left : List ℕ) → All IsWholeRequest xs → All IsWholeRequest ys
    → HasNoWholeRequest rest
    → HasNoWholeRequest left → joined xs ++ rest ≡ joined ys ++ left → (xs ≡ ys) × (rest ≡ left)
same_lists [] [] rest left all each ended over same = (refl, same)
same_lists [] (y ∷ ys) rest left all each ended over same =
    absurd (ended y (joined ys ++ left) (same ∙ append_assoc y (joined ys) left) (All-head IsWholeRequest y ys each))
same_lists (x ∷ xs) [] rest left all each ended over same =
    absurd (over x (joined xs ++ rest) (sym same ∙ append_assoc x (joined xs) rest) (All-head IsWholeRequest x xs all))
same_lists (x ∷ xs) (y ∷ ys) rest left all each ended over same =
    let (firsts, tails) =
    one_first x y (joined xs ++ rest) (joined ys ++ left) (All-head IsWholeRequest x xs all)
    (All-head IsWholeRequest y ys each)
    (sym (append_assoc x (joined xs) rest) ∙ same ∙ append_assoc y (joined ys) left) in
    let (later, rests) =
    same_lists xs ys rest left (All-tail IsWholeRequest x xs all) (All-tail IsWholeRequest y ys each) ended over
    tails in
    (ap₂ (λ z zs. z ∷ zs) firsts later, rests)

pub one_list : (stream : List ℕ) (xs ys : List (List ℕ)) (rest left : List ℕ) → Requests stream xs rest
    → Requests stream ys left → (xs ≡ ys) × (rest ≡ left)
one_list stream xs ys rest left one other =
    same_lists xs ys rest left one.each other.each one.ended other.ended (sym one.whole ∙ other.whole)

abbrev moment_in : Option (ℕ × ℕ) → ℕ
moment_in None = 0
moment_in (Some p) = p.0

abbrev size_in : Option (ℕ × ℕ) → ℕ
size_in None = 0
size_in (Some p) = p.1

-- the first record of a stream
one_record : (r q : Record) (rest left : List ℕ) → IsRecord r → IsRecord q
    → record_bytes r ++ rest ≡ record_bytes q ++ left → (r ≡ q) × (rest ≡ left)
one_record r q rest left is it same =
    let (lines, tails) =
    split_unique 10 (header_of r.moment (length r.request)) (r.request ++ rest) (header_of q.moment (length q.request))
    (q.request ++ left) (line_free r is) (line_free q it)
    (sym (split_record r rest) ∙ same ∙ split_record q left) in
    let told : Some (r.moment, length r.request) ≡ Some (q.moment, length q.request) =
    sym (header_reads r.moment (length r.request) is.moment is.size) ∙ ap header_in lines
    ∙ header_reads q.moment (length q.request) it.moment it.size in
    let moments : r.moment ≡ q.moment = ap moment_in told in
    let sizes : length r.request ≡ length q.request = ap size_in told in
    let (requests, rests) = cut_same r.request q.request rest left sizes tails in
    (ap₂ (λ m s. record { moment = m; request = s }) moments requests, rests)

abbrev written : List Record → List ℕ
written records = flat_map record_bytes records

same_records : (xs ys : List Record) (rest left : List ℕ) → All IsRecord xs → All IsRecord ys → HasNoRecord rest
    → HasNoRecord left → written xs ++ rest ≡ written ys ++ left → (xs ≡ ys) × (rest ≡ left)
same_records [] [] rest left all each ended over same = (refl, same)
same_records [] (y ∷ ys) rest left all each ended over same =
    absurd (ended y (written ys ++ left) (All-head IsRecord y ys each)
    (same ∙ append_assoc (record_bytes y) (written ys) left))
same_records (x ∷ xs) [] rest left all each ended over same =
    absurd (over x (written xs ++ rest) (All-head IsRecord x xs all)
    (sym same ∙ append_assoc (record_bytes x) (written xs) rest))
same_records (x ∷ xs) (y ∷ ys) rest left all each ended over same =
    let (firsts, tails) =
    one_record x y (written xs ++ rest) (written ys ++ left) (All-head IsRecord x xs all) (All-head IsRecord y ys each)
    (sym (append_assoc (record_bytes x) (written xs) rest) ∙ same ∙ append_assoc (record_bytes y) (written ys) left) in
    let (later, rests) =
    same_records xs ys rest left (All-tail IsRecord x xs all) (All-tail IsRecord y ys each) ended over tails in
    (ap₂ (λ z zs. z ∷ zs) firsts later, rests)

pub one_record_list : (stream : List ℕ) (xs ys : List Record) (rest left : List ℕ) → Records stream xs rest
    → HasNoRecord rest → Records stream ys left → HasNoRecord left → (xs ≡ ys) × (rest ≡ left)
one_record_list stream xs ys rest left one ended other over =
    same_records xs ys rest left one.each other.each ended over (sym one.whole ∙ other.whole)
