-- One request on the wire: a head as httparse's grammar has it, and a body as long as the head says.
use Rattle.std.specs.Prelude.{◌≡◌, ◌≤◌, ◌<◌, ◌+◌, ◌==◌, ◌⊎◌, ℕ, List, [], ◌∷◌, ◌++◌, length, take}
use Rattle.std.specs.Prelude.{map, filter, Bool, ◌&&◌, ◌||◌, if◌then◌else◌}
use Rattle.std.specs.Prelude.{nat_lt, nat_le, Option, Some, None, option_map, codes}
use Rattle.std.specs.List.{list_all, list_any}
use Rattle.std.specs.Char.{is_ascii_digit}
use Rattle.std.specs.Str.{str_eq_ignore_ascii_case}
use Rattle.std.specs.Str.Parse.{digits_value}
use Rattle.httparse.specs.Grammar.{RequestHead, print_request, ReadsRequest, HasNoRequest, MayBecomeRequest}
use Rattle.httparse.specs.Spans.{name_and_value}
use Rattle.hall_http.specs.declared.head.Found.{Found}
use Rattle.hall_http.specs.declared.head.Found.TheVariants as found
use Rattle.hall_http.specs.declared.head.Cut.{Cut}
use Rattle.hall_http.specs.declared.head.RawRequest.{RawRequest}
use Rattle.hall_http.specs.declared.head.Cut.TheVariants as cut

-- the most bytes of a head
abbrev pub head_limit : ℕ
head_limit = 8192

-- the most headers
abbrev pub field_limit : ℕ
field_limit = 32

-- the most bytes of a body
abbrev pub body_limit : ℕ
body_limit = 65536

-- a header: its name, and its value without the white space around it
abbrev pub Header : Type 0
Header = List ℕ × List ℕ

-- the headers of a head
abbrev pub headers_of : RequestHead → List Header
headers_of head = map name_and_value head.fields

-- the headers of this name, in any case of its letters
abbrev pub headers_named : List ℕ → List Header → List Header
headers_named name headers = filter (λ h. str_eq_ignore_ascii_case h.0 name) headers

-- one to five digits
abbrev pub is_length_text : List ℕ → Bool
is_length_text text = nat_lt 0 (length text) && nat_le (length text) 5 && list_all is_ascii_digit text

-- the number that one to five digits write
abbrev pub length_of_text : List ℕ → Option ℕ
length_of_text text = if is_length_text text then Some (digits_value 10 text) else None

-- the length of the body that these Content-Length headers give: none is 0
abbrev pub length_in : List Header → Option ℕ
length_in [] = Some 0
length_in (h ∷ []) = length_of_text h.1
length_in (h ∷ i ∷ more) = None

-- a head of this size with these headers is one that the hall takes
abbrev pub is_accepted : ℕ → List Header → Bool
is_accepted size headers =
    nat_le size head_limit && nat_le (length headers) field_limit
    && (length (headers_named (codes "transfer-encoding") headers) == 0)
    && nat_le (length (headers_named (codes "hall-key") headers)) 1

-- the number, where it is within the limit
abbrev pub within_size_limit : ℕ → Option ℕ → Option ℕ
within_size_limit limit None = None
within_size_limit limit (Some n) = if nat_le n limit then Some n else None

-- how many bytes the body has, where the hall takes the head
abbrev pub body_size : ℕ → List Header → Option ℕ
body_size size headers =
    if is_accepted size headers then within_size_limit body_limit
    (length_in (headers_named (codes "content-length") headers)) else None

-- the bytes are this head and this body, and nothing more
pub record IsHeadAndBody (bytes : List ℕ) (head : RequestHead) (body : List ℕ) : Type 0 where
  pub reads : ReadsRequest bytes head body
  pub size : body_size (length (print_request head)) (headers_of head) ≡ Some (length body)

-- the bytes are one whole request
abbrev pub IsWholeRequest : List ℕ → Type 0
IsWholeRequest bytes = (head : RequestHead) × (body : List ℕ) × IsHeadAndBody bytes head body

-- no front of the bytes is a whole request
abbrev pub HasNoWholeRequest : List ℕ → Type 0
HasNoWholeRequest bytes = (front rest : List ℕ) → bytes ≡ front ++ rest → ¬ (IsWholeRequest front)

-- however the bytes go on, no front of them is a whole request
abbrev pub NeverHas : List ℕ → Type 0
NeverHas bytes = (more : List ℕ) → HasNoWholeRequest (bytes ++ more)

-- some bytes can follow that make them one whole request
abbrev pub MayBecomeWhole : List ℕ → Type 0
MayBecomeWhole bytes = (more : List ℕ) × IsWholeRequest (bytes ++ more)

-- No front of the bytes is a whole request, and they are fewer than the longest one has: they lack a part of a body
-- alone; or they have no head of the grammar yet, and some bytes can follow that give them one, or its target is still
-- being read.
pub record IsUnfinished (bytes : List ℕ) : Type 0 where
  pub none : HasNoWholeRequest bytes
  pub short : length bytes < head_limit + body_limit
  pub possible : MayBecomeWhole bytes ⊎ ((length bytes < head_limit) × HasNoRequest bytes × MayBecomeRequest bytes)

-- the value that the first of these headers has
abbrev pub first_value : List Header → Option (List ℕ)
first_value [] = None
first_value (h ∷ more) = Some h.1

-- what the caller shows as the key
abbrev pub shown_key : RequestHead → Option (List ℕ)
shown_key head = first_value (headers_named (codes "hall-key") (headers_of head))

-- the header is Connection: close, in any case of its letters
abbrev pub says_close : Header → Bool
says_close h = str_eq_ignore_ascii_case h.0 (codes "connection") && str_eq_ignore_ascii_case h.1 (codes "close")

-- the connection closes after a request with this head: one of HTTP/1.0, or one that says so
abbrev pub closes : RequestHead → Bool
closes head = head.minor == 0 || list_any says_close (headers_of head)

-- the parts that the code lends are those of the one request that the bytes are, and it tells whether the connection
-- closes after it
abbrev pub IsLentBy : List ℕ → RawRequest → Type 0
IsLentBy bytes raw =
    (head : RequestHead) × IsHeadAndBody bytes head raw.body.now × (raw.method.now ≡ head.method)
    × (raw.path.now ≡ head.target) × (option_map (λ key. key.now) raw.key ≡ shown_key head)
    × (raw.closes ≡ closes head)

-- the headers of one name are none, one with this value, or many
abbrev pub Finds : Found → List Header → Type 0
Finds found.None headers = headers ≡ []
Finds (found.One value) headers = (name : List ℕ) × (headers ≡ (name, value.now) ∷ [])
Finds found.Many headers = 1 < length headers

-- the bytes stay unfinished, however they go on, as long as they are fewer than so many
abbrev pub IsUnfinishedBelow : ℕ → List ℕ → Type 0
IsUnfinishedBelow least bytes = (more : List ℕ) → length (bytes ++ more) < least → IsUnfinished (bytes ++ more)

-- the first request ends there, and is what is lent; it is unfinished, and stays so below so many bytes; or no bytes
-- can make it whole
abbrev pub Cuts : List ℕ → Cut → Type 0
Cuts bytes (cut.Whole size request) = (size ≤ length bytes) × IsLentBy (take size bytes) request
Cuts bytes (cut.More least) = IsUnfinished bytes × IsUnfinishedBelow least bytes
Cuts bytes cut.Never = NeverHas bytes
