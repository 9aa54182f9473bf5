-- What the bytes of replies tell of replies, and to one key.
use Rattle.std.specs.Prelude.{◌≡◌, ◌&&◌, ◌⊎◌, ℕ, Bool, true, not, List, [], ◌∷◌, Option, Some, All, Ok, IsTrue}
use Rattle.std.specs.FinMap.{get}
use Rattle.hall_policy.specs.World.{World}
use Rattle.hall_policy.specs.OwnAlike.{is_entrant_alone}
use Rattle.hall_policy.specs.Ranges.{IsAnswer}
use Rattle.hall_policy.specs.declared.record.Person.{Person}
use Rattle.hall_policy.specs.declared.record.Round.{Round}
use Rattle.hall_policy.specs.declared.request.Request.{Request}
use Rattle.hall_store.specs.Caller.{caller_of}
use Rattle.hall_desk.specs.Sane.{Sane}
use Rattle.hall_desk.specs.Without.{GrantsNoPublication, is_other_person, stays, certifies}
use Rattle.hall_desk.specs.Without.{replies_where, replies_to, has_key}
use Rattle.hall_desk.specs.Exchanged.{swapped, exchanged_request, exchanged_replies, IsSealedRound}
use Rattle.hall_desk.specs.declared.reply.Reply.{Reply}
use Rattle.hall_desk.specs.declared.reply.Reply.TheVariants.{Unavailable as NotServed}
use Rattle.hall_http.specs.Request.{RequestOf, AsksRequest}
use Rattle.hall_http.specs.Reply.{BytesOf}
use Rattle.hall_http.specs.Answered.{IsRefused}
use Rattle.hall_http.specs.Connection.{Exchange}
use Rattle.hall_http.specs.Serving.{AnswersAt, IsRunOver}

-- equal replies have equal bytes
abbrev pub HasOneSpelling : Type 0
HasOneSpelling = (a b : Reply) (x y : List ℕ) → a ≡ b → BytesOf a x → BytesOf b y → x ≡ y

-- bytes that are no request of the hall are answered alike whatever its world and the moment, where not by 503
abbrev pub RefusalsTellNothing : Type 0
RefusalsTellNothing =
    (world after other left : World) (moment later : Option ℕ) (bytes text word : List ℕ) → ¬ (AsksRequest bytes) →
    AnswersAt world moment bytes text after → AnswersAt other later bytes word left →
    ¬ (BytesOf NotServed text) → ¬ (BytesOf NotServed word) → text ≡ word

-- the bytes ask for a request that passes the test
abbrev pub AsksFor : (Request → Bool) → Exchange → Type 0
AsksFor test x = (request : Request) × RequestOf x.request (Ok request) × (test request ≡ true)

-- the bytes ask for a request that fails the test
abbrev pub AsksForOther : (Request → Bool) → Exchange → Type 0
AsksForOther test x = AsksFor (λ request. not (test request)) x

-- the texts are the replies to the requests that pass the test and to the bytes that are no request, in their order
abbrev pub AreRepliesTold : (Request → Bool) → List Exchange → List (List ℕ) → Type 0
AreRepliesTold test [] texts = texts ≡ []
AreRepliesTold test (x ∷ xs) texts =
    ((AsksFor test x ⊎ ¬ (AsksRequest x.request)) × (rest : List (List ℕ)) × (texts ≡ x.reply ∷ rest)
    × AreRepliesTold test xs rest)
    ⊎ (AsksForOther test x × AreRepliesTold test xs texts)

-- no reply is 503
abbrev pub AllServed : List Exchange → Type 0
AllServed xs = All (λ x. ¬ (BytesOf NotServed x.reply)) xs

-- the same bytes come at the same moment
abbrev pub ComesAgain : Exchange → Exchange → Type 0
ComesAgain x y = (y.request ≡ x.request) × (y.moment ≡ x.moment)

-- whether the request's key belongs, in the world at the list's end, to another person than e who holds the role
-- entrant alone
abbrev pub is_others : World → Person → Request → Bool
is_others last e request = is_other_person e (caller_of last request.key)

-- of the first list all but the requests of others come again, in their order
abbrev pub AreWithout : World → Person → List Exchange → List Exchange → Type 0
AreWithout last e [] ys = ys ≡ []
AreWithout last e (x ∷ xs) ys =
    (AsksFor (is_others last e) x × AreWithout last e xs ys)
    ⊎ (¬ (AsksFor (is_others last e) x)
    × (y : Exchange) × (rest : List Exchange) × (ys ≡ y ∷ rest) × ComesAgain x y × AreWithout last e xs rest)

-- the replies' bytes tell e nothing of others who hold the role entrant alone: two runs of the hall from a sane world,
-- one over bytes, and one over those without the others' requests, write the same bytes to the requests with e's key
-- and to the bytes that are no request; where no reply is 503, none grants a publication, and each request to certify
-- that comes in both runs is answered alike
abbrev pub BytesHideOthers : Type 0
BytesHideOthers =
    (world last end : World) (e : Person) (xs ys : List Exchange) (texts others : List (List ℕ)) →
    (whole : IsRunOver world xs last) (left : IsRunOver world ys end) →
    Sane world → get last.people e.name ≡ Some e → IsTrue (is_entrant_alone e) →
    AreWithout last e xs ys → AllServed xs → AllServed ys →
    All GrantsNoPublication whole.replies → All GrantsNoPublication left.replies →
    replies_where (λ asked. stays last e asked && certifies asked) whole.requests whole.replies
    ≡ replies_where certifies left.requests left.replies →
    AreRepliesTold (λ request. has_key e.key request.key) xs texts →
    AreRepliesTold (λ request. has_key e.key request.key) ys others → texts ≡ others

-- where the first bytes ask for a request, the others ask at the same moment for it with the text of its answer read by
-- the exchange; where the first ask for none, so do the others
pub record ComesExchanged (r a b : List ℕ) (x y : Exchange) : Type 0 where
  pub moment : y.moment ≡ x.moment
  pub turned : (request : Request) → RequestOf x.request (Ok request) →
      RequestOf y.request (Ok (exchanged_request (swapped r a b) request))
  pub back : (request : Request) → RequestOf y.request (Ok request) → AsksFor (λ other. true) x

-- each of the first list comes exchanged in the second, in their order
abbrev pub AreExchanged : List ℕ → List ℕ → List ℕ → List Exchange → List Exchange → Type 0
AreExchanged r a b [] ys = ys ≡ []
AreExchanged r a b (x ∷ xs) ys =
    (y : Exchange) × (rest : List Exchange) × (ys ≡ y ∷ rest) × ComesExchanged r a b x y × AreExchanged r a b xs rest

-- the texts are, in the order of the exchanges, the bytes of these replies, one to each request that passes the test,
-- and the refusals of the bytes that are no request
abbrev pub AreBytes : (Request → Bool) → List Exchange → List Reply → List (List ℕ) → Type 0
AreBytes test [] replies texts = (replies ≡ []) × (texts ≡ [])
AreBytes test (x ∷ xs) replies texts =
    (AsksFor test x × (given : Reply) × (later : List Reply) × (rest : List (List ℕ)) × (replies ≡ given ∷ later)
    × (texts ≡ x.reply ∷ rest) × BytesOf given x.reply × AreBytes test xs later rest)
    ⊎ (IsRefused x.request x.reply × (rest : List (List ℕ)) × (texts ≡ x.reply ∷ rest) × AreBytes test xs replies rest)
    ⊎ (AsksForOther test x × AreBytes test xs replies texts)

-- the first texts are the bytes of the replies to the requests with the key, and the others those of the same replies
-- in which a stands for b and b for a wherever one of them is listed as an answer to the round r; and among both, in
-- their places, are the refusals of the bytes that are no request
pub record AreBytesExchanged (r a b key : List ℕ) (requests : List (ℕ × Request)) (replies : List Reply)
    (xs ys : List Exchange) (texts others : List (List ℕ)) : Type 0 where
  pub first : AreBytes (λ request. has_key key request.key) xs (replies_to key requests replies) texts
  pub second : AreBytes (λ request. has_key key request.key) ys
      (replies_to key requests (exchanged_replies r a b requests replies)) others

-- until a sealed round's end, the replies' bytes don't tell e which of two texts is the answer: two runs of the hall
-- from a sane world, over bytes and over those in which two answers to the round are exchanged, write to the requests
-- with e's key the bytes of the same replies, with the two texts exchanged where answers to the round are listed, and
-- to bytes that are no request their refusals; where no reply is 503, and each request to certify is answered alike
abbrev pub BytesHideAnswers : Type 0
BytesHideAnswers =
    (world last end : World) (r a b : List ℕ) (round : Round) (e : Person) (xs ys : List Exchange)
    (texts others : List (List ℕ)) → (whole : IsRunOver world xs last) (turned : IsRunOver world ys end) →
    Sane world → IsSealedRound world r round whole.requests → IsAnswer a → IsAnswer b →
    get last.people e.name ≡ Some e → IsTrue (is_entrant_alone e) →
    AreExchanged r a b xs ys → AllServed xs → AllServed ys →
    replies_where certifies whole.requests whole.replies ≡ replies_where certifies turned.requests turned.replies →
    AreRepliesTold (λ request. has_key e.key request.key) xs texts →
    AreRepliesTold (λ request. has_key e.key request.key) ys others →
    AreBytesExchanged r a b e.key whole.requests whole.replies xs ys texts others
