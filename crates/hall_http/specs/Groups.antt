-- Requests that are answered over a store in groups: what those of a group change is stored by one write, and told
-- after it.
use Rattle.std.specs.Prelude.{◌≡◌, ◌≢◌, ◌⊎◌, ℕ, List, [], ◌∷◌, ◌++◌, All, length}
use Rattle.hall_policy.specs.World.{World}
use Rattle.hall_store.specs.Store.{Content, IsSettled, Kept, Leads, LeavesOneOf, Over, WritesOnce}
use Rattle.hall_desk.specs.declared.reply.Reply.TheVariants.{Unavailable as NotServed}
use Rattle.hall_http.specs.Answered.{IsUnavailable}
use Rattle.hall_http.specs.Connection.{Exchange, of_groups}
use Rattle.hall_http.specs.Resting.{IsGroup}
use Rattle.hall_http.specs.Reply.{BytesOf}
use Rattle.hall_http.specs.Serving.{AnswersAt, GoesOn, IsAnsweredOver, IsRunOver}

-- the requests are answered one after another, each in the world that the one before it led to
abbrev pub AnswersInTurn : List Exchange → World → World → Type 0
AnswersInTurn [] before after = after ≡ before
AnswersInTurn (x ∷ xs) before after =
    (between : World) × AnswersAt before x.moment x.request x.reply between × AnswersInTurn xs between after

-- each of the first was answered 503; the second are the same requests at the same moments, with replies of their own
abbrev pub AreRefusedAlike : List Exchange → List Exchange → Type 0
AreRefusedAlike [] made = made ≡ []
AreRefusedAlike (x ∷ xs) made =
    BytesOf NotServed x.reply × (reply : List ℕ) × (more : List Exchange)
    × (made ≡ record { request = x.request; moment = x.moment; reply = reply } ∷ more) × AreRefusedAlike xs more

-- none of the requests was answered 503; or it is one alone
abbrev pub AreMadeWhole : List Exchange → Type 0
AreMadeWhole made = (length made ≡ 1) ⊎ All (λ x. ¬ (IsUnavailable x.reply)) made

-- the requests were made as they were answered; or each was answered 503, and all of them were made all the same
abbrev pub AreMadeInTurn : List Exchange → World → World → Type 0
AreMadeInTurn xs before after =
    (made : List Exchange) × ((made ≡ xs) ⊎ (AreRefusedAlike xs made × AreMadeWhole made))
    × AnswersInTurn made before after

-- none of the requests was answered 503, or each was
abbrev pub AreToldAlike : List Exchange → Type 0
AreToldAlike xs = All (λ x. ¬ (IsUnavailable x.reply)) xs ⊎ All (λ x. IsUnavailable x.reply) xs

-- The requests were answered together over a store, by one write at most: one after another, or by what no store
-- decides; and each by 503, or none. A stop meanwhile, or after it, leaves what a stop before it could leave, or the
-- world after all of them; where each was answered 503, also after all that they would have made.
pub record AreAnsweredTogether {H : Type 0} (content : H → Content) (old : H) (xs : List Exchange) (new : H) : Type 0
  where
    pub leads : Leads (content old) (content new)
    pub once : WritesOnce (content old) (content new)
    pub stops : LeavesOneOf (AreMadeInTurn xs) (content old) (content new)
    pub settled : IsSettled (content new)
    pub answers : (content new).honest → Over (AnswersInTurn xs) (content old) (content new)
    pub alike : AreToldAlike xs

-- a group is one request that was answered alone, or some that were answered together
abbrev pub IsGroupAnswered : {H : Type 0} → (H → Content) → H → List Exchange → H → Type 0
IsGroupAnswered content = IsGroup (IsAnsweredOver content) (AreAnsweredTogether content)

-- The groups are answered over a store, one after another, each over the store that the one before it left and that was
-- only read since; and after none but the last a reply was 503 by a store that serves no more, unless that group left
-- the store as it was.
abbrev pub AreAnsweredWhileOpen : {H : Type 0} → (H → Content) → H → List (List Exchange) → H → Type 0
AreAnsweredWhileOpen content old [] new = Kept (content old) (content new)
AreAnsweredWhileOpen {H} content old (xs ∷ groups) new =
    (read after : H) × Kept (content old) (content read) × IsGroupAnswered content read xs after
    × (groups ≢ [] → All (λ x. GoesOn content read x.reply after) xs) × AreAnsweredWhileOpen content after groups new

-- these requests are answered so, in some groups
abbrev pub AreAnsweredInGroups : {H : Type 0} → (H → Content) → H → List Exchange → H → Type 0
AreAnsweredInGroups content old xs new =
    (groups : List (List Exchange)) × (of_groups groups ≡ xs) × AreAnsweredWhileOpen content old groups new

-- One group was answered 503 and made all the same, as a whole: those before it are a run of the hall, from where that
-- ended the group leads to this world, and those after it are a run that leaves that.
pub record IsRunWithGroup (world : World) (groups : List (List Exchange)) (left : World) : Type 0 where
  pub before : List (List Exchange)
  pub group : List Exchange
  pub after : List (List Exchange)
  pub all : groups ≡ before ++ group ∷ after
  pub between : World
  pub run : IsRunOver world (of_groups before) between
  pub made : List Exchange
  pub refused : AreRefusedAlike group made
  pub whole : AreMadeWhole made
  pub answered : AnswersInTurn made between left
  pub stays : IsRunOver left (of_groups after) left

-- the world is the one after these groups, as they were answered; or one group that was answered 503 was made all the
-- same
abbrev pub IsLeftByGroups : World → List (List Exchange) → World → Type 0
IsLeftByGroups world groups left = IsRunOver world (of_groups groups) left ⊎ IsRunWithGroup world groups left

-- What a stop leaves of a store that served before these groups, which were answered so, is a world that they leave. So
-- it leaves each request of these that got another reply than 503, and none of a later group.
abbrev pub LeavesRunByGroups : Content → List (List Exchange) → Content → Type 0
LeavesRunByGroups old groups new =
    new.honest → old.serves → (left : World) → new.may_leave left → IsLeftByGroups old.world groups left
