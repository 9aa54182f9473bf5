-- Who makes a request.
use Rattle.std.specs.Prelude.{◌≡◌, List, ℕ, Option, Some, None, IfSome, find}
use Rattle.std.specs.FinMap.{get, values}
use Rattle.hall_policy.specs.World.{World, same_text}
use Rattle.hall_policy.specs.declared.record.Person.{Person}

-- the first person, by name, whose key it is
abbrev pub with_key : World → List ℕ → Option Person
with_key world key = find (λ person. same_text person.key key) (values world.people)

-- the person found is the one with the key and stands under that person's name; nobody else has the key, or stands with
-- it under another name
pub record IsKeyHolder (world : World) (key : List ℕ) (person : Option Person) : Type 0 where
  pub found : person ≡ with_key world key
  pub there : IfSome person (λ p. get world.people p.name ≡ Some p)
  pub alone : (name : List ℕ) (other : Person) →
      get world.people name ≡ Some other → other.key ≡ key → person ≡ Some other
  pub own : (name : List ℕ) (other : Person) → get world.people name ≡ Some other → other.key ≡ key → other.name ≡ name

-- the person with the request's key; none where it has none, or where the key is unknown
abbrev pub caller_of : World → Option (List ℕ) → Option Person
caller_of world None = None
caller_of world (Some key) = with_key world key
