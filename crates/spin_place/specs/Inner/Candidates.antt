-- The bindings that have no place in the order yet.
use Rattle.std.specs.Prelude.{◌≡◌, ℕ, ◌-◌, ◌<◌, Bool, not, ◌&&◌, ◌||◌, ◌==◌, List, length, map, All, AllPairs, Any, IsTrue}
use Rattle.std.specs.List.{AllWithin, HoldsAt}
use Rattle.spin_place.specs.declared.binding.Binding.{Binding}
use Rattle.spin_place.specs.declared.candidate.Candidate.{Candidate}
use Rattle.spin_place.specs.declared.links.Link.{Link}
use Rattle.spin_place.specs.Inner.Links.{times_led, times_held}
use Rattle.spin_place.specs.Precedence.{is_first, is_last, must_precede, numbers_of}

abbrev pub bindings_of : List Candidate → List Binding
bindings_of rest = map (λ c. c.binding.now) rest

abbrev pub numbers_left : List Candidate → List ℕ
numbers_left rest = numbers_of (bindings_of rest)

-- their numbers rise
abbrev pub AreRising : List Candidate → Type 0
AreRising rest = AllPairs (λ m n. m < n) (numbers_left rest)

-- the candidate once it waits for as many links as lead to it from one of these numbers
abbrev pub held : List ℕ → List Link → Candidate → Candidate
held ms links c = record c { waits = times_held ms links c.binding.now.number }

-- each waits for as many links as lead to it from one of them
abbrev pub AreCounted : List Link → List Candidate → Type 0
AreCounted links rest =
    All (λ c. c.waits ≡ times_held (numbers_left rest) links c.binding.now.number) rest

-- for each there is one that must precede it
abbrev pub EachWaits : List Candidate → Type 0
EachWaits rest = All (λ c. Any (λ d. IsTrue (must_precede d.binding.now c.binding.now)) rest) rest

-- the candidate once it waits for none of these links
abbrev pub released : List Link → Candidate → Candidate
released links c = record c { waits = c.waits - times_led links c.binding.now.number }

-- no link holds it back, nor does any of so many that go first, nor of so many that don't go last
abbrev pub is_ready : ℕ → ℕ → Candidate → Bool
is_ready firsts inner c =
    c.waits == 0
    && (is_first c.binding.now.place || firsts == 0)
    && (not (is_last c.binding.now.place) || inner == 0)

-- the candidate at this place is ready, and none before it is
pub record IsFirstReady (firsts inner : ℕ) (rest : List Candidate) (at : ℕ) : Type 0 where
  pub there : at < length rest
  pub ready : HoldsAt (λ c. IsTrue (is_ready firsts inner c)) rest at
  pub before : AllWithin (λ c. IsTrue (is_ready firsts inner c) → ⊥) rest 0 at
