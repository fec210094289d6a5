-- Lists of sends to endpoints by number, and of endpoints that are retired.
use Rattle.std.specs.Prelude.{◌≡◌, ◌<◌, ◌&&◌, ◌==◌, [], ℕ, Bool, true, List, Result, Ok, Err, not}
use Rattle.std.specs.Prelude.{length, map, filter, take, slice_index_or, if◌then◌else◌, bytes_eq}
use Rattle.std.specs.List.{fold, HoldsAt}
use Rattle.spin_endpoint.specs.declared.ends.TheConstants.{MAX_ENDPOINTS}
use Rattle.spin_endpoint.specs.Endpoints.{gained}
use Rattle.spin_endpoint.specs.Named.{NamedEnd, FailsAt, stands, changed_as, retired}

-- bytes that are sent to an endpoint of a script, by its number
pub record SentSeen : Type 0 where
  pub endpoint : ℕ
  pub bytes : List ℕ

-- the name of a number
abbrev pub name_of : List (List ℕ) → ℕ → List ℕ
name_of names number = slice_index_or names number []

-- the pieces that are sent to a name, in the order of the sends
abbrev pub pieces_for : List (List ℕ) → List SentSeen → List ℕ → List (List ℕ)
pieces_for names sends name =
    map (λ sent. sent.bytes) (filter (λ sent. bytes_eq name (name_of names sent.endpoint)) sends)

-- an endpoint after the sends: where it stands, it has gained the pieces that are sent to its name
abbrev pub received : List (List ℕ) → List SentSeen → NamedEnd → NamedEnd
received names sends end =
    if end.stands then record end { object = gained (pieces_for names sends end.name) end.object } else end

-- the endpoints after the sends: each that stands has gained the pieces that are sent to its name
abbrev pub all_received : List (List ℕ) → List SentSeen → List NamedEnd → List NamedEnd
all_received names sends ends = map (received names sends) ends

-- A send is lost where no endpoint stands under its name.
abbrev pub is_lost : List (List ℕ) → List NamedEnd → SentSeen → Bool
is_lost names ends sent = not (stands (name_of names sent.endpoint) ends)

-- how many sends to a number are lost
abbrev pub lost_to : List (List ℕ) → List NamedEnd → List SentSeen → ℕ → ℕ
lost_to names ends sends number = length (filter (λ sent. (sent.endpoint == number) && is_lost names ends sent) sends)

-- The sends before one were delivered or lost. That one is to the number, whose endpoint stands,
-- and failed.
pub record StopsAt (names : List (List ℕ)) (sends : List SentSeen) (number : ℕ)
    (before after : List NamedEnd) : Type 0 where
  pub done : ℕ
  pub there : done < length sends
  pub number_is : HoldsAt (λ sent. sent.endpoint ≡ number) sends done
  pub standing : stands (name_of names number) before ≡ true
  pub fails : FailsAt (name_of names number) (all_received names (take done sends) before) after

-- All sends were delivered or lost, and the lost ones are counted by number; or one failed.
abbrev pub DeliversAll : List (List ℕ) → List SentSeen → Result (List ℕ) ℕ → List NamedEnd → List NamedEnd → Type 0
DeliversAll names sends (Ok lost) before after =
    (after ≡ all_received names sends before)
    × ((number : ℕ) → number < MAX_ENDPOINTS → slice_index_or lost number 0 ≡ lost_to names before sends number)
DeliversAll names sends (Err number) before after = StopsAt names sends number before after

-- the endpoints, after those of these numbers were retired one after another: of each the one that stands under its
-- name, if one does
abbrev pub all_retired : List (List ℕ) → List ℕ → List NamedEnd → List NamedEnd
all_retired names numbers ends = fold (λ now number. changed_as (name_of names number) retired now) ends numbers

-- whether an endpoint stands under the name of a number when its turn comes, those before it being
-- retired
abbrev pub stands_in_turn : List (List ℕ) → List ℕ → List NamedEnd → ℕ → Bool
stands_in_turn names numbers ends turn =
    stands (name_of names (slice_index_or numbers turn 0)) (all_retired names (take turn numbers) ends)
