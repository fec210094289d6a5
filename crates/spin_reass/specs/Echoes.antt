-- ICMP echo messages, RFC 792.
use Rattle.std.specs.Prelude.{ℕ, Bool, ◌&&◌, ◌==◌, not, nat_lt, nat_le, List, [], ◌∷◌, ◌++◌}
use Rattle.std.specs.Prelude.{length, drop, slice_index, Result, MatchResult, MatchBool, None}
use Rattle.byteorder.specs.Endian.{big_bytes}
use Rattle.spin_values.specs.First.{unless}
use Rattle.spin_headers.specs.Sums.{word_sum, checksum_of}
use Rattle.spin_endpoint.specs.Endpoints.{EndpointSeen}
use Rattle.spin_reass.specs.declared.fault.EchoFault.{EchoFault}
use Rattle.spin_reass.specs.declared.fault.EchoFault.TheVariants as fault
use Rattle.spin_reass.specs.declared.limits.TheConstants.{MAX_ECHO}

-- the faults are numbered in their order
abbrev pub number_of_fault : EchoFault → ℕ
number_of_fault fault.Short = 1
number_of_fault fault.NotEcho = 2
number_of_fault fault.Checksum = 3

-- the type of a request is 8, its code is 0
abbrev pub is_request : List ℕ → Bool
is_request message = (slice_index message 0 == 8) && (slice_index message 1 == 0)

-- a message of type 0 and code 0 with that checksum
abbrev pub reply_with : ℕ → List ℕ → List ℕ
reply_with checksum rest = (0 ∷ 0 ∷ []) ++ big_bytes 2 checksum ++ rest

-- the reply to a request: its bytes from 4 on, behind another type and the checksum that is right
abbrev pub reply : List ℕ → List ℕ
reply request =
    let rest = drop 4 request in reply_with (checksum_of (reply_with 0 rest)) rest

-- the reply to a message, or the first fault that applies
abbrev pub reply_to : List ℕ → Result (List ℕ) EchoFault
reply_to message =
    unless (
    (nat_lt (length message) 8, fault.Short)
    ∷ (not (is_request message), fault.NotEcho)
    ∷ (not (word_sum message == 65535), fault.Checksum)
    ∷ [])
    (reply message)

-- The one fact holds of the reply to a request that isn't too long, and for any other piece the
-- other fact holds.
abbrev pub Replies : List ℕ → (List ℕ → Type 0) → Type 0 → Type 0
Replies piece answered left =
    MatchBool (nat_le (length piece) MAX_ECHO)
    (MatchResult (reply_to piece) answered (λ _. left))
    left

-- the endpoint, telling no pieces
abbrev pub untold : EndpointSeen → EndpointSeen
untold end = record end { pieces = None }
