-- Parts in order of start that share no byte.
use Rattle.std.specs.Prelude.{ℕ, ◌+◌, Bool, true, ◌&&◌, ◌||◌, not, ◌==◌, nat_lt, nat_le, List, [], ◌∷◌}
use Rattle.std.specs.Prelude.{length, false, zero, suc, Option, Some, None, is_none, slice_get, if◌then◌else◌}
use Rattle.std.specs.List.{prefix_len}
use Rattle.spin_reass.specs.declared.limits.TheConstants.{MAX_PAYLOAD}
use Rattle.spin_reass.specs.declared.piece.Part.{Part}
use Rattle.spin_reass.specs.Fragments.{end_of}
use Rattle.spin_reass.specs.Joining.{OpenDatagram, fits, placed, are_whole}

abbrev pub none : List Part → Bool
none [] = true
none (part ∷ parts) = false

-- From that place on each begins where the one before it ends, or behind that; each has bytes and
-- ends where a datagram may end; and none stands behind one that is last.
abbrev pub are_orderly : ℕ → List Part → Bool
are_orderly from [] = true
are_orderly from (part ∷ parts) =
    nat_le from part.start
    && nat_lt 0 (length part.bytes)
    && nat_le (end_of part) MAX_PAYLOAD
    && (not part.last || none parts)
    && are_orderly (end_of part) parts

-- how many bytes they have
abbrev pub size_of : List Part → ℕ
size_of [] = 0
size_of (part ∷ parts) = length part.bytes + size_of parts

-- how many of them start before that place
abbrev pub place_from : ℕ → List Part → ℕ
place_from start parts = prefix_len (λ part. nat_lt part.start start) parts

-- the part before that place
abbrev pub part_before : ℕ → List Part → Option Part
part_before zero parts = None
part_before (suc at) parts = slice_get parts at

-- The part, if there is one, ends there or before.
abbrev pub ends_by : ℕ → Option Part → Bool
ends_by start None = true
ends_by start (Some part) = nat_le (end_of part) start

-- A part may stand before the next one, or, if there is none, behind those of which the last part
-- ends there.
abbrev pub may_stand_before : Part → Option Part → Option ℕ → Bool
may_stand_before part None end = is_none end
may_stand_before part (Some next) end = not part.last && nat_le (end_of part) next.start

-- the datagram with one part more, where it fits
abbrev pub added_to : OpenDatagram → Part → OpenDatagram
added_to datagram part =
    if fits part datagram.parts
    then record datagram { parts = placed part datagram.parts }
    else datagram

-- The part fits, and the parts with it are whole.
abbrev pub makes_whole : Part → List Part → Bool
makes_whole part parts = fits part parts && are_whole (placed part parts)

-- how many hops are left to the first part, if it begins the datagram
abbrev pub front_ttl : Option Part → ℕ
front_ttl None = 0
front_ttl (Some part) = if part.start == 0 then part.ttl else 0
