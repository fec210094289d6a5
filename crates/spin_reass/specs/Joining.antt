-- The frames of a capture, in which fragmented datagrams are made whole.
use Rattle.std.specs.Prelude.{ℕ, zero, suc, ◌+◌, Bool, true, false, ◌&&◌, ◌||◌, ◌==◌, not, nat_lt}
use Rattle.std.specs.Prelude.{nat_le, if◌then◌else◌, List, [], ◌∷◌, ◌++◌, length, take, drop}
use Rattle.std.specs.Prelude.{Option, Some, None, find}
use Rattle.std.specs.List.{list_all, list_any, flat_map}
use Rattle.std.specs.Option.{option_map_or}
use Rattle.spin_headers.specs.Headers.{ipv4_header}
use Rattle.spin_reass.specs.declared.limits.TheConstants.{MAX_OPEN}
use Rattle.spin_reass.specs.declared.piece.Key.{Key}
use Rattle.spin_reass.specs.declared.piece.Part.{Part}
use Rattle.spin_reass.specs.declared.piece.Piece.{Piece}
use Rattle.spin_reass.specs.Fragments.{piece_of, end_of, is_sound}

-- a datagram of which not all parts came yet: its key, and the parts that came, in order of start
pub record OpenDatagram : Type 0 where
  pub key : Key
  pub parts : List Part

-- Parts of one datagram

-- They share no byte. No part that is last ends before the new one does; and if that is last itself,
-- the other isn't, and doesn't end behind it.
abbrev pub fits_beside : Part → Part → Bool
fits_beside part other =
    (nat_le (end_of part) other.start || nat_le (end_of other) part.start)
    && not (other.last && nat_lt (end_of other) (end_of part))
    && not (part.last && (other.last || nat_lt (end_of part) (end_of other)))

-- A part fits those that came where it fits beside each of them.
abbrev pub fits : Part → List Part → Bool
fits part others = list_all (λ other. fits_beside part other) others

-- the parts, with one more at its place in the order of start
abbrev pub placed : Part → List Part → List Part
placed part [] = part ∷ []
placed part (other ∷ others) =
    if nat_lt other.start part.start
    then other ∷ placed part others
    else part ∷ (other ∷ others)

-- the end of the part that is last
abbrev pub last_end : List Part → Option ℕ
last_end [] = None
last_end (part ∷ parts) = if part.last then Some (end_of part) else last_end parts

-- the byte at that place of the datagram is in the part
abbrev pub has_byte : ℕ → Part → Bool
has_byte at part = nat_le part.start at && nat_lt at (end_of part)

-- Each byte before that one is in some part.
abbrev pub cover : List Part → ℕ → Bool
cover parts zero = true
cover parts (suc at) = list_any (λ part. has_byte at part) parts && cover parts at

-- Each byte before that end is in some part; not so where there is no end.
abbrev pub cover_to : List Part → Option ℕ → Bool
cover_to parts None = false
cover_to parts (Some end) = cover parts end

-- The parts cover all from 0 to the end of the part that is last.
abbrev pub are_whole : List Part → Bool
are_whole parts = cover_to parts (last_end parts)

-- the parts' bytes, in their order
abbrev pub payload : List Part → List ℕ
payload parts = flat_map (λ part. part.bytes) parts

-- how many hops are left to the part that begins the datagram
abbrev pub first_ttl : List Part → ℕ
first_ttl parts = option_map_or (λ part. part.ttl) (find (λ part. part.start == 0) parts) 0

-- the frame's header, then the header of an IPv4 packet with that key, and the parts' bytes
abbrev pub whole_frame : OpenDatagram → List ℕ → List ℕ
whole_frame datagram frame =
    let key = datagram.key in
    let bytes = payload datagram.parts in
    take 14 frame
    ++ ipv4_header key.ident (first_ttl datagram.parts) key.protocol key.source key.destination
    (length bytes)
    ++ bytes

-- Open datagrams, in the order in which they were opened

-- source, destination, protocol and identification are the same, so both are of one datagram (RFC 791)
abbrev pub same_key : Key → Key → Bool
same_key a b =
    (a.source == b.source) && (a.destination == b.destination) && (a.protocol == b.protocol)
    && (a.ident == b.ident)

-- the open datagram has that key
abbrev pub has_key : Key → OpenDatagram → Bool
has_key key datagram = same_key datagram.key key

-- where there are as many as may be, the one that was opened first is forgotten
abbrev pub with_room : List OpenDatagram → List OpenDatagram
with_room datagrams = if nat_lt (length datagrams) MAX_OPEN then datagrams else drop 1 datagrams

-- Where none of that key is open one is opened, without parts.
abbrev pub opened : Key → List OpenDatagram → List OpenDatagram
opened key datagrams =
    if list_any (has_key key) datagrams then datagrams
    else with_room datagrams ++ record { key = key; parts = [] } ∷ []

-- the parts that came of the datagram of that key
abbrev pub parts_of : Key → List OpenDatagram → List Part
parts_of key [] = []
parts_of key (datagram ∷ others) =
    if has_key key datagram then datagram.parts else parts_of key others

-- the open datagrams, where that one has these parts
abbrev pub with_parts : Key → List Part → List OpenDatagram → List OpenDatagram
with_parts key parts [] = []
with_parts key parts (datagram ∷ others) =
    if has_key key datagram
    then record datagram { parts = parts } ∷ others
    else datagram ∷ with_parts key parts others

-- the open datagrams without that one
abbrev pub without : Key → List OpenDatagram → List OpenDatagram
without key [] = []
without key (datagram ∷ others) =
    if has_key key datagram then others else datagram ∷ without key others

-- Frames

-- the open datagrams and the frame, after the frame's sound part: a part that doesn't fit changes
-- nothing; one that does is added, and where the parts are then whole the datagram is no longer
-- open, and a frame that has it takes the place of this one
abbrev pub gathered : Piece → List OpenDatagram → List ℕ → List OpenDatagram × List ℕ
gathered piece datagrams frame =
    let before = parts_of piece.key datagrams in
    let after = placed piece.part before in
    if not (fits piece.part before) then (datagrams, frame)
    else if are_whole after
    then (
      without piece.key datagrams,
      whole_frame (record { key = piece.key; parts = after }) frame,
    )
    else (with_parts piece.key after datagrams, frame)

-- the open datagrams and the frame, after a frame with this piece, if it has one: only a sound part changes anything
abbrev pub joined_by : Option Piece → List OpenDatagram → List ℕ → List OpenDatagram × List ℕ
joined_by None datagrams frame = (datagrams, frame)
joined_by (Some piece) datagrams frame =
    if is_sound piece.part
    then gathered piece (opened piece.key datagrams) frame
    else (datagrams, frame)

-- the open datagrams after a frame, and the frame that takes its place
unfoldable pub joined : List OpenDatagram → List ℕ → List OpenDatagram × List ℕ
joined datagrams frame = joined_by (piece_of frame) datagrams frame

-- the frames that take the places of these, where these datagrams are open
abbrev pub joined_frames : List OpenDatagram → List (List ℕ) → List (List ℕ)
joined_frames datagrams [] = []
joined_frames datagrams (frame ∷ frames) =
    (joined datagrams frame).1 ∷ joined_frames (joined datagrams frame).0 frames
