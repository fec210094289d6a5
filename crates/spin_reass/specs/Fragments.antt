-- Which frames carry a part of a datagram (RFC 791, RFC 894).
use Rattle.std.specs.Prelude.{ℕ, ◌+◌, ◌*◌, ◌%◌, Bool, ◌&&◌, ◌||◌, ◌==◌, not, nat_lt, nat_le}
use Rattle.std.specs.Prelude.{if◌then◌else◌, List, length, drop, Option, Some, None, Result, Ok, Err}
use Rattle.spin_headers.specs.declared.ether.Ether.{Ether}
use Rattle.spin_headers.specs.declared.fault.HeaderFault.{HeaderFault}
use Rattle.spin_headers.specs.declared.ipv4.Fragment.{Fragment}
use Rattle.spin_headers.specs.declared.ipv4.Ipv4.{Ipv4}
use Rattle.spin_headers.specs.Headers.{ether_of, fragment_of, ipv4_payload, is_part}
use Rattle.spin_reass.specs.declared.limits.TheConstants.{MAX_PAYLOAD}
use Rattle.spin_reass.specs.declared.piece.Key.{Key}
use Rattle.spin_reass.specs.declared.piece.Part.{Part}
use Rattle.spin_reass.specs.declared.piece.Piece.{Piece}

-- the datagram that a packet belongs to
abbrev pub key_of : Ipv4 → Key
key_of header = record {
  source = header.source;
  destination = header.destination;
  protocol = header.protocol;
  ident = header.ident;
}

-- the part that a fragment is: offsets count units of 8 bytes
abbrev pub part_of : Fragment → List ℕ → Part
part_of fragment packet = record {
  start = 8 * fragment.offset;
  bytes = ipv4_payload fragment.header packet;
  last = not fragment.more;
  ttl = fragment.header.ttl;
}

-- the part that a packet is, with the key of its datagram, where its header is valid and it is a part
abbrev pub piece_by_fragment : Result Fragment HeaderFault → List ℕ → Option Piece
piece_by_fragment (Err wrong) packet = None
piece_by_fragment (Ok fragment) packet =
    if is_part fragment
    then Some (record { key = key_of fragment.header; part = part_of fragment packet })
    else None

-- the part that the packet behind an Ethernet header is, if the header says IPv4 and the packet is a part
abbrev pub piece_by_ether : Result Ether HeaderFault → List ℕ → Option Piece
piece_by_ether (Err wrong) packet = None
piece_by_ether (Ok header) packet =
    if header.kind == 0x0800 then piece_by_fragment (fragment_of packet) packet else None

-- the part that the frame carries, and the datagram that it belongs to, where it carries a fragment
-- of IPv4
unfoldable pub piece_of : List ℕ → Option Piece
piece_of frame = piece_by_ether (ether_of frame) (drop 14 frame)

-- where the part ends in its datagram
abbrev pub end_of : Part → ℕ
end_of part = part.start + length part.bytes

-- A part is sound where it has bytes, a multiple of 8 of them if more parts follow, and ends where a
-- datagram may end.
abbrev pub is_sound : Part → Bool
is_sound part =
    nat_lt 0 (length part.bytes)
    && (part.last || (length part.bytes % 8 == 0))
    && nat_le (end_of part) MAX_PAYLOAD
