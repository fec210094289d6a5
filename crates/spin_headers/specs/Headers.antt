-- Which bytes are headers.
use Rattle.std.specs.Prelude.{ℕ, ◌+◌, ◌*◌, ◌/◌, ◌%◌, ◌^◌, Bool, ◌&&◌, ◌||◌, ◌==◌, not, nat_lt, if◌then◌else◌}
use Rattle.std.specs.Prelude.{List, [], ◌∷◌, ◌++◌, length, take, drop, slice_index, slice_range, Result}
use Rattle.byteorder.specs.Endian.{big_number, big_bytes}
use Rattle.spin_values.specs.First.{unless}
use Rattle.spin_headers.specs.Sums.{word_sum, checksum_of}
use Rattle.spin_headers.specs.declared.fault.HeaderFault.{HeaderFault}
use Rattle.spin_headers.specs.declared.fault.HeaderFault.TheVariants as fault
use Rattle.spin_headers.specs.declared.ether.Ether.{Ether}
use Rattle.spin_headers.specs.declared.ipv4.Ipv4.{Ipv4}
use Rattle.spin_headers.specs.declared.ipv4.Fragment.{Fragment}
use Rattle.spin_headers.specs.declared.udp.Udp.{Udp}

-- the faults are numbered in their order
abbrev pub number_of_fault : HeaderFault → ℕ
number_of_fault fault.Short = 1
number_of_fault fault.Version = 2
number_of_fault fault.HeaderLength = 3
number_of_fault fault.TotalLength = 4
number_of_fault fault.Checksum = 5
number_of_fault fault.Fragment = 6
number_of_fault fault.UdpLength = 7

-- the number in the bytes from a place on, highest byte first
abbrev pub number_at : ℕ → ℕ → List ℕ → ℕ
number_at place width bytes = big_number width (drop place bytes)

-- Ethernet II, RFC 894

-- the header of the frame
unfoldable pub ether_of : List ℕ → Result Ether HeaderFault
ether_of bytes =
    unless ((nat_lt (length bytes) 14, fault.Short) ∷ [])
    (record { destination = number_at 0 6 bytes; source = number_at 6 6 bytes; kind = number_at 12 2 bytes })

-- IPv4, RFC 791

-- the version stands in the high half of the first byte, the header's number of 32-bit words in the
-- low half
abbrev pub version : List ℕ → ℕ
version bytes = slice_index bytes 0 / 16

-- the fields that the bytes of an IPv4 header spell (RFC 791), its length told in bytes; valid or not
abbrev pub ipv4_fields : List ℕ → Ipv4
ipv4_fields bytes = record {
  header_len = slice_index bytes 0 % 16 * 4;
  total_len = number_at 2 2 bytes;
  ident = number_at 4 2 bytes;
  ttl = slice_index bytes 8;
  protocol = slice_index bytes 9;
  source = number_at 12 4 bytes;
  destination = number_at 16 4 bytes;
}

-- whether the bit of more fragments is set
abbrev pub more_fragments : List ℕ → Bool
more_fragments bytes = number_at 6 2 bytes / 2 ^ 13 % 2 == 1

-- where the fragment stands in its datagram, in units of 8 bytes
abbrev pub fragment_offset : List ℕ → ℕ
fragment_offset bytes = number_at 6 2 bytes % 2 ^ 13

-- the packet is one part of a datagram: more parts follow, or it isn't the first
abbrev pub is_part : Fragment → Bool
is_part fragment = fragment.more || not (fragment.offset == 0)

-- the fields of an IPv4 header (RFC 791), where its packet stands in the datagram, and whether more fragments follow
abbrev pub fragment_fields : List ℕ → Fragment
fragment_fields bytes =
    record { header = ipv4_fields bytes; offset = fragment_offset bytes; more = more_fragments bytes }

-- the faults of a packet, each beside its condition, in their order
abbrev pub packet_faults : List ℕ → List (Bool × HeaderFault)
packet_faults bytes =
    let header = ipv4_fields bytes in
    (nat_lt (length bytes) 20, fault.Short)
    ∷ (not (version bytes == 4), fault.Version)
    ∷ (nat_lt header.header_len 20 || nat_lt (length bytes) header.header_len, fault.HeaderLength)
    ∷ (nat_lt header.total_len header.header_len || nat_lt (length bytes) header.total_len, fault.TotalLength)
    ∷ (not (word_sum (take header.header_len bytes) == 65535), fault.Checksum)
    ∷ []

-- the header of the packet, which may have options after its 20 bytes and padding after its total
-- length, and where the packet stands in its datagram
unfoldable pub fragment_of : List ℕ → Result Fragment HeaderFault
fragment_of bytes = unless (packet_faults bytes) (fragment_fields bytes)

-- the header of a packet that is a whole datagram
unfoldable pub ipv4_of : List ℕ → Result Ipv4 HeaderFault
ipv4_of bytes =
    let fragment = fragment_fields bytes in
    unless (packet_faults bytes ++ (is_part fragment, fault.Fragment) ∷ []) fragment.header

-- what the packet carries: padding past the total length is left out
abbrev pub ipv4_payload : Ipv4 → List ℕ → List ℕ
ipv4_payload header bytes = slice_range bytes header.header_len header.total_len

-- a header without options and with that checksum, not to be broken up
abbrev pub ipv4_bytes : (ident ttl protocol source destination payload_len checksum : ℕ) → List ℕ
ipv4_bytes ident ttl protocol source destination payload_len checksum =
    0x45 ∷ 0 ∷ []
    ++ big_bytes 2 (20 + payload_len)
    ++ big_bytes 2 ident
    ++ big_bytes 2 0x4000
    ++ (ttl ∷ protocol ∷ [])
    ++ big_bytes 2 checksum
    ++ big_bytes 4 source
    ++ big_bytes 4 destination

-- the checksum is that of the header with 0 in its place
abbrev pub ipv4_header : (ident ttl protocol source destination payload_len : ℕ) → List ℕ
ipv4_header ident ttl protocol source destination payload_len =
    let with_checksum = ipv4_bytes ident ttl protocol source destination payload_len in
    with_checksum (checksum_of (with_checksum 0))

-- UDP, RFC 768

-- what the checksum covers before the datagram
abbrev pub pseudo_header : (source destination len : ℕ) → List ℕ
pseudo_header source destination len = big_bytes 4 source ++ big_bytes 4 destination ++ (0 ∷ 17 ∷ []) ++ big_bytes 2 len

-- the ports and the length that the bytes of a UDP header spell (RFC 768); valid or not
abbrev pub udp_fields : List ℕ → Udp
udp_fields bytes =
    record { source_port = number_at 0 2 bytes; destination_port = number_at 2 2 bytes; length = number_at 4 2 bytes }

-- the checksum that the bytes of a UDP header spell (RFC 768), 0 saying that none was made
abbrev pub udp_checksum : List ℕ → ℕ
udp_checksum bytes = number_at 6 2 bytes

-- the header of the datagram between the two addresses; a checksum of 0 says that none was made
unfoldable pub udp_of : List ℕ → ℕ → ℕ → Result Udp HeaderFault
udp_of bytes source destination =
    let header = udp_fields bytes in
    let covered = pseudo_header source destination header.length ++ take header.length bytes in
    unless (
    (nat_lt (length bytes) 8, fault.Short)
    ∷ (nat_lt header.length 8 || nat_lt (length bytes) header.length, fault.UdpLength)
    ∷ (not (udp_checksum bytes == 0) && not (word_sum covered == 65535), fault.Checksum)
    ∷ []) header

-- what the datagram carries: bytes past its length are left out
abbrev pub udp_payload : Udp → List ℕ → List ℕ
udp_payload header bytes = slice_range bytes 8 header.length

-- a datagram with that checksum
abbrev pub udp_bytes : (source_port destination_port checksum : ℕ) → List ℕ → List ℕ
udp_bytes source_port destination_port checksum payload =
    big_bytes 2 source_port
    ++ big_bytes 2 destination_port
    ++ big_bytes 2 (8 + length payload)
    ++ big_bytes 2 checksum
    ++ payload

-- 0 stands for no checksum, so a checksum of 0 is written as the other number that adds nothing to
-- a sum
abbrev pub written_checksum : ℕ → ℕ
written_checksum n = if n == 0 then 65535 else n

-- the checksum is that of pseudo-header and datagram with 0 in its place
abbrev pub udp_datagram : (source destination source_port destination_port : ℕ) → List ℕ → List ℕ
udp_datagram source destination source_port destination_port payload =
    let unsummed = udp_bytes source_port destination_port 0 payload in
    let covered = pseudo_header source destination (8 + length payload) ++ unsummed in
    udp_bytes source_port destination_port (written_checksum (checksum_of covered)) payload
