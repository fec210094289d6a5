-- The capture, as a file of version 2.4 (draft-ietf-opsawg-pcap) with the lowest byte first.
use Rattle.std.specs.Prelude.{ℕ, List, ◌++◌}
use Rattle.std.specs.List.{flat_map, range_with_len}
use Rattle.byteorder.specs.Endian.{big_bytes, little_bytes}
use Rattle.spin_headers.specs.Headers.{ipv4_header, udp_datagram}
use Rattle.spin_gen.specs.Numbers.{drawn}

-- times in microseconds; version 2.4; no time zone, no accuracy; at most 262,144 bytes of a frame;
-- Ethernet
abbrev pub file_header : List ℕ
file_header =
    little_bytes 4 0xa1b2c3d4
    ++ little_bytes 2 2
    ++ little_bytes 2 4
    ++ little_bytes 4 0
    ++ little_bytes 4 0
    ++ little_bytes 4 262144
    ++ little_bytes 4 1

-- 10.0.0.1
abbrev pub source : ℕ
source = 0x0a000001

-- 10.0.0.2
abbrev pub destination : ℕ
destination = 0x0a000002

-- to 02:00:00:00:00:02, from 02:00:00:00:00:01, IPv4
unfoldable pub ether_header : List ℕ
ether_header = big_bytes 6 0x020000000002 ++ big_bytes 6 0x020000000001 ++ big_bytes 2 0x0800

-- the header of a packet that has the number of its record, with a datagram of 16 bytes
unfoldable pub packet_header : ℕ → List ℕ
packet_header number = ipv4_header number 64 17 source destination 16

-- from port 40,000 to that port, with the number of the record in 8 bytes
unfoldable pub datagram : (number port : ℕ) → List ℕ
datagram number port = udp_datagram source destination 40000 port (big_bytes 8 number)

-- the frame of the record of that number: a header of Ethernet, one of IPv4, and the datagram to that port
abbrev pub frame : (number port : ℕ) → List ℕ
frame number port = ether_header ++ packet_header number ++ datagram number port

-- seconds and fraction, and the length of the frame twice
unfoldable pub record_header : ℕ → List ℕ
record_header number =
    little_bytes 4 number ++ little_bytes 4 0 ++ little_bytes 4 50 ++ little_bytes 4 50

-- the record of that number, whose datagram goes to that port: its header and its frame
unfoldable pub record_bytes : (number port : ℕ) → List ℕ
record_bytes number port = record_header number ++ frame number port

-- the first records, each with a port that is drawn for it behind the state x
unfoldable pub records : (count x : ℕ) → List ℕ
records count x = flat_map (λ i. record_bytes i (drawn 1024 i x)) (range_with_len 0 count)

-- the capture, where x is the state before its first draw
abbrev pub capture_of : ℕ → List ℕ
capture_of x = file_header ++ records 1000 x
