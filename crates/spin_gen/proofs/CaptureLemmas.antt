-- That the capture is read.
use Rattle.std.proofs.Common.{◌≡◌, ◌∙◌, ◌≤◌, ◌+◌, ◌*◌, ℕ, zero, suc, List, ◌++◌, length, map, Ok, refl, sym, arith}
use Rattle.std.specs.List.{flat_map, range_with_len}
use Rattle.std.proofs.lemmas.Bool.{le-ltb}
use Rattle.std.proofs.lemmas.List.{length-append, length-map}
use Rattle.std.proofs.lemmas.List.FromFn.{length-range_with_len}
use Rattle.spin_pcap.specs.declared.next.Next.TheVariants as next
use Rattle.spin_pcap.specs.declared.order.Order.TheVariants as order
use Rattle.spin_pcap.specs.Captures.{IsBody, IsCapture, header_of, captured_length}
use Rattle.spin_gen.specs.Numbers.{drawn}
use Rattle.spin_gen.specs.Records.{ether_header, packet_header, datagram, frame, record_header, record_bytes, records, file_header, capture_of}

abbrev frame_at : ℕ → ℕ → List ℕ
frame_at x i = frame i (drawn 1024 i x)

abbrev bytes_at : ℕ → ℕ → List ℕ
bytes_at x i = record_bytes i (drawn 1024 i x)

frame_size : (i port : ℕ) → length (frame i port) ≡ 50
unfolding ether_header packet_header datagram
frame_size i port = refl

header_size : (i : ℕ) → length (record_header i) ≡ 16
unfolding record_header
header_size i = refl

record_size : (i port : ℕ) → length (record_bytes i port) ≡ 66
unfolding record_bytes
record_size i port =
    length-append (record_header i) (frame i port) ∙ omega (arith, header_size i, frame_size i port)

says : (i : ℕ) → captured_length order.Little (record_header i) ≡ 50
unfolding record_header
says i = refl

body : (x a m : ℕ) → a + m ≤ 1000 → IsBody order.Little a (flat_map (bytes_at x) (range_with_len a m)) (map (frame_at x) (range_with_len a m)) (Ok next.End)
unfolding record_bytes
body x a zero le = refl
body x a (suc m) le = (
  flat_map (bytes_at x) (range_with_len (a + 1) m),
  record {
    few = omega (arith, le);
    header = record_header a;
    size = header_size a;
    says = says a ∙ sym (frame_size a (drawn 1024 a x));
    small = omega (arith, frame_size a (drawn 1024 a x));
    whole = refl;
  },
  body x (a + 1) m (omega (arith, le)),
)

all_size : (x a m : ℕ) → length (flat_map (bytes_at x) (range_with_len a m)) ≡ m * 66
all_size x a zero = omega arith
all_size x a (suc m) =
    length-append (bytes_at x a) (flat_map (bytes_at x) (range_with_len (a + 1) m))
    ∙ omega (arith, record_size a (drawn 1024 a x), all_size x (a + 1) m)

-- the captured bytes of the first records
pub frames_from : (count x : ℕ) → List (List ℕ)
frames_from count x = map (frame_at x) (range_with_len 0 count)

pub frames_count : (count x : ℕ) → length (frames_from count x) ≡ count
unfolding frames_from
frames_count count x = length-map (range_with_len 0 count) (frame_at x) ∙ length-range_with_len 0 count

records_size : (count x : ℕ) → length (records count x) ≡ count * 66
unfolding records
records_size count x = all_size x 0 count

records_body : (count x : ℕ) → count ≤ 1000 → IsBody order.Little 0 (records count x) (frames_from count x) (Ok next.End)
unfolding records frames_from
records_body count x le = body x 0 count (omega (arith, le))

pub file_size : (x : ℕ) → length (capture_of x) ≡ 66024
file_size x = length-append file_header (records 1000 x) ∙ omega (arith, records_size 1000 x)

header_read : (bytes : List ℕ) → header_of (file_header ++ bytes) ≡ Ok order.Little
header_read bytes = rw (le-ltb (length (file_header ++ bytes)) 24 (omega arith)) refl

pub is_capture : (x : ℕ) → IsCapture (capture_of x) order.Little (frames_from 1000 x) (Ok next.End)
is_capture x = record {
  header = header_read (records 1000 x);
  body = records_body 1000 x (omega arith);
}
