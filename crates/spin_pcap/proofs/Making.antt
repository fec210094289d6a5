-- Bytes for records and rests that are known otherwise.
use Rattle.std.proofs.Common.{◌≡◌, ◌≤◌, ◌<◌, ◌+◌, ◌-◌, ◌^◌, inl, inr, ℕ, List, [], ◌∷◌, ◌++◌, length, drop, nat_lt, replicate, Ok, Err, refl, ◌∙◌, arith}
use Rattle.std.proofs.lemmas.Bool.{cases_lt, cond-false, le-ltb}
use Rattle.std.proofs.lemmas.List.{length-append, length-replicate}
use Rattle.byteorder.specs.Endian.{big_bytes, little_bytes}
use Rattle.byteorder.specs.Numbers.{big_number-reads_back, little_number-reads_back}
use Rattle.spin_pcap.specs.declared.fault.PcapFault.TheVariants as fault
use Rattle.spin_pcap.specs.declared.next.Next.TheVariants as next
use Rattle.spin_pcap.specs.declared.order.Order.{Order}
use Rattle.spin_pcap.specs.declared.order.Order.TheVariants as order
use Rattle.spin_pcap.specs.declared.limits.TheConstants.{MAX_RECORDS, MAX_CAPTURED}
use Rattle.spin_pcap.specs.Captures.{captured_length, header_of, fields_of, order_of, IsRecord, IsRest}
use Rattle.spin_pcap.specs.Passing.{IsCutShort}

-- the header of a record with that captured length, and zeros
abbrev header_with : Order → ℕ → List ℕ
header_with order.Big n = replicate 8 0 ++ big_bytes 4 n ++ replicate 4 0
header_with order.Little n = replicate 8 0 ++ little_bytes 4 n ++ replicate 4 0

header_size : (way : Order) (n : ℕ) → length (header_with way n) ≡ 16
header_size order.Big n = refl
header_size order.Little n = refl

says : (way : Order) (n : ℕ) (rest : List ℕ) → n < 256 ^ 4 → captured_length way (header_with way n ++ rest) ≡ n
says order.Big n rest small = big_number-reads_back 4 n (replicate 4 0 ++ rest) small
says order.Little n rest small = little_number-reads_back 4 n (replicate 4 0 ++ rest) small

header_says : (way : Order) (n : ℕ) → n < 256 ^ 4 → captured_length way (header_with way n) ≡ n
header_says order.Big n small = big_number-reads_back 4 n (replicate 4 0) small
header_says order.Little n small = little_number-reads_back 4 n (replicate 4 0) small

-- bytes that begin with a record of these captured bytes
pub some_record : (way : Order) (given : ℕ) (frame rest : List ℕ) → given < MAX_RECORDS → length frame ≤ MAX_CAPTURED → (bytes : List ℕ) × IsRecord way given bytes frame rest
some_record way given frame rest few small = (
  header_with way (length frame) ++ frame ++ rest,
  record {
    few = few;
    header = header_with way (length frame);
    size = header_size way (length frame);
    says = header_says way (length frame) (omega (arith, small));
    small = small;
    whole = refl;
  },
)

-- bytes of a rest that is cut
pub some_cut : (way : Order) (given count : ℕ) → IsCutShort given (Ok (next.Cut count)) → (bytes : List ℕ) × IsRest way given bytes (Ok (next.Cut count))
some_cut way given count short = elim (cases_lt count 16) [
  | inl few ↦ (
    replicate count 0,
    record {
      some = short.1;
      size = length-replicate count 0;
      few = short.0;
      begun = λ le. absurd (omega (arith, le, few));
    },
  )
  | inr long ↦ (
    header_with way MAX_CAPTURED ++ replicate (count - 16) 0,
    record {
      some = short.1;
      size = (let both = length-append (header_with way MAX_CAPTURED) (replicate (count - 16) 0) in omega (arith, both, header_size way MAX_CAPTURED, length-replicate {A = ℕ} (count - 16) 0, long));
      few = short.0;
      begun = λ _. (let s = says way MAX_CAPTURED (replicate (count - 16) 0) (omega arith) in (omega (arith, s), omega (arith, s, short.2)));
    },
  )
]

-- bytes of a rest whose record would be too long
pub some_long : (way : Order) (given : ℕ) → given < MAX_RECORDS → (bytes : List ℕ) × IsRest way given bytes (Err fault.TooLong)
some_long way given few =
    let s = header_says way (MAX_CAPTURED + 1) (omega arith) in
    (header_with way (MAX_CAPTURED + 1), (few, omega (arith, header_size way (MAX_CAPTURED + 1)), omega (arith, s)))

-- a byte behind as many records as are allowed
pub some_more : (way : Order) (given : ℕ) → MAX_RECORDS ≤ given → (bytes : List ℕ) × IsRest way given bytes (Err fault.TooManyRecords)
some_more way given many = (0 ∷ [], (many, omega arith))

-- ---- the header of the file

abbrev file_header : Order → List ℕ
file_header order.Big = big_bytes 4 0xa1b2c3d4 ++ big_bytes 2 2 ++ big_bytes 2 4 ++ replicate 12 0 ++ big_bytes 4 1
file_header order.Little = little_bytes 4 0xa1b2c3d4 ++ little_bytes 2 2 ++ little_bytes 2 4 ++ replicate 12 0 ++ little_bytes 4 1

is_header : (way : Order) (bytes : List ℕ) → header_of (file_header way ++ bytes) ≡ Ok way
is_header order.Big bytes =
    let long = length-append (file_header order.Big) bytes in
    cond-false (nat_lt (length (file_header order.Big ++ bytes)) 24) _ (fields_of (order_of (file_header order.Big ++ bytes)) (file_header order.Big ++ bytes))
    (le-ltb (length (file_header order.Big ++ bytes)) 24 (omega arith))
    ∙ refl
is_header order.Little bytes =
    let long = length-append (file_header order.Little) bytes in
    cond-false (nat_lt (length (file_header order.Little ++ bytes)) 24) _ (fields_of (order_of (file_header order.Little ++ bytes)) (file_header order.Little ++ bytes))
    (le-ltb (length (file_header order.Little ++ bytes)) 24 (omega arith))
    ∙ refl

behind_header : (way : Order) (bytes : List ℕ) → drop 24 (file_header way ++ bytes) ≡ bytes
behind_header order.Big bytes = refl
behind_header order.Little bytes = refl

-- a file that has a header of that order, and these bytes behind it
pub some_file : (way : Order) (bytes : List ℕ) → (file : List ℕ) × (header_of file ≡ Ok way) × (drop 24 file ≡ bytes)
some_file way bytes = (file_header way ++ bytes, is_header way bytes, behind_header way bytes)
