-- Whatever bytes stand behind records are whole records and then a rest.
use Rattle.std.proofs.Common.{◌≡◌, ◌≤◌, ◌<◌, ◌+◌, ◌⊎◌, inl, inr, ℕ, suc, zero, List, [], ◌∷◌, ◌++◌, length, take, drop, Result, Ok, Err, refl, sym, ap, ◌∙◌, arith, append_assoc}
use Rattle.std.proofs.lemmas.Bool.{cases_lt}
use Rattle.std.proofs.lemmas.List.{length-append, length-take, length-drop, take-append-drop}
use Rattle.spin_pcap.specs.declared.fault.PcapFault.{PcapFault}
use Rattle.spin_pcap.specs.declared.fault.PcapFault.TheVariants as fault
use Rattle.spin_pcap.specs.declared.next.Next.{Next}
use Rattle.spin_pcap.specs.declared.next.Next.TheVariants as next
use Rattle.spin_pcap.specs.declared.order.Order.{Order}
use Rattle.spin_pcap.specs.declared.limits.TheConstants.{MAX_RECORDS, MAX_CAPTURED}
use Rattle.spin_pcap.specs.Captures.{captured_length, IsRecord, IsRest, IsBody}
use Rattle.spin_pcap.specs.Laws.{EachHasBody, EachIsCapture}
use Rattle.spin_pcap.proofs.WholeRecords.{number_at-front}

-- At the front stands a record, or else a rest.
abbrev Begins : Order → ℕ → List ℕ → Type 0
Begins way given bytes =
    ((ending : Result Next PcapFault) × IsRest way given bytes ending)
    ⊎ ((frame : List ℕ) × (rest : List ℕ) × IsRecord way given bytes frame rest)

-- enough bytes are there for what the header says
whole : (way : Order) (given : ℕ) (bytes : List ℕ) → given < MAX_RECORDS → captured_length way bytes ≤ MAX_CAPTURED → 16 + captured_length way bytes ≤ length bytes → Begins way given bytes
whole way given bytes few small there =
    let count = captured_length way bytes in
    let behind = drop 16 bytes in
    let size : length (take count behind) ≡ count = omega (arith, length-take count behind, length-drop 16 bytes, there) in
    let header : length (take 16 bytes) ≡ 16 = omega (arith, length-take 16 bytes, there) in
    inr (
      take count behind,
      drop count behind,
      record {
        few = few;
        header = take 16 bytes;
        size = header;
        says = sym (number_at-front way 8 4 (take 16 bytes) behind (omega (arith, header))) ∙ ap (λ ys. captured_length way ys) (take-append-drop 16 bytes) ∙ sym size;
        small = omega (arith, size, small);
        whole = sym (append_assoc (take 16 bytes) (take count behind) (drop count behind) ∙ ap (λ ys. take 16 bytes ++ ys) (take-append-drop count behind) ∙ take-append-drop 16 bytes);
      },
    )

-- a header is there
headed : (way : Order) (given : ℕ) (bytes : List ℕ) → given < MAX_RECORDS → 16 ≤ length bytes → Begins way given bytes
headed way given bytes few long = elim (cases_lt MAX_CAPTURED (captured_length way bytes)) [
  | inl large ↦ inl (Err fault.TooLong, (few, long, large))
  | inr small ↦ elim (cases_lt (length bytes) (16 + captured_length way bytes)) [
    | inl cut ↦ inl (Ok (next.Cut (length bytes)), record { some = omega (arith, long); size = refl; few = few; begun = λ _. (small, cut) })
    | inr there ↦ whole way given bytes few small there
  ]
]

some : (way : Order) (given : ℕ) (bytes : List ℕ) → 0 < length bytes → Begins way given bytes
some way given bytes there = elim (cases_lt given MAX_RECORDS) [
  | inl few ↦ elim (cases_lt (length bytes) 16) [
    | inl short ↦ inl (Ok (next.Cut (length bytes)), record { some = there; size = refl; few = few; begun = λ long. absurd (omega (arith, long, short)) })
    | inr long ↦ headed way given bytes few long
  ]
  | inr many ↦ inl (Err fault.TooManyRecords, (many, there))
]

begins : (way : Order) (given : ℕ) (bytes : List ℕ) → Begins way given bytes
begins way given [] = inl (Ok next.End, refl)
begins way given (byte ∷ bytes) = some way given (byte ∷ bytes) (omega arith)

abbrev Body : Order → ℕ → List ℕ → Type 0
Body way given bytes = (frames : List (List ℕ)) × (ending : Result Next PcapFault) × IsBody way given bytes frames ending

record_size : (way : Order) (given : ℕ) (bytes frame rest : List ℕ) → IsRecord way given bytes frame rest → length rest < length bytes
record_size way given bytes frame rest r = omega (arith, ap length r.whole, length-append (r.header ++ frame) rest, length-append r.header frame, r.size)

by_size : (size : ℕ) (way : Order) (given : ℕ) (bytes : List ℕ) → length bytes ≤ size → Body way given bytes
by_size zero way given bytes few = elim (begins way given bytes) [
  | inl rest ↦ ([], rest.0, rest.1)
  | inr first ↦ absurd (omega (arith, few, record_size way given bytes first.0 first.1 first.2))
]
by_size (suc size) way given bytes few = elim (begins way given bytes) [
  | inl rest ↦ ([], rest.0, rest.1)
  | inr first ↦
      let more = by_size size way (given + 1) first.1 (omega (arith, few, record_size way given bytes first.0 first.1 first.2)) in
      (first.0 ∷ more.0, more.1, (first.1, first.2, more.2))
]

pub each_has_body : EachHasBody
each_has_body way given bytes = by_size (length bytes) way given bytes (omega arith)

pub each_is_capture : EachIsCapture
each_is_capture file way header =
    let body = each_has_body way 0 (drop 24 file) in
    (body.0, body.1, record { header = header; body = body.2 })
