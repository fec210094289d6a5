-- The grammar of capture files is unambiguous.
use Rattle.std.proofs.Common.{◌≡◌, ◌≤◌, ◌<◌, ◌+◌, inl, inr, ℕ, cond, nat_lt, List, [], ◌∷◌, ◌++◌, length, take, drop, Result, Ok, Err, refl, sym, ap, subst, ◌∙◌, arith, append_assoc}
use Rattle.std.proofs.lemmas.Bool.{cases_lt, le-ltb, lt-ltb}
use Rattle.std.proofs.lemmas.List.{length-append, take_at, drop_at}
use Rattle.spin_pcap.specs.declared.fault.PcapFault.{PcapFault}
use Rattle.spin_pcap.specs.declared.fault.PcapFault.TheVariants as fault
use Rattle.spin_pcap.specs.declared.next.Next.{Next}
use Rattle.spin_pcap.specs.declared.next.Next.TheVariants as next
use Rattle.spin_pcap.specs.declared.order.Order.{Order}
use Rattle.spin_pcap.specs.declared.limits.TheConstants.{MAX_RECORDS, MAX_CAPTURED}
use Rattle.spin_pcap.specs.Captures.{captured_length, header_of, IsRecord, IsRest, IsBody}
use Rattle.spin_pcap.specs.Laws.{OneReading, OneAnswer}
use Rattle.spin_pcap.specs.Passing.{IsWithinRecord}
use Rattle.spin_pcap.proofs.WholeRecords.{number_at-front}

-- the captured length of a record that stands at the front
record-says : (way : Order) (given : ℕ) (bytes frame rest : List ℕ) → IsRecord way given bytes frame rest → captured_length way bytes ≡ length frame
record-says way given bytes frame rest r =
    ap (λ ys. captured_length way ys) (r.whole ∙ append_assoc r.header frame rest) ∙ number_at-front way 8 4 r.header (frame ++ rest) (omega (arith, r.size)) ∙ r.says

record-frame : (way : Order) (given : ℕ) (bytes frame rest : List ℕ) → IsRecord way given bytes frame rest → frame ≡ take (captured_length way bytes) (drop 16 bytes)
record-frame way given bytes frame rest r =
    sym (take_at frame rest (captured_length way bytes) (sym (record-says way given bytes frame rest r)))
    ∙ ap (λ ys. take (captured_length way bytes) ys) (sym (drop_at r.header (frame ++ rest) 16 r.size) ∙ ap (λ ys. drop 16 ys) (sym (append_assoc r.header frame rest) ∙ sym r.whole))

record-rest : (way : Order) (given : ℕ) (bytes frame rest : List ℕ) → IsRecord way given bytes frame rest → rest ≡ drop (16 + captured_length way bytes) bytes
record-rest way given bytes frame rest r =
    sym (drop_at (r.header ++ frame) rest (16 + captured_length way bytes) (omega (arith, length-append r.header frame, r.size, record-says way given bytes frame rest r)))
    ∙ ap (λ ys. drop (16 + captured_length way bytes) ys) (sym r.whole)

one-record : (way : Order) (given : ℕ) (bytes frame frame' rest rest' : List ℕ) → IsRecord way given bytes frame rest → IsRecord way given bytes frame' rest' → (frame ≡ frame') × (rest ≡ rest')
one-record way given bytes frame frame' rest rest' r r' = (
  record-frame way given bytes frame rest r ∙ sym (record-frame way given bytes frame' rest' r'),
  record-rest way given bytes frame rest r ∙ sym (record-rest way given bytes frame' rest' r'),
)

record-size : (way : Order) (given : ℕ) (bytes frame rest : List ℕ) → IsRecord way given bytes frame rest → 16 + captured_length way bytes ≤ length bytes
record-size way given bytes frame rest r =
    omega (arith, ap length r.whole, length-append (r.header ++ frame) rest, length-append r.header frame, r.size, record-says way given bytes frame rest r)

-- of a record at the front no more is gone than it has
pub part_fits : (way : Order) (given : ℕ) (gone more frame rest : List ℕ) → IsWithinRecord way gone → IsRecord way given (gone ++ more) frame rest → length gone ≤ 16 + length frame
part_fits way given gone more frame rest part r = elim (cases_lt (length gone) 16) [
  | inl lt ↦ omega (arith, lt)
  | inr le ↦
      let says : captured_length way gone ≡ length frame = sym (number_at-front way 8 4 gone more (omega (arith, le))) ∙ record-says way given (gone ++ more) frame rest r in
      omega (arith, part.says le, says)
]

not-both : (way : Order) (given : ℕ) (bytes frame rest : List ℕ) (ending : Result Next PcapFault) → IsRecord way given bytes frame rest → IsRest way given bytes ending → ⊥
not-both way given bytes frame rest (Ok next.Packet) r e = e
not-both way given bytes frame rest (Ok next.End) r e = omega (arith, ap length e, record-size way given bytes frame rest r)
not-both way given bytes frame rest (Ok (next.Cut count)) r e =
    let size = record-size way given bytes frame rest r in
    omega (arith, size, e.size, (e.begun (omega (arith, size, e.size))).1)
not-both way given bytes frame rest (Err fault.ReadFault) r e = e
not-both way given bytes frame rest (Err fault.BadMagic) r e = e
not-both way given bytes frame rest (Err fault.BadVersion) r e = e
not-both way given bytes frame rest (Err fault.BadLink) r e = e
not-both way given bytes frame rest (Err fault.Short) r e = e
not-both way given bytes frame rest (Err fault.TooLong) r e = omega (arith, e.2, record-says way given bytes frame rest r, r.small)
not-both way given bytes frame rest (Err fault.TooManyRecords) r e = omega (arith, e.0, r.few)
not-both way given bytes frame rest (Err (fault.Spoilt first)) r e = e
not-both way given bytes frame rest (Err fault.NoMemory) r e = e

-- the answer for a rest, by its length and what it says
abbrev answer : ℕ → ℕ → ℕ → Result Next PcapFault
answer given size says =
    cond (nat_lt 0 size)
    (cond (nat_lt given MAX_RECORDS) (cond (nat_lt 15 size) (cond (nat_lt MAX_CAPTURED says) (Err fault.TooLong) (Ok (next.Cut size))) (Ok (next.Cut size))) (Err fault.TooManyRecords))
    (Ok next.End)

answer-some : (given size says : ℕ) → 0 < size → given < MAX_RECORDS
    → answer given size says ≡ cond (nat_lt 15 size) (cond (nat_lt MAX_CAPTURED says) (Err fault.TooLong) (Ok (next.Cut size))) (Ok (next.Cut size))
answer-some given size says some few =
    ap (λ b. cond b (cond (nat_lt given MAX_RECORDS) (cond (nat_lt 15 size) (cond (nat_lt MAX_CAPTURED says) (Err fault.TooLong) (Ok (next.Cut size))) (Ok (next.Cut size))) (Err fault.TooManyRecords))
    (Ok next.End)) (lt-ltb 0 size some)
    ∙ ap (λ b. cond b (cond (nat_lt 15 size) (cond (nat_lt MAX_CAPTURED says) (Err fault.TooLong) (Ok (next.Cut size))) (Ok (next.Cut size))) (Err fault.TooManyRecords)) (lt-ltb given MAX_RECORDS few)

answer-none : (given says : ℕ) → answer given 0 says ≡ Ok next.End
answer-none given says =
    ap (λ b. cond b (cond (nat_lt given MAX_RECORDS) (cond (nat_lt 15 0) (cond (nat_lt MAX_CAPTURED says) (Err fault.TooLong) (Ok (next.Cut 0))) (Ok (next.Cut 0))) (Err fault.TooManyRecords))
    (Ok next.End)) (le-ltb 0 0 (omega arith))

answer-many : (given size says : ℕ) → 0 < size → MAX_RECORDS ≤ given → answer given size says ≡ Err fault.TooManyRecords
answer-many given size says some many =
    ap (λ b. cond b (cond (nat_lt given MAX_RECORDS) (cond (nat_lt 15 size) (cond (nat_lt MAX_CAPTURED says) (Err fault.TooLong) (Ok (next.Cut size))) (Ok (next.Cut size))) (Err fault.TooManyRecords))
    (Ok next.End)) (lt-ltb 0 size some)
    ∙ ap (λ b. cond b (cond (nat_lt 15 size) (cond (nat_lt MAX_CAPTURED says) (Err fault.TooLong) (Ok (next.Cut size))) (Ok (next.Cut size))) (Err fault.TooManyRecords))
    (le-ltb given MAX_RECORDS many)

answer-long : (given size says : ℕ) → 16 ≤ size → given < MAX_RECORDS → MAX_CAPTURED < says → answer given size says ≡ Err fault.TooLong
answer-long given size says large few long =
    answer-some given size says (omega arith) few
    ∙ ap (λ b. cond b (cond (nat_lt MAX_CAPTURED says) (Err fault.TooLong) (Ok (next.Cut size))) (Ok (next.Cut size))) (lt-ltb 15 size (omega arith))
    ∙ ap (λ b. cond b (Err fault.TooLong) (Ok (next.Cut size))) (lt-ltb MAX_CAPTURED says long)

answer-cut : (given size says : ℕ) → 0 < size → given < MAX_RECORDS → (16 ≤ size → says ≤ MAX_CAPTURED) → answer given size says ≡ Ok (next.Cut size)
answer-cut given size says some few small =
    answer-some given size says some few
    ∙ (elim (cases_lt 15 size) [
      | inl lt ↦ ap (λ b. cond b (cond (nat_lt MAX_CAPTURED says) (Err fault.TooLong) (Ok (next.Cut size))) (Ok (next.Cut size))) (lt-ltb 15 size lt)
          ∙ ap (λ b. cond b (Err fault.TooLong) (Ok (next.Cut size))) (le-ltb MAX_CAPTURED says (small (omega arith)))
      | inr le ↦ ap (λ b. cond b (cond (nat_lt MAX_CAPTURED says) (Err fault.TooLong) (Ok (next.Cut size))) (Ok (next.Cut size))) (le-ltb 15 size le)
    ])

answered : (way : Order) (given : ℕ) (bytes : List ℕ) (ending : Result Next PcapFault) → IsRest way given bytes ending → answer given (length bytes) (captured_length way bytes) ≡ ending
answered way given bytes (Ok next.Packet) e = absurd e
answered way given bytes (Ok next.End) e = ap (λ n. answer given n (captured_length way bytes)) (ap length e) ∙ answer-none given (captured_length way bytes)
answered way given bytes (Ok (next.Cut count)) e =
    ap (λ n. answer given n (captured_length way bytes)) e.size ∙ answer-cut given count (captured_length way bytes) e.some e.few (λ le. (e.begun le).0)
answered way given bytes (Err fault.ReadFault) e = absurd e
answered way given bytes (Err fault.BadMagic) e = absurd e
answered way given bytes (Err fault.BadVersion) e = absurd e
answered way given bytes (Err fault.BadLink) e = absurd e
answered way given bytes (Err fault.Short) e = absurd e
answered way given bytes (Err fault.TooLong) e = answer-long given (length bytes) (captured_length way bytes) e.1 e.0 e.2
answered way given bytes (Err fault.TooManyRecords) e = answer-many given (length bytes) (captured_length way bytes) e.1 e.0
answered way given bytes (Err (fault.Spoilt first)) e = absurd e
answered way given bytes (Err fault.NoMemory) e = absurd e

one-rest : (way : Order) (given : ℕ) (bytes : List ℕ) (ending ending' : Result Next PcapFault) → IsRest way given bytes ending → IsRest way given bytes ending' → ending ≡ ending'
one-rest way given bytes ending ending' e e' = sym (answered way given bytes ending e) ∙ answered way given bytes ending' e'

pub one-body : (way : Order) (given : ℕ) (bytes : List ℕ) (frames frames' : List (List ℕ)) (ending ending' : Result Next PcapFault)
    → IsBody way given bytes frames ending → IsBody way given bytes frames' ending' → (frames ≡ frames') × (ending ≡ ending')
one-body way given bytes [] [] ending ending' b b' = (refl, one-rest way given bytes ending ending' b b')
one-body way given bytes [] (frame ∷ frames) ending ending' b b' = absurd (not-both way given bytes frame b'.0 ending b'.1 b)
one-body way given bytes (frame ∷ frames) [] ending ending' b b' = absurd (not-both way given bytes frame b.0 ending' b.1 b')
one-body way given bytes (frame ∷ frames) (frame' ∷ frames') ending ending' b b' =
    let same : (frame ≡ frame') × (b.0 ≡ b'.0) = one-record way given bytes frame frame' b.0 b'.0 b.1 b'.1 in
    let more : (frames ≡ frames') × (ending ≡ ending') =
    one-body way (given + 1) b.0 frames frames' ending ending' b.2 (subst (λ (ys : List ℕ). IsBody way (given + 1) ys frames' ending') (sym same.1) b'.2) in
    (ap (λ f. f ∷ frames) same.0 ∙ ap (λ fs. frame' ∷ fs) more.0, more.1)

pub one_reading : OneReading
one_reading file way way' frames frames' ending ending' a b =
    let same : way ≡ way' = order (header_of file) way way' a.header b.header in
    let body : (frames ≡ frames') × (ending ≡ ending') =
    one-body way 0 (drop 24 file) frames frames' ending ending' a.body (subst (λ (w : Order). IsBody w 0 (drop 24 file) frames' ending') (sym same) b.body) in
    (same, body.0, body.1) where
      order : (read : Result Order PcapFault) (x y : Order) → read ≡ Ok x → read ≡ Ok y → x ≡ y
      order read x y e f = cc

pub one_answer : OneAnswer
one_answer way given bytes = (
  λ frame frame' rest rest' r r'. one-record way given bytes frame frame' rest rest' r r',
  λ frame rest ending r e. not-both way given bytes frame rest ending r e,
  λ ending ending' e e'. one-rest way given bytes ending ending' e e',
)
