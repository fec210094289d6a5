-- A capture that is read without a fault is whole.
use Rattle.std.proofs.Common.{◌≡◌, ℕ, ◌+◌, ◌≤◌, ◌⊎◌, ◌||◌, inl, inr, Bool, true, false, not, cond, eqb, ltb, List, [], ◌∷◌, length, Option, Some, None, Ok, Err, refl, subst, arith}
use Rattle.std.proofs.lemmas.Bool.Decides.{nat_tests}
use Rattle.spin_grammar.proofs.CanonicalSpelling.{both, second}
use Rattle.spin_grammar.proofs.Signatures.{one_of}
use Rattle.spin_pcap.specs.declared.fault.PcapFault.TheVariants as fault
use Rattle.spin_pcap.specs.declared.next.Next.{Next}
use Rattle.spin_pcap.specs.declared.next.Next.TheVariants as next
use Rattle.spin_pcap.specs.declared.order.Order.{Order}
use Rattle.spin_pcap.specs.declared.order.Order.TheVariants as order
use Rattle.spin_pcap.specs.Captures.{ordered_number, ordered_number_at, is_magic, is_version, order_of, fields_of, header_of, IsBody}
use Rattle.spin_pcap.specs.Whole.{cut_of}
use Rattle.spin_inputs.specs.WholeCaptures.{HasFileHeader, HoldsRecords}

-- ---- the header

isnt : (b : Bool) → not b ≡ false → b ≡ true
isnt true e = refl
isnt false e = absurd cc

-- the order, which is that of the magic, and the fields behind it
abbrev HasFields : List ℕ → Order → Order → Type 0
HasFields bytes way found = (way ≡ found) × (is_version way bytes ≡ true) × (ordered_number_at way 20 4 bytes ≡ 1)

link_of : (bytes : List ℕ) (way found : Order) → is_version way bytes ≡ true → cond (not (eqb (ordered_number_at way 20 4 bytes) 1)) (Err fault.BadLink) (Ok way) ≡ Ok found → HasFields bytes way found
link_of bytes way found version e =
    elim (one_of (not (eqb (ordered_number_at way 20 4 bytes) 1)) (Err fault.BadLink) (Ok way) (Ok found) e) [
      | inl x ↦ absurd (let bad : Err fault.BadLink ≡ Ok found = x.1 in cc)
      | inr x ↦
          let one = isnt (eqb (ordered_number_at way 20 4 bytes) 1) x.0 in
          let link : ordered_number_at way 20 4 bytes ≡ 1 = grind (arith, nat_tests, one) in
          let same : Ok way ≡ Ok found = x.1 in
          (cc, version, link)
    ]

fields_are : (bytes : List ℕ) (way found : Order) → fields_of (Some way) bytes ≡ Ok found → HasFields bytes way found
fields_are bytes way found e =
    elim (one_of (not (is_version way bytes)) (Err fault.BadVersion) (cond (not (eqb (ordered_number_at way 20 4 bytes) 1)) (Err fault.BadLink) (Ok way)) (Ok found) e) [
      | inl x ↦ absurd (let bad : Err fault.BadVersion ≡ Ok found = x.1 in cc)
      | inr x ↦ link_of bytes way found (isnt (is_version way bytes) x.0) x.1
    ]

same_order : (way found : Order) → Some way ≡ Some found → way ≡ found
same_order way found e = cc

magic_of : (bytes : List ℕ) (way : Order) → order_of bytes ≡ Some way → is_magic (ordered_number way 4 bytes) ≡ true
magic_of bytes way e =
    elim (one_of (is_magic (ordered_number order.Big 4 bytes)) (Some order.Big) (cond (is_magic (ordered_number order.Little 4 bytes)) (Some order.Little) None) (Some way) e) [
      | inl x ↦ subst (λ (o : Order). is_magic (ordered_number o 4 bytes) ≡ true) (same_order order.Big way x.1) x.0
      | inr x ↦ elim (one_of (is_magic (ordered_number order.Little 4 bytes)) (Some order.Little) None (Some way) x.1) [
        | inl y ↦ subst (λ (o : Order). is_magic (ordered_number o 4 bytes) ≡ true) (same_order order.Little way y.1) y.0
        | inr y ↦ absurd (let bad : None ≡ Some way = y.1 in cc)
      ]
    ]

-- of microseconds, or of nanoseconds
one_magic : (n : ℕ) (b : Bool) → eqb n 0xa1b2c3d4 ≡ b → (b || eqb n 0xa1b23c4d) ≡ true → (n ≡ 0xa1b2c3d4) ⊎ (n ≡ 0xa1b23c4d)
one_magic n true e h = inl (grind (arith, nat_tests, e))
one_magic n false e h = inr (grind (arith, nat_tests, h))

header_by : (bytes : List ℕ) (found : Order) (o : Option Order) → 24 ≤ length bytes → order_of bytes ≡ o → fields_of o bytes ≡ Ok found → HasFileHeader found bytes
header_by bytes found None long at e = absurd (let bad : Err fault.BadMagic ≡ Ok found = e in cc)
header_by bytes found (Some way) long at e =
    let fields = fields_are bytes way found e in
    let first = both (eqb (ordered_number_at way 4 2 bytes) 2) (eqb (ordered_number_at way 6 2 bytes) 4) fields.1 in
    let last = second (eqb (ordered_number_at way 4 2 bytes) 2) (eqb (ordered_number_at way 6 2 bytes) 4) fields.1 in
    let major : ordered_number_at way 4 2 bytes ≡ 2 = grind (arith, nat_tests, first) in
    let minor : ordered_number_at way 6 2 bytes ≡ 4 = grind (arith, nat_tests, last) in
    subst (λ (o : Order). HasFileHeader o bytes) fields.0
    (record {
      long = long;
      magic = one_magic (ordered_number way 4 bytes) (eqb (ordered_number way 4 bytes) 0xa1b2c3d4) refl (magic_of bytes way at);
      version = (major, minor);
      link = fields.2;
    })

pub has_header : (bytes : List ℕ) (way : Order) → header_of bytes ≡ Ok way → HasFileHeader way bytes
has_header bytes way e =
    elim (one_of (ltb (length bytes) 24) (Err fault.Short) (fields_of (order_of bytes) bytes) (Ok way) e) [
      | inl x ↦ absurd (let bad : Err fault.Short ≡ Ok way = x.1 in cc)
      | inr x ↦ let long : 24 ≤ length bytes = grind (arith, nat_tests, x.0) in header_by bytes way (order_of bytes) long refl x.1
    ]

-- ---- the records

pub has_records : (way : Order) (given : ℕ) (bytes : List ℕ) (frames : List (List ℕ)) (last : Next) → IsBody way given bytes frames (Ok last) → HoldsRecords way given bytes frames (cut_of last)
has_records way given bytes [] next.Packet rest = absurd rest
has_records way given bytes [] next.End rest = inl (rest, refl)
has_records way given bytes [] (next.Cut count) rest = inr rest
has_records way given bytes (frame ∷ frames) last body = (body.0, body.1, has_records way (given + 1) body.0 frames last body.2)
