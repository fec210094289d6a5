-- The header of a file at the front of the bytes that are left.
use Rattle.std.proofs.Common.{◌≡◌, ◌≤◌, ◌<◌, ◌+◌, ◌==◌, ◌&&◌, inl, inr, ℕ, cond, not, List, [], ◌++◌, length, drop, Option, Some, None, Result, Ok, Err, refl, sym, ap, subst, ◌∙◌, arith, IfSome}
use Rattle.std.proofs.lemmas.Bool.{cases_lt, le-ltb, lt-ltb}
use Rattle.std.proofs.Math.Seq.{drop-append-le}
use Rattle.std.proofs.lemmas.List.{length-append, length-drop}
use Rattle.std.specs.Io.KnownBytes.{IsAtEnd}
use Rattle.spin_outside.specs.Sources.{SourceSeen, taken_more}
use Rattle.spin_pcap.specs.declared.fault.PcapFault.{PcapFault}
use Rattle.spin_pcap.specs.declared.fault.PcapFault.TheVariants as fault
use Rattle.spin_pcap.specs.declared.order.Order.{Order}
use Rattle.spin_pcap.specs.declared.order.Order.TheVariants as order
use Rattle.spin_pcap.specs.Captures.{ordered_number, ordered_number_at, is_magic, order_of, fields_of, header_of}
use Rattle.spin_pcap.specs.Passing.{Passes, left_for, UnlessFailed}
use Rattle.spin_pcap.proofs.SourceBytes.{before-rest, before-end, holds}
use Rattle.spin_pcap.proofs.WholeRecords.{number-front, number_at-front}

order-front : (xs ys : List ℕ) → 4 ≤ length xs → order_of (xs ++ ys) ≡ order_of xs
order-front xs ys le =
    ap (λ m. cond (is_magic m) (Some order.Big) (cond (is_magic (ordered_number order.Little 4 (xs ++ ys))) (Some order.Little) None)) (number-front order.Big 4 xs ys le)
    ∙ ap (λ n. cond (is_magic (ordered_number order.Big 4 xs)) (Some order.Big) (cond (is_magic n) (Some order.Little) None)) (number-front order.Little 4 xs ys le)

abbrev fields : Order → ℕ → ℕ → ℕ → Result Order PcapFault
fields way major minor link = cond (not ((major == 2) && (minor == 4))) (Err fault.BadVersion) (cond (not (link == 1)) (Err fault.BadLink) (Ok way))

fields-front : (way : Option Order) (xs ys : List ℕ) → 24 ≤ length xs → fields_of way (xs ++ ys) ≡ fields_of way xs
fields-front None xs ys le = refl
fields-front (Some way) xs ys le =
    ap (λ a. fields way a (ordered_number_at way 6 2 (xs ++ ys)) (ordered_number_at way 20 4 (xs ++ ys))) (number_at-front way 4 2 xs ys (omega arith))
    ∙ ap (λ b. fields way (ordered_number_at way 4 2 xs) b (ordered_number_at way 20 4 (xs ++ ys))) (number_at-front way 6 2 xs ys (omega arith))
    ∙ ap (λ d. fields way (ordered_number_at way 4 2 xs) (ordered_number_at way 6 2 xs) d) (number_at-front way 20 4 xs ys (omega arith))

header-whole : (xs : List ℕ) → 24 ≤ length xs → header_of xs ≡ fields_of (order_of xs) xs
header-whole xs le = ap (λ b. cond b (Err fault.Short) (fields_of (order_of xs) xs)) (le-ltb (length xs) 24 le)

header-short : (xs : List ℕ) → length xs < 24 → header_of xs ≡ Err fault.Short
header-short xs lt = ap (λ b. cond b (Err fault.Short) (fields_of (order_of xs) xs)) (lt-ltb (length xs) 24 lt)

header-front : (xs ys : List ℕ) → 24 ≤ length xs → header_of (xs ++ ys) ≡ header_of xs
header-front xs ys le =
    header-whole (xs ++ ys) (omega (arith, length-append xs ys))
    ∙ ap (λ way. fields_of way (xs ++ ys)) (order-front xs ys (omega arith))
    ∙ fields-front (order_of xs) xs ys le
    ∙ sym (header-whole xs le)

pub header-long : (xs : List ℕ) (way : Order) → header_of xs ≡ Ok way → 24 ≤ length xs
header-long xs way is = elim (cases_lt (length xs) 24) [ inl lt ↦ absurd (apart (sym (header-short xs lt) ∙ is)) | inr le ↦ le ] where
  apart : Err fault.Short ≡ Ok way → ⊥
  apart e = cc

plain : (P : List ℕ → Type 0) (left : Option (List ℕ)) → IfSome (left_for [] left) P → IfSome left P
plain P None h = h
plain P (Some xs) h = h

-- The header of what is held is that of all that was left.
header-held : (held : List ℕ) (source source' : SourceSeen) → Passes [] [] source held source'
    → (length held < 24 → IsAtEnd source'.left) → IfSome source.left (λ bytes. header_of bytes ≡ header_of held)
header-held held source source' p end =
    plain (λ bytes. header_of bytes ≡ header_of held) source.left
    (elim (cases_lt (length held) 24) [
      | inl lt ↦ before-end (λ bytes. header_of bytes ≡ header_of held) [] [] held source source' p (end lt) refl
      | inr le ↦ before-rest (λ bytes. header_of bytes ≡ header_of held) [] [] held source source' p (λ rest _. header-front held rest le)
    ])

each : (P Q : List ℕ → Type 0) (left : Option (List ℕ)) → ((bytes : List ℕ) → P bytes → Q bytes) → IfSome left P → IfSome left Q
each P Q None f h = tt
each P Q (Some xs) f h = f xs h

-- from a window that holds nothing yet
emptied : (held held' : List ℕ) (source source' : SourceSeen) → held ≡ [] → Passes [] held source held' source' → Passes [] [] source held' source'
emptied held held' source source' none p = subst (λ (ys : List ℕ). Passes [] ys source held' source') none p

pub starts-refused : (held held' : List ℕ) (source source' : SourceSeen) (wrong : PcapFault) → held ≡ [] → Passes [] held source held' source'
    → (length held' < 24 → IsAtEnd source'.left) → header_of held' ≡ Err wrong → IfSome source.left (λ bytes. UnlessFailed wrong (header_of bytes ≡ Err wrong))
starts-refused held held' source source' wrong none p end is =
    each (λ bytes. header_of bytes ≡ header_of held') (λ bytes. UnlessFailed wrong (header_of bytes ≡ Err wrong)) source.left (λ bytes same. holds wrong _ (same ∙ is))
    (header-held held' source source' (emptied held held' source source' none p) end)

skip-left : (held : List ℕ) (left : Option (List ℕ)) (whole : List ℕ) → 24 ≤ length held → left_for held left ≡ Some whole → left_for (drop 24 held) left ≡ Some (drop 24 whole)
skip-left held None whole le is = cc
skip-left held (Some left) whole le is =
    let same : held ++ left ≡ whole = cc in
    ap Some (sym (drop-append-le 24 held left le) ∙ ap (λ ys. drop 24 ys) same)

pub starts : (held held' left : List ℕ) (source source' : SourceSeen) (way : Order) → held ≡ [] → Passes [] held source held' source' → header_of held' ≡ Ok way
    → left ≡ drop 24 held' → IfSome source.left (λ bytes. (header_of bytes ≡ Ok way) × (left_for left source'.left ≡ Some (drop 24 bytes)))
starts held held' left source source' way none p is skipped =
    let le : 24 ≤ length held' = header-long held' way is in
    plain (λ bytes. (header_of bytes ≡ Ok way) × (left_for left source'.left ≡ Some (drop 24 bytes))) source.left
    (before-rest (λ bytes. (header_of bytes ≡ Ok way) × (left_for left source'.left ≡ Some (drop 24 bytes))) [] [] held' source source' (emptied held held' source source' none p)
    (λ rest all. (header-front held' rest le ∙ is, ap (λ ys. left_for ys source'.left) skipped ∙ skip-left held' source'.left (held' ++ rest) le all)))

pub took-header : (held held' left : List ℕ) (source source' : SourceSeen) (way : Order) → held ≡ [] → Passes [] held source held' source'
    → header_of held' ≡ Ok way → left ≡ drop 24 held' → source'.taken ≡ taken_more source.taken (24 + length left)
took-header held held' left source source' way none p is skipped =
    let le : 24 ≤ length held' = header-long held' way is in
    p.takes.taken ∙ ap (λ n. taken_more source.taken n) (omega (arith, le, p.takes.balance, ap length none, ap length skipped, length-drop 24 held'))
