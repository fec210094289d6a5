-- The joined capture is a capture.
use Rattle.std.proofs.Common.{◌≡◌, ◌≢◌, ◌≤◌, ◌<◌, ◌+◌, ◌-◌, ◌^◌, ℕ, true, false, cond, nat_lt, not, List, [], ◌∷◌, ◌++◌, length, take}
use Rattle.std.proofs.Common.{drop, max, replicate, Option, Some, None, Ok, refl, sym, ap, subst, ◌∙◌, arith, append_assoc, inl, inr}
use Rattle.std.proofs.lemmas.Bool.{cases_Bool, cond-true, cond-false, cond_both, le-ltb, ltb-false, not-false}
use Rattle.std.proofs.lemmas.List.{length-append, length-take, length-replicate}
use Rattle.std.specs.Bool.{⊤}
use Rattle.std.specs.List.{flat_map, list_any}
use Rattle.byteorder.specs.Endian.{little_bytes}
use Rattle.byteorder.specs.Numbers.{little_number-reads_back}
use Rattle.spin_headers.specs.Headers.{ipv4_header}
use Rattle.spin_pcap.specs.declared.limits.TheConstants.{MAX_RECORDS, MAX_CAPTURED}
use Rattle.spin_pcap.specs.declared.next.Next.{Next}
use Rattle.spin_pcap.specs.declared.next.Next.TheVariants as next
use Rattle.spin_pcap.specs.declared.order.Order.{Order}
use Rattle.spin_pcap.specs.declared.order.Order.TheVariants as order
use Rattle.spin_pcap.specs.Captures.{captured_length, header_of, fields_of, order_of, IsRecord, IsRest, IsBody}
use Rattle.spin_pcap.specs.Passing.{IsCutShort}
use Rattle.spin_reass.specs.declared.piece.Key.{Key}
use Rattle.spin_reass.specs.declared.piece.Part.{Part}
use Rattle.spin_reass.specs.declared.piece.Piece.{Piece}
use Rattle.spin_reass.specs.declared.limits.TheConstants.{MAX_OPEN}
use Rattle.spin_reass.specs.Fragments.{piece_of, is_sound}
use Rattle.spin_reass.specs.Joining.{OpenDatagram, fits, placed, are_whole, payload, first_ttl, whole_frame, has_key, with_room}
use Rattle.spin_reass.specs.Joining.{opened, parts_of, with_parts, without, gathered, joined_by, joined, joined_frames}
use Rattle.spin_reass.specs.JoinedCaptures.{file_header, record_header, record_of, cut_rest, rest_of}
use Rattle.spin_reass.specs.Inner.Orderly.{are_orderly}
use Rattle.spin_reass.specs.Laws.{JoinedIsCapture}
use Rattle.spin_reass.proofs.PartOrder.{sound, fits_goes, placed_orderly, small_size, payload_size}

-- ---- no frame becomes longer than the longest datagram

abbrev AllOrderly : List OpenDatagram → Type 0
AllOrderly [] = ⊤
AllOrderly (one ∷ others) = (are_orderly 0 one.parts ≡ true) × AllOrderly others

orderly_parts : (key : Key) (datagrams : List OpenDatagram) → AllOrderly datagrams → are_orderly 0 (parts_of key datagrams) ≡ true
orderly_parts key [] h = refl
orderly_parts key (one ∷ others) h =
    cond_both (has_key key one) one.parts (parts_of key others) (λ ps. are_orderly 0 ps ≡ true) (λ _. h.0) (λ _. orderly_parts key others h.1)

orderly_with : (key : Key) (parts : List Part) (datagrams : List OpenDatagram) → are_orderly 0 parts ≡ true → AllOrderly datagrams → AllOrderly (with_parts key parts datagrams)
orderly_with key parts [] p h = tt
orderly_with key parts (one ∷ others) p h =
    cond_both (has_key key one) (record one { parts = parts } ∷ others) (one ∷ with_parts key parts others) AllOrderly (λ _. (p, h.1)) (λ _. (h.0, orderly_with key parts others p h.1))

orderly_without : (key : Key) (datagrams : List OpenDatagram) → AllOrderly datagrams → AllOrderly (without key datagrams)
orderly_without key [] h = tt
orderly_without key (one ∷ others) h =
    cond_both (has_key key one) others (one ∷ without key others) AllOrderly (λ _. h.1) (λ _. (h.0, orderly_without key others h.1))

orderly_pushed : (key : Key) (datagrams : List OpenDatagram) → AllOrderly datagrams → AllOrderly (datagrams ++ record { key = key; parts = [] } ∷ [])
orderly_pushed key [] h = (refl, tt)
orderly_pushed key (one ∷ others) h = (h.0, orderly_pushed key others h.1)

orderly_dropped : (datagrams : List OpenDatagram) → AllOrderly datagrams → AllOrderly (drop 1 datagrams)
orderly_dropped [] h = tt
orderly_dropped (one ∷ others) h = h.1

orderly_opened : (key : Key) (datagrams : List OpenDatagram) → AllOrderly datagrams → AllOrderly (opened key datagrams)
orderly_opened key datagrams h =
    cond_both (list_any (has_key key) datagrams) datagrams (with_room datagrams ++ record { key = key; parts = [] } ∷ []) AllOrderly
    (λ _. h)
    (λ _. orderly_pushed key (with_room datagrams) (cond_both (nat_lt (length datagrams) MAX_OPEN) datagrams (drop 1 datagrams) AllOrderly (λ _. h) (λ _. orderly_dropped datagrams h)))

header_length : (ident ttl protocol source destination payload_len : ℕ) → length (ipv4_header ident ttl protocol source destination payload_len) ≡ 20
header_length ident ttl protocol source destination payload_len = refl

frame_length : (datagram : OpenDatagram) (frame : List ℕ) → are_orderly 0 datagram.parts ≡ true → length (whole_frame datagram frame) ≤ 65549
frame_length datagram frame h =
    let header : List ℕ = ipv4_header datagram.key.ident (first_ttl datagram.parts) datagram.key.protocol datagram.key.source datagram.key.destination (length (payload datagram.parts)) in
    let small = small_size 0 datagram.parts (omega arith) h in
    let size = payload_size datagram.parts in
    let twenty : length header ≡ 20 =
    header_length datagram.key.ident (first_ttl datagram.parts) datagram.key.protocol datagram.key.source datagram.key.destination (length (payload datagram.parts)) in
    let front = length-take 14 frame in
    let both = length-append (take 14 frame ++ header) (payload datagram.parts) in
    let two = length-append (take 14 frame) header in
    omega arith

abbrev Kept : List ℕ → List OpenDatagram × List ℕ → Type 0
Kept frame r = AllOrderly r.0 × (length r.1 ≤ max (length frame) 65549)

kept_gathered : (piece : Piece) (datagrams : List OpenDatagram) (frame : List ℕ) → is_sound piece.part ≡ true → AllOrderly datagrams → Kept frame (gathered piece datagrams frame)
kept_gathered piece datagrams frame s h =
    let before : List Part = parts_of piece.key datagrams in
    let after : List Part = placed piece.part before in
    let all : OpenDatagram = record { key = piece.key; parts = after } in
    let o = orderly_parts piece.key datagrams h in
    let ps = sound piece.part s in
    cond_both (not (fits piece.part before)) (datagrams, frame) (cond (are_whole after) (without piece.key datagrams, whole_frame all frame) (with_parts piece.key after datagrams, frame)) (Kept frame)
    (λ _. (h, omega arith))
    (λ n.
    let f : fits piece.part before ≡ true = not-false (fits piece.part before) n in
    let a : are_orderly 0 after ≡ true = placed_orderly 0 piece.part before ps o (sym (fits_goes 0 piece.part before ps.some o (omega arith)) ∙ f) in
    cond_both (are_whole after) (without piece.key datagrams, whole_frame all frame) (with_parts piece.key after datagrams, frame) (Kept frame)
    (λ _. (orderly_without piece.key datagrams h, (let l = frame_length all frame a in omega arith)))
    (λ _. (orderly_with piece.key after datagrams a h, omega arith)))

kept_by : (piece : Option Piece) (datagrams : List OpenDatagram) (frame : List ℕ) → AllOrderly datagrams → Kept frame (joined_by piece datagrams frame)
kept_by None datagrams frame h = (h, omega arith)
kept_by (Some piece) datagrams frame h =
    cond_both (is_sound piece.part) (gathered piece (opened piece.key datagrams) frame) (datagrams, frame) (Kept frame)
    (λ s. kept_gathered piece (opened piece.key datagrams) frame s (orderly_opened piece.key datagrams h))
    (λ _. (h, omega arith))

kept : (datagrams : List OpenDatagram) (frame : List ℕ) → AllOrderly datagrams → Kept frame (joined datagrams frame)
unfolding joined
kept datagrams frame h = kept_by (piece_of frame) datagrams frame h

-- ---- records, and the rest

says : (n other : ℕ) → n < 256 ^ 4 → captured_length order.Little (record_header n other) ≡ n
says n other l = little_number-reads_back 4 n (little_bytes 4 other) l

record_size : (n other : ℕ) → length (record_header n other) ≡ 16
record_size n other = refl

pub is_record : (given : ℕ) (frame rest : List ℕ) → given < MAX_RECORDS → length frame ≤ MAX_CAPTURED → IsRecord order.Little given (record_of frame ++ rest) frame rest
is_record given frame rest few small = record {
  few = few;
  header = record_header (length frame) (length frame);
  size = record_size (length frame) (length frame);
  says = says (length frame) (length frame) (omega arith);
  small = small;
  whole = refl;
}

zeros_length : (n : ℕ) → length (replicate {A = ℕ} n 0) ≡ n
zeros_length n = length-replicate n 0

both_sizes : (count : ℕ) → nat_lt count 16 ≡ false → 16 + (count - 16) ≡ count
both_sizes count e = let le : 16 ≤ count = ltb-false count 16 e in omega arith

rest_length : (count : ℕ) → length (cut_rest count) ≡ count
rest_length count =
    elim (cases_Bool (nat_lt count 16)) [
      | inl e ↦ ap length (cond-true (nat_lt count 16) (replicate count 0) (record_header MAX_CAPTURED 0 ++ replicate (count - 16) 0) e) ∙ zeros_length count
      | inr e ↦
          ap length (cond-false (nat_lt count 16) (replicate count 0) (record_header MAX_CAPTURED 0 ++ replicate (count - 16) 0) e)
          ∙ length-append (record_header MAX_CAPTURED 0) (replicate (count - 16) 0)
          ∙ (λ i. record_size MAX_CAPTURED 0 i + zeros_length (count - 16) i)
          ∙ both_sizes count e
    ]

rest_says : (count : ℕ) → 16 ≤ count → captured_length order.Little (cut_rest count) ≡ MAX_CAPTURED
rest_says count le =
    ap (λ xs. captured_length order.Little xs) (cond-false (nat_lt count 16) (replicate count 0) (record_header MAX_CAPTURED 0 ++ replicate (count - 16) 0) (le-ltb count 16 le))
    ∙ little_number-reads_back 4 MAX_CAPTURED (little_bytes 4 0 ++ replicate (count - 16) 0) (omega arith)

is_rest : (way : Order) (given : ℕ) (bytes : List ℕ) (ending : Next) → IsRest way given bytes (Ok ending) → IsRest order.Little given (rest_of ending) (Ok ending)
is_rest way given bytes next.Packet h = h
is_rest way given bytes next.End h = refl
is_rest way given bytes (next.Cut count) h = record {
  some = h.some;
  size = rest_length count;
  few = h.few;
  begun = λ le. (let s = rest_says count le in let b = h.begun le in (omega arith, omega (arith, b.0, b.1)));
}

-- a rest that a reader may answer, as it is written
pub cut_is_rest : (given : ℕ) (ending : Next) → ending ≢ next.Packet → IsCutShort given (Ok ending) → IsRest order.Little given (rest_of ending) (Ok ending)
cut_is_rest given next.Packet end short = absurd (end refl)
cut_is_rest given next.End end short = refl
cut_is_rest given (next.Cut count) end short = record {
  some = short.1;
  size = rest_length count;
  few = short.0;
  begun = λ le. (let s = rest_says count le in (omega arith, omega (arith, short.2)));
}

is_body : (way : Order) (given : ℕ) (bytes : List ℕ) (frames : List (List ℕ)) (ending : Next) (datagrams : List OpenDatagram) → AllOrderly datagrams
    → IsBody way given bytes frames (Ok ending) → IsBody order.Little given (flat_map record_of (joined_frames datagrams frames) ++ rest_of ending) (joined_frames datagrams frames) (Ok ending)
is_body way given bytes [] ending datagrams h b = is_rest way given bytes ending b
is_body way given bytes (frame ∷ frames) ending datagrams h b =
    let k = kept datagrams frame h in
    let one : List ℕ = (joined datagrams frame).1 in
    let others : List (List ℕ) = joined_frames (joined datagrams frame).0 frames in
    let rest : List ℕ = flat_map record_of others ++ rest_of ending in
    let small = b.1.small in
    let longest = k.1 in (
      rest,
      subst (λ xs. IsRecord order.Little given xs one rest) (sym (append_assoc (record_of one) (flat_map record_of others) (rest_of ending))) (is_record given one rest b.1.few (omega arith)),
      is_body way (given + 1) b.0 frames ending (joined datagrams frame).0 k.0 b.2,
    )

-- ---- the header

pub is_header : (rest : List ℕ) → header_of (file_header ++ rest) ≡ Ok order.Little
is_header rest =
    let long = length-append file_header rest in
    cond-false (nat_lt (length (file_header ++ rest)) 24) _ (fields_of (order_of (file_header ++ rest)) (file_header ++ rest)) (le-ltb (length (file_header ++ rest)) 24 (omega arith))
    ∙ refl

pub joined_is_capture : JoinedIsCapture
joined_is_capture file way frames ending h = record {
  header = ap header_of (append_assoc file_header (flat_map record_of (joined_frames [] frames)) (rest_of ending)) ∙ is_header (flat_map record_of (joined_frames [] frames) ++ rest_of ending);
  body = is_body way 0 (drop 24 file) frames ending [] tt h.body;
}
