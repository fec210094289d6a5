-- A whole record at the front of the bytes that are left.
use Rattle.std.proofs.Common.{◌≡◌, ◌≤◌, ◌<◌, ◌+◌, ℕ, List, [], ◌++◌, length, take, drop, Ok, refl, sym, ap, ◌∙◌, arith, IfSome}
use Rattle.std.proofs.lemmas.List.{append-nil, length-append, length-take, length-drop, take-append-drop}
use Rattle.std.proofs.Math.Seq.{drop-append-le}
use Rattle.byteorder.specs.Numbers.{big_from-append, little_from-append}
use Rattle.spin_outside.specs.Sources.{SourceSeen}
use Rattle.spin_pcap.specs.declared.next.Next.TheVariants as next
use Rattle.spin_pcap.specs.declared.order.Order.{Order}
use Rattle.spin_pcap.specs.declared.order.Order.TheVariants as order
use Rattle.spin_pcap.specs.declared.limits.TheConstants.{MAX_RECORDS, MAX_CAPTURED}
use Rattle.spin_pcap.specs.Captures.{ordered_number, ordered_number_at, captured_length, HasRecordHeader}
use Rattle.spin_pcap.specs.Passing.{Passes, left_for, IsAnswer, IsWithinRecord}
use Rattle.spin_pcap.proofs.SourceBytes.{before-rest, passes-then, passes-skip}

pub number-front : (way : Order) (width : ℕ) (xs ys : List ℕ) → width ≤ length xs → ordered_number way width (xs ++ ys) ≡ ordered_number way width xs
number-front order.Big width xs ys le = big_from-append width xs ys le
number-front order.Little width xs ys le = little_from-append width xs ys le

pub number_at-front : (way : Order) (place width : ℕ) (xs ys : List ℕ) → place + width ≤ length xs → ordered_number_at way place width (xs ++ ys) ≡ ordered_number_at way place width xs
number_at-front way place width xs ys le =
    ap (λ zs. ordered_number way width zs) (drop-append-le place xs ys (omega arith)) ∙ number-front way width (drop place xs) ys (omega (arith, length-drop place xs))

-- the header of a record is at the front of what is held
captured-held : (way : Order) (held more : List ℕ) → 16 ≤ length held → captured_length way (take 16 held ++ more) ≡ captured_length way held
captured-held way held more le =
    number_at-front way 8 4 (take 16 held) more (omega (arith, length-take 16 held))
    ∙ sym (number_at-front way 8 4 (take 16 held) (drop 16 held) (omega (arith, length-take 16 held)))
    ∙ ap (λ ys. captured_length way ys) (take-append-drop 16 held)

-- the header of a record that is held stands at the front of what was left
pub header-left : (way : Order) (given : ℕ) (held held' : List ℕ) (source source' : SourceSeen) → Passes [] held source held' source'
    → 16 ≤ length held' → given < MAX_RECORDS → captured_length way held' ≤ MAX_CAPTURED → IfSome (left_for held source.left) (HasRecordHeader way given)
header-left way given held held' source source' p size few small =
    before-rest (HasRecordHeader way given) [] held held' source source' p (λ rest told. record {
      few = few;
      there = omega (arith, length-append held' rest, size);
      small = omega (arith, number_at-front way 8 4 held' rest (omega (arith, size)), small);
    })

-- the header of the record and its bytes are gone
pub passes-record : (held held' held'' frame : List ℕ) (source source' source'' : SourceSeen) → Passes [] held source held' source'
    → 16 ≤ length held' → Passes frame (drop 16 held') source' held'' source'' → Passes (take 16 held' ++ frame) held source held'' source''
passes-record held held' held'' frame source source' source'' p size q =
    passes-then [] (take 16 held' ++ frame) held held' held'' source source' source'' p
    (passes-then (take 16 held') frame held' (drop 16 held') held'' source' source' source'' (passes-skip held' source' 16 size) q)

-- what is gone of a record whose bytes are copied
pub within_record : (way : Order) (held frame : List ℕ) (says : ℕ) → 16 ≤ length held → captured_length way held ≡ says
    → length frame ≤ says → says ≤ MAX_CAPTURED → IsWithinRecord way (take 16 held ++ frame)
within_record way held frame says size is few small =
    let long = length-append (take 16 held) frame in
    let header = length-take 16 held in record {
      few = omega (arith, long, header, few, small);
      says = λ _. omega (arith, long, header, few, captured-held way held frame size ∙ is);
    }

pub answers-packet : (way : Order) (given : ℕ) (held held' held'' frame : List ℕ) (source source' source'' : SourceSeen) → Passes [] held source held' source'
    → 16 ≤ length held' → Passes frame (drop 16 held') source' held'' source'' → given < MAX_RECORDS → captured_length way held' ≡ length frame
    → length frame ≤ MAX_CAPTURED → IfSome (left_for held source.left) (λ bytes. IsAnswer way given bytes (Ok next.Packet) frame (left_for held'' source''.left))
answers-packet way given held held' held'' frame source source' source'' p size q few says small =
    before-rest (λ bytes. IsAnswer way given bytes (Ok next.Packet) frame (left_for held'' source''.left))
    (take 16 held' ++ frame) held held'' source source'' (passes-record held held' held'' frame source source' source'' p size q)
    (λ rest left. (
      held'' ++ rest,
      left,
      record {
        few = few;
        header = take 16 held';
        size = omega (arith, length-take 16 held');
        says = ap (λ ys. captured_length way ys) (sym (append-nil (take 16 held'))) ∙ captured-held way held' [] size ∙ says;
        small = small;
        whole = refl;
      },
    ))
