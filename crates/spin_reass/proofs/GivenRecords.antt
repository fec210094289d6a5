-- Records that a reader gave, also of a source that doesn't tell what it has left, and that were joined.
use Rattle.std.proofs.Common.{◌≡◌, ◌≢◌, ◌≤◌, ◌<◌, ◌+◌, ℕ, List, [], ◌∷◌, ◌++◌, length, Ok, sym, ap, subst, ◌∙◌, arith, append_assoc}
use Rattle.std.proofs.lemmas.List.{append-nil, length-append}
use Rattle.std.specs.Bool.{⊤}
use Rattle.std.specs.List.{flat_map}
use Rattle.spin_pcap.specs.declared.limits.TheConstants.{MAX_RECORDS, MAX_CAPTURED}
use Rattle.spin_pcap.specs.declared.next.Next.{Next}
use Rattle.spin_pcap.specs.declared.next.Next.TheVariants as next
use Rattle.spin_pcap.specs.declared.order.Order.TheVariants as order
use Rattle.spin_pcap.specs.declared.state.State.{State}
use Rattle.spin_pcap.specs.declared.state.State.TheVariants as state
use Rattle.spin_pcap.specs.Captures.{IsRecord, IsRest, IsBody, IsCapture}
use Rattle.spin_pcap.specs.Passing.{IfReading, IsCutShort}
use Rattle.spin_reass.specs.Joining.{OpenDatagram, joined, joined_frames}
use Rattle.spin_reass.specs.JoinedCaptures.{file_header, record_of, rest_of, IsJoinedCapture}
use Rattle.spin_reass.specs.Inner.Reading.{EachIsFew, AreRecords, JoinsSome}
use Rattle.spin_reass.proofs.CaptureLemmas.{is_record, is_header, cut_is_rest}
use Rattle.spin_pcap.proofs.CaptureRecords.{reading}
use Rattle.spin_reass.proofs.JoinedRecords.{SoFar, JoinsFrame, frames_one, written_one}

each_push : (frames : List (List ℕ)) (frame : List ℕ) → EachIsFew frames → length frame ≤ MAX_CAPTURED → EachIsFew (frames ++ frame ∷ [])
each_push [] frame each few = (few, tt)
each_push (one ∷ others) frame each few = (each.0, each_push others frame each.1 few)

-- These records were given, and these frames took their places.
pub record HasGiven (before : List ℕ) (now : SoFar) : Type 0 where
  pub taken : List (List ℕ)
  pub done : List (List ℕ)
  pub count : now.given ≡ length taken
  pub most : now.given ≤ MAX_RECORDS
  pub each : EachIsFew taken
  pub frames : (more : List (List ℕ)) → joined_frames [] (taken ++ more) ≡ done ++ joined_frames now.datagrams more
  pub is : now.out ≡ before ++ flat_map record_of done

pub given_none : (before : List ℕ) (given : ℕ) (datagrams : List OpenDatagram) → given ≡ 0 → datagrams ≡ []
    → HasGiven before (record { given = given; datagrams = datagrams; out = before })
given_none before given datagrams zero_given none = record {
  taken = [];
  done = [];
  count = zero_given;
  most = omega (arith, zero_given);
  each = tt;
  frames = λ more. ap (λ ds. joined_frames ds more) (sym none);
  is = sym (append-nil before);
}

pub given_one : (before frame : List ℕ) (now later : SoFar) → HasGiven before now → now.given < MAX_RECORDS → length frame ≤ MAX_CAPTURED → JoinsFrame frame now later → HasGiven before later
given_one before frame now later h room few j = record {
  taken = h.taken ++ frame ∷ [];
  done = h.done ++ (joined now.datagrams frame).1 ∷ [];
  count = (let n = h.count in let g = j.given in omega (arith, length-append h.taken (frame ∷ [])));
  most = (let g = j.given in omega (arith, room));
  each = each_push h.taken frame h.each few;
  frames = frames_one h.taken h.done now.datagrams later.datagrams frame h.frames j.datagrams;
  is = written_one before now.out later.out h.done (joined now.datagrams frame).1 h.is j.out;
}

ends_so : (before : List ℕ) (now : SoFar) (ending : Next) → (ending ≢ next.Packet) → IsCutShort now.given (Ok ending) → HasGiven before now → JoinsSome before now.out (Ok ending)
ends_so before now ending end short h =
    let all : joined_frames [] h.taken ≡ h.done = ap (λ fs. joined_frames [] fs) (sym (append-nil h.taken)) ∙ h.frames [] ∙ append-nil h.done in (
      h.taken,
      (h.each, omega (arith, h.count, h.most), subst (λ (n : ℕ). IsCutShort n (Ok ending)) h.count short, end),
      h.is ∙ ap (λ fs. before ++ flat_map record_of fs) (sym all),
    )

end_no_packet : next.End ≢ next.Packet
end_no_packet e = cc

cut_no_packet : (count : ℕ) → next.Cut count ≢ next.Packet
cut_no_packet count e = cc

pub given_end : (before : List ℕ) (now : SoFar) → HasGiven before now → JoinsSome before now.out (Ok next.End)
given_end before now h = ends_so before now next.End end_no_packet tt h

pub given_cut : (before : List ℕ) (now : SoFar) (stands : State) (answer : Next) (count : ℕ) → stands ≡ state.Reading → answer ≡ next.Cut count
    → IfReading stands (IsCutShort now.given (Ok answer)) ⊤ → HasGiven before now → JoinsSome before now.out (Ok (next.Cut count))
given_cut before now stands answer count r e cut h =
    ends_so before now (next.Cut count) (cut_no_packet count)
    (subst (λ (x : Next). IsCutShort now.given (Ok x)) e (reading stands (IsCutShort now.given (Ok answer)) ⊤ r cut)) h

-- ---- the capture of the records as they were given

records_body : (given : ℕ) (frames : List (List ℕ)) (ending : Next) → EachIsFew frames → given + length frames ≤ MAX_RECORDS
    → IsRest order.Little (given + length frames) (rest_of ending) (Ok ending) → IsBody order.Little given (flat_map record_of frames ++ rest_of ending) frames (Ok ending)
records_body given [] ending each most rest = subst (λ (n : ℕ). IsRest order.Little n (rest_of ending) (Ok ending)) (omega arith) rest
records_body given (frame ∷ frames) ending each most rest =
    let behind : List ℕ = flat_map record_of frames ++ rest_of ending in (
      behind,
      subst (λ xs. IsRecord order.Little given xs frame behind) (sym (append_assoc (record_of frame) (flat_map record_of frames) (rest_of ending)))
          (is_record given frame behind (omega (arith, most)) each.0),
      records_body (given + 1) frames ending each.1 (omega (arith, most)) (subst (λ (n : ℕ). IsRest order.Little n (rest_of ending) (Ok ending)) (omega arith) rest),
    )

capture_of : (frames : List (List ℕ)) (ending : Next) → AreRecords frames ending → IsCapture (file_header ++ (flat_map record_of frames ++ rest_of ending)) order.Little frames (Ok ending)
capture_of frames ending are = record {
  header = is_header (flat_map record_of frames ++ rest_of ending);
  body =
      records_body 0 frames ending are.0 (omega (arith, are.1)) (subst (λ (n : ℕ). IsRest order.Little n (rest_of ending) (Ok ending)) (omega arith) (cut_is_rest (length frames) ending are.3 are.2));
}

-- what was written is the joined capture of that
pub some_capture : (ending : Next) (header out bytes : List ℕ) → header ≡ file_header → JoinsSome header out (Ok ending) → bytes ≡ out ++ rest_of ending → IsJoinedCapture bytes
some_capture ending header out bytes is some e = (
  file_header ++ (flat_map record_of some.0 ++ rest_of ending),
  (
    order.Little,
    some.0,
    ending,
    capture_of some.0 ending some.1,
    e ∙ ap (λ z. z ++ rest_of ending) (some.2 ∙ ap (λ z. z ++ flat_map record_of (joined_frames [] some.0)) is),
  ),
)
