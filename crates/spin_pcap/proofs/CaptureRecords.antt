-- Records of a capture that are read one after another, to its end.
use Rattle.std.proofs.Common.{◌≡◌, ◌+◌, ℕ, List, [], ◌∷◌, ◌++◌, length, drop, Option, Some, None, refl, sym, ap, subst, IfSome, arith, append_assoc, inl, inr}
use Rattle.std.specs.Prelude.{Result, Ok, Err}
use Rattle.std.proofs.lemmas.List.{append-nil, length-append}
use Rattle.spin_pcap.specs.declared.fault.PcapFault.{PcapFault}
use Rattle.spin_pcap.specs.declared.fault.PcapFault.TheVariants as fault
use Rattle.spin_pcap.specs.declared.next.Next.{Next}
use Rattle.spin_pcap.specs.declared.next.Next.TheVariants as next
use Rattle.spin_pcap.specs.declared.order.Order.{Order}
use Rattle.spin_pcap.specs.declared.state.State.{State}
use Rattle.spin_pcap.specs.declared.state.State.TheVariants as state
use Rattle.spin_pcap.specs.Captures.{header_of, IsBody, IsRest}
use Rattle.spin_pcap.specs.Passing.{ReaderState, left_for, fault_number, IfReading, IsAnswer, UnlessFailed, given_after, state_after}
use Rattle.spin_pcap.specs.declared.fault.BadRecord.{BadRecord}
use Rattle.spin_pcap.specs.declared.fault.BadRecord.TheVariants.{Capture, ReadFault, NoMemory}
use Rattle.spin_pcap.specs.declared.captured.Captured.{Captured}
use Rattle.spin_pcap.specs.Inner.Recording.{ReadsBody}
use Rattle.spin_pcap.specs.Whole.{bad_at, ReadsFile}

-- what holds of what is told
pub at_told : {X : Type 0} (P : X → Type 0) (o : Option X) (x : X) → o ≡ Some x → IfSome o P → P x
at_told P o x told is = subst (λ t. IfSome t P) told is

pub told_more : {X : Type 0} (P Q : X → Type 0) (o : Option X) → IfSome o P → ((x : X) → P x → Q x) → IfSome o Q
told_more P Q None is more = tt
told_more P Q (Some x) is more = more x is

-- These records were read off the front of the bytes.
pub record HasRead (way : Order) (bytes : List ℕ) (frames : List (List ℕ)) (left : Option (List ℕ)) : Type 0 where
  pub rest : List ℕ
  pub told : left ≡ Some rest
  pub body : (more : List (List ℕ)) (ending : Result Next PcapFault) → IsBody way (length frames) rest more ending → IsBody way 0 bytes (frames ++ more) ending

pub read_none : (way : Order) (bytes : List ℕ) (frames : List (List ℕ)) (left : Option (List ℕ)) → frames ≡ [] → left ≡ Some bytes → HasRead way bytes frames left
read_none way bytes frames left none told = subst (λ fs. HasRead way bytes fs left) (sym none) (record { rest = bytes; told = told; body = λ more ending body. body })

-- one more record
read_one : (way : Order) (bytes : List ℕ) (frames frames' : List (List ℕ)) (frame : List ℕ) (left left' : Option (List ℕ)) → HasRead way bytes frames left
    → IfSome left (λ bs. IsAnswer way (length frames) bs (Ok next.Packet) frame left') → frames' ≡ frames ++ frame ∷ [] → HasRead way bytes frames' left'
read_one way bytes frames frames' frame left left' h answer grown =
    let a = at_told (λ bs. IsAnswer way (length frames) bs (Ok next.Packet) frame left') left h.rest h.told answer in
    let more : length (frames ++ frame ∷ []) ≡ length frames + 1 = omega (arith, length-append frames (frame ∷ [])) in
    subst (λ fs. HasRead way bytes fs left') (sym grown) (record {
      rest = a.0;
      told = a.1;
      body = λ others ending body.
          subst (λ fs. IsBody way 0 bytes fs ending) (sym (append_assoc frames (frame ∷ []) others))
          (h.body (frame ∷ others) ending (a.0, a.2, subst (λ n. IsBody way n a.0 others ending) more body));
    })

-- ---- one call of the reader

abbrev pub after : ReaderState → ReaderState → Result Next PcapFault → ReaderState
after reader reader' answer = record reader { held = reader'.held; given = given_after reader.given answer; state = state_after answer }

pub reading : (st : State) (X Y : Type 0) → st ≡ state.Reading → IfReading st X Y → X
reading st X Y is by = subst (λ s. IfReading s X Y) is by

pub after_packet : (reader reader' : ReaderState) (answer : Next) (B : Type 0) → reader.state ≡ state.Reading → answer ≡ next.Packet
    → IfReading reader.state (reader' ≡ after reader reader' (Ok answer)) B → (reader'.state ≡ state.Reading) × (reader'.order ≡ reader.order) × (reader'.given ≡ reader.given + 1)
after_packet reader reader' answer B is packet by =
    let now : reader' ≡ after reader reader' (Ok next.Packet) = subst (λ a. reader' ≡ after reader reader' (Ok a)) packet (reading reader.state (reader' ≡ after reader reader' (Ok answer)) B is by) in
    (ap (λ r. r.state) now, ap (λ r. r.order) now, ap (λ r. r.given) now)

pub after_fault : (reader reader' : ReaderState) (wrong : PcapFault) (B : Type 0) → reader.state ≡ state.Reading
    → IfReading reader.state (reader' ≡ after reader reader' (Err wrong)) B → reader'.given ≡ reader.given
after_fault reader reader' wrong B is by = ap (λ r. r.given) (reading reader.state (reader' ≡ after reader reader' (Err wrong)) B is by)

-- what it answered of what was left
pub answered : (way : Order) (given : ℕ) (reader : ReaderState) (answer ending : Result Next PcapFault) (left left' : Option (List ℕ)) (frame : List ℕ) (A : Type 0) → reader.state ≡ state.Reading
    → reader.order ≡ way → reader.given ≡ given → answer ≡ ending → IfReading reader.state (IfSome (left_for reader.held left) (λ bs. IsAnswer reader.order reader.given bs answer frame left')) A
    → IfSome (left_for reader.held left) (λ bs. IsAnswer way given bs ending frame left')
answered way given reader answer ending left left' frame A reading order count is by =
    let told = left_for reader.held left in
    let first : IfSome told (λ bs. IsAnswer reader.order reader.given bs answer frame left') =
    subst (λ (s : State). IfReading s (IfSome told (λ bs. IsAnswer reader.order reader.given bs answer frame left')) A) reading by in
    let second : IfSome told (λ bs. IsAnswer way reader.given bs answer frame left') = subst (λ (w : Order). IfSome told (λ bs. IsAnswer w reader.given bs answer frame left')) order first in
    let third : IfSome told (λ bs. IsAnswer way given bs answer frame left') = subst (λ (n : ℕ). IfSome told (λ bs. IsAnswer way n bs answer frame left')) count second in
    subst (λ (r : Result Next PcapFault). IfSome told (λ bs. IsAnswer way given bs r frame left')) is third

pub next_read : (way : Order) (bytes : List ℕ) (reader : ReaderState) (held' : List ℕ) (answer : Next) (left left' : Option (List ℕ)) (frames frames' : List (List ℕ)) (frame : List ℕ) (A : Type 0)
    → reader.state ≡ state.Reading → reader.order ≡ way → reader.given ≡ length frames → answer ≡ next.Packet
    → IfReading reader.state (IfSome (left_for reader.held left) (λ bs. IsAnswer reader.order reader.given bs (Ok answer) frame (left_for held' left'))) A
    → frames' ≡ frames ++ frame ∷ [] → HasRead way bytes frames (left_for reader.held left) → HasRead way bytes frames' (left_for held' left')
next_read way bytes reader held' answer left left' frames frames' frame A reading order count is by grown h =
    read_one way bytes frames frames' frame (left_for reader.held left) (left_for held' left') h
    (answered way (length frames) reader (Ok answer) (Ok next.Packet) left (left_for held' left') frame A reading order count (ap Ok is) by) grown

-- the records to the rest
rest_body : (way : Order) (bytes : List ℕ) (frames : List (List ℕ)) (left : Option (List ℕ)) (ending : Result Next PcapFault)
    → HasRead way bytes frames left → IfSome left (λ bs. IsRest way (length frames) bs ending) → IsBody way 0 bytes frames ending
rest_body way bytes frames left ending h rest =
    subst (λ fs. IsBody way 0 bytes fs ending) (append-nil frames) (h.body [] ending (at_told (λ bs. IsRest way (length frames) bs ending) left h.rest h.told rest))

pub ends_read : (way : Order) (bytes : List ℕ) (reader : ReaderState) (answer : Next) (left left' : Option (List ℕ)) (frames : List (List ℕ)) (frame : List ℕ) (A : Type 0)
    → reader.state ≡ state.Reading → reader.order ≡ way → reader.given ≡ length frames → answer ≡ next.End
    → IfReading reader.state (IfSome (left_for reader.held left) (λ bs. IsAnswer reader.order reader.given bs (Ok answer) frame left')) A
    → HasRead way bytes frames (left_for reader.held left) → ReadsBody way bytes (Ok (record { frames = frames; cut = 0 }))
ends_read way bytes reader answer left left' frames frame A reading order count is by h = (
  next.End,
  rest_body way bytes frames (left_for reader.held left) (Ok next.End) h
      (answered way (length frames) reader (Ok answer) (Ok next.End) left left' frame A reading order count (ap Ok is) by),
  refl,
)

pub cuts_read : (way : Order) (bytes : List ℕ) (reader : ReaderState) (answer : Next) (cut : ℕ) (left left' : Option (List ℕ)) (frames : List (List ℕ)) (frame : List ℕ) (A : Type 0)
    → reader.state ≡ state.Reading → reader.order ≡ way → reader.given ≡ length frames → answer ≡ next.Cut cut
    → IfReading reader.state (IfSome (left_for reader.held left) (λ bs. IsAnswer reader.order reader.given bs (Ok answer) frame left')) A
    → HasRead way bytes frames (left_for reader.held left) → ReadsBody way bytes (Ok (record { frames = frames; cut = cut }))
cuts_read way bytes reader answer cut left left' frames frame A reading order count is by h = (
  next.Cut cut,
  rest_body way bytes frames (left_for reader.held left) (Ok (next.Cut cut)) h
      (answered way (length frames) reader (Ok answer) (Ok (next.Cut cut)) left left' frame A reading order count (ap Ok is) by),
  refl,
)

-- ---- a fault

-- what holds of each fault but a failed read and want of memory
by_fault : (P : BadRecord → Type 0) (at : ℕ) (wrong : PcapFault) (fact : Type 0) → (fact → P (Capture at (fault_number wrong)))
    → P ReadFault → P NoMemory → UnlessFailed wrong fact → P (bad_at at wrong)
by_fault P at fault.ReadFault fact bad failed none is = failed
by_fault P at fault.BadMagic fact bad failed none is = bad is
by_fault P at fault.BadVersion fact bad failed none is = bad is
by_fault P at fault.BadLink fact bad failed none is = bad is
by_fault P at fault.Short fact bad failed none is = bad is
by_fault P at fault.TooLong fact bad failed none is = bad is
by_fault P at fault.TooManyRecords fact bad failed none is = bad is
by_fault P at (fault.Spoilt first) fact bad failed none is = bad is
by_fault P at fault.NoMemory fact bad failed none is = none

-- of a record
pub stops_read : (way : Order) (bytes : List ℕ) (reader : ReaderState) (wrong : PcapFault) (at : ℕ) (end : BadRecord) (left left' : Option (List ℕ)) (frames : List (List ℕ)) (frame : List ℕ)
    (A : Type 0)
    → reader.state ≡ state.Reading → reader.order ≡ way → reader.given ≡ length frames → at ≡ length frames + 1 → end ≡ bad_at at wrong
    → IfReading reader.state (IfSome (left_for reader.held left) (λ bs. IsAnswer reader.order reader.given bs (Err wrong) frame left')) A
    → HasRead way bytes frames (left_for reader.held left) → ReadsBody way bytes (Err end)
stops_read way bytes reader wrong at end left left' frames frame A reading order count place is by h =
    let told = left_for reader.held left in
    let rest = at_told (λ bs. UnlessFailed wrong (IsRest way (length frames) bs (Err wrong))) told h.rest h.told
    (answered way (length frames) reader (Err wrong) (Err wrong) left left' frame A reading order count refl by) in
    subst (λ e. ReadsBody way bytes (Err e)) (sym is)
    (by_fault (λ e. ReadsBody way bytes (Err e)) at wrong (IsRest way (length frames) h.rest (Err wrong))
    (λ bad. (frames, wrong, subst (λ fs. IsBody way 0 bytes fs (Err wrong)) (append-nil frames) (h.body [] (Err wrong) bad), place, refl))
    tt tt rest)

-- of the header
pub header_stops : (file : List ℕ) (wrong : PcapFault) (end : BadRecord) → end ≡ bad_at 0 wrong → UnlessFailed wrong (header_of file ≡ Err wrong) → ReadsFile file (Err end)
header_stops file wrong end is refused =
    subst (λ e. ReadsFile file (Err e)) (sym is)
    (by_fault (λ e. ReadsFile file (Err e)) 0 wrong (header_of file ≡ Err wrong) (λ bad. (wrong, refl, inl (refl, bad))) tt tt refused)

-- ---- the whole file

pub file_read : (file : List ℕ) (way : Order) (result : Result Captured BadRecord) → header_of file ≡ Ok way → ReadsBody way (drop 24 file) result → ReadsFile file result
file_read file way (Ok capture) header body = (way, body.0, record { header = header; body = body.1 }, body.2)
file_read file way (Err (Capture at reason)) header body = (body.1, body.4, inr (way, body.0, body.3, record { header = header; body = body.2 }))
file_read file way (Err ReadFault) header body = tt
file_read file way (Err NoMemory) header body = tt

-- its header was read, and then the records behind it
pub file_from : (left : Option (List ℕ)) (way : Order) (held : List ℕ) (left' : Option (List ℕ)) (result : Result Captured BadRecord)
    → IfSome left (λ file. (header_of file ≡ Ok way) × (left_for held left' ≡ Some (drop 24 file)))
    → IfSome (left_for held left') (λ bytes. ReadsBody way bytes result) → IfSome left (λ file. ReadsFile file result)
file_from left way held left' result header body =
    told_more (λ file. (header_of file ≡ Ok way) × (left_for held left' ≡ Some (drop 24 file))) (λ file. ReadsFile file result) left header
    (λ file is. file_read file way result is.0 (at_told (λ bytes. ReadsBody way bytes result) (left_for held left') (drop 24 file) is.1 body))
