-- Records that are read one after another and joined.
use Rattle.std.proofs.Common.{◌≡◌, ◌≤◌, ◌+◌, ℕ, List, [], ◌∷◌, ◌++◌, length, drop, Option, Some, None, Result, Ok, Err, refl, sym, ap, subst, ◌∙◌, IfSome, arith, append_assoc, inl, inr}
use Rattle.std.proofs.lemmas.List.{append-nil, length-append}
use Rattle.std.specs.List.{flat_map}
use Rattle.spin_pcap.specs.declared.fault.PcapFault.{PcapFault}
use Rattle.spin_pcap.specs.declared.fault.PcapFault.TheVariants as fault
use Rattle.spin_pcap.specs.declared.next.Next.{Next}
use Rattle.spin_pcap.specs.declared.next.Next.TheVariants as next
use Rattle.spin_pcap.specs.declared.limits.TheConstants.{MAX_CAPTURED}
use Rattle.spin_pcap.specs.declared.order.Order.{Order}
use Rattle.spin_pcap.specs.declared.state.State.TheVariants as state
use Rattle.spin_pcap.specs.Captures.{header_of, IsRest, IsBody}
use Rattle.spin_pcap.specs.Passing.{ReaderState, left_for, fault_number, IsAnswer, IsGone, IfReading, UnlessFailed}
use Rattle.spin_pcap.specs.declared.fault.BadRecord.{BadRecord}
use Rattle.spin_pcap.specs.declared.fault.BadRecord.TheVariants as stop
use Rattle.spin_pcap.specs.Whole.{bad_at}
use Rattle.spin_pcap.proofs.CaptureRecords.{at_told, reading}
use Rattle.spin_reass.specs.Joining.{OpenDatagram, joined, joined_frames}
use Rattle.spin_reass.specs.JoinedCaptures.{file_header, record_of, rest_of, IsJoined}
use Rattle.spin_reass.specs.Inner.Reading.{JoinsBody}

-- what holds of what is told
pub told_each : {X : Type 0} (P : X → Type 0) (o : Option X) → ((x : X) → o ≡ Some x → P x) → IfSome o P
told_each P None h = tt
told_each P (Some x) h = h x refl

pub flat_push : (f : List ℕ → List ℕ) (xs : List (List ℕ)) (y : List ℕ) → flat_map f (xs ++ y ∷ []) ≡ flat_map f xs ++ f y
flat_push f [] y = append-nil (f y)
flat_push f (x ∷ xs) y = ap (λ z. f x ++ z) (flat_push f xs y) ∙ sym (append_assoc (f x) (flat_map f xs) (f y))

-- how far joining has come: how many records were given, which datagrams are open, and what is written
pub record SoFar : Type 0 where
  pub given : ℕ
  pub datagrams : List OpenDatagram
  pub out : List ℕ

-- One frame more was given, and what takes its place is written as a record.
pub record JoinsFrame (frame : List ℕ) (now next : SoFar) : Type 0 where
  pub given : next.given ≡ now.given + 1
  pub datagrams : next.datagrams ≡ (joined now.datagrams frame).0
  pub out : next.out ≡ now.out ++ record_of (joined now.datagrams frame).1

-- These records were read off the front of the bytes, and these frames took their places.
pub record HasJoined (way : Order) (bytes before : List ℕ) (now : SoFar) (left : Option (List ℕ)) : Type 0 where
  pub taken : List (List ℕ)
  pub done : List (List ℕ)
  pub rest : List ℕ
  pub count : now.given ≡ length taken
  pub told : left ≡ Some rest
  pub body : (frames : List (List ℕ)) (ending : Result Next PcapFault) → IsBody way now.given rest frames ending → IsBody way 0 bytes (taken ++ frames) ending
  pub frames : (more : List (List ℕ)) → joined_frames [] (taken ++ more) ≡ done ++ joined_frames now.datagrams more
  pub is : now.out ≡ before ++ flat_map record_of done

pub joined_none : (way : Order) (bytes before : List ℕ) (given : ℕ) (left : Option (List ℕ)) (datagrams : List OpenDatagram)
    → given ≡ 0 → datagrams ≡ [] → left ≡ Some bytes → HasJoined way bytes before (record { given = given; datagrams = datagrams; out = before }) left
joined_none way bytes before given left datagrams zero_given none told = record {
  taken = [];
  done = [];
  rest = bytes;
  count = zero_given;
  told = told;
  body = λ frames ending b. subst (λ (n : ℕ). IsBody way n bytes frames ending) zero_given b;
  frames = λ more. ap (λ ds. joined_frames ds more) (sym none);
  is = sym (append-nil before);
}

-- the frames in the places of one more
pub frames_one : (taken done : List (List ℕ)) (datagrams datagrams' : List OpenDatagram) (frame : List ℕ)
    → ((more : List (List ℕ)) → joined_frames [] (taken ++ more) ≡ done ++ joined_frames datagrams more) → datagrams' ≡ (joined datagrams frame).0
    → (more : List (List ℕ)) → joined_frames [] ((taken ++ frame ∷ []) ++ more) ≡ (done ++ (joined datagrams frame).1 ∷ []) ++ joined_frames datagrams' more
frames_one taken done datagrams datagrams' frame before d more =
    let one : List ℕ = (joined datagrams frame).1 in
    ap (λ fs. joined_frames [] fs) (append_assoc taken (frame ∷ []) more)
    ∙ before (frame ∷ more)
    ∙ ap (λ ds. done ++ (one ∷ joined_frames ds more)) (sym d)
    ∙ sym (append_assoc done (one ∷ []) (joined_frames datagrams' more))

-- what is written with one more
pub written_one : (before out out' : List ℕ) (done : List (List ℕ)) (one : List ℕ) → out ≡ before ++ flat_map record_of done → out' ≡ out ++ record_of one
    → out' ≡ before ++ flat_map record_of (done ++ one ∷ [])
written_one before out out' done one is o =
    o ∙ ap (λ z. z ++ record_of one) is ∙ append_assoc before (flat_map record_of done) (record_of one) ∙ ap (λ z. before ++ z) (sym (flat_push record_of done one))

pub joined_one : (way : Order) (bytes before frame : List ℕ) (now later : SoFar) (left left' : Option (List ℕ))
    → HasJoined way bytes before now left → IfSome left (λ bs. IsAnswer way now.given bs (Ok next.Packet) frame left') → JoinsFrame frame now later → HasJoined way bytes before later left'
joined_one way bytes before frame now later left left' h answer j =
    let a = at_told (λ bs. IsAnswer way now.given bs (Ok next.Packet) frame left') left h.rest h.told answer in
    record {
      taken = h.taken ++ frame ∷ [];
      done = h.done ++ (joined now.datagrams frame).1 ∷ [];
      rest = a.0;
      count = (let n = h.count in let g = j.given in omega (arith, length-append h.taken (frame ∷ [])));
      told = a.1;
      body = λ frames ending b.
          subst (λ (fs : List (List ℕ)). IsBody way 0 bytes fs ending) (sym (append_assoc h.taken (frame ∷ []) frames))
          (h.body (frame ∷ frames) ending (a.0, a.2, subst (λ (n : ℕ). IsBody way n a.0 frames ending) j.given b));
      frames = frames_one h.taken h.done now.datagrams later.datagrams frame h.frames j.datagrams;
      is = written_one before now.out later.out h.done (joined now.datagrams frame).1 h.is j.out;
    }

-- the records to the rest
pub joins_all : (way : Order) (bytes before : List ℕ) (now : SoFar) (left : Option (List ℕ)) (ending : Next)
    → HasJoined way bytes before now left → IfSome left (λ bs. IsRest way now.given bs (Ok ending)) → JoinsBody way bytes before now.out (Ok ending)
joins_all way bytes before now left ending h answer =
    let r : IsRest way now.given h.rest (Ok ending) = at_told (λ bs. IsRest way now.given bs (Ok ending)) left h.rest h.told answer in
    let all : joined_frames [] h.taken ≡ h.done = ap (λ fs. joined_frames [] fs) (sym (append-nil h.taken)) ∙ h.frames [] ∙ append-nil h.done in
    (h.taken, subst (λ (fs : List (List ℕ)). IsBody way 0 bytes fs (Ok ending)) (append-nil h.taken) (h.body [] (Ok ending) r), h.is ∙ ap (λ fs. before ++ flat_map record_of fs) (sym all))

refused : (way : Order) (bytes before : List ℕ) (now : SoFar) (left : Option (List ℕ)) (wrong : PcapFault)
    → HasJoined way bytes before now left → IfSome left (λ bs. IsRest way now.given bs (Err wrong))
    → (frames : List (List ℕ)) × (w : PcapFault) × IsBody way 0 bytes frames (Err w) × (now.given + 1 ≡ length frames + 1) × (fault_number wrong ≡ fault_number w)
refused way bytes before now left wrong h answer =
    let r : IsRest way now.given h.rest (Err wrong) = at_told (λ bs. IsRest way now.given bs (Err wrong)) left h.rest h.told answer in
    (h.taken, wrong, subst (λ (fs : List (List ℕ)). IsBody way 0 bytes fs (Err wrong)) (append-nil h.taken) (h.body [] (Err wrong) r), (let c = h.count in omega arith), refl)

stops : (way : Order) (bytes before : List ℕ) (now : SoFar) (left : Option (List ℕ)) (wrong : PcapFault)
    → HasJoined way bytes before now left → IfSome left (λ bs. UnlessFailed wrong (IsRest way now.given bs (Err wrong)))
    → JoinsBody way bytes before now.out (Err (bad_at (now.given + 1) wrong))
stops way bytes before now left fault.ReadFault h a = tt
stops way bytes before now left fault.BadMagic h a = refused way bytes before now left fault.BadMagic h a
stops way bytes before now left fault.BadVersion h a = refused way bytes before now left fault.BadVersion h a
stops way bytes before now left fault.BadLink h a = refused way bytes before now left fault.BadLink h a
stops way bytes before now left fault.Short h a = refused way bytes before now left fault.Short h a
stops way bytes before now left fault.TooLong h a = refused way bytes before now left fault.TooLong h a
stops way bytes before now left fault.TooManyRecords h a = refused way bytes before now left fault.TooManyRecords h a
stops way bytes before now left (fault.Spoilt first) h a = refused way bytes before now left (fault.Spoilt first) h a
stops way bytes before now left fault.NoMemory h a = tt

-- the records to one that is refused
pub joins_stop : (way : Order) (bytes before : List ℕ) (now : SoFar) (left : Option (List ℕ)) (wrong : PcapFault) (answer : BadRecord)
    → HasJoined way bytes before now left → answer ≡ bad_at (now.given + 1) wrong
    → IfSome left (λ bs. UnlessFailed wrong (IsRest way now.given bs (Err wrong))) → JoinsBody way bytes before now.out (Err answer)
joins_stop way bytes before now left wrong answer h e a =
    subst (λ (f : BadRecord). JoinsBody way bytes before now.out (Err f)) (sym e) (stops way bytes before now left wrong h a)

-- a fault of the header
pub header_stop : (file : List ℕ) (wrong : PcapFault) (answer : BadRecord) → answer ≡ bad_at 0 wrong → UnlessFailed wrong (header_of file ≡ Err wrong) → IsJoined file (Err answer)
header_stop file wrong answer e h = subst (λ (f : BadRecord). IsJoined file (Err f)) (sym e) (by wrong h) where
  by : (wrong : PcapFault) → UnlessFailed wrong (header_of file ≡ Err wrong) → IsJoined file (Err (bad_at 0 wrong))
  by fault.ReadFault h = tt
  by fault.BadMagic h = (fault.BadMagic, refl, inl (refl, h))
  by fault.BadVersion h = (fault.BadVersion, refl, inl (refl, h))
  by fault.BadLink h = (fault.BadLink, refl, inl (refl, h))
  by fault.Short h = (fault.Short, refl, inl (refl, h))
  by fault.TooLong h = (fault.TooLong, refl, inl (refl, h))
  by fault.TooManyRecords h = (fault.TooManyRecords, refl, inl (refl, h))
  by (fault.Spoilt first) h = (fault.Spoilt first, refl, inl (refl, h))
  by fault.NoMemory h = tt

-- the whole capture
pub capture_joined : (file : List ℕ) (way : Order) (ending : Next) (header out bytes : List ℕ) → header_of file ≡ Ok way
    → header ≡ file_header → JoinsBody way (drop 24 file) header out (Ok ending) → bytes ≡ out ++ rest_of ending → IsJoined file (Ok bytes)
capture_joined file way ending header out bytes h is b e =
    (way, b.0, ending, record { header = h; body = b.1 }, e ∙ ap (λ z. z ++ rest_of ending) (b.2 ∙ ap (λ z. z ++ flat_map record_of (joined_frames [] b.0)) is))

pub capture_stopped : (file : List ℕ) (way : Order) (header out : List ℕ) (answer : BadRecord)
    → header_of file ≡ Ok way → JoinsBody way (drop 24 file) header out (Err answer) → IsJoined file (Err answer)
capture_stopped file way header out (stop.Capture at reason) h b =
    (b.1, b.4, inr (way, b.0, b.3, record { header = h; body = b.2 }))
capture_stopped file way header out stop.ReadFault h b = tt
capture_stopped file way header out stop.NoMemory h b = tt

-- ---- one call of the reader

-- the bytes of a record are few
pub packet_few : (way : Order) (answer : Next) (gone frame : List ℕ) → answer ≡ next.Packet → IsGone way (Ok answer) gone frame → length frame ≤ MAX_CAPTURED
packet_few way answer gone frame e h = (subst (λ (x : Next). IsGone way (Ok x) gone frame) e h).1

-- what the reader answered, by the order and the answer that were found
pub rest_given : (way : Order) (reader : ReaderState) (answer ending : Result Next PcapFault) (left left'' : Option (List ℕ)) (frame : List ℕ) (A : Type 0) → reader.state ≡ state.Reading
    → reader.order ≡ way → answer ≡ ending → IfReading reader.state (IfSome (left_for reader.held left) (λ bs. IsAnswer reader.order reader.given bs answer frame left'')) A
    → IfSome (left_for reader.held left) (λ bs. IsAnswer way reader.given bs ending frame left'')
rest_given way reader answer ending left left'' frame A r w e a =
    let told = left_for reader.held left in
    let given : IfSome told (λ bs. IsAnswer reader.order reader.given bs answer frame left'') =
    reading reader.state (IfSome told (λ bs. IsAnswer reader.order reader.given bs answer frame left'')) A r a in
    subst (λ (x : Order). IfSome told (λ bs. IsAnswer x reader.given bs ending frame left'')) w
    (subst (λ (x : Result Next PcapFault). IfSome told (λ bs. IsAnswer reader.order reader.given bs x frame left'')) e given)
