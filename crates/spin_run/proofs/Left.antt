-- What one call of a reader gives, of the records that are left.
use Rattle.std.proofs.Common.{◌≡◌, ◌<◌, ◌≤◌, ◌+◌, ℕ, List, [], ◌∷◌, Option, Some, None, Result, Ok, Err, ◌++◌, refl, sym, ap, subst, ◌∙◌, IfSome, length, arith}
use Rattle.std.proofs.lemmas.List.Sums.{sum_by-cons}
use Rattle.std.specs.Prelude.{⊤}
use Rattle.std.specs.Io.KnownBytes.{Consumes}
use Rattle.spin_outside.specs.Sources.{SourceSeen}
use Rattle.spin_pcap.specs.declared.fault.PcapFault.{PcapFault}
use Rattle.spin_pcap.specs.declared.fault.PcapFault.TheVariants as fault
use Rattle.spin_pcap.specs.declared.limits.TheConstants.{MAX_HELD, MAX_RECORDS, MAX_CAPTURED}
use Rattle.spin_pcap.specs.declared.next.Next.{Next}
use Rattle.spin_pcap.specs.declared.next.Next.TheVariants as next
use Rattle.spin_pcap.specs.declared.order.Order.{Order}
use Rattle.spin_pcap.specs.declared.state.State.{State}
use Rattle.spin_pcap.specs.declared.state.State.TheVariants as state
use Rattle.spin_pcap.specs.Captures.{IsRecord, IsRest, IsBody}
use Rattle.spin_pcap.specs.Passing.{ReaderState, Passes, left_for, fault_number, IsAnswer, IsCutShort, IsGone, IsRefusal, IsWithinRecord, Repeats, IfReading, given_after, state_after}
use Rattle.spin_pcap.proofs.Making.{some_record, some_cut, some_long, some_more}
use Rattle.spin_pcap.proofs.CaptureUniqueness.{part_fits}
use Rattle.spin_pcap.proofs.CaptureTotality.{each_has_body}
use Rattle.spin_run.specs.declared.end.RunEnd.{RunEnd}
use Rattle.spin_run.specs.declared.end.RunEnd.TheVariants as end
use Rattle.spin_run.specs.Records.{AreBytesLeft, AreLeftBy, AreRecords, HasRecords, bytes_in, room_of}
use Rattle.spin_run.specs.Inner.Reading.{Reads, IsGoing, stop_of, IsOver, HasTaken, TakesFirst, GivesNext}

-- ---- bytes that a source tells, or else some

-- what holds of what is told
pub at_told : {X : Type 0} (P : X → Type 0) (o : Option X) (x : X) → o ≡ Some x → IfSome o P → P x
at_told P o x e h = subst (λ t. IfSome t P) e h

where_told : {X : Type 0} (P Q : X → Type 0) (o : Option X) → ((x : X) → P x → Q x) → IfSome o P → IfSome o Q
where_told P Q None f h = tt
where_told P Q (Some x) f h = f x h

-- P holds of what is told, and else of something
told_or : (P : List ℕ → Type 0) (told : Option (List ℕ)) → IfSome told P → (x : List ℕ) → P x → (bytes : List ℕ) × IfSome told (λ t. t ≡ bytes) × P bytes
told_or P None h x p = (x, tt, p)
told_or P (Some t) h x p = (t, refl, h)

abbrev reader_of : Order → List ℕ → ℕ → State → ReaderState
reader_of order held given st = record { order = order; held = held; given = given; state = st }

-- the reader after an answer
abbrev after_of : Order → ℕ → ReaderState → Result Next PcapFault → ReaderState
after_of order given reader' answer = reader_of order reader'.held (given_after given answer) (state_after answer)

abbrev reading : Order → List ℕ → ℕ → Option ReaderState
reading order held given = Some (reader_of order held given state.Reading)

-- records and a rest that stand in the bytes that are told, or else in these
left_in : (order : Order) (held : List ℕ) (given : ℕ) (s : SourceSeen) (frames : List (List ℕ)) (ending : Result Next PcapFault)
    → IfSome (left_for held s.left) (λ bytes. IsBody order given bytes frames ending) → (x : List ℕ) → IsBody order given x frames ending → AreRecords (reading order held given) s frames (Some ending)
left_in order held given s frames ending h x body =
    let some = told_or (λ bytes. IsBody order given bytes frames ending) (left_for held s.left) h x body in
    (ending, refl, record { bytes = some.0; told = some.1; body = some.2 })

-- ---- a record

first_in : (order : Order) (given : ℕ) (bytes frame : List ℕ) (left : List (List ℕ)) (ending : Result Next PcapFault) (behind : List ℕ) (left' : Option (List ℕ))
    → IfSome left' (λ t. t ≡ behind) → IsBody order (given + 1) behind left ending → IsAnswer order given bytes (Ok next.Packet) frame left' → IsBody order given bytes (frame ∷ left) ending
first_in order given bytes frame left ending behind left' told body a =
    let same : a.0 ≡ behind = at_told (λ t. t ≡ behind) left' a.0 a.1 told in
    (behind, subst (λ (y : List ℕ). IsRecord order given bytes frame y) same a.2, body)

packet_left : (order : Order) (held : List ℕ) (given : ℕ) (reader' : ReaderState) (s s' : SourceSeen) (frame : List ℕ) → reader' ≡ after_of order given reader' (Ok next.Packet)
    → IfSome (left_for held s.left) (λ bytes. IsAnswer order given bytes (Ok next.Packet) frame (left_for reader'.held s'.left)) → given < MAX_RECORDS → length frame ≤ MAX_CAPTURED
    → (left : List (List ℕ)) (rest : Option (Result Next PcapFault)) → AreRecords (Some reader') s' left rest → AreRecords (reading order held given) s (frame ∷ left) rest
packet_left order held given reader' s s' frame is h few small left rest r =
    let now : AreRecords (Some (after_of order given reader' (Ok next.Packet))) s' left rest = subst (λ (x : ReaderState). AreRecords (Some x) s' left rest) is r in
    let b : AreBytesLeft (after_of order given reader' (Ok next.Packet)) s'.left left now.0 = now.2 in
    let made = some_record order given frame b.bytes few small in
    subst (λ (x : Option (Result Next PcapFault)). AreRecords (reading order held given) s (frame ∷ left) x) (sym now.1)
    (left_in order held given s (frame ∷ left) now.0
    (where_told (λ bytes. IsAnswer order given bytes (Ok next.Packet) frame (left_for reader'.held s'.left)) (λ bytes. IsBody order given bytes (frame ∷ left) now.0)
    (left_for held s.left) (λ bytes a. first_in order given bytes frame left now.0 b.bytes (left_for reader'.held s'.left) b.told b.body a) h)
    made.0 (b.bytes, made.1, b.body))

-- ---- an end

over_given : (before reader' reader'' : ReaderState) (s s' : SourceSeen) (answer : Next) → reader' ≡ reader'' → reader''.given ≡ before.given
    → ((left : List (List ℕ)) (ending : Result Next PcapFault) → AreLeftBy reader''.state reader'' s'.left left ending → (left ≡ []) × (ending ≡ Ok answer))
    → (IsGoing (Some reader'') → ⊥) → AreRecords (Some before) s [] (Some (Ok answer))
    → Reads (Some before) s (Some reader') s' (Ok answer) (λ frames left rest. IsOver (Some before) (Some reader') frames left rest (Some (Ok answer)))
over_given before reader' reader'' s s' answer is same none over known left rest r =
    let now : AreRecords (Some reader'') s' left rest = subst (λ (x : ReaderState). AreRecords (Some x) s' left rest) is r in
    let e = none left now.0 now.2 in
    let rest_is : rest ≡ Some (Ok answer) = now.1 ∙ ap Some e.1 in (
      [],
      subst (λ (x : Option (Result Next PcapFault)). AreRecords (Some before) s [] x) (sym rest_is) known,
      record {
        none = refl;
        behind = e.0;
        rest_is = rest_is;
        given = ap (λ (x : ReaderState). x.given) is ∙ same;
        over = λ g. over (subst (λ (x : ReaderState). IsGoing (Some x)) is g);
      },
    )

next_given : (order : Order) (held : List ℕ) (given : ℕ) (st : State) (reader' : ReaderState) (s s' : SourceSeen) (frame gone : List ℕ) (answer : Next) (A : Type 0)
    → Repeats st (Ok answer) → IfReading st (IfSome (left_for held s.left) (λ bytes. IsAnswer order given bytes (Ok answer) frame (left_for reader'.held s'.left))) A
    → IfReading st (reader' ≡ after_of order given reader' (Ok answer)) (reader' ≡ reader_of order held given st)
    → ((answer ≡ next.Packet) → given < MAX_RECORDS) → IfReading st (IsCutShort given (Ok answer)) ⊤ → IsGone order (Ok answer) gone frame
    → Reads (Some (reader_of order held given st)) s (Some reader') s' (Ok answer) (GivesNext (Some (reader_of order held given st)) s (Some reader') s' frame (Ok answer))
next_given order held given state.Reading reader' s s' frame gone next.Packet A again h is few cut small = λ left rest r.
    (frame ∷ left, packet_left order held given reader' s s' frame is h (few refl) small.1 left rest r, (refl, ap (λ (x : ReaderState). x.given) is))
next_given order held given state.Reading reader' s s' frame gone next.End A again h is few cut small =
    over_given (reader_of order held given state.Reading) reader' _ s s' next.End is refl (λ left ending l. l) (λ g. g) (left_in order held given s [] (Ok next.End) h [] refl)
next_given order held given state.Reading reader' s s' frame gone (next.Cut count) A again h is few cut small =
    let made = some_cut order given count cut in
    over_given (reader_of order held given state.Reading) reader' _ s s' (next.Cut count) is refl (λ left ending l. l) (λ g. g) (left_in order held given s [] (Ok (next.Cut count)) h made.0 made.1)
next_given order held given state.End reader' s s' frame gone next.Packet A again h is few cut small = absurd (cc (again))
next_given order held given state.End reader' s s' frame gone next.End A again h is few cut small =
    over_given (reader_of order held given state.End) reader' _ s s' next.End is refl (λ left ending l. l) (λ g. g) (Ok next.End, refl, (refl, refl))
next_given order held given state.End reader' s s' frame gone (next.Cut count) A again h is few cut small = absurd (cc (again))
next_given order held given (state.Cut n) reader' s s' frame gone next.Packet A again h is few cut small = absurd (cc (again))
next_given order held given (state.Cut n) reader' s s' frame gone next.End A again h is few cut small = absurd (cc (again))
next_given order held given (state.Cut n) reader' s s' frame gone (next.Cut count) A again h is few cut small =
    let same : n ≡ count = cc (again) in
    over_given (reader_of order held given (state.Cut n)) reader' _ s s' (next.Cut count) is refl (λ left ending l. (l.0, l.1 ∙ ap (λ (k : ℕ). Ok (next.Cut k)) same)) (λ g. g)
    (Ok (next.Cut count), refl, (refl, ap (λ (k : ℕ). Ok (next.Cut k)) (sym same)))
next_given order held given (state.Spoilt n) reader' s s' frame gone answer A again h is few cut small = absurd (cc (again))

-- ---- a stop

bytes_one : (frame : List ℕ) → bytes_in (frame ∷ []) ≡ 16 + length frame
bytes_one frame = omega (arith, sum_by-cons (λ (f : List ℕ). 16 + length f) frame [])

-- what was taken for a record that wasn't given is a part of it
takes_first : (order : Order) (held held' : List ℕ) (given : ℕ) (s s' : SourceSeen) (gone bytes : List ℕ) (frames : List (List ℕ)) (ending : Result Next PcapFault)
    → IsBody order given bytes frames ending → (more : List ℕ) → bytes ≡ gone ++ more → Passes gone held s held' s' → IsWithinRecord order gone
    → length held ≤ MAX_HELD → length held' ≤ MAX_HELD → TakesFirst (room_of (reading order held given)) s s' frames
takes_first order held held' given s s' gone bytes [] ending body more front p within fits fits' = tt
takes_first order held held' given s s' gone bytes (first ∷ others) ending body more front p within fits fits' =
    let small = part_fits order given gone more first body.0 within (subst (λ (ys : List ℕ). IsRecord order given ys first body.0) front body.1) in record {
      count = p.takes.count;
      few = omega (arith, p.takes.balance, small, fits, fits', bytes_one first);
      taken = p.takes.taken;
    }

abbrev Stopped : Order → List ℕ → ℕ → SourceSeen → SourceSeen → List ℕ → Type 0
Stopped order held given s s' bytes =
    (frames : List (List ℕ)) × (ending : Result Next PcapFault) × IsBody order given bytes frames ending
    × TakesFirst (room_of (reading order held given)) s s' frames

stopped_told : (order : Order) (held held' : List ℕ) (given : ℕ) (s s' : SourceSeen) (gone : List ℕ) (told left' : Option (List ℕ)) → Consumes told left' gone
    → Passes gone held s held' s' → IsWithinRecord order gone → length held ≤ MAX_HELD → length held' ≤ MAX_HELD → IfSome told (Stopped order held given s s')
stopped_told order held held' given s s' gone None left' c p within fits fits' = tt
stopped_told order held held' given s s' gone (Some bytes) None c p within fits fits' = absurd c
stopped_told order held held' given s s' gone (Some bytes) (Some more) c p within fits fits' =
    let body = each_has_body order given bytes in
    (body.0, body.1, body.2, takes_first order held held' given s s' gone bytes body.0 body.1 body.2 more c p within fits fits')

-- whatever is left, where reading it failed
failed_left : (order : Order) (held held' : List ℕ) (given : ℕ) (s s' : SourceSeen) (gone : List ℕ) → Passes gone held s held' s' → IsWithinRecord order gone
    → length held ≤ MAX_HELD → length held' ≤ MAX_HELD → HasRecords (reading order held given) s (λ frames rest. TakesFirst (room_of (reading order held given)) s s' frames)
failed_left order held held' given s s' gone p within fits fits' =
    let some = told_or (Stopped order held given s s') (left_for held s.left)
    (stopped_told order held held' given s s' gone (left_for held s.left) (left_for held' s'.left) p.left p within fits fits') [] ([], Ok next.End, refl, tt) in
    (some.2.0, Some some.2.1, (some.2.1, refl, record { bytes = some.0; told = some.1; body = some.2.2 }), some.2.3)

abbrev StopsNext : Option ReaderState → SourceSeen → Option ReaderState → SourceSeen → List ℕ → RunEnd → Type 0
StopsNext before s after s' frame stop = Reads {T = Next} before s after s' (Err stop) (GivesNext before s after s' frame (Err stop))

refused_left : (order : Order) (held : List ℕ) (given : ℕ) (reader' : ReaderState) (wrong : PcapFault) (s s' : SourceSeen) (after : Option ReaderState) (frame : List ℕ)
    → reader' ≡ after_of order given reader' (Err wrong) → IfSome (left_for held s.left) (λ bytes. IsRest order given bytes (Err wrong)) → (x : List ℕ)
    → IsRest order given x (Err wrong) → StopsNext (reading order held given) s after s' frame (end.Capture (reader'.given + 1) (fault_number wrong))
refused_left order held given reader' wrong s s' after frame is h x rest =
    ([], Some (Err wrong), left_in order held given s [] (Err wrong) h x rest, ((refl, (wrong, refl, refl, omega (arith, ap (λ (y : ReaderState). y.given) is), tt)), tt))

-- it refused before
refused_again : (order : Order) (held : List ℕ) (given n : ℕ) (reader' : ReaderState) (s s' : SourceSeen) (after : Option ReaderState) (frame : List ℕ)
    → reader' ≡ reader_of order held given (state.Spoilt n) → StopsNext (Some (reader_of order held given (state.Spoilt n))) s after s' frame (end.Capture (reader'.given + 1) 8)
refused_again order held given n reader' s s' after frame is =
    ([], Some (Err (fault.Spoilt n)), (Err (fault.Spoilt n), refl, (refl, refl)), ((refl, (fault.Spoilt n, refl, refl, omega (arith, ap (λ (y : ReaderState). y.given) is), tt)), tt))

-- how a call of a reader stopped
pub record HasStopped (reader reader' : ReaderState) (s s' : SourceSeen) (frame : List ℕ) (wrong : PcapFault) (A : Type 0) : Type 0 where
  pub gone : List ℕ
  pub left : Option (List ℕ)
  pub again : Repeats reader.state (Err wrong)
  pub answer : IfReading reader.state (IfSome (left_for reader.held s.left) (λ bytes. IsAnswer reader.order reader.given bytes (Err wrong) frame left)) A
  pub reader_is : IfReading reader.state (reader' ≡ after_of reader.order reader.given reader' (Err wrong)) (reader' ≡ reader)
  pub refusal : IfReading reader.state (IsRefusal reader.given (Err wrong)) ⊤
  pub passed : Passes gone reader.held s reader'.held s'
  pub within : IsWithinRecord reader.order gone
  pub fits : length reader.held ≤ MAX_HELD
  pub fits' : length reader'.held ≤ MAX_HELD

stop_given : (order : Order) (held : List ℕ) (given : ℕ) (st : State) (s : SourceSeen) (after : Option ReaderState) (reader' : ReaderState) (s' : SourceSeen) (frame : List ℕ)
    (wrong : PcapFault) (A : Type 0) → HasStopped (reader_of order held given st) reader' s s' frame wrong A → StopsNext (Some (reader_of order held given st)) s after s' frame (stop_of (reader'.given + 1) wrong)
stop_given order held given state.Reading s after reader' s' frame fault.ReadFault A h =
    let some = failed_left order held reader'.held given s s' h.gone h.passed h.within h.fits h.fits' in
    (some.0, some.1, some.2, (tt, some.3))
stop_given order held given state.Reading s after reader' s' frame fault.NoMemory A h =
    let some = failed_left order held reader'.held given s s' h.gone h.passed h.within h.fits h.fits' in
    (some.0, some.1, some.2, (tt, some.3))
stop_given order held given state.Reading s after reader' s' frame fault.BadMagic A h = absurd h.refusal
stop_given order held given state.Reading s after reader' s' frame fault.BadVersion A h = absurd h.refusal
stop_given order held given state.Reading s after reader' s' frame fault.BadLink A h = absurd h.refusal
stop_given order held given state.Reading s after reader' s' frame fault.Short A h = absurd h.refusal
stop_given order held given state.Reading s after reader' s' frame fault.TooLong A h =
    let made = some_long order given h.refusal in
    refused_left order held given reader' fault.TooLong s s' after frame h.reader_is h.answer made.0 made.1
stop_given order held given state.Reading s after reader' s' frame fault.TooManyRecords A h =
    let made = some_more order given h.refusal in
    refused_left order held given reader' fault.TooManyRecords s s' after frame h.reader_is h.answer made.0 made.1
stop_given order held given state.Reading s after reader' s' frame (fault.Spoilt n) A h = absurd h.refusal
stop_given order held given state.End s after reader' s' frame wrong A h = absurd (cc (h.again))
stop_given order held given (state.Cut n) s after reader' s' frame wrong A h = absurd (cc (h.again))
stop_given order held given (state.Spoilt n) s after reader' s' frame wrong A h =
    let same : wrong ≡ fault.Spoilt n = cc (h.again) in
    subst (λ (w : PcapFault). StopsNext (Some (reader_of order held given (state.Spoilt n))) s after s' frame (stop_of (reader'.given + 1) w))
    (sym same) (refused_again order held given n reader' s s' after frame h.reader_is)

-- ---- the same of a capture that has that reader

pub next_gives : (capture : Option ReaderState) (reader reader' : ReaderState) (s s' : SourceSeen) (frame gone : List ℕ) (answer : Next) (A : Type 0)
    → capture ≡ Some reader → Repeats reader.state (Ok answer)
    → IfReading reader.state (IfSome (left_for reader.held s.left) (λ bytes. IsAnswer reader.order reader.given bytes (Ok answer) frame (left_for reader'.held s'.left))) A
    → IfReading reader.state (reader' ≡ after_of reader.order reader.given reader' (Ok answer)) (reader' ≡ reader)
    → ((answer ≡ next.Packet) → reader.given < MAX_RECORDS) → IfReading reader.state (IsCutShort reader.given (Ok answer)) ⊤
    → IsGone reader.order (Ok answer) gone frame → Reads capture s (Some reader') s' (Ok answer) (GivesNext capture s (Some reader') s' frame (Ok answer))
next_gives capture reader reader' s s' frame gone answer A e again h is few cut small =
    subst (λ (c : Option ReaderState). Reads c s (Some reader') s' (Ok answer) (GivesNext c s (Some reader') s' frame (Ok answer))) (sym e)
    (next_given reader.order reader.held reader.given reader.state reader' s s' frame gone answer A again h is few cut small)

-- the end that it stopped with, by the number that was given
pub stop_is : (n given : ℕ) (wrong : PcapFault) (stop : RunEnd) → n ≡ given → stop ≡ stop_of (n + 1) wrong → stop ≡ stop_of (given + 1) wrong
stop_is n given wrong stop same stops = stops ∙ ap (λ (k : ℕ). stop_of (k + 1) wrong) same

pub stop_gives : (capture : Option ReaderState) (reader : ReaderState) (after : Option ReaderState) (reader' : ReaderState) (s s' : SourceSeen) (frame : List ℕ) (wrong : PcapFault) (stop : RunEnd)
    (A : Type 0) → capture ≡ Some reader → stop ≡ stop_of (reader'.given + 1) wrong → HasStopped reader reader' s s' frame wrong A → StopsNext capture s after s' frame stop
stop_gives capture reader after reader' s s' frame wrong stop A e stops h =
    subst (λ (c : Option ReaderState). StopsNext c s after s' frame stop) (sym e)
    (subst (λ (x : RunEnd). StopsNext (Some reader) s after s' frame x) (sym stops)
    (stop_given reader.order reader.held reader.given reader.state s after reader' s' frame wrong A h))

abbrev answered : Next → Result Next RunEnd
answered answer = Ok answer

ok_is : (x y : Next) → answered x ≡ answered y → x ≡ y
ok_is x y same = cc

-- what was taken for one that was given
pub took_one : (capture : Option ReaderState) (reader reader' : ReaderState) (s s' : SourceSeen) (frame gone : List ℕ) (answer : Next)
    → capture ≡ Some reader → Passes gone reader.held s reader'.held s' → IsGone reader.order (Ok answer) gone frame → length reader.held ≤ MAX_HELD
    → length reader'.held ≤ MAX_HELD → answered answer ≡ answered next.Packet → HasTaken capture (Some reader') s s' (frame ∷ [])
took_one capture reader reader' s s' frame gone answer is p gone_is fits fits' same =
    let g = subst (λ (x : Next). IsGone reader.order (Ok x) gone frame) (ok_is answer next.Packet same) gone_is in
    subst (λ (c : Option ReaderState). HasTaken c (Some reader') s s' (frame ∷ [])) (sym is) (record {
      count = p.takes.count;
      taken = p.takes.taken;
      balance = omega (arith, p.takes.balance, g.0, fits, fits', bytes_one frame);
    })

-- without a capture there is none, and none is left
pub no_capture : (s s' : SourceSeen) (frame : List ℕ) → Reads None s None s' (Ok next.End) (GivesNext None s None s' frame (Ok next.End))
no_capture s s' frame left rest r = ([], (refl, r.1), record { none = refl; behind = r.0; rest_is = r.1; given = refl; over = λ g. g })

-- ---- whatever is left

by_state : (st : State) (reader : ReaderState) (s : SourceSeen) → reader.state ≡ st → HasRecords (Some reader) s (λ _ _. ⊤)
by_state state.Reading reader s e =
    let some = told_or (λ bytes. (frames : List (List ℕ)) × (ending : Result Next PcapFault) × IsBody reader.order reader.given bytes frames ending) (left_for reader.held s.left)
    (where_told (λ _. ⊤) _ (left_for reader.held s.left) (λ bytes _. each_has_body reader.order reader.given bytes) (whatever (left_for reader.held s.left)))
    [] (each_has_body reader.order reader.given []) in
    (some.2.0, Some some.2.1, (some.2.1, refl, subst (λ (x : State). AreLeftBy x reader s.left some.2.0 some.2.1) (sym e) (record { bytes = some.0; told = some.1; body = some.2.2 })), tt)
  where
    whatever : (o : Option (List ℕ)) → IfSome o (λ _. ⊤)
    whatever None = tt
    whatever (Some x) = tt
by_state state.End reader s e =
    ([], Some (Ok next.End), (Ok next.End, refl, subst (λ (x : State). AreLeftBy x reader s.left [] (Ok next.End)) (sym e) (refl, refl)), tt)
by_state (state.Cut n) reader s e =
    ([], Some (Ok (next.Cut n)), (Ok (next.Cut n), refl, subst (λ (x : State). AreLeftBy x reader s.left [] (Ok (next.Cut n))) (sym e) (refl, refl)), tt)
by_state (state.Spoilt n) reader s e =
    ([], Some (Err (fault.Spoilt n)), (Err (fault.Spoilt n), refl, subst (λ (x : State). AreLeftBy x reader s.left [] (Err (fault.Spoilt n))) (sym e) (refl, refl)), tt)

pub some_left : (capture : Option ReaderState) (s : SourceSeen) → HasRecords capture s (λ _ _. ⊤)
some_left None s = ([], None, (refl, refl), tt)
some_left (Some reader) s = by_state reader.state reader s refl
