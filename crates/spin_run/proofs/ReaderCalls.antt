-- Records that are read one after another.
use Rattle.std.proofs.Common.{◌≡◌, ◌<◌, ◌≤◌, ◌+◌, ℕ, List, [], ◌∷◌, Option, Some, None, Result, Ok, Err, ◌++◌, take, drop, refl, sym, ap, subst, ◌∙◌, length, arith, append_assoc}
use Rattle.std.proofs.Math.Seq.{take-append_seam, drop-append_seam}
use Rattle.std.proofs.lemmas.List.{append-nil, length-append, take_all, drop_all}
use Rattle.spin_outside.specs.Sources.{SourceSeen}
use Rattle.spin_pcap.specs.declared.fault.PcapFault.{PcapFault}
use Rattle.spin_pcap.specs.declared.next.Next.{Next}
use Rattle.spin_pcap.specs.declared.next.Next.TheVariants as next
use Rattle.spin_pcap.specs.declared.state.State.{State}
use Rattle.spin_pcap.specs.declared.state.State.TheVariants as state
use Rattle.spin_pcap.specs.Passing.{ReaderState}
use Rattle.spin_run.specs.declared.end.RunEnd.{RunEnd}
use Rattle.spin_run.specs.declared.end.RunEnd.TheVariants as end
use Rattle.spin_run.specs.Records.{AreLeftBy, AreRecords, HasRecords}
use Rattle.spin_run.specs.Inner.Reading.{Reads, IsGoing, GoesOn, given_by, whole_rest, IsCaptureRefused, IsOver, GivesNext, GivesFrames, IsCutRest, GivesRest, HasTaken, TakesFrames}
use Rattle.spin_run.proofs.Left.{some_left}
use Rattle.spin_run.proofs.CaptureBytes.{took_so_far, took_stopped}

-- From the first reader to the second these were taken off the front of those left.
pub record HasRead (before after : Option ReaderState) (taken frames left : List (List ℕ)) : Type 0 where
  pub split : frames ≡ taken ++ left
  pub given : given_by after ≡ given_by before + length taken
  pub going : IsGoing after → IsGoing before

-- whatever is left then
abbrev pub HasReadTo : Option ReaderState → SourceSeen → Option ReaderState → SourceSeen → List (List ℕ) → Type 0
HasReadTo before s after s' taken =
    (left : List (List ℕ)) (rest : Option (Result Next PcapFault)) → AreRecords after s' left rest
    → (frames : List (List ℕ)) × AreRecords before s frames rest × HasRead before after taken frames left

pub reads_none : (before : Option ReaderState) (s : SourceSeen) → HasReadTo before s before s []
reads_none before s left rest r = (left, r, record { split = refl; given = omega arith; going = λ g. g })

-- a reader that has a record left goes on
goes : (capture : Option ReaderState) (source : SourceSeen) (frame : List ℕ) (others : List (List ℕ)) (rest : Option (Result Next PcapFault))
    → AreRecords capture source (frame ∷ others) rest → IsGoing capture
goes None source frame others rest r = absurd (cc (r.0))
goes (Some reader) source frame others rest r = by_state reader.state r.2 where
  by_state : (st : State) → AreLeftBy st reader source.left (frame ∷ others) r.0 → GoesOn st
  by_state state.Reading l = tt
  by_state state.End l = absurd (let e : frame ∷ others ≡ [] = l.0 in cc (e))
  by_state (state.Cut n) l = absurd (let e : frame ∷ others ≡ [] = l.0 in cc (e))
  by_state (state.Spoilt n) l = tt

pub reads_one : (before at after : Option ReaderState) (s s' s'' : SourceSeen) (taken : List (List ℕ)) (frame : List ℕ) → HasReadTo before s at s' taken
    → Reads {T = Next} at s' after s'' (Ok next.Packet) (GivesNext at s' after s'' frame (Ok next.Packet)) → HasReadTo before s after s'' (taken ++ frame ∷ [])
reads_one before at after s s' s'' taken frame h n left rest r =
    let one = n left rest r in
    let all = h one.0 rest one.1 in (
      all.0,
      all.1,
      record {
        split = all.2.split ∙ ap (λ (x : List (List ℕ)). taken ++ x) one.2.0 ∙ sym (append_assoc taken (frame ∷ []) left);
        given = omega (arith, one.2.1, all.2.given, length-append taken (frame ∷ []));
        going = λ g. all.2.going (goes at s' frame left rest (subst (λ (x : List (List ℕ)). AreRecords at s' x rest) one.2.0 one.1));
      },
    )

-- ---- so many

abbrev pub ReadsFrames : ℕ → Option ReaderState → SourceSeen → Option ReaderState → SourceSeen → Result (List (List ℕ)) RunEnd → Type 0
ReadsFrames wanted before s after s' result =
    Reads before s after s' result (λ frames left rest. GivesFrames wanted before after result frames left rest
    × TakesFrames wanted before after s s' result frames)

-- all that were wanted
pub gives_all : (before after : Option ReaderState) (s s' : SourceSeen) (taken : List (List ℕ)) (wanted : ℕ) → length taken ≡ wanted
    → HasReadTo before s after s' taken → HasTaken before after s s' taken → ReadsFrames wanted before s after s' (Ok taken)
gives_all before after s s' taken wanted count h took left rest r =
    let all = h left rest r in
    let split = all.2.split in
    let front : take wanted all.0 ≡ taken = (λ i. take (sym count i) (split i)) ∙ take-append_seam taken left in
    let back : drop wanted all.0 ≡ left = (λ i. drop (sym count i) (split i)) ∙ drop-append_seam taken left in
    (all.0, all.1, ((sym front, sym back, all.2.given, λ g. (all.2.going g, count)), λ le. subst (λ (xs : List (List ℕ)). HasTaken before after s s' xs) (sym front) took))

-- fewer
pub gives_fewer : (before at after : Option ReaderState) (s s' s'' : SourceSeen) (taken : List (List ℕ)) (known : Option (Result Next PcapFault)) (answer : Next) (wanted : ℕ) → length taken < wanted
    → HasReadTo before s at s' taken → Reads {T = Next} at s' after s'' (Ok answer) (λ frames left rest. IsOver at after frames left rest known) → ReadsFrames wanted before s after s'' (Ok taken)
gives_fewer before at after s s' s'' taken known answer wanted few h o left rest r =
    let over = o left rest r in
    let all = h over.0 rest over.1 in
    let whole : all.0 ≡ taken = all.2.split ∙ ap (λ (x : List (List ℕ)). taken ++ x) over.2.none ∙ append-nil taken in
    let front : take wanted all.0 ≡ taken = ap (take wanted) whole ∙ take_all wanted taken (omega (arith, few)) in
    let back : drop wanted all.0 ≡ [] = ap (drop wanted) whole ∙ drop_all wanted taken (omega (arith, few)) in
    (all.0, all.1, ((sym front, over.2.behind ∙ sym back, over.2.given ∙ all.2.given, λ g. absurd (over.2.over g)), λ le. absurd (omega (arith, few, le, ap length whole))))

refused_later : (before at : Option ReaderState) (taken frames left : List (List ℕ)) (rest : Option (Result Next PcapFault)) (record_number reason : ℕ) → HasRead before at taken frames left
    → left ≡ [] → IsCaptureRefused at left rest record_number reason → (length frames ≡ length taken) × IsCaptureRefused before frames rest record_number reason
refused_later before at taken frames left rest record_number reason h none r =
    let long : length frames ≡ length taken = ap length (h.split ∙ ap (λ (x : List (List ℕ)). taken ++ x) none ∙ append-nil taken) in
    (long, (r.0, r.1, r.2, omega (arith, r.3, h.given, long, ap length none), h.going r.4))

stops_in : (before at after : Option ReaderState) (s' s'' : SourceSeen) (taken frames left : List (List ℕ)) (rest : Option (Result Next PcapFault)) (frame : List ℕ) (wanted : ℕ) (stop : RunEnd)
    → length taken < wanted → HasRead before at taken frames left → GivesNext at s' after s'' frame (Err stop) left [] rest → GivesFrames wanted before after (Err stop) frames [] rest
stops_in before at after s' s'' taken frames left rest frame wanted (end.Capture n reason) few h r =
    let l = refused_later before at taken frames left rest n reason h r.0.0 r.0.1 in
    (omega (arith, few, l.0), l.1)
stops_in before at after s' s'' taken frames left rest frame wanted end.ReadFault few h r = (h.going r.0, omega (arith, few))
stops_in before at after s' s'' taken frames left rest frame wanted end.NoMemory few h r = tt
stops_in before at after s' s'' taken frames left rest frame wanted end.Whole few h r = r.0
stops_in before at after s' s'' taken frames left rest frame wanted end.WriteFault few h r = r.0
stops_in before at after s' s'' taken frames left rest frame wanted (end.Endpoint p) few h r = r.0

-- the next one wasn't given
pub stops_reading : (before at after : Option ReaderState) (s s' s'' : SourceSeen) (taken : List (List ℕ)) (frame : List ℕ) (wanted : ℕ) (stop : RunEnd)
    → length taken < wanted → HasReadTo before s at s' taken → HasTaken before at s s' taken
    → Reads {T = Next} at s' after s'' (Err stop) (GivesNext at s' after s'' frame (Err stop)) → ReadsFrames wanted before s after s'' (Err stop)
stops_reading before at after s s' s'' taken frame wanted stop few h took n =
    let all = h n.0 n.1 n.2 in
    (all.0, n.1, all.1, (stops_in before at after s' s'' taken all.0 n.0 n.1 frame wanted stop few all.2 n.3, took_stopped before at s s' s'' taken all.0 n.0 wanted few all.2.split took n.3.1))

-- there was no memory to keep it
pub stops_keeping : (before after : Option ReaderState) (s s' : SourceSeen) (taken : List (List ℕ)) (wanted : ℕ) → length taken ≤ wanted
    → HasReadTo before s after s' taken → HasTaken before after s s' taken → ReadsFrames wanted before s after s' (Err end.NoMemory)
stops_keeping before after s s' taken wanted few h took =
    let some = some_left after s' in
    let all = h some.0 some.1 some.2 in
    (all.0, some.1, all.1, (tt, took_so_far before after s s' taken all.0 some.0 wanted few all.2.split took))

-- ---- to the end

whole_cut : (capture : Option ReaderState) (rest : Option (Result Next PcapFault)) → rest ≡ whole_rest capture → IsCutRest rest 0
whole_cut None rest e = subst (λ (x : Option (Result Next PcapFault)). IsCutRest x 0) (sym e) refl
whole_cut (Some reader) rest e = subst (λ (x : Option (Result Next PcapFault)). IsCutRest x 0) (sym e) refl

gives_rest : (before at after : Option ReaderState) (s s' s'' : SourceSeen) (taken : List (List ℕ)) (known : Option (Result Next PcapFault)) (answer : Next) (cut : ℕ)
    → ((rest : Option (Result Next PcapFault)) → rest ≡ known → IsCutRest rest cut) → HasReadTo before s at s' taken
    → Reads {T = Next} at s' after s'' (Ok answer) (λ frames left rest. IsOver at after frames left rest known) → HasRecords before s (GivesRest before after (Ok cut))
gives_rest before at after s s' s'' taken known answer cut is h o =
    let some = some_left after s'' in
    let over = o some.0 some.1 some.2 in
    let all = h over.0 some.1 over.1 in
    let long : length all.0 ≡ length taken = ap length (all.2.split ∙ ap (λ (x : List (List ℕ)). taken ++ x) over.2.none ∙ append-nil taken) in
    (all.0, some.1, all.1, (is some.1 over.2.rest_is, omega (arith, over.2.given, all.2.given, long)))

pub rest_whole : (before at after : Option ReaderState) (s s' s'' : SourceSeen) (taken : List (List ℕ)) → HasReadTo before s at s' taken
    → Reads {T = Next} at s' after s'' (Ok next.End) (λ frames left rest. IsOver at after frames left rest (whole_rest at)) → HasRecords before s (GivesRest before after (Ok 0))
rest_whole before at after s s' s'' taken h o = gives_rest before at after s s' s'' taken (whole_rest at) next.End 0 (whole_cut at) h o

pub rest_cut : (before at after : Option ReaderState) (s s' s'' : SourceSeen) (taken : List (List ℕ)) (count : ℕ) → HasReadTo before s at s' taken
    → Reads {T = Next} at s' after s'' (Ok (next.Cut count)) (λ frames left rest. IsOver at after frames left rest (Some (Ok (next.Cut count))))
    → HasRecords before s (GivesRest before after (Ok count))
rest_cut before at after s s' s'' taken count h o =
    gives_rest before at after s s' s'' taken (Some (Ok (next.Cut count))) (next.Cut count) count (λ rest e. subst (λ (x : Option (Result Next PcapFault)). IsCutRest x count) (sym e) refl) h o

stops_rest_in : (before at after : Option ReaderState) (s' s'' : SourceSeen) (taken frames left : List (List ℕ)) (rest : Option (Result Next PcapFault)) (frame : List ℕ) (stop : RunEnd)
    → HasRead before at taken frames left → GivesNext at s' after s'' frame (Err stop) left [] rest → GivesRest before after (Err stop) frames rest
stops_rest_in before at after s' s'' taken frames left rest frame (end.Capture n reason) h r =
    (refused_later before at taken frames left rest n reason h r.0.0 r.0.1).1
stops_rest_in before at after s' s'' taken frames left rest frame end.ReadFault h r = h.going r.0
stops_rest_in before at after s' s'' taken frames left rest frame end.NoMemory h r = tt
stops_rest_in before at after s' s'' taken frames left rest frame end.Whole h r = r.0
stops_rest_in before at after s' s'' taken frames left rest frame end.WriteFault h r = r.0
stops_rest_in before at after s' s'' taken frames left rest frame (end.Endpoint p) h r = r.0

pub stops_rest : (before at after : Option ReaderState) (s s' s'' : SourceSeen) (taken : List (List ℕ)) (frame : List ℕ) (stop : RunEnd) → HasReadTo before s at s' taken
    → Reads {T = Next} at s' after s'' (Err stop) (GivesNext at s' after s'' frame (Err stop)) → HasRecords before s (GivesRest before after (Err stop))
stops_rest before at after s s' s'' taken frame stop h n =
    let all = h n.0 n.1 n.2 in
    (all.0, n.1, all.1, stops_rest_in before at after s' s'' taken all.0 n.0 n.1 frame stop all.2 n.3)
