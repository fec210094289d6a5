-- Why records are passed no further, from the inner calls to the outer ones.
use Rattle.std.proofs.Common.{◌≡◌, ◌<◌, ◌+◌, ◌-◌, ◌^◌, ◌==◌, ℕ, Bool, true, false, cond, not, List, [], length, drop, get_or, Option, Some, None, Result, Ok, Err, IfSome, refl, sym, ap, subst, ◌∙◌, arith, inl, inr}
use Rattle.std.specs.Prelude.{nat_lt, ⊤, IfErr, MatchResult}
use Rattle.std.specs.Result.{IsErrAnd}
use Rattle.std.proofs.lemmas.List.{append-nil, length-append, get_or_default}
use Rattle.spin_outside.specs.Counts.{Rose}
use Rattle.spin_outside.specs.Files.{File, IsWholeFile, IsLacking}
use Rattle.spin_outside.specs.Seen.{ShelfSeen}
use Rattle.spin_pcap.specs.declared.fault.PcapFault.{PcapFault}
use Rattle.spin_pcap.specs.declared.fault.PcapFault.TheVariants as fault
use Rattle.spin_pcap.specs.Captures.{captured_length, fields_of, order_of, header_of, is_version, ordered_number_at}
use Rattle.spin_pcap.specs.Passing.{UnlessFailed, FaultByCount}
use Rattle.spin_pcap.proofs.CaptureRecords.{at_told, told_more}
use Rattle.spin_pcap.proofs.WholeRecords.{number_at-front}
use Rattle.spin_frames.specs.declared.head.Head.{Head}
use Rattle.spin_pcap.specs.declared.order.Order.{Order}
use Rattle.spin_frames.specs.Heads.{IsHead}
use Rattle.spin_frames.specs.Packets.{Packet, ArePackets}
use Rattle.spin_table.specs.Setups.{SetupData}
use Rattle.spin_table.specs.States.{State}
use Rattle.spin_filter.specs.declared.stop.Stop.{Stop}
use Rattle.spin_filter.specs.declared.stop.Stop.TheVariants as stop
use Rattle.spin_filter.specs.Counting.{Sending}
use Rattle.spin_filter.specs.Inner.Stopping.{StandsBehind, StandsInFile, StandsNamed, StandsStill, StopsReading, StopsHeader, record_causes, capture_causes, named_causes}
use Rattle.spin_filter.specs.Sending.{OutletsAt, StopsSending}
use Rattle.spin_filter.specs.Stops.{Causes, StopsBy, pass_causes, stop_at, IsBadRecord, IsBadCapture, IsBadNamed, StandsAt, IsRecordOf, IsRecordNamed, IsSentFrom, StandsIn}
use Rattle.spin_filter.proofs.Doings.{Within}
use Rattle.spin_filter.proofs.RecordsRead.{HasRead, FindsAt, consumed}

-- ---- the exit of a `?`

pub err-out : {T : Type 0} (r : Result T Stop) (e : Stop) (P : T → Type 0) (Q : Stop → Type 0) → IsErrAnd r (λ f. f ≡ e) → Q e → MatchResult r P Q
err-out (Ok x) e P Q is q = absurd is
err-out (Err f) e P Q is q = subst Q (sym is) q

pub err-if : {T : Type 0} (r : Result T Stop) (e : Stop) (Q : Stop → Type 0) → IsErrAnd r (λ f. f ≡ e) → Q e → IfErr r Q
err-if (Ok x) e Q is q = tt
err-if (Err f) e Q is q = subst Q (sym is) q

-- what holds of a value holds of one that is the same
pub moved : {A : Type 0} (P : A → Type 0) (a b : A) → P a → b ≡ a → P b
moved P a b p same = subst P (sym same) p

-- ---- causes that give others

pub record Gives (a b : Causes) : Type 0 where
  pub unread : a.unread → b.unread
  pub absent : a.absent → b.absent
  pub refused : (number : ℕ) (wrong : PcapFault) → a.refused number wrong → b.refused number wrong
  pub sending : (why : Stop) → a.sending why → b.sending why

pub stops-as : {a b : Causes} → Gives a b → (why : Stop) → StopsBy a why → StopsBy b why
stops-as g stop.Unread is = g.unread is
stops-as g stop.Absent is = g.absent is
stops-as g (stop.Capture number wrong) is = g.refused number wrong is
stops-as g (stop.Endpoint number) is = g.sending (stop.Endpoint number) is
stops-as g (stop.NoFrame number) is = g.sending (stop.NoFrame number) is
stops-as g stop.WriteFault is = g.sending stop.WriteFault is
stops-as g stop.NoMemory is = g.sending stop.NoMemory is
stops-as g stop.Retires is = g.sending stop.Retires is
stops-as g stop.Segments is = g.sending stop.Segments is
stops-as g (stop.Lane number) is = g.sending (stop.Lane number) is
stops-as g (stop.InTheWay number) is = g.sending (stop.InTheWay number) is
stops-as g stop.NoRecords is = g.sending stop.NoRecords is

-- the same but for sends
pub but-sending : (a : Causes) (Sends : Stop → Type 0) → ((why : Stop) → a.sending why → Sends why) → Gives a (record a { sending = Sends })
but-sending a Sends f = record { unread = λ u. u; absent = λ n. n; refused = λ number wrong r. r; sending = f }

-- what stops reading
pub stops-reading : (a : Causes) → a.sending stop.NoMemory → (why : Stop) → StopsReading a.unread a.refused why → StopsBy a why
stops-reading a memory stop.Unread is = is
stops-reading a memory stop.Absent is = absurd is
stops-reading a memory (stop.Capture number wrong) is = is
stops-reading a memory (stop.Endpoint number) is = absurd is
stops-reading a memory (stop.NoFrame number) is = absurd is
stops-reading a memory stop.WriteFault is = absurd is
stops-reading a memory stop.NoMemory is = memory
stops-reading a memory stop.Retires is = absurd is
stops-reading a memory stop.Segments is = absurd is
stops-reading a memory (stop.Lane number) is = absurd is
stops-reading a memory (stop.InTheWay number) is = absurd is
stops-reading a memory stop.NoRecords is = absurd is

-- what stops a send
pub stops-sending : (names : List (List ℕ)) (capture : Option ℕ) (Kind : Sending → Type 0) (x y : OutletsAt) (a : Causes) → ((why : Stop) → StopsSending names capture Kind x y why → a.sending why)
    → (why : Stop) → StopsSending names capture Kind x y why → StopsBy a why
stops-sending names capture Kind x y a gives stop.Unread is = absurd is
stops-sending names capture Kind x y a gives stop.Absent is = absurd is
stops-sending names capture Kind x y a gives (stop.Capture number wrong) is = absurd is
stops-sending names capture Kind x y a gives (stop.Endpoint number) is = gives (stop.Endpoint number) is
stops-sending names capture Kind x y a gives (stop.NoFrame number) is = gives (stop.NoFrame number) is
stops-sending names capture Kind x y a gives stop.WriteFault is = gives stop.WriteFault is
stops-sending names capture Kind x y a gives stop.NoMemory is = gives stop.NoMemory is
stops-sending names capture Kind x y a gives stop.Retires is = absurd is
stops-sending names capture Kind x y a gives stop.Segments is = absurd is
stops-sending names capture Kind x y a gives (stop.Lane number) is = absurd is
stops-sending names capture Kind x y a gives (stop.InTheWay number) is = absurd is
stops-sending names capture Kind x y a gives stop.NoRecords is = absurd is

-- ---- a bad record

-- behind the records that were read stands one that is too long
read-bad : (o : Order) (bytes : List ℕ) (packets : List Packet) (left behind : Option (List ℕ)) (held : List ℕ) → HasRead o bytes packets left → FindsAt o left (Err fault.TooLong) held behind
    → ArePackets o bytes packets (Err fault.TooLong)
read-bad o bytes packets left behind held h f =
    let c = consumed left behind held h.rest h.told f.kept in
    let there = f.finds.0 in
    let long = f.finds.1 in
    let says : captured_length o h.rest ≡ captured_length o held =
    ap (λ ys. captured_length o ys) c.2 ∙ number_at-front o 8 4 held c.0 (omega (arith, there)) in
    let size : length h.rest ≡ length held + length c.0 = ap length c.2 ∙ length-append held c.0 in
    subst (λ (ps : List Packet). ArePackets o bytes ps (Err fault.TooLong)) (append-nil packets)
    (h.body [] (Err fault.TooLong) (omega arith, omega (arith, size, there), omega (arith, says, long)))

-- a record that isn't found
pub stop-found : (o : Order) (start left behind : Option (List ℕ)) (packets : List Packet) (held : List ℕ) (faults faults' : ℕ) (wrong : PcapFault) → IfSome start (λ bytes. HasRead o bytes packets left)
    → FindsAt o left (Err wrong) held behind → FaultByCount wrong faults faults'
    → StopsReading (Rose faults faults') (λ number fault. IfSome start (λ bytes. IsBadRecord o bytes number fault)) (stop_at (length packets + 1) wrong)
stop-found o start left behind packets held faults faults' fault.ReadFault read f rose = rose
stop-found o start left behind packets held faults faults' fault.TooLong read f rose =
    told_more (λ bytes. HasRead o bytes packets left) (λ bytes. IsBadRecord o bytes (length packets + 1) fault.TooLong) start read
    (λ bytes r. (packets, read-bad o bytes packets left behind held r f, refl))
stop-found o start left behind packets held faults faults' fault.NoMemory read f rose = tt
stop-found o start left behind packets held faults faults' fault.BadMagic read f rose = absurd f.finds
stop-found o start left behind packets held faults faults' fault.BadVersion read f rose = absurd f.finds
stop-found o start left behind packets held faults faults' fault.BadLink read f rose = absurd f.finds
stop-found o start left behind packets held faults faults' fault.Short read f rose = absurd f.finds
stop-found o start left behind packets held faults faults' fault.TooManyRecords read f rose = absurd f.finds
stop-found o start left behind packets held faults faults' (fault.Spoilt first) read f rose = absurd f.finds

whatever : {X : Type 0} (P : X → Type 0) (o : Option X) → ((x : X) → P x) → IfSome o P
whatever P None h = tt
whatever P (Some x) h = h x

-- a record whose number no count has
pub stop-many : (o : Order) (start : Option (List ℕ)) → IfSome start (λ bytes. IsBadRecord o bytes (2 ^ 64 - 1) fault.TooManyRecords)
stop-many o start = whatever (λ bytes. IsBadRecord o bytes (2 ^ 64 - 1) fault.TooManyRecords) start (λ bytes. refl)

-- ---- a bad header

-- No header is refused for want of a read or of memory.
abbrev IsPlain : Result Order PcapFault → Type 0
IsPlain (Ok way) = ⊤
IsPlain (Err fault.ReadFault) = ⊥
IsPlain (Err fault.NoMemory) = ⊥
IsPlain (Err other) = ⊤

by-cond : (b : Bool) (x y : Result Order PcapFault) → IsPlain x → IsPlain y → IsPlain (cond b x y)
by-cond true x y p q = p
by-cond false x y p q = q

fields-plain : (way : Option Order) (bytes : List ℕ) → IsPlain (fields_of way bytes)
fields-plain None bytes = tt
fields-plain (Some way) bytes =
    let link = cond (not (ordered_number_at way 20 4 bytes == 1)) (Err fault.BadLink) (Ok way) in
    by-cond (not (is_version way bytes)) (Err fault.BadVersion) link tt (by-cond (not (ordered_number_at way 20 4 bytes == 1)) (Err fault.BadLink) (Ok way) tt tt)

header-plain : (bytes : List ℕ) → IsPlain (header_of bytes)
header-plain bytes = by-cond (nat_lt (length bytes) 24) (Err fault.Short) (fields_of (order_of bytes) bytes) tt (fields-plain (order_of bytes) bytes)

pub stop-header : (file : Option (List ℕ)) (held : List ℕ) (faults faults' : ℕ) (wrong : PcapFault) → header_of held ≡ Err wrong
    → IfSome file (λ bytes. UnlessFailed wrong (header_of bytes ≡ Err wrong)) → StopsHeader file faults faults' (stop_at 0 wrong)
stop-header file held faults faults' fault.ReadFault is told = absurd (subst IsPlain is (header-plain held))
stop-header file held faults faults' fault.NoMemory is told = absurd (subst IsPlain is (header-plain held))
stop-header file held faults faults' fault.BadMagic is told = (refl, told)
stop-header file held faults faults' fault.BadVersion is told = (refl, told)
stop-header file held faults faults' fault.BadLink is told = (refl, told)
stop-header file held faults faults' fault.Short is told = (refl, told)
stop-header file held faults faults' fault.TooLong is told = (refl, told)
stop-header file held faults faults' fault.TooManyRecords is told = (refl, told)
stop-header file held faults faults' (fault.Spoilt first) is told = (refl, told)

-- ---- one capture

-- what stops the header of a capture, with sends
abbrev pub header_causes : Option (List ℕ) → ℕ → ℕ → (Stop → Type 0) → Causes
header_causes file faults faults' Sends = record {
  unread = Rose faults faults';
  absent = ⊥;
  refused = λ number wrong. (number ≡ 0) × IfSome file (λ bytes. header_of bytes ≡ Err wrong);
  sending = Sends;
}

pub capture-header : (file : Option (List ℕ)) (faults faults' : ℕ) (Sends : Stop → Type 0)
    → Gives (header_causes file faults faults' Sends) (capture_causes file faults faults' Sends)
capture-header file faults faults' Sends = record {
  unread = λ rose. rose;
  absent = λ none. none;
  refused = λ number wrong is. told_more (λ bytes. header_of bytes ≡ Err wrong) (λ bytes. IsBadCapture bytes number wrong) file is.1 (λ bytes bad. inl (is.0, bad));
  sending = λ why is. is;
}

-- a send at a record of the file
pub sent-file : (d : SetupData) (s : State) (round : List ℕ) (file left : Option (List ℕ)) (head : Head) → IfSome file (λ bytes. IsHead bytes head × (left ≡ Some (drop 24 bytes)))
    → Within (IsSentFrom d s round (StandsBehind head left)) (IsSentFrom d s round (StandsInFile file))
sent-file d s round file left head header send is =
    let own : head ≡ send.taken.head = sym is.stands.head_is in
    record {
      number = is.number;
      stands = told_more (λ bytes. IsHead bytes head × (left ≡ Some (drop 24 bytes))) (λ bytes. IsRecordOf bytes is.number send.taken) file header
          (λ bytes h.
          let stands = at_told (λ rest. StandsAt head.order rest is.number send.taken.packet) left (drop 24 bytes) h.1 is.stands.body in
          record {
            header = subst (λ (k : Head). IsHead bytes k) own h.0;
            body = subst (λ (k : Head). StandsAt k.order (drop 24 bytes) is.number send.taken.packet) own stands;
          });
      sent = is.sent;
    }

pub capture-records : (file left : Option (List ℕ)) (head : Head) (faults between faults' : ℕ) (Sends : Stop → Type 0) → IfSome file (λ bytes. IsHead bytes head × (left ≡ Some (drop 24 bytes)))
    → between ≡ faults → Gives (record_causes head.order left between faults' Sends) (capture_causes file faults faults' Sends)
capture-records file left head faults between faults' Sends header same = record {
  unread = λ rose. subst (λ n. Rose n faults') same rose;
  absent = λ none. none;
  refused = λ number wrong is.
      told_more (λ bytes. IsHead bytes head × (left ≡ Some (drop 24 bytes))) (λ bytes. IsBadCapture bytes number wrong) file header
      (λ bytes h. inr (head, h.0, at_told (λ rest. IsBadRecord head.order rest number wrong) left (drop 24 bytes) h.1 is));
  sending = λ why is. is;
}

-- ---- a capture by its name

bad-named : (files : Option (List File)) (name : List ℕ) (left : Option (List ℕ)) (number : ℕ) (wrong : PcapFault) → IsWholeFile files name left → IfSome left (λ bytes. IsBadCapture bytes number wrong)
    → IsBadNamed files number wrong name
bad-named None name left number wrong whole is = tt
bad-named (Some files) name left number wrong (bytes, found, told) is = (bytes, found, at_told (λ file. IsBadCapture file number wrong) left bytes told is)

-- a send at a record of the file of that name
pub sent-named : (d : SetupData) (s : State) (round : List ℕ) (files : Option (List File)) (name : List ℕ) (left : Option (List ℕ)) → IsWholeFile files name left
    → Within (IsSentFrom d s round (StandsInFile left)) (IsSentFrom d s round (StandsNamed files name))
sent-named d s round files name left whole send is = record { number = is.number; stands = in-named files whole; sent = is.sent } where
  in-named : (fs : Option (List File)) → IsWholeFile fs name left → IsRecordNamed fs is.number send.taken name
  in-named None w = tt
  in-named (Some known) (bytes, found, told) = (bytes, found, at_told (λ file. IsRecordOf file is.number send.taken) left bytes told is.stands)

pub named-capture : (name : List ℕ) (shelf shelf' : ShelfSeen) (left : Option (List ℕ)) (faults : ℕ) (Sends : Stop → Type 0) → IsWholeFile shelf.files name left → faults ≡ shelf.faults
    → Gives (capture_causes left faults shelf'.faults Sends) (named_causes name shelf shelf' Sends)
named-capture name shelf shelf' left faults Sends whole same = record {
  unread = λ rose. subst (λ n. Rose n shelf'.faults) same rose;
  absent = λ none. absurd none;
  refused = λ number wrong is. bad-named shelf.files name left number wrong whole is;
  sending = λ why is. is;
}

-- a send at a record of one of the captures
pub sent-among : (d : SetupData) (s : State) (round : List ℕ) (files files' : Option (List File)) (captures : List (List ℕ)) (i : ℕ) (name : List ℕ) → i < length captures → name ≡ get_or captures i name → files' ≡ files
    → Within (IsSentFrom d s round (StandsNamed files' name)) (IsSentFrom d s round (StandsIn files captures))
sent-among d s round files files' captures i name lt at same send is = record {
  number = is.number;
  stands = (i, name, lt, sym at, subst (λ (fs : Option (List File)). IsRecordNamed fs is.number send.taken name) same is.stands);
  sent = is.sent;
}

-- one of the captures, on a shelf that has the same files and counts still
pub pass-named : (captures : List (List ℕ)) (i : ℕ) (name : List ℕ) (shelf shelf' shelf'' : ShelfSeen) (Sends : Stop → Type 0) → i < length captures → name ≡ get_or captures i name
    → shelf'.files ≡ shelf.files → StandsStill shelf shelf' → Gives (named_causes name shelf' shelf'' Sends) (pass_causes captures shelf shelf'' Sends)
pass-named captures i name shelf shelf' shelf'' Sends lt at files still = record {
  unread = λ rose. subst (λ n. Rose n shelf''.faults) still.faults rose;
  absent = λ is. (
    subst (λ n. Rose n shelf''.absences) still.absences is.0,
    (i, lt, λ d. subst (IsLacking shelf.files) (at ∙ get_or_default captures i name d lt) (subst (λ fs. IsLacking fs name) files is.1)),
  );
  refused = λ number wrong is. (
    i,
    lt,
    λ d. subst (IsBadNamed shelf.files number wrong) (at ∙ get_or_default captures i name d lt) (subst (λ fs. IsBadNamed fs number wrong name) files is),
  );
  sending = λ why is. is;
}
