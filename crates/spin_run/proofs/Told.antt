-- Of a source that tells what it has left, the records are determined.
use Rattle.std.proofs.Common.{◌≡◌, ◌++◌, ℕ, List, Option, Some, None, Result, sym, ap, subst, ◌∙◌}
use Rattle.spin_outside.specs.Sources.{SourceSeen}
use Rattle.spin_pcap.specs.declared.fault.PcapFault.{PcapFault}
use Rattle.spin_pcap.specs.declared.next.Next.{Next}
use Rattle.spin_pcap.specs.declared.state.State.{State}
use Rattle.spin_pcap.specs.declared.state.State.TheVariants as state
use Rattle.spin_pcap.specs.Captures.{IsBody}
use Rattle.spin_pcap.specs.Passing.{ReaderState, left_for}
use Rattle.spin_pcap.proofs.CaptureUniqueness.{one-body}
use Rattle.spin_run.specs.Laws.{RecordsAreOne}
use Rattle.spin_run.specs.Records.{AreBytesLeft, AreLeftBy, AreRecords, HasRecords}
use Rattle.spin_run.proofs.Left.{at_told}

one_reading : (reader : ReaderState) (left : Option (List ℕ)) (bytes : List ℕ) (frames frames' : List (List ℕ)) (ending ending' : Result Next PcapFault)
    → left ≡ Some bytes → AreBytesLeft reader left frames ending → AreBytesLeft reader left frames' ending' → (frames ≡ frames') × (ending ≡ ending')
one_reading reader left bytes frames frames' ending ending' is l l' =
    let told : left_for reader.held left ≡ Some (reader.held ++ bytes) = ap (left_for reader.held) is in
    let same : l.bytes ≡ l'.bytes =
    sym (at_told (λ t. t ≡ l.bytes) (left_for reader.held left) (reader.held ++ bytes) told l.told) ∙ at_told (λ t. t ≡ l'.bytes) (left_for reader.held left) (reader.held ++ bytes) told l'.told in
    one-body reader.order reader.given l'.bytes frames frames' ending ending' (subst (λ (x : List ℕ). IsBody reader.order reader.given x frames ending) same l.body) l'.body

by_state : (st : State) (reader : ReaderState) (left : Option (List ℕ)) (bytes : List ℕ) (frames frames' : List (List ℕ)) (ending ending' : Result Next PcapFault)
    → left ≡ Some bytes → AreLeftBy st reader left frames ending → AreLeftBy st reader left frames' ending' → (frames ≡ frames') × (ending ≡ ending')
by_state state.Reading reader left bytes frames frames' ending ending' is l l' = one_reading reader left bytes frames frames' ending ending' is l l'
by_state state.End reader left bytes frames frames' ending ending' is l l' = (l.0 ∙ sym l'.0, l.1 ∙ sym l'.1)
by_state (state.Cut n) reader left bytes frames frames' ending ending' is l l' = (l.0 ∙ sym l'.0, l.1 ∙ sym l'.1)
by_state (state.Spoilt n) reader left bytes frames frames' ending ending' is l l' = (l.0 ∙ sym l'.0, l.1 ∙ sym l'.1)

pub records_one : RecordsAreOne
records_one None source bytes frames frames' rest rest' is r r' = (r.0 ∙ sym r'.0, r.1 ∙ sym r'.1)
records_one (Some reader) source bytes frames frames' rest rest' is r r' =
    let one = by_state reader.state reader source.left bytes frames frames' r.0 r'.0 is r.2 r'.2 in
    (one.0, r.1 ∙ ap Some one.1 ∙ sym r'.1)

-- so what holds of some of them holds of all
pub told_all : (P : List (List ℕ) → Option (Result Next PcapFault) → Type 0) (capture : Option ReaderState) (source : SourceSeen) (bytes : List ℕ) → source.left ≡ Some bytes
    → HasRecords capture source P → (frames : List (List ℕ)) (rest : Option (Result Next PcapFault)) → AreRecords capture source frames rest → P frames rest
told_all P capture source bytes is h frames rest r =
    let one = records_one capture source bytes h.0 frames h.1 rest is h.2 r in
    subst (λ (x : List (List ℕ) × Option (Result Next PcapFault)). P x.0 x.1) (λ i. (one.0 i, one.1 i)) h.3
