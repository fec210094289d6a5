-- Laws of lanes between two segments, and of the records of a capture.
use Rattle.std.specs.Prelude.{◌≡◌, ℕ, List, Option, Some, Result}
use Rattle.atomic_table.specs.Seated.{TableId}
use Rattle.spin_outside.specs.Sources.{SourceSeen}
use Rattle.spin_pcap.specs.declared.fault.PcapFault.{PcapFault}
use Rattle.spin_pcap.specs.declared.next.Next.{Next}
use Rattle.spin_pcap.specs.Passing.{ReaderState}
use Rattle.spin_table.specs.Setups.{SetupData}
use Rattle.spin_run.specs.declared.lane.Lane.{Lane}
use Rattle.spin_run.specs.Records.{AreRecords}
use Rattle.spin_run.specs.Segments.{AreReady, place_of, state_of}

-- The place of the state that lanes are ready in lies past that of their first state by the number of rows that they
-- know. From the start it is that number.
abbrev pub PlaceIsFront : Type 0
PlaceIsFront =
    (d : SetupData) (log : TableId) (count : ℕ) (lanes : List Lane)
    → AreReady d log count lanes → (state_of d lanes).place ≡ place_of d lanes

-- Of a source that tells what it has left, just one list of records is left, and its rest is answered in one way.
abbrev pub RecordsAreOne : Type 0
RecordsAreOne =
    (capture : Option ReaderState) (source : SourceSeen) (bytes : List ℕ) (frames frames' : List (List ℕ))
    (rest rest' : Option (Result Next PcapFault))
    → source.left ≡ Some bytes → AreRecords capture source frames rest → AreRecords capture source frames' rest'
    → (frames ≡ frames') × (rest ≡ rest')
