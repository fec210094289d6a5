-- Laws of capture files.
use Rattle.std.specs.Prelude.{◌≡◌, ℕ, List, Result, Ok}
use Rattle.spin_pcap.specs.declared.fault.PcapFault.{PcapFault}
use Rattle.spin_pcap.specs.declared.next.Next.{Next}
use Rattle.spin_pcap.specs.declared.order.Order.{Order}
use Rattle.spin_pcap.specs.Captures.{header_of, IsCapture, IsBody, IsRecord, IsRest}

-- Two readings of one file are one.
abbrev pub OneReading : Type 0
OneReading =
    (file : List ℕ) (way way' : Order) (frames frames' : List (List ℕ))
    (ending ending' : Result Next PcapFault) →
    IsCapture file way frames ending → IsCapture file way' frames' ending' →
    (way ≡ way') × (frames ≡ frames') × (ending ≡ ending')

-- Two records at the front of the same bytes are one, no rest has a record at its front, and two
-- answers for one rest are one.
abbrev pub OneAnswer : Type 0
OneAnswer = (way : Order) (given : ℕ) (bytes : List ℕ) →
    ((frame frame' rest rest' : List ℕ) →
    IsRecord way given bytes frame rest → IsRecord way given bytes frame' rest' →
    (frame ≡ frame') × (rest ≡ rest'))
    × ((frame rest : List ℕ) (ending : Result Next PcapFault) →
    IsRecord way given bytes frame rest → IsRest way given bytes ending → ⊥)
    × ((ending ending' : Result Next PcapFault) →
    IsRest way given bytes ending → IsRest way given bytes ending' → ending ≡ ending')

-- However many records came before, whatever bytes stand there are whole records and then a rest.
abbrev pub EachHasBody : Type 0
EachHasBody =
    (way : Order) (given : ℕ) (bytes : List ℕ) →
    (frames : List (List ℕ)) × (ending : Result Next PcapFault)
    × IsBody way given bytes frames ending

-- Each file with the header of a capture is a capture.
abbrev pub EachIsCapture : Type 0
EachIsCapture =
    (file : List ℕ) (way : Order) → header_of file ≡ Ok way →
    (frames : List (List ℕ)) × (ending : Result Next PcapFault) × IsCapture file way frames ending
