-- Laws of what is made.
use Rattle.std.specs.Prelude.{◌≡◌, ◌<◌, ℕ, List, [], ◌∷◌, length, codes, Ok}
use Rattle.spin_pcap.specs.declared.next.Next.TheVariants as next
use Rattle.spin_pcap.specs.declared.order.Order.TheVariants as order
use Rattle.spin_pcap.specs.Captures.{IsCapture}
use Rattle.spin_script.specs.States.{NativeData, ScriptData}
use Rattle.spin_script.specs.Language.{IsScript}
use Rattle.spin_gen.specs.Texts.{script_of, packets_of}

-- The script has fewer than 700,000 bytes and is read, whatever natives may be named. It declares one endpoint, `out0`.
pub record IsReadAsScript (n : NativeData) (text : List ℕ) : Type 0 where
  pub few : length text < 700000
  pub script : ScriptData
  pub read : IsScript n text (Ok script)
  pub endpoints : script.endpoints ≡ codes "out0" ∷ []

abbrev pub ScriptsAreRead : Type 0
ScriptsAreRead = (n : NativeData) (number : ℕ) → IsReadAsScript n (script_of number)

-- The capture has 66,024 bytes, and is one of 1,000 whole records, behind which nothing stands.
pub record IsReadAsCapture (file : List ℕ) : Type 0 where
  pub size : length file ≡ 66024
  pub frames : List (List ℕ)
  pub count : length frames ≡ 1000
  pub capture : IsCapture file order.Little frames (Ok next.End)

abbrev pub CapturesAreRead : Type 0
CapturesAreRead = (number : ℕ) → IsReadAsCapture (packets_of number)
