-- Of a shelf that tells its files: the script and the capture are read in one way.
use Rattle.std.proofs.Common.{◌≡◌, ◌⊎◌, ℕ, Option, Some, None, List, [], IfSome, refl, sym, ap, subst, ◌∙◌, inl, inr}
use Rattle.std.specs.Prelude.{Result, Ok, Err}
use Rattle.spin_outside.specs.Files.{File, content, IsLacking}
use Rattle.spin_outside.specs.Seen.{ShelfSeen}
use Rattle.spin_pcap.specs.Captures.{header_of, IsCapture}
use Rattle.spin_pcap.specs.declared.fault.PcapFault.{PcapFault}
use Rattle.spin_pcap.specs.declared.next.Next.{Next}
use Rattle.spin_pcap.specs.declared.order.Order.{Order}
use Rattle.spin_script.proofs.OutcomeUniqueness.{one_outcome}
use Rattle.spin_script.specs.Language.{IsScript}
use Rattle.spin_script.specs.Scripts.{IsBad}
use Rattle.spin_script.specs.declared.script.ScriptFault.TheVariants as fault
use Rattle.spin_script.specs.States.{NativeData, ScriptData}
use Rattle.spin_inputs.specs.Captures.{AreBytesOf, AreRecordsOf, HasBadHeader, IsBadHeader, IsCaptureFile, IsGoodCapture}
use Rattle.spin_inputs.specs.Loading.{HoldsText, IsContent, IsLoaded, IsScriptRefused, IsScriptText, LacksText}

-- neither of the two
pub neither : {A B : Type 0} → A ⊎ B → (A → ⊥) → (B → ⊥) → ⊥
neither (inl a) no_a no_b = no_a a
neither (inr b) no_a no_b = no_b b

pub some_not_none : {X : Type 0} (x : X) → Some x ≡ None → ⊥
some_not_none x same = cc

pub some_is : {X : Type 0} (x y : X) → Some x ≡ Some y → x ≡ y
some_is x y same = cc

-- ---- the script

-- the content of the file, where the shelf tells it
pub content_at : (files : Option (List File)) (held : List File) (name text : List ℕ) → files ≡ Some held → IsContent files name text → content held name ≡ Some text
content_at files held name text told is = let P : Option (List File) → Type 0 = λ f. IsContent f name text in subst P told is

pub lacking_at : (files : Option (List File)) (held : List File) (name : List ℕ) → files ≡ Some held → IsLacking files name → content held name ≡ None
lacking_at files held name told is = subst (λ f. IsLacking f name) told is

-- what was read as a script is one
pub loaded_text : (natives : NativeData) (shelf : ShelfSeen) (held : List File) (name text : List ℕ) (script : ScriptData)
    → HoldsText shelf held name text → IsLoaded natives shelf.files name script → IsScriptText natives text
loaded_text natives shelf held name text script holds loaded =
    let same : loaded.text ≡ text = some_is _ _ (sym (content_at shelf.files held name loaded.text holds.told loaded.read) ∙ holds.found) in
    (script, subst (λ t. IsScript natives t (Ok script)) same loaded.reads)

pub script_there : (shelf : ShelfSeen) (held : List File) (name text : List ℕ) → HoldsText shelf held name text → IsLacking shelf.files name → ⊥
script_there shelf held name text holds lacking = some_not_none text (sym holds.found ∙ lacking_at shelf.files held name holds.told lacking)

refused_at : (natives : NativeData) (files : Option (List File)) (held : List File) (name : List ℕ) (line cause : ℕ) → files ≡ Some held
    → IsScriptRefused natives files name line cause → (other : List ℕ) × (content held name ≡ Some other) × IsBad natives other (fault.Bad line cause)
refused_at natives files held name line cause told refused = let P : Option (List File) → Type 0 = λ f. IsScriptRefused natives f name line cause in subst P told refused

-- a script's text isn't refused
pub script_good : (natives : NativeData) (shelf : ShelfSeen) (held : List File) (name text : List ℕ) (line cause : ℕ)
    → HoldsText shelf held name text → IsScriptText natives text → IsScriptRefused natives shelf.files name line cause → ⊥
script_good natives shelf held name text line cause holds script refused =
    let at_held = refused_at natives shelf.files held name line cause holds.told refused in
    let same : text ≡ at_held.0 = some_is _ _ (sym holds.found ∙ at_held.1) in
    one_outcome natives at_held.0 (Ok script.0) (Err (line, at_held.2.0)) (subst (λ t. IsScript natives t (Ok script.0)) same script.1) at_held.2.1

-- a name that no file has isn't refused, and no script was read under it
pub refused_nothing : (natives : NativeData) (shelf : ShelfSeen) (held : List File) (name : List ℕ) (line cause : ℕ)
    → LacksText shelf held name → IsScriptRefused natives shelf.files name line cause → ⊥
refused_nothing natives shelf held name line cause lacks refused =
    some_not_none _ (sym (refused_at natives shelf.files held name line cause lacks.told refused).1 ∙ lacks.lacking)

pub loaded_nothing : (natives : NativeData) (shelf : ShelfSeen) (held : List File) (name : List ℕ) (script : ScriptData) → LacksText shelf held name → IsLoaded natives shelf.files name script → ⊥
loaded_nothing natives shelf held name script lacks loaded =
    some_not_none _ (sym (content_at shelf.files held name loaded.text lacks.told loaded.read) ∙ lacks.lacking)

-- ---- the header of the capture

-- The file of that name has the header of a capture.
pub record IsGoodHeader (held : List File) (name : List ℕ) : Type 0 where
  pub bytes : List ℕ
  pub found : content held name ≡ Some bytes
  pub order : Order
  pub header : header_of bytes ≡ Ok order

-- the bytes of a capture are those of its file, where the shelf tells it
pub bytes_at : (files : Option (List File)) (held : List File) (name bytes : List ℕ) → files ≡ Some held → AreBytesOf files (Some name) bytes → content held name ≡ Some bytes
bytes_at files held name bytes told capture = subst (λ f. IfSome f (λ held. content held name ≡ Some bytes)) told capture.found

pub header_at : (files : Option (List File)) (held : List File) (name bytes : List ℕ) → files ≡ Some held → AreBytesOf files (Some name) bytes → IsGoodHeader held name
header_at files held name bytes told capture = record { bytes = bytes; found = bytes_at files held name bytes told capture; order = capture.order; header = capture.header }

pub bad_header_at : (files : Option (List File)) (held : List File) (name : List ℕ) (fault : ℕ) → files ≡ Some held → HasBadHeader files (Some name) fault → IsBadHeader held name fault
bad_header_at files held name fault told has = subst (λ f. HasBadHeader f (Some name) fault) told has

good_not_bad : (x : Order) (wrong : PcapFault) (r : Result Order PcapFault) → r ≡ Ok x → r ≡ Err wrong → ⊥
good_not_bad x wrong r good bad = cc

pub headers_differ : (held : List File) (name : List ℕ) (fault : ℕ) → IsGoodHeader held name → IsBadHeader held name fault → ⊥
headers_differ held name fault good bad =
    let same : good.bytes ≡ bad.bytes = some_is _ _ (sym good.found ∙ bad.found) in
    good_not_bad good.order bad.wrong (header_of bad.bytes) (ap header_of (sym same) ∙ good.header) bad.refused

pub header_lacks : (held : List File) (name : List ℕ) → IsGoodHeader held name → content held name ≡ None → ⊥
header_lacks held name good lacking = some_not_none _ (sym good.found ∙ lacking)

pub bad_header_lacks : (held : List File) (name : List ℕ) (fault : ℕ) → IsBadHeader held name fault → content held name ≡ None → ⊥
bad_header_lacks held name fault bad lacking = some_not_none _ (sym bad.found ∙ lacking)

pub good_header : (held : List File) (name : List ℕ) (frames : List (List ℕ)) (ending : Result Next PcapFault) → IsCaptureFile held name frames ending → IsGoodHeader held name
good_header held name frames ending is = record { bytes = is.bytes; found = is.found; order = is.order; header = is.capture.header }

-- ---- the records of the capture

pub records_at : (files : Option (List File)) (held : List File) (name bytes : List ℕ) (frames : List (List ℕ)) (ending : Result Next PcapFault)
    → files ≡ Some held → AreBytesOf files (Some name) bytes → IsCaptureFile held name frames ending → AreRecordsOf (Some name) bytes frames (Some ending)
records_at files held name bytes frames ending told capture is =
    let same : is.bytes ≡ bytes = some_is _ _ (sym is.found ∙ bytes_at files held name bytes told capture) in
    (ending, refl, is.order, subst (λ b. IsCapture b is.order frames ending) same is.capture)

-- the records that a good capture or none has, whose rest is no refusal
pub record HasGoodRecords (packets : Option (List ℕ)) (bytes : List ℕ) : Type 0 where
  pub frames : List (List ℕ)
  pub rest : Option (Result Next PcapFault)
  pub are : AreRecordsOf packets bytes frames rest
  pub good : (wrong : PcapFault) → rest ≡ Some (Err wrong) → ⊥

pub ok_not_err : (last : Next) (wrong : PcapFault) (r : Option (Result Next PcapFault)) → r ≡ Some (Ok last) → r ≡ Some (Err wrong) → ⊥
ok_not_err last wrong r a b = cc

none_not_err : (wrong : PcapFault) (r : Option (Result Next PcapFault)) → r ≡ None → r ≡ Some (Err wrong) → ⊥
none_not_err wrong r a b = cc

pub good_records : (files : Option (List File)) (held : List File) (packets : Option (List ℕ)) (bytes : List ℕ)
    → files ≡ Some held → AreBytesOf files packets bytes → IsGoodCapture held packets → HasGoodRecords packets bytes
good_records files held None bytes told capture good = record { frames = []; rest = None; are = (refl, refl); good = λ wrong is. none_not_err wrong None refl is }
good_records files held (Some name) bytes told capture good =
    record {
      frames = good.0;
      rest = Some (Ok good.1);
      are = records_at files held name bytes good.0 (Ok good.1) told capture good.2;
      good = λ wrong is. ok_not_err good.1 wrong (Some (Ok good.1)) refl is;
    }

pub not_bad_header : (files : Option (List File)) (held : List File) (packets : Option (List ℕ)) (fault : ℕ) → files ≡ Some held → IsGoodCapture held packets → HasBadHeader files packets fault → ⊥
not_bad_header files held None fault told good bad = bad
not_bad_header files held (Some name) fault told good bad =
    headers_differ held name fault (good_header held name good.0 (Ok good.1) good.2) (bad_header_at files held name fault told bad)
