-- What a host's own handler gives, as C hands it in beside bytes.
use Rattle.std.specs.Prelude.{◌≡◌, ◌+◌, ◌≤◌, ◌⊎◌, ℕ, List, if◌then◌else◌, ◌==◌, drop, length, take}
use Rattle.spin_values.specs.declared.values.Value.TheVariants as value
use Rattle.spin_host.specs.declared.gift.Given.{Given}
use Rattle.spin_host.specs.declared.gift.Given.TheVariants as given
use Rattle.spin_c.specs.declared.gifts.SpinGift.{SpinGift}

-- the range is within the bytes
abbrev pub IsRange : List ℕ → SpinGift → Type 0
IsRange bytes gift = gift.at + gift.length ≤ length bytes

-- it is a result; or of an argument or an endpoint whose number has room, a word or a range of the bytes
abbrev pub IsGift : List ℕ → SpinGift → Type 0
IsGift bytes gift =
    (gift.kind ≡ 0)
    ⊎ ((gift.index ≤ 255) × ((gift.kind ≡ 1) ⊎ (((gift.kind ≡ 2) ⊎ (gift.kind ≡ 3)) × IsRange bytes gift)))

-- what it gives then
abbrev pub gift_of : List ℕ → SpinGift → Given
gift_of bytes gift =
    let range = take gift.length (drop gift.at bytes) in
    if gift.kind == 0
    then given.Result gift.at
    else if gift.kind == 1
    then given.Change gift.index (value.Word gift.at)
    else if gift.kind == 2 then given.Change gift.index (value.Bytes range) else given.Send gift.index range
