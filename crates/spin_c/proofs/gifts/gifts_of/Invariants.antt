use Rattle.std.proofs.Common.{◌≡◌, map, take}
use Rattle.spin_c.specs.Gifts.{gift_of}
use Rattle.spin_c.proofs.gifts.gifts_of.Given as goal

abbrev pub invariant-loop-gift : goal.invariant-loop-gift
invariant-loop-gift l = l.given ≡ map (gift_of l.bytes) (take l.gift-index l.gifts)
