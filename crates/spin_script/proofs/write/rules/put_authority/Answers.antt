use Rattle.std.proofs.Common.{◌≡◌, ◌++◌, List, ℕ, OnOk, subst}
use Rattle.spin_script.specs.States.{natives_seen}
use Rattle.spin_script.proofs.WrittenParts.{authorised}
use Rattle.spin_script.proofs.write.rules.put_authority.Goals as goal

pub returns-in-Native : goal.returns-in-Native
returns-in-Native g c =
    subst (λ (t : List ℕ). OnOk c.put_authoriser.result (c.put_authoriser.new.out ≡ c.args.out.now ++ t))
    (authorised (natives_seen c.args.natives.now) c.args.event c.in-Native.native c.name_of-name.result.now c.args.authority.now c.in-Native.is c.name_of-name.ensures) c.put_authoriser.ensures
