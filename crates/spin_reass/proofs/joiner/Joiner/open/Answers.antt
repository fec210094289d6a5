use Rattle.std.proofs.Common.{◌≡◌, ◌++◌, ◌∷◌, [], length, position, Some, rules, sym, ap, ◌∙◌}
use Rattle.spin_reass.specs.Joining.{has_key, with_room}
use Rattle.spin_reass.proofs.DatagramPlaces.{fresh, none_with_room, pushed_at}
use Rattle.spin_reass.proofs.joiner.Joiner.open.Goals as goal

pub returns-clause-place : goal.returns-clause-place
returns-clause-place c =
    let base = with_room c.args.self.now in
    let is : c.push.new.self.items ≡ base ++ fresh c.args.key ∷ [] = search rules in
    let size : c.len-at.result ≡ length base = search rules in
    ap (λ xs. position (has_key c.args.key) xs) is
    ∙ pushed_at c.args.key base (none_with_room c.args.key c.args.self.now c.requires)
    ∙ ap Some (sym size)
