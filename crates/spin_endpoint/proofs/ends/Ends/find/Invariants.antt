use Rattle.std.proofs.Common.{◌≡◌, false}
use Rattle.std.specs.Prelude.{bytes_eq, ◌&&◌}
use Rattle.std.specs.List.{AllWithin}
use Rattle.spin_endpoint.proofs.ends.Ends.find.Given as goal

-- none of the endpoints so far stands under the name
abbrev pub invariant-loop-at : goal.invariant-loop-at
invariant-loop-at g l = AllWithin (λ e. (e.stands && bytes_eq e.name l.name) ≡ false) l.end-items 0 l.at
