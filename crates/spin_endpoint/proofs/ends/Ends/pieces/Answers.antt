use Rattle.std.proofs.Common.{◌≡◌}
use Rattle.std.specs.Prelude.{Some}
use Rattle.std.proofs.lemmas.Option.{IfSome_then}
use Rattle.spin_endpoint.specs.Named.{NamedEnd}
use Rattle.spin_endpoint.proofs.EndpointChanges.{holds_at}
use Rattle.spin_endpoint.proofs.ends.Ends.pieces.Goals as goal

pub returns : goal.returns
returns g c =
    IfSome_then c.pieces.result c.pieces.ensures
    (λ pieces is. holds_at _ c.args.self.now.ends.items (λ (end : NamedEnd). end.object.pieces ≡ Some pieces.now) c.args.at c.index.result.now c.requires c.index.ensures is)
