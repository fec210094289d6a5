use Rattle.std.proofs.Common.{inl, refl}
use Rattle.spin_natives.specs.Natives.{natives}
use Rattle.spin_inputs.specs.declared.end.End.TheVariants.{NoMemory}
use Rattle.spin_cli.proofs.StatusCauses.{with_natives}
use Rattle.spin_main.proofs.run_with_natives.Goals as goal

pub returns-in-Err : goal.returns-in-Err
returns-in-Err g c =
    (NoMemory, c.stop.ensures.status, inl (refl, record { ends = refl; tells = c.stop.ensures.line }))

pub returns-in-Err-natives_of : goal.returns-in-Err-natives_of
returns-in-Err-natives_of g c =
    (NoMemory, c.stop-in-Err-natives_of.ensures.status, inl (refl, record { ends = refl; tells = c.stop-in-Err-natives_of.ensures.line }))

pub returns : goal.returns
returns g c = with_natives natives _ c.in-Ok-natives_of.ensures.seen c.spin.ensures.table.status
