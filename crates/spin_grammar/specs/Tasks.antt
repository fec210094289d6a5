-- What the deed of a lane asks for.
use Rattle.std.specs.Prelude.{◌≡◌, ◌<◌, ℕ, IsTrue}
use Rattle.spin_word.specs.declared.command.Op.TheVariants as op
use Rattle.spin_word.specs.declared.command.TheConstants.{LANE_LIMIT}
use Rattle.spin_word.specs.declared.work.Deed.TheVariants as deed
use Rattle.spin_word.specs.declared.work.Work.{Work}
use Rattle.spin_word.specs.declared.work.Work.TheVariants as work
use Rattle.spin_word.specs.Commands.{bare_command, is_command}
use Rattle.spin_grammar.specs.Forms.{spot_place, spot_before, spot_after, Task, Install, Remove}
use Rattle.spin_grammar.specs.Forms.{Replace, Default, NoDefault, Raise, Later, Packet}

-- what the deed of a lane asks for
abbrev pub work_of : (lane : ℕ) → Task → Work
work_of lane (Install e m h g s md) =
    work.Command (record (bare_command op.Install lane e m) {
      handler = h;
      guard = g;
      place = spot_place s;
      before = spot_before s;
      after = spot_after s;
      mode = md;
    })
work_of lane (Remove e m n) = work.Command (record (bare_command op.Remove lane e m) { target = n })
work_of lane (Replace e m n h g) =
    work.Command (record (bare_command op.Replace lane e m) { target = n; handler = h; guard = g })
work_of lane (Default e m h) = work.Command (record (bare_command op.Default lane e m) { handler = h })
work_of lane (NoDefault e m) = work.Command (bare_command op.NoDefault lane e m)
work_of lane (Raise e args) = work.Deed (deed.Raise e args)
work_of lane (Later e args) = work.Deed (deed.Later e args)
work_of lane (Packet e n) = work.Packet e n

-- the work is what this deed of the lane asks for
abbrev pub Asks : (lane : ℕ) → Work → Task → Type 0
Asks lane w t = w ≡ work_of lane t

-- a command is valid, where a command may name the lane
abbrev pub IsValidOn : (lane : ℕ) → Work → Type 0
IsValidOn lane (work.Command c) = lane < LANE_LIMIT → IsTrue (is_command c)
IsValidOn lane w = Unit {0}
