use Rattle.std.proofs.Common.{refl}
use Rattle.std.specs.Prelude.{option_map}
use Rattle.spin_check.specs.RunTexts.{capture_of}
use Rattle.spin_inputs.specs.declared.end.End.TheVariants.{NoMemory}
use Rattle.spin_commands.proofs.CheckCauses.{not_captured, not_reported, was_answered}
use Rattle.spin_commands.proofs.check.check_script.Goals as goal

pub returns-in-Err : goal.returns-in-Err
returns-in-Err g c natives before name stood loaded =
    (c.in-Err.end, c.stop.ensures.status, not_captured _ _ _ _ _ _ _ _ c.in-Err.end stood loaded c.in-Err.ensures.refused (record { ends = refl; tells = c.stop.ensures.line }))

pub returns-in-Err-report_of : goal.returns-in-Err-report_of
returns-in-Err-report_of g c natives before name stood loaded = (
  c.in-Err-report_of.end,
  c.stop-in-Err-report_of.ensures.status,
  not_reported _ _ _ _ _ _ _ _ _ (option_map capture_of c.in-Ok.capture) c.in-Err-report_of.end
      stood loaded c.in-Ok.ensures.stood c.in-Ok.ensures.read c.in-Err-report_of.ensures.refused (record { ends = refl; tells = c.stop-in-Err-report_of.ensures.line }),
)

pub returns-in-Err-is_of_history : goal.returns-in-Err-is_of_history
returns-in-Err-is_of_history g c natives before name stood loaded = (
  NoMemory,
  c.stop-in-Err-is_of_history.ensures.status,
  not_reported _ _ _ _ _ _ _ _ _ (option_map capture_of c.in-Ok.capture) NoMemory
      stood loaded c.in-Ok.ensures.stood c.in-Ok.ensures.read c.in-Ok-report_of.ensures.stood (record { ends = refl; tells = c.stop-in-Err-is_of_history.ensures.line }),
)

pub returns : goal.returns
returns g c natives before name stood loaded =
    let judged = rw c.as_slice.ensures at c.in-Ok-is_of_history.ensures in (
      c.tell-end.result,
      c.stop-2.ensures.status,
      was_answered _ _ _ _ _ _ c.in-Ok-is_of_history.yes c.tell-end.result record {
        mid = _;
        behind = _;
        script = _;
        capture = option_map capture_of c.in-Ok.capture;
        text = _;
        stood = stood;
        loaded = loaded;
        stood_on = c.in-Ok.ensures.stood;
        captured = c.in-Ok.ensures.read;
        stood_last = c.in-Ok-report_of.ensures.stood;
        read = c.in-Ok-report_of.ensures.read;
        few = c.in-Ok-report_of.ensures.few;
      } judged record { sink = _; tells = c.tell-end.ensures; line = c.stop-2.ensures.line } refl,
    )
