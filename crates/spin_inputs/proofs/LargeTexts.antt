-- What the language of scripts says of a text that is too large.
use Rattle.std.proofs.Common.{◌<◌, ℕ, List, length, refl}
use Rattle.spin_grammar.specs.declared.cause.Cause.TheVariants as cause
use Rattle.spin_script.specs.declared.script.ScriptFault.TheVariants as fault
use Rattle.spin_script.specs.States.{NativeData}
use Rattle.spin_script.specs.Scripts.{IsBad}
use Rattle.spin_script.proofs.ScriptReading.{too_large}

pub bad_as_a_whole : (natives : NativeData) (text : List ℕ) → 1048576 < length text → IsBad natives text (fault.Bad 0 1)
bad_as_a_whole natives text long = (cause.TooLarge, too_large natives text long, refl)
