-- What is asked of each use of an argument.
use Rattle.std.specs.Prelude.{Bool, List}
use Rattle.spin_values.specs.declared.types.Param.{Param}
use Rattle.spin_code.specs.declared.uses.Asked.{Asked}
use Rattle.spin_code.specs.declared.uses.Asked.TheVariants.{Known, Right}
use Rattle.spin_code.specs.Uses.{Use, is_known, is_right}

-- whether the parameters give what is asked of the use
abbrev pub passes : Asked → List Param → Use → Bool
passes Known = is_known
passes Right = is_right
