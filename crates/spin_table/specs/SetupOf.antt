-- What contracts see of a setup.
use Rattle.spin_table.specs.declared.setup.Setup.{Setup}
use Rattle.spin_table.specs.Setups.{SetupData}
use Rattle.spin_table.specs.Catalogues.{data_from}

-- Below, A and B, C and D, E and F are the kinds of the boxed handlers, guards and authorisers.
abbrev pub data_of : {A C E : Type 0} {B : A → Type 0} {D : C → Type 0} {F : E → Type 0}
    → Setup A C E B D F → SetupData
data_of s = data_from s.modules s.live s.events s.catalogue
