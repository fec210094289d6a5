-- What a renewal that fails is told as.
use Rattle.spin_seat.specs.declared.renewal.RenewFault.{RenewFault}
use Rattle.spin_seat.specs.declared.renewal.RenewFault.TheVariants as fault
use Rattle.spin_c.specs.declared.lane.Lane.{Lane}
use Rattle.spin_c.specs.Renewing.{IsUnrenewed, RenewsAll, fault_told}

pub unrenewed_told : {A C E : Type 0} {B : A → Type 0} {D : C → Type 0} {F : E → Type 0} (l after : Lane A C E B D F) (why : RenewFault)
    → IsUnrenewed l why after → RenewsAll l after (fault_told why)
unrenewed_told l after fault.Full un = un
unrenewed_told l after fault.NoMemory un = un
