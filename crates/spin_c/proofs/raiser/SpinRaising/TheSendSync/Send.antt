-- What a handle owns may be used from any thread.
use denote.Param.Send.{IsSend}
use Rattle.spin_c.specs.contracts.raiser.SpinRaising.{the_row}
use Rattle.spin_c.proofs.RaisingCrossing.{raiser_send}

pub send : IsSend the_row
send = raiser_send
