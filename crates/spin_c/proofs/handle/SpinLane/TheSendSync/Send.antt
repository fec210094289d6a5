-- What a handle owns may be used from any thread.
use denote.Param.Send.{IsSend}
use Rattle.spin_c.specs.contracts.handle.SpinLane.{the_row}
use Rattle.spin_c.proofs.Crossing.{handle_send}

pub send : IsSend the_row
send = handle_send
