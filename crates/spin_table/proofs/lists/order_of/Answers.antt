use Rattle.spin_table.proofs.lists.order_of.Goals as goal

pub returns-in-Err-Conflict : goal.returns-in-Err-Conflict
returns-in-Err-Conflict c =
    let cycle = rw c.in-Err-Conflict.field-0-is at c.in-Err-Conflict.ensures.cycle in
    let unlawful = rw c.in-Err-Conflict.field-0-is at c.in-Err-Conflict.ensures.unlawful in
    (cycle, λ h. unlawful h.0 h.1)
