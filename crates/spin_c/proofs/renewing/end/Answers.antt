use Rattle.std.proofs.Common.{ap, inl, inr, refl}
use Rattle.spin_c.specs.declared.lane.Held.TheVariants as held
use Rattle.spin_c.proofs.renewing.end.Goals as goal

pub returns-in-Some-clause-ends : goal.returns-in-Some-clause-ends
returns-in-Some-clause-ends g c = record { whole = c.gather.new.lane; taken = c.gather.ensures.taken; ends = inl (refl, c.in-Some.ensures) }

pub returns-in_default-new-clause-ends : goal.returns-in_default-new-clause-ends
returns-in_default-new-clause-ends g c = record { whole = c.gather.new.lane; taken = c.gather.ensures.taken; ends = inr (c.in_default.ensures, refl) }

pub returns-in-Ok-close_whole-clause-ends : goal.returns-in-Ok-close_whole-clause-ends
returns-in-Ok-close_whole-clause-ends g c = record {
  whole = c.gather.new.lane;
  taken = c.gather.ensures.taken;
  ends = inr (c.in_default.ensures, (c.in-Ok-close_whole.ensures.ok.0, c.len-count.ensures));
}

pub returns-in-Err-clause-well : goal.returns-in-Err-clause-well
returns-in-Err-clause-well g c = rw c.in-Err.ensures.err c.gather.ensures.well

pub returns-in-Err-clause-ends : goal.returns-in-Err-clause-ends
returns-in-Err-clause-ends g c =
    record { whole = c.gather.new.lane; taken = c.gather.ensures.taken; ends = inl (ap (λ l. held.Lane l) c.in-Err.ensures.err, c.in_default.ensures) }
