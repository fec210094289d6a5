use Rattle.std.proofs.Common.{Result, Ok, Err, MatchResult, subst}
use Rattle.std.specs.Prelude.{IfOk}
use Rattle.spin_table.specs.SetupOf.{data_of}
use Rattle.spin_seat.specs.RenewedHubs.{AreAllSeats}
use Rattle.spin_tests.proofs.renewed_hubs.renewed.Goals as goal

if_ok : {A B : Type 0} (r : Result A B) (P : A → Type 0) (Q : B → Type 0) → MatchResult r P Q → IfOk r P
if_ok (Ok a) P Q h = h
if_ok (Err e) P Q h = tt

pub renew-requires-in-Err-NoMemory-clause-sincere : goal.renew-requires-in-Err-NoMemory-clause-sincere
renew-requires-in-Err-NoMemory-clause-sincere g c = rw c.in-Err-NoMemory.ensures.setup c.requires.sincere

pub renew-requires-in-Err-NoMemory-clause-all : goal.renew-requires-in-Err-NoMemory-clause-all
renew-requires-in-Err-NoMemory-clause-all g c = rw c.in-Err-NoMemory.ensures.setup c.in-Err-NoMemory.ensures.all

pub returns-in-Err-NoMemory-clause-all : goal.returns-in-Err-NoMemory-clause-all
returns-in-Err-NoMemory-clause-all g c =
    let d = data_of c.in-Err-NoMemory.field-0.hub.setup in
    subst (λ s. IfOk c.renew-in-Err-NoMemory.result (λ made. AreAllSeats (data_of s) made.hub.log made.seats)) c.in-Err-NoMemory.ensures.setup
    (if_ok c.renew-in-Err-NoMemory.result (λ made. AreAllSeats d made.hub.log made.seats) _ c.renew-in-Err-NoMemory.ensures.all)
