-- What the caller has gathered, worker by worker.
use Rattle.std.proofs.Common.{◌≡◌, ◌==◌, ℕ, ◌+◌, ◌<◌, Bool, List, [], ◌∷◌, ◌++◌, if◌then◌else◌, sym, ap, ◌∙◌, arith}
use Rattle.std.proofs.lemmas.Bool.Decides.{nat_tests}
use Rattle.std.proofs.lemmas.List.{map-append}
use Rattle.std.proofs.lemmas.List.Elements.{All-append}
use Rattle.std.proofs.lemmas.List.Sums.{sum_by-append, sum_by_push}
use Rattle.spin_jobs.specs.declared.claim.Claim.{Claim}
use Rattle.spin_jobs.specs.declared.worker.Done.{Done}
use Rattle.spin_jobs.specs.declared.worker.Worker.{Worker}
use Rattle.spin_jobs.specs.Claims.{times, together, once_below}
use Rattle.spin_jobs.specs.Inner.Numbered.{Outcomes}
use Rattle.spin_jobs.specs.Inner.Workers.{IsRight, numbers, Ended, ClaimedAll, Gathered, PastEnd}
use Rattle.spin_jobs.specs.Inner.Places.{EachOnce}

abbrev one_if : Bool → ℕ
one_if b = if b then 1 else 0

-- a worker's numbers: those of what it did, and one that is no job's
times_ended : (x last : ℕ) (claimed done : List ℕ) → claimed ≡ done ++ last ∷ [] → times x claimed ≡ times x done + one_if (last == x)
times_ended x last claimed done e = ap (times x) e ∙ sum_by_push (λ y. one_if (y == x)) done last

pub gathers : (may : Outcomes) (count : ℕ) (v : Claim) (done : List Done) (w : Worker) → Ended may count w
    → ClaimedAll count w → Gathered may count v done → Gathered may count (together v w.seat.me.0) (done ++ w.done.items)
gathers may count v done w e all g =
    record {
      right = All-append (IsRight may count) done w.done.items g.right e.right;
      same = λ x lt.
          let both = sum_by-append (λ y. one_if (y == x)) v.claimed w.seat.me.0.claimed in
          let theirs = times_ended x all.0 w.seat.me.0.claimed (numbers w.done.items) all.2 in
          let past : one_if (all.0 == x) ≡ 0 = let le = all.1 in grind (arith, nat_tests) in
          let ours = g.same x lt in
          let joined : times x (numbers (done ++ w.done.items)) ≡ times x (numbers done) + times x (numbers w.done.items) =
          ap (times x) (map-append (λ d. d.number) done w.done.items) ∙ sum_by-append (λ y. one_if (y == x)) (numbers done) (numbers w.done.items) in
          omega arith;
    }

pub past_end : (count : ℕ) (v : Claim) (w : Worker) → ClaimedAll count w → PastEnd count (together v w.seat.me.0)
past_end count v w all =
    let both = sum_by-append (λ y. one_if (y == all.0)) v.claimed w.seat.me.0.claimed in
    let theirs = times_ended all.0 all.0 w.seat.me.0.claimed (numbers w.done.items) all.2 in
    let self : one_if (all.0 == all.0) ≡ 1 = grind (arith, nat_tests) in
    (all.0, all.1, omega arith)

-- where each number below the word was claimed once, and one past the jobs was claimed, each job was done once
pub all_done : (may : Outcomes) (count : ℕ) (v : Claim) (done : List Done) (word : ℕ) → Gathered may count v done
    → PastEnd count v → ((x : ℕ) → times x v.claimed ≡ once_below x word) → EachOnce count (numbers done)
all_done may count v done word g past once = λ k lt.
    let top = once past.0 in
    let some_top = past.2 in
    let far : 0 < once_below past.0 word → past.0 < word = λ h. grind (arith, nat_tests) in
    let low : past.0 < word = far (omega arith) in
    let near : k < word = let le = past.1 in omega arith in
    let here : once_below k word ≡ 1 = grind (arith, nat_tests) in
    sym (g.same k lt) ∙ once k ∙ here
