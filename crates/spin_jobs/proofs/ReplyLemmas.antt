-- Replies that the calls with the jobs' numbers gave are those to the jobs.
use Rattle.std.proofs.Common.{◌≡◌, ℕ, suc, ◌<◌, List, [], ◌∷◌, length, arith}
use Rattle.std.specs.Prelude.{slice_get, IsSomeAnd}
use Rattle.std.specs.List.{AllZip}
use Rattle.spin_table.specs.Setups.{SetupData}
use Rattle.spin_proto.specs.declared.deed.Job.{Job}
use Rattle.spin_proto.specs.declared.reply.Reply.{Reply}
use Rattle.spin_jobs.specs.Jobs.{IsReplyTo}
use Rattle.spin_jobs.specs.Inner.Numbered.{IsReplyAt}

-- place by place
zips : {A B : Type 0} (R : A → B → Type 0) (xs : List A) (ys : List B) → length ys ≡ length xs
    → ((k : ℕ) → k < length xs → IsSomeAnd (slice_get ys k) (λ y. IsSomeAnd (slice_get xs k) (λ x. R x y))) → AllZip R xs ys
zips R [] [] long h = tt
zips R [] (y ∷ ys) long h = absurd (omega arith)
zips R (x ∷ xs) [] long h = absurd (omega arith)
zips R (x ∷ xs) (y ∷ ys) long h = (h 0 (omega arith), zips R xs ys (omega arith) (λ k lt. h (suc k) (omega arith)))

pub answers : (d : SetupData) (jobs : List Job) (replies : List Reply) → length replies ≡ length jobs
    → ((k : ℕ) → k < length jobs → IsSomeAnd (slice_get replies k) (IsReplyAt d jobs k)) → AllZip (IsReplyTo d) jobs replies
answers d jobs replies long each = zips (IsReplyTo d) jobs replies long each
