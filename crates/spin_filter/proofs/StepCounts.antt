-- The counts of what happened, with one step more.
use Rattle.std.proofs.Common.{◌≡◌, ◌+◌, ℕ, Bool, true, false, cond, not, ◌&&◌, ◌||◌, List, [], ◌∷◌, ◌++◌, All, map, Option, Some, None, refl, sym, ap, subst, ◌∙◌, arith}
use Rattle.std.specs.Prelude.{count_by}
use Rattle.std.specs.List.{filter_map}
use Rattle.std.specs.Option.{option_to_list}
use Rattle.std.proofs.lemmas.List.{append-nil}
use Rattle.std.proofs.lemmas.List.Elements.{filter_map-append}
use Rattle.spin_proto.specs.declared.reply.Step.{Step}
use Rattle.spin_proto.specs.declared.reply.Step.TheVariants as step
use Rattle.spin_filter.specs.declared.hits.Hit.{Hit}
use Rattle.spin_filter.specs.declared.counts.Counts.{Counts}
use Rattle.spin_filter.specs.Counting.{BindingAt, binding_of, capped, Tells, Marked, Happened, IsHit, AreCounts, with_step, is_run, is_run_of, is_left_of, dropped_by, sent_to, runs_in, lets_in}
use Rattle.spin_filter.proofs.Tallies.{count-more}

pub quiet-runs : (n : ℕ) (b : Bool) → b ≡ false → capped n ≡ capped (n + cond b 1 0)
quiet-runs n b is = ap (λ k. capped k) (same ∙ ap (λ c. n + cond c 1 0) (sym is)) where
  same : n ≡ n + 0
  same = omega arith

pub loud-runs : (n : ℕ) (b : Bool) → b ≡ true → capped (n + 1) ≡ capped (n + cond b 1 0)
loud-runs n b is = ap (λ c. capped (n + cond c 1 0)) (sym is)

-- what a number more is, if one comes
more_of : {X : Type 0} (f : X → Option ℕ) (xs : List X) (x : X) → filter_map f (xs ++ x ∷ []) ≡ filter_map f xs ++ option_to_list (f x)
more_of f xs x = filter_map-append f xs (x ∷ []) ∙ ap (λ ys. filter_map f xs ++ ys) (one (f x)) where
  one : (o : Option ℕ) → filter_map (λ (p : Option ℕ). p) (o ∷ []) ≡ option_to_list o
  one None = refl
  one (Some n) = refl

pub quiet-tells : (numbers tally : List ℕ) (o : Option ℕ) → o ≡ None → Tells numbers tally → Tells (numbers ++ option_to_list o) tally
quiet-tells numbers tally o is tells = subst (λ (ns : List ℕ). Tells ns tally) (sym (ap (λ p. numbers ++ option_to_list p) is ∙ append-nil numbers)) tells

pub loud-tells : (numbers tally : List ℕ) (o : Option ℕ) (n : ℕ) → o ≡ Some n → Tells (numbers ++ n ∷ []) tally → Tells (numbers ++ option_to_list o) tally
loud-tells numbers tally o n is tells = subst (λ (p : Option ℕ). Tells (numbers ++ option_to_list p) tally) (sym is) tells

-- a hit of a binding of which the step tells nothing
quiet-hit : (steps : List Marked) (m : Marked) (hit : Hit) → is_run_of hit.event hit.number m.taken ≡ false → is_left_of hit.event hit.number m.taken ≡ false
    → IsHit steps hit → IsHit (steps ++ m ∷ []) hit
quiet-hit steps m hit run left is =
    let lets : ((not m.first && is_run_of hit.event hit.number m.taken) || is_left_of hit.event hit.number m.taken) ≡ false =
    ap (λ b. (not m.first && b) || is_left_of hit.event hit.number m.taken) run ∙ ap (λ b. (not m.first && false) || b) left ∙ never (not m.first) in
    record {
      runs = is.runs ∙ ap (λ n. capped n) (sym (count-more (λ (s : Marked). is_run_of hit.event hit.number s.taken) steps m ∙ ap (λ b. runs_in hit.event hit.number steps + cond b 1 0) run ∙ omega arith));
      lets = is.lets ∙ ap (λ n. capped n) (sym (count-more (λ (s : Marked). (not s.first && is_run_of hit.event hit.number s.taken) || is_left_of hit.event hit.number s.taken) steps m
          ∙ ap (λ b. lets_in hit.event hit.number steps + cond b 1 0) lets ∙ omega arith));
    } where
      never : (b : Bool) → ((b && false) || false) ≡ false
      never true = refl
      never false = refl

-- a step that runs no binding, and leaves none to a job
pub quiet-hits : (steps : List Marked) (m : Marked) (hits : List Hit) → ((event number : ℕ) → is_run_of event number m.taken ≡ false)
    → ((event number : ℕ) → is_left_of event number m.taken ≡ false) → All (IsHit steps) hits → All (IsHit (steps ++ m ∷ [])) hits
quiet-hits steps m hits run left all k d lt = quiet-hit steps m _ (run _ _) (left _ _) (all k d lt)

pub step-counted : (listed : List BindingAt) (h : Happened) (m : Marked) (c c' : Counts) → AreCounts listed h c → c'.records ≡ c.records → c'.outcomes ≡ c.outcomes → c'.jobs ≡ c.jobs → c'.lost ≡ c.lost
    → c'.runs ≡ capped (count_by (λ (s : Marked). is_run s.taken) h.steps + cond (is_run m.taken) 1 0)
    → Tells (filter_map (λ (s : Marked). dropped_by s.taken) h.steps ++ option_to_list (dropped_by m.taken)) c'.drops
    → Tells (filter_map (λ (s : Marked). sent_to s.taken) h.steps ++ option_to_list (sent_to m.taken)) c'.sends
    → All (IsHit (h.steps ++ m ∷ [])) c'.hits.items → map binding_of c'.hits.items ≡ map binding_of c.hits.items → AreCounts listed (with_step m h) c'
step-counted listed h m c c' is records outcomes jobs lost runs drops sends hits same = record {
  records = records ∙ is.records;
  outcomes = subst (λ (t : List ℕ). Tells h.outcomes t) (sym outcomes) is.outcomes;
  jobs = jobs ∙ is.jobs;
  runs = runs ∙ ap (λ n. capped n) (sym (count-more (λ (s : Marked). is_run s.taken) h.steps m));
  drops = subst (λ (ns : List ℕ). Tells ns c'.drops) (sym (more_of (λ (s : Marked). dropped_by s.taken) h.steps m)) drops;
  sends = subst (λ (ns : List ℕ). Tells ns c'.sends) (sym (more_of (λ (s : Marked). sent_to s.taken) h.steps m)) sends;
  lost = subst (λ (t : List ℕ). Tells h.lost t) (sym lost) is.lost;
  hits = hits;
  listed_are = same ∙ is.listed_are;
}

-- ---- a step that is not counted

pub record IsQuiet (s : Step) : Type 0 where
  pub run : is_run s ≡ false
  pub drop : dropped_by s ≡ None
  pub send : sent_to s ≡ None
  pub run_of : (event number : ℕ) → is_run_of event number s ≡ false
  pub left_of : (event number : ℕ) → is_left_of event number s ≡ false

pub quiet-other : (s : Step) → ((event number : ℕ) → s ≡ step.Run event number → ⊥) → ((endpoint : ℕ) (bytes : List ℕ) → s ≡ step.Send endpoint bytes → ⊥)
    → ((fault : _) → s ≡ step.Dropped fault → ⊥) → ((event number : ℕ) → s ≡ step.Job event number → ⊥) → IsQuiet s
quiet-other (step.Run event number) run send drop job = absurd (run event number refl)
quiet-other (step.Result n) run send drop job = record { run = refl; drop = refl; send = refl; run_of = λ _ _. refl; left_of = λ _ _. refl }
quiet-other (step.Send endpoint bytes) run send drop job = absurd (send endpoint bytes refl)
quiet-other (step.Up event) run send drop job = record { run = refl; drop = refl; send = refl; run_of = λ _ _. refl; left_of = λ _ _. refl }
quiet-other (step.Back answer) run send drop job = record { run = refl; drop = refl; send = refl; run_of = λ _ _. refl; left_of = λ _ _. refl }
quiet-other (step.Dropped fault) run send drop job = absurd (drop fault refl)
quiet-other (step.Job event number) run send drop job = absurd (job event number refl)

-- hits of the same binding
pub same-binding : (a b : Hit) → a.event ≡ b.event → a.number ≡ b.number → binding_of a ≡ binding_of b
same-binding a b event number =
    let at : ℕ → ℕ → BindingAt = λ e n. record { event = e; number = n } in
    ap (λ e. at e a.number) event ∙ ap (λ n. at b.event n) number
