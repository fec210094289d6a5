-- Bindings under other numbers are found, counted and judged alike.
use Rattle.std.proofs.Common.{◌≡◌, ℕ, ◌+◌, ◌<◌, ◌==◌, ◌⊎◌, Bool, true, false, not, ◌||◌, ◌&&◌, cond, eqb, List, [], ◌∷◌, length, map, refl, sym, ap, ◌∙◌, inl, inr, arith}
use Rattle.std.specs.Prelude.{Option, None, Some, is_some, if◌then◌else◌, nat_le}
use Rattle.std.specs.List.{list_any}
use Rattle.std.specs.Option.{option_map, option_map_or}
use Rattle.std.proofs.lemmas.Bool.{eq-eqb, ne_eqb}
use Rattle.std.proofs.lemmas.List.Elements.{All-head, All-tail}
use Rattle.std.proofs.lemmas.List.Sums.{sum_by-cons}
use Rattle.spin_word.specs.declared.command.Op.{Op}
use Rattle.spin_word.specs.declared.command.Op.TheVariants as op
use Rattle.spin_word.specs.declared.command.Mode.{Mode}
use Rattle.spin_word.specs.declared.command.Mode.TheVariants as mode
use Rattle.spin_word.specs.declared.command.Command.{Command}
use Rattle.spin_word.specs.Commands.{no_number, target_is_used}
use Rattle.spin_policy.specs.declared.rule.Request.{Request}
use Rattle.spin_policy.specs.declared.rule.Rule.{Rule}
use Rattle.spin_policy.specs.declared.rule.Verdict.{Verdict}
use Rattle.spin_policy.specs.declared.rule.Verdict.TheVariants as verdict
use Rattle.spin_policy.specs.Verdicts.{verdict_of, is_install}
use Rattle.spin_policy.specs.Imposed.{forces_apart}
use Rattle.spin_place.specs.declared.binding.Binding.{Binding}
use Rattle.spin_place.specs.Precedence.{numbers_of}
use Rattle.spin_table.specs.declared.event.EventDef.{EventDef}
use Rattle.spin_table.specs.declared.refusal.Refusal.{Refusal}
use Rattle.spin_table.specs.declared.refusal.Refusal.TheVariants as refusal
use Rattle.spin_table.specs.Setups.{SetupData, rules_of}
use Rattle.spin_table.specs.States.{binding_of, is_live, live_of}
use Rattle.spin_table.specs.Units.{has_wrong_mode, sets_argument}
use Rattle.spin_table.specs.Verdicts.{request_of, answer_to, is_denied, named_rule}
use Rattle.spin_table.specs.Refusals.{names_unknown, lacks_handler, lacks_guard, lacks_binding, has_wrong_type, goes_down, mode_of, of_handler, refusals_at}
use Rattle.spin_table.specs.Renamings.{Rises, renamed_or_none, renamed_command, StayNamed, IsRenamedBinding, AreRenamed}
use Rattle.spin_table.proofs.RenamedNumbers.{at_least, same_test, renamed_some, renamed_none}

-- both are there, the second under its other number, or neither is
abbrev pub AreBoth : (ℕ → ℕ) → Option Binding → Option Binding → Type 0
AreBoth to None None = Unit {0}
AreBoth to (Some b) (Some c) = IsRenamedBinding to b c
AreBoth to x y = ⊥

-- the other numbers are those of the bindings in their order
pub numbers_renamed : (to : ℕ → ℕ) (bs cs : List Binding) → AreRenamed to bs cs → numbers_of cs ≡ map to (numbers_of bs)
numbers_renamed to [] [] h = refl
numbers_renamed to [] (c ∷ cs) h = absurd h
numbers_renamed to (b ∷ bs) [] h = absurd h
numbers_renamed to (b ∷ bs) (c ∷ cs) h = ap (λ n. n ∷ numbers_of cs) h.0.number ∙ ap (λ ns. to b.number ∷ ns) (numbers_renamed to bs cs h.1)

pub length_renamed : (to : ℕ → ℕ) (bs cs : List Binding) → AreRenamed to bs cs → length cs ≡ length bs
length_renamed to [] [] h = refl
length_renamed to [] (c ∷ cs) h = absurd h
length_renamed to (b ∷ bs) [] h = absurd h
length_renamed to (b ∷ bs) (c ∷ cs) h = let rest = length_renamed to bs cs h.1 in omega arith

-- what isn't a number or a constraint is the same
pub same_rest : {X : Type 0} (to : ℕ → ℕ) (b c : Binding) (part : Binding → X)
    → (part (record b { number = c.number; before = c.before; after = c.after }) ≡ part b) → IsRenamedBinding to b c → part c ≡ part b
same_rest to b c part same h = ap part h.rest ∙ same

live_renamed : (to : ℕ → ℕ) (bs cs : List Binding) (requester : ℕ) → AreRenamed to bs cs → live_of cs requester ≡ live_of bs requester
live_renamed to [] [] requester h = refl
live_renamed to [] (c ∷ cs) requester h = absurd h
live_renamed to (b ∷ bs) [] requester h = absurd h
live_renamed to (b ∷ bs) (c ∷ cs) requester h =
    let is : c.requester ≡ b.requester = same_rest to b c (λ (x : Binding). x.requester) refl h.0 in
    let first : cond (c.requester == requester) 1 0 ≡ cond (b.requester == requester) 1 0 = ap (λ r. cond (r == requester) 1 0) is in
    let rest = live_renamed to bs cs requester h.1 in
    sum_by-cons (λ (x : Binding). cond (x.requester == requester) 1 0) c cs ∙ ap (λ n. n + live_of cs requester) first
    ∙ ap (λ n. cond (b.requester == requester) 1 0 + n) rest ∙ sym (sum_by-cons (λ (x : Binding). cond (x.requester == requester) 1 0) b bs)

found_one : (to : ℕ → ℕ) (b c : Binding) (x y : Option Binding) → IsRenamedBinding to b c → AreBoth to x y → (p q : Bool) → q ≡ p
    → AreBoth to (cond p (Some b) x) (cond q (Some c) y)
found_one to b c x y h r true true e = h
found_one to b c x y h r false false e = r
found_one to b c x y h r true false e = absurd (cc)
found_one to b c x y h r false true e = absurd (cc)

some_both : (to : ℕ → ℕ) (x y : Option Binding) → AreBoth to x y → is_some y ≡ is_some x
some_both to None None h = refl
some_both to None (Some c) h = absurd h
some_both to (Some b) None h = absurd h
some_both to (Some b) (Some c) h = refl

requester_both : (to : ℕ → ℕ) (x y : Option Binding) → AreBoth to x y → option_map (λ (b : Binding). b.requester) y ≡ option_map (λ (b : Binding). b.requester) x
requester_both to None None h = refl
requester_both to None (Some c) h = absurd h
requester_both to (Some b) None h = absurd h
requester_both to (Some b) (Some c) h = ap (λ n. Some n) (same_rest to b c (λ (x : Binding). x.requester) refl h)

mode_both : (to : ℕ → ℕ) (x y : Option Binding) → AreBoth to x y → option_map_or (λ (b : Binding). b.mode) y mode.Plain ≡ option_map_or (λ (b : Binding). b.mode) x mode.Plain
mode_both to None None h = refl
mode_both to None (Some c) h = absurd h
mode_both to (Some b) None h = absurd h
mode_both to (Some b) (Some c) h = same_rest to b c (λ (x : Binding). x.mode) refl h

module _ (to : ℕ → ℕ) (rises : Rises to) where
  -- a binding is found under its other number
  pub found_both : (bs cs : List Binding) (n : ℕ) → AreRenamed to bs cs → AreBoth to (binding_of bs n) (binding_of cs (to n))
  found_both [] [] n h = tt
  found_both [] (c ∷ cs) n h = absurd h
  found_both (b ∷ bs) [] n h = absurd h
  found_both (b ∷ bs) (c ∷ cs) n h =
      let test : eqb c.number (to n) ≡ eqb b.number n = ap (λ m. eqb m (to n)) h.0.number ∙ same_test to rises b.number n in
      found_one to b c (binding_of bs n) (binding_of cs (to n)) h.0 (found_both bs cs n h.1) (eqb b.number n) (eqb c.number (to n)) test

  live_both : (bs cs : List Binding) (n : ℕ) → AreRenamed to bs cs → is_live cs (to n) ≡ is_live bs n
  live_both bs cs n h = some_both to (binding_of bs n) (binding_of cs (to n)) (found_both bs cs n h)

  unknown_both : (bs cs : List Binding) (n : ℕ) → AreRenamed to bs cs → (n ≡ no_number) ⊎ (to n < no_number) → names_unknown cs (renamed_or_none to n) ≡ names_unknown bs n
  unknown_both bs cs n h (inl none) =
      let is = renamed_none to rises n none in
      let other : names_unknown cs (renamed_or_none to n) ≡ false =
      ap (λ b. not b && not (is_live cs (renamed_or_none to n))) (eq-eqb (renamed_or_none to n) no_number is) in
      other ∙ sym (ap (λ b. not b && not (is_live bs n)) (eq-eqb n no_number none))
  unknown_both bs cs n h (inr named) =
      let low = at_least to rises n in
      let is : renamed_or_none to n ≡ to n = renamed_some to rises n (λ e. absurd (omega arith)) in
      ap (names_unknown cs) is
      ∙ ap (λ b. not b && not (is_live cs (to n))) (ne_eqb (to n) no_number (λ e. absurd (omega arith)))
      ∙ ap not (live_both bs cs n h)
      ∙ sym (ap (λ b. not b && not (is_live bs n)) (ne_eqb n no_number (λ e. absurd (omega arith))))

  all_unknown_both : (bs cs : List Binding) (ns : List ℕ) → AreRenamed to bs cs → StayNamed to ns
      → list_any (names_unknown cs) (map (renamed_or_none to) ns) ≡ list_any (names_unknown bs) ns
  all_unknown_both bs cs [] h stay = refl
  all_unknown_both bs cs (n ∷ ns) h stay =
      let head = unknown_both bs cs n h (All-head (λ m. (m ≡ no_number) ⊎ (to m < no_number)) n ns stay) in
      let tail = all_unknown_both bs cs ns h (All-tail (λ m. (m ≡ no_number) ⊎ (to m < no_number)) n ns stay) in
      ap (λ b. b || list_any (names_unknown cs) (map (renamed_or_none to) ns)) head ∙ ap (λ b. names_unknown bs n || b) tail

  -- what is asked for is the same
  module _ (d : SetupData) (e : EventDef) (bs cs : List Binding) (c : Command) (h : AreRenamed to bs cs) where
    owner_both : (if target_is_used c.op then option_map (λ (b : Binding). b.requester) (binding_of cs (to c.target)) else None)
        ≡ (if target_is_used c.op then option_map (λ (b : Binding). b.requester) (binding_of bs c.target) else None)
    owner_both = ap (λ o. if target_is_used c.op then o else None) (requester_both to (binding_of bs c.target) (binding_of cs (to c.target)) (found_both bs cs c.target h))

    request_both : request_of cs (renamed_command to c) ≡ request_of bs c
    request_both =
        let request : Option ℕ → ℕ → Request = λ o n. record { op = c.op; requester = c.requester; handler = c.handler; target_owner = o; live = n } in
        ap (λ o. request o (live_of cs c.requester)) owner_both
        ∙ ap (λ n. request (if target_is_used c.op then option_map (λ (b : Binding). b.requester) (binding_of bs c.target) else None) n) (live_renamed to bs cs c.requester h)

    pub answer_both : (policies : List (List Rule)) → answer_to policies e cs (renamed_command to c) ≡ answer_to policies e bs c
    answer_both policies = ap (λ r. if c.requester == e.owner then verdict.Allow else verdict_of (rules_of policies e.authority) r) request_both

    mode_at : (o : Op) → mode_of cs (renamed_command to c) o ≡ mode_of bs c o
    mode_at op.Install = refl
    mode_at op.Replace = mode_both to (binding_of bs c.target) (binding_of cs (to c.target)) (found_both bs cs c.target h)
    mode_at op.Remove = refl
    mode_at op.Default = refl
    mode_at op.NoDefault = refl

    lacks_both : StayNamed to c.before → StayNamed to c.after → lacks_binding cs (renamed_command to c) ≡ lacks_binding bs c
    lacks_both before after =
        let some : Bool → Bool → Bool → Bool = λ live x y. target_is_used c.op && not live || x || y in
        ap (λ x. some x (list_any (names_unknown cs) (map (renamed_or_none to) c.before)) (list_any (names_unknown cs) (map (renamed_or_none to) c.after))) (live_both bs cs c.target h)
        ∙ ap (λ x. some (is_live bs c.target) x (list_any (names_unknown cs) (map (renamed_or_none to) c.after))) (all_unknown_both bs cs c.before h before)
        ∙ ap (λ x. some (is_live bs c.target) (list_any (names_unknown bs) c.before) x) (all_unknown_both bs cs c.after h after)

    -- the refusals, each with whether it applies, from what alone hangs on the bindings
    refusals : Bool → Mode → Verdict → ℕ → List (Bool × Refusal)
    refusals lacks m answer count =
        (nat_le d.modules c.requester, refusal.UnknownModule)
        ∷ (lacks_handler d.handlers c, refusal.UnknownHandler)
        ∷ (lacks_guard d.guards c, refusal.UnknownGuard)
        ∷ (lacks, refusal.UnknownBinding)
        ∷ (has_wrong_type d.handlers d.guards e c, refusal.WrongType)
        ∷ (goes_down d.handlers c, refusal.Downward)
        ∷ (of_handler d.handlers c (λ h. has_wrong_mode m h.act), refusal.WrongMode)
        ∷ (is_denied answer, refusal.Denied (named_rule answer))
        ∷ (is_install c.op && forces_apart (rules_of d.policies e.authority) answer && of_handler d.handlers c (λ h. sets_argument h.act), refusal.ForcedMode (named_rule answer))
        ∷ (is_install c.op && nat_le d.live count, refusal.TooMany)
        ∷ []

    -- the same refusals apply
    pub refusals_both : StayNamed to c.before → StayNamed to c.after → refusals_at d e cs (renamed_command to c) ≡ refusals_at d e bs c
    unfolding refusals
    refusals_both before after =
        ap (λ x. refusals x (mode_of cs (renamed_command to c) c.op) (answer_to d.policies e cs (renamed_command to c)) (length cs)) (lacks_both before after)
        ∙ ap (λ x. refusals (lacks_binding bs c) x (answer_to d.policies e cs (renamed_command to c)) (length cs)) (mode_at c.op)
        ∙ ap (λ x. refusals (lacks_binding bs c) (mode_of bs c c.op) x (length cs)) (answer_both d.policies)
        ∙ ap (λ x. refusals (lacks_binding bs c) (mode_of bs c c.op) (answer_to d.policies e bs c) x) (length_renamed to bs cs h)
