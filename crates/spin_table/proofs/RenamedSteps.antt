-- Commands are judged alike where bindings have other numbers.
use Rattle.std.proofs.Common.{◌≡◌, ℕ, ◌+◌, ◌<◌, ◌≤◌, ◌==◌, Bool, true, false, not, cond, eqb, List, [], ◌∷◌, ◌++◌, length, map, refl, sym, ap, subst, ◌∙◌, inl, inr, arith}
use Rattle.std.specs.Prelude.{filter, slice_get, slice_set, Option, None, Some, MatchOption, if◌then◌else◌}
use Rattle.std.proofs.lemmas.Bool.{cases_eq}
use Rattle.std.proofs.lemmas.List.{length-set}
use Rattle.std.proofs.lemmas.Option.{slice_get_within, slice_get_cases, same_Some}
use Rattle.spin_word.specs.declared.command.Op.{Op}
use Rattle.spin_word.specs.declared.command.Op.TheVariants as op
use Rattle.spin_word.specs.declared.command.Command.{Command}
use Rattle.spin_word.specs.Commands.{no_number}
use Rattle.spin_policy.specs.declared.rule.Forced.{Forced}
use Rattle.spin_policy.specs.declared.rule.Forced.TheVariants as forced
use Rattle.spin_policy.specs.declared.rule.Rule.{Rule}
use Rattle.spin_policy.specs.declared.rule.Verdict.{Verdict}
use Rattle.spin_policy.specs.Imposed.{forced_place}
use Rattle.spin_values.specs.First.{first_of}
use Rattle.spin_place.specs.declared.binding.Binding.{Binding}
use Rattle.spin_table.specs.declared.event.EventDef.{EventDef}
use Rattle.spin_table.specs.declared.refusal.Refusal.{Refusal}
use Rattle.spin_table.specs.declared.refusal.Refusal.TheVariants as refusal
use Rattle.spin_table.specs.declared.refusal.Verdicted.{Verdicted}
use Rattle.spin_table.specs.declared.refusal.Verdicted.TheVariants as verdicted
use Rattle.spin_table.specs.Setups.{SetupData, rules_of}
use Rattle.spin_table.specs.States.{State, EventState}
use Rattle.spin_table.specs.Verdicts.{answer_to}
use Rattle.spin_table.specs.Refusals.{refusals_at, refusal_on, refusal_of}
use Rattle.spin_table.specs.Steps.{no_numbers, numbers_under, installed, replaced, replaced_at, bindings_after, default_after}
use Rattle.spin_table.specs.Steps.{event_after, state_after, bindings_at, IsOrderly, IsConflict, ChangesTo}
use Rattle.spin_table.specs.Renamings.{Rises, renamed_or_none, renamed_command, StayNamed, renamed_refusal, renamed_verdict}
use Rattle.spin_table.specs.Renamings.{NameAlike, IsRenamedBinding, AreRenamed, IsRenamedEvent, IsRenamed, StepsAreRenamed}
use Rattle.spin_table.proofs.RenamedNumbers.{same_test, names_renamed}
use Rattle.spin_table.proofs.RenamedBindings.{refusals_both, answer_both}
use Rattle.spin_table.proofs.RenamedOrders.{orderly_to, cycle_to}
use Rattle.spin_table.proofs.CommandSteps.{slice_get-set_same, at_set, events, next_bindings}

appended : (to : ℕ → ℕ) (bs cs : List Binding) (b c : Binding) → AreRenamed to bs cs → IsRenamedBinding to b c → AreRenamed to (bs ++ b ∷ []) (cs ++ c ∷ [])
appended to [] [] b c h one = (one, tt)
appended to [] (y ∷ cs) b c h one = absurd h
appended to (x ∷ bs) [] b c h one = absurd h
appended to (x ∷ bs) (y ∷ cs) b c h one = (h.0, appended to bs cs b c h.1 one)

kept_one : (to : ℕ → ℕ) (b c : Binding) (bs cs : List Binding) → IsRenamedBinding to b c → AreRenamed to bs cs → (p q : Bool) → q ≡ p
    → AreRenamed to (cond (not p) (b ∷ bs) bs) (cond (not q) (c ∷ cs) cs)
kept_one to b c bs cs one h true true e = h
kept_one to b c bs cs one h false false e = (one, h)
kept_one to b c bs cs one h true false e = absurd (cc)
kept_one to b c bs cs one h false true e = absurd (cc)

chosen : (to : ℕ → ℕ) (b c x y : Binding) → IsRenamedBinding to b c → IsRenamedBinding to x y → (p q : Bool) → q ≡ p → IsRenamedBinding to (if p then x else b) (if q then y else c)
chosen to b c x y h g true true e = g
chosen to b c x y h g false false e = h
chosen to b c x y h g true false e = absurd (cc)
chosen to b c x y h g false true e = absurd (cc)

default_both : (c : Command) (to : ℕ → ℕ) (o : Op) (m n : ℕ) → m ≡ n → default_after (renamed_command to c) o m ≡ default_after c o n
default_both c to op.Install m n e = e
default_both c to op.Remove m n e = e
default_both c to op.Replace m n e = e
default_both c to op.Default m n e = refl
default_both c to op.NoDefault m n e = refl

module _ (to : ℕ → ℕ) (rises : Rises to) (c : Command) where
  under_both : (f : Forced) (ns : List ℕ) → NameAlike to (numbers_under f ns) (numbers_under f (map (renamed_or_none to) ns))
  under_both forced.Keep ns = names_renamed to rises ns
  under_both forced.First ns = names_renamed to rises no_numbers
  under_both forced.Last ns = names_renamed to rises no_numbers

  installed_both : (rules : List Rule) (v : Verdict) (m n : ℕ) → to m ≡ n → 0 < m → n < no_number → IsRenamedBinding to (installed rules v m c) (installed rules v n (renamed_command to c))
  installed_both rules v m n number some named = record {
    number = sym number;
    some = some;
    named = named;
    before = under_both (forced_place rules v) c.before;
    after = under_both (forced_place rules v) c.after;
    rest = refl;
  }

  replaced_both : (rules : List Rule) (v : Verdict) (b b' : Binding) → IsRenamedBinding to b b' → IsRenamedBinding to (replaced rules v c b) (replaced rules v (renamed_command to c) b')
  replaced_both rules v b b' h = record {
    number = h.number;
    some = h.some;
    named = h.named;
    before = h.before;
    after = h.after;
    rest = ap (λ (x : Binding). replaced rules v c x) h.rest;
  }

  same_target : (b b' : Binding) → IsRenamedBinding to b b' → eqb b'.number (to c.target) ≡ eqb b.number c.target
  same_target b b' h = ap (λ n. eqb n (to c.target)) h.number ∙ same_test to rises b.number c.target

  left_both : (bs cs : List Binding) → AreRenamed to bs cs → AreRenamed to (filter (λ b. not (b.number == c.target)) bs) (filter (λ b. not (b.number == to c.target)) cs)
  left_both [] [] h = tt
  left_both [] (y ∷ cs) h = absurd h
  left_both (x ∷ bs) [] h = absurd h
  left_both (x ∷ bs) (y ∷ cs) h =
      kept_one to x y (filter (λ b. not (b.number == c.target)) bs) (filter (λ b. not (b.number == to c.target)) cs) h.0
      (left_both bs cs h.1) (eqb x.number c.target) (eqb y.number (to c.target)) (same_target x y h.0)

  changed_both : (rules : List Rule) (v : Verdict) (bs cs : List Binding) → AreRenamed to bs cs → AreRenamed to (map (replaced_at rules v c) bs) (map (replaced_at rules v (renamed_command to c)) cs)
  changed_both rules v [] [] h = tt
  changed_both rules v [] (y ∷ cs) h = absurd h
  changed_both rules v (x ∷ bs) [] h = absurd h
  changed_both rules v (x ∷ bs) (y ∷ cs) h = (
    chosen to x y (replaced rules v c x) (replaced rules v (renamed_command to c) y) h.0 (replaced_both rules v x y h.0) (eqb x.number c.target) (eqb y.number (to c.target)) (same_target x y h.0),
    changed_both rules v bs cs h.1,
  )

  -- the bindings after the command
  after_both : (rules : List Rule) (v : Verdict) (m n : ℕ) (o : Op) (bs cs : List Binding) → to m ≡ n → 0 < m → n < no_number → AreRenamed to bs cs
      → AreRenamed to (bindings_after rules v m c o bs) (bindings_after rules v n (renamed_command to c) o cs)
  after_both rules v m n op.Install bs cs number some named h = appended to bs cs (installed rules v m c) (installed rules v n (renamed_command to c)) h (installed_both rules v m n number some named)
  after_both rules v m n op.Remove bs cs number some named h = left_both bs cs h
  after_both rules v m n op.Replace bs cs number some named h = changed_both rules v bs cs h
  after_both rules v m n op.Default bs cs number some named h = h
  after_both rules v m n op.NoDefault bs cs number some named h = h

  event_both : (policies : List (List Rule)) (def : EventDef) (m n : ℕ) (e f : EventState) → to m ≡ n → 0 < m → n < no_number → (d : SetupData) → IsRenamedEvent to e f
      → IsRenamedEvent to (event_after policies def m c e) (event_after policies def n (renamed_command to c) f)
  event_both policies def m n e f number some named d h =
      let rules = rules_of policies def.authority in
      let same = answer_both to rises d def e.bindings f.bindings c h.bindings policies in
      record {
        bindings =
            subst (λ v. AreRenamed to (bindings_after rules (answer_to policies def e.bindings c) m c c.op e.bindings) (bindings_after rules v n (renamed_command to c) c.op f.bindings)) (sym same)
            (after_both rules (answer_to policies def e.bindings c) m n c.op e.bindings f.bindings number some named h.bindings);
        default = default_both c to c.op f.default e.default h.default;
      }

  orderly_both : (o : Op) (bs cs : List Binding) → AreRenamed to bs cs → IsOrderly o bs → IsOrderly o cs
  orderly_both op.Install bs cs h order = orderly_to to rises bs cs h order
  orderly_both op.Remove bs cs h order = tt
  orderly_both op.Replace bs cs h order = tt
  orderly_both op.Default bs cs h order = tt
  orderly_both op.NoDefault bs cs h order = tt

  conflict_both : (o : Op) (bs cs : List Binding) (r : Refusal) → AreRenamed to bs cs → IsConflict o bs r → IsConflict o cs (renamed_refusal to r)
  conflict_both op.Install bs cs (refusal.Conflict ns) h cycle = cycle_to to rises bs cs h ns cycle
  conflict_both op.Install bs cs refusal.UnknownEvent h is = absurd is
  conflict_both op.Install bs cs refusal.UnknownModule h is = absurd is
  conflict_both op.Install bs cs refusal.UnknownHandler h is = absurd is
  conflict_both op.Install bs cs refusal.UnknownGuard h is = absurd is
  conflict_both op.Install bs cs refusal.UnknownBinding h is = absurd is
  conflict_both op.Install bs cs refusal.WrongType h is = absurd is
  conflict_both op.Install bs cs refusal.Downward h is = absurd is
  conflict_both op.Install bs cs refusal.WrongMode h is = absurd is
  conflict_both op.Install bs cs (refusal.Denied rule) h is = absurd is
  conflict_both op.Install bs cs refusal.TooMany h is = absurd is
  conflict_both op.Install bs cs (refusal.ForcedMode rule) h is = absurd is
  conflict_both op.Remove bs cs r h is = absurd is
  conflict_both op.Replace bs cs r h is = absurd is
  conflict_both op.Default bs cs r h is = absurd is
  conflict_both op.NoDefault bs cs r h is = absurd is

-- a refusal that isn't a conflict names no binding
abbrev AllNameNone : (ℕ → ℕ) → List (Bool × Refusal) → Type 0
AllNameNone to [] = Unit {0}
AllNameNone to (x ∷ xs) = (renamed_refusal to x.1 ≡ x.1) × AllNameNone to xs

first_names_none : (to : ℕ → ℕ) (xs : List (Bool × Refusal)) → AllNameNone to xs → (r : Refusal) → first_of xs ≡ Some r → renamed_refusal to r ≡ r
first_names_none to [] all r is = absurd (cc (is))
first_names_none to ((true, x) ∷ xs) all r is = let e = same_Some _ _ is in ap (renamed_refusal to) (sym e) ∙ all.0 ∙ e
first_names_none to ((false, x) ∷ xs) all r is = first_names_none to xs all.1 r is

names_none : (to : ℕ → ℕ) (d : SetupData) (e : EventDef) (bs : List Binding) (c : Command) (r : Refusal) → first_of (refusals_at d e bs c) ≡ Some r → renamed_refusal to r ≡ r
names_none to d e bs c r is =
    first_names_none to (refusals_at d e bs c) (refl, (refl, (refl, (refl, (refl, (refl, (refl, (refl, (refl, (refl, tt)))))))))) r is

refused_on : (to : ℕ → ℕ) (d : SetupData) (c : Command) (o : Option EventDef) (p : Option EventState) (r : Refusal) → refusal_on d c o p ≡ Some r → renamed_refusal to r ≡ r
refused_on to d c (Some e) (Some s) r is = names_none to d e s.bindings c r is
refused_on to d c (Some e) None r is = let e = same_Some _ _ is in ap (renamed_refusal to) (sym e) ∙ e
refused_on to d c None p r is = let e = same_Some _ _ is in ap (renamed_refusal to) (sym e) ∙ e

-- where the command isn't refused its event is there
pub event_of : (d : SetupData) (c : Command) (o : Option EventDef) (p : Option EventState) → refusal_on d c o p ≡ None
    → (e : EventDef) × (s : EventState) × (o ≡ Some e) × (p ≡ Some s)
event_of d c (Some e) (Some s) is = (e, s, refl, refl)
event_of d c (Some e) None is = absurd (cc)
event_of d c None p is = absurd (cc)

module _ (d : SetupData) (to : ℕ → ℕ) (s t : State) (c : Command) (rises : Rises to) (same : IsRenamed to s t) (room : t.place + 1 < no_number)
    (before : StayNamed to c.before) (after : StayNamed to c.after) where
  -- the states of one event in both
  other_event : (k : ℕ) (e : EventState) → slice_get s.events k ≡ Some e → (f : EventState) × (slice_get t.events k ≡ Some f) × IsRenamedEvent to e f
  other_event k e read =
      elim (slice_get_cases t.events k).1 [
        | inl (f, inside, is, at) ↦ (f, is, same.each k e f read is)
        | inr (past, none) ↦ let low = slice_get_within s.events k e read in let count = same.events in absurd (omega arith)
      ]

  refusal_both : refusal_of d t (renamed_command to c) ≡ refusal_of d s c
  refusal_both =
      elim (slice_get_cases s.events c.event).1 [
        | inl (e, inside, read, at) ↦ let other = other_event c.event e read in on_event (slice_get d.events c.event) e other.0 read other.1 other.2
        | inr (past, none) ↦
            let count = same.events in
            let none_other : slice_get t.events c.event ≡ None = no_event (omega arith) in
            on_none (slice_get d.events c.event) none none_other
      ]
    where
      no_event : length t.events ≤ c.event → slice_get t.events c.event ≡ None
      no_event past =
          elim (slice_get_cases t.events c.event).1 [
            | inl (f, inside, is, at) ↦ absurd (omega arith)
            | inr (past, none) ↦ none
          ]

      on_none : (o : Option EventDef) → slice_get s.events c.event ≡ None → slice_get t.events c.event ≡ None
          → refusal_on d (renamed_command to c) o (slice_get t.events c.event) ≡ refusal_on d c o (slice_get s.events c.event)
      on_none None first second = refl
      on_none (Some def) first second = ap (refusal_on d (renamed_command to c) (Some def)) second ∙ sym (ap (refusal_on d c (Some def)) first)

      on_event : (o : Option EventDef) (e f : EventState) → slice_get s.events c.event ≡ Some e → slice_get t.events c.event ≡ Some f → IsRenamedEvent to e f
          → refusal_on d (renamed_command to c) o (slice_get t.events c.event) ≡ refusal_on d c o (slice_get s.events c.event)
      on_event None e f first second h = refl
      on_event (Some def) e f first second h =
          ap (refusal_on d (renamed_command to c) (Some def)) second
          ∙ ap first_of (refusals_both to rises d def e.bindings f.bindings c h.bindings before after) ∙ sym (ap (refusal_on d c (Some def)) first)

  module _ (def : EventDef) (e : EventState) (read_d : slice_get d.events c.event ≡ Some def) (read_s : slice_get s.events c.event ≡ Some e) where
    f : EventState
    f = (other_event c.event e read_s).0

    read_t : slice_get t.events c.event ≡ Some f
    unfolding f
    read_t = (other_event c.event e read_s).1

    next_s : EventState
    next_s = event_after d.policies def (s.place + 1) c e

    next_t : EventState
    next_t = event_after d.policies def (t.place + 1) (renamed_command to c) f

    number : to (s.place + 1) ≡ t.place + 1
    number = let e = same.coming 0 in let first : s.place + 1 + 0 ≡ s.place + 1 = omega arith in ap to (sym first) ∙ e ∙ (omega arith)

    next_event : IsRenamedEvent to next_s next_t
    unfolding f next_s next_t
    next_event = event_both to rises c d.policies def (s.place + 1) (t.place + 1) e f number (omega arith) room d (other_event c.event e read_s).2

    set_s : (state_after d c s).events ≡ slice_set s.events c.event next_s
    unfolding next_s
    set_s = events d s c def e read_d read_s

    set_t : (state_after d (renamed_command to c) t).events ≡ slice_set t.events c.event next_t
    unfolding next_t
    set_t = events d t (renamed_command to c) def f read_d read_t

    each_after : (k : ℕ) (x y : EventState) → slice_get (slice_set s.events c.event next_s) k ≡ Some x → slice_get (slice_set t.events c.event next_t) k ≡ Some y → IsRenamedEvent to x y
    each_after k x y read_x read_y =
        elim (cases_eq k c.event) [
          | inl at ↦
              let x_is : next_s ≡ x =
              same_Some _ _ (sym (slice_get-set_same s.events c.event next_s (slice_get_within s.events c.event e read_s)) ∙ ap (slice_get (slice_set s.events c.event next_s)) (sym at) ∙ read_x) in
              let y_is : next_t ≡ y =
              same_Some _ _ (sym (slice_get-set_same t.events c.event next_t (slice_get_within t.events c.event f read_t)) ∙ ap (slice_get (slice_set t.events c.event next_t)) (sym at) ∙ read_y) in
              subst (λ z. IsRenamedEvent to z y) x_is (subst (λ z. IsRenamedEvent to next_s z) y_is next_event)
          | inr other ↦ same.each k x y (at_set s.events c.event k next_s x read_x other) (at_set t.events c.event k next_t y read_y other)
        ]

    after_is : IsRenamed to (state_after d c s) (state_after d (renamed_command to c) t)
    after_is = record {
      coming = λ n. let e = same.coming (n + 1) in let first : s.place + 1 + 1 + n ≡ s.place + 1 + (n + 1) = omega arith in ap to first ∙ e ∙ (omega arith);
      events =
          let first = ap (λ (es : List EventState). length es) set_s in
          let second = ap (λ (es : List EventState). length es) set_t in
          let count = same.events in
          omega (arith, length-set s.events c.event next_s, length-set t.events c.event next_t);
      each = λ k x y read_x read_y. each_after k x y (sym (ap (λ (es : List EventState). slice_get es k) set_s) ∙ read_x) (sym (ap (λ (es : List EventState). slice_get es k) set_t) ∙ read_y);
    }

    bindings_both : AreRenamed to (bindings_at (state_after d c s) c.event) (bindings_at (state_after d (renamed_command to c) t) c.event)
    unfolding f next_s next_t
    bindings_both =
        subst (λ bs. AreRenamed to bs (bindings_at (state_after d (renamed_command to c) t) c.event)) (sym (next_bindings d s c def e read_d read_s))
        (subst (λ bs. AreRenamed to next_s.bindings bs) (sym (next_bindings d t (renamed_command to c) def f read_d read_t)) next_event.bindings)

    changes : (v : Verdicted) (next : State) → ChangesTo d s c v next
        → (other : State) × ChangesTo d t (renamed_command to c) (renamed_verdict to v) other × IsRenamed to next other
    changes verdicted.Accepted next h = (
      state_after d (renamed_command to c) t,
      (refl, orderly_both to rises c c.op (bindings_at (state_after d c s) c.event) (bindings_at (state_after d (renamed_command to c) t) c.event) bindings_both h.1),
      subst (λ x. IsRenamed to x (state_after d (renamed_command to c) t)) (sym h.0) after_is,
    )
    changes (verdicted.Refused r) next h = (
      t,
      (refl, conflict_both to rises c c.op (bindings_at (state_after d c s) c.event) (bindings_at (state_after d (renamed_command to c) t) c.event) r bindings_both h.1),
      subst (λ x. IsRenamed to x t) (sym h.0) same,
    )

  stepped : (v : Verdicted) (next : State) (o : Option Refusal) → refusal_of d s c ≡ o
      → MatchOption o (ChangesTo d s c v next) (λ r. (v ≡ verdicted.Refused r) × (next ≡ s))
      → (other : State) × MatchOption o (ChangesTo d t (renamed_command to c) (renamed_verdict to v) other) (λ r. (renamed_verdict to v ≡ verdicted.Refused r) × (other ≡ t)) × IsRenamed to next other
  stepped v next None is h =
      let there = event_of d c (slice_get d.events c.event) (slice_get s.events c.event) is in
      changes there.0 there.1 there.2 there.3 v next h
  stepped v next (Some r) is h =
      let stays : renamed_refusal to r ≡ r = refused_on to d c (slice_get d.events c.event) (slice_get s.events c.event) r is in
      (t, (ap (renamed_verdict to) h.0 ∙ ap (λ (x : Refusal). verdicted.Refused x) stays, refl), subst (λ x. IsRenamed to x t) (sym h.1) same)

pub renamed_steps : StepsAreRenamed
renamed_steps d to s t c v next rises same room before after step =
    let found = stepped d to s t c rises same room before after v next (refusal_of d s c) refl step in (
      found.0,
      subst (λ o. MatchOption o (ChangesTo d t (renamed_command to c) (renamed_verdict to v) found.0) (λ r. (renamed_verdict to v ≡ verdicted.Refused r) × (found.0 ≡ t)))
          (sym (refusal_both d to s t c rises same room before after)) found.1,
      found.2,
    )
