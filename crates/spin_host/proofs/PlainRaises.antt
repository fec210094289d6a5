-- Where each act is done, an open raise is a plain one.
use Rattle.std.proofs.Common.{◌≡◌, ℕ, suc, ◌+◌, ◌==◌, Bool, true, false, cond, List, [], ◌∷◌, ◌++◌, drop, length, Option, Some, None}
use Rattle.std.proofs.Common.{refl, sym, ap, subst, ◌∙◌, append_assoc, add-one, arith}
use Rattle.std.specs.Prelude.{slice_get, IsSomeAnd, flat_map}
use Rattle.std.specs.List.{All}
use Rattle.std.proofs.lemmas.List.{append-nil}
use Rattle.std.proofs.lemmas.List.Sums.{fold-append}
use Rattle.spin_values.specs.declared.types.EventType.{EventType}
use Rattle.spin_values.specs.declared.values.Value.{Value}
use Rattle.spin_objects.specs.Doing.{items_of, args_after}
use Rattle.spin_place.specs.declared.binding.Binding.{Binding}
use Rattle.spin_plan.specs.Next.{guards_hold}
use Rattle.spin_raise.specs.declared.answer.Answer.{Answer}
use Rattle.spin_raise.specs.declared.bound.Runner.TheVariants as runner
use Rattle.spin_raise.specs.Firing.{Units, Bound, Firing, ByDefault, steps_at, firing_of, firings, fired, or_default, left_by, args_left, items_by, answer_of}
use Rattle.spin_raise.proofs.HandlerWalk.{firings_skip, firings_end, firings_here}
use Rattle.spin_host.specs.OpenRaises.{Next, Reached, Unreached, Fate, Done, Told, Standing, front, or_unreached, IsDue, fires, after, after_all, AreTold, IsOpenRaise}
use Rattle.spin_host.specs.Laws.{DoneIsPlain}
use Rattle.spin_host.proofs.FiredAnswers.{not_asked}

some_here : (P : Binding → Type 0) (o : Option Binding) (b : Binding) → IsSomeAnd o P → o ≡ Some b → P b
some_here P o b h e = let Q : Option Binding → Type 0 = λ o. IsSomeAnd o P in subst Q e h

-- the default, unless it was told
abbrev pub left_default : Bool → ℕ → ℕ
left_default true default = 0
left_default false default = default

-- what fired and what is to come, as the plain dispatcher has it
abbrev pub plainly : Units → Bound → Standing → List Firing
plainly u e s = or_default u (left_default s.asked e.default) s.args (s.fired ++ firings runner.Raiser u (drop s.from e.bindings) s.args)

-- where a binding fires, no default does
no_default : (u : Units) (d : ℕ) (args : List Value) (fs gs : List Firing) (f : Firing) → or_default u d args (fs ++ f ∷ gs) ≡ fs ++ f ∷ gs
no_default u d args [] gs f = refl
no_default u d args (g ∷ fs) gs f = refl

none_left : (u : Units) (args : List Value) (fs : List Firing) → or_default u 0 args fs ≡ fs
none_left u args [] = refl
none_left u args (f ∷ fs) = refl

step_plain : (u : Units) (e : Bound) (s : Standing) (n : Next) (saw : List Value) → IsDue u e s (Some n)
    → plainly u e (after u e s record { next = n; saw = saw; fate = Done }) ≡ plainly u e s
step_plain u e s (Reached at b) saw due =
    let f : Firing = firing_of runner.Raiser u b s.args in
    let rest : List Firing = firings runner.Raiser u (drop (suc at) e.bindings) (left_by f) in
    let d : ℕ = left_default s.asked e.default in
    let comes : firings runner.Raiser u (drop s.from e.bindings) s.args ≡ f ∷ rest =
    firings_skip runner.Raiser u e.bindings s.args s.from at due.0.0 due.0.2
    ∙ firings_here runner.Raiser u e.bindings b s.args at due.1 (some_here (λ x. guards_hold u.tests s.args x ≡ true) (slice_get e.bindings at) b due.0.1 due.1) in
    let before : plainly u e s ≡ s.fired ++ f ∷ rest =
    ap (λ xs. or_default u d s.args (s.fired ++ xs)) comes ∙ no_default u d s.args s.fired rest f in
    let later : firings runner.Raiser u (drop (at + 1) e.bindings) (left_by f) ≡ rest = ap (λ k. firings runner.Raiser u (drop k e.bindings) (left_by f)) (add-one at) in
    ap (λ xs. or_default u d (left_by f) ((s.fired ++ f ∷ []) ++ xs)) later
    ∙ ap (or_default u d (left_by f)) (append_assoc s.fired (f ∷ []) rest)
    ∙ no_default u d (left_by f) s.fired rest f ∙ sym before
step_plain u e s (Unreached default) saw due =
    let is = not_asked default e.default s.asked s.fired due.1 in
    let f : Firing = ByDefault (items_of (steps_at u default) s.args) (args_after (steps_at u default) s.args) in
    let none : firings runner.Raiser u (drop s.from e.bindings) s.args ≡ [] = firings_end runner.Raiser u e.bindings s.args s.from due.0 in
    let comes : or_unreached e.default false [] ≡ Some (Unreached default) =
    ap (λ t. or_unreached e.default t []) (sym is.0) ∙ ap (or_unreached e.default s.asked) (sym is.1) ∙ sym due.1 in
    let it = the_default e.default default comes in
    let before : plainly u e s ≡ f ∷ [] =
    ap (λ xs. or_default u (left_default s.asked e.default) s.args (s.fired ++ xs)) none
    ∙ ap (λ xs. or_default u (left_default s.asked e.default) s.args (xs ++ [])) is.1
    ∙ ap (λ t. or_default u (left_default t e.default) s.args []) is.0
    ∙ ap (λ t. cond t [] (ByDefault (items_of (steps_at u e.default) s.args) (args_after (steps_at u e.default) s.args) ∷ [])) it.1
    ∙ ap (λ k. ByDefault (items_of (steps_at u k) s.args) (args_after (steps_at u k) s.args) ∷ []) it.0 in
    let no_more : firings runner.Raiser u (drop (length e.bindings) e.bindings) (left_by f) ≡ [] =
    firings_end runner.Raiser u e.bindings (left_by f) (length e.bindings) (λ k low high. absurd (omega (arith, low, high))) in
    none_left u (left_by f) ((s.fired ++ f ∷ []) ++ firings runner.Raiser u (drop (length e.bindings) e.bindings) (left_by f))
    ∙ ap (λ xs. (s.fired ++ f ∷ []) ++ xs) no_more ∙ append-nil (s.fired ++ f ∷ []) ∙ ap (λ xs. xs ++ f ∷ []) is.1 ∙ sym before
  where
    the_default : (d n : ℕ) → or_unreached d false [] ≡ Some (Unreached n) → (d ≡ n) × ((d == 0) ≡ false)
    the_default d n is = choose (d == 0) refl
      where
        choose : (t : Bool) → (d == 0) ≡ t → (d ≡ n) × ((d == 0) ≡ false)
        choose true zero = absurd (nothing (sym (ap (λ t. cond t None (Some (Unreached d))) zero) ∙ is))
          where
            nothing : None ≡ Some (Unreached n) → ⊥
            nothing h = cc
        choose false more = (same (sym (ap (λ t. cond t None (Some (Unreached d))) more) ∙ is), more)
          where
            same : Some (Unreached d) ≡ Some (Unreached n) → d ≡ n
            same h = cc

all_plain : (u : Units) (sig : EventType) (e : Bound) (s : Standing) (told : List Told) → AreTold u sig e s told → All (λ (t : Told). t.fate ≡ Done) told
    → plainly u e (after_all u e s told) ≡ plainly u e s
all_plain u sig e s [] way h = refl
all_plain u sig e s (t ∷ ts) way h =
    all_plain u sig e (after u e s t) ts way.3 (λ k d low. h (suc k) d (omega arith))
    ∙ ap (λ (x : Fate). plainly u e (after u e s record { next = t.next; saw = t.saw; fate = x })) (h 0 t (omega arith))
    ∙ step_plain u e s t.next t.saw way.0

-- nothing is to come at the end
end_plain : (u : Units) (e : Bound) (s : Standing) → IsDue u e s None → plainly u e s ≡ s.fired
end_plain u e s due =
    ap (λ xs. or_default u (left_default s.asked e.default) s.args (s.fired ++ xs)) (firings_end runner.Raiser u e.bindings s.args s.from due.0)
    ∙ ap (or_default u (left_default s.asked e.default) s.args) (append-nil s.fired)
    ∙ choose s.asked s.fired due.1
  where
    choose : (asked : Bool) (fired : List Firing) → None ≡ or_unreached e.default asked fired → or_default u (left_default asked e.default) s.args fired ≡ fired
    choose true [] is = refl
    choose true (f ∷ fs) is = refl
    choose false (f ∷ fs) is = refl
    choose false [] is = no_default_left (e.default == 0) is
      where
        no_default_left : (t : Bool) → None ≡ cond t None (Some (Unreached e.default))
            → cond t [] (ByDefault (items_of (steps_at u e.default) s.args) (args_after (steps_at u e.default) s.args) ∷ []) ≡ []
        no_default_left true h = refl
        no_default_left false h = cc

-- the arguments are those that what fired left
args_kept : (u : Units) (e : Bound) (args : List Value) (s : Standing) (told : List Told) → s.args ≡ args_left args s.fired
    → (after_all u e s told).args ≡ args_left args (after_all u e s told).fired
args_kept u e args s [] h = h
args_kept u e args s (t ∷ ts) h =
    let gs : List Firing = fires u s.args t.next t.fate in
    args_kept u e args (after u e s t) ts (ap (λ xs. args_left xs gs) h ∙ sym (fold-append (λ before f. left_by f) args s.fired gs))

pub fired_plainly : (u : Units) (sig : EventType) (e : Bound) (args : List Value) (told : List Told) (a : Answer) → IsOpenRaise u sig e args told a
    → All (λ (t : Told). t.fate ≡ Done) told → (after_all u e (front args) told).fired ≡ fired runner.Raiser u e args
fired_plainly u sig e args told a r done =
    sym (end_plain u e (after_all u e (front args) told) r.end) ∙ all_plain u sig e (front args) told r.way done

pub done_is_plain : DoneIsPlain
done_is_plain u sig e args told a r done =
    let same = fired_plainly u sig e args told a r done in (
      r.comes ∙ ap (answer_of e.merge) same,
      ap (flat_map items_by) same,
      args_kept u e args (front args) told refl ∙ ap (args_left args) same,
    )
