-- What is declared stays without a fault.
use Rattle.std.proofs.Common.{◌≡◌, ◌<◌, ◌≤◌, ℕ, Bool, true, false, not, ◌&&◌, ◌||◌, List, [], ◌∷◌, ◌++◌, length, Option, Some, None, refl, sym, ap, subst, ◌∙◌, arith}
use Rattle.std.specs.Prelude.{slice_get, slice_set, nat_le, nat_lt, ◌==◌, is_err, is_none, map}
use Rattle.std.specs.List.{list_all}
use Rattle.std.proofs.lemmas.List.{length-append, length-set}
use Rattle.std.specs.Cmp.Lexicographic.{pointwise}
use Rattle.std.proofs.lemmas.Bool.Decides.{nat_tests}
use Rattle.std.proofs.lemmas.List.Folds.{list_all-append}
use Rattle.std.proofs.lemmas.Option.{slice_get_within}
use Rattle.spin_values.specs.declared.types.EventType.{EventType}
use Rattle.spin_values.specs.Kinds.{kinds_of}
use Rattle.spin_word.specs.declared.command.Mode.TheVariants as mode
use Rattle.spin_code.specs.declared.act.ActStep.{ActStep}
use Rattle.spin_code.specs.declared.act.ActStep.TheVariants as step
use Rattle.spin_code.specs.declared.merge.Merge.{Merge}
use Rattle.spin_code.specs.Check.{merge_check}
use Rattle.spin_code.specs.Uses.{same_kind}
use Rattle.spin_policy.specs.declared.rule.Rule.{Rule}
use Rattle.spin_objects.specs.Units.{HandlerUnit, GuardUnit}
use Rattle.spin_table.specs.declared.event.EventDef.{EventDef}
use Rattle.spin_table.specs.declared.event.Authority.{Authority}
use Rattle.spin_table.specs.declared.event.Authority.TheVariants as authority
use Rattle.spin_table.specs.Setups.{rules_if, rules_of, has_authority}
use Rattle.spin_table.specs.Units.{is_fit_handler, is_fit_default}
use Rattle.spin_table.specs.Faults.{has_bad_owner, has_bad_merge, part_kind, takes_parts, takes_layer, is_step_fit, raises_amiss, is_fit_rule, has_bad_policy}
use Rattle.spin_script.specs.States.{new_event, given_rules, is_native, with_rule, with_authoriser, with_default}
use Rattle.spin_script.specs.Inner.Sound.{Each, IsFit}
use Rattle.spin_script.proofs.ListElements.{each_none, each_push, each_set, read_same, all_same}

pub fit_none : (rules : List (List Rule)) → IsFit rules 1 [] [] []
fit_none rules = record {
  some_modules = omega arith;
  few_modules = omega arith;
  few_events = omega arith;
  owners = each_none (λ at e. has_bad_owner 1 e ≡ false) [] refl;
  merges = each_none (λ at e. has_bad_merge e ≡ false) [] refl;
  raises = each_none (λ at h. raises_amiss [] h ≡ false) [] refl;
  defaults = each_none (λ at e. is_fit_default [] at e e.first_default ≡ true) [] refl;
  authorities = each_none (λ at e. has_bad_policy rules [] e ≡ false) [] refl;
}

-- the number of modules, where there are no events
pub fit_modules : (rules : List (List Rule)) (m k : ℕ) (es : List EventDef) (hs : List HandlerUnit) (gs : List GuardUnit)
    → es ≡ [] → 1 ≤ k → k ≤ 256 → IsFit rules m es hs gs → IsFit rules k es hs gs
fit_modules rules m k es hs gs none some few f = record {
  some_modules = some;
  few_modules = few;
  few_events = f.few_events;
  owners = each_none (λ at e. has_bad_owner k e ≡ false) es none;
  merges = f.merges;
  raises = f.raises;
  defaults = f.defaults;
  authorities = f.authorities;
}

-- an event more, where there are no handlers
pub fit_event : (rules : List (List Rule)) (m : ℕ) (es : List EventDef) (hs : List HandlerUnit) (gs : List GuardUnit) (owner : ℕ) (sig : EventType) (merge : Merge)
    → hs ≡ [] → length es < 64 → nat_le m owner ≡ false → is_err (merge_check merge) ≡ false
    → IsFit rules m es hs gs → IsFit rules m (es ++ new_event owner sig merge ∷ []) hs gs
fit_event rules m es hs gs owner sig merge none room owned right f = record {
  some_modules = f.some_modules;
  few_modules = f.few_modules;
  few_events = omega (arith, length-append es (new_event owner sig merge ∷ []));
  owners = each_push (λ at e. has_bad_owner m e ≡ false) es (new_event owner sig merge) f.owners owned;
  merges = each_push (λ at e. has_bad_merge e ≡ false) es (new_event owner sig merge) f.merges right;
  raises = each_none (λ at h. raises_amiss (es ++ new_event owner sig merge ∷ []) h ≡ false) hs none;
  defaults = each_push (λ at e. is_fit_default hs at e e.first_default ≡ true) es (new_event owner sig merge) f.defaults refl;
  authorities = each_push (λ at e. has_bad_policy rules gs e ≡ false) es (new_event owner sig merge) f.authorities refl;
}

no_default : (hs : List HandlerUnit) (at : ℕ) (e : EventDef) (d : ℕ) → d ≡ 0 → is_fit_default hs at e d ≡ true
no_default hs at e d none = subst (λ k. is_fit_default hs at e k ≡ true) (sym none) refl

-- a handler more, where no event has a default
pub fit_handler : (rules : List (List Rule)) (m : ℕ) (es : List EventDef) (hs : List HandlerUnit) (gs : List GuardUnit) (h : HandlerUnit)
    → Each (λ at e. e.first_default ≡ 0) es → raises_amiss es h ≡ false → IsFit rules m es hs gs → IsFit rules m es (hs ++ h ∷ []) gs
fit_handler rules m es hs gs h none right f = record {
  some_modules = f.some_modules;
  few_modules = f.few_modules;
  few_events = f.few_events;
  owners = f.owners;
  merges = f.merges;
  raises = each_push (λ at u. raises_amiss es u ≡ false) hs h f.raises right;
  defaults = λ at e read. no_default (hs ++ h ∷ []) at e e.first_default (none at e read);
  authorities = f.authorities;
}

no_rule : (rules : List (List Rule)) (p : Rule → Bool) (a : Authority) → a ≡ authority.Rules [] → not (has_authority rules a && list_all p (rules_of rules a)) ≡ false
no_rule rules p a none = subst (λ b. not (has_authority rules b && list_all p (rules_of rules b)) ≡ false) (sym none) refl

-- a guard more, where no event has a rule
pub fit_guard : (rules : List (List Rule)) (m : ℕ) (es : List EventDef) (hs : List HandlerUnit) (gs : List GuardUnit) (g : GuardUnit)
    → Each (λ at e. e.authority ≡ authority.Rules []) es → IsFit rules m es hs gs → IsFit rules m es hs (gs ++ g ∷ [])
fit_guard rules m es hs gs g none f = record {
  some_modules = f.some_modules;
  few_modules = f.few_modules;
  few_events = f.few_events;
  owners = f.owners;
  merges = f.merges;
  raises = f.raises;
  defaults = f.defaults;
  authorities = λ at e read. no_rule rules (is_fit_rule (gs ++ g ∷ []) e) e.authority (none at e read);
}

-- steps take the same, whatever else of an event is changed
step_same : (es : List EventDef) (k : ℕ) (e t : EventDef) → slice_get es k ≡ Some e → t.sig ≡ e.sig → (s : ActStep) → is_step_fit (slice_set es k t) s ≡ is_step_fit es s
step_same es k e t read same (step.Up event parts) =
    read_same (takes_parts parts) false es k e t read (ap (λ (s : EventType). pointwise same_kind (kinds_of s) (map part_kind parts)) same) event
step_same es k e t read same (step.Layer kind event) =
    read_same (λ (d : EventDef). takes_layer d.sig.params kind) false es k e t read (ap (λ (s : EventType). takes_layer s.params kind) same) event
step_same es k e t read same s = refl

-- an event changed, but for what it is called with
pub fit_set : (rules : List (List Rule)) (m : ℕ) (es : List EventDef) (hs : List HandlerUnit) (gs : List GuardUnit) (k : ℕ) (e t : EventDef)
    → slice_get es k ≡ Some e → t.sig ≡ e.sig → t.owner ≡ e.owner → t.merge ≡ e.merge
    → is_fit_default hs k t t.first_default ≡ true → has_bad_policy rules gs t ≡ false
    → IsFit rules m es hs gs → IsFit rules m (slice_set es k t) hs gs
fit_set rules m es hs gs k e t read sig owner merge default policy f = record {
  some_modules = f.some_modules;
  few_modules = f.few_modules;
  few_events = let few = f.few_events in omega (arith, length-set es k t);
  owners = each_set (λ at d. has_bad_owner m d ≡ false) es k t f.owners (ap (nat_le m) owner ∙ f.owners k e read);
  merges = each_set (λ at d. has_bad_merge d ≡ false) es k t f.merges (ap (λ (z : Merge). is_err (merge_check z)) merge ∙ f.merges k e read);
  raises = λ at h there. ap not (all_same (is_step_fit (slice_set es k t)) (is_step_fit es) (step_same es k e t read sig) h.act.steps) ∙ f.raises at h there;
  defaults = each_set (λ at d. is_fit_default hs at d d.first_default ≡ true) es k t f.defaults default;
  authorities = each_set (λ at d. has_bad_policy rules gs d ≡ false) es k t f.authorities policy;
}

right_of : (a b : Bool) → not (a && b) ≡ false → b ≡ true
right_of true true e = refl
right_of true false e = cc
right_of false b e = cc

rules_more : (rules : List (List Rule)) (p : Rule → Bool) (r : Rule) (a : Authority) → is_native a ≡ false → p r ≡ true
    → not (has_authority rules a && list_all p (rules_of rules a)) ≡ false → not (list_all p (given_rules a ++ r ∷ [])) ≡ false
rules_more rules p r (authority.Rules given) plain right fit =
    let before : list_all p given ≡ true = right_of true (list_all p given) fit in
    rw (list_all-append p given (r ∷ []), before, right) refl
rules_more rules p r (authority.Native native) plain right fit = cc

-- a rule more
pub fit_rule : (rules : List (List Rule)) (m : ℕ) (es : List EventDef) (hs : List HandlerUnit) (gs : List GuardUnit) (k : ℕ) (e : EventDef) (r : Rule)
    → slice_get es k ≡ Some e → is_native e.authority ≡ false → is_fit_rule gs e r ≡ true
    → IsFit rules m es hs gs → IsFit rules m (slice_set es k (with_rule r e)) hs gs
fit_rule rules m es hs gs k e r read plain right f =
    fit_set rules m es hs gs k e (with_rule r e) read refl refl refl (f.defaults k e read) (rules_more rules (is_fit_rule gs e) r e.authority plain right (f.authorities k e read)) f

there_are : (rules : List (List Rule)) (native : ℕ) → is_none (slice_get rules native) ≡ false → nat_lt native (length rules) ≡ true
there_are rules native some = found (slice_get rules native) refl some
  where
    found : (o : Option (List Rule)) → slice_get rules native ≡ o → is_none o ≡ false → nat_lt native (length rules) ≡ true
    found None is some = cc
    found (Some given) is some = let inside : native < length rules = slice_get_within rules native given is in grind (arith, nat_tests)

-- a native authoriser
pub fit_authoriser : (rules : List (List Rule)) (m : ℕ) (es : List EventDef) (hs : List HandlerUnit) (gs : List GuardUnit) (k : ℕ) (e : EventDef) (native : ℕ)
    → slice_get es k ≡ Some e → is_none (slice_get rules native) ≡ false → list_all (is_fit_rule gs e) (rules_if (slice_get rules native)) ≡ true
    → IsFit rules m es hs gs → IsFit rules m (slice_set es k (with_authoriser native e)) hs gs
fit_authoriser rules m es hs gs k e native read some right f =
    fit_set rules m es hs gs k e (with_authoriser native e) read refl refl refl (f.defaults k e read) (rw (there_are rules native some, right) refl) f

either : (a b : Bool) → b ≡ true → (a || b) ≡ true
either true b e = refl
either false b e = e

-- a first default
pub fit_default : (rules : List (List Rule)) (m : ℕ) (es : List EventDef) (hs : List HandlerUnit) (gs : List GuardUnit) (k : ℕ) (e : EventDef) (h : ℕ)
    → slice_get es k ≡ Some e → is_fit_handler hs k e mode.Plain h ≡ true
    → IsFit rules m es hs gs → IsFit rules m (slice_set es k (with_default h e)) hs gs
fit_default rules m es hs gs k e h read right f =
    fit_set rules m es hs gs k e (with_default h e) read refl refl refl (either (h == 0) (is_fit_handler hs k e mode.Plain h) right) (f.authorities k e read) f
