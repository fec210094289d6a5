-- Each line that passes keeps the script so far sound.
use Rattle.std.proofs.Common.{◌≡◌, ◌<◌, ◌≤◌, ◌+◌, ℕ, Bool, true, false, not, ◌&&◌, ◌||◌, List, [], ◌∷◌, ◌++◌, length, Option, Some, None, Result, Ok, Err, refl, ap, ◌∙◌, arith}
use Rattle.std.specs.Prelude.{slice_get, slice_set, nat_lt, nat_le, ◌==◌, is_err, is_none, if◌then◌else◌, ⊤, IsOk, MatchOption}
use Rattle.std.specs.List.{list_all, list_any}
use Rattle.std.specs.Option.{option_map_or}
use Rattle.std.proofs.lemmas.Bool.Decides.{nat_tests}
use Rattle.std.proofs.lemmas.Option.{MatchOption-at_none}
use Rattle.spin_word.specs.declared.command.Mode.TheVariants as mode
use Rattle.spin_code.specs.declared.check.ActFault.{ActFault}
use Rattle.spin_code.specs.Check.{act_check, merge_check}
use Rattle.spin_policy.specs.declared.rule.Rule.{Rule}
use Rattle.spin_objects.specs.Units.{HandlerUnit, handler_if, guard_if}
use Rattle.spin_table.specs.declared.event.EventDef.{EventDef}
use Rattle.spin_table.specs.declared.fault.SetupFault.{SetupFault}
use Rattle.spin_table.specs.Setups.{SetupData, rules_if}
use Rattle.spin_table.specs.Units.{is_fit_handler}
use Rattle.spin_table.specs.Faults.{has_wrong_size, has_bad_owner, has_bad_merge, is_step_fit, raises_amiss, has_bad_default, is_fit_rule, has_bad_policy, setup_fault}
use Rattle.spin_grammar.specs.declared.cause.Cause.{Cause}
use Rattle.spin_grammar.specs.declared.cause.Cause.TheVariants as cause
use Rattle.spin_grammar.specs.declared.kind.Kind.{Kind}
use Rattle.spin_grammar.specs.declared.kind.Kind.TheVariants as kind
use Rattle.spin_grammar.specs.Lines as line
use Rattle.spin_grammar.specs.Lines.{line_kind}
use Rattle.spin_script.specs.declared.script.Line.{Line}
use Rattle.spin_word.specs.declared.work.Work.{Work}
use Rattle.spin_script.specs.Sections.{section, is_retire, is_out_of_order}
use Rattle.spin_grammar.specs.Tasks.{work_of}
use Rattle.spin_script.specs.States.{NativeData, ScriptState, policies, start, after, with_rule, with_authoriser, with_default, with_handler}
use Rattle.spin_script.specs.States.{with_guard, with_authority, with_work, is_native, given_rules, native_at, command_count, deed_count, setup_in}
use Rattle.spin_values.specs.First.{first_of}
use Rattle.spin_script.specs.Checks.{checks, checked, step_checks, native_checks, rule_checks, policy_at, authoriser_checks, cannot_serve}
use Rattle.spin_script.specs.Checks.{default_checks, most_commands, most_deeds, is_work_full, step_names_unknown, imposes_unknown, speaks_of_unknown}
use Rattle.spin_script.specs.Soundness.{IsValidWork}
use Rattle.spin_script.specs.Inner.Sound.{IsSound}
use Rattle.spin_script.proofs.ListElements.{each_position, each_numbered}
use Rattle.spin_script.proofs.DeclarationFaults.{fit_none, fit_modules, fit_event, fit_handler, fit_guard, fit_rule, fit_authoriser, fit_default}
use Rattle.spin_script.proofs.SectionOrder.{ordered_none, ordered_on, ordered_event, ordered_handler, ordered_set, ordered_last}
use Rattle.spin_script.proofs.LaneLineCounts.{work_none, work_barrier, work_retire, work_more}

-- ---- what no cause says

none_of : (b : Bool) (c : Cause) (rest : Option Cause) → (if b then Some c else rest) ≡ None → (b ≡ false) × (rest ≡ None)
none_of true c rest none = cc
none_of false c rest none = (refl, none)

both_false : (a b : Bool) → (a || b) ≡ false → (a ≡ false) × (b ≡ false)
both_false true b e = cc
both_false false b e = (refl, e)

passes : (b : Bool) → not b ≡ false → b ≡ true
passes true e = refl
passes false e = cc

-- the merge, act or test has no fault
no_fault : (r : Result (Unit {0}) ActFault) (others : List (Bool × Cause)) → first_of (checked r others) ≡ None → (is_err r ≡ false) × (first_of others ≡ None)
no_fault (Ok done) others none = (refl, none)
no_fault (Err f) others none = cc

steps_fit : (endpoints : ℕ) (es : List EventDef) (h : HandlerUnit) → first_of (step_checks endpoints es h.act.steps) ≡ None → raises_amiss es h ≡ false
steps_fit endpoints es h none =
    let known = none_of (list_any (step_names_unknown endpoints (length es)) h.act.steps) cause.Undeclared _ none in
    (none_of (not (list_all (is_step_fit es) h.act.steps)) cause.Mismatch None known.1).0

in_section : (k : Kind) (before : ℕ) (begins : Bool) → is_out_of_order k before begins ≡ false → before ≤ section k
in_section k before begins order =
    let once = both_false (nat_lt (section k) before || (section k == 1) && (before == 1)) (is_retire k && not begins) order in
    let rises = (both_false (nat_lt (section k) before) ((section k == 1) && (before == 1)) once.0).0 in grind (arith, nat_tests, rises)

-- ---- each kind of line

native_handler : (n : NativeData) (s : ScriptState) (o : Option ℕ) → first_of (native_checks n s o) ≡ None → s.section ≤ 4 → IsSound n s → IsSound n (with_handler n s o)
native_handler n s None none on x = x
native_handler n s (Some native) none on x =
    let h : HandlerUnit = handler_if (slice_get n.handlers native) in
    record {
      declared = fit_handler (policies n) s.modules s.events s.handlers s.guards h (x.ordered.no_defaults (omega arith)) (steps_fit (length s.endpoints) s.events h none) x.declared;
      ordered = ordered_handler s.section s.events s.handlers (s.handlers ++ h ∷ []) on x.ordered;
      asked = x.asked;
    }

native_guard : (n : NativeData) (s : ScriptState) (o : Option ℕ) → s.section ≤ 5 → IsSound n s → IsSound n (with_guard n s o)
native_guard n s None on x = x
native_guard n s (Some native) on x = record {
  declared = fit_guard (policies n) s.modules s.events s.handlers s.guards (guard_if (slice_get n.guards native)) (x.ordered.no_rules (omega arith)) x.declared;
  ordered = ordered_on s.section 5 s.events s.handlers on x.ordered;
  asked = x.asked;
}

rule_added : (n : NativeData) (s : ScriptState) (k : ℕ) (r : Rule) (o : Option EventDef) → slice_get s.events k ≡ o → first_of (rule_checks s r o) ≡ None → s.section ≤ 6 → IsSound n s
    → IsSound n (record s { section = 6; events = option_map_or (λ e. slice_set s.events k (with_rule r e)) o s.events })
rule_added n s k r None is none on x = cc
rule_added n s k r (Some e) is none on x =
    let room = none_of (nat_le 16 (length (given_rules e.authority))) cause.Limit _ none in
    let known = none_of (speaks_of_unknown (length s.handlers) (length s.guards) r) cause.Undeclared _ room.1 in
    let fit = none_of (not (is_fit_rule s.guards e r) || is_native e.authority) cause.Mismatch None known.1 in
    let right = both_false (not (is_fit_rule s.guards e r)) (is_native e.authority) fit.0 in
    record {
      declared = fit_rule (policies n) s.modules s.events s.handlers s.guards k e r is right.1 (passes (is_fit_rule s.guards e r) right.0) x.declared;
      ordered = ordered_set s.section s.events s.handlers k e (with_rule r e) is refl on x.ordered;
      asked = x.asked;
    }

authoriser_set : (n : NativeData) (s : ScriptState) (k native : ℕ) (o : Option EventDef) → slice_get s.events k ≡ o
    → first_of (authoriser_checks s (slice_get (policies n) native) o) ≡ None → s.section ≤ 6 → IsSound n s
    → IsSound n (record s { section = 6; events = option_map_or (λ e. slice_set s.events k (with_authoriser native e)) o s.events })
authoriser_set n s k native None is none on x = cc
authoriser_set n s k native (Some e) is none on x =
    let rules : Bool = list_all (is_fit_rule s.guards e) (rules_if (slice_get (policies n) native)) in
    let known = none_of (list_any (imposes_unknown (length s.guards)) (rules_if (slice_get (policies n) native))) cause.Undeclared _ none in
    let fit = none_of (not (length (given_rules e.authority) == 0) || not rules) cause.Mismatch _ known.1 in
    let there = none_of (is_none (slice_get (policies n) native)) cause.Native _ fit.1 in
    let right = both_false (not (length (given_rules e.authority) == 0)) (not rules) fit.0 in
    record {
      declared = fit_authoriser (policies n) s.modules s.events s.handlers s.guards k e native is there.0 (passes rules right.1) x.declared;
      ordered = ordered_set s.section s.events s.handlers k e (with_authoriser native e) is refl on x.ordered;
      asked = x.asked;
    }

authority_set : (n : NativeData) (s : ScriptState) (k : ℕ) (o : Option ℕ)
    → first_of (authoriser_checks s (policy_at n o) (slice_get s.events k)) ≡ None → s.section ≤ 6 → IsSound n s → IsSound n (with_authority s k o)
authority_set n s k None none on x = x
authority_set n s k (Some native) none on x = authoriser_set n s k native (slice_get s.events k) refl none on x

serves : (hs : List HandlerUnit) (k : ℕ) (e : EventDef) (h : ℕ) → cannot_serve hs k e h ≡ false → is_fit_handler hs k e mode.Plain h ≡ true
unfolding cannot_serve
serves hs k e h can = passes (is_fit_handler hs k e mode.Plain h) can

default_set : (n : NativeData) (s : ScriptState) (k h : ℕ) (o : Option EventDef) → slice_get s.events k ≡ o → first_of (default_checks s k h o) ≡ None → IsSound n s
    → IsSound n (record s { section = 7; events = option_map_or (λ e. slice_set s.events k (with_default h e)) o s.events })
default_set n s k h None is none x = cc
default_set n s k h (Some e) is none x =
    let known = none_of (nat_lt (length s.handlers) h) cause.Undeclared _ none in
    let can = none_of (cannot_serve s.handlers k e h) cause.Mismatch _ known.1 in
    record {
      declared = fit_default (policies n) s.modules s.events s.handlers s.guards k e h is (serves s.handlers k e h can.0) x.declared;
      ordered = ordered_last (slice_set s.events k (with_default h e)) s.handlers;
      asked = x.asked;
    }

few_of : (b : Bool) (total : ℕ) → nat_lt (if b then 4096 else 1000) total ≡ false → total ≤ 4096
few_of true total few = grind (arith, nat_tests, few)
few_of false total few = let less : total ≤ 1000 = grind (arith, nat_tests, few) in omega arith

work_added : (n : NativeData) (s : ScriptState) (number lane : ℕ) (w : Work) → is_work_full s.version s.commands s.deeds w ≡ false
    → IsValidWork w → s.section ≤ 8 → IsSound n s → IsSound n (with_work s number lane w)
work_added n s number lane w room right on x =
    let few : s.commands + command_count w ≤ 4096 =
    few_of (s.version == 3) (s.commands + command_count w) (both_false (nat_lt (most_commands s.version) (s.commands + command_count w)) (nat_lt most_deeds (s.deeds + deed_count w)) room).0 in
    let more : Line = record { number = number; lane = lane; work = w } in
    record {
      declared = x.declared;
      ordered = ordered_on s.section 8 s.events s.handlers on x.ordered;
      asked = work_more s.commands s.ended s.segment (record { retires = s.segment.retires; lines = s.segment.lines ++ more ∷ [] }) more refl few right x.asked;
    }

-- ---- any line

-- the numbers are in their ranges, and what a lane is asked to do is valid
abbrev pub IsLineInRange : line.LineMeaning → Type 0
IsLineInRange (line.Modules k) = (1 ≤ k) × (k ≤ 256)
IsLineInRange (line.Event e owner sig m) = e ≤ 63
IsLineInRange (line.Lane lane t) = lane ≤ 7 → IsValidWork (work_of lane t)
IsLineInRange l = ⊤

pub sound_start : (n : NativeData) → IsSound n start
sound_start n = record { declared = fit_none (policies n); ordered = ordered_none; asked = work_none }

pub sound_after : (n : NativeData) (s : ScriptState) (number : ℕ) (l : line.LineMeaning) → IsLineInRange l → is_out_of_order (line_kind l) s.section s.begins ≡ false
    → first_of (checks n s l) ≡ None → IsSound n s → IsSound n (after n s number l)
sound_after n s number (line.Modules k) range order none x =
    let on : s.section ≤ 1 = in_section kind.Modules s.section s.begins order in
    record {
      declared = fit_modules (policies n) s.modules k s.events s.handlers s.guards (x.ordered.no_events (omega arith)) range.0 range.1 x.declared;
      ordered = ordered_on s.section 1 s.events s.handlers on x.ordered;
      asked = x.asked;
    }
sound_after n s number (line.Event e owner sig m) range order none x =
    let on : s.section ≤ 2 = in_section kind.Event s.section s.begins order in
    let next = none_of (not (e == length s.events)) cause.Next _ none in
    let right = no_fault (merge_check m) ((nat_le s.modules owner, cause.Undeclared) ∷ []) next.1 in
    let owned = none_of (nat_le s.modules owner) cause.Undeclared None right.1 in
    let at : (e == length s.events) ≡ true = passes (e == length s.events) next.0 in
    let room : length s.events < 64 = grind (arith, nat_tests, at, range) in
    record {
      declared = fit_event (policies n) s.modules s.events s.handlers s.guards owner sig m (x.ordered.no_handlers (omega arith)) room owned.0 right.0 x.declared;
      ordered = ordered_event s.section s.events s.handlers owner sig m on x.ordered;
      asked = x.asked;
    }
sound_after n s number (line.Endpoint p name) range order none x =
    let on : s.section ≤ 3 = in_section kind.Endpoint s.section s.begins order in
    record { declared = x.declared; ordered = ordered_on s.section 3 s.events s.handlers on x.ordered; asked = x.asked }
sound_after n s number (line.Handler h sig steps) range order none x =
    let on : s.section ≤ 4 = in_section kind.Handler s.section s.begins order in
    let unit : HandlerUnit = record { sig = sig; act = record { steps = steps } } in
    let right = no_fault (act_check (record { steps = steps }) sig) (step_checks (length s.endpoints) s.events steps) (none_of (not (h == length s.handlers + 1)) cause.Next _ none).1 in
    record {
      declared = fit_handler (policies n) s.modules s.events s.handlers s.guards unit (x.ordered.no_defaults (omega arith)) (steps_fit (length s.endpoints) s.events unit right.1) x.declared;
      ordered = ordered_handler s.section s.events s.handlers (s.handlers ++ unit ∷ []) on x.ordered;
      asked = x.asked;
    }
sound_after n s number (line.NativeHandler h name) range order none x =
    native_handler n s (native_at name n.handlers) (none_of (not (h == length s.handlers + 1)) cause.Next _ none).1 (in_section kind.Handler s.section s.begins order) x
sound_after n s number (line.Guard g sig t) range order none x =
    let on : s.section ≤ 5 = in_section kind.Guard s.section s.begins order in
    record {
      declared = fit_guard (policies n) s.modules s.events s.handlers s.guards (record { sig = sig; test = t }) (x.ordered.no_rules (omega arith)) x.declared;
      ordered = ordered_on s.section 5 s.events s.handlers on x.ordered;
      asked = x.asked;
    }
sound_after n s number (line.NativeGuard g name) range order none x =
    native_guard n s (native_at name n.guards) (in_section kind.Guard s.section s.begins order) x
sound_after n s number (line.Rules k r) range order none x =
    rule_added n s k r (slice_get s.events k) refl none (in_section kind.Rule s.section s.begins order) x
sound_after n s number (line.Authoriser k name) range order none x =
    authority_set n s k (native_at name n.authorisers) none (in_section kind.Authoriser s.section s.begins order) x
sound_after n s number (line.Default k h) range order none x = default_set n s k h (slice_get s.events k) refl none x
sound_after n s number (line.Lane lane t) range order none x =
    let full = none_of (is_work_full s.version s.commands s.deeds (work_of lane t)) cause.Limit _ none in
    let wide = none_of (nat_le 8 lane) cause.Lane None full.1 in
    let there : lane ≤ 7 = let w = wide.0 in grind (arith, nat_tests, w) in
    work_added n s number lane (work_of lane t) full.0 (range there) (in_section kind.Lane s.section s.begins order) x
sound_after n s number line.Barrier range order none x =
    let on : s.section ≤ 8 = in_section kind.Barrier s.section s.begins order in
    record { declared = x.declared; ordered = ordered_on s.section 8 s.events s.handlers on x.ordered; asked = work_barrier s.commands s.ended s.segment x.asked }
sound_after n s number (line.Retire p) range order none x =
    let on : s.section ≤ 8 = in_section kind.Retire s.section s.begins order in
    record {
      declared = x.declared;
      ordered = ordered_on s.section 8 s.events s.handlers on x.ordered;
      asked = work_retire s.commands s.ended s.segment (record { retires = s.segment.retires ++ p ∷ []; lines = s.segment.lines }) refl x.asked;
    }

-- ---- the setup

right_size : (modules events : ℕ) (b : Bool) → 1 ≤ modules → modules ≤ 256 → events ≤ 64 → has_wrong_size modules (if b then 64 else 32) events ≡ false
right_size modules events true some few fit = grind (arith, nat_tests, some, few, fit)
right_size modules events false some few fit = grind (arith, nat_tests, some, few, fit)

-- what is declared has a setup
pub never_refused : (n : NativeData) (s : ScriptState) → IsSound n s → setup_fault (setup_in n s) ≡ None
never_refused n s x =
    let f = x.declared in
    let size = right_size s.modules (length s.events) (s.version == 3) f.some_modules f.few_modules f.few_events in
    let owners = each_position (has_bad_owner s.modules) s.events f.owners in
    let merges = each_position has_bad_merge s.events f.merges in
    let raises = each_position (raises_amiss s.events) s.handlers f.raises in
    let defaults = each_numbered (has_bad_default s.handlers) s.events (λ at e read. ap not (f.defaults at e read)) in
    let rules = each_position (has_bad_policy (policies n) s.guards) s.events f.authorities in
    rw (size, owners, merges, raises, defaults, rules) refl

ok_err : {A : Type 0} (r : Result A SetupFault) (e : SetupFault) → r ≡ Err e → IsOk r → ⊥
ok_err (Ok a) e is made = cc
ok_err (Err f) e is made = cc

pub never_err : {A : Type 0} (n : NativeData) (s : ScriptState) (d : SetupData) (r : Result A SetupFault) (e : SetupFault) → d ≡ setup_in n s → IsSound n s
    → MatchOption (setup_fault d) (IsOk r) (λ why. r ≡ Err why) → r ≡ Err e → ⊥
never_err n s d r e same x made is = ok_err r e is (MatchOption-at_none (IsOk r) (λ why. r ≡ Err why) (ap setup_fault same ∙ never_refused n s x) made)
