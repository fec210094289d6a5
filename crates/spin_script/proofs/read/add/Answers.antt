use Rattle.std.proofs.Common.{◌≡◌, ℕ, Result, sym, subst}
use Rattle.spin_grammar.specs.declared.fault.Fault.{Fault}
use Rattle.spin_grammar.specs.declared.line.Statement.{Statement}
use Rattle.spin_grammar.specs.Lines.{LineMeaning}
use Rattle.spin_script.specs.States.{NativeData, ScriptState, natives_seen}
use Rattle.spin_script.specs.Inner.Drafts.{so_far}
use Rattle.spin_script.specs.Inner.Reader.{Adds, AddsSaid}
use Rattle.spin_script.proofs.read.add.Goals as goal

-- what was added is the line
adds_as : {A : Type 0} (n : NativeData) (s t : ScriptState) (number : ℕ) (l m : LineMeaning) (r : Result A Fault) → l ≡ m → Adds n s number m r t → Adds n s number l r t
adds_as n s t number l m r is adds = subst (λ (z : LineMeaning). Adds n s number z r t) (sym is) adds

said_as : {A : Type 0} (n : NativeData) (s t : ScriptState) (number : ℕ) (what known : Statement) (r : Result A Fault) → what ≡ known → AddsSaid n s number known r t → AddsSaid n s number what r t
said_as n s t number what known r is adds = subst (λ (z : Statement). AddsSaid n s number z r t) (sym is) adds

pub returns-in-Handler-clause-adds : goal.returns-in-Handler-clause-adds
returns-in-Handler-clause-adds g c =
    let n = natives_seen c.args.catalogue.now.natives in
    let s = so_far c.args.draft.now c.args.catalogue.now in
    let t = so_far c.add_handler.new.draft c.add_handler.new.catalogue in
    said_as n s t c.args.number c.args.said _ c.add_handler.result c.in-Handler.is
    (λ l is. adds_as n s t c.args.number l _ c.add_handler.result is.1 (c.add_handler.ensures.adds c.args.number is.0 is.2))

pub returns-in-NativeHandler-clause-adds : goal.returns-in-NativeHandler-clause-adds
returns-in-NativeHandler-clause-adds g c =
    let n = natives_seen c.args.catalogue.now.natives in
    let s = so_far c.args.draft.now c.args.catalogue.now in
    let t = so_far c.add_native_handler.new.draft c.add_native_handler.new.catalogue in
    said_as n s t c.args.number c.args.said _ c.add_native_handler.result c.in-NativeHandler.is
    (λ l is. adds_as n s t c.args.number l _ c.add_native_handler.result is (c.add_native_handler.ensures.adds c.args.number))

pub returns-in-Guard-clause-adds : goal.returns-in-Guard-clause-adds
returns-in-Guard-clause-adds g c =
    let n = natives_seen c.args.catalogue.now.natives in
    let s = so_far c.args.draft.now c.args.catalogue.now in
    let t = so_far c.add_guard.new.draft c.add_guard.new.catalogue in
    said_as n s t c.args.number c.args.said _ c.add_guard.result c.in-Guard.is (λ l is. adds_as n s t c.args.number l _ c.add_guard.result is.1 (c.add_guard.ensures.adds c.args.number is.0 is.2))

pub returns-in-NativeGuard-clause-adds : goal.returns-in-NativeGuard-clause-adds
returns-in-NativeGuard-clause-adds g c =
    let n = natives_seen c.args.catalogue.now.natives in
    let s = so_far c.args.draft.now c.args.catalogue.now in
    let t = so_far c.add_native_guard.new.draft c.add_native_guard.new.catalogue in
    said_as n s t c.args.number c.args.said _ c.add_native_guard.result c.in-NativeGuard.is
    (λ l is. adds_as n s t c.args.number l _ c.add_native_guard.result is (c.add_native_guard.ensures.adds c.args.number))

pub returns-in-Rule-clause-adds : goal.returns-in-Rule-clause-adds
returns-in-Rule-clause-adds g c =
    let n = natives_seen c.args.catalogue.now.natives in
    let s = so_far c.args.draft.now c.args.catalogue.now in
    let t = so_far c.add_rule.new.draft c.args.catalogue.now in
    said_as n s t c.args.number c.args.said _ c.add_rule.result c.in-Rule.is (λ l is. adds_as n s t c.args.number l _ c.add_rule.result is (c.add_rule.ensures c.args.number))

pub returns-in-Authoriser-clause-adds : goal.returns-in-Authoriser-clause-adds
returns-in-Authoriser-clause-adds g c =
    let n = natives_seen c.args.catalogue.now.natives in
    let s = so_far c.args.draft.now c.args.catalogue.now in
    let t = so_far c.add_authoriser.new.draft c.args.catalogue.now in
    said_as n s t c.args.number c.args.said _ c.add_authoriser.result c.in-Authoriser.is (λ l is. adds_as n s t c.args.number l _ c.add_authoriser.result is (c.add_authoriser.ensures c.args.number))

pub returns-in-Default-clause-adds : goal.returns-in-Default-clause-adds
returns-in-Default-clause-adds g c =
    let n = natives_seen c.args.catalogue.now.natives in
    let s = so_far c.args.draft.now c.args.catalogue.now in
    let t = so_far c.add_default.new.draft c.args.catalogue.now in
    said_as n s t c.args.number c.args.said _ c.add_default.result c.in-Default.is (λ l is. adds_as n s t c.args.number l _ c.add_default.result is (c.add_default.ensures c.args.number))
