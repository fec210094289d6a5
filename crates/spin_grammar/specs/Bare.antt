-- Values without where their boxes lie: two values that differ in nothing else are one.
use Rattle.std.specs.Prelude.{map, Box}
use Rattle.std.specs.Global.{Global}
use denote.RawPtr.{null_ptr}
use Rattle.spin_code.specs.declared.expr.Expr.{Expr}
use Rattle.spin_code.specs.declared.expr.Expr.TheVariants as expr
use Rattle.spin_code.specs.declared.test.Test.{Test}
use Rattle.spin_code.specs.declared.test.Test.TheVariants as test
use Rattle.spin_code.specs.declared.act.Part.{Part}
use Rattle.spin_code.specs.declared.act.Part.TheVariants as part
use Rattle.spin_code.specs.declared.act.ActStep.{ActStep}
use Rattle.spin_code.specs.declared.act.ActStep.TheVariants as step
use Rattle.spin_code.specs.declared.merge.Merge.{Merge}
use Rattle.spin_code.specs.declared.merge.Merge.TheVariants as merge
use Rattle.spin_grammar.specs.Lines.{LineMeaning, Modules, Event, Endpoint, Handler, NativeHandler, Guard}
use Rattle.spin_grammar.specs.Lines.{NativeGuard, Rules, Authoriser, Default, Lane, Barrier}
use Rattle.spin_grammar.specs.Lines.{Retire}

-- the box that takes the place of every box: it points nowhere and holds nothing
abbrev pub nowhere : Box (Unit {0}) Global
nowhere = record { ptr = null_ptr; alloc = record { memory = record { seal = tt } }; value = tt }

abbrev pub bare_expr : Expr → Expr
bare_expr (expr.Const n) = expr.Const n
bare_expr (expr.Arg k) = expr.Arg k
bare_expr (expr.Field a offset width) = expr.Field a offset width
bare_expr (expr.Plus' p x q y) = expr.Plus' nowhere (bare_expr x) nowhere (bare_expr y)
bare_expr (expr.And' p x q y) = expr.And' nowhere (bare_expr x) nowhere (bare_expr y)
bare_expr (expr.Or' p x q y) = expr.Or' nowhere (bare_expr x) nowhere (bare_expr y)

abbrev pub bare_test : Test → Test
bare_test test.True = test.True
bare_test (test.Compare c x y) = test.Compare c (bare_expr x) (bare_expr y)
bare_test (test.HasBytes a n) = test.HasBytes a n
bare_test (test.Not' p t) = test.Not' nowhere (bare_test t)
bare_test (test.All' p t q u) = test.All' nowhere (bare_test t) nowhere (bare_test u)
bare_test (test.Any' p t q u) = test.Any' nowhere (bare_test t) nowhere (bare_test u)

abbrev pub bare_part : Part → Part
bare_part (part.Word e) = part.Word (bare_expr e)
bare_part (part.Bytes a from) = part.Bytes a from

abbrev pub bare_step : ActStep → ActStep
bare_step (step.Set a e) = step.Set a (bare_expr e)
bare_step (step.Send endpoint a from) = step.Send endpoint a from
bare_step (step.Result e) = step.Result (bare_expr e)
bare_step (step.Up event parts) = step.Up event (map bare_part parts)
bare_step (step.Layer k event) = step.Layer k event

abbrev pub bare_merge : Merge → Merge
bare_merge merge.Last = merge.Last
bare_merge (merge.Fold e) = merge.Fold (bare_expr e)

abbrev pub bare_line : LineMeaning → LineMeaning
bare_line (Modules n) = Modules n
bare_line (Event e owner sig m) = Event e owner sig (bare_merge m)
bare_line (Endpoint p name) = Endpoint p name
bare_line (Handler h sig steps) = Handler h sig (map bare_step steps)
bare_line (NativeHandler h name) = NativeHandler h name
bare_line (Guard g sig t) = Guard g sig (bare_test t)
bare_line (NativeGuard g name) = NativeGuard g name
bare_line (Rules e r) = Rules e r
bare_line (Authoriser e name) = Authoriser e name
bare_line (Default e h) = Default e h
bare_line (Lane l t) = Lane l t
bare_line Barrier = Barrier
bare_line (Retire p) = Retire p
