use Rattle.std.proofs.Common.{◌∙◌, ap, subst, ℕ}
use Rattle.std.specs.Prelude.{IfOk}
use Rattle.std.specs.List.{list_all}
use Rattle.std.specs.Option.{option_map}
use Rattle.spin_code.specs.declared.expr.Expr.{Expr}
use Rattle.spin_plan.specs.Keys.{IsLeader}
use Rattle.spin_plan.specs.Planned.{expr_of}
use Rattle.spin_plan.specs.Inner.Reads.{is_read, times_in}
use Rattle.spin_plan.proofs.RequirementCounts.{all_are, of_all}
use Rattle.spin_plan.proofs.key.key_of.Goals as goal

pub leader-requires : goal.leader-requires
leader-requires g c =
    ap (list_all is_read) (c.as_slice.ensures ∙ c.in_ok-reads.ensures) ∙ all_are (g.C.Guards.tests c.args.guards.now) c.args.ordered.now

pub returns : goal.returns
returns g c =
    subst (λ (n : Expr → ℕ). IfOk c.leader.result (λ l. IsLeader n (option_map expr_of l)))
    (λ i e. (ap (λ rs. times_in rs e) (c.as_slice.ensures ∙ c.in_ok-reads.ensures) ∙ of_all e (g.C.Guards.tests c.args.guards.now) c.args.ordered.now) i)
    c.leader.ensures
