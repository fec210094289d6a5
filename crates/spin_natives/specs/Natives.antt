-- The natives of the program.
use Rattle.std.specs.Prelude.{ℕ, Bool, true, false, List, [], ◌∷◌, None, codes}
use Rattle.spin_values.specs.declared.types.EventType.{EventType}
use Rattle.spin_values.specs.declared.types.Kind.TheVariants.{Bytes}
use Rattle.spin_code.specs.declared.act.Act.{Act}
use Rattle.spin_code.specs.declared.act.ActStep.TheVariants as step
use Rattle.spin_code.specs.declared.expr.Expr.{Expr}
use Rattle.spin_code.specs.declared.expr.Expr.TheVariants.{Const, Field}
use Rattle.spin_code.specs.declared.test.Test.{Test}
use Rattle.spin_code.specs.declared.test.Test.TheVariants.{Compare}
use Rattle.spin_code.specs.declared.test.Cmp.TheVariants.{Eq}
use Rattle.spin_policy.specs.declared.rule.OpMatch.TheVariants.{Any}
use Rattle.spin_policy.specs.declared.rule.Effect.TheVariants.{Quota}
use Rattle.spin_policy.specs.declared.rule.Rule.{Rule}
use Rattle.spin_objects.specs.Units.{Named}
use Rattle.spin_script.specs.States.{NativeData}

-- one parameter of bytes, which no handler may change
abbrev pub of_bytes : Bool → EventType
of_bytes gives = record { params = record { kind = Bytes; var = false } ∷ []; gives = gives }

-- it gives the first eight bytes of argument 0 as a number
abbrev pub first_word : Act
first_word = record { steps = step.Result (Field 0 0 8) ∷ [] }

-- the type of an Ethernet frame
abbrev pub ether_type : Expr
ether_type = Field 0 12 2

-- the frame says that it holds an IPv4 packet
abbrev pub is_ipv4 : Test
is_ipv4 = Compare Eq ether_type (Const 2048)

-- each module may have two bindings, and change its own
abbrev pub own_two : List Rule
own_two =
    record { low = 0; high = 255; op = Any; handler = None; own_only = true; effect = Quota 2 } ∷ []

abbrev pub named : {X : Type 0} → List ℕ → X → Named X
named name unit = record { name = name; unit = unit }

-- one of each kind
abbrev pub natives : NativeData
natives = record {
  handlers = named (codes "first_word") (record { sig = of_bytes true; act = first_word }) ∷ [];
  guards = named (codes "is_ipv4") (record { sig = of_bytes false; test = is_ipv4 }) ∷ [];
  authorisers = named (codes "own_two") own_two ∷ [];
}
