-- `==` of kinds.
use Rattle.std.proofs.Common.{◌≡◌, refl}
use Rattle.spin_values.specs.declared.types.Kind.{Kind}
use Rattle.spin_values.specs.declared.types.Kind.TheVariants.{Word, Bytes}
use Rattle.spin_values.specs.contracts.types.Kind.{the_type}
use denote.Enum.Bare.{sameb}
use Rattle.spin_code.specs.Uses.{same_kind}

pub same_kind_is : (a b : Kind) → sameb the_type a b ≡ same_kind a b
same_kind_is Word Word = refl
same_kind_is Word Bytes = refl
same_kind_is Bytes Word = refl
same_kind_is Bytes Bytes = refl
