use Rattle.std.proofs.Common.{refl}
use Rattle.spin_grammar.specs.Grammar.{accepts}
use Rattle.spin_grammar.specs.Inner.Keywords.{deed_next}
use Rattle.spin_grammar.proofs.LookupTables.{IsSpelled, look_up_chosen}
use Rattle.spin_grammar.proofs.keywords.deed_word.Goals as goal

pub returns : goal.returns
unfolding accepts
returns c =
    let spelled : IsSpelled (deed_next c.args.version) c.as_slice.result.now = rw c.as_slice.ensures (refl, (refl, (refl, (refl, (refl, (refl, (refl, (refl, tt)))))))) in
    let e = look_up_chosen (deed_next c.args.version) c.as_slice.result.now c.args.word.now spelled in
    rw (c.meaning.ensures, c.as_slice.ensures) (rw c.as_slice.ensures at e)
