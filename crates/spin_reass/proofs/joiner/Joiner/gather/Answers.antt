use Rattle.std.proofs.Common.{◌≡◌, true, false, rules, sym, ap, subst, ◌∙◌, get_or, ℕ, List}
use Rattle.std.proofs.Math.ListN.{set}
use Rattle.std.specs.List.{remove}
use Rattle.spin_reass.specs.Joining.{OpenDatagram, gathered, whole_frame}
use Rattle.spin_reass.specs.Inner.Orderly.{added_to, makes_whole}
use Rattle.spin_reass.specs.Inner.Places.{IsAt}
use Rattle.spin_reass.proofs.AddedParts.{IsThere, gathers_on, gathers_all}
use Rattle.spin_reass.proofs.joiner.Joiner.gather.Goals as goal

pub returns-then-not-branch-clause-datagrams : goal.returns-then-not-branch-clause-datagrams
returns-then-not-branch-clause-datagrams c =
    let piece = c.args.piece in
    let at = c.args.at in
    let ds = c.self.inside.datagrams.items in
    let one = c.index_mut.result.now in
    let new = c.add.new.self in
    let frame = c.args.frame.now in
    let same : ds ≡ c.args.self.now = c.self.view_is in
    let is : one ≡ get_or ds at one = search rules in
    let t : IsThere piece.key at ds one = record { place = subst (λ (xs : List OpenDatagram). IsAt piece.key at xs) (sym same) c.requires.place; is = is } in
    let added : new ≡ added_to one piece.part = search rules in
    let more : makes_whole piece.part one.parts ≡ false = search rules in
    let r = gathers_on piece at ds frame one new t added more in
    ap (λ (x : List OpenDatagram × List ℕ). x.0) (sym r) ∙ ap (λ xs. (gathered piece xs frame).0) same

pub returns-then-not-branch-clause-frame : goal.returns-then-not-branch-clause-frame
returns-then-not-branch-clause-frame c =
    let piece = c.args.piece in
    let at = c.args.at in
    let ds = c.self.inside.datagrams.items in
    let one = c.index_mut.result.now in
    let new = c.add.new.self in
    let frame = c.args.frame.now in
    let same : ds ≡ c.args.self.now = c.self.view_is in
    let is : one ≡ get_or ds at one = search rules in
    let t : IsThere piece.key at ds one = record { place = subst (λ (xs : List OpenDatagram). IsAt piece.key at xs) (sym same) c.requires.place; is = is } in
    let added : new ≡ added_to one piece.part = search rules in
    let more : makes_whole piece.part one.parts ≡ false = search rules in
    let r = gathers_on piece at ds frame one new t added more in
    ap (λ (x : List OpenDatagram × List ℕ). x.1) (sym r) ∙ ap (λ xs. (gathered piece xs frame).1) same

pub returns-clause-datagrams : goal.returns-clause-datagrams
returns-clause-datagrams c =
    let piece = c.args.piece in
    let at = c.args.at in
    let ds = c.self.inside.datagrams.items in
    let one = c.index_mut.result.now in
    let new = c.add.new.self in
    let frame = c.args.frame.now in
    let same : ds ≡ c.args.self.now = c.self.view_is in
    let is : one ≡ get_or ds at one = search rules in
    let t : IsThere piece.key at ds one = record { place = subst (λ (xs : List OpenDatagram). IsAt piece.key at xs) (sym same) c.requires.place; is = is } in
    let added : new ≡ added_to one piece.part = search rules in
    let whole : makes_whole piece.part one.parts ≡ true = search rules in
    let gone = c.remove-whole.result in
    let from : gone ≡ get_or (set ds at new) at gone = search rules in
    let r = gathers_all piece at ds frame one new gone t added whole from in
    let left : c.remove-whole.new.self.items ≡ remove (set ds at new) at = search rules in
    left ∙ ap (λ (x : List OpenDatagram × List ℕ). x.0) (sym r) ∙ ap (λ xs. (gathered piece xs frame).0) same

pub returns-clause-frame : goal.returns-clause-frame
returns-clause-frame c =
    let piece = c.args.piece in
    let at = c.args.at in
    let ds = c.self.inside.datagrams.items in
    let one = c.index_mut.result.now in
    let new = c.add.new.self in
    let frame = c.args.frame.now in
    let same : ds ≡ c.args.self.now = c.self.view_is in
    let is : one ≡ get_or ds at one = search rules in
    let t : IsThere piece.key at ds one = record { place = subst (λ (xs : List OpenDatagram). IsAt piece.key at xs) (sym same) c.requires.place; is = is } in
    let added : new ≡ added_to one piece.part = search rules in
    let whole : makes_whole piece.part one.parts ≡ true = search rules in
    let gone = c.remove-whole.result in
    let from : gone ≡ get_or (set ds at new) at gone = search rules in
    let r = gathers_all piece at ds frame one new gone t added whole from in
    let written : c.write.new.frame ≡ whole_frame gone frame = search rules in
    written ∙ ap (λ (x : List OpenDatagram × List ℕ). x.1) (sym r) ∙ ap (λ xs. (gathered piece xs frame).1) same
