use Rattle.std.proofs.Common.{rules, ◌≡◌, ℕ, List, Option, ◌<◌, ◌≤◌, length, [], refl, sym, subst}
use Rattle.std.specs.Io.KnownBytes.{Consumes, IsAtEnd, ReadConsumes}
use Rattle.spin_outside.proofs.FoundFiles.{left_in-past, left_in-set_other, moved}
use Rattle.spin_outside.proofs.ToldAnswers.{handed_on}
use Rattle.spin_outside.proofs.folder_shelf.FolderShelfShelf.read.Goals as goal

pub returns-then-file-len-clause-taken : goal.returns-then-file-len-clause-taken
returns-then-file-len-clause-taken g c =
    let past : length c.args.self.now.opened.items ≤ c.args.file = search rules in
    subst (λ (o : Option (List ℕ)). Consumes o o [] × (◌≡◌ {A = ℕ} 0 0 → 0 < length c.args.buf.now → IsAtEnd o))
    (sym (left_in-past g.R.File.Read.remaining c.args.self.now.opened.items c.args.file past)) (refl, λ _ _. refl)

pub returns-clause-taken : goal.returns-clause-taken
returns-clause-taken g c =
    let there : c.args.file < length c.args.self.now.opened.items = search rules in
    handed_on c.read-given.result c.tell.result _ _ _ _ c.tell.ensures
    (moved (λ before now. ReadConsumes before now c.read-given.result c.read-given.new.buf) g.R.File.Read.remaining
    c.args.self.now.opened.items c.args.file c.index_mut.result.now c.read-given.new.self there c.index_mut.ensures.value c.read-given.ensures.bytes)

pub returns-clause-others : goal.returns-clause-others
returns-clause-others g c = λ other apart. left_in-set_other g.R.File.Read.remaining c.args.self.now.opened.items c.args.file other c.read-given.new.self apart
