use Rattle.spin_outside.proofs.FoundFiles.{settled_others}
use Rattle.spin_outside.proofs.folder_shelf.FolderShelfShelf.find.Goals as goal

pub returns-in-Ok-clause-others : goal.returns-in-Ok-clause-others
returns-in-Ok-clause-others g c =
    settled_others g.R.File.Read.remaining c.args.self.now.opened.items c.settle.new.self.opened.items _ c.open.result c.settle.result c.settle.ensures.found c.settle.ensures.refused
