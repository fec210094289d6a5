use Rattle.std.proofs.Common.{None, [], ap, ◌∙◌, Some}
use Rattle.std.proofs.lemmas.List.{get_or_default}
use Rattle.spin_outside.specs.Shelves.{rest_of, name_of, file_of}
use Rattle.spin_outside.proofs.FileNames.{reads-set_kept}
use Rattle.spin_outside.proofs.FileLists.{view_at-set_same, view_at-set_other, held-set}
use Rattle.spin_outside.proofs.mem_files.open_at.Goals as goal

pub returns-clause-held : goal.returns-clause-held
returns-clause-held c = held-set _ _ _ (ap file_of c.open.ensures ∙ ap file_of (get_or_default _ _ _ _ c.requires))

pub returns-clause-left : goal.returns-clause-left
returns-clause-left c = λ file is. view_at-set_same rest_of [] _ _ _ c.requires ∙ ap rest_of c.open.ensures
    ∙ ap (λ f. f.bytes) (get_or_default c.args.files.now c.args.at c.index-files-at.result file c.requires ∙ is)

pub returns-clause-named : goal.returns-clause-named
returns-clause-named c = λ file is. view_at-set_same name_of None _ _ _ c.requires ∙ ap name_of c.open.ensures
    ∙ ap (λ f. Some f.name) (get_or_default c.args.files.now c.args.at c.index-files-at.result file c.requires ∙ is)

pub returns-clause-left_others : goal.returns-clause-left_others
returns-clause-left_others c = λ other apart. view_at-set_other rest_of [] _ _ other _ apart

pub returns-clause-named_others : goal.returns-clause-named_others
returns-clause-named_others c = λ other apart. view_at-set_other name_of None _ _ other _ apart

pub returns-clause-under : goal.returns-clause-under
returns-clause-under c = λ name. reads-set_kept _ _ _ c.index-files-at.result name (ap (λ f. f.name) c.open.ensures) (ap (λ f. f.taken) c.open.ensures)
