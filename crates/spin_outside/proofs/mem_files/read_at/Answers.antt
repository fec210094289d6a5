use Rattle.std.proofs.Common.{ℕ, List, Option, set, subst, ◌<◌, ◌++◌, arith, None, [], length, take, ap, sym, ◌∙◌}
use Rattle.std.proofs.Math.Seq.{take-nil}
use Rattle.std.proofs.lemmas.List.{get_or_default}
use Rattle.spin_outside.specs.Shelves.{reads_under, rest_of, name_of, file_of}
use Rattle.spin_outside.specs.Files.{ReadsMore}
use Rattle.spin_outside.proofs.FileNames.{reads-more}
use Rattle.spin_outside.proofs.FileLists.{view_at-set_same, view_at-set_other, view_at-set_kept, view_at-get, view_at-past, held-set}
use Rattle.spin_outside.proofs.mem_files.read_at.Goals as goal

pub returns-then-at-files-clause-end : goal.returns-then-at-files-clause-end
returns-then-at-files-clause-end c = λ _. view_at-past rest_of [] _ _ c.if-at-files.true

pub returns-clause-taken : goal.returns-clause-taken
returns-clause-taken c =
    let lt : c.args.at < length c.args.files.now = omega arith in
    view_at-get rest_of [] _ _ _ lt ∙ c.take.ensures.taken ∙ ap (λ ys. take c.take.result c.take.new.buf ++ ys) (sym (view_at-set_same rest_of [] c.args.files.now c.args.at c.take.new.self lt))

pub returns-then-at-files-clause-handed : goal.returns-then-at-files-clause-handed
returns-then-at-files-clause-handed c =
    sym (ap (take (length c.args.buf.now)) (view_at-past rest_of [] _ _ c.if-at-files.true) ∙ take-nil (length c.args.buf.now))

pub returns-clause-handed : goal.returns-clause-handed
returns-clause-handed c =
    let lt : c.args.at < length c.args.files.now = omega arith in
    c.take.ensures.handed ∙ ap (take (length c.args.buf.now)) (sym (view_at-get rest_of [] c.args.files.now c.args.at c.index-files-at.result lt))

pub returns-clause-end : goal.returns-clause-end
returns-clause-end c =
    let lt : c.args.at < length c.args.files.now = omega arith in
    λ none. view_at-set_same rest_of [] c.args.files.now c.args.at c.take.new.self lt ∙ c.take.ensures.end none

pub returns-clause-held : goal.returns-clause-held
returns-clause-held c =
    let lt : c.args.at < length c.args.files.now = omega arith in
    held-set _ _ _ (ap file_of c.take.ensures.same ∙ ap file_of (get_or_default _ _ _ _ lt))

pub returns-clause-left_others : goal.returns-clause-left_others
returns-clause-left_others c = λ other apart. view_at-set_other rest_of [] _ _ other _ apart

pub returns-clause-named : goal.returns-clause-named
returns-clause-named c =
    let lt : c.args.at < length c.args.files.now = omega arith in
    view_at-set_kept name_of None c.args.files.now c.args.at c.take.new.self (ap name_of c.take.ensures.same ∙ ap name_of (get_or_default _ _ _ _ lt))

pub returns-clause-under : goal.returns-clause-under
returns-clause-under c =
    let lt : c.args.at < length c.args.files.now = omega arith in
    subst (λ (name : Option (List ℕ)). ReadsMore (reads_under c.args.files.now) (reads_under (set c.args.files.now c.args.at c.take.new.self)) name c.take.result)
    (sym (view_at-get name_of None c.args.files.now c.args.at c.index-files-at.result lt))
    (reads-more c.args.files.now c.args.at c.take.new.self c.index-files-at.result c.take.result lt c.requires.apart
    (ap (λ f. f.name) c.take.ensures.same) c.take.ensures.counted c.take.ensures.closed)
