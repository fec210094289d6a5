use Rattle.std.proofs.Common.{◌≡◌, ap, sym, ◌∙◌, set, get_or}
use Rattle.std.proofs.lemmas.List.{get_or_default}
use Rattle.spin_outside.specs.Shelves.{with_file}
use Rattle.spin_outside.proofs.FileNames.{with_file-at, apart-set}
use Rattle.spin_outside.proofs.mem_files.refill_at.Goals as goal

pub returns-clause-put : goal.returns-clause-put
returns-clause-put c = λ file is.
    let same : get_or c.args.files.now c.args.at c.index-files-at.result ≡ file = get_or_default c.args.files.now c.args.at c.index-files-at.result file c.requires.there ∙ is in
    ap (λ f. set c.args.files.now c.args.at f) c.refill.ensures
    ∙ sym (with_file-at c.args.files.now c.args.at c.index-files-at.result c.args.bytes c.requires.there c.requires.apart)
    ∙ ap (λ f. with_file c.args.files.now f.name c.args.bytes) same

pub returns-clause-apart : goal.returns-clause-apart
returns-clause-apart c =
    apart-set c.args.files.now c.args.at c.refill.new.self c.index-files-at.result c.requires.apart (ap (λ f. f.name) c.refill.ensures)
