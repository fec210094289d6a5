use Rattle.std.proofs.Common.{◌≡◌, ◌++◌, ◌∷◌, [], None, List, ap, sym, subst, ◌∙◌, get_or, length, arith}
use Rattle.std.proofs.lemmas.List.{with_items_is}
use Rattle.spin_outside.specs.Files.{content}
use Rattle.spin_outside.specs.declared.mem_file.MemFile.{MemFile}
use Rattle.spin_outside.specs.Shelves.{ShelfState, held, with_file}
use Rattle.spin_outside.specs.Inner.Apart.{AreNamedApart}
use Rattle.spin_outside.proofs.FileNames.{with_file-behind, apart-push}
use Rattle.spin_outside.proofs.mem_shelf.MemShelf.put.Goals as goal

pub invariant_of-self-in-None : goal.invariant_of-self-in-None
invariant_of-self-in-None c =
    let lacking : content (held c.self.inside.files.items) c.new.result.name ≡ None =
    ap (λ fs. content (held fs) c.new.result.name) (sym c.deref.ensures.value)
    ∙ ap (λ name. content (held c.deref.result.now) name) (ap (λ f. f.name) c.new.ensures ∙ sym c.as_slice.ensures) ∙ c.in-None.ensures.none in
    (subst (λ (fs : List MemFile). AreNamedApart (held fs)) (sym c.in_ok-push-in-None.ensures.items) (apart-push c.self.inside.files.items c.new.result c.self.invariant.0 lacking), c.self.invariant.1)

pub returns-in-Some-clause-ok : goal.returns-in-Some-clause-ok
returns-in-Some-clause-ok c =
    let found = c.in-Some.ensures.found in
    let there : get_or c.deref_mut.result.now c.in-Some.at found.0 ≡ found.0 =
    subst (λ (fs : List MemFile). get_or fs c.in-Some.at found.0 ≡ found.0) (c.deref.ensures.value ∙ sym c.deref_mut.ensures.value) found.1 in
    let put = c.refill_at.ensures.put found.0 there ∙ ap (λ fs. with_file fs found.0.name c.args.bytes) c.deref_mut.ensures.value in
    let whole : length c.refill_at.new.files ≡ c.self.inside.files.len = omega (arith, c.refill_at.ensures.len, ap length c.deref_mut.ensures.value, c.self.inside.files.ok.0) in
    ap (λ fs.
    record { files = fs; piece = c.self.inside.piece; finds = c.self.inside.finds; reads = c.self.inside.reads; faults = c.self.inside.faults.number; absences = c.self.inside.absences.number })
    (with_items_is c.self.inside.files c.refill_at.new.files whole ∙ put ∙ ap (λ name. with_file c.self.inside.files.items name c.args.bytes) (found.2 ∙ c.as_slice.ensures))
    ∙ ap (λ (s : ShelfState). record s { files = with_file s.files c.args.name c.args.bytes }) c.self.view_is

pub returns-in_ok-push-in-None-clause-ok : goal.returns-in_ok-push-in-None-clause-ok
returns-in_ok-push-in-None-clause-ok c =
    let lacking : content (held c.self.inside.files.items) c.args.name ≡ None =
    ap (λ fs. content (held fs) c.args.name) (sym c.deref.ensures.value) ∙ ap (λ name. content (held c.deref.result.now) name) (sym c.as_slice.ensures) ∙ c.in-None.ensures.none in
    let put = c.in_ok-push-in-None.ensures.items ∙ ap (λ f. c.self.inside.files.items ++ f ∷ []) c.new.ensures in
    ap (λ fs. record {
      files = fs;
      piece = c.self.inside.piece;
      finds = c.self.inside.finds;
      reads = c.self.inside.reads;
      faults = c.self.inside.faults.number;
      absences = c.self.inside.absences.number;
    }) (put ∙ sym (with_file-behind c.self.inside.files.items c.args.name c.args.bytes lacking))
    ∙ ap (λ (s : ShelfState). record s { files = with_file s.files c.args.name c.args.bytes }) c.self.view_is
