use Rattle.std.proofs.Common.{◌≡◌, arith, rules, length, true}
use Rattle.std.proofs.lemmas.List.{length-take}
use Rattle.spin_outside.proofs.FileLists.{taken_split}
use Rattle.spin_outside.proofs.mem_file.MemFile.take.Goals as goal

pub returns-clause-taken : goal.returns-clause-taken
returns-clause-taken c =
    let opened : c.args.self.now.opened ≡ true = search rules in
    let len : length c.copy_from_slice.new.self ≡ c.min-count.result = omega (arith, c.copy_from_slice.ensures.len, length-take c.min-count.result c.args.buf.now, c.min-count.ensures) in
    taken_split c.args.self.now c.as_slice-bytes.result.now c.copy_from_slice.new.self c.args.buf.now c.min-from.result
    c.min-count.result 0 opened c.as_slice-bytes.ensures c.min-from.ensures len c.copy_from_slice.ensures.after
