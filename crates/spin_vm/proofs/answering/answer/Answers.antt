use Rattle.spin_vm.proofs.SpaceRegions.{there, came_there, spaces_there, regions_there}
use Rattle.spin_vm.proofs.answering.answer.Goals as goal

pub returns-in-At-clause-came : goal.returns-in-At-clause-came
returns-in-At-clause-came g c reply are =
    let spaces = c.args.spaces.now.items in
    let s = c.index_mut-at.result.now in
    let at = there spaces c.args.said.now c.in-At.space c.in-At.request s c.in-At.is c.requires.good c.index_mut-at.ensures.value in
    came_there reply spaces c.args.said.now c.in-At.space c.in-At.request s c.in-At.is at c.asked.result (c.asked.ensures.came reply are)

pub returns-in-At-clause-spaces : goal.returns-in-At-clause-spaces
returns-in-At-clause-spaces g c reply are =
    let spaces = c.args.spaces.now.items in
    let s = c.index_mut-at.result.now in
    let at = there spaces c.args.said.now c.in-At.space c.in-At.request s c.in-At.is c.requires.good c.index_mut-at.ensures.value in
    spaces_there reply spaces c.args.said.now c.in-At.space c.in-At.request s c.in-At.is at c.asked.result c.asked.new.space (c.asked.ensures.space reply are)

pub returns-in-At-clause-regions : goal.returns-in-At-clause-regions
returns-in-At-clause-regions g c =
    let spaces = c.args.spaces.now.items in
    let s = c.index_mut-at.result.now in
    let at = there spaces c.args.said.now c.in-At.space c.in-At.request s c.in-At.is c.requires.good c.index_mut-at.ensures.value in
    regions_there spaces c.args.said.now c.in-At.space c.in-At.request s c.in-At.is at c.asked.result c.asked.new.space c.asked.ensures.regions
