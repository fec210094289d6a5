-- The law of isolation.
use Rattle.std.specs.Prelude.{◌≡◌, ℕ, Bool, true, ◌==◌, List, [], map, filter}
use Rattle.spin_word.specs.declared.work.Deed.{Deed}
use Rattle.spin_proto.specs.declared.reply.Reply.{Reply}
use Rattle.spin_vm.specs.declared.line.Statement.{Statement}
use Rattle.spin_vm.specs.declared.line.Statement.TheVariants as said
use Rattle.spin_vm.specs.declared.line.TraceLine.{TraceLine}
use Rattle.spin_vm.specs.declared.came.Came.{Came}
use Rattle.spin_vm.specs.Spaces.{Answered, answers}

-- a line that declares a space, or is about that one
abbrev pub is_kept : ℕ → Statement → Bool
is_kept space (said.Space declared) = true
is_kept space (said.At about asked) = about == space

-- what the lines say, without the `region`, `unmap` and `access` lines of other spaces
abbrev pub without_others : ℕ → List TraceLine → List Statement
without_others space trace = filter (is_kept space) (map (λ line. line.said) trace)

-- what the lines of a space come to, without their numbers
abbrev pub came_in : ℕ → List Answered → List Came
came_in space answered = map (λ a. a.came) (filter (λ a. a.space == space) answered)

-- The answers to one space's lines are those of a trace that says the same without the lines of other spaces, however
-- its lines are numbered, and however raises are replied to.
abbrev pub SpacesAreIsolated : Type 0
SpacesAreIsolated =
    (reply : Deed → Reply) (space : ℕ) (trace alone : List TraceLine)
    → map (λ line. line.said) alone ≡ without_others space trace
    → came_in space (answers reply [] trace) ≡ came_in space (answers reply [] alone)
