-- The passes of a queue that stand for parties.
use Rattle.std.specs.Prelude.{◌≡◌, ℕ, List, [], ◌∷◌, length}
use Rattle.crossbeam_queue.specs.Passes.{Pass, view}
use Rattle.spin_later.specs.declared.task.Task.{Task}
use Rattle.spin_later.specs.declared.known.Hand.{Hand}
use Rattle.spin_later.specs.declared.known.Known.{Known}
use Rattle.spin_later.specs.Rule.{hand, known}

-- the one hand of a view
abbrev pub only_hand : List Hand → Hand
only_hand [] = hand 0 [] []
only_hand (h ∷ hs) = h

-- the pass of the party of this number, which sent so many tasks
pub record IsPartyPass (pass : Pass Task Known) (number sent : ℕ) : Type 0 where
  pub alone : view pass ≡ known (view pass).parties (only_hand (view pass).hands ∷ []) []
  pub slots : pass.me.1 ≡ []
  pub number_is : (only_hand (view pass).hands).number ≡ number
  pub sent_is : length (only_hand (view pass).hands).sent ≡ sent
