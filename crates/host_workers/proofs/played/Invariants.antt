use Rattle.spin.specs.SetupOf.{data_of}
use Rattle.spin.specs.Agreements.{CanDoTask}
use Rattle.host_workers.proofs.played.Given as goal

-- the parties agree on what can be done at the host's setup
abbrev pub ghosts-play : goal.ghosts-play
ghosts-play g a = record { allows = λ task. CanDoTask (data_of a.setup.now) task }
