use Rattle.host_workers.proofs.played.Goals as goal

pub play-requires-clause-agreed : goal.play-requires-clause-agreed
play-requires-clause-agreed g c κs within task = (λ can. can, λ can. can)
