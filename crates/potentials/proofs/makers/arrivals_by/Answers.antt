use Rattle.potentials.proofs.makers.arrivals_by.Goals as goal

pub path_weights-requires-clause-reachable : goal.path_weights-requires-clause-reachable
path_weights-requires-clause-reachable g = λ event k. (g.requires.root.1 event k).0
