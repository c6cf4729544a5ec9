use Rattle.relax_rounds.proofs.rounds.arrivals_by.Given as goal

abbrev pub ghosts-arrivals_from : goal.ghosts-arrivals_from
ghosts-arrivals_from g a = record { name = a.blank.name; parts = a.blank.parts }
