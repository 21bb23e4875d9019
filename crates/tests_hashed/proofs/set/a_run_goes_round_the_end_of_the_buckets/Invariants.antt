use Rattle.tests_hashed.proofs.set.a_run_goes_round_the_end_of_the_buckets.Given as goal

abbrev pub ghosts-round_the_end : goal.ghosts-round_the_end
ghosts-round_the_end g a = record { name = a.opening.name; ids = a.opening.ids }
