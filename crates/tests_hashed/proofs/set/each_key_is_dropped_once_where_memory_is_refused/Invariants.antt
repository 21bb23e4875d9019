use Rattle.tests_hashed.proofs.set.each_key_is_dropped_once_where_memory_is_refused.Given as goal

abbrev pub ghosts-noted_sets : goal.ghosts-noted_sets
ghosts-noted_sets g a = record { name = a.opening.name; ids = a.opening.ids }
