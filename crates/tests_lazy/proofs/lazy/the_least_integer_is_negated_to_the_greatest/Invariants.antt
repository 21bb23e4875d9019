use Rattle.tests_lazy.proofs.lazy.the_least_integer_is_negated_to_the_greatest.Given as goal

abbrev pub ghosts-negated : goal.ghosts-negated
ghosts-negated g a = record { name = a.opening.name; ids = a.opening.ids }
