use Rattle.tests_lazy.proofs.lazy.a_sum_stands_still_at_the_greatest_integer.Given as goal

abbrev pub ghosts-at_the_end : goal.ghosts-at_the_end
ghosts-at_the_end g a = record { name = a.opening.name; ids = a.opening.ids }
