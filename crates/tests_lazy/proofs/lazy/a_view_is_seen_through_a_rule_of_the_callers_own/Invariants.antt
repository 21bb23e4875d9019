use Rattle.tests_lazy.proofs.lazy.a_view_is_seen_through_a_rule_of_the_callers_own.Given as goal

abbrev pub ghosts-even_numbers : goal.ghosts-even_numbers
ghosts-even_numbers g a = record { name = a.opening.name; ids = a.opening.ids }
