use Rattle.tests_values.proofs.print.lists_and_pairs_are_printed.Given as goal

abbrev pub ghosts-printed_lists : goal.ghosts-printed_lists
ghosts-printed_lists g a = record { name = a.opening.name; ids = a.opening.ids }
