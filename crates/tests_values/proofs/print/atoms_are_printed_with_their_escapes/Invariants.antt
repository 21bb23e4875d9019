use Rattle.tests_values.proofs.print.atoms_are_printed_with_their_escapes.Given as goal

abbrev pub ghosts-printed_atoms : goal.ghosts-printed_atoms
ghosts-printed_atoms g a = record { name = a.opening.name; ids = a.opening.ids }
