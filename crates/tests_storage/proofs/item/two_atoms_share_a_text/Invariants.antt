use Rattle.tests_storage.proofs.item.two_atoms_share_a_text.Given as goal

abbrev pub ghosts-shared_text : goal.ghosts-shared_text
ghosts-shared_text g a = record { name = a.opening.name; ids = a.opening.ids }
