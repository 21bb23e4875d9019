use Rattle.tests_storage.proofs.item.a_literal_is_read_as_an_atom.Given as goal

abbrev pub ghosts-read_text : goal.ghosts-read_text
ghosts-read_text g a = record { name = a.opening.name; ids = a.opening.ids }
