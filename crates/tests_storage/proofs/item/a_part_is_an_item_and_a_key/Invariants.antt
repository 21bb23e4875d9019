use Rattle.tests_storage.proofs.item.a_part_is_an_item_and_a_key.Given as goal

abbrev pub ghosts-part_copied : goal.ghosts-part_copied
ghosts-part_copied g a = record { name = a.opening.name; ids = a.opening.ids }
