use Rattle.tests_storage.proofs.item.texts_hash_by_fnv_1a.Given as goal

abbrev pub ghosts-text_hash : goal.ghosts-text_hash
ghosts-text_hash g a = record { name = a.opening.name; ids = a.opening.ids }
