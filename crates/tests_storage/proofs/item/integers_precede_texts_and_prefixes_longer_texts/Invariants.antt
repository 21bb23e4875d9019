use Rattle.tests_storage.proofs.item.integers_precede_texts_and_prefixes_longer_texts.Given as goal

abbrev pub ghosts-orders : goal.ghosts-orders
ghosts-orders g a = record { name = a.opening.name; ids = a.opening.ids }
