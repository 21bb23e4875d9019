use Rattle.tests_storage.proofs.item.two_items_that_share_a_value_drop_it_once.Given as goal

abbrev pub ghosts-shared_block : goal.ghosts-shared_block
ghosts-shared_block g a = record { name = a.opening.name; ids = a.opening.ids }
