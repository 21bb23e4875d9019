use Rattle.tests_storage.proofs.array.appends_within_the_room_copy_nothing.Given as goal

abbrev pub ghosts-hundred : goal.ghosts-hundred
ghosts-hundred g a = record { name = a.opening.name; ids = a.opening.ids }
