use Rattle.tests_deque.proofs.deque.a_deque_with_room_turns_either_way.Given as goal

abbrev pub ghosts-turned : goal.ghosts-turned
ghosts-turned g a = record { name = a.opening.name; ids = a.opening.ids }
