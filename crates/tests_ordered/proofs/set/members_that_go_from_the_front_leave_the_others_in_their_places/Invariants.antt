use Rattle.tests_ordered.proofs.set.members_that_go_from_the_front_leave_the_others_in_their_places.Given as goal

abbrev pub ghosts-queue : goal.ghosts-queue
ghosts-queue g a = record { name = a.opening.name; ids = a.opening.ids }
