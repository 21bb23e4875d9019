use Rattle.tests_storage.proofs.cell.two_threads_drop_a_value_once.Given as goal

-- the type stands for the stock that was opened
abbrev pub ghosts-ended_and_dropped : goal.ghosts-ended_and_dropped
ghosts-ended_and_dropped g a = record { name = a.opening.name; ids = a.opening.ids }
