use Rattle.tests_storage.proofs.cell.a_handle_whose_twin_has_ended_is_sole.Given as goal

-- the type stands for the stock that was opened
abbrev pub ghosts-tested_twice : goal.ghosts-tested_twice
ghosts-tested_twice g a = record { name = a.opening.name; ids = a.opening.ids }
