use Rattle.tests_program.proofs.program.run_on.Given as goal

-- the type stands for the stock that was opened
abbrev pub ghosts-run_over : goal.ghosts-run_over
ghosts-run_over g a = record { name = a.opening.name; ids = a.opening.ids }
