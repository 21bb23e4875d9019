use Rattle.tests_tasks.proofs.blocks.printed.Given as goal

-- the type stands for the stock that was opened
abbrev pub ghosts-text_of : goal.ghosts-text_of
ghosts-text_of g a = record { name = a.opening.name; ids = a.opening.ids }
