use Rattle.cowrun.proofs.main.Given as goal

-- the type stands for the stock that was opened
abbrev pub ghosts-run_words : goal.ghosts-run_words
ghosts-run_words types a = record { name = a.opening.name; ids = a.opening.ids }
