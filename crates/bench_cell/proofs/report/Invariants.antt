use Rattle.bench_cell.proofs.report.Given as goal

-- the type stands for the stock that was opened, in each workload
abbrev pub ghosts-share : goal.ghosts-share
ghosts-share g a = record { name = a.opening.name; ids = a.opening.ids }

abbrev pub ghosts-sole : goal.ghosts-sole
ghosts-sole g a = record { name = a.opening.name; ids = a.opening.ids }

abbrev pub ghosts-get : goal.ghosts-get
ghosts-get g a = record { name = a.opening.name; ids = a.opening.ids }
