use Rattle.bench_trie.proofs.report.Given as goal

abbrev pub ghosts-run : goal.ghosts-run
ghosts-run g a = record { name = a.opening.name; ids = a.opening.ids }
