use Rattle.tests_storage.proofs.cell.four_threads_share_test_and_end_one_block.Given as goal

-- the type stands for the stock that was opened
abbrev pub ghosts-visited_by_four : goal.ghosts-visited_by_four
ghosts-visited_by_four g a = record { name = a.opening.name; ids = a.opening.ids }
