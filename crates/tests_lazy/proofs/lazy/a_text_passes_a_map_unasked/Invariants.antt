use Rattle.tests_lazy.proofs.lazy.a_text_passes_a_map_unasked.Given as goal

abbrev pub ghosts-text_first : goal.ghosts-text_first
ghosts-text_first g a = record { name = a.opening.name; ids = a.opening.ids }
