use Rattle.tests_lazy.proofs.lazy.a_filter_drops_a_text_unasked.Given as goal

abbrev pub ghosts-no_first : goal.ghosts-no_first
ghosts-no_first g a = record { name = a.opening.name; ids = a.opening.ids }
