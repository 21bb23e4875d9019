use Rattle.tests_treeset.proofs.removing.a_key_that_is_no_member_leaves_the_nodes.Given as goal

abbrev pub ghosts-lose : goal.ghosts-lose
ghosts-lose g a = record { name = a.opening.name; ids = a.opening.ids }
