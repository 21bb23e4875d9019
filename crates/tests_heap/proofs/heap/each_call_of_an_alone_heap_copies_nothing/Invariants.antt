use Rattle.tests_heap.proofs.heap.each_call_of_an_alone_heap_copies_nothing.Given as goal

abbrev pub ghosts-heap_calls : goal.ghosts-heap_calls
ghosts-heap_calls g a = record { name = a.opening.name; ids = a.opening.ids }
