use Rattle.std.proofs.Common.{List, sym, subst, ap, ◌∙◌}
use Rattle.cow_table.specs.Pairs.{TableView, hash_at}
use Rattle.cow_table.specs.Ring.{cells, pairs_of, HasFree}
use Rattle.cow_table.specs.declared.ring.Bucket.{Bucket}
use Rattle.cow_table.proofs.Searches.{table-free}
use Rattle.cow_table.proofs.table.Table.find.Goals as goal

pub search-requires-clause-free : goal.search-requires-clause-free
search-requires-clause-free g c = subst (λ (x : List Bucket). HasFree (cells x)) (sym c.as_slice.ensures.value) (table-free c.self.inside.buckets.items c.self.inside.room c.self.inside.reach c.self.invariant)

pub search-requires-clause-keys : goal.search-requires-clause-keys
search-requires-clause-keys g c p h there =
    c.requires.keys p h (ap (λ (v : TableView). hash_at v.pairs p) (sym c.self.view_is) ∙ ap (λ (x : List Bucket). hash_at (pairs_of (cells x)) p) (sym c.as_slice.ensures.value) ∙ there)
