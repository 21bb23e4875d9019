use Rattle.std.proofs.Common.{List, None, get_or, sym, subst, ap, ◌∙◌}
use Rattle.cow_table.specs.Pairs.{TableView, hash_at}
use Rattle.cow_table.specs.Ring.{cells, pairs_of, HasFree}
use Rattle.cow_table.specs.declared.ring.Bucket.{Bucket}
use Rattle.cow_table.proofs.Cells.{lookup-cell}
use Rattle.cow_table.proofs.Searches.{table-free}
use Rattle.cow_table.proofs.table.Table.remove_at.Goals as goal

pub seek-at-requires-clause-there : goal.seek-at-requires-clause-there
seek-at-requires-clause-there c = lookup-cell (cells c.as_slice.result.now) c.args.position c.args.hash
    (ap (λ (x : List Bucket). hash_at (pairs_of (cells x)) c.args.position) c.as_slice.ensures.value ∙ ap (λ (v : TableView). hash_at v.pairs c.args.position) c.self.view_is ∙ c.requires)

pub empty-requires-clause-filled : goal.empty-requires-clause-filled
empty-requires-clause-filled c = (
  record { hash = c.args.hash; position = c.args.position },
  ap (λ (x : List Bucket). get_or (cells x) c.seek-at.result None) (c.as_mut_slice.ensures.value ∙ sym c.as_slice.ensures.value) ∙ c.seek-at.ensures.value,
)

pub empty-requires-clause-free : goal.empty-requires-clause-free
empty-requires-clause-free c = subst (λ (x : List Bucket). HasFree (cells x)) (sym c.as_mut_slice.ensures.value) (table-free c.self.inside.buckets.items c.self.inside.room c.self.inside.reach c.self.invariant)
