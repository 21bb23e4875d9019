use Rattle.std.proofs.Common.{◌<◌, List, length, set, None, get_or, arith, sym, subst, ap, ◌∙◌}
use Rattle.cow_table.specs.Pairs.{TableView, Renames, hash_at}
use Rattle.cow_table.specs.Ring.{cells, pairs_of}
use Rattle.cow_table.specs.declared.ring.Bucket.{Bucket}
use Rattle.cow_table.proofs.Cells.{lookup-cell}
use Rattle.cow_table.proofs.Renames.{table-rename}
use Rattle.cow_table.proofs.table.Table.rename.Goals as goal

pub seek-at-requires-clause-there : goal.seek-at-requires-clause-there
seek-at-requires-clause-there c = lookup-cell (cells c.as_slice.result.now) c.args.from c.args.hash
    (ap (λ (x : List Bucket). hash_at (pairs_of (cells x)) c.args.from) c.as_slice.ensures.value ∙ ap (λ (v : TableView). hash_at v.pairs c.args.from) c.self.view_is ∙ c.requires.there)

pub invariant_of-self : goal.invariant_of-self
invariant_of-self c = (table-rename c.self.inside.buckets.items c.self.inside.room c.self.inside.reach c.seek-at.result c.args.hash c.args.from c.args.to c.self.invariant (subst (λ (x : List Bucket). c.seek-at.result < length x) c.as_slice.ensures.value c.seek-at.ensures.within)
    (ap (λ (x : List Bucket). get_or (cells x) c.seek-at.result None) (sym c.as_slice.ensures.value) ∙ c.seek-at.ensures.value)
    (ap (λ (v : TableView). hash_at v.pairs c.args.to) c.self.view_is ∙ c.requires.absent) (omega (arith, c.requires.small))).0

pub returns-clause-pairs : goal.returns-clause-pairs
returns-clause-pairs c = subst (λ (v : TableView). Renames c.args.hash c.args.from c.args.to v.pairs (pairs_of (cells (set c.self.inside.buckets.items c.seek-at.result (record { hash = c.args.hash; position = c.args.to }))))) c.self.view_is
    (table-rename c.self.inside.buckets.items c.self.inside.room c.self.inside.reach c.seek-at.result c.args.hash c.args.from c.args.to c.self.invariant (subst (λ (x : List Bucket). c.seek-at.result < length x) c.as_slice.ensures.value c.seek-at.ensures.within)
    (ap (λ (x : List Bucket). get_or (cells x) c.seek-at.result None) (sym c.as_slice.ensures.value) ∙ c.seek-at.ensures.value)
    (ap (λ (v : TableView). hash_at v.pairs c.args.to) c.self.view_is ∙ c.requires.absent) (omega (arith, c.requires.small))).1
