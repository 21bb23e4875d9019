use Rattle.std.proofs.Common.{◌≡◌, ◌+◌, length, List, sym, ap, ◌∙◌, arith}
use Rattle.std.specs.Prelude.{is_none}
use Rattle.cow_model.specs.Canon.{pairs}
use Rattle.cow_model.specs.Flat.{Flat}
use Rattle.cow_model.specs.declared.value.Pair.{Pair}
use Rattle.cow_model.specs.Pairs.{in_order, value_in, put}
use Rattle.cow_model.specs.Purse.{unit_if}
use Rattle.cow_dict.specs.Storages.{pair_of, by_key}
use Rattle.cow_treedict.proofs.Trees.{get-map, map-given, size-put, none-map, long, spends-map, copies-map, newly-few}
use Rattle.cow_treedict.proofs.dictionary.TreeDictionary.update.Goals as goal

pub put-requires-clause-spare : goal.put-requires-clause-spare
put-requires-clause-spare g c =
    let n = long (pairs (g.C.Level.shape c.self.inside.root.value)) c.args.self.now.value (ap (λ (f : Flat (List Pair)). f.value) c.self.view_is) in
    omega (arith, n, c.requires.spare, c.self.invariant.0)

pub returns-in_err-old-clause-spent : goal.returns-in_err-old-clause-spent
returns-in_err-old-clause-spent g c = spends-map (g.K.Item.WEIGHT + g.V.Item.WEIGHT) g.C.Level.LEVEL (pairs (g.C.Level.shape c.self.inside.root.value)) c.args.self.now.value c.args.h.now c.put.new.h (ap (λ (f : Flat (List Pair)). f.value) c.self.view_is) c.self.invariant.0 c.put.ensures.spent

pub returns-in_err-old-clause-path : goal.returns-in_err-old-clause-path
returns-in_err-old-clause-path g c = copies-map g.K.Key.hash_of (g.K.Item.WEIGHT + g.V.Item.WEIGHT) g.C.Level.LEVEL c.hash-hash.result (g.K.Item.plain c.args.k) (pairs (g.C.Level.shape c.self.inside.root.value)) c.args.self.now.value c.args.h.now c.put.new.h
    (ap (λ (f : Flat (List Pair)). f.value) c.self.view_is) c.self.invariant.0 c.hash-hash.ensures c.put.ensures.path

pub invariant_of-self : goal.invariant_of-self
invariant_of-self g c =
    (c.self.invariant.0, c.self.invariant.1, c.put.ensures.whole, c.put.ensures.canonical, c.self.invariant.4 ∙ ap (λ t. length (pairs t)) (sym c.in_err-old.ensures.kept), c.self.invariant.5)

pub invariant_of-self-2 : goal.invariant_of-self-2
invariant_of-self-2 g c =
    let ps = pairs (g.C.Level.shape c.self.inside.root.value) in
    let n = size-put g.K.Key.hash_of g.C.Level.LEVEL (g.K.Item.plain c.args.k) (g.V.Item.plain c.args.v) ps c.self.invariant.3.distinct _ c.in_ok-old.ensures.old (g.C.Level.shape c.put.new.node.value) c.in_ok-old.ensures.new in
    let m : c.newly.result ≡ unit_if (is_none c.in_ok-old.old) = c.newly.ensures in
    let o = ap unit_if (none-map g.V.Item.plain c.in_ok-old.old) in
    let few = newly-few (is_none c.in_ok-old.old) in
    let l = long ps c.args.self.now.value (ap (λ (f : Flat (List Pair)). f.value) c.self.view_is) in
    (c.self.invariant.0, c.self.invariant.1, c.put.ensures.whole, c.put.ensures.canonical, omega (arith, c.self.invariant.4, n, m, o), omega (arith, c.self.invariant.4, c.requires.growth, m, few, l))

pub returns-clause-ok : goal.returns-clause-ok
returns-clause-ok g c =
    let ps = pairs (g.C.Level.shape c.self.inside.root.value) in
    let k = g.K.Item.plain c.args.k in
    let v = g.V.Item.plain c.args.v in
    record {
      value = ap (λ t. by_key (pairs t)) c.in_ok-old.ensures.new ∙ map-given g.K.Key.hash_of g.C.Level.LEVEL k v ps c.self.invariant.3.distinct ∙ ap (λ (f : Flat (List Pair)). put in_order f.value (pair_of k v)) c.self.view_is;
      alone = c.in_ok-old.ensures.alone;
    }

pub returns-clause-old : goal.returns-clause-old
returns-clause-old g c =
    let ps = pairs (g.C.Level.shape c.self.inside.root.value) in
    let k = g.K.Item.plain c.args.k in
    c.in_ok-old.ensures.old ∙ get-map k ps c.self.invariant.3.distinct ∙ ap (λ (f : Flat (List Pair)). value_in k f.value) c.self.view_is

pub returns-clause-spent : goal.returns-clause-spent
returns-clause-spent g c = spends-map (g.K.Item.WEIGHT + g.V.Item.WEIGHT) g.C.Level.LEVEL (pairs (g.C.Level.shape c.self.inside.root.value)) c.args.self.now.value c.args.h.now c.put.new.h (ap (λ (f : Flat (List Pair)). f.value) c.self.view_is) c.self.invariant.0 c.put.ensures.spent

pub returns-clause-path : goal.returns-clause-path
returns-clause-path g c = copies-map g.K.Key.hash_of (g.K.Item.WEIGHT + g.V.Item.WEIGHT) g.C.Level.LEVEL c.hash-hash.result (g.K.Item.plain c.args.k) (pairs (g.C.Level.shape c.self.inside.root.value)) c.args.self.now.value c.args.h.now c.put.new.h
    (ap (λ (f : Flat (List Pair)). f.value) c.self.view_is) c.self.invariant.0 c.hash-hash.ensures c.put.ensures.path
