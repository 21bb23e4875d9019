use Rattle.std.proofs.Common.{◌≡◌, ◌+◌, ◌≤◌, ◌++◌, List, map, length, ap, ◌∙◌, subst, arith}
use Rattle.cow_model.specs.Canon.{pairs, count_where}
use Rattle.cow_model.specs.Flat.{Flat, Becomes}
use Rattle.cow_model.specs.declared.value.Pair.{Pair}
use Rattle.cow_champ.specs.Node.{hashed, seen_pair}
use Rattle.cow_dict.specs.Dictionaries.{kept_by}
use Rattle.cow_dict.specs.Storages.{by_key}
use Rattle.cow_treedict.proofs.Filters.{fewer-distinct, kept-map, spends-kept}
use Rattle.cow_treedict.proofs.Joins.{apart, counted}
use Rattle.cow_treedict.proofs.Makes.{IfOk_map, distinct-counts}
use Rattle.cow_treedict.proofs.Trees.{long}
use Rattle.cow_treedict.proofs.dictionary.TreeDictionary.kept.Goals as goal

pub copy_kept-requires-clause-spare : goal.copy_kept-requires-clause-spare
copy_kept-requires-clause-spare g c =
    let n = counted (seen_pair g.K.Item.plain g.V.Item.plain) c.in_ok-mine.mine.items c.args.self.now.value c.in_ok-mine.ensures.value in
    omega (arith, c.requires.spare, n)

pub built-requires-clause-distinct : goal.built-requires-clause-distinct
built-requires-clause-distinct g c =
    let f = hashed g.K.Item.plain g.V.Item.plain in
    let xs = map (seen_pair g.K.Item.plain g.V.Item.plain) c.in_ok-mine.mine.items in
    let ks = map f c.copy_kept.new.into.items in
    let d = apart xs c.args.self.now.value c.in_ok-mine.ensures.value c.in_ok-mine.ensures.distinct in
    fewer-distinct xs ks (λ t. subst (λ l. count_where t ks ≤ count_where t (map f l) + count_where t xs) c.in-Ok.ensures.items (c.copy_kept.ensures.fewer t)) (distinct-counts xs d)

pub built-requires-clause-small : goal.built-requires-clause-small
built-requires-clause-small g c =
    let n = counted (seen_pair g.K.Item.plain g.V.Item.plain) c.in_ok-mine.mine.items c.args.self.now.value c.in_ok-mine.ensures.value in
    let l = long (pairs (g.C.Level.shape c.self.inside.root.value)) c.args.self.now.value (ap (λ (f : Flat (List Pair)). f.value) c.self.view_is) in
    let few : length c.copy_kept.new.into.items ≤ length c.in_ok-mine.mine.items = omega (arith, c.copy_kept.new.into.ok.0, c.copy_kept.ensures.most, c.in-Ok.ensures.len) in
    omega (arith, n, l, few, c.self.invariant.4, c.self.invariant.5)

pub built-requires-clause-spare : goal.built-requires-clause-spare
built-requires-clause-spare g c =
    let n = counted (seen_pair g.K.Item.plain g.V.Item.plain) c.in_ok-mine.mine.items c.args.self.now.value c.in_ok-mine.ensures.value in
    let few : length c.copy_kept.new.into.items ≤ length c.in_ok-mine.mine.items = omega (arith, c.copy_kept.new.into.ok.0, c.copy_kept.ensures.most, c.in-Ok.ensures.len) in
    omega (arith, c.requires.spare, n, few, c.copy_kept.ensures.spent.falls)

pub returns-clause-ok : goal.returns-clause-ok
returns-clause-ok g c = λ p h.
    let v = c.args.self.now.value in
    let f = hashed g.K.Item.plain g.V.Item.plain in
    let xs = map (seen_pair g.K.Item.plain g.V.Item.plain) c.in_ok-mine.mine.items in
    let ks = map f c.copy_kept.new.into.items in
    let d = apart xs v c.in_ok-mine.ensures.value c.in_ok-mine.ensures.distinct in
    let list : ks ≡ kept_by p xs = c.copy_kept.ensures.same p h ∙ ap (λ l. map f l ++ kept_by p xs) c.in-Ok.ensures.items in
    let same : by_key ks ≡ kept_by p v = kept-map p xs ks v c.in_ok-mine.ensures.value d list
    (fewer-distinct xs ks (λ t. subst (λ l. count_where t ks ≤ count_where t (map f l) + count_where t xs) c.in-Ok.ensures.items (c.copy_kept.ensures.fewer t)) (distinct-counts xs d)) in
    IfOk_map {P = λ (t : Flat (List Pair)). Becomes (by_key ks) t} c.built.result (λ t b. record { value = b.value ∙ same; alone = b.alone }) c.built.ensures.ok

pub returns-clause-spent : goal.returns-clause-spent
returns-clause-spent g c =
    let n = counted (seen_pair g.K.Item.plain g.V.Item.plain) c.in_ok-mine.mine.items c.args.self.now.value c.in_ok-mine.ensures.value in
    let few : length c.copy_kept.new.into.items ≤ length c.in_ok-mine.mine.items = omega (arith, c.copy_kept.new.into.ok.0, c.copy_kept.ensures.most, c.in-Ok.ensures.len) in
    spends-kept (g.K.Item.WEIGHT + g.V.Item.WEIGHT) (length c.in_ok-mine.mine.items) (length c.args.self.now.value) (length c.copy_kept.new.into.items) c.args.h.now c.copy_kept.new.h c.built.new.h n few c.copy_kept.ensures.spent c.built.ensures.spare c.built.ensures.copied
