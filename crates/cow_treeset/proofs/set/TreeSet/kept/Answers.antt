use Rattle.std.proofs.Common.{◌≡◌, ◌≤◌, ◌++◌, List, map, filter, length, sym, ap, ◌∙◌, subst, arith}
use Rattle.cow_model.specs.Canon.{pairs}
use Rattle.cow_model.specs.Flat.{Flat, Becomes}
use Rattle.cow_model.specs.Members.{ascending}
use Rattle.cow_model.specs.declared.plain.Literal.{Literal}
use Rattle.cow_members.specs.Ascents.{Ascends}
use Rattle.cow_members.specs.Sets.{kept_by}
use Rattle.cow_treeset.specs.TreeSets.{key_of}
use Rattle.cow_treeset.proofs.Combining.{counted, filtered, distinct-filter, spends-one}
use Rattle.cow_treeset.proofs.Tries.{IfOk_map, long}
use Rattle.cow_treeset.proofs.set.TreeSet.kept.Goals as goal

pub copy_kept-requires-clause-spare : goal.copy_kept-requires-clause-spare
copy_kept-requires-clause-spare g c =
    let n = counted (λ t. g.K.Item.plain t.0.now) c.in_ok-mine.mine.items c.args.self.now.value c.in_ok-mine.ensures.value in
    omega (arith, c.requires.spare, n)

pub built-requires-clause-distinct : goal.built-requires-clause-distinct
built-requires-clause-distinct g c =
    let plain = g.K.Item.plain in
    let p = kept_by c.args.keep c.args.other.now.value in
    let xs = map (λ t. plain t.0.now) c.in_ok-mine.mine.items in
    let list = c.copy_kept.ensures.same ∙ ap (λ l. map (key_of plain) l ++ filter p xs) c.in-Ok.ensures.items in
    subst (λ l. Ascends (ascending l)) (sym list) (distinct-filter p xs (subst Ascends (sym c.in_ok-mine.ensures.value) c.in_ok-mine.ensures.distinct))

pub built-requires-clause-small : goal.built-requires-clause-small
built-requires-clause-small g c =
    let n = counted (λ t. g.K.Item.plain t.0.now) c.in_ok-mine.mine.items c.args.self.now.value c.in_ok-mine.ensures.value in
    let l = long (pairs (g.C.Level.shape c.self.inside.root.value)) c.args.self.now.value (ap (λ (f : Flat (List Literal)). f.value) c.self.view_is) in
    let few : length c.copy_kept.new.into.items ≤ length c.in_ok-mine.mine.items = omega (arith, c.copy_kept.new.into.ok.0, c.copy_kept.ensures.most, c.in-Ok.ensures.len) in
    omega (arith, n, l, few, c.self.invariant.4, c.self.invariant.5)

pub built-requires-clause-spare : goal.built-requires-clause-spare
built-requires-clause-spare g c =
    let n = counted (λ t. g.K.Item.plain t.0.now) c.in_ok-mine.mine.items c.args.self.now.value c.in_ok-mine.ensures.value in
    let few : length c.copy_kept.new.into.items ≤ length c.in_ok-mine.mine.items = omega (arith, c.copy_kept.new.into.ok.0, c.copy_kept.ensures.most, c.in-Ok.ensures.len) in
    omega (arith, c.requires.spare, n, few, c.copy_kept.ensures.spent.falls)

pub returns-clause-ok : goal.returns-clause-ok
returns-clause-ok g c =
    let plain = g.K.Item.plain in
    let p = kept_by c.args.keep c.args.other.now.value in
    let xs = map (λ t. plain t.0.now) c.in_ok-mine.mine.items in
    let list = c.copy_kept.ensures.same ∙ ap (λ l. map (key_of plain) l ++ filter p xs) c.in-Ok.ensures.items in
    let same : ascending (map (key_of plain) c.copy_kept.new.into.items) ≡ filter p c.args.self.now.value = ap ascending list ∙ filtered p xs c.args.self.now.value c.in_ok-mine.ensures.value c.in_ok-mine.ensures.distinct in
    IfOk_map {P = λ (t : Flat (List Literal)). Becomes (ascending (map (key_of plain) c.copy_kept.new.into.items)) t} c.built.result (λ t b. record { value = b.value ∙ same; alone = b.alone }) c.built.ensures.ok

pub returns-clause-spent : goal.returns-clause-spent
returns-clause-spent g c =
    let n = counted (λ t. g.K.Item.plain t.0.now) c.in_ok-mine.mine.items c.args.self.now.value c.in_ok-mine.ensures.value in
    let few : length c.copy_kept.new.into.items ≤ length c.in_ok-mine.mine.items = omega (arith, c.copy_kept.new.into.ok.0, c.copy_kept.ensures.most, c.in-Ok.ensures.len) in
    spends-one g.K.Item.WEIGHT (length c.in_ok-mine.mine.items) (length c.args.self.now.value) (length c.copy_kept.new.into.items) c.args.h.now c.copy_kept.new.h c.built.new.h n few c.copy_kept.ensures.spent c.built.ensures.spare c.built.ensures.copied
