use Rattle.std.proofs.Common.{◌≡◌, ◌+◌, ◌≤◌, List, map, length, false, sym, ap, ◌∙◌, subst, arith}
use Rattle.cow_model.specs.Canon.{IsDistinct}
use Rattle.cow_model.specs.Flat.{Flat, Becomes}
use Rattle.cow_model.specs.Pairs.{in_order, merge}
use Rattle.cow_model.specs.declared.value.Pair.{Pair}
use Rattle.cow_champ.specs.Node.{hashed, seen_pair}
use Rattle.cow_dict.specs.Storages.{by_key}
use Rattle.cow_treedict.specs.Trees.{others_of}
use Rattle.cow_treedict.proofs.Joins.{apart, counted, one_after, joined-distinct, joined-map, spends-joined}
use Rattle.cow_treedict.proofs.Makes.{IfOk_map, distinct-counts}
use Rattle.cow_treedict.proofs.dictionary.TreeDictionary.joined.Goals as goal

pub copy_all-requires-clause-spare : goal.copy_all-requires-clause-spare
copy_all-requires-clause-spare g c =
    let seen = seen_pair g.K.Item.plain g.V.Item.plain in
    let v = c.args.self.now.value in
    let n = counted seen c.in_ok-mine.mine.items v c.in_ok-mine.ensures.value in
    omega (arith, c.requires.spare, n)

pub copy_others-requires-clause-spare : goal.copy_others-requires-clause-spare
copy_others-requires-clause-spare g c =
    let seen = seen_pair g.K.Item.plain g.V.Item.plain in
    let v = c.args.self.now.value in
    let w = c.args.other.now.value in
    let n = counted seen c.in_ok-mine.mine.items v c.in_ok-mine.ensures.value in
    let m = counted seen c.in_ok-theirs.theirs.items w c.in_ok-theirs.ensures.value in
    omega (arith, c.requires.spare, n, m, c.copy_all.ensures.spent.falls)

pub built-requires-clause-distinct : goal.built-requires-clause-distinct
built-requires-clause-distinct g c =
    let seen = seen_pair g.K.Item.plain g.V.Item.plain in
    let v = c.args.self.now.value in
    let w = c.args.other.now.value in
    let f = hashed g.K.Item.plain g.V.Item.plain in
    let xs = map seen c.in_ok-mine.mine.items in
    let rs = map seen c.in_ok-theirs.theirs.items in
    let d = apart xs v c.in_ok-mine.ensures.value c.in_ok-mine.ensures.distinct in
    let e = apart rs w c.in_ok-theirs.ensures.value c.in_ok-theirs.ensures.distinct in
    let list = one_after (map f c.in-Ok.pairs.items) xs (others_of v rs) (map f c.copy_others.new.into.items) (map f c.copy_all.new.into.items) c.copy_others.ensures.same c.copy_all.ensures.same (ap (map f) c.in-Ok.ensures.items) in
    subst IsDistinct (sym list) (joined-distinct v xs rs c.in_ok-mine.ensures.value d (distinct-counts xs d) (distinct-counts rs e))

pub built-requires-clause-small : goal.built-requires-clause-small
built-requires-clause-small g c =
    let seen = seen_pair g.K.Item.plain g.V.Item.plain in
    let v = c.args.self.now.value in
    let w = c.args.other.now.value in
    let n = counted seen c.in_ok-mine.mine.items v c.in_ok-mine.ensures.value in
    let m = counted seen c.in_ok-theirs.theirs.items w c.in_ok-theirs.ensures.value in
    let few : length c.copy_others.new.into.items ≤ length c.in_ok-mine.mine.items + length c.in_ok-theirs.theirs.items = omega (arith, c.copy_others.new.into.ok.0, c.copy_others.ensures.most, c.copy_all.ensures.more, c.in-Ok.ensures.len) in
    omega (arith, c.requires.growth, n, m, few)

pub built-requires-clause-spare : goal.built-requires-clause-spare
built-requires-clause-spare g c =
    let seen = seen_pair g.K.Item.plain g.V.Item.plain in
    let v = c.args.self.now.value in
    let w = c.args.other.now.value in
    let n = counted seen c.in_ok-mine.mine.items v c.in_ok-mine.ensures.value in
    let m = counted seen c.in_ok-theirs.theirs.items w c.in_ok-theirs.ensures.value in
    let few : length c.copy_others.new.into.items ≤ length c.in_ok-mine.mine.items + length c.in_ok-theirs.theirs.items = omega (arith, c.copy_others.new.into.ok.0, c.copy_others.ensures.most, c.copy_all.ensures.more, c.in-Ok.ensures.len) in
    omega (arith, c.requires.spare, n, m, few, c.copy_all.ensures.spent.falls, c.copy_others.ensures.spent.falls)

pub returns-clause-ok : goal.returns-clause-ok
returns-clause-ok g c =
    let seen = seen_pair g.K.Item.plain g.V.Item.plain in
    let v = c.args.self.now.value in
    let w = c.args.other.now.value in
    let f = hashed g.K.Item.plain g.V.Item.plain in
    let xs = map seen c.in_ok-mine.mine.items in
    let rs = map seen c.in_ok-theirs.theirs.items in
    let d = apart xs v c.in_ok-mine.ensures.value c.in_ok-mine.ensures.distinct in
    let e = apart rs w c.in_ok-theirs.ensures.value c.in_ok-theirs.ensures.distinct in
    let list = one_after (map f c.in-Ok.pairs.items) xs (others_of v rs) (map f c.copy_others.new.into.items) (map f c.copy_all.new.into.items) c.copy_others.ensures.same c.copy_all.ensures.same (ap (map f) c.in-Ok.ensures.items) in
    let same : by_key (map f c.copy_others.new.into.items) ≡ merge in_order false v w = ap by_key list
    ∙ joined-map v xs rs c.in_ok-mine.ensures.value d (distinct-counts xs d) e (distinct-counts rs e) ∙ ap (λ l. merge in_order false v l) c.in_ok-theirs.ensures.value in
    IfOk_map {P = λ (t : Flat (List Pair)). Becomes (by_key (map f c.copy_others.new.into.items)) t} c.built.result (λ t b. record { value = b.value ∙ same; alone = b.alone }) c.built.ensures.ok

pub returns-clause-spent : goal.returns-clause-spent
returns-clause-spent g c =
    let seen = seen_pair g.K.Item.plain g.V.Item.plain in
    let v = c.args.self.now.value in
    let w = c.args.other.now.value in
    let n = counted seen c.in_ok-mine.mine.items v c.in_ok-mine.ensures.value in
    let m = counted seen c.in_ok-theirs.theirs.items w c.in_ok-theirs.ensures.value in
    let few : length c.copy_others.new.into.items ≤ length c.in_ok-mine.mine.items + length c.in_ok-theirs.theirs.items = omega (arith, c.copy_others.new.into.ok.0, c.copy_others.ensures.most, c.copy_all.ensures.more, c.in-Ok.ensures.len) in
    spends-joined (g.K.Item.WEIGHT + g.V.Item.WEIGHT) (length c.in_ok-mine.mine.items) (length c.in_ok-theirs.theirs.items) (length v) (length w) (length c.copy_others.new.into.items)
    c.args.h.now c.copy_all.new.h c.copy_others.new.h c.built.new.h n m few c.copy_all.ensures.spent c.copy_others.ensures.spent c.built.ensures.spare c.built.ensures.copied
