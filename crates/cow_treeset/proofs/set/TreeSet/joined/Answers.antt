use Rattle.std.proofs.Common.{◌≡◌, ◌+◌, ◌≤◌, List, map, filter, length, false, sym, ap, ◌∙◌, subst, arith}
use Rattle.cow_model.specs.Flat.{Flat, Becomes}
use Rattle.cow_model.specs.Members.{ascending, in_order, union}
use Rattle.cow_model.specs.declared.plain.Literal.{Literal}
use Rattle.cow_members.specs.Ascents.{Ascends}
use Rattle.cow_members.specs.Sets.{kept_by}
use Rattle.cow_treeset.specs.TreeSets.{key_of}
use Rattle.cow_treeset.proofs.Combining.{counted, one_after, joined-distinct, joined-set, spends-two}
use Rattle.cow_treeset.proofs.Tries.{IfOk_map}
use Rattle.cow_treeset.proofs.set.TreeSet.joined.Goals as goal

pub copy_all-requires-clause-spare : goal.copy_all-requires-clause-spare
copy_all-requires-clause-spare g c =
    let n = counted (λ t. g.K.Item.plain t.0.now) c.in_ok-mine.mine.items c.args.self.now.value c.in_ok-mine.ensures.value in
    omega (arith, c.requires.spare, n)

pub copy_kept-requires-clause-spare : goal.copy_kept-requires-clause-spare
copy_kept-requires-clause-spare g c =
    let n = counted (λ t. g.K.Item.plain t.0.now) c.in_ok-mine.mine.items c.args.self.now.value c.in_ok-mine.ensures.value in
    let m = counted (λ t. g.K.Item.plain t.0.now) c.in_ok-theirs.theirs.items c.args.other.now.value c.in_ok-theirs.ensures.value in
    omega (arith, c.requires.spare, n, m, c.copy_all.ensures.spent.falls)

pub built-requires-clause-distinct : goal.built-requires-clause-distinct
built-requires-clause-distinct g c =
    let plain = g.K.Item.plain in
    let v = c.args.self.now.value in
    let w = c.args.other.now.value in
    let xs = map (λ t. plain t.0.now) c.in_ok-mine.mine.items in
    let ys = map (λ t. plain t.0.now) c.in_ok-theirs.theirs.items in
    let list = one_after (map (key_of plain) c.in-Ok.keys.items) xs (filter (kept_by false v) ys) (map (key_of plain) c.copy_kept.new.into.items) (map (key_of plain) c.copy_all.new.into.items) c.copy_kept.ensures.same c.copy_all.ensures.same (ap (map (key_of plain)) c.in-Ok.ensures.items) in
    subst (λ l. Ascends (ascending l)) (sym list) (joined-distinct xs ys v w c.in_ok-mine.ensures.value c.in_ok-theirs.ensures.value c.in_ok-mine.ensures.distinct c.in_ok-theirs.ensures.distinct)

pub built-requires-clause-small : goal.built-requires-clause-small
built-requires-clause-small g c =
    let n = counted (λ t. g.K.Item.plain t.0.now) c.in_ok-mine.mine.items c.args.self.now.value c.in_ok-mine.ensures.value in
    let m = counted (λ t. g.K.Item.plain t.0.now) c.in_ok-theirs.theirs.items c.args.other.now.value c.in_ok-theirs.ensures.value in
    let few : length c.copy_kept.new.into.items ≤ length c.in_ok-mine.mine.items + length c.in_ok-theirs.theirs.items = omega (arith, c.copy_kept.new.into.ok.0, c.copy_kept.ensures.most, c.copy_all.ensures.more, c.in-Ok.ensures.len) in
    omega (arith, c.requires.growth, n, m, few)

pub built-requires-clause-spare : goal.built-requires-clause-spare
built-requires-clause-spare g c =
    let n = counted (λ t. g.K.Item.plain t.0.now) c.in_ok-mine.mine.items c.args.self.now.value c.in_ok-mine.ensures.value in
    let m = counted (λ t. g.K.Item.plain t.0.now) c.in_ok-theirs.theirs.items c.args.other.now.value c.in_ok-theirs.ensures.value in
    let few : length c.copy_kept.new.into.items ≤ length c.in_ok-mine.mine.items + length c.in_ok-theirs.theirs.items = omega (arith, c.copy_kept.new.into.ok.0, c.copy_kept.ensures.most, c.copy_all.ensures.more, c.in-Ok.ensures.len) in
    omega (arith, c.requires.spare, n, m, few, c.copy_all.ensures.spent.falls, c.copy_kept.ensures.spent.falls)

pub returns-clause-ok : goal.returns-clause-ok
returns-clause-ok g c =
    let plain = g.K.Item.plain in
    let v = c.args.self.now.value in
    let w = c.args.other.now.value in
    let xs = map (λ t. plain t.0.now) c.in_ok-mine.mine.items in
    let ys = map (λ t. plain t.0.now) c.in_ok-theirs.theirs.items in
    let list = one_after (map (key_of plain) c.in-Ok.keys.items) xs (filter (kept_by false v) ys) (map (key_of plain) c.copy_kept.new.into.items) (map (key_of plain) c.copy_all.new.into.items) c.copy_kept.ensures.same c.copy_all.ensures.same (ap (map (key_of plain)) c.in-Ok.ensures.items) in
    let same : ascending (map (key_of plain) c.copy_kept.new.into.items) ≡ union in_order v w = ap ascending list ∙ joined-set xs ys v w c.in_ok-mine.ensures.value c.in_ok-theirs.ensures.value c.in_ok-mine.ensures.distinct c.in_ok-theirs.ensures.distinct in
    IfOk_map {P = λ (t : Flat (List Literal)). Becomes (ascending (map (key_of plain) c.copy_kept.new.into.items)) t} c.built.result (λ t b. record { value = b.value ∙ same; alone = b.alone }) c.built.ensures.ok

pub returns-clause-spent : goal.returns-clause-spent
returns-clause-spent g c =
    let n = counted (λ t. g.K.Item.plain t.0.now) c.in_ok-mine.mine.items c.args.self.now.value c.in_ok-mine.ensures.value in
    let m = counted (λ t. g.K.Item.plain t.0.now) c.in_ok-theirs.theirs.items c.args.other.now.value c.in_ok-theirs.ensures.value in
    let few : length c.copy_kept.new.into.items ≤ length c.in_ok-mine.mine.items + length c.in_ok-theirs.theirs.items = omega (arith, c.copy_kept.new.into.ok.0, c.copy_kept.ensures.most, c.copy_all.ensures.more, c.in-Ok.ensures.len) in
    spends-two g.K.Item.WEIGHT (length c.in_ok-mine.mine.items) (length c.in_ok-theirs.theirs.items) (length c.args.self.now.value) (length c.args.other.now.value) (length c.copy_kept.new.into.items)
    c.args.h.now c.copy_all.new.h c.copy_kept.new.h c.built.new.h n m few c.copy_all.ensures.spent c.copy_kept.ensures.spent c.built.ensures.spare c.built.ensures.copied
