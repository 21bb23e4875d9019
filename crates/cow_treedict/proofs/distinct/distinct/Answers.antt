use Rattle.std.proofs.Common.{◌≡◌, map, length, [], ◌++◌, append-nil, sym, ap, ◌∙◌, arith}
use Rattle.std.proofs.lemmas.List.{length-map, nil_from_length}
use Rattle.std.proofs.lemmas.List.Sorted.{length_permutation}
use Rattle.std.specs.Vec.Iter.{into_iter_items}
use Rattle.cow_champ.specs.Node.{hashed}
use Rattle.cow_dict.specs.Storages.{listed}
use Rattle.cow_dict.proofs.Calls.{distinct, count-listed}
use Rattle.cow_dict.proofs.Maps.{distinct-permutes}
use Rattle.cow_treedict.specs.Trees.{plain_pair, map_from}
use Rattle.cow_treedict.proofs.Makes.{IfOk_map, distinct-counts, map-permutes}
use Rattle.cow_treedict.proofs.distinct.distinct.Given.{Over}
use Rattle.cow_treedict.proofs.distinct.distinct.Goals as goal

-- all pairs were put
every : (g : Over) (c : goal.After-taken_out g) → c.loop-pair.yielded ≡ c.args.pairs.items
every g c =
    let at = c.loop-pair in
    let none : into_iter_items at.pair-iterator ≡ [] = nil_from_length (into_iter_items at.pair-iterator) (omega (arith, at.invariant.3, c.in-None.ensures.steps.0)) in
    sym (append-nil at.yielded) ∙ sym (ap (λ l. at.yielded ++ l) none) ∙ at.invariant.2 ∙ c.into_iter-pair-iterator.ensures.into_iter_gives.0

pub returns-clause-distinct : goal.returns-clause-distinct
returns-clause-distinct g c =
    let plain = g.K.Item.plain in
    let worth = g.V.Item.plain in
    let s = c.loop-pair.found in
    let d = distinct plain worth s.members.keys.items s.values.items c.loop-pair.invariant.4.sound.apart in
    IfOk_map c.taken_out.result (λ v h. distinct-counts (map (hashed plain worth) v.items) (distinct-permutes (listed plain worth s) (map (hashed plain worth) v.items) h d)) c.taken_out.ensures.same

pub returns-clause-map : goal.returns-clause-map
returns-clause-map g c =
    let plain = g.K.Item.plain in
    let worth = g.V.Item.plain in
    let s = c.loop-pair.found in
    let d = distinct plain worth s.members.keys.items s.values.items c.loop-pair.invariant.4.sound.apart in
    let all = every g c in
    IfOk_map c.taken_out.result (λ v h. map-permutes (listed plain worth s) (map (hashed plain worth) v.items) h d ∙ c.loop-pair.invariant.5 ∙ ap (λ l. map_from (map (plain_pair plain worth) l)) all) c.taken_out.ensures.same

pub returns-clause-fewer : goal.returns-clause-fewer
returns-clause-fewer g c =
    let plain = g.K.Item.plain in
    let worth = g.V.Item.plain in
    let s = c.loop-pair.found in
    let all = every g c in
    let n = ap length all in
    let m = count-listed plain worth s.members.keys.items s.values.items in
    IfOk_map c.taken_out.result (λ v h. omega (arith, length-map v.items (hashed plain worth), length_permutation (listed plain worth s) (map (hashed plain worth) v.items) h, m, c.loop-pair.invariant.6, n)) c.taken_out.ensures.same
