use Rattle.std.proofs.Common.{◌≡◌, map, length, [], ◌++◌, append-nil, sym, ap, ◌∙◌, arith}
use Rattle.std.proofs.lemmas.List.{length-map, nil_from_length}
use Rattle.std.proofs.lemmas.List.Sorted.{length_permutation}
use Rattle.std.specs.Vec.Iter.{into_iter_items}
use Rattle.cow_members.specs.Members.{listed}
use Rattle.cow_model.proofs.Ascending.{ascending_permutes}
use Rattle.cow_model.specs.Members.{in_order, union}
use Rattle.cow_treeset.specs.TreeSets.{key_of}
use Rattle.cow_treeset.proofs.Tries.{IfOk_map}
use Rattle.cow_treeset.proofs.distinct.distinct.Given.{Over}
use Rattle.cow_treeset.proofs.distinct.distinct.Goals as goal

-- all keys were put
every : (g : Over) (c : goal.After-taken_out g) → c.loop-k.yielded ≡ c.args.keys.items
every g c =
    let at = c.loop-k in
    let none : into_iter_items at.k-iterator ≡ [] = nil_from_length (into_iter_items at.k-iterator) (omega (arith, at.invariant.3, c.in-None.ensures.steps.0)) in
    sym (append-nil at.yielded) ∙ sym (ap (λ l. at.yielded ++ l) none) ∙ at.invariant.2 ∙ c.into_iter-k-iterator.ensures.into_iter_gives.0

pub returns-clause-set : goal.returns-clause-set
returns-clause-set g c =
    let plain = g.K.Item.plain in
    let s = c.loop-k.found in
    IfOk_map c.taken_out.result (λ v h. ascending_permutes (listed plain s) (map (key_of plain) v.items) h ∙ c.loop-k.invariant.5 ∙ ap (λ l. union in_order [] (map plain l)) (every g c)) c.taken_out.ensures.same

pub returns-clause-fewer : goal.returns-clause-fewer
returns-clause-fewer g c =
    let plain = g.K.Item.plain in
    let s = c.loop-k.found in
    let n = ap length (every g c) in
    IfOk_map c.taken_out.result (λ v h. omega (arith, length-map v.items (key_of plain), length-map s.keys.items plain, length_permutation (listed plain s) (map (key_of plain) v.items) h, c.loop-k.invariant.6, n)) c.taken_out.ensures.same
