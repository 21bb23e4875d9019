use Rattle.std.proofs.Common.{ℕ, ◌≤◌, [], ◌∷◌, ◌++◌, map, length, IsPermutation, All, append-nil, vec_len, vec_capacity, sym, ap, subst, ◌∙◌, arith}
use Rattle.std.proofs.lemmas.List.{map-append, length-append, nil_from_length}
use Rattle.std.proofs.lemmas.List.Elements.{All-push}
use Rattle.std.proofs.lemmas.List.Sorted.{IsPermutation-pop_more}
use Rattle.cow_champ.specs.Node.{hashed}
use Rattle.cow_champ.proofs.Changes.{pushed}
use Rattle.cow_champ.proofs.Outcomes.{when_err}
use Rattle.cow_dict.specs.Storages.{PairsView, listed, side_by_side, pair_of}
use Rattle.cow_treedict.specs.Trees.{IsHashed}
use Rattle.cow_treedict.proofs.distinct.taken_out.Goals as goal

pub unreachable-requires : goal.unreachable-requires
unreachable-requires g c =
    let full : vec_capacity c.loop.out ≤ vec_len c.loop.out = when_err c.push.result (sym c.is_err.ensures.value ∙ c.if-is_err.true) c.push.ensures.full in
    absurd (omega (arith, full, c.loop.invariant.out, c.loop.invariant.room, c.loop.invariant.left, c.take-k.ensures.count))

pub loop-preserved : goal.loop-preserved
loop-preserved g c =
    let plain = g.K.Item.plain in
    let worth = g.V.Item.plain in
    let f = hashed plain worth in
    let v = c.loop.invariant in
    let x = c.take-k.result in
    let items = pushed _ _ _ _ (sym c.is_err.ensures.value ∙ c.if-is_err.false) c.push.ensures.items in
    let t : ℕ × g.row.K.Denot × g.row.V.Denot = (c.hash-hash.result, x.0, x.1) in
    record {
      whole = c.take-k.ensures.whole;
      same = subst (λ l. IsPermutation (listed plain worth c.args.found) (map f l ++ listed plain worth c.take-k.new.pairs)) (sym items)
          (subst (λ l. IsPermutation (listed plain worth c.args.found) (l ++ listed plain worth c.take-k.new.pairs)) (sym (map-append f c.loop.out.items (t ∷ [])))
          (IsPermutation-pop_more (listed plain worth c.args.found) (map f c.loop.out.items) (listed plain worth c.loop.found) (listed plain worth c.take-k.new.pairs) (pair_of (plain x.0) (worth x.1)) v.same c.take-k.ensures.others));
      hashes = subst (All (IsHashed g.K.Key.hash_of plain)) (sym items) (All-push (IsHashed g.K.Key.hash_of plain) c.loop.out.items t v.hashes c.hash-hash.ensures);
      left = omega (arith, v.left, c.take-k.ensures.count);
      out = omega (arith, v.out, ap length items, length-append c.loop.out.items (t ∷ []), c.loop.out.ok.0, c.push.new.self.ok.0);
      room = omega (arith, v.room, c.push.ensures.capacity);
      spare = v.spare;
    }

pub returns-clause-same : goal.returns-clause-same
returns-clause-same g c =
    let plain = g.K.Item.plain in
    let worth = g.V.Item.plain in
    let v = c.loop.invariant in
    let front = map (hashed plain worth) c.loop.out.items in
    let long = ap (λ (s : PairsView g.row.K.Denot g.row.V.Denot). length s.members.keys.items) c.found.view_is in
    let none = nil_from_length c.loop.found.members.keys.items (omega (arith, v.left, c.loop-test.false, c.len-end.ensures, long)) in
    subst (IsPermutation (listed plain worth c.args.found)) (ap (λ l. front ++ side_by_side (map plain l) (map worth c.loop.found.values.items)) none ∙ append-nil front) v.same
