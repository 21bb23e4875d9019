use Rattle.std.proofs.Common.{ℕ, ◌≤◌, [], ◌∷◌, ◌++◌, map, length, IsPermutation, All, append-nil, vec_len, vec_capacity, sym, ap, subst, ◌∙◌, arith}
use Rattle.std.specs.Prelude.{⊤}
use Rattle.std.proofs.lemmas.List.{map-append, length-append, nil_from_length}
use Rattle.std.proofs.lemmas.List.Elements.{All-push}
use Rattle.std.proofs.lemmas.List.Sorted.{IsPermutation-map, IsPermutation-pop_more}
use Rattle.cow_champ.proofs.Changes.{pushed}
use Rattle.cow_champ.proofs.Outcomes.{when_err}
use Rattle.cow_members.specs.Members.{MembersView, listed}
use Rattle.cow_treeset.specs.TreeSets.{key_of, IsHashed}
use Rattle.cow_treeset.proofs.distinct.taken_out.Goals as goal

pub unreachable-requires : goal.unreachable-requires
unreachable-requires g c =
    let full : vec_capacity c.loop.out ≤ vec_len c.loop.out = when_err c.push.result (sym c.is_err.ensures.value ∙ c.if-is_err.true) c.push.ensures.full in
    absurd (omega (arith, full, c.loop.invariant.out, c.loop.invariant.room, c.loop.invariant.left, c.take-k.ensures.count))

pub loop-preserved : goal.loop-preserved
loop-preserved g c =
    let plain = g.K.Item.plain in
    let v = c.loop.invariant in
    let k = c.take-k.result in
    let t : ℕ × g.row.K.Denot × ⊤ = (c.hash-hash.result, k, tt) in
    let items = pushed _ _ _ _ (sym c.is_err.ensures.value ∙ c.if-is_err.false) c.push.ensures.items in
    let others = IsPermutation-map plain c.loop.found.keys.items (k ∷ c.take-k.new.members.keys.items) c.take-k.ensures.others in
    record {
      sound = c.take-k.ensures.sound;
      same = subst (λ l. IsPermutation (listed plain c.args.found) (map (key_of plain) l ++ listed plain c.take-k.new.members)) (sym items)
          (subst (λ l. IsPermutation (listed plain c.args.found) (l ++ listed plain c.take-k.new.members)) (sym (map-append (key_of plain) c.loop.out.items (t ∷ [])))
          (IsPermutation-pop_more (listed plain c.args.found) (map (key_of plain) c.loop.out.items) (listed plain c.loop.found) (listed plain c.take-k.new.members) (plain k) v.same others));
      hashes = subst (All (IsHashed g.K.Key.hash_of plain)) (sym items) (All-push (IsHashed g.K.Key.hash_of plain) c.loop.out.items t v.hashes c.hash-hash.ensures);
      left = omega (arith, v.left, c.take-k.ensures.count);
      out = omega (arith, v.out, ap length items, length-append c.loop.out.items (t ∷ []), c.loop.out.ok.0, c.push.new.self.ok.0);
      room = omega (arith, v.room, c.push.ensures.capacity);
      spare = v.spare;
    }

pub returns-clause-same : goal.returns-clause-same
returns-clause-same g c =
    let plain = g.K.Item.plain in
    let v = c.loop.invariant in
    let front = map (key_of plain) c.loop.out.items in
    let long = ap (λ (s : MembersView g.row.K.Denot). length s.keys.items) c.found.view_is in
    let none = nil_from_length c.loop.found.keys.items (omega (arith, v.left, c.loop-test.false, c.len-end.ensures.value, long)) in
    subst (IsPermutation (listed plain c.args.found)) (ap (λ l. front ++ map plain l) none ∙ append-nil front) v.same
