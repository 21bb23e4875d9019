use Rattle.std.proofs.Common.{length, map, sym, ap, ◌∙◌, subst, arith}
use Rattle.std.proofs.lemmas.List.{length-map}
use Rattle.cow_model.proofs.CanonSlots.{length-canon, IsCanonical-canon}
use Rattle.cow_model.specs.Canon.{pairs, IsCanonical}
use Rattle.cow_model.specs.Members.{ascending}
use Rattle.cow_members.specs.Ascents.{Ascends}
use Rattle.cow_champ.specs.Node.{hashed}
use Rattle.cow_treeset.specs.TreeSets.{set_of}
use Rattle.cow_treeset.proofs.Tries.{nothing, keys-hashed, keys-distinct, set-canon}
use Rattle.cow_treeset.proofs.set.TreeSet.built.Goals as goal

pub build-requires-clause-distinct : goal.build-requires-clause-distinct
build-requires-clause-distinct g c =
    let plain = g.K.Item.plain in
    let ts = c.args.keys.items in
    keys-distinct (map (hashed plain nothing) ts) (subst (λ l. Ascends (ascending l)) (sym (keys-hashed plain nothing ts)) c.requires.distinct)

pub invariant_of-result : goal.invariant_of-result
invariant_of-result g c =
    let plain = g.K.Item.plain in
    let ts = c.args.keys.items in
    let ps = map (hashed plain nothing) ts in
    let d = keys-distinct ps (subst (λ l. Ascends (ascending l)) (sym (keys-hashed plain nothing ts)) c.requires.distinct) in
    let s = c.in_ok-root.ensures.shape in
    let n = length-map ts (hashed plain nothing) in
    let m = ap (λ t. length (pairs t)) s ∙ length-canon g.K.Key.hash_of ps g.C.Level.LEVEL in (
      c.requires.root,
      c.requires.stacked,
      c.in_ok-root.ensures.whole,
      subst (λ t. IsCanonical g.K.Key.hash_of t g.C.Level.LEVEL) (sym s) (IsCanonical-canon g.K.Key.hash_of ps g.C.Level.LEVEL d),
      omega (arith, c.len-count.ensures, c.args.keys.ok.0, n, m),
      omega (arith, c.len-count.ensures, c.args.keys.ok.0, c.requires.small),
    )

pub returns-clause-ok : goal.returns-clause-ok
returns-clause-ok g c =
    let plain = g.K.Item.plain in
    let ts = c.args.keys.items in
    let ps = map (hashed plain nothing) ts in
    let d = keys-distinct ps (subst (λ l. Ascends (ascending l)) (sym (keys-hashed plain nothing ts)) c.requires.distinct) in
    record {
      value = ap (λ t. set_of (pairs t)) c.in_ok-root.ensures.shape ∙ set-canon g.K.Key.hash_of g.C.Level.LEVEL ps d ∙ ap ascending (keys-hashed plain nothing ts);
      alone = c.in_ok-root.ensures.alone;
    }
