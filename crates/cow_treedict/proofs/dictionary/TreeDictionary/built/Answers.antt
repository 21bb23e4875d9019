use Rattle.std.proofs.Common.{length, map, sym, ap, ◌∙◌, subst, arith}
use Rattle.std.proofs.lemmas.List.{length-map}
use Rattle.cow_model.proofs.CanonSlots.{length-canon, IsCanonical-canon}
use Rattle.cow_model.specs.Canon.{pairs, IsCanonical}
use Rattle.cow_champ.specs.Node.{hashed}
use Rattle.cow_dict.specs.Storages.{by_key}
use Rattle.cow_treedict.proofs.Makes.{map-canon}
use Rattle.cow_treedict.proofs.dictionary.TreeDictionary.built.Goals as goal

pub invariant_of-result : goal.invariant_of-result
invariant_of-result g c =
    let f = hashed g.K.Item.plain g.V.Item.plain in
    let ps = map f c.args.pairs.items in
    let s = c.in_ok-root.ensures.shape in
    let n = length-map c.args.pairs.items f in
    let m = ap (λ t. length (pairs t)) s ∙ length-canon g.K.Key.hash_of ps g.C.Level.LEVEL in (
      c.requires.root,
      c.requires.stacked,
      c.in_ok-root.ensures.whole,
      subst (λ t. IsCanonical g.K.Key.hash_of t g.C.Level.LEVEL) (sym s) (IsCanonical-canon g.K.Key.hash_of ps g.C.Level.LEVEL c.requires.distinct),
      omega (arith, c.len-count.ensures, c.args.pairs.ok.0, n, m),
      omega (arith, c.len-count.ensures, c.args.pairs.ok.0, c.requires.small),
    )

pub returns-clause-ok : goal.returns-clause-ok
returns-clause-ok g c =
    let ps = map (hashed g.K.Item.plain g.V.Item.plain) c.args.pairs.items in
    record {
      value = ap (λ t. by_key (pairs t)) c.in_ok-root.ensures.shape ∙ map-canon g.K.Key.hash_of g.C.Level.LEVEL ps c.requires.distinct;
      alone = c.in_ok-root.ensures.alone;
    }
