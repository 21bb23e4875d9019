-- By what is left of the node's pairs.
use Rattle.std.proofs.Common.{◌≡◌, ◌∙◌, eqb, false, ap, arith, ne_eqb}
use Rattle.cow_model.specs.Canon.{pairs, canon, without}
use Rattle.cow_trim.specs.Removal.{plain_pair}
use Rattle.cow_trim.proofs.Leavings.{left_canonical, left_one, left_pair}
use Rattle.cow_trim.proofs.trim.Trim.cut_held.Goals as goal

pub take_only-left-requires-clause-canonical : goal.take_only-left-requires-clause-canonical
take_only-left-requires-clause-canonical g c =
    let k = g.E.Equivalent.sought c.args.key.now in
    let s = ap g.Self.Level.shape c.only-n.ensures.value ∙ c.make_sole.ensures.shape in
    left_canonical g.K.Key.hash_of g.Self.Level.LEVEL k _ _ c.requires.canonical
    (c.in_ok-gone.ensures.new ∙ ap (λ t. canon g.K.Key.hash_of (without k (pairs t)) g.Self.Level.LEVEL) s)

pub returns-clause-one : goal.returns-clause-one
returns-clause-one g c =
    let k = g.E.Equivalent.sought c.args.key.now in
    let s = ap g.Self.Level.shape c.only-n.ensures.value ∙ c.make_sole.ensures.shape in
    let below : eqb g.Self.Level.LEVEL 0 ≡ false = ne_eqb g.Self.Level.LEVEL 0 (λ z. omega (arith, z, c.LEVEL.ensures, c.if-LEVEL-eq0.false)) in
    left_one g.K.Key.hash_of g.Self.Level.LEVEL k _ _ c.requires.canonical
    (c.in_ok-gone.ensures.new ∙ ap (λ t. canon g.K.Key.hash_of (without k (pairs t)) g.Self.Level.LEVEL) s)
    (plain_pair g.K.Item.plain g.V.Item.plain) c.take_only-left.result below c.requires.there c.take_only-left.ensures.one c.take_only-left.ensures.several

pub returns-clause-left : goal.returns-clause-left
returns-clause-left g c =
    let k = g.E.Equivalent.sought c.args.key.now in
    let s = ap g.Self.Level.shape c.only-n.ensures.value ∙ c.make_sole.ensures.shape in
    left_pair g.K.Key.hash_of g.Self.Level.LEVEL k _ _ c.requires.canonical
    (c.in_ok-gone.ensures.new ∙ ap (λ t. canon g.K.Key.hash_of (without k (pairs t)) g.Self.Level.LEVEL) s)
    (plain_pair g.K.Item.plain g.V.Item.plain) c.take_only-left.result c.take_only-left.ensures.one
