-- By what the change of the node gave.
use Rattle.std.proofs.Common.{◌≡◌, ◌∙◌, ◌≤◌, ◌+◌, ◌*◌, ◌-◌, sym, ap, subst}
use Rattle.cow_model.specs.Canon.{IsCanonical, pairs}
use Rattle.cow_model.proofs.CanonSlots.{IsCanonical-canon, IsDistinct-given}
use Rattle.cow_champ.specs.Spending.{on_path}
use Rattle.cow_champ.proofs.Outcomes.{by_outcome}
use Rattle.cow_champ.proofs.Spendings.{path_chain}
use Rattle.cow_champ.proofs.level.Level.put.Goals as goal

pub returns-clause-canonical : goal.returns-clause-canonical
returns-clause-canonical g c =
    let s = ap g.Self.Level.shape c.only.ensures.value ∙ c.make_sole.ensures.shape in
    let ok = subst (λ t. IsCanonical g.K.Key.hash_of t g.Self.Level.LEVEL) (sym s) c.requires.canonical in
    by_outcome c.put_in.result
    (λ new. subst (λ t. IsCanonical g.K.Key.hash_of t g.Self.Level.LEVEL) (sym new) (IsCanonical-canon g.K.Key.hash_of _ g.Self.Level.LEVEL (IsDistinct-given g.K.Key.hash_of (g.K.Item.plain c.args.key) (g.V.Item.plain c.args.value) _ ok.distinct)))
    (λ kept. subst (λ t. IsCanonical g.K.Key.hash_of t g.Self.Level.LEVEL) (sym kept) ok)
    c.put_in.ensures.new c.put_in.ensures.kept

pub returns-clause-path : goal.returns-clause-path
returns-clause-path g c =
    let w = g.K.Item.WEIGHT + g.V.Item.WEIGHT in
    let on = on_path g.K.Key.hash_of g.Self.Level.LEVEL c.args.hash in
    let s = ap g.Self.Level.shape c.only.ensures.value ∙ c.make_sole.ensures.shape in
    let o = ap g.Self.Level.own c.only.ensures.value ∙ c.make_sole.ensures.own in
    let near = g.met.Self.Level.near c.args.node.now.value c.args.hash c.requires.stacked c.requires.whole c.requires.agree c.ranges.hash.fits in
    path_chain w (g.Self.Level.own c.args.node.now.value).held (on (pairs (g.Self.Level.shape c.args.node.now.value))) c.args.h.now.copied c.make_sole.new.h.copied c.put_in.new.h.copied near c.make_sole.ensures.spent.copied
    (subst (λ y. c.put_in.new.h.copied ≤ c.make_sole.new.h.copied + w * (on (pairs (g.Self.Level.shape c.args.node.now.value)) - y.held)) o
    (subst (λ t. c.put_in.new.h.copied ≤ c.make_sole.new.h.copied + w * (on (pairs t) - (g.Self.Level.own c.only.result.now).held)) s c.put_in.ensures.path))
