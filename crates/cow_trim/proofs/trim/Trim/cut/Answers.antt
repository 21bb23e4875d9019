-- A key that isn't there, and the node that is left.
use Rattle.std.proofs.Common.{◌≡◌, None, rules, sym, ap, subst}
use Rattle.std.specs.Prelude.{IfNone, is_some}
use Rattle.cow_model.specs.Canon.{get, pairs}
use Rattle.cow_trim.specs.Removal.{without_key}
use Rattle.cow_trim.proofs.Leavings.{left_canonical, left_same}
use Rattle.cow_trim.proofs.trim.Trim.cut.Goals as goal

pub returns-then-is_none-clause-new : goal.returns-then-is_none-clause-new
returns-then-is_none-clause-new g c =
    let k = g.E.Equivalent.sought c.args.key.now in
    let e : None ≡ get k (pairs (g.Self.Level.shape c.args.node.now.value)) = search rules in
    left_same g.K.Key.hash_of g.Self.Level.LEVEL k _ c.requires.canonical (ap is_some (sym e))

pub returns-in-None-clause-canonical : goal.returns-in-None-clause-canonical
returns-in-None-clause-canonical g c =
    let k = g.E.Equivalent.sought c.args.key.now in
    let new = subst (λ o. IfNone o (g.Self.Level.shape c.cut_held.new.node.value ≡ without_key g.K.Key.hash_of g.Self.Level.LEVEL k (g.Self.Level.shape c.args.node.now.value))) c.in-None.is c.in_ok-gone.ensures.new in
    left_canonical g.K.Key.hash_of g.Self.Level.LEVEL k _ _ c.requires.canonical new
