use Rattle.std.proofs.Common.{◌≡◌, false, length, List, ap, ◌∙◌, arith}
use Rattle.std.specs.Prelude.{pos}
use Rattle.cow_model.specs.Canon.{pairs}
use Rattle.cow_model.specs.Flat.{Flat}
use Rattle.cow_model.specs.Members.{member, in_order}
use Rattle.cow_model.specs.declared.plain.Literal.{Literal}
use Rattle.cow_model.specs.declared.plain.Literal.TheVariants.{Int}
use Rattle.cow_treeset.specs.TreeSets.{set_of}
use Rattle.cow_treeset.proofs.Tries.{set-given, size-given, long, spends-set, copies-set}
use Rattle.cow_treeset.proofs.set.TreeSet.put_new.Goals as goal

pub put-requires-clause-spare : goal.put-requires-clause-spare
put-requires-clause-spare g c =
    let n = long (pairs (g.C.Level.shape c.self.inside.root.value)) c.args.self.now.value (ap (λ (f : Flat (List Literal)). f.value) c.self.view_is) in
    omega (arith, n, c.requires.spare, c.self.invariant.0)

pub invariant_of-self : goal.invariant_of-self
invariant_of-self g c =
    let ps = pairs (g.C.Level.shape c.self.inside.root.value) in
    let a = g.K.Item.plain c.args.k in
    let absent : member a (set_of ps) ≡ false = ap (λ (f : Flat (List Literal)). member a f.value) c.self.view_is ∙ c.requires.absent in
    let n = ap (λ t. length (pairs t)) c.in-Ok.ensures.new ∙ size-given g.K.Key.hash_of g.C.Level.LEVEL a (Int (pos 0)) ps c.self.invariant.3.distinct absent in
    let l = long ps c.args.self.now.value (ap (λ (f : Flat (List Literal)). f.value) c.self.view_is) in
    (c.self.invariant.0, c.self.invariant.1, c.put.ensures.whole, c.put.ensures.canonical, omega (arith, c.self.invariant.4, n), omega (arith, c.self.invariant.4, c.requires.growth, l))

pub returns-in-Ok-clause-ok : goal.returns-in-Ok-clause-ok
returns-in-Ok-clause-ok g c =
    let ps = pairs (g.C.Level.shape c.self.inside.root.value) in
    let a = g.K.Item.plain c.args.k in
    let absent : member a (set_of ps) ≡ false = ap (λ (f : Flat (List Literal)). member a f.value) c.self.view_is ∙ c.requires.absent in
    record {
      value = ap (λ t. set_of (pairs t)) c.in-Ok.ensures.new ∙ set-given g.K.Key.hash_of g.C.Level.LEVEL a (Int (pos 0)) ps c.self.invariant.3.distinct absent ∙ ap (λ (f : Flat (List Literal)). in_order a f.value) c.self.view_is;
      alone = c.in-Ok.ensures.alone;
    }

pub returns-in-Ok-clause-spent : goal.returns-in-Ok-clause-spent
returns-in-Ok-clause-spent g c = spends-set g.K.Item.WEIGHT g.C.Level.LEVEL (pairs (g.C.Level.shape c.self.inside.root.value)) c.args.self.now.value c.args.h.now c.put.new.h (ap (λ (f : Flat (List Literal)). f.value) c.self.view_is) c.self.invariant.0 c.put.ensures.spent

pub returns-in-Ok-clause-path : goal.returns-in-Ok-clause-path
returns-in-Ok-clause-path g c = copies-set g.K.Key.hash_of g.K.Item.WEIGHT g.C.Level.LEVEL c.args.hash (g.K.Item.plain c.args.k) (pairs (g.C.Level.shape c.self.inside.root.value)) c.args.self.now.value c.args.h.now c.put.new.h
    (ap (λ (f : Flat (List Literal)). f.value) c.self.view_is) c.self.invariant.0 c.requires.hash c.put.ensures.path

pub returns-in-Err-clause-spent : goal.returns-in-Err-clause-spent
returns-in-Err-clause-spent g c = spends-set g.K.Item.WEIGHT g.C.Level.LEVEL (pairs (g.C.Level.shape c.self.inside.root.value)) c.args.self.now.value c.args.h.now c.put.new.h (ap (λ (f : Flat (List Literal)). f.value) c.self.view_is) c.self.invariant.0 c.put.ensures.spent

pub returns-in-Err-clause-path : goal.returns-in-Err-clause-path
returns-in-Err-clause-path g c = copies-set g.K.Key.hash_of g.K.Item.WEIGHT g.C.Level.LEVEL c.args.hash (g.K.Item.plain c.args.k) (pairs (g.C.Level.shape c.self.inside.root.value)) c.args.self.now.value c.args.h.now c.put.new.h
    (ap (λ (f : Flat (List Literal)). f.value) c.self.view_is) c.self.invariant.0 c.requires.hash c.put.ensures.path
