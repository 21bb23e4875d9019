-- By whether the key was there.
use Rattle.std.proofs.Common.{◌≡◌, List, Some, None, inl, inr, true, sym, ap, ◌∙◌, arith}
use Rattle.std.specs.Prelude.{is_some, pos}
use Rattle.std.proofs.lemmas.Bool.{true≢false}
use Rattle.cow_model.specs.Canon.{IsCanonical, is_one, pairs, get, canon, without}
use Rattle.cow_model.specs.Flat.{Flat}
use Rattle.cow_model.specs.Members.{member}
use Rattle.cow_model.specs.declared.plain.Literal.{Literal}
use Rattle.cow_model.specs.declared.plain.Literal.TheVariants.{Int}
use Rattle.cow_members.specs.Sets.{without as without_member}
use Rattle.cow_trim.proofs.Leavings.{length-gone}
use Rattle.cow_treeset.specs.TreeSets.{set_of}
use Rattle.cow_treeset.proofs.Departures.{no-value, none-found, one-found, set-gone, size-gone}
use Rattle.cow_treeset.proofs.Tries.{copies-set, get-member, long, spends-set}
use Rattle.cow_treeset.proofs.set.TreeSet.remove.Goals as goal

pub cut-requires-clause-spare : goal.cut-requires-clause-spare
cut-requires-clause-spare g c =
    let ps = pairs (g.C.Level.shape c.self.inside.root.value) in
    let n = long ps c.args.self.now.value (ap (λ (f : Flat (List Literal)). f.value) c.self.view_is) in
    omega (arith, n, c.requires.spare, c.self.invariant.0)

pub returns-in_err-answer-clause-absent : goal.returns-in_err-answer-clause-absent
returns-in_err-answer-clause-absent g c =
    let ps = pairs (g.C.Level.shape c.self.inside.root.value) in
    let k = g.E.Equivalent.sought c.args.k.now in
    λ h. let e = no-value (get k ps) (get-member k ps ∙ ap (λ (f : Flat (List Literal)). member k f.value) c.self.view_is ∙ h) in
    absurd (true≢false (sym (c.in_err-answer.ensures.absent e).0))

pub returns-in_err-answer-clause-spent : goal.returns-in_err-answer-clause-spent
returns-in_err-answer-clause-spent g c =
    let ps = pairs (g.C.Level.shape c.self.inside.root.value) in
    spends-set g.K.Item.WEIGHT g.C.Level.LEVEL ps c.args.self.now.value c.args.h.now c.cut.new.h (ap (λ (f : Flat (List Literal)). f.value) c.self.view_is) c.self.invariant.0 c.cut.ensures.spent

pub returns-in_err-answer-clause-path : goal.returns-in_err-answer-clause-path
returns-in_err-answer-clause-path g c =
    let ps = pairs (g.C.Level.shape c.self.inside.root.value) in
    let k = g.E.Equivalent.sought c.args.k.now in
    copies-set g.K.Key.hash_of g.K.Item.WEIGHT g.C.Level.LEVEL c.sought_hash-hash.result k ps c.args.self.now.value c.args.h.now c.cut.new.h (ap (λ (f : Flat (List Literal)). f.value) c.self.view_is) c.self.invariant.0 c.sought_hash-hash.ensures c.cut.ensures.path

pub overflow_sub-self : goal.overflow_sub-self
overflow_sub-self g c =
    let ps = pairs (g.C.Level.shape c.self.inside.root.value) in
    let k = g.E.Equivalent.sought c.args.k.now in
    let gone : Some (Int (pos 0)) ≡ get k ps = rw c.in-Gone.is at c.in_ok-answer.ensures.gone in
    let l = length-gone k ps c.self.invariant.3.distinct (sym (ap is_some gone)) in
    omega (arith, l, c.self.invariant.4)

pub invariant_of-self-in-Gone : goal.invariant_of-self-in-Gone
invariant_of-self-in-Gone g c =
    let ps = pairs (g.C.Level.shape c.self.inside.root.value) in
    let k = g.E.Equivalent.sought c.args.k.now in
    let gone : Some (Int (pos 0)) ≡ get k ps = rw c.in-Gone.is at c.in_ok-answer.ensures.gone in
    let new : g.C.Level.shape c.cut.new.node.value ≡ canon g.K.Key.hash_of (without k ps) g.C.Level.LEVEL = rw c.in-Gone.is at c.in_ok-answer.ensures.new in
    let canonical : IsCanonical g.K.Key.hash_of (g.C.Level.shape c.cut.new.node.value) g.C.Level.LEVEL = rw c.in-Gone.is at c.in_ok-answer.ensures.canonical in
    let l = size-gone g.K.Key.hash_of g.C.Level.LEVEL k ps c.self.invariant.3.distinct (sym (ap is_some gone)) (g.C.Level.shape c.cut.new.node.value) new in
    (c.self.invariant.0, c.self.invariant.1, c.cut.ensures.whole, canonical, omega (arith, l, c.self.invariant.4), omega (arith, l, c.self.invariant.4, c.self.invariant.5))

pub returns-in-Absent-clause-ok : goal.returns-in-Absent-clause-ok
returns-in-Absent-clause-ok g c =
    let ps = pairs (g.C.Level.shape c.self.inside.root.value) in
    let k = g.E.Equivalent.sought c.args.k.now in
    let none : None ≡ get k ps = rw c.in-Absent.is at c.in_ok-answer.ensures.gone in
    let new : g.C.Level.shape c.cut.new.node.value ≡ canon g.K.Key.hash_of (without k ps) g.C.Level.LEVEL = rw c.in-Absent.is at c.in_ok-answer.ensures.new in
    let same = (c.cut.ensures.absent (sym none)).1 in
    record {
      value = ap (λ t. set_of (pairs t)) new ∙ set-gone g.K.Key.hash_of g.C.Level.LEVEL k ps c.self.invariant.3.distinct ∙ ap (λ (f : Flat (List Literal)). without_member k f.value) c.self.view_is;
      handle = inl (rw same c.self.view_is);
    }

pub returns-in-Absent-clause-old : goal.returns-in-Absent-clause-old
returns-in-Absent-clause-old g c =
    let ps = pairs (g.C.Level.shape c.self.inside.root.value) in
    let k = g.E.Equivalent.sought c.args.k.now in
    let none : None ≡ get k ps = rw c.in-Absent.is at c.in_ok-answer.ensures.gone in
    none-found k ps c.args.self.now.value (ap (λ (f : Flat (List Literal)). f.value) c.self.view_is) none

pub returns-in-Gone-clause-ok : goal.returns-in-Gone-clause-ok
returns-in-Gone-clause-ok g c =
    let ps = pairs (g.C.Level.shape c.self.inside.root.value) in
    let k = g.E.Equivalent.sought c.args.k.now in
    let new : g.C.Level.shape c.cut.new.node.value ≡ canon g.K.Key.hash_of (without k ps) g.C.Level.LEVEL = rw c.in-Gone.is at c.in_ok-answer.ensures.new in
    let alone : c.cut.new.node.alone ≡ true = rw c.in-Gone.is at c.in_ok-answer.ensures.alone in
    record {
      value = ap (λ t. set_of (pairs t)) new ∙ set-gone g.K.Key.hash_of g.C.Level.LEVEL k ps c.self.invariant.3.distinct ∙ ap (λ (f : Flat (List Literal)). without_member k f.value) c.self.view_is;
      handle = inr alone;
    }

pub returns-in-Gone-clause-old : goal.returns-in-Gone-clause-old
returns-in-Gone-clause-old g c =
    let ps = pairs (g.C.Level.shape c.self.inside.root.value) in
    let k = g.E.Equivalent.sought c.args.k.now in
    let gone : Some (Int (pos 0)) ≡ get k ps = rw c.in-Gone.is at c.in_ok-answer.ensures.gone in
    let one : is_one (g.K.Item.plain c.in-Gone.gone.0) k ≡ true = rw c.in-Gone.is at c.in_ok-answer.ensures.key in
    one-found k (g.K.Item.plain c.in-Gone.gone.0) ps c.args.self.now.value (ap (λ (f : Flat (List Literal)). f.value) c.self.view_is) (sym (ap is_some gone)) one

pub returns-in-Gone-clause-absent : goal.returns-in-Gone-clause-absent
returns-in-Gone-clause-absent g c =
    let ps = pairs (g.C.Level.shape c.self.inside.root.value) in
    let k = g.E.Equivalent.sought c.args.k.now in
    let gone : Some (Int (pos 0)) ≡ get k ps = rw c.in-Gone.is at c.in_ok-answer.ensures.gone in
    λ h. absurd (true≢false (ap is_some gone ∙ get-member k ps ∙ ap (λ (f : Flat (List Literal)). member k f.value) c.self.view_is ∙ h))

pub returns-in-Gone-clause-spent : goal.returns-in-Gone-clause-spent
returns-in-Gone-clause-spent g c =
    let ps = pairs (g.C.Level.shape c.self.inside.root.value) in
    spends-set g.K.Item.WEIGHT g.C.Level.LEVEL ps c.args.self.now.value c.args.h.now c.cut.new.h (ap (λ (f : Flat (List Literal)). f.value) c.self.view_is) c.self.invariant.0 c.cut.ensures.spent

pub returns-in-Gone-clause-path : goal.returns-in-Gone-clause-path
returns-in-Gone-clause-path g c =
    let ps = pairs (g.C.Level.shape c.self.inside.root.value) in
    let k = g.E.Equivalent.sought c.args.k.now in
    copies-set g.K.Key.hash_of g.K.Item.WEIGHT g.C.Level.LEVEL c.sought_hash-hash.result k ps c.args.self.now.value c.args.h.now c.cut.new.h (ap (λ (f : Flat (List Literal)). f.value) c.self.view_is) c.self.invariant.0 c.sought_hash-hash.ensures c.cut.ensures.path
