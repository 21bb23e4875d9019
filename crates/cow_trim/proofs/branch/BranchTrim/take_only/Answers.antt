-- A branch with one pair has it as an entry, and no child.
use Rattle.std.proofs.Common.{◌∙◌, ◌≡◌, [], length, map, refl, ap, arith}
use Rattle.std.proofs.lemmas.List.{length-map}
use Rattle.std.proofs.lemmas.List.Edits.{length-remove}
use Rattle.cow_champ.specs.Node.{pair_of, value_of}
use Rattle.cow_champ.proofs.Adds.{Fits_none}
use Rattle.cow_champ.proofs.NodeCosts.{branch_few}
use Rattle.cow_champ.proofs.Singles.{none_of}
use Rattle.cow_trim.proofs.Alone.{rows_alone}
use Rattle.cow_trim.proofs.Removals.{single}
use Rattle.cow_trim.proofs.branch.BranchTrim.take_only.Goals as goal

pub returns-then-len-ne0-clause-several : goal.returns-then-len-ne0-clause-several
returns-then-len-ne0-clause-several g c = λ e.
    let few = branch_few g.K.Item.plain g.V.Item.plain g.C.Level.shape g.K.Key.hash_of g.row.AT g.C.Level.LEVEL c.requires.stacked.1 (g.met.C.Level.at_most c.requires.stacked.0) c.args.self.now.data c.args.self.now.nodes c.args.self.now.entries.items c.args.self.now.children.items c.requires.whole.0 c.requires.canonical in
    omega (arith, few, e, c.if-len-ne0.true, c.len.ensures, c.args.self.now.children.ok.0)

pub returns-then-len-ne1-clause-several : goal.returns-then-len-ne1-clause-several
returns-then-len-ne1-clause-several g c = λ e.
    let f = pair_of g.K.Item.plain g.V.Item.plain in
    let none : length c.args.self.now.children.items ≡ 0 = omega (arith, c.if-len-ne0.false, c.len.ensures, c.args.self.now.children.ok.0) in
    let n = ap length (rows_alone f (λ x. g.C.Level.shape (value_of x)) c.args.self.now.data c.args.self.now.nodes c.args.self.now.entries.items c.args.self.now.children.items c.requires.whole.0 none) in
    omega (arith, n, e, length-map c.args.self.now.entries.items f, c.if-len-ne1.true, c.len-2.ensures, c.args.self.now.entries.ok.0)

pub returns-clause-one : goal.returns-clause-one
returns-clause-one g c =
    let f = pair_of g.K.Item.plain g.V.Item.plain in
    let none : length c.args.self.now.children.items ≡ 0 = omega (arith, c.if-len-ne0.false, c.len.ensures, c.args.self.now.children.ok.0) in
    rows_alone f (λ x. g.C.Level.shape (value_of x)) c.args.self.now.data c.args.self.now.nodes c.args.self.now.entries.items c.args.self.now.children.items c.requires.whole.0 none
    ∙ ap (map f) (single c.args.self.now.entries.items c.remove-key.result (omega (arith, c.if-len-ne1.false, c.len-2.ensures, c.args.self.now.entries.ok.0)) c.remove-key.ensures.value)

pub returns-clause-whole : goal.returns-clause-whole
returns-clause-whole g c =
    let one : length c.args.self.now.entries.items ≡ 1 = omega (arith, c.if-len-ne1.false, c.len-2.ensures, c.args.self.now.entries.ok.0) in
    let less = length-remove c.args.self.now.entries.items 0 (omega (arith, one)) in
    let gone : c.remove-key.new.self.items ≡ [] = none_of _ (omega (arith, one, less, ap length c.remove-key.ensures.items)) in
    let childless : c.args.self.now.children.items ≡ [] = none_of _ (omega (arith, c.if-len-ne0.false, c.len.ensures, c.args.self.now.children.ok.0)) in
    rw (gone, childless) (Fits_none, (λ i d l. absurd (omega (arith, l))), (λ i d l. absurd (omega (arith, l))))

pub returns-clause-empty : goal.returns-clause-empty
returns-clause-empty g c =
    let one : length c.args.self.now.entries.items ≡ 1 = omega (arith, c.if-len-ne1.false, c.len-2.ensures, c.args.self.now.entries.ok.0) in
    let less = length-remove c.args.self.now.entries.items 0 (omega (arith, one)) in
    let gone : c.remove-key.new.self.items ≡ [] = none_of _ (omega (arith, one, less, ap length c.remove-key.ensures.items)) in
    let childless : c.args.self.now.children.items ≡ [] = none_of _ (omega (arith, c.if-len-ne0.false, c.len.ensures, c.args.self.now.children.ok.0)) in
    (refl, refl, gone, childless)
