use Rattle.std.proofs.Common.{◌++◌, ◌∷◌, [], ap, ◌∙◌}
use Rattle.cow_model.specs.Members.{member}
use Rattle.cow_members.specs.Members.{listed}
use Rattle.cow_members.proofs.Keys.{plain-at}
use Rattle.cow_members.proofs.Loops.{toggled-in, toggled-out}
use Rattle.cow_members.proofs.algebra.toggle.Goals as goal

pub returns-in-Some-clause-same : goal.returns-in-Some-clause-same
returns-in-Some-clause-same g c q =
    let a = g.K.Item.plain c.args.key.now in
    toggled-out g.K.Item.plain c.args.members.now.keys.items c.take.new.members.keys.items c.take.result a c.take.ensures.others c.requires.sound.apart
    (plain-at g.K.Item.plain c.args.members.now.keys.items c.in-Some.i c.take.result a c.take.ensures.value c.in-Some.ensures.found) q

pub returns-in-None-clause-same : goal.returns-in-None-clause-same
returns-in-None-clause-same g c q =
    let a = g.K.Item.plain c.args.key.now in
    let l = listed g.K.Item.plain c.args.members.now in
    ap (member q) (c.push.ensures.same ∙ ap (λ b. l ++ b ∷ []) c.copy.ensures.same) ∙ toggled-in l a q c.in-None.ensures.absent
