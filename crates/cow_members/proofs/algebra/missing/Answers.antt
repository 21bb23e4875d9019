use Rattle.std.proofs.Common.{arith, not}
use Rattle.cow_model.proofs.ListSteps.{unit_if-le}
use Rattle.cow_members.specs.Members.{listed}
use Rattle.cow_model.specs.Members.{member}
use Rattle.cow_members.proofs.Loops.{lacking-turn}
use Rattle.cow_members.proofs.algebra.missing.Goals as goal

pub loop-i-preserved : goal.loop-i-preserved
loop-i-preserved g c =
    let v = c.loop-i.invariant in
    let turn = lacking-turn g.K.Item.plain (listed g.K.Item.plain c.args.members.now) c.args.others.now.keys.items c.loop-i.i c.get.result.now c.get.ensures in
    record {
      count = omega (arith, v.count, turn, c.missing_once-n.ensures);
      most = omega (arith, v.most, c.missing_once-n.ensures, unit_if-le (not (member (g.K.Item.plain c.get.result.now) (listed g.K.Item.plain c.args.members.now))));
    }
