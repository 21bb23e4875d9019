use Rattle.std.proofs.Common.{length, ap, ◌∙◌, arith}
use Rattle.std.proofs.lemmas.Option.{slice_get_within}
use Rattle.cow_model.specs.Members.{last, with_member}
use Rattle.cow_members.specs.Members.{listed}
use Rattle.cow_members.proofs.Loops.{front-units, union-room, union-turn, moves-turn}
use Rattle.cow_members.proofs.algebra.add_missing.Goals as goal

pub add_copy-requires-clause-room : goal.add_copy-requires-clause-room
add_copy-requires-clause-room g c =
    let v = c.loop-i.invariant in
    omega (
      arith,
      ap (λ l. length (with_member last l (g.K.Item.plain c.get.result.now))) v.same,
      union-room g.K.Item.plain (listed g.K.Item.plain c.args.members.now) c.args.others.now.keys.items c.loop-i.i c.get.result.now c.get.ensures,
      v.capacity,
      c.requires.room,
    )

pub add_copy-requires-clause-small : goal.add_copy-requires-clause-small
add_copy-requires-clause-small g c =
    let v = c.loop-i.invariant in
    omega (
      arith,
      ap (λ l. length (with_member last l (g.K.Item.plain c.get.result.now))) v.same,
      union-room g.K.Item.plain (listed g.K.Item.plain c.args.members.now) c.args.others.now.keys.items c.loop-i.i c.get.result.now c.get.ensures,
      c.requires.small,
    )

pub add_copy-requires-clause-spare : goal.add_copy-requires-clause-spare
add_copy-requires-clause-spare g c =
    let xs = c.args.others.now.keys.items in
    omega (arith, c.loop-i.invariant.moved.falls, front-units g.K.Item.plain g.K.Item.is_counted xs c.loop-i.i, slice_get_within xs c.loop-i.i c.get.result.now c.get.ensures, c.requires.spare)

pub loop-i-preserved : goal.loop-i-preserved
loop-i-preserved g c =
    let v = c.loop-i.invariant in
    let a = g.K.Item.plain c.get.result.now in
    record {
      sound = c.add_copy.ensures.sound;
      same = c.add_copy.ensures.same ∙ ap (λ l. with_member last l a) v.same ∙ union-turn g.K.Item.plain (listed g.K.Item.plain c.args.members.now) c.args.others.now.keys.items c.loop-i.i c.get.result.now c.get.ensures;
      capacity = c.add_copy.ensures.capacity ∙ v.capacity;
      moved = moves-turn g.K.Item.plain g.K.Item.is_counted g.K.Item.WEIGHT c.args.others.now.keys.items c.loop-i.i c.get.result.now c.args.h.now c.loop-i.h c.add_copy.new.h c.get.ensures v.moved c.add_copy.ensures.moved;
      no_gain = omega (arith, v.no_gain, c.add_copy.ensures.no_gain);
    }
