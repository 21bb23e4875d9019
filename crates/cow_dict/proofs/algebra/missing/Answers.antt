use Rattle.std.proofs.Common.{◌≡◌, not, map, take, sym, ap, ◌∙◌, arith}
use Rattle.std.proofs.lemmas.List.{take_all}
use Rattle.cow_model.proofs.ListSteps.{unit_if-le}
use Rattle.cow_members.specs.Members.{MembersView}
use Rattle.cow_model.specs.Members.{member, ascending}
use Rattle.cow_model.specs.Purse.{unit_if}
use Rattle.cow_members.proofs.Loops.{lacking-turn}
use Rattle.cow_members.proofs.Operations.{lacking-ascending}
use Rattle.cow_members.specs.Sets.{lacking}
use Rattle.cow_dict.specs.Storages.{by_key, keys, listed}
use Rattle.cow_dict.proofs.Calls.{keys-map}
use Rattle.cow_dict.proofs.algebra.missing.Goals as goal

pub loop-i-preserved : goal.loop-i-preserved
loop-i-preserved g c =
    let v = c.loop-i.invariant in
    let plain = g.K.Item.plain in
    let xs = map plain c.args.pairs.now.members.keys.items in
    let once = c.missing_once-n.ensures ∙ ap (λ (m : MembersView g.row.K.Denot). unit_if (not (member (plain c.key_at.result.now) (map plain m.keys.items)))) c.members.ensures in
    let turn = lacking-turn plain xs c.args.others.now.members.keys.items c.loop-i.i c.key_at.result.now c.key_at.ensures in
    record {
      count = omega (arith, v.count, turn, once);
      most = omega (arith, v.most, once, unit_if-le (not (member (plain c.key_at.result.now) xs)));
    }

pub returns-clause-value : goal.returns-clause-value
returns-clause-value g c =
    let plain = g.K.Item.plain in
    let worth = g.V.Item.plain in
    let pairs = c.args.pairs.now in
    let others = c.args.others.now in
    let xs = map plain pairs.members.keys.items in
    let ys = map plain others.members.keys.items in
    let all : take c.loop-i.i others.members.keys.items ≡ others.members.keys.items = take_all c.loop-i.i others.members.keys.items (omega (arith, c.loop-i-test.false, c.len-i-end.ensures)) in
    c.loop-i.invariant.count ∙ ap (λ l. lacking xs (map plain l)) all ∙ sym (lacking-ascending xs ys)
    ∙ ap (λ l. lacking l (ascending ys)) (sym (keys-map plain worth pairs.members.keys.items pairs.values.items))
    ∙ ap (λ l. lacking (keys (by_key (listed plain worth pairs))) l) (sym (keys-map plain worth others.members.keys.items others.values.items))
