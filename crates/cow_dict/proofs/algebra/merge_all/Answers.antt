use Rattle.std.proofs.Common.{◌≡◌, ◌≤◌, [], ◌∷◌, length, map, take, not, slice_get, Some, sym, ap, ◌∙◌, arith}
use Rattle.std.specs.List.{sum_by}
use Rattle.std.proofs.lemmas.List.{take_all, length-map, length-take}
use Rattle.std.proofs.lemmas.List.Sums.{count_by-le-length}
use Rattle.std.proofs.lemmas.Option.{slice_get_within}
use Rattle.cow_model.specs.Members.{last, with_member, ascending, member}
use Rattle.cow_model.specs.Pairs.{value_in}
use Rattle.cow_members.proofs.Loops.{union-room, union-turn}
use Rattle.cow_members.proofs.Operations.{lacking-ascending, union-most}
use Rattle.cow_members.specs.Sets.{lacking}
use Rattle.cow_dict.specs.Dictionaries.{merged, takes, units}
use Rattle.cow_dict.specs.Storages.{listed, pair_of, keys, by_key}
use Rattle.cow_dict.proofs.Calls.{distinct, keys-map, listed-at}
use Rattle.cow_dict.proofs.Merges.{map-merge, turn-merged, units-front, units-more}
use Rattle.cow_dict.proofs.Sides.{length-side}
use Rattle.cow_dict.proofs.algebra.merge_all.Goals as goal

pub merge_pair-requires-clause-room : goal.merge_pair-requires-clause-room
merge_pair-requires-clause-room g c =
    let plain = g.K.Item.plain in
    let worth = g.V.Item.plain in
    let v = c.loop-i.invariant in
    let pairs = c.args.pairs.now in
    let others = c.args.others.now in
    let xs = map plain pairs.members.keys.items in
    let ys = map plain others.members.keys.items in
    omega (
      arith,
      ap (λ l. length (with_member last l (plain c.key_at.result.now))) v.keys,
      union-room plain xs others.members.keys.items c.loop-i.i c.key_at.result.now c.key_at.ensures,
      union-most xs ys,
      sym (lacking-ascending xs ys) ∙ ap (λ l. lacking l (ascending ys)) (sym (keys-map plain worth pairs.members.keys.items pairs.values.items)) ∙ ap (λ l. lacking (keys (by_key (listed plain worth pairs))) l) (sym (keys-map plain worth others.members.keys.items others.values.items)),
      length-map pairs.members.keys.items plain,
      v.capacity,
      c.requires.room,
    )

pub merge_pair-requires-clause-small : goal.merge_pair-requires-clause-small
merge_pair-requires-clause-small g c =
    let plain = g.K.Item.plain in
    let worth = g.V.Item.plain in
    let v = c.loop-i.invariant in
    let pairs = c.args.pairs.now in
    let others = c.args.others.now in
    let xs = map plain pairs.members.keys.items in
    let ys = map plain others.members.keys.items in
    omega (
      arith,
      ap (λ l. length (with_member last l (plain c.key_at.result.now))) v.keys,
      union-room plain xs others.members.keys.items c.loop-i.i c.key_at.result.now c.key_at.ensures,
      union-most xs ys,
      sym (lacking-ascending xs ys) ∙ ap (λ l. lacking l (ascending ys)) (sym (keys-map plain worth pairs.members.keys.items pairs.values.items)) ∙ ap (λ l. lacking (keys (by_key (listed plain worth pairs))) l) (sym (keys-map plain worth others.members.keys.items others.values.items)),
      length-map pairs.members.keys.items plain,
      c.requires.small,
    )

pub merge_pair-requires-clause-spare : goal.merge_pair-requires-clause-spare
merge_pair-requires-clause-spare g c =
    let others = c.args.others.now in
    omega (
      arith,
      c.loop-i.invariant.falls,
      units-front g.K.Item.is_counted g.V.Item.is_counted (listed g.K.Item.plain g.V.Item.plain others) c.loop-i.i,
      slice_get_within others.members.keys.items c.loop-i.i c.key_at.result.now c.key_at.ensures,
      c.requires.spare,
    )

pub loop-i-preserved : goal.loop-i-preserved
loop-i-preserved g c =
    let plain = g.K.Item.plain in
    let worth = g.V.Item.plain in
    let v = c.loop-i.invariant in
    let u = c.merge_pair.ensures in
    let pairs = c.args.pairs.now in
    let others = c.args.others.now in
    let rs = listed plain worth others in
    let i = c.loop-i.i in
    let p = pair_of (plain c.key_at.result.now) (worth c.value_at.result.now) in
    let at : slice_get rs i ≡ Some p = listed-at plain worth others.members.keys.items others.values.items i c.key_at.result.now c.value_at.result.now c.key_at.ensures c.value_at.ensures in
    let d = distinct plain worth others.members.keys.items others.values.items c.requires.others.sound.apart in
    record {
      whole = u.whole;
      keys = u.keys ∙ ap (λ l. with_member last l (plain c.key_at.result.now)) v.keys
          ∙ union-turn plain (map plain pairs.members.keys.items) others.members.keys.items i c.key_at.result.now c.key_at.ensures;
      same = λ q. u.same q ∙ ap (λ o. merged (takes c.args.rule) (value_in q (p ∷ [])) o) (v.same q)
          ∙ turn-merged (takes c.args.rule) rs i p q (value_in q (listed plain worth pairs)) d at;
      capacity = u.capacity ∙ v.capacity;
      balance = u.balance ∙ v.balance;
      falls = omega (arith, v.falls, u.falls, units-more g.K.Item.is_counted g.V.Item.is_counted rs i p at);
      copied = omega (arith, v.copied, u.copied);
      kept = omega (arith, v.kept, u.kept);
    }

pub returns-clause-same : goal.returns-clause-same
returns-clause-same g c =
    let plain = g.K.Item.plain in
    let worth = g.V.Item.plain in
    let v = c.loop-i.invariant in
    let pairs = c.args.pairs.now in
    let others = c.args.others.now in
    let all : take c.loop-i.i (listed plain worth others) ≡ listed plain worth others = take_all c.loop-i.i (listed plain worth others)
    (omega (arith, c.loop-i-test.false, c.len-i-end.ensures, length-side (map plain others.members.keys.items) (map worth others.values.items), length-map others.members.keys.items plain)) in
    map-merge (takes c.args.rule) (listed plain worth pairs) (listed plain worth others) (listed plain worth c.loop-i.pairs)
    (distinct plain worth pairs.members.keys.items pairs.values.items c.requires.whole.sound.apart)
    (distinct plain worth others.members.keys.items others.values.items c.requires.others.sound.apart)
    (distinct plain worth c.loop-i.pairs.members.keys.items c.loop-i.pairs.values.items v.whole.sound.apart)
    (λ q. v.same q ∙ ap (λ l. merged (takes c.args.rule) (value_in q l) (value_in q (listed plain worth pairs))) all)

pub returns-clause-count : goal.returns-clause-count
returns-clause-count g c =
    let plain = g.K.Item.plain in
    let v = c.loop-i.invariant in
    let xs = map plain c.args.pairs.now.members.keys.items in
    let ys = map plain (take c.loop-i.i c.args.others.now.members.keys.items) in
    let few : length (take c.loop-i.i c.args.others.now.members.keys.items) ≤ length c.args.others.now.members.keys.items = omega (arith, length-take c.loop-i.i c.args.others.now.members.keys.items) in
    omega (
      arith,
      ap length v.keys,
      union-most xs ys,
      count_by-le-length (λ a. not (member a xs)) ys,
      few,
      length-map c.loop-i.pairs.members.keys.items plain,
      length-map c.args.pairs.now.members.keys.items plain,
      length-map (take c.loop-i.i c.args.others.now.members.keys.items) plain,
    )

pub returns-clause-falls : goal.returns-clause-falls
returns-clause-falls g c =
    let plain = g.K.Item.plain in
    let worth = g.V.Item.plain in
    let others = c.args.others.now in
    let all : take c.loop-i.i (listed plain worth others) ≡ listed plain worth others = take_all c.loop-i.i (listed plain worth others)
    (omega (arith, c.loop-i-test.false, c.len-i-end.ensures, length-side (map plain others.members.keys.items) (map worth others.values.items), length-map others.members.keys.items plain)) in
    omega (arith, c.loop-i.invariant.falls, ap (sum_by (units g.K.Item.is_counted g.V.Item.is_counted)) all)
