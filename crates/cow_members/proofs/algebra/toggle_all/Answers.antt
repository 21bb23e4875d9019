use Rattle.std.proofs.Common.{false, ◌≡◌, ◌+◌, not, map, take, sym, ap, ◌∙◌, arith}
use Rattle.std.specs.Prelude.{option_map}
use Rattle.std.proofs.lemmas.List.{take-map}
use Rattle.std.proofs.lemmas.Option.{slice_get-map, slice_get_within}
use Rattle.cow_model.specs.Members.{last, member}
use Rattle.cow_model.specs.Order.{same}
use Rattle.cow_model.specs.Purse.{unit_if}
use Rattle.cow_members.specs.Members.{listed}
use Rattle.cow_members.proofs.Loops.{front-units, lacking-part, apart-front, front-more, lacking-turn, moves-turn, toggled-turn}
use Rattle.cow_members.proofs.algebra.toggle_all.Goals as goal
use Rattle.cow_members.specs.Sets.{either}

pub toggle-requires-clause-spare : goal.toggle-requires-clause-spare
toggle-requires-clause-spare g c =
    let xs = c.args.others.now.keys.items in
    omega (arith, c.loop-i.invariant.moved.falls, front-units g.K.Item.plain g.K.Item.is_counted xs c.loop-i.i, slice_get_within xs c.loop-i.i c.get.result.now c.get.ensures, c.requires.spare)

pub toggle-requires-clause-room : goal.toggle-requires-clause-room
toggle-requires-clause-room g c out =
    let v = c.loop-i.invariant in
    let i = c.loop-i.i in
    let xs = c.args.others.now.keys.items in
    let a = g.K.Item.plain c.get.result.now in
    let old = listed g.K.Item.plain c.args.members.now in
    let at = slice_get-map g.K.Item.plain xs i ∙ ap (λ o. option_map g.K.Item.plain o) c.get.ensures in
    let gone : member a (map g.K.Item.plain (take i xs)) ≡ false = ap (member a) (sym (take-map g.K.Item.plain i xs)) ∙ apart-front (map g.K.Item.plain xs) i a c.requires.others.apart at in
    let absent : member a old ≡ false = sym (v.same a ∙ ap (λ t. either t (member a old)) gone) ∙ out in
    omega (arith, v.count, v.capacity, lacking-turn g.K.Item.plain old xs i c.get.result.now c.get.ensures, ap (λ t. unit_if (not t)) absent, lacking-part g.K.Item.plain old xs (i + 1), c.requires.room)

pub loop-i-preserved : goal.loop-i-preserved
loop-i-preserved g c =
    let v = c.loop-i.invariant in
    let i = c.loop-i.i in
    let xs = c.args.others.now.keys.items in
    let x = c.get.result.now in
    let a = g.K.Item.plain x in
    let old = listed g.K.Item.plain c.args.members.now in
    let at = slice_get-map g.K.Item.plain xs i ∙ ap (λ o. option_map g.K.Item.plain o) c.get.ensures in
    let gone : member a (map g.K.Item.plain (take i xs)) ≡ false = ap (member a) (sym (take-map g.K.Item.plain i xs)) ∙ apart-front (map g.K.Item.plain xs) i a c.requires.others.apart at in
    let mine : member a (listed g.K.Item.plain c.loop-i.members) ≡ member a old = v.same a ∙ ap (λ t. either t (member a old)) gone in
    let turn = lacking-turn g.K.Item.plain old xs i x c.get.ensures in
    record {
      sound = c.toggle.ensures.sound;
      capacity = c.toggle.ensures.capacity ∙ v.capacity;
      count = omega (arith, v.count, c.toggle.ensures.count, ap (λ t. unit_if (not t)) mine, turn);
      same = λ q. c.toggle.ensures.same q ∙ ap (either (same q a)) (v.same q) ∙ toggled-turn q a (member q old) (map g.K.Item.plain (take i xs)) gone
          ∙ ap (λ l. either (member q l) (member q old)) (sym (sym (take-map g.K.Item.plain (i + 1) xs) ∙ front-more (map g.K.Item.plain xs) i a at ∙ ap (last a) (take-map g.K.Item.plain i xs)));
      moved = moves-turn g.K.Item.plain g.K.Item.is_counted g.K.Item.WEIGHT xs i x c.args.h.now c.loop-i.h c.toggle.new.h c.get.ensures v.moved c.toggle.ensures.moved;
    }
