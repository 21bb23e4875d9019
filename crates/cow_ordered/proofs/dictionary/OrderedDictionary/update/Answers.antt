use Rattle.std.proofs.Common.{◌≡◌, ◌+◌, List, map, set, slice_get, Some, sym, ap, subst, ◌∙◌, arith}
use Rattle.std.proofs.lemmas.Grind.{common_steps}
use Rattle.cow_members.proofs.Sets.{has-alike}
use Rattle.cow_members.specs.Members.{MembersView, HasAt}
use Rattle.cow_model.specs.Flat.{Flat}
use Rattle.cow_model.specs.Members.{member}
use Rattle.cow_model.specs.Pairs.{last, value_in, put}
use Rattle.cow_model.specs.declared.value.Pair.{Pair}
use Rattle.cow_dict.specs.Dictionaries.{Pays}
use Rattle.cow_dict.specs.Storages.{PairsView, side_by_side, pair_of}
use Rattle.cow_ordered.proofs.Rows.{paid-row, put-replaced, value-none-row, value-row}
use Rattle.cow_ordered.proofs.dictionary.OrderedDictionary.update.Given.{Over}
use Rattle.cow_ordered.proofs.dictionary.OrderedDictionary.update.Goals as goal

-- where the key stands
here : (g : Over) (c : goal.After-end g) → HasAt g.K.Item.plain c.self.inside.cell.value.members (g.K.Item.plain c.args.k) c.in-Some.i
here g c = subst (λ (m : MembersView g.row.K.Denot). HasAt g.K.Item.plain m (g.K.Item.plain c.args.k) c.in-Some.i) (c.members.ensures ∙ ap (λ (s : PairsView g.row.K.Denot g.row.V.Denot). s.members) c.get.ensures) c.in-Some.ensures.found

-- the same in the storage that is made alone
there : (g : Over) (c : goal.After-end g) → HasAt g.K.Item.plain c.prepare.new.cell.value.members (g.K.Item.plain c.args.k) c.in-Some.i
there g c = has-alike g.K.Item.plain c.self.inside.cell.value.members.keys.items c.prepare.new.cell.value.members.keys.items (g.K.Item.plain c.args.k) c.in-Some.i c.prepare.ensures.keys (here g c)

pub returns-in_default-clause-ok : goal.returns-in_default-clause-ok
returns-in_default-clause-ok g c =
    let plain = g.K.Item.plain in
    let worth = g.V.Item.plain in
    let a = plain c.args.k in
    let w = worth c.args.v in
    let ready = c.prepare.new.cell.value in
    record {
      value = ap (λ (m : MembersView g.row.K.Denot). side_by_side (map plain m.keys.items) (map worth c.replace-old.new.pairs.values.items)) (c.replace-old.ensures.members ∙ ap (λ (s : PairsView g.row.K.Denot g.row.V.Denot). s.members) c.only.ensures.value)
          ∙ ap (λ l. side_by_side (map plain ready.members.keys.items) l) (c.replace-old.ensures.same ∙ ap (λ (s : PairsView g.row.K.Denot g.row.V.Denot). set (map worth s.values.items) c.in-Some.i w) c.only.ensures.value)
          ∙ put-replaced plain worth ready.members.keys.items ready.values.items c.prepare.ensures.whole.sound.apart a w c.in-Some.i c.prepare.ensures.whole.count (there g c)
          ∙ ap (λ l. put last l (pair_of a w)) c.prepare.ensures.same
          ∙ ap (λ (f : Flat (List Pair)). put last f.value (pair_of a w)) c.self.view_is;
      alone = grind (arith, common_steps);
    }

pub returns-in_default-clause-old : goal.returns-in_default-clause-old
returns-in_default-clause-old g c =
    let plain = g.K.Item.plain in
    let worth = g.V.Item.plain in
    let a = plain c.args.k in
    let ready = c.prepare.new.cell.value in
    value-row plain worth ready.members.keys.items ready.values.items c.prepare.ensures.whole.sound.apart a c.in-Some.i c.replace-old.result (there g c)
    (subst (λ (s : PairsView g.row.K.Denot g.row.V.Denot). slice_get s.values.items c.in-Some.i ≡ Some c.replace-old.result) c.only.ensures.value c.replace-old.ensures.value)
    ∙ ap (λ l. value_in a l) c.prepare.ensures.same
    ∙ ap (λ (f : Flat (List Pair)). value_in a f.value) c.self.view_is

pub returns-in_default-clause-paid : goal.returns-in_default-clause-paid
returns-in_default-clause-paid g c =
    let plain = g.K.Item.plain in
    let worth = g.V.Item.plain in
    let f = g.K.Item.is_counted in
    let p = g.V.Item.is_counted in
    let w = g.K.Item.WEIGHT + g.V.Item.WEIGHT in
    let shown = c.self.inside.cell.value in
    subst (λ (v : Flat (List Pair)). Pays f p w v c.args.h.now c.end.new.h) c.self.view_is
    (paid-row plain worth shown.members.keys.items shown.values.items f p w c.self.inside.cell.alone c.in-Some.i (plain c.args.k) c.args.h.now c.prepare.new.h c.end.new.h
    (here g c) c.prepare.ensures.moved c.prepare.ensures.no_gain c.end.ensures)

pub returns-in_ok-put_new-in-None-clause-old : goal.returns-in_ok-put_new-in-None-clause-old
returns-in_ok-put_new-in-None-clause-old g c =
    let plain = g.K.Item.plain in
    let a = plain c.args.k in
    let shown = c.self.inside.cell.value in
    let gone = ap (λ (m : MembersView g.row.K.Denot). member a (map plain m.keys.items)) (sym (c.members.ensures ∙ ap (λ (s : PairsView g.row.K.Denot g.row.V.Denot). s.members) c.get.ensures)) ∙ c.in-None.ensures.absent in
    value-none-row plain g.V.Item.plain shown.members.keys.items shown.values.items c.self.invariant.0.sound.apart a gone
    ∙ ap (λ (f : Flat (List Pair)). value_in a f.value) c.self.view_is
