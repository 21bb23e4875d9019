use Rattle.std.proofs.Common.{◌≡◌, ◌+◌, ◌*◌, true, List, map, set, slice_get, Some, sym, ap, subst, ◌∙◌, arith}
use Rattle.std.proofs.lemmas.Grind.{common_steps}
use Rattle.cow_members.proofs.Sets.{has-alike}
use Rattle.cow_members.specs.Members.{MembersView, HasAt}
use Rattle.std.specs.List.{sum_by}
use Rattle.std.proofs.lemmas.List.{length-map}
use Rattle.std.proofs.lemmas.Option.{slice_get-map}
use Rattle.cow_model.specs.Flat.{Flat, copies}
use Rattle.cow_model.specs.Members.{member}
use Rattle.cow_model.specs.Purse.{Purse, Moves, more, unit_if}
use Rattle.cow_model.specs.Pairs.{in_order, value_in, put}
use Rattle.cow_model.specs.declared.value.Pair.{Pair}
use Rattle.cow_dict.specs.Dictionaries.{has, Pays, units}
use Rattle.cow_dict.specs.Storages.{PairsView, listed, side_by_side, by_key, pair_of}
use Rattle.cow_dict.proofs.Calls.{has-map, key-ends, paid-key, value-absent, value-found, map-replaced}
use Rattle.cow_dict.proofs.dictionary.Dictionary.update.Given.{Over}
use Rattle.cow_dict.proofs.dictionary.Dictionary.update.Goals as goal

-- where the key stands in the storage that is made alone
there : (g : Over) (c : goal.After-end g) → HasAt g.K.Item.plain c.prepare.new.cell.value.members (g.K.Item.plain c.args.k) c.in-Some.i
there g c = has-alike g.K.Item.plain c.self.inside.cell.value.members.keys.items c.prepare.new.cell.value.members.keys.items (g.K.Item.plain c.args.k) c.in-Some.i c.prepare.ensures.keys
    (subst (λ (m : MembersView g.row.K.Denot). HasAt g.K.Item.plain m (g.K.Item.plain c.args.k) c.in-Some.i) (c.members.ensures ∙ ap (λ (s : PairsView g.row.K.Denot g.row.V.Denot). s.members) c.get.ensures) c.in-Some.ensures.found)

pub returns-in_default-clause-ok : goal.returns-in_default-clause-ok
returns-in_default-clause-ok g c =
    let plain = g.K.Item.plain in
    let worth = g.V.Item.plain in
    let a = plain c.args.k in
    let w = worth c.args.v in
    let ready = c.prepare.new.cell.value in
    record {
      value = ap (λ (m : MembersView g.row.K.Denot). by_key (side_by_side (map plain m.keys.items) (map worth c.replace-old.new.pairs.values.items))) (c.replace-old.ensures.members ∙ ap (λ (s : PairsView g.row.K.Denot g.row.V.Denot). s.members) c.only.ensures.value)
          ∙ ap (λ l. by_key (side_by_side (map plain ready.members.keys.items) l)) (c.replace-old.ensures.same ∙ ap (λ (s : PairsView g.row.K.Denot g.row.V.Denot). set (map worth s.values.items) c.in-Some.i w) c.only.ensures.value)
          ∙ map-replaced plain worth ready.members.keys.items ready.values.items c.prepare.ensures.whole.sound.apart a w c.in-Some.i c.prepare.ensures.whole.count (there g c)
          ∙ ap (λ l. put in_order (by_key l) (pair_of a w)) c.prepare.ensures.same
          ∙ ap (λ (f : Flat (List Pair)). put in_order f.value (pair_of a w)) c.self.view_is;
      alone = grind (arith, common_steps);
    }

pub returns-in_default-clause-old : goal.returns-in_default-clause-old
returns-in_default-clause-old g c =
    let plain = g.K.Item.plain in
    let worth = g.V.Item.plain in
    let a = plain c.args.k in
    let ready = c.prepare.new.cell.value in
    value-found plain worth ready.members.keys.items ready.values.items c.prepare.ensures.whole.sound.apart a c.in-Some.i c.replace-old.result (there g c)
    (subst (λ (s : PairsView g.row.K.Denot g.row.V.Denot). slice_get s.values.items c.in-Some.i ≡ Some c.replace-old.result) c.only.ensures.value c.replace-old.ensures.value)
    ∙ ap (λ l. value_in a (by_key l)) c.prepare.ensures.same
    ∙ ap (λ (f : Flat (List Pair)). value_in a f.value) c.self.view_is

-- the key is one of them
is_key : (g : Over) (c : goal.After-end g) → has (g.K.Item.plain c.args.k) c.args.self.now.value ≡ true
is_key g c =
    let a = g.K.Item.plain c.args.k in
    let shown = c.self.inside.cell.value in
    sym (ap (λ (f : Flat (List Pair)). has a f.value) c.self.view_is) ∙ has-map g.K.Item.plain g.V.Item.plain shown.members.keys.items shown.values.items a
    ∙ ap (λ (m : MembersView g.row.K.Denot). member a (map g.K.Item.plain m.keys.items)) (sym (c.members.ensures ∙ ap (λ (s : PairsView g.row.K.Denot g.row.V.Denot). s.members) c.get.ensures)) ∙ c.in-Some.ensures.there

pub returns-in_default-clause-exact : goal.returns-in_default-clause-exact
returns-in_default-clause-exact g c alone =
    let f = g.K.Item.is_counted in
    let a = g.K.Item.plain c.args.k in
    let was = ap (λ (f : Flat (List Pair)). f.alone) c.self.view_is in
    c.end.ensures ∙ ap (λ (h : Purse). more (unit_if (f a)) h) (c.prepare.ensures.free (was ∙ alone))
    ∙ ap (λ n. more n c.args.h.now) (sym (key-ends f a c.args.self.now.value (is_key g c)))

pub returns-in_default-clause-paid : goal.returns-in_default-clause-paid
returns-in_default-clause-paid g c =
    let plain = g.K.Item.plain in
    let worth = g.V.Item.plain in
    let f = g.K.Item.is_counted in
    let p = g.V.Item.is_counted in
    let w = g.K.Item.WEIGHT + g.V.Item.WEIGHT in
    let a = plain c.args.k in
    let shown = c.self.inside.cell.value in
    let at = slice_get-map plain shown.members.keys.items c.in-Some.i
    ∙ subst (λ (m : MembersView g.row.K.Denot). HasAt plain m a c.in-Some.i) (c.members.ensures ∙ ap (λ (s : PairsView g.row.K.Denot g.row.V.Denot). s.members) c.get.ensures) c.in-Some.ensures.found in
    let moved = subst (λ n. Moves (sum_by (units f p) (listed plain worth shown)) (copies c.self.inside.cell.alone (w * n)) c.args.h.now c.prepare.new.h) (sym (length-map shown.members.keys.items plain)) c.prepare.ensures.moved in
    subst (λ (v : Flat (List Pair)). Pays f p w v c.args.h.now c.end.new.h) c.self.view_is
    (paid-key f p w c.self.inside.cell.alone (map plain shown.members.keys.items) (map worth shown.values.items) c.in-Some.i a c.args.h.now c.prepare.new.h c.end.new.h
    at moved c.prepare.ensures.no_gain c.end.ensures)

pub returns-in_ok-put_new-in-None-clause-old : goal.returns-in_ok-put_new-in-None-clause-old
returns-in_ok-put_new-in-None-clause-old g c =
    let plain = g.K.Item.plain in
    let a = plain c.args.k in
    let shown = c.self.inside.cell.value in
    let gone = ap (λ (m : MembersView g.row.K.Denot). member a (map plain m.keys.items)) (sym (c.members.ensures ∙ ap (λ (s : PairsView g.row.K.Denot g.row.V.Denot). s.members) c.get.ensures)) ∙ c.in-None.ensures.absent in
    value-absent plain g.V.Item.plain shown.members.keys.items shown.values.items c.self.invariant.0.sound.apart a gone
    ∙ ap (λ (f : Flat (List Pair)). value_in a f.value) c.self.view_is
