use Rattle.std.proofs.Common.{◌≡◌, ◌+◌, List, map, remove, slice_get, Some, inl, inr, refl, sym, ap, subst, ◌∙◌, arith}
use Rattle.std.proofs.lemmas.Grind.{common_steps}
use Rattle.cow_members.proofs.Keys.{plain-at}
use Rattle.cow_members.proofs.Sets.{has-alike}
use Rattle.cow_members.specs.Members.{MembersView, HasAt}
use Rattle.cow_model.specs.Flat.{Flat}
use Rattle.cow_model.specs.Members.{member}
use Rattle.cow_model.specs.Pairs.{value_in}
use Rattle.cow_model.specs.Purse.{more, unit_if}
use Rattle.cow_model.specs.declared.value.Pair.{Pair}
use Rattle.cow_dict.specs.Dictionaries.{without, Pays}
use Rattle.cow_dict.specs.Storages.{PairsView, listed}
use Rattle.cow_ordered.proofs.Rows.{kept-row, paid-row, removed-row, value-none-row, value-row}
use Rattle.cow_ordered.proofs.dictionary.OrderedDictionary.remove.Given.{Over}
use Rattle.cow_ordered.proofs.dictionary.OrderedDictionary.remove.Goals as goal

pub returns-in-None-clause-ok : goal.returns-in-None-clause-ok
returns-in-None-clause-ok g c =
    let plain = g.K.Item.plain in
    let a = g.E.Equivalent.sought c.args.k.now in
    let shown = c.self.inside.cell.value in
    let gone = ap (λ (m : MembersView g.row.K.Denot). member a (map plain m.keys.items)) (sym (c.members.ensures ∙ ap (λ (s : PairsView g.row.K.Denot g.row.V.Denot). s.members) c.get.ensures)) ∙ c.in-None.ensures.absent in
    record {
      value = subst (λ (f : Flat (List Pair)). f.value ≡ without a f.value) c.self.view_is (kept-row plain g.V.Item.plain shown.members.keys.items shown.values.items a gone);
      handle = inl refl;
    }

pub returns-in-None-clause-old : goal.returns-in-None-clause-old
returns-in-None-clause-old g c =
    let plain = g.K.Item.plain in
    let a = g.E.Equivalent.sought c.args.k.now in
    let shown = c.self.inside.cell.value in
    let gone = ap (λ (m : MembersView g.row.K.Denot). member a (map plain m.keys.items)) (sym (c.members.ensures ∙ ap (λ (s : PairsView g.row.K.Denot g.row.V.Denot). s.members) c.get.ensures)) ∙ c.in-None.ensures.absent in
    value-none-row plain g.V.Item.plain shown.members.keys.items shown.values.items c.self.invariant.0.sound.apart a gone
    ∙ ap (λ (f : Flat (List Pair)). value_in a f.value) c.self.view_is

-- where the key stands
here : (g : Over) (c : goal.After-end g) → HasAt g.K.Item.plain c.self.inside.cell.value.members (g.E.Equivalent.sought c.args.k.now) c.in-Some.i
here g c = subst (λ (m : MembersView g.row.K.Denot). HasAt g.K.Item.plain m (g.E.Equivalent.sought c.args.k.now) c.in-Some.i) (c.members.ensures ∙ ap (λ (s : PairsView g.row.K.Denot g.row.V.Denot). s.members) c.get.ensures) c.in-Some.ensures.found

-- the same in the storage that is made alone
there : (g : Over) (c : goal.After-end g) → HasAt g.K.Item.plain c.prepare.new.cell.value.members (g.E.Equivalent.sought c.args.k.now) c.in-Some.i
there g c = has-alike g.K.Item.plain c.self.inside.cell.value.members.keys.items c.prepare.new.cell.value.members.keys.items (g.E.Equivalent.sought c.args.k.now) c.in-Some.i c.prepare.ensures.keys (here g c)

-- the key that is taken out is the one that is looked for
same_key : (g : Over) (c : goal.After-end g) → g.K.Item.plain c.remove_at-key.result.0 ≡ g.E.Equivalent.sought c.args.k.now
same_key g c = plain-at g.K.Item.plain c.prepare.new.cell.value.members.keys.items c.in-Some.i c.remove_at-key.result.0 (g.E.Equivalent.sought c.args.k.now)
    (subst (λ (s : PairsView g.row.K.Denot g.row.V.Denot). slice_get s.members.keys.items c.in-Some.i ≡ Some c.remove_at-key.result.0) c.only.ensures.value c.remove_at-key.ensures.key) (there g c)

pub returns-in_ok-prepare-in-Some-clause-ok : goal.returns-in_ok-prepare-in-Some-clause-ok
returns-in_ok-prepare-in-Some-clause-ok g c =
    let plain = g.K.Item.plain in
    let worth = g.V.Item.plain in
    let a = g.E.Equivalent.sought c.args.k.now in
    let ready = c.prepare.new.cell.value in
    record {
      value = c.remove_at-key.ensures.same
          ∙ ap (λ (s : PairsView g.row.K.Denot g.row.V.Denot). remove (listed plain worth s) c.in-Some.i) c.only.ensures.value
          ∙ removed-row plain worth ready.members.keys.items ready.values.items c.prepare.ensures.whole.sound.apart a c.in-Some.i (there g c)
          ∙ ap (λ l. without a l) c.prepare.ensures.same
          ∙ ap (λ (f : Flat (List Pair)). without a f.value) c.self.view_is;
      handle = inr (grind (arith, common_steps));
    }

pub returns-in_ok-prepare-in-Some-clause-old : goal.returns-in_ok-prepare-in-Some-clause-old
returns-in_ok-prepare-in-Some-clause-old g c =
    let plain = g.K.Item.plain in
    let worth = g.V.Item.plain in
    let a = g.E.Equivalent.sought c.args.k.now in
    let ready = c.prepare.new.cell.value in
    value-row plain worth ready.members.keys.items ready.values.items c.prepare.ensures.whole.sound.apart a c.in-Some.i c.remove_at-key.result.1 (there g c)
    (subst (λ (s : PairsView g.row.K.Denot g.row.V.Denot). slice_get s.values.items c.in-Some.i ≡ Some c.remove_at-key.result.1) c.only.ensures.value c.remove_at-key.ensures.value)
    ∙ ap (λ l. value_in a l) c.prepare.ensures.same
    ∙ ap (λ (f : Flat (List Pair)). value_in a f.value) c.self.view_is

pub returns-in_ok-prepare-in-Some-clause-paid : goal.returns-in_ok-prepare-in-Some-clause-paid
returns-in_ok-prepare-in-Some-clause-paid g c =
    let plain = g.K.Item.plain in
    let worth = g.V.Item.plain in
    let f = g.K.Item.is_counted in
    let p = g.V.Item.is_counted in
    let w = g.K.Item.WEIGHT + g.V.Item.WEIGHT in
    let shown = c.self.inside.cell.value in
    subst (λ (v : Flat (List Pair)). Pays f p w v c.args.h.now c.end.new.h) c.self.view_is
    (paid-row plain worth shown.members.keys.items shown.values.items f p w c.self.inside.cell.alone c.in-Some.i (g.E.Equivalent.sought c.args.k.now) c.args.h.now c.prepare.new.h c.end.new.h
    (here g c) c.prepare.ensures.moved c.prepare.ensures.no_gain (c.end.ensures ∙ ap (λ b. more (unit_if (f b)) c.prepare.new.h) (same_key g c)))
