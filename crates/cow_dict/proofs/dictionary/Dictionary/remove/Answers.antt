use Rattle.std.proofs.Common.{◌≡◌, ◌+◌, ◌*◌, true, List, ◌∷◌, map, slice_get, Some, IsPermutation, inl, inr, refl, sym, ap, subst, ◌∙◌, arith}
use Rattle.std.specs.List.{sum_by}
use Rattle.std.proofs.lemmas.Grind.{common_steps}
use Rattle.std.proofs.lemmas.List.{length-map}
use Rattle.std.proofs.lemmas.Option.{slice_get-map}
use Rattle.cow_members.proofs.Sets.{has-alike}
use Rattle.cow_members.specs.Members.{MembersView, HasAt}
use Rattle.cow_model.specs.Flat.{Flat, copies}
use Rattle.cow_model.specs.Members.{member}
use Rattle.cow_model.specs.Pairs.{value_in}
use Rattle.cow_model.specs.Purse.{Purse, Moves, more, unit_if}
use Rattle.cow_model.specs.declared.value.Pair.{Pair}
use Rattle.cow_members.proofs.Keys.{plain-at}
use Rattle.cow_dict.specs.Dictionaries.{has, without, Pays, units}
use Rattle.cow_dict.specs.Storages.{PairsView, listed, by_key, pair_of}
use Rattle.cow_dict.proofs.Calls.{has-map, key-ends, map-kept, map-taken, paid-key, value-absent, value-found}
use Rattle.cow_dict.proofs.dictionary.Dictionary.remove.Given.{Over}
use Rattle.cow_dict.proofs.dictionary.Dictionary.remove.Goals as goal

pub returns-in-None-clause-ok : goal.returns-in-None-clause-ok
returns-in-None-clause-ok g c =
    let plain = g.K.Item.plain in
    let a = g.E.Equivalent.sought c.args.k.now in
    let shown = c.self.inside.cell.value in
    let gone = ap (λ (m : MembersView g.row.K.Denot). member a (map plain m.keys.items)) (sym (c.members.ensures ∙ ap (λ (s : PairsView g.row.K.Denot g.row.V.Denot). s.members) c.get.ensures)) ∙ c.in-None.ensures.absent in
    record {
      value = subst (λ (f : Flat (List Pair)). f.value ≡ without a f.value) c.self.view_is (map-kept plain g.V.Item.plain shown.members.keys.items shown.values.items c.self.invariant.0.sound.apart a gone);
      handle = inl refl;
    }

pub returns-in-None-clause-old : goal.returns-in-None-clause-old
returns-in-None-clause-old g c =
    let plain = g.K.Item.plain in
    let a = g.E.Equivalent.sought c.args.k.now in
    let shown = c.self.inside.cell.value in
    let gone = ap (λ (m : MembersView g.row.K.Denot). member a (map plain m.keys.items)) (sym (c.members.ensures ∙ ap (λ (s : PairsView g.row.K.Denot g.row.V.Denot). s.members) c.get.ensures)) ∙ c.in-None.ensures.absent in
    value-absent plain g.V.Item.plain shown.members.keys.items shown.values.items c.self.invariant.0.sound.apart a gone
    ∙ ap (λ (f : Flat (List Pair)). value_in a f.value) c.self.view_is

-- where the key stands in the storage that is made alone
there : (g : Over) (c : goal.After-end g) → HasAt g.K.Item.plain c.prepare.new.cell.value.members (g.E.Equivalent.sought c.args.k.now) c.in-Some.i
there g c = has-alike g.K.Item.plain c.self.inside.cell.value.members.keys.items c.prepare.new.cell.value.members.keys.items (g.E.Equivalent.sought c.args.k.now) c.in-Some.i c.prepare.ensures.keys
    (subst (λ (m : MembersView g.row.K.Denot). HasAt g.K.Item.plain m (g.E.Equivalent.sought c.args.k.now) c.in-Some.i) (c.members.ensures ∙ ap (λ (s : PairsView g.row.K.Denot g.row.V.Denot). s.members) c.get.ensures) c.in-Some.ensures.found)

-- the key that is taken out is the one that is looked for
same_key : (g : Over) (c : goal.After-end g) → g.K.Item.plain c.take-key.result.0 ≡ g.E.Equivalent.sought c.args.k.now
same_key g c = plain-at g.K.Item.plain c.prepare.new.cell.value.members.keys.items c.in-Some.i c.take-key.result.0 (g.E.Equivalent.sought c.args.k.now)
    (subst (λ (s : PairsView g.row.K.Denot g.row.V.Denot). slice_get s.members.keys.items c.in-Some.i ≡ Some c.take-key.result.0) c.only.ensures.value c.take-key.ensures.key) (there g c)

-- it is one of the keys
is_key : (g : Over) (c : goal.After-end g) → has (g.E.Equivalent.sought c.args.k.now) c.args.self.now.value ≡ true
is_key g c =
    let a = g.E.Equivalent.sought c.args.k.now in
    let shown = c.self.inside.cell.value in
    sym (ap (λ (f : Flat (List Pair)). has a f.value) c.self.view_is) ∙ has-map g.K.Item.plain g.V.Item.plain shown.members.keys.items shown.values.items a
    ∙ ap (λ (m : MembersView g.row.K.Denot). member a (map g.K.Item.plain m.keys.items)) (sym (c.members.ensures ∙ ap (λ (s : PairsView g.row.K.Denot g.row.V.Denot). s.members) c.get.ensures)) ∙ c.in-Some.ensures.there

pub returns-in_ok-prepare-in-Some-clause-ok : goal.returns-in_ok-prepare-in-Some-clause-ok
returns-in_ok-prepare-in-Some-clause-ok g c =
    let plain = g.K.Item.plain in
    let worth = g.V.Item.plain in
    let a = g.E.Equivalent.sought c.args.k.now in
    let ready = c.prepare.new.cell.value in
    let zs = listed plain worth c.take-key.new.pairs in
    let w = worth c.take-key.result.1 in
    let out = subst (λ b. IsPermutation (listed plain worth ready) (pair_of b w ∷ zs)) (same_key g c)
    (subst (λ (s : PairsView g.row.K.Denot g.row.V.Denot). IsPermutation (listed plain worth s) (pair_of (plain c.take-key.result.0) w ∷ zs)) c.only.ensures.value c.take-key.ensures.others) in
    record {
      value = map-taken plain worth ready.members.keys.items ready.values.items c.prepare.ensures.whole.sound.apart zs a w out
          ∙ ap (λ l. without a (by_key l)) c.prepare.ensures.same
          ∙ ap (λ (f : Flat (List Pair)). without a f.value) c.self.view_is;
      handle = inr (grind (arith, common_steps));
    }

pub returns-in_ok-prepare-in-Some-clause-old : goal.returns-in_ok-prepare-in-Some-clause-old
returns-in_ok-prepare-in-Some-clause-old g c =
    let plain = g.K.Item.plain in
    let worth = g.V.Item.plain in
    let a = g.E.Equivalent.sought c.args.k.now in
    let ready = c.prepare.new.cell.value in
    value-found plain worth ready.members.keys.items ready.values.items c.prepare.ensures.whole.sound.apart a c.in-Some.i c.take-key.result.1 (there g c)
    (subst (λ (s : PairsView g.row.K.Denot g.row.V.Denot). slice_get s.values.items c.in-Some.i ≡ Some c.take-key.result.1) c.only.ensures.value c.take-key.ensures.value)
    ∙ ap (λ l. value_in a (by_key l)) c.prepare.ensures.same
    ∙ ap (λ (f : Flat (List Pair)). value_in a f.value) c.self.view_is

pub returns-in_ok-prepare-in-Some-clause-exact : goal.returns-in_ok-prepare-in-Some-clause-exact
returns-in_ok-prepare-in-Some-clause-exact g c alone =
    let f = g.K.Item.is_counted in
    let a = g.E.Equivalent.sought c.args.k.now in
    let was = ap (λ (f : Flat (List Pair)). f.alone) c.self.view_is in
    c.end.ensures ∙ ap (λ b. more (unit_if (f b)) c.prepare.new.h) (same_key g c)
    ∙ ap (λ (h : Purse). more (unit_if (f a)) h) (c.prepare.ensures.free (was ∙ alone))
    ∙ ap (λ n. more n c.args.h.now) (sym (key-ends f a c.args.self.now.value (is_key g c)))

pub returns-in_ok-prepare-in-Some-clause-paid : goal.returns-in_ok-prepare-in-Some-clause-paid
returns-in_ok-prepare-in-Some-clause-paid g c =
    let plain = g.K.Item.plain in
    let worth = g.V.Item.plain in
    let f = g.K.Item.is_counted in
    let p = g.V.Item.is_counted in
    let w = g.K.Item.WEIGHT + g.V.Item.WEIGHT in
    let a = g.E.Equivalent.sought c.args.k.now in
    let shown = c.self.inside.cell.value in
    let at = slice_get-map plain shown.members.keys.items c.in-Some.i
    ∙ subst (λ (m : MembersView g.row.K.Denot). HasAt plain m a c.in-Some.i) (c.members.ensures ∙ ap (λ (s : PairsView g.row.K.Denot g.row.V.Denot). s.members) c.get.ensures) c.in-Some.ensures.found in
    let moved = subst (λ n. Moves (sum_by (units f p) (listed plain worth shown)) (copies c.self.inside.cell.alone (w * n)) c.args.h.now c.prepare.new.h) (sym (length-map shown.members.keys.items plain)) c.prepare.ensures.moved in
    subst (λ (v : Flat (List Pair)). Pays f p w v c.args.h.now c.end.new.h) c.self.view_is
    (paid-key f p w c.self.inside.cell.alone (map plain shown.members.keys.items) (map worth shown.values.items) c.in-Some.i a c.args.h.now c.prepare.new.h c.end.new.h
    at moved c.prepare.ensures.no_gain (c.end.ensures ∙ ap (λ b. more (unit_if (f b)) c.prepare.new.h) (same_key g c)))
