use Rattle.std.proofs.Common.{List, ◌++◌, ◌∷◌, [], sym, ap, ◌∙◌, arith}
use Rattle.std.proofs.lemmas.Grind.{common_steps}
use Rattle.cow_model.specs.Flat.{Flat}
use Rattle.cow_model.specs.Members.{member}
use Rattle.cow_model.specs.Pairs.{in_order, put}
use Rattle.cow_model.specs.declared.value.Pair.{Pair}
use Rattle.cow_dict.specs.Dictionaries.{has}
use Rattle.cow_dict.specs.Storages.{PairsView, listed, by_key, pair_of}
use Rattle.cow_dict.proofs.Calls.{has-map, map-pushed}
use Rattle.cow_dict.proofs.dictionary.Dictionary.put_new.Goals as goal

pub returns-clause-ok : goal.returns-clause-ok
returns-clause-ok g c =
    let plain = g.K.Item.plain in
    let worth = g.V.Item.plain in
    let a = plain c.args.k in
    let p = pair_of a (worth c.args.v) in
    let shown = c.self.inside.cell.value in
    let ready = c.prepare.new.cell.value in
    let absent = ap (member a) c.prepare.ensures.keys ∙ sym (has-map plain worth shown.members.keys.items shown.values.items a)
    ∙ ap (λ (f : Flat (List Pair)). has a f.value) c.self.view_is ∙ c.requires.absent in
    record {
      value = ap by_key (c.push.ensures.same ∙ ap (λ (s : PairsView g.row.K.Denot g.row.V.Denot). listed plain worth s ++ p ∷ []) c.only.ensures.value)
          ∙ map-pushed plain worth ready.members.keys.items ready.values.items c.prepare.ensures.whole.sound.apart a (worth c.args.v) absent
          ∙ ap (λ l. put in_order (by_key l) p) c.prepare.ensures.same
          ∙ ap (λ (f : Flat (List Pair)). put in_order f.value p) c.self.view_is;
      alone = grind (arith, common_steps);
    }
