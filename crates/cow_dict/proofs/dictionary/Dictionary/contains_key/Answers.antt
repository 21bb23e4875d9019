use Rattle.std.proofs.Common.{List, map, sym, ap, ◌∙◌}
use Rattle.cow_members.specs.Members.{MembersView}
use Rattle.cow_model.specs.Flat.{Flat}
use Rattle.cow_model.specs.Members.{member}
use Rattle.cow_model.specs.declared.value.Pair.{Pair}
use Rattle.cow_dict.specs.Dictionaries.{has}
use Rattle.cow_dict.specs.Storages.{PairsView}
use Rattle.cow_dict.proofs.Calls.{has-map}
use Rattle.cow_dict.proofs.dictionary.Dictionary.contains_key.Goals as goal

pub returns : goal.returns
returns g c =
    let plain = g.K.Item.plain in
    let a = g.E.Equivalent.sought c.args.k.now in
    c.contains.ensures ∙ ap (λ (m : MembersView g.row.K.Denot). member a (map plain m.keys.items)) (c.members.ensures ∙ ap (λ (s : PairsView g.row.K.Denot g.row.V.Denot). s.members) c.get.ensures)
    ∙ sym (has-map plain g.V.Item.plain c.self.inside.cell.value.members.keys.items c.self.inside.cell.value.values.items a)
    ∙ ap (λ (f : Flat (List Pair)). has a f.value) c.self.view_is
