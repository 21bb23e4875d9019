use Rattle.std.proofs.Common.{List, subst}
use Rattle.cow_members.specs.Ascents.{Ascends}
use Rattle.cow_model.specs.Flat.{Flat}
use Rattle.cow_model.specs.Members.{ascending}
use Rattle.cow_model.specs.declared.value.Pair.{Pair}
use Rattle.cow_dict.specs.Storages.{keys}
use Rattle.cow_ordered.proofs.Rows.{ascends-listed}
use Rattle.cow_ordered.proofs.dictionary.OrderedDictionary.as_slices.Goals as goal

pub returns-clause-distinct : goal.returns-clause-distinct
returns-clause-distinct g c =
    let shown = c.self.inside.cell.value in
    subst (λ (f : Flat (List Pair)). Ascends (ascending (keys f.value))) c.self.view_is (ascends-listed g.K.Item.plain g.V.Item.plain shown.members.keys.items shown.values.items c.self.invariant.0.sound.apart)
