use Rattle.std.proofs.Common.{◌≡◌, List, length, slice_get, Some, None, sym, ap, subst, arith}
use Rattle.std.proofs.lemmas.Option.{slice_get_past}
use Rattle.cow_model.proofs.ListSteps.{All-at}
use Rattle.cow_model.specs.Flat.{Flat}
use Rattle.cow_model.specs.declared.value.Pair.{Pair}
use Rattle.cow_dict.specs.Storages.{PairsView, listed, pair_of}
use Rattle.cow_dict.proofs.Calls.{count-listed, listed-at}
use Rattle.cow_ordered.proofs.dictionary.OrderedDictionary.at.Given.{Over}
use Rattle.cow_ordered.proofs.dictionary.OrderedDictionary.at.Goals as goal

key_there : (g : Over) (c : goal.After-value_at g) → slice_get c.self.inside.cell.value.members.keys.items c.args.i ≡ Some c.key_at.result.now
key_there g c = subst (λ (s : PairsView g.row.K.Denot g.row.V.Denot). slice_get s.members.keys.items c.args.i ≡ Some c.key_at.result.now) c.get-shown.ensures c.key_at.ensures

value_there : (g : Over) (c : goal.After-value_at g) → slice_get c.self.inside.cell.value.values.items c.args.i ≡ Some c.value_at.result.now
value_there g c = subst (λ (s : PairsView g.row.K.Denot g.row.V.Denot). slice_get s.values.items c.args.i ≡ Some c.value_at.result.now) c.get-shown.ensures c.value_at.ensures

pub returns-then-i-len-clause-value : goal.returns-then-i-len-clause-value
returns-then-i-len-clause-value g c =
    let shown = c.self.inside.cell.value in
    sym (subst (λ (f : Flat (List Pair)). slice_get f.value c.args.i ≡ Some (pair_of (g.K.Item.plain c.key_at.result.now) (g.V.Item.plain c.value_at.result.now))) c.self.view_is
    (listed-at g.K.Item.plain g.V.Item.plain shown.members.keys.items shown.values.items c.args.i c.key_at.result.now c.value_at.result.now (key_there g c) (value_there g c)))

pub returns-then-i-len-clause-settled : goal.returns-then-i-len-clause-settled
returns-then-i-len-clause-settled g c =
    let shown = c.self.inside.cell.value in (
      All-at g.K.Item.IsSettled shown.members.keys.items c.args.i c.key_at.result.now c.self.invariant.0.sound.settled (key_there g c),
      All-at g.V.Item.IsSettled shown.values.items c.args.i c.value_at.result.now c.self.invariant.0.settled (value_there g c),
    )

pub returns-else-i-len-clause-value : goal.returns-else-i-len-clause-value
returns-else-i-len-clause-value g c =
    let plain = g.K.Item.plain in
    let worth = g.V.Item.plain in
    let shown = c.self.inside.cell.value in
    let len = ap (λ (s : PairsView g.row.K.Denot g.row.V.Denot). length s.members.keys.items) c.get-shown.ensures in
    let past = slice_get_past (listed plain worth shown) c.args.i (omega (arith, count-listed plain worth shown.members.keys.items shown.values.items, len, c.len.ensures, c.if-i-len.false)) in
    sym (subst (λ (f : Flat (List Pair)). slice_get f.value c.args.i ≡ None) c.self.view_is past)
