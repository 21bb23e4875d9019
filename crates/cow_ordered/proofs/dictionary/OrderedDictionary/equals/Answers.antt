use Rattle.std.proofs.Common.{◌≡◌, List, map, sym, ap, ◌∙◌}
use Rattle.std.proofs.lemmas.Bool.{true≢false}
use Rattle.cow_model.specs.Flat.{Flat}
use Rattle.cow_model.specs.declared.value.Pair.{Pair}
use Rattle.cow_dict.specs.Storages.{PairsView, listed, side_by_side}
use Rattle.cow_ordered.proofs.Rows.{alike-rows}
use Rattle.cow_ordered.proofs.dictionary.OrderedDictionary.equals.Goals as goal

pub returns-then-alike : goal.returns-then-alike
returns-then-alike g c =
    let plain = g.K.Item.plain in
    let worth = g.V.Item.plain in
    let left = c.self.inside.cell.value in
    let right = c.other.inside.cell.value in
    let mine : listed plain worth left ≡ c.args.self.now.value = ap (λ (f : Flat (List Pair)). f.value) c.self.view_is in
    let theirs : listed plain worth right ≡ c.args.other.now.value = ap (λ (f : Flat (List Pair)). f.value) c.other.view_is in
    let keys_left : map plain c.keys.result.now ≡ map plain left.members.keys.items = ap (λ l. map plain l) c.keys.ensures ∙ ap (λ (s : PairsView g.row.K.Denot g.row.V.Denot). map plain s.members.keys.items) c.get-left.ensures in
    let keys_right : map plain c.keys-2.result.now ≡ map plain right.members.keys.items = ap (λ l. map plain l) c.keys-2.ensures ∙ ap (λ (s : PairsView g.row.K.Denot g.row.V.Denot). map plain s.members.keys.items) c.get-right.ensures in
    let values_left : map worth c.values.result.now ≡ map worth left.values.items = ap (λ l. map worth l) c.values.ensures ∙ ap (λ (s : PairsView g.row.K.Denot g.row.V.Denot). map worth s.values.items) c.get-left.ensures in
    let values_right : map worth c.values-then-alike.result.now ≡ map worth right.values.items = ap (λ l. map worth l) c.values-then-alike.ensures ∙ ap (λ (s : PairsView g.row.K.Denot g.row.V.Denot). map worth s.values.items) c.get-right.ensures in (
      λ t. sym mine
          ∙ ap (λ l. side_by_side l (map worth left.values.items)) (sym keys_left ∙ c.alike.ensures.0 c.if-alike.true ∙ keys_right)
          ∙ ap (λ l. side_by_side (map plain right.members.keys.items) l) (sym values_left ∙ c.alike-then-alike.ensures.0 t ∙ values_right)
          ∙ theirs,
      λ e. c.alike-then-alike.ensures.1 (values_left
          ∙ (alike-rows plain worth left.members.keys.items left.values.items right.members.keys.items right.values.items c.self.invariant.0.count c.other.invariant.0.count (mine ∙ e ∙ sym theirs)).1
          ∙ sym values_right),
    )

pub returns-else-alike : goal.returns-else-alike
returns-else-alike g c =
    let plain = g.K.Item.plain in
    let worth = g.V.Item.plain in
    let left = c.self.inside.cell.value in
    let right = c.other.inside.cell.value in
    let mine : listed plain worth left ≡ c.args.self.now.value = ap (λ (f : Flat (List Pair)). f.value) c.self.view_is in
    let theirs : listed plain worth right ≡ c.args.other.now.value = ap (λ (f : Flat (List Pair)). f.value) c.other.view_is in
    let keys_left : map plain c.keys.result.now ≡ map plain left.members.keys.items = ap (λ l. map plain l) c.keys.ensures ∙ ap (λ (s : PairsView g.row.K.Denot g.row.V.Denot). map plain s.members.keys.items) c.get-left.ensures in
    let keys_right : map plain c.keys-2.result.now ≡ map plain right.members.keys.items = ap (λ l. map plain l) c.keys-2.ensures ∙ ap (λ (s : PairsView g.row.K.Denot g.row.V.Denot). map plain s.members.keys.items) c.get-right.ensures in (
      λ t. absurd (true≢false (sym t ∙ c.if-alike.false)),
      λ e. c.alike.ensures.1 (keys_left
          ∙ (alike-rows plain worth left.members.keys.items left.values.items right.members.keys.items right.values.items c.self.invariant.0.count c.other.invariant.0.count (mine ∙ e ∙ sym theirs)).0
          ∙ sym keys_right),
    )
