use Rattle.std.proofs.Common.{◌≡◌, ◌+◌, ◌*◌, ◌++◌, List, length, map, inl, inr, refl, sym, ap, subst, ◌∙◌, arith}
use Rattle.std.specs.List.{sum_by}
use Rattle.std.proofs.lemmas.Bool.{true≢false}
use Rattle.std.proofs.lemmas.Grind.{common_steps}
use Rattle.cow_model.proofs.Ascending.{on_side}
use Rattle.cow_model.specs.Flat.{Flat, copies}
use Rattle.cow_model.specs.Members.{ascending, subset}
use Rattle.cow_model.specs.Pairs.{in_order, merge}
use Rattle.cow_model.specs.Purse.{Moves}
use Rattle.cow_model.specs.declared.value.Pair.{Pair}
use Rattle.cow_members.proofs.Operations.{lacking-ascending, none-missing}
use Rattle.cow_members.specs.Sets.{lacking}
use Rattle.cow_dict.specs.Dictionaries.{PaysWith, takes, units}
use Rattle.cow_dict.specs.Storages.{PairsView, by_key, keys, listed, map_of}
use Rattle.cow_dict.proofs.Calls.{count-listed, count-map, distinct, keys-map}
use Rattle.cow_dict.proofs.Maps.{Distinct}
use Rattle.cow_dict.proofs.Merges.{merge-idle, paid-merge, units-most}
use Rattle.cow_dict.proofs.dictionary.Dictionary.merge.Goals as goal

pub merge_all-requires-clause-room : goal.merge_all-requires-clause-room
merge_all-requires-clause-room g c =
    let plain = g.K.Item.plain in
    let worth = g.V.Item.plain in
    let shown = c.self.inside.cell.value in
    let others = c.get-others.result.now in
    let extra : c.missing-extra.result ≡ lacking (keys (map_of plain worth shown)) (keys (map_of plain worth others)) = c.missing-extra.ensures.value
    ∙ ap (λ (s : PairsView g.row.K.Denot g.row.V.Denot). lacking (keys (map_of plain worth s)) (keys (map_of plain worth others))) c.get.ensures in
    let same : listed plain worth c.only.result.now ≡ listed plain worth shown = ap (λ (s : PairsView g.row.K.Denot g.row.V.Denot). listed plain worth s) c.only.ensures.value ∙ c.prepare.ensures.same in
    omega (
      arith,
      c.in_ok-prepare.ensures.room,
      extra,
      ap (λ l. lacking (keys (by_key l)) (keys (map_of plain worth others))) same,
      ap length same,
      count-listed plain worth c.only.result.now.members.keys.items c.only.result.now.values.items,
      count-listed plain worth shown.members.keys.items shown.values.items,
      ap (λ (s : PairsView g.row.K.Denot g.row.V.Denot). s.values.capacity) c.only.ensures.value,
    )

pub merge_all-requires-clause-small : goal.merge_all-requires-clause-small
merge_all-requires-clause-small g c =
    let plain = g.K.Item.plain in
    let worth = g.V.Item.plain in
    let shown = c.self.inside.cell.value in
    let others = c.get-others.result.now in
    let mine : map_of plain worth shown ≡ c.args.self.now.value = ap (λ (f : Flat (List Pair)). f.value) c.self.view_is in
    let theirs : map_of plain worth others ≡ c.args.other.now.value = ap (λ (s : PairsView g.row.K.Denot g.row.V.Denot). map_of plain worth s) c.get-others.ensures ∙ ap (λ (f : Flat (List Pair)). f.value) c.other.view_is in
    let extra : c.missing-extra.result ≡ lacking (keys (map_of plain worth shown)) (keys (map_of plain worth others)) = c.missing-extra.ensures.value
    ∙ ap (λ (s : PairsView g.row.K.Denot g.row.V.Denot). lacking (keys (map_of plain worth s)) (keys (map_of plain worth others))) c.get.ensures in
    let same : listed plain worth c.only.result.now ≡ listed plain worth shown = ap (λ (s : PairsView g.row.K.Denot g.row.V.Denot). listed plain worth s) c.only.ensures.value ∙ c.prepare.ensures.same in
    omega (
      arith,
      extra,
      ap (λ l. lacking (keys (by_key l)) (keys (map_of plain worth others))) same,
      ap length same,
      count-listed plain worth c.only.result.now.members.keys.items c.only.result.now.values.items,
      count-listed plain worth shown.members.keys.items shown.values.items,
      ap length theirs,
      ap length mine,
      count-map plain worth shown.members.keys.items shown.values.items,
      count-map plain worth others.members.keys.items others.values.items,
      c.missing-extra.ensures.most,
      c.requires.growth,
    )

pub merge_all-requires-clause-spare : goal.merge_all-requires-clause-spare
merge_all-requires-clause-spare g c =
    let plain = g.K.Item.plain in
    let worth = g.V.Item.plain in
    let shown = c.self.inside.cell.value in
    let others = c.get-others.result.now in
    let mine : map_of plain worth shown ≡ c.args.self.now.value = ap (λ (f : Flat (List Pair)). f.value) c.self.view_is in
    let theirs : map_of plain worth others ≡ c.args.other.now.value = ap (λ (s : PairsView g.row.K.Denot g.row.V.Denot). map_of plain worth s) c.get-others.ensures ∙ ap (λ (f : Flat (List Pair)). f.value) c.other.view_is in
    omega (
      arith,
      c.prepare.ensures.moved.falls,
      units-most g.K.Item.is_counted g.V.Item.is_counted (listed plain worth shown),
      count-listed plain worth shown.members.keys.items shown.values.items,
      ap length theirs,
      ap length mine,
      count-map plain worth shown.members.keys.items shown.values.items,
      count-map plain worth others.members.keys.items others.values.items,
      c.requires.spare,
    )

pub returns-then-changes_nothing-clause-ok : goal.returns-then-changes_nothing-clause-ok
returns-then-changes_nothing-clause-ok g c =
    let plain = g.K.Item.plain in
    let worth = g.V.Item.plain in
    let shown = c.self.inside.cell.value in
    let others = c.get-others.result.now in
    let mine : map_of plain worth shown ≡ c.args.self.now.value = ap (λ (f : Flat (List Pair)). f.value) c.self.view_is in
    let theirs : map_of plain worth others ≡ c.args.other.now.value = ap (λ (s : PairsView g.row.K.Denot g.row.V.Denot). map_of plain worth s) c.get-others.ensures ∙ ap (λ (f : Flat (List Pair)). f.value) c.other.view_is in
    let extra : c.missing-extra.result ≡ lacking (keys (map_of plain worth shown)) (keys (map_of plain worth others)) = c.missing-extra.ensures.value
    ∙ ap (λ (s : PairsView g.row.K.Denot g.row.V.Denot). lacking (keys (map_of plain worth s)) (keys (map_of plain worth others))) c.get.ensures in
    let idle : map_of plain worth shown ≡ merge in_order (takes c.args.rule) (map_of plain worth shown) (map_of plain worth others)
    = merge-idle (takes c.args.rule) (listed plain worth shown) (listed plain worth others)
    (distinct plain worth shown.members.keys.items shown.values.items c.self.invariant.0.sound.apart)
    (subst (λ (s : PairsView g.row.K.Denot g.row.V.Denot). Distinct (listed plain worth s)) (sym c.get-others.ensures)
    (distinct plain worth c.other.inside.cell.value.members.keys.items c.other.inside.cell.value.values.items c.other.invariant.0.sound.apart))
    (λ t. sym extra ∙ (c.changes_nothing.ensures.keep t).0 c.if-changes_nothing.true)
    (λ t. omega (arith, count-listed plain worth others.members.keys.items others.values.items, c.len.ensures, (c.changes_nothing.ensures.take t).0 c.if-changes_nothing.true)) in
    record {
      value = sym mine ∙ idle ∙ ap (λ l. merge in_order (takes c.args.rule) l (map_of plain worth others)) mine ∙ ap (λ l. merge in_order (takes c.args.rule) c.args.self.now.value l) theirs;
      handle = inl refl;
    }

pub returns-clause-ok : goal.returns-clause-ok
returns-clause-ok g c =
    let plain = g.K.Item.plain in
    let worth = g.V.Item.plain in
    let shown = c.self.inside.cell.value in
    let others = c.get-others.result.now in
    let mine : map_of plain worth shown ≡ c.args.self.now.value = ap (λ (f : Flat (List Pair)). f.value) c.self.view_is in
    let theirs : map_of plain worth others ≡ c.args.other.now.value = ap (λ (s : PairsView g.row.K.Denot g.row.V.Denot). map_of plain worth s) c.get-others.ensures ∙ ap (λ (f : Flat (List Pair)). f.value) c.other.view_is in
    let same : listed plain worth c.only.result.now ≡ listed plain worth shown = ap (λ (s : PairsView g.row.K.Denot g.row.V.Denot). listed plain worth s) c.only.ensures.value ∙ c.prepare.ensures.same in
    record {
      value = c.merge_all.ensures.same ∙ ap (λ l. merge in_order (takes c.args.rule) (by_key l) (map_of plain worth others)) same
          ∙ ap (λ l. merge in_order (takes c.args.rule) l (map_of plain worth others)) mine ∙ ap (λ l. merge in_order (takes c.args.rule) c.args.self.now.value l) theirs;
      handle = inr (grind (arith, common_steps));
    }

pub returns-clause-paid : goal.returns-clause-paid
returns-clause-paid g c =
    let plain = g.K.Item.plain in
    let worth = g.V.Item.plain in
    let shown = c.self.inside.cell.value in
    let others = c.get-others.result.now in
    let theirs : map_of plain worth others ≡ c.args.other.now.value = ap (λ (s : PairsView g.row.K.Denot g.row.V.Denot). map_of plain worth s) c.get-others.ensures ∙ ap (λ (f : Flat (List Pair)). f.value) c.other.view_is in
    let same : listed plain worth c.only.result.now ≡ listed plain worth shown = ap (λ (s : PairsView g.row.K.Denot g.row.V.Denot). listed plain worth s) c.only.ensures.value ∙ c.prepare.ensures.same in
    let f = g.K.Item.is_counted in
    let p = g.V.Item.is_counted in
    let w = g.K.Item.WEIGHT + g.V.Item.WEIGHT in
    let alone = c.self.inside.cell.alone in
    let u = c.merge_all.ensures in
    let h = c.args.h.now in
    let k = c.prepare.new.h in
    let l = c.merge_all.new.h in
    let moved : Moves (sum_by (units f p) (listed plain worth shown)) (copies alone (w * length (listed plain worth shown))) h k
    = subst (λ n. Moves (sum_by (units f p) (listed plain worth shown)) (copies alone (w * n)) h k) (sym (count-listed plain worth shown.members.keys.items shown.values.items)) c.prepare.ensures.moved in
    let brought = ap (λ n. w * n) (count-listed plain worth others.members.keys.items others.values.items) in
    subst (λ (v : Flat (List Pair)). PaysWith f p w v c.args.other.now.value h l) c.self.view_is
    (subst (λ (v : List Pair). Moves (sum_by (units f p) (map_of plain worth shown ++ v)) (copies alone (w * length (map_of plain worth shown)) + w * length v) h l) theirs
    (paid-merge f p w alone (listed plain worth shown) (listed plain worth others) (sum_by (units f p) (listed plain worth c.merge_all.new.pairs)) h k l moved c.prepare.ensures.no_gain
    (u.balance ∙ ap (λ s. k.spare + sum_by (units f p) s) same) u.falls (omega (arith, u.copied, brought)) u.kept))

pub returns-clause-there : goal.returns-clause-there
returns-clause-there g c keeps sub =
    let plain = g.K.Item.plain in
    let worth = g.V.Item.plain in
    let shown = c.self.inside.cell.value in
    let others = c.get-others.result.now in
    let mine : map_of plain worth shown ≡ c.args.self.now.value = ap (λ (f : Flat (List Pair)). f.value) c.self.view_is in
    let theirs : map_of plain worth others ≡ c.args.other.now.value = ap (λ (s : PairsView g.row.K.Denot g.row.V.Denot). map_of plain worth s) c.get-others.ensures ∙ ap (λ (f : Flat (List Pair)). f.value) c.other.view_is in
    let extra : c.missing-extra.result ≡ lacking (keys (map_of plain worth shown)) (keys (map_of plain worth others)) = c.missing-extra.ensures.value
    ∙ ap (λ (s : PairsView g.row.K.Denot g.row.V.Denot). lacking (keys (map_of plain worth s)) (keys (map_of plain worth others))) c.get.ensures in
    let none : c.missing-extra.result ≡ 0 = extra
    ∙ ap (λ l. lacking l (keys (map_of plain worth others))) (keys-map plain worth shown.members.keys.items shown.values.items)
    ∙ ap (λ l. lacking (ascending (map plain shown.members.keys.items)) l) (keys-map plain worth others.members.keys.items others.values.items)
    ∙ lacking-ascending (map plain shown.members.keys.items) (map plain others.members.keys.items)
    ∙ none-missing (map plain shown.members.keys.items) (map plain others.members.keys.items)
    (ap (λ l. subset l (ascending (map plain shown.members.keys.items))) (sym (keys-map plain worth others.members.keys.items others.values.items) ∙ ap keys theirs)
    ∙ ap (λ l. subset (keys c.args.other.now.value) l) (sym (keys-map plain worth shown.members.keys.items shown.values.items) ∙ ap keys mine) ∙ sub) in
    absurd (true≢false (sym ((c.changes_nothing.ensures.keep keeps).1 none) ∙ c.if-changes_nothing.false))

pub returns-clause-empty : goal.returns-clause-empty
returns-clause-empty g c gone =
    let plain = g.K.Item.plain in
    let worth = g.V.Item.plain in
    let shown = c.self.inside.cell.value in
    let others = c.get-others.result.now in
    let theirs : map_of plain worth others ≡ c.args.other.now.value = ap (λ (s : PairsView g.row.K.Denot g.row.V.Denot). map_of plain worth s) c.get-others.ensures ∙ ap (λ (f : Flat (List Pair)). f.value) c.other.view_is in
    let none : length others.members.keys.items ≡ 0 = omega (arith, ap length theirs, ap length gone, count-map plain worth others.members.keys.items others.values.items) in
    absurd (true≢false (sym (on_side (takes c.args.rule)
    (λ t. (c.changes_nothing.ensures.take t).1 (omega (arith, c.len.ensures, none)))
    (λ t. (c.changes_nothing.ensures.keep t).1 (omega (arith, c.missing-extra.ensures.most, none)))) ∙ c.if-changes_nothing.false))

pub returns-in_err-prepare-clause-there : goal.returns-in_err-prepare-clause-there
returns-in_err-prepare-clause-there g c keeps sub =
    let plain = g.K.Item.plain in
    let worth = g.V.Item.plain in
    let shown = c.self.inside.cell.value in
    let others = c.get-others.result.now in
    let mine : map_of plain worth shown ≡ c.args.self.now.value = ap (λ (f : Flat (List Pair)). f.value) c.self.view_is in
    let theirs : map_of plain worth others ≡ c.args.other.now.value = ap (λ (s : PairsView g.row.K.Denot g.row.V.Denot). map_of plain worth s) c.get-others.ensures ∙ ap (λ (f : Flat (List Pair)). f.value) c.other.view_is in
    let extra : c.missing-extra.result ≡ lacking (keys (map_of plain worth shown)) (keys (map_of plain worth others)) = c.missing-extra.ensures.value
    ∙ ap (λ (s : PairsView g.row.K.Denot g.row.V.Denot). lacking (keys (map_of plain worth s)) (keys (map_of plain worth others))) c.get.ensures in
    let none : c.missing-extra.result ≡ 0 = extra
    ∙ ap (λ l. lacking l (keys (map_of plain worth others))) (keys-map plain worth shown.members.keys.items shown.values.items)
    ∙ ap (λ l. lacking (ascending (map plain shown.members.keys.items)) l) (keys-map plain worth others.members.keys.items others.values.items)
    ∙ lacking-ascending (map plain shown.members.keys.items) (map plain others.members.keys.items)
    ∙ none-missing (map plain shown.members.keys.items) (map plain others.members.keys.items)
    (ap (λ l. subset l (ascending (map plain shown.members.keys.items))) (sym (keys-map plain worth others.members.keys.items others.values.items) ∙ ap keys theirs)
    ∙ ap (λ l. subset (keys c.args.other.now.value) l) (sym (keys-map plain worth shown.members.keys.items shown.values.items) ∙ ap keys mine) ∙ sub) in
    absurd (true≢false (sym ((c.changes_nothing.ensures.keep keeps).1 none) ∙ c.if-changes_nothing.false))

pub returns-in_err-prepare-clause-empty : goal.returns-in_err-prepare-clause-empty
returns-in_err-prepare-clause-empty g c gone =
    let plain = g.K.Item.plain in
    let worth = g.V.Item.plain in
    let shown = c.self.inside.cell.value in
    let others = c.get-others.result.now in
    let theirs : map_of plain worth others ≡ c.args.other.now.value = ap (λ (s : PairsView g.row.K.Denot g.row.V.Denot). map_of plain worth s) c.get-others.ensures ∙ ap (λ (f : Flat (List Pair)). f.value) c.other.view_is in
    let none : length others.members.keys.items ≡ 0 = omega (arith, ap length theirs, ap length gone, count-map plain worth others.members.keys.items others.values.items) in
    absurd (true≢false (sym (on_side (takes c.args.rule)
    (λ t. (c.changes_nothing.ensures.take t).1 (omega (arith, c.len.ensures, none)))
    (λ t. (c.changes_nothing.ensures.keep t).1 (omega (arith, c.missing-extra.ensures.most, none)))) ∙ c.if-changes_nothing.false))

pub returns-in_err-prepare-clause-within : goal.returns-in_err-prepare-clause-within
returns-in_err-prepare-clause-within g c has =
    let plain = g.K.Item.plain in
    let worth = g.V.Item.plain in
    let shown = c.self.inside.cell.value in
    let others = c.get-others.result.now in
    let mine : map_of plain worth shown ≡ c.args.self.now.value = ap (λ (f : Flat (List Pair)). f.value) c.self.view_is in
    let theirs : map_of plain worth others ≡ c.args.other.now.value = ap (λ (s : PairsView g.row.K.Denot g.row.V.Denot). map_of plain worth s) c.get-others.ensures ∙ ap (λ (f : Flat (List Pair)). f.value) c.other.view_is in
    let extra : c.missing-extra.result ≡ lacking (keys (map_of plain worth shown)) (keys (map_of plain worth others)) = c.missing-extra.ensures.value
    ∙ ap (λ (s : PairsView g.row.K.Denot g.row.V.Denot). lacking (keys (map_of plain worth s)) (keys (map_of plain worth others))) c.get.ensures in
    let come : lacking (keys (map_of plain worth shown)) (keys (map_of plain worth others)) ≡ lacking (keys c.args.self.now.value) (keys c.args.other.now.value)
    = ap (λ l. lacking (keys l) (keys (map_of plain worth others))) mine ∙ ap (λ l. lacking (keys c.args.self.now.value) (keys l)) theirs in
    let room = ap (λ (f : Flat (List Pair)). f.room) c.self.view_is in
    let bad = c.in_err-prepare.ensures.in_place (ap (λ (f : Flat (List Pair)). f.alone) c.self.view_is ∙ has.alone)
    (omega (arith, has.room, room, come, extra, c.self.invariant.0.fits, c.self.invariant.0.count)) in
    absurd (true≢false (sym bad.0))

pub invariant_of-self-2 : goal.invariant_of-self-2
invariant_of-self-2 g c =
    let plain = g.K.Item.plain in
    let worth = g.V.Item.plain in
    let shown = c.self.inside.cell.value in
    let others = c.get-others.result.now in
    let mine : map_of plain worth shown ≡ c.args.self.now.value = ap (λ (f : Flat (List Pair)). f.value) c.self.view_is in
    let theirs : map_of plain worth others ≡ c.args.other.now.value = ap (λ (s : PairsView g.row.K.Denot g.row.V.Denot). map_of plain worth s) c.get-others.ensures ∙ ap (λ (f : Flat (List Pair)). f.value) c.other.view_is in
    let same : listed plain worth c.only.result.now ≡ listed plain worth shown = ap (λ (s : PairsView g.row.K.Denot g.row.V.Denot). listed plain worth s) c.only.ensures.value ∙ c.prepare.ensures.same in (
      c.merge_all.ensures.whole,
      omega (
        arith,
        c.merge_all.ensures.count,
        ap length same,
        count-listed plain worth c.only.result.now.members.keys.items c.only.result.now.values.items,
        count-listed plain worth shown.members.keys.items shown.values.items,
        ap length theirs,
        ap length mine,
        count-map plain worth shown.members.keys.items shown.values.items,
        count-map plain worth others.members.keys.items others.values.items,
        c.requires.growth,
      ),
    )
