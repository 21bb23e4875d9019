use Rattle.std.proofs.Common.{◌≡◌, ◌+◌, ◌*◌, List, length, true, inl, inr, refl, sym, ap, subst, ◌∙◌, arith}
use Rattle.std.specs.List.{sum_by, list_all}
use Rattle.std.proofs.lemmas.Bool.{true≢false}
use Rattle.std.proofs.lemmas.Grind.{common_steps}
use Rattle.cow_model.specs.Flat.{Flat, copies}
use Rattle.cow_model.specs.Purse.{Moves}
use Rattle.cow_model.specs.declared.value.Pair.{Pair}
use Rattle.cow_dict.specs.Dictionaries.{Pays, kept_by, units}
use Rattle.cow_dict.specs.Storages.{PairsView, by_key, keys, listed, map_of}
use Rattle.cow_dict.proofs.Calls.{count-listed}
use Rattle.cow_dict.proofs.Merges.{paid-filter}
use Rattle.cow_dict.proofs.Questions.{all-kept}
use Rattle.cow_dict.proofs.dictionary.Dictionary.filter_keys.Goals as goal

pub returns-then-all_stay-clause-ok : goal.returns-then-all_stay-clause-ok
returns-then-all_stay-clause-ok g c = λ p h.
    let plain = g.K.Item.plain in
    let worth = g.V.Item.plain in
    let shown = c.self.inside.cell.value in
    let mine : map_of plain worth shown ≡ c.args.self.now.value = ap (λ (f : Flat (List Pair)). f.value) c.self.view_is in
    let all : list_all p (keys (map_of plain worth shown)) ≡ true
    = ap (λ (s : PairsView g.row.K.Denot g.row.V.Denot). list_all p (keys (map_of plain worth s))) (sym c.get.ensures) ∙ sym (c.all_stay.ensures p h) ∙ c.if-all_stay.true in
    record { value = sym mine ∙ all-kept p (map_of plain worth shown) all ∙ ap (kept_by p) mine; handle = inl refl }

pub returns-clause-ok : goal.returns-clause-ok
returns-clause-ok g c = λ p h.
    let plain = g.K.Item.plain in
    let worth = g.V.Item.plain in
    let shown = c.self.inside.cell.value in
    let mine : map_of plain worth shown ≡ c.args.self.now.value = ap (λ (f : Flat (List Pair)). f.value) c.self.view_is in
    let same : listed plain worth c.only.result.now ≡ listed plain worth shown = ap (λ (s : PairsView g.row.K.Denot g.row.V.Denot). listed plain worth s) c.only.ensures.value ∙ c.prepare.ensures.same in
    record {
      value = c.retain.ensures.same p h ∙ ap (λ l. kept_by p (by_key l)) same ∙ ap (kept_by p) mine;
      handle = inr (grind (arith, common_steps));
    }

pub returns-clause-there : goal.returns-clause-there
returns-clause-there g c = λ p h all.
    let plain = g.K.Item.plain in
    let worth = g.V.Item.plain in
    let shown = c.self.inside.cell.value in
    let mine : map_of plain worth shown ≡ c.args.self.now.value = ap (λ (f : Flat (List Pair)). f.value) c.self.view_is in
    let stay : c.all_stay.result ≡ true = c.all_stay.ensures p h ∙ ap (λ (s : PairsView g.row.K.Denot g.row.V.Denot). list_all p (keys (map_of plain worth s))) c.get.ensures ∙ ap (λ l. list_all p (keys l)) mine ∙ all in
    absurd (true≢false (sym stay ∙ c.if-all_stay.false))

pub returns-in_err-prepare-clause-there : goal.returns-in_err-prepare-clause-there
returns-in_err-prepare-clause-there g c = λ p h all.
    let plain = g.K.Item.plain in
    let worth = g.V.Item.plain in
    let shown = c.self.inside.cell.value in
    let mine : map_of plain worth shown ≡ c.args.self.now.value = ap (λ (f : Flat (List Pair)). f.value) c.self.view_is in
    let stay : c.all_stay.result ≡ true = c.all_stay.ensures p h ∙ ap (λ (s : PairsView g.row.K.Denot g.row.V.Denot). list_all p (keys (map_of plain worth s))) c.get.ensures ∙ ap (λ l. list_all p (keys l)) mine ∙ all in
    absurd (true≢false (sym stay ∙ c.if-all_stay.false))

pub returns-clause-paid : goal.returns-clause-paid
returns-clause-paid g c =
    let plain = g.K.Item.plain in
    let worth = g.V.Item.plain in
    let shown = c.self.inside.cell.value in
    let same : listed plain worth c.only.result.now ≡ listed plain worth shown = ap (λ (s : PairsView g.row.K.Denot g.row.V.Denot). listed plain worth s) c.only.ensures.value ∙ c.prepare.ensures.same in
    let f = g.K.Item.is_counted in
    let p = g.V.Item.is_counted in
    let w = g.K.Item.WEIGHT + g.V.Item.WEIGHT in
    let alone = c.self.inside.cell.alone in
    let h = c.args.h.now in
    let k = c.prepare.new.h in
    let l = c.retain.new.h in
    let moved : Moves (sum_by (units f p) (listed plain worth shown)) (copies alone (w * length (listed plain worth shown))) h k
    = subst (λ n. Moves (sum_by (units f p) (listed plain worth shown)) (copies alone (w * n)) h k) (sym (count-listed plain worth shown.members.keys.items shown.values.items)) c.prepare.ensures.moved in
    subst (λ (v : Flat (List Pair)). Pays f p w v h l) c.self.view_is
    (paid-filter f p w alone (listed plain worth shown) (sum_by (units f p) (listed plain worth c.retain.new.pairs)) h k l moved c.prepare.ensures.no_gain
    (c.retain.ensures.balance ∙ ap (λ s. k.spare + sum_by (units f p) s) same) c.retain.ensures.never_less c.retain.ensures.copied)

pub invariant_of-self-2 : goal.invariant_of-self-2
invariant_of-self-2 g c =
    let plain = g.K.Item.plain in
    let worth = g.V.Item.plain in
    let shown = c.self.inside.cell.value in
    let same : listed plain worth c.only.result.now ≡ listed plain worth shown = ap (λ (s : PairsView g.row.K.Denot g.row.V.Denot). listed plain worth s) c.only.ensures.value ∙ c.prepare.ensures.same in (
      c.retain.ensures.whole,
      omega (
        arith,
        c.retain.ensures.count,
        ap length same,
        count-listed plain worth c.only.result.now.members.keys.items c.only.result.now.values.items,
        count-listed plain worth shown.members.keys.items shown.values.items,
        c.self.invariant.1,
      ),
    )
