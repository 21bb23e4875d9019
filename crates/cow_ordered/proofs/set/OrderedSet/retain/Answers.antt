use Rattle.std.proofs.Common.{◌≡◌, ◌+◌, count_by, true, filter, List, length, map, inl, inr, refl, sym, ap, subst, ◌∙◌, arith}
use Rattle.std.specs.List.{list_all}
use Rattle.std.proofs.lemmas.Bool.{true≢false}
use Rattle.std.proofs.lemmas.Grind.{common_steps}
use Rattle.std.proofs.lemmas.List.{length-map}
use Rattle.cow_members.specs.Members.{MembersView}
use Rattle.cow_members.specs.Sets.{kept_by}
use Rattle.cow_members.proofs.Listed.{filter-all}
use Rattle.cow_model.specs.Flat.{Flat}
use Rattle.cow_model.specs.Lists.{Pays}
use Rattle.cow_model.specs.declared.plain.Literal.{Literal}
use Rattle.cow_ordered.proofs.Costs.{paid-out}
use Rattle.cow_ordered.proofs.set.OrderedSet.retain.Goals as goal

pub returns-then-all_stay-clause-ok : goal.returns-then-all_stay-clause-ok
returns-then-all_stay-clause-ok g c =
    let xs = map g.K.Item.plain c.self.inside.cell.value.keys.items in
    let ys = map g.K.Item.plain c.get-others.result.now.keys.items in
    let mine : xs ≡ c.args.self.now.value = ap (λ (f : Flat (List Literal)). f.value) c.self.view_is in
    let theirs : ys ≡ c.args.other.now.value = ap (λ (m : MembersView g.row.K.Denot). map g.K.Item.plain m.keys.items) c.get-others.ensures ∙ ap (λ (f : Flat (List Literal)). f.value) c.other.view_is in
    let all : list_all (kept_by c.args.keep ys) xs ≡ true = ap (λ (m : MembersView g.row.K.Denot). list_all (kept_by c.args.keep ys) (map g.K.Item.plain m.keys.items)) (sym c.get.ensures) ∙ sym c.all_stay.ensures ∙ c.if-all_stay.true in
    record { value = sym mine ∙ filter-all (kept_by c.args.keep ys) xs all ∙ ap (λ l. filter (kept_by c.args.keep ys) l) mine ∙ ap (λ l. filter (kept_by c.args.keep l) c.args.self.now.value) theirs; handle = inl refl }

pub returns-clause-ok : goal.returns-clause-ok
returns-clause-ok g c =
    let xs = map g.K.Item.plain c.self.inside.cell.value.keys.items in
    let ys = map g.K.Item.plain c.get-others.result.now.keys.items in
    let mine : xs ≡ c.args.self.now.value = ap (λ (f : Flat (List Literal)). f.value) c.self.view_is in
    let theirs : ys ≡ c.args.other.now.value = ap (λ (m : MembersView g.row.K.Denot). map g.K.Item.plain m.keys.items) c.get-others.ensures ∙ ap (λ (f : Flat (List Literal)). f.value) c.other.view_is in
    let same : map g.K.Item.plain c.only.result.now.keys.items ≡ xs = ap (λ (m : MembersView g.row.K.Denot). map g.K.Item.plain m.keys.items) c.only.ensures.value ∙ c.prepare.ensures.same in
    record {
      value = c.retain.ensures.same ∙ ap (λ l. filter (kept_by c.args.keep ys) l) same ∙ ap (λ l. filter (kept_by c.args.keep ys) l) mine ∙ ap (λ l. filter (kept_by c.args.keep l) c.args.self.now.value) theirs;
      handle = inr (grind (arith, common_steps));
    }

pub returns-clause-paid : goal.returns-clause-paid
returns-clause-paid g c =
    let xs = map g.K.Item.plain c.self.inside.cell.value.keys.items in
    let same : map g.K.Item.plain c.only.result.now.keys.items ≡ xs = ap (λ (m : MembersView g.row.K.Denot). map g.K.Item.plain m.keys.items) c.only.ensures.value ∙ c.prepare.ensures.same in
    let p = g.K.Item.is_counted in
    subst (λ (f : Flat (List Literal)). Pays p g.K.Item.WEIGHT f c.args.h.now c.retain.new.h) c.self.view_is
    (paid-out g.K.Item.plain p g.K.Item.WEIGHT c.self.inside.cell.alone c.self.inside.cell.value.keys.items c.retain.new.members.keys.items c.args.h.now c.prepare.new.h c.retain.new.h
    c.prepare.ensures.moved c.prepare.ensures.no_gain (c.retain.ensures.balance ∙ ap (λ l. c.prepare.new.h.spare + count_by p l) same) c.retain.ensures.never_less c.retain.ensures.copied)

pub returns-clause-there : goal.returns-clause-there
returns-clause-there g c all =
    let xs = map g.K.Item.plain c.self.inside.cell.value.keys.items in
    let ys = map g.K.Item.plain c.get-others.result.now.keys.items in
    let mine : xs ≡ c.args.self.now.value = ap (λ (f : Flat (List Literal)). f.value) c.self.view_is in
    let theirs : ys ≡ c.args.other.now.value = ap (λ (m : MembersView g.row.K.Denot). map g.K.Item.plain m.keys.items) c.get-others.ensures ∙ ap (λ (f : Flat (List Literal)). f.value) c.other.view_is in
    let now : list_all (kept_by c.args.keep ys) xs ≡ true = ap (λ l. list_all (kept_by c.args.keep ys) l) mine ∙ ap (λ l. list_all (kept_by c.args.keep l) c.args.self.now.value) theirs ∙ all in
    absurd (true≢false (sym now ∙ ap (λ (m : MembersView g.row.K.Denot). list_all (kept_by c.args.keep ys) (map g.K.Item.plain m.keys.items)) (sym c.get.ensures) ∙ sym c.all_stay.ensures ∙ c.if-all_stay.false))

pub returns-in_err-prepare-clause-there : goal.returns-in_err-prepare-clause-there
returns-in_err-prepare-clause-there g c all =
    let xs = map g.K.Item.plain c.self.inside.cell.value.keys.items in
    let ys = map g.K.Item.plain c.get-others.result.now.keys.items in
    let mine : xs ≡ c.args.self.now.value = ap (λ (f : Flat (List Literal)). f.value) c.self.view_is in
    let theirs : ys ≡ c.args.other.now.value = ap (λ (m : MembersView g.row.K.Denot). map g.K.Item.plain m.keys.items) c.get-others.ensures ∙ ap (λ (f : Flat (List Literal)). f.value) c.other.view_is in
    let now : list_all (kept_by c.args.keep ys) xs ≡ true = ap (λ l. list_all (kept_by c.args.keep ys) l) mine ∙ ap (λ l. list_all (kept_by c.args.keep l) c.args.self.now.value) theirs ∙ all in
    absurd (true≢false (sym now ∙ ap (λ (m : MembersView g.row.K.Denot). list_all (kept_by c.args.keep ys) (map g.K.Item.plain m.keys.items)) (sym c.get.ensures) ∙ sym c.all_stay.ensures ∙ c.if-all_stay.false))

pub invariant_of-self-2 : goal.invariant_of-self-2
invariant_of-self-2 g c =
    let xs = map g.K.Item.plain c.self.inside.cell.value.keys.items in
    let same : map g.K.Item.plain c.only.result.now.keys.items ≡ xs = ap (λ (m : MembersView g.row.K.Denot). map g.K.Item.plain m.keys.items) c.only.ensures.value ∙ c.prepare.ensures.same in
    (c.retain.ensures.sound, omega (arith, c.retain.ensures.count, ap length same, length-map c.only.result.now.keys.items g.K.Item.plain, length-map c.self.inside.cell.value.keys.items g.K.Item.plain, c.self.invariant.1))
