use Rattle.std.proofs.Common.{rules, sym, ap, ◌∙◌, ◌∷◌}
use Rattle.atomic_table.specs.Table.{rest}
use Rattle.cow_crew.proofs.Carrying.{alone, one_slot}
use Rattle.cow_crew.proofs.slots.put_result.Goals as goal

pub slot_mut-requires : goal.slot_mut-requires
slot_mut-requires g c = let h = c.requires.name.1 in (search rules, (h.0, alone _ _ _ h.1))

pub returns-clause-held : goal.returns-clause-held
returns-clause-held g c = λ j h.
    let none = ap rest h.1 in
    let same = one_slot _ _ _ _ _ _ (sym c.slot_mut.ensures.value ∙ h.1) in
    (c.put.new.self, ap (λ l. (c.args.slot, c.put.new.self) ∷ l) none, ap (λ n. n.value) c.put.ensures.name ∙ ap (λ y. y.job.value) same ∙ h.2, c.put.ensures.held)
