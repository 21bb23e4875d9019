use Rattle.std.proofs.Common.{rules, ap, ◌∙◌, ◌∷◌}
use Rattle.atomic_table.specs.Table.{rest}
use Rattle.cow_crew.proofs.Carrying.{alone}
use Rattle.cow_crew.proofs.slots.take_job.Goals as goal

pub slot_mut-requires : goal.slot_mut-requires
slot_mut-requires g c = let h = c.requires.job.1 in (search rules, (h.0, alone _ _ _ h.1))

pub returns-clause-name : goal.returns-clause-name
returns-clause-name g c =
    let h = c.requires.job.1 in
    let none = ap rest h.1 in (
      (c.slot_mut.result.now, c.slot_mut.ensures.value ∙ ap (λ l. (c.args.slot, c.slot_mut.result.now) ∷ l) none, c.take.ensures.job),
      (c.take.new.self, ap (λ l. (c.args.slot, c.take.new.self) ∷ l) none, ap (λ n. n.value) c.take.ensures.name ∙ c.take.ensures.job),
    )
