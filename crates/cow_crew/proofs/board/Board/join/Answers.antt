use Rattle.std.proofs.Common.{rules, ap, sym, subst, ◌∙◌, ℕ, length, List, Option}
use Rattle.atomic_table.specs.Table.{Me}
use Rattle.cow_crew.specs.Rule.{EndsPast, both}
use Rattle.cow_crew.specs.declared.place.Place.{Place}
use Rattle.cow_crew.specs.declared.rule.View.{View}
use Rattle.cow_crew.specs.Passes.{HasEnded, Fits}
use Rattle.cow_crew.proofs.Steps.{joins}
use Rattle.cow_crew.proofs.Fitting.{ended_idle, fits_joined}
use Rattle.cow_crew.proofs.board.Board.join.Goals as goal

pub join_seat-requires : goal.join_seat-requires
join_seat-requires g c =
    let over = subst HasEnded (sym c.other.view_is) c.requires.over in
    let here = ap (λ t. t.jobs) c.other.view_is ∙ c.requires.other.1 ∙ sym (ap (λ d. d.jobs) c.self.view_is) in
    let E : List g.row.J.Denot → Type 0 = λ js. EndsPast (length js) c.other.inside.seat.me.0.numbers in (
      search rules,
      search rules,
      ended_idle g.J.Job.gives c.other.inside.seat.me c.other.inside.last c.other.invariant over,
      search rules,
      joins g.J.Job.gives _ _ _ _ _ (search rules) c.pass.invariant.some_part (subst E here over),
    )

pub invariant_of-pass : goal.invariant_of-pass
invariant_of-pass g c =
    let R = g.J.Job.gives in
    let m : Me (Place g.row.J.Denot g.row.J-Out.Denot) (View g.row.J.Denot) = c.pass.inside.seat.me in
    let w : View g.row.J.Denot = c.other.inside.seat.me.0 in
    let over = subst HasEnded (sym c.other.view_is) c.requires.over in
    let here = ap (λ t. t.jobs) c.other.view_is ∙ c.requires.other.1 ∙ sym (ap (λ t. t.jobs) c.pass.view_is ∙ c.requires.of.1) in
    let E : List g.row.J.Denot → Type 0 = λ js. EndsPast (length js) w.numbers in
    let F : Me (Place g.row.J.Denot g.row.J-Out.Denot) (View g.row.J.Denot) → Type 0 = λ z. Fits R z c.or-pass-inside.result in
    let G : Option ℕ → Type 0 = λ o. Fits R (both m.0 w, m.1) o in
    subst F (sym c.join_seat.ensures.2) (subst G (sym c.or-pass-inside.ensures) (fits_joined R m w c.pass.inside.last c.other.inside.last c.pass.invariant c.other.invariant.last_is (subst E here over)))
