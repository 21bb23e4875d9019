-- Two entries.
use Rattle.std.proofs.Common.{◌≡◌, ◌≢◌, ◌∙◌, ℕ, ◌+◌, ◌<◌, ◌≤◌, lit<, length, arith, sym, ap, refl, subst, All}
use Rattle.std.specs.Int.{bit_at}
use Rattle.cow_model.specs.Canon.{digit, free}
use Rattle.cow_model.proofs.CanonTwins.{pair_apart}
use Rattle.cow_champ.specs.Node.{slots_of}
use Rattle.cow_champ.proofs.Adds.{Fits_none, slot_nothing, bit_none}
use Rattle.cow_champ.proofs.Outcomes.{when_ok}
use Rattle.cow_champ.proofs.branch.apart.Goals as goal

pub add-requires : goal.add-requires
add-requires g c = (
  lit< tt,
  (
    rw (c.requires.empty.0, c.requires.empty.1, c.reserve.ensures.items, c.requires.empty.2, c.requires.empty.3) (Fits_none, (λ i d l. absurd (omega (arith, l))), (λ i d l. absurd (omega (arith, l)))),
    (c.requires.small_two, (rw (c.requires.empty.0) (bit_none c.args.second), (rw (c.requires.empty.1) (bit_none c.args.second), (let room = when_ok c.reserve.result (sym c.is_err.ensures.value ∙ c.if-is_err.false) c.reserve.ensures.ok in omega (arith, room))))),
  ),
)

pub returns-clause-shape : goal.returns-clause-shape
returns-clause-shape g c =
    let none : (x : ℕ) → slots_of g.K.Item.plain g.V.Item.plain g.C.Level.shape c.args.n.now.data c.args.n.now.nodes c.reserve.new.self.items c.args.n.now.children.items x ≡ free =
    rw (c.requires.empty.0, c.requires.empty.1, c.reserve.ensures.items, c.requires.empty.2, c.requires.empty.3) slot_nothing in
    pair_apart g.K.Key.hash_of _ _ _ c.requires.stacked.1 (g.met.C.Level.at_most c.requires.stacked.0) _ _ c.args.first c.args.second
    (c.requires.digit_one ∙ ap (λ x. digit x g.row.AT) c.requires.one) (c.requires.digit_two ∙ ap (λ x. digit x g.row.AT) c.requires.two) c.requires.differ
    c.add-2.ensures.here
    (c.add-2.ensures.others c.args.second (λ e. c.requires.differ (sym e)) ∙ c.add.ensures.here)
    (λ x nd nf. c.add-2.ensures.others x nd ∙ c.add.ensures.others x nf ∙ none x)
