-- One child.
use Rattle.std.proofs.Common.{◌≡◌, ◌≢◌, ◌∙◌, ℕ, ◌+◌, ◌<◌, ◌≤◌, List, [], ◌∷◌, length, arith, sym, ap, refl, subst, All}
use Rattle.std.specs.List.{insert}
use Rattle.std.specs.Int.{bit_at}
use Rattle.std.proofs.lemmas.List.Elements.{All-cons}
use Rattle.cow_model.specs.Canon.{digit, free}
use Rattle.cow_model.proofs.CanonTwins.{pair_together}
use Rattle.cow_champ.specs.Node.{slots_of, IsWholeChild, value_of}
use Rattle.cow_champ.proofs.Adds.{Fits_one, only_here, only_others}
use Rattle.cow_champ.proofs.Changes.{pushed}
use Rattle.cow_champ.proofs.branch.together.Goals as goal

pub returns-else-is_err-2-clause-whole : goal.returns-else-is_err-2-clause-whole
returns-else-is_err-2-clause-whole g c =
    let nodes_others : (x : ℕ) → x ≢ c.args.d → bit_at c.with_member-n.result x ≡ bit_at 0 x = λ x ne. c.with_member-n.ensures.others x ne ∙ ap (λ m. bit_at m x) c.requires.empty.1 in
    let children_are : c.insert.new.self.items ≡ c.settle.new.self ∷ [] = rw (c.reserve.ensures.items, c.requires.empty.3) at (pushed _ _ _ _ (sym c.is_err-in-Ok.ensures.value ∙ c.if-is_err-2.false) c.insert.ensures.items) in
    let w : g.C.Level.IsWhole (value_of c.settle.new.self) = subst g.C.Level.IsWhole (sym (ap (λ x. x.value) c.settle.ensures)) c.in-Ok.ensures.whole in
    let one : All (IsWholeChild g.C.Level.IsWhole) (c.settle.new.self ∷ []) = All-cons (IsWholeChild g.C.Level.IsWhole) c.settle.new.self [] (ap (λ x. x.alone) c.settle.ensures, w) (λ i d l. absurd (omega (arith, l))) in
    rw (c.requires.empty.0, c.requires.empty.2, children_are)
    (Fits_one c.with_member-n.result c.args.d c.with_member-n.ensures.same nodes_others c.requires.small, (λ i d l. absurd (omega (arith, l))), one)

pub returns-else-is_err-2-clause-shape : goal.returns-else-is_err-2-clause-shape
returns-else-is_err-2-clause-shape g c =
    let nodes_others : (x : ℕ) → x ≢ c.args.d → bit_at c.with_member-n.result x ≡ bit_at 0 x = λ x ne. c.with_member-n.ensures.others x ne ∙ ap (λ m. bit_at m x) c.requires.empty.1 in
    let children_are : c.insert.new.self.items ≡ c.settle.new.self ∷ [] = rw (c.reserve.ensures.items, c.requires.empty.3) at (pushed _ _ _ _ (sym c.is_err-in-Ok.ensures.value ∙ c.if-is_err-2.false) c.insert.ensures.items) in
    rw (c.requires.empty.0, c.requires.empty.2, children_are)
    (pair_together g.K.Key.hash_of _ _ _ c.requires.stacked.1 (g.met.C.Level.at_most c.requires.stacked.0) _ _ c.args.d
    (c.requires.digit_one ∙ ap (λ x. digit x g.row.AT) c.requires.one) (c.requires.digit_two ∙ ap (λ x. digit x g.row.AT) c.requires.two)
    (g.C.Level.shape (value_of c.settle.new.self)) (ap g.C.Level.shape (ap (λ x. x.value) c.settle.ensures) ∙ c.in-Ok.ensures.shape)
    (only_here c.with_member-n.result c.args.d c.with_member-n.ensures.same nodes_others (g.C.Level.shape (value_of c.settle.new.self)))
    (only_others c.with_member-n.result c.args.d c.with_member-n.ensures.same nodes_others (g.C.Level.shape (value_of c.settle.new.self))))
