use Rattle.std.proofs.Common.{◌≡◌, ◌≢◌, ℕ, ◌%◌, ◌<◌, ◌≤◌, List, Option, length, get_or, set, Some, None, sym, ap, subst, ◌∙◌, arith}
use Rattle.std.proofs.lemmas.List.{map-set}
use Rattle.cow_table.specs.Pairs.{Pair, Gains}
use Rattle.cow_table.specs.Ring.{seen, cells, pairs_of, IsRing, IsNear, distance}
use Rattle.cow_table.proofs.Probes.{seen-filled, length-cells}
use Rattle.cow_table.proofs.Places.{ring-fill, gains-fill, near-fill}
use Rattle.cow_table.proofs.ring.fill.Goals as goal

written : (c : goal.After-steps) → ◌≡◌ (cells (set c.args.buckets.now c.vacant-at.result (record { hash = c.args.hash; position = c.args.position }))) (set (cells c.args.buckets.now) c.vacant-at.result (Some (record { hash = c.args.hash; position = c.args.position })))
written c = map-set seen c.args.buckets.now c.vacant-at.result (record { hash = c.args.hash; position = c.args.position })
    ∙ ap (λ x. set (cells c.args.buckets.now) c.vacant-at.result x) (seen-filled (record { hash = c.args.hash; position = c.args.position }) (λ e. absurd (let s = c.requires.small in omega arith)))

pub returns-clause-ring : goal.returns-clause-ring
returns-clause-ring c =
    let bs = c.args.buckets.now in
    let at : ℕ = c.vacant-at.result in
    let same = length-cells bs in
    subst IsRing (sym (written c)) (ring-fill (cells bs) at (record { hash = c.args.hash; position = c.args.position }) c.requires.ring (omega (arith, same, c.vacant-at.ensures.within)) c.vacant-at.ensures.value c.requires.absent
    (subst (λ (n : ℕ). (j : ℕ) → j < n → distance n (c.args.hash % n) j < distance n (c.args.hash % n) at → get_or (cells bs) j None ≢ None) (sym same) c.vacant-at.ensures.passed))

pub returns-clause-pairs : goal.returns-clause-pairs
returns-clause-pairs c =
    let bs = c.args.buckets.now in
    subst (λ (x : List (Option Pair)). Gains (record { hash = c.args.hash; position = c.args.position }) (pairs_of (cells bs)) (pairs_of x)) (sym (written c))
    (gains-fill (cells bs) c.vacant-at.result (record { hash = c.args.hash; position = c.args.position }) (omega (arith, length-cells bs, c.vacant-at.ensures.within)) c.vacant-at.ensures.value c.requires.absent)

pub returns-clause-near : goal.returns-clause-near
returns-clause-near c reach far near =
    let bs = c.args.buckets.now in
    let at : ℕ = c.vacant-at.result in
    let e : Pair = record { hash = c.args.hash; position = c.args.position } in
    let same = length-cells bs in
    let far : distance (length bs) (c.args.hash % length bs) at ≤ reach = subst (λ h. distance (length bs) h at ≤ reach) c.home.ensures.value (omega (arith, c.steps.ensures, far)) in
    subst (IsNear reach) (sym (written c))
    (near-fill (cells bs) at e (omega (arith, same, c.vacant-at.ensures.within)) reach (subst (λ n. distance n (c.args.hash % n) at ≤ reach) (sym same) far) near)
