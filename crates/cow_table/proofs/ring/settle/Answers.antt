use Rattle.std.proofs.Common.{ℕ, ◌%◌, ◌<◌, ◌≤◌, List, Option, length, get_or, set, None, refl, sym, ap, subst, ◌∙◌, arith, inl, inr}
use Rattle.cow_table.specs.Pairs.{Pair}
use Rattle.cow_table.specs.Ring.{seen, cells, distance}
use Rattle.cow_table.specs.declared.ring.Bucket.{Bucket}
use Rattle.cow_table.proofs.Probes.{holds-free, holds-some, length-cells, cells-set, cells-clear, cell-at}
use Rattle.cow_table.proofs.ring.settle.Goals as goal

pub returns-then-steps : goal.returns-then-steps
returns-then-steps c =
    let bs = c.args.buckets.now in
    let at : ℕ = c.args.at in
    let b : Bucket = get_or bs at (record { hash = 0; position = 0 }) in
    let a : distance (length bs) (b.hash % length bs) at ≤ distance (length bs) (b.hash % length bs) c.args.hole
    = subst (λ h. distance (length bs) h at ≤ distance (length bs) h c.args.hole) c.home-start.ensures.value (omega (arith, c.steps.ensures, c.steps-2.ensures, c.if-steps.true)) in
    record {
      pair = record { hash = b.hash; position = b.position };
      way = inl (record {
        was = holds-some bs at c.requires.at (λ z. c.requires.filled (holds-free bs at c.requires.at z));
        home = subst (λ n. distance n (b.hash % n) at ≤ distance n (b.hash % n) c.args.hole) (sym (length-cells bs)) a;
        cells = refl;
        now = refl;
      });
    }

pub returns : goal.returns
returns c =
    let bs = c.args.buckets.now in
    let at : ℕ = c.args.at in
    let b : Bucket = get_or bs at (record { hash = 0; position = 0 }) in
    let a : distance (length bs) (b.hash % length bs) c.args.hole < distance (length bs) (b.hash % length bs) at
    = subst (λ h. distance (length bs) h c.args.hole < distance (length bs) h at) c.home-start.ensures.value (omega (arith, c.steps.ensures, c.steps-2.ensures, c.if-steps.false)) in
    let was = holds-some bs at c.requires.at (λ z. c.requires.filled (holds-free bs at c.requires.at z)) in
    record {
      pair = record { hash = b.hash; position = b.position };
      way = inr (record {
        was = was;
        home = subst (λ n. distance n (b.hash % n) c.args.hole < distance n (b.hash % n) at) (sym (length-cells bs)) a;
        cells = cells-set (set bs at (record { hash = 0; position = 4294967295 })) c.args.hole b
            ∙ ap (λ (x : List (Option Pair)). set x c.args.hole (seen b)) (cells-clear bs at)
            ∙ ap (λ (y : Option Pair). set (set (cells bs) at None) c.args.hole y) (sym (cell-at bs at (record { hash = 0; position = 0 }) c.requires.at) ∙ was);
        now = refl;
      });
    }
