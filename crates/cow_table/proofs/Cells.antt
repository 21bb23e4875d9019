-- The pairs of a row of cells, when one cell changes.
use Rattle.std.proofs.Common.{◌≡◌, ℕ, zero, suc, ◌+◌, ◌<◌, Bool, true, false, cond, eqb, List, [], ◌∷◌, length, get_or, set, Option, Some, None, refl, sym, ap, ◌∙◌, arith}
use borrow.Author.Tests.{eqb-true, eqb-false, eq-eqb}
use Rattle.cow_table.specs.Pairs.{Pair, hash_at}
use Rattle.cow_table.specs.Ring.{pairs_of, Apart, HasPair, HasFree}

pub not-first : (t : Bool) (h : ℕ) (r : Option ℕ) → cond t (Some h) r ≡ None → (t ≡ false) × (r ≡ None)
not-first true h r e = cc
not-first false h r e = (refl, e)

exchange : (s t : Bool) (a b r : Option ℕ) → (s ≡ true → t ≡ true → ⊥) → cond s a (cond t b r) ≡ cond t b (cond s a r)
exchange true true a b r d = absurd (d refl refl)
exchange true false a b r d = refl
exchange false true a b r d = refl
exchange false false a b r d = refl

unlike : (x e q : ℕ) → eqb x e ≡ false → eqb x q ≡ true → eqb e q ≡ true → ⊥
unlike x e q d s t = eqb-false x e d (eqb-true x q s ∙ sym (eqb-true e q t))

unequal : (x e : ℕ) (t : Bool) → eqb e x ≡ t → eqb x e ≡ false → t ≡ false
unequal x e true s d = absurd (eqb-false x e d (sym (eqb-true e x s)))
unequal x e false s d = refl

apart-sym : (e x : ℕ) → eqb x e ≡ false → eqb e x ≡ false
apart-sym e x d = unequal x e (eqb e x) refl d

-- a free cell is filled
pub lookup-fill : (cs : List (Option Pair)) (i : ℕ) (e : Pair) (q : ℕ) → i < length cs → get_or cs i None ≡ None → hash_at (pairs_of cs) e.position ≡ None
    → hash_at (pairs_of (set cs i (Some e))) q ≡ cond (eqb e.position q) (Some e.hash) (hash_at (pairs_of cs) q)
lookup-fill [] i e q l f a = absurd (omega arith)
lookup-fill (None ∷ cs) zero e q l f a = refl
lookup-fill (Some x ∷ cs) zero e q l f a = cc
lookup-fill (None ∷ cs) (suc i) e q l f a = lookup-fill cs i e q (omega arith) f a
lookup-fill (Some x ∷ cs) (suc i) e q l f a =
    let n = not-first (eqb x.position e.position) x.hash _ a in
    ap (λ r. cond (eqb x.position q) (Some x.hash) r) (lookup-fill cs i e q (omega arith) f n.1)
    ∙ exchange (eqb x.position q) (eqb e.position q) (Some x.hash) (Some e.hash) (hash_at (pairs_of cs) q) (unlike x.position e.position q n.0)

pub count-fill : (cs : List (Option Pair)) (i : ℕ) (e : Pair) → i < length cs → get_or cs i None ≡ None → length (pairs_of (set cs i (Some e))) ≡ length (pairs_of cs) + 1
count-fill [] i e l f = absurd (omega arith)
count-fill (None ∷ cs) zero e l f = omega arith
count-fill (Some x ∷ cs) zero e l f = cc
count-fill (None ∷ cs) (suc i) e l f = count-fill cs i e (omega arith) f
count-fill (Some x ∷ cs) (suc i) e l f = omega (arith, count-fill cs i e (omega arith) f)

pub apart-fill : (cs : List (Option Pair)) (i : ℕ) (e : Pair) → i < length cs → get_or cs i None ≡ None → hash_at (pairs_of cs) e.position ≡ None → Apart (pairs_of cs) → Apart (pairs_of (set cs i (Some e)))
apart-fill [] i e l f a p = absurd (omega arith)
apart-fill (None ∷ cs) zero e l f a p = (a, p)
apart-fill (Some x ∷ cs) zero e l f a p = cc
apart-fill (None ∷ cs) (suc i) e l f a p = apart-fill cs i e (omega arith) f a p
apart-fill (Some x ∷ cs) (suc i) e l f a p =
    let n = not-first (eqb x.position e.position) x.hash _ a in
    (lookup-fill cs i e x.position (omega arith) f n.1 ∙ ap (λ t. cond t (Some e.hash) (hash_at (pairs_of cs) x.position)) (apart-sym e.position x.position n.0) ∙ p.0, apart-fill cs i e (omega arith) f n.1 p.1)

pair-is : (x : Pair) (h p : ℕ) → x.hash ≡ h → x.position ≡ p → x ≡ record { hash = h; position = p }
pair-is x h p a b = λ i. record { hash = a i; position = b i }

lookup-here : (x : Pair) (cs : List (Option Pair)) (p h : ℕ) (t : Bool) → eqb x.position p ≡ t → cond t (Some x.hash) (hash_at (pairs_of cs) p) ≡ Some h
    → (hash_at (pairs_of cs) p ≡ Some h → HasPair cs h p) → HasPair (Some x ∷ cs) h p
lookup-here x cs p h true s a rest = record { at = 0; within = omega arith; is = let u = eqb-true x.position p s in let v : x.hash ≡ h = cc in ap (λ y. Some y) (pair-is x h p v u) }
lookup-here x cs p h false s a rest = let w = rest a in record { at = suc w.at; within = omega (arith, w.within); is = w.is }

later : (x e : Pair) (f : ℕ → Option ℕ) (t : Bool) → eqb x.position e.position ≡ t → f x.position ≡ None → f e.position ≡ Some e.hash → cond t (Some x.hash) (f e.position) ≡ Some e.hash
later x e f true s p w = let z = ap f (eqb-true x.position e.position s) in cc
later x e f false s p w = w

not-both : (x e : Pair) (f : ℕ → Option ℕ) (t : Bool) → eqb x.position e.position ≡ t → f x.position ≡ None → f e.position ≡ Some e.hash → t ≡ false
not-both x e f true s p w = let z = ap f (eqb-true x.position e.position s) in cc
not-both x e f false s p w = refl

emptied : (p q h : ℕ) (f : ℕ → Option ℕ) (t : Bool) → eqb p q ≡ t → f p ≡ None → f q ≡ cond t None (cond t (Some h) (f q))
emptied p q h f true s n = sym (ap f (eqb-true p q s)) ∙ n
emptied p q h f false s n = refl

either-none : (t : Bool) (r : Option ℕ) → r ≡ None → cond t None r ≡ None
either-none true r e = refl
either-none false r e = e

-- the hash at a position is that of a cell
pub lookup-cell : (cs : List (Option Pair)) (p h : ℕ) → hash_at (pairs_of cs) p ≡ Some h → HasPair cs h p
lookup-cell [] p h a = cc
lookup-cell (None ∷ cs) p h a = let w = lookup-cell cs p h a in record { at = suc w.at; within = omega (arith, w.within); is = w.is }
lookup-cell (Some x ∷ cs) p h a = lookup-here x cs p h (eqb x.position p) refl a (λ b. lookup-cell cs p h b)

pub cell-lookup : (cs : List (Option Pair)) (i : ℕ) (e : Pair) → Apart (pairs_of cs) → i < length cs → get_or cs i None ≡ Some e → hash_at (pairs_of cs) e.position ≡ Some e.hash
cell-lookup [] i e p l a = absurd (omega arith)
cell-lookup (None ∷ cs) zero e p l a = cc
cell-lookup (None ∷ cs) (suc i) e p l a = cell-lookup cs i e p (omega arith) a
cell-lookup (Some x ∷ cs) zero e p l a = let z : x ≡ e = cc in rw (sym (ap (λ (y : Pair). y.position) z)) (ap (λ t. cond t (Some x.hash) (hash_at (pairs_of cs) x.position)) (eq-eqb x.position x.position refl) ∙ ap (λ (y : Pair). Some y.hash) z)
cell-lookup (Some x ∷ cs) (suc i) e p l a = let w = cell-lookup cs i e p.1 (omega arith) a in later x e (hash_at (pairs_of cs)) (eqb x.position e.position) refl p.0 w

-- a cell is emptied
pub lookup-empty : (cs : List (Option Pair)) (i : ℕ) (e : Pair) (q : ℕ) → Apart (pairs_of cs) → i < length cs → get_or cs i None ≡ Some e
    → hash_at (pairs_of (set cs i None)) q ≡ cond (eqb e.position q) None (hash_at (pairs_of cs) q)
lookup-empty [] i e q p l f = absurd (omega arith)
lookup-empty (None ∷ cs) zero e q p l f = cc
lookup-empty (Some x ∷ cs) zero e q p l f = let z : x ≡ e = cc in rw (sym z) (emptied x.position q x.hash (hash_at (pairs_of cs)) (eqb x.position q) refl p.0)
lookup-empty (None ∷ cs) (suc i) e q p l f = lookup-empty cs i e q p (omega arith) f
lookup-empty (Some x ∷ cs) (suc i) e q p l f =
    let w = cell-lookup cs i e p.1 (omega arith) f in
    ap (λ r. cond (eqb x.position q) (Some x.hash) r) (lookup-empty cs i e q p.1 (omega arith) f)
    ∙ exchange (eqb x.position q) (eqb e.position q) (Some x.hash) None (hash_at (pairs_of cs) q) (unlike x.position e.position q (not-both x e (hash_at (pairs_of cs)) (eqb x.position e.position) refl p.0 w))

pub count-empty : (cs : List (Option Pair)) (i : ℕ) (e : Pair) → i < length cs → get_or cs i None ≡ Some e → length (pairs_of (set cs i None)) + 1 ≡ length (pairs_of cs)
count-empty [] i e l f = absurd (omega arith)
count-empty (None ∷ cs) zero e l f = cc
count-empty (Some x ∷ cs) zero e l f = omega arith
count-empty (None ∷ cs) (suc i) e l f = count-empty cs i e (omega arith) f
count-empty (Some x ∷ cs) (suc i) e l f = omega (arith, count-empty cs i e (omega arith) f)

pub apart-empty : (cs : List (Option Pair)) (i : ℕ) (e : Pair) → Apart (pairs_of cs) → i < length cs → get_or cs i None ≡ Some e → Apart (pairs_of (set cs i None))
apart-empty [] i e p l f = absurd (omega arith)
apart-empty (None ∷ cs) zero e p l f = cc
apart-empty (Some x ∷ cs) zero e p l f = p.1
apart-empty (None ∷ cs) (suc i) e p l f = apart-empty cs i e p (omega arith) f
apart-empty (Some x ∷ cs) (suc i) e p l f =
    (lookup-empty cs i e x.position p.1 (omega arith) f ∙ either-none (eqb e.position x.position) (hash_at (pairs_of cs) x.position) p.0, apart-empty cs i e p.1 (omega arith) f)

-- fewer pairs than cells: a cell is free
pub free-cell : (cs : List (Option Pair)) → length (pairs_of cs) < length cs → HasFree cs
free-cell [] l = absurd (omega arith)
free-cell (None ∷ cs) l = record { at = 0; within = omega arith; free = refl }
free-cell (Some x ∷ cs) l = let w = free-cell cs (omega arith) in record { at = suc w.at; within = omega (arith, w.within); free = w.free }
