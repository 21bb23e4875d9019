-- Lists of pairs as maps: what stands under each key, and that this determines the list by ascending key.
use Rattle.std.proofs.Common.{◌≡◌, ℕ, suc, ◌+◌, length, List, [], ◌∷◌, ◌++◌, Bool, true, false, not, ◌||◌, ◌&&◌, cond, filter, fold, insert, IsPermutation, Option, Some, None, refl, sym, ap, ◌∙◌, subst, arith}
use Rattle.std.specs.Prelude.{option_map, is_some, nat_lt}
use Rattle.std.specs.List.{prefix_len, list_any}
use Rattle.std.proofs.lemmas.Bool.{true≢false}
use borrow.Author.Tests.{ltb-true, ltb-false, lt-ltb, le-ltb}
use Rattle.std.proofs.lemmas.List.Sorted.{IsPermutation-append_right, IsPermutation-insert, IsPermutation-map, IsPermutation-middle, IsPermutation-refl, IsPermutation-sym, IsPermutation-to_front, IsPermutation-trans, length_permutation, list_any-IsPermutation}
use Rattle.cow_model.proofs.Ascending.{on_side, behind as behind_key, ahead as ahead_key, rank, ascending_cons, ascending_permutes}
use Rattle.cow_members.proofs.Ascents.{same-is, itself, member-same, member-ascending, ascends-in_order, ascends-out, ascends-filter, same-members}
use Rattle.cow_members.specs.Ascents.{Ascends}
use Rattle.cow_model.specs.Members.{member, ascending, in_order as key_in_order}
use Rattle.cow_model.specs.Order.{same, below}
use Rattle.cow_model.specs.Pairs.{Placing, in_order, place_in, pair_at, value_in, put, put_at}
use Rattle.cow_model.specs.declared.plain.Literal.{Literal}
use Rattle.cow_model.specs.declared.value.Pair.{Pair}
use Rattle.cow_dict.specs.Dictionaries.{has, without, kept_by}
use Rattle.cow_dict.specs.Storages.{pair_of, keys, by_key}

-- no two pairs have one key
abbrev pub Distinct : List Pair → Type 0
Distinct ps = Ascends (ascending (keys ps))

-- the one or the other
abbrev pub choice : Bool → Option Literal → Option Literal → Option Literal
choice b x y = cond b x y

or-no : (a b : Bool) → (a || b) ≡ false → (a ≡ false) × (b ≡ false)
or-no true b e = cc
or-no false b e = (refl, e)

-- ---- a pair placed by its key
goes_in : (f : Pair → Bool) (p z : Pair) (zs : List Pair) → f z ≡ true → insert (z ∷ zs) (prefix_len f (z ∷ zs)) p ≡ z ∷ insert zs (prefix_len f zs) p
goes_in f p z zs e =
    let k = prefix_len f zs in
    let more : 1 + k ≡ suc k = omega arith in
    subst (λ (b : Bool). insert (z ∷ zs) (cond b (1 + k) 0) p ≡ z ∷ insert zs k p) (sym e) (subst (λ (n : ℕ). insert (z ∷ zs) n p ≡ z ∷ insert zs k p) (sym more) refl)

goes_first : (f : Pair → Bool) (p z : Pair) (zs : List Pair) → f z ≡ false → insert (z ∷ zs) (prefix_len f (z ∷ zs)) p ≡ p ∷ z ∷ zs
goes_first f p z zs e = subst (λ (b : Bool). insert (z ∷ zs) (cond b (1 + prefix_len f zs) 0) p ≡ p ∷ z ∷ zs) (sym e) refl

behind : (p z : Pair) (zs : List Pair) → below z.key p.key ≡ true → in_order p (z ∷ zs) ≡ z ∷ in_order p zs
behind p z zs e = goes_in (λ q. not (not (below q.key p.key))) p z zs (ap (λ b. not (not b)) e)

ahead : (p z : Pair) (zs : List Pair) → below z.key p.key ≡ false → in_order p (z ∷ zs) ≡ p ∷ z ∷ zs
ahead p z zs e = goes_first (λ q. not (not (below q.key p.key))) p z zs (ap (λ b. not (not b)) e)

pub keys-in_order : (p : Pair) (zs : List Pair) → keys (in_order p zs) ≡ key_in_order p.key (keys zs)
keys-in_order p [] = refl
keys-in_order p (z ∷ zs) = on_side (below z.key p.key)
    (λ e. ap keys (behind p z zs e) ∙ ap (λ l. z.key ∷ l) (keys-in_order p zs) ∙ sym (behind_key p.key z.key (keys zs) e))
    (λ e. ap keys (ahead p z zs e) ∙ sym (ahead_key p.key z.key (keys zs) e))

keys-fold : (start ps : List Pair) → keys (fold (λ sorted p. in_order p sorted) start ps) ≡ fold (λ sorted a. key_in_order a sorted) (keys start) (keys ps)
keys-fold start [] = refl
keys-fold start (p ∷ ps) = keys-fold (in_order p start) ps ∙ ap (λ l. fold (λ sorted a. key_in_order a sorted) l (keys ps)) (keys-in_order p start)

pub keys-by_key : (ps : List Pair) → keys (by_key ps) ≡ ascending (keys ps)
keys-by_key ps = keys-fold [] ps

permutes-fold : (start ps : List Pair) → IsPermutation (ps ++ start) (fold (λ sorted p. in_order p sorted) start ps)
permutes-fold start [] = IsPermutation-refl start
permutes-fold start (p ∷ ps) = IsPermutation-trans (p ∷ (ps ++ start)) (ps ++ p ∷ start) (fold (λ sorted r. in_order r sorted) (in_order p start) ps)
    (IsPermutation-sym (ps ++ p ∷ start) (p ∷ (ps ++ start)) (IsPermutation-middle ps p start))
    (IsPermutation-trans (ps ++ p ∷ start) (ps ++ in_order p start) (fold (λ sorted r. in_order r sorted) (in_order p start) ps)
    (IsPermutation-append_right ps (p ∷ start) (in_order p start) (IsPermutation-insert start _ p))
    (permutes-fold (in_order p start) ps))

append-none : (ps : List Pair) → ps ++ [] ≡ ps
append-none [] = refl
append-none (p ∷ ps) = ap (λ l. p ∷ l) (append-none ps)

pub permutes : (ps : List Pair) → IsPermutation ps (by_key ps)
permutes ps = subst (λ l. IsPermutation l (by_key ps)) (append-none ps) (permutes-fold [] ps)

pub length-by_key : (ps : List Pair) → length (by_key ps) ≡ length ps
length-by_key ps = length_permutation ps (by_key ps) (permutes ps)

-- ---- what stands under a key
abbrev first : ℕ → ℕ → Option ℕ
first i n = cond {A = Option ℕ} (nat_lt i n) (Some i) None

abbrev passed : Literal → List Pair → ℕ
passed q ps = prefix_len (λ p. not (same q p.key)) ps

abbrev under : List Pair → Option ℕ → Option Literal
under ps o = option_map (λ p. p.value) (pair_at ps o)

less-suc : (i n : ℕ) → nat_lt (suc i) (suc n) ≡ nat_lt i n
less-suc i n = on_side (nat_lt i n)
    (λ e. let l = ltb-true i n e in lt-ltb (suc i) (suc n) (omega (arith, l)) ∙ sym e)
    (λ e. let l = ltb-false i n e in le-ltb (suc i) (suc n) (omega (arith, l)) ∙ sym e)

less-zero : (n : ℕ) → nat_lt 0 (suc n) ≡ true
less-zero n = lt-ltb 0 (suc n) (omega arith)

further : (p : Pair) (ps : List Pair) (i : ℕ) → under (p ∷ ps) (first (1 + i) (suc (length ps))) ≡ under ps (first i (length ps))
further p ps i = let more : suc i ≡ 1 + i = omega arith in
    subst (λ (n : ℕ). under (p ∷ ps) (first n (suc (length ps))) ≡ under ps (first i (length ps))) more
    (ap (λ b. under (p ∷ ps) (cond {A = Option ℕ} b (Some (suc i)) None)) (less-suc i (length ps)) ∙ by (nat_lt i (length ps)))
  where
    by : (b : Bool) → under (p ∷ ps) (cond {A = Option ℕ} b (Some (suc i)) None) ≡ under ps (cond {A = Option ℕ} b (Some i) None)
    by true = refl
    by false = refl

pub value-here : (q : Literal) (p : Pair) (ps : List Pair) → same q p.key ≡ true → value_in q (p ∷ ps) ≡ Some p.value
value-here q p ps e = subst (λ (b : Bool). under (p ∷ ps) (first (cond (not b) (1 + passed q ps) 0) (suc (length ps))) ≡ Some p.value) (sym e)
    (ap (λ b. under (p ∷ ps) (cond {A = Option ℕ} b (Some 0) None)) (less-zero (length ps)))

pub value-past : (q : Literal) (p : Pair) (ps : List Pair) → same q p.key ≡ false → value_in q (p ∷ ps) ≡ value_in q ps
value-past q p ps e = subst (λ (b : Bool). under (p ∷ ps) (first (cond (not b) (1 + passed q ps) 0) (suc (length ps))) ≡ value_in q ps) (sym e) (further p ps (passed q ps))

pub value-cons : (q : Literal) (p : Pair) (ps : List Pair) → value_in q (p ∷ ps) ≡ choice (same q p.key) (Some p.value) (value_in q ps)
value-cons q p ps = on_side (same q p.key)
    (λ e. value-here q p ps e ∙ sym (ap (λ b. choice b (Some p.value) (value_in q ps)) e))
    (λ e. value-past q p ps e ∙ sym (ap (λ b. choice b (Some p.value) (value_in q ps)) e))

pub value-none : (q : Literal) (ps : List Pair) → member q (keys ps) ≡ false → value_in q ps ≡ None
value-none q [] m = refl
value-none q (p ∷ ps) m = let n = or-no (same q p.key) (member q (keys ps)) m in value-past q p ps n.0 ∙ value-none q ps n.1

pub member-value : (q : Literal) (ps : List Pair) → member q (keys ps) ≡ is_some (value_in q ps)
member-value q [] = refl
member-value q (p ∷ ps) = on_side (same q p.key)
    (λ e. ap (λ b. b || member q (keys ps)) e ∙ sym (ap is_some (value-here q p ps e)))
    (λ e. ap (λ b. b || member q (keys ps)) e ∙ member-value q ps ∙ sym (ap is_some (value-past q p ps e)))

has-further : (i n : ℕ) → is_some (first (1 + i) (suc n)) ≡ is_some (first i n)
has-further i n = let more : suc i ≡ 1 + i = omega arith in
    subst (λ (k : ℕ). is_some (first k (suc n)) ≡ is_some (first i n)) more
    (ap (λ b. is_some (cond {A = Option ℕ} b (Some (suc i)) None)) (less-suc i n) ∙ by (nat_lt i n))
  where
    by : (b : Bool) → is_some (cond {A = Option ℕ} b (Some (suc i)) None) ≡ is_some (cond {A = Option ℕ} b (Some i) None)
    by true = refl
    by false = refl

pub has-member : (a : Literal) (ps : List Pair) → has a ps ≡ member a (keys ps)
has-member a [] = refl
has-member a (p ∷ ps) = on_side (same a p.key)
    (λ e. subst (λ (b : Bool). is_some (first (cond (not b) (1 + passed a ps) 0) (suc (length ps))) ≡ (b || member a (keys ps))) (sym e) (ap (λ b. is_some (cond {A = Option ℕ} b (Some 0) None)) (less-zero (length ps))))
    (λ e. subst (λ (b : Bool). is_some (first (cond (not b) (1 + passed a ps) 0) (suc (length ps))) ≡ (b || member a (keys ps))) (sym e) (has-further (passed a ps) (length ps) ∙ has-member a ps))

-- ---- distinct keys
pub keys-tail : (k : Literal) (ks : List Literal) → Ascends (ascending (k ∷ ks)) → (member k ks ≡ false) × Ascends (ascending ks)
keys-tail k ks d = let out = ascends-out k (ascending ks) (subst Ascends (ascending_cons k ks) d) in (sym (member-ascending k ks) ∙ out.0, out.1)

pub distinct-more : (p : Pair) (ps : List Pair) → Distinct ps → member p.key (keys ps) ≡ false → Distinct (p ∷ ps)
distinct-more p ps d m = subst Ascends (sym (ascending_cons p.key (keys ps))) (ascends-in_order p.key (ascending (keys ps)) d (member-ascending p.key (keys ps) ∙ m))

first-stays : (x : Literal) (xs : List Literal) → Ascends (x ∷ xs) → key_in_order x xs ≡ x ∷ xs
first-stays x [] s = refl
first-stays x (z ∷ zs) s = ahead_key x z zs (rank.one_way x z s.0.0)

pub still : (xs : List Literal) → Ascends xs → ascending xs ≡ xs
still [] s = refl
still (x ∷ xs) s = ascending_cons x xs ∙ ap (key_in_order x) (still xs s.1) ∙ first-stays x xs s

lacks-first : (x : Literal) (xs : List Literal) → Ascends (x ∷ xs) → member x xs ≡ false
lacks-first x xs s = (ascends-out x xs (subst Ascends (sym (first-stays x xs s)) s)).0

pub ascends-by_key : (ps : List Pair) → Distinct ps → Ascends (keys (by_key ps))
ascends-by_key ps d = subst Ascends (sym (keys-by_key ps)) d

pub distinct-ascending : (ps : List Pair) → Ascends (keys ps) → Distinct ps
distinct-ascending ps s = subst Ascends (sym (still (keys ps) s)) s

-- ---- the order of the pairs doesn't matter
abbrev hit : Literal → Literal → Pair → Bool
hit q v p = same q p.key && same v p.value

hit-member : (q v : Literal) (ps : List Pair) → list_any (hit q v) ps ≡ true → member q (keys ps) ≡ true
hit-member q v [] h = absurd (true≢false (sym h))
hit-member q v (p ∷ ps) h = on_side (same q p.key)
    (λ e. ap (λ b. b || member q (keys ps)) e)
    (λ e. ap (λ b. b || member q (keys ps)) e ∙ hit-member q v ps (sym (ap (λ b. (b && same v p.value) || list_any (hit q v) ps) e) ∙ h))

value-hit : (q v : Literal) (ps : List Pair) → Distinct ps → list_any (hit q v) ps ≡ true → value_in q ps ≡ Some v
value-hit q v [] d h = absurd (true≢false (sym h))
value-hit q v (p ∷ ps) d h =
    let t = keys-tail p.key (keys ps) d in
    on_side (same q p.key)
    (λ e. on_side (same v p.value)
    (λ f. value-here q p ps e ∙ ap (λ (z : Literal). Some z) (sym (same-is v p.value f)))
    (λ f. absurd (true≢false (sym (hit-member q v ps (sym (ap (λ b. (b && same v p.value) || list_any (hit q v) ps) e ∙ ap (λ b. b || list_any (hit q v) ps) f) ∙ h)) ∙ member-same q p.key (keys ps) e ∙ t.0))))
    (λ e. value-past q p ps e ∙ value-hit q v ps t.1 (sym (ap (λ b. (b && same v p.value) || list_any (hit q v) ps) e) ∙ h))

hit-value : (q v : Literal) (ps : List Pair) → value_in q ps ≡ Some v → list_any (hit q v) ps ≡ true
hit-value q v [] h = cc
hit-value q v (p ∷ ps) h = on_side (same q p.key)
    (λ e. let z : Some p.value ≡ Some v = sym (value-here q p ps e) ∙ h in
    let w : p.value ≡ v = cc in
    ap (λ b. (b && same v p.value) || list_any (hit q v) ps) e ∙ ap (λ x. same v x || list_any (hit q v) ps) w ∙ ap (λ b. b || list_any (hit q v) ps) (itself v))
    (λ e. ap (λ b. (b && same v p.value) || list_any (hit q v) ps) e ∙ hit-value q v ps (sym (value-past q p ps e) ∙ h))

pub distinct-permutes : (xs ys : List Pair) → IsPermutation xs ys → Distinct xs → Distinct ys
distinct-permutes xs ys h d = subst Ascends (sym (ascending_permutes (keys xs) (keys ys) (IsPermutation-map (λ p. p.key) xs ys h))) d

pub value-permutes : (xs ys : List Pair) → IsPermutation xs ys → Distinct xs → (q : Literal) → value_in q ys ≡ value_in q xs
value-permutes xs ys h d q = by (value_in q xs) refl
  where
    by : (o : Option Literal) → value_in q xs ≡ o → value_in q ys ≡ o
    by None e = value-none q ys (sym (list_any-IsPermutation (same q) (keys xs) (keys ys) (IsPermutation-map (λ p. p.key) xs ys h)) ∙ member-value q xs ∙ ap is_some e)
    by (Some v) e = value-hit q v ys (distinct-permutes xs ys h d) (sym (list_any-IsPermutation (hit q v) xs ys h) ∙ hit-value q v xs e)

pub value-by_key : (ps : List Pair) → Distinct ps → (q : Literal) → value_in q (by_key ps) ≡ value_in q ps
value-by_key ps d q = value-permutes ps (by_key ps) (permutes ps) d q

-- ---- lists by ascending key with the same values are one
pair-is : (p r : Pair) → p.key ≡ r.key → p.value ≡ r.value → p ≡ r
pair-is p r a b = ap (λ k. pair_of k p.value) a ∙ ap (λ v. pair_of r.key v) b

head-is : (x y : Literal) (xs ys : List Literal) → x ∷ xs ≡ y ∷ ys → (x ≡ y) × (xs ≡ ys)
head-is x y xs ys e = (cc, cc)

same-rows : (ps rs : List Pair) → keys ps ≡ keys rs → Ascends (keys ps) → ((q : Literal) → value_in q ps ≡ value_in q rs) → ps ≡ rs
same-rows [] [] e s h = refl
same-rows [] (y ∷ ys) e s h = absurd (omega (arith, ap length e))
same-rows (x ∷ xs) [] e s h = absurd (omega (arith, ap length e))
same-rows (x ∷ xs) (y ∷ ys) e s h =
    let k = head-is x.key y.key (keys xs) (keys ys) e in
    let here : same x.key y.key ≡ true = ap (same x.key) (sym k.0) ∙ itself x.key in
    let z : Some x.value ≡ Some y.value = sym (value-here x.key x xs (itself x.key)) ∙ h x.key ∙ value-here x.key y ys here in
    let v : x.value ≡ y.value = cc in
    ap (λ p. p ∷ xs) (pair-is x y k.0 v) ∙ ap (λ l. y ∷ l) (same-rows xs ys k.1 s.1 (λ q. on_side (same q x.key)
    (λ f. value-none q xs (member-same q x.key (keys xs) f ∙ lacks-first x.key (keys xs) s)
    ∙ sym (value-none q ys (member-same q y.key (keys ys) (ap (same q) (sym k.0) ∙ f) ∙ lacks-first y.key (keys ys) (subst Ascends e s))))
    (λ f. sym (value-past q x xs f) ∙ h q ∙ value-past q y ys (ap (same q) (sym k.0) ∙ f))))

pub same-map : (ps rs : List Pair) → Ascends (keys ps) → Ascends (keys rs) → ((q : Literal) → value_in q ps ≡ value_in q rs) → ps ≡ rs
same-map ps rs s t h = same-rows ps rs (same-members (keys ps) (keys rs) s t (λ q. member-value q ps ∙ ap is_some (h q) ∙ sym (member-value q rs))) s h

-- ---- a pair is put
pub else-same : (b : Bool) (x y z : Option Literal) → (b ≡ false → y ≡ z) → choice b x y ≡ choice b x z
else-same true x y z f = refl
else-same false x y z f = f refl

pub crossed : (b c : Bool) (x y z : Option Literal) → (b ≡ true → c ≡ false) → choice b x (choice c y z) ≡ choice c y (choice b x z)
crossed true true x y z f = absurd (true≢false (f refl))
crossed true false x y z f = refl
crossed false c x y z f = refl

pub other-key : (q a b : Literal) → same a b ≡ false → same q b ≡ true → same q a ≡ false
other-key q a b d f = on_side (same q a)
    (λ g. absurd (true≢false (sym (ap (same a) (sym (same-is q b f)) ∙ ap (same a) (same-is q a g) ∙ itself a) ∙ d)))
    (λ g. g)

module _ (place : Placing) where
  put-further : (r p : Pair) (ps : List Pair) (i : ℕ) → is_some (first i (length ps)) ≡ true → put_at place (first (1 + i) (suc (length ps))) r (p ∷ ps) ≡ p ∷ put_at place (first i (length ps)) r ps
  put-further r p ps i s = let more : suc i ≡ 1 + i = omega arith in
      subst (λ (k : ℕ). put_at place (first k (suc (length ps))) r (p ∷ ps) ≡ p ∷ put_at place (first i (length ps)) r ps) more
      (ap (λ b. put_at place (cond {A = Option ℕ} b (Some (suc i)) None) r (p ∷ ps)) (less-suc i (length ps)) ∙ by (nat_lt i (length ps)) s)
    where
      by : (b : Bool) → is_some (cond {A = Option ℕ} b (Some i) None) ≡ true → put_at place (cond {A = Option ℕ} b (Some (suc i)) None) r (p ∷ ps) ≡ p ∷ put_at place (cond {A = Option ℕ} b (Some i) None) r ps
      by true e = refl
      by false e = absurd (true≢false (sym e))

  pub put-here : (r p : Pair) (ps : List Pair) → same r.key p.key ≡ true → put place (p ∷ ps) r ≡ r ∷ ps
  put-here r p ps e = subst (λ (b : Bool). put_at place (first (cond (not b) (1 + passed r.key ps) 0) (suc (length ps))) r (p ∷ ps) ≡ r ∷ ps) (sym e)
      (ap (λ b. put_at place (cond {A = Option ℕ} b (Some 0) None) r (p ∷ ps)) (less-zero (length ps)))

  pub put-past : (r p : Pair) (ps : List Pair) → same r.key p.key ≡ false → member r.key (keys ps) ≡ true → put place (p ∷ ps) r ≡ p ∷ put place ps r
  put-past r p ps e m = subst (λ (b : Bool). put_at place (first (cond (not b) (1 + passed r.key ps) 0) (suc (length ps))) r (p ∷ ps) ≡ p ∷ put place ps r) (sym e)
      (put-further r p ps (passed r.key ps) (has-member r.key ps ∙ m))

  none-is : (o : Option ℕ) → is_some o ≡ false → o ≡ None
  none-is None e = refl
  none-is (Some i) e = absurd (true≢false e)

  pub put-absent : (r : Pair) (ps : List Pair) → member r.key (keys ps) ≡ false → put place ps r ≡ place r ps
  put-absent r ps m = ap (λ o. put_at place o r ps) (none-is (place_in r.key ps) (has-member r.key ps ∙ m))

  past : (r p : Pair) (ps : List Pair) → same r.key p.key ≡ false → member r.key (keys (p ∷ ps)) ≡ true → member r.key (keys ps) ≡ true
  past r p ps e m = sym (ap (λ b. b || member r.key (keys ps)) e) ∙ m

  pub put-keys : (r : Pair) (ps : List Pair) → member r.key (keys ps) ≡ true → keys (put place ps r) ≡ keys ps
  put-keys r [] m = absurd (true≢false (sym m))
  put-keys r (p ∷ ps) m = on_side (same r.key p.key)
      (λ e. ap keys (put-here r p ps e) ∙ ap (λ k. k ∷ keys ps) (same-is r.key p.key e))
      (λ e. ap keys (put-past r p ps e (past r p ps e m)) ∙ ap (λ l. p.key ∷ l) (put-keys r ps (past r p ps e m)))

  put-value : (r : Pair) (ps : List Pair) (q : Literal) → member r.key (keys ps) ≡ true → value_in q (put place ps r) ≡ choice (same q r.key) (Some r.value) (value_in q ps)
  put-value r [] q m = absurd (true≢false (sym m))
  put-value r (p ∷ ps) q m = on_side (same r.key p.key)
      (λ e. ap (value_in q) (put-here r p ps e) ∙ value-cons q r ps ∙ else-same (same q r.key) (Some r.value) (value_in q ps) (value_in q (p ∷ ps))
      (λ f. sym (value-past q p ps (ap (same q) (sym (same-is r.key p.key e)) ∙ f))))
      (λ e. ap (value_in q) (put-past r p ps e (past r p ps e m)) ∙ value-cons q p (put place ps r)
      ∙ ap (λ o. choice (same q p.key) (Some p.value) o) (put-value r ps q (past r p ps e m))
      ∙ crossed (same q p.key) (same q r.key) (Some p.value) (Some r.value) (value_in q ps) (other-key q r.key p.key e)
      ∙ ap (λ o. choice (same q r.key) (Some r.value) o) (sym (value-cons q p ps)))

pub value-front : (r : Pair) (ps zs : List Pair) → IsPermutation (r ∷ ps) zs → Distinct ps → member r.key (keys ps) ≡ false → (q : Literal) → value_in q zs ≡ choice (same q r.key) (Some r.value) (value_in q ps)
value-front r ps zs h d m q = value-permutes (r ∷ ps) zs h (distinct-more r ps d m) q ∙ value-cons q r ps

pub value-put : (r : Pair) (ps : List Pair) → Distinct ps → (q : Literal) → value_in q (put in_order ps r) ≡ choice (same q r.key) (Some r.value) (value_in q ps)
value-put r ps d q = on_side (member r.key (keys ps))
    (λ m. put-value in_order r ps q m)
    (λ m. ap (value_in q) (put-absent in_order r ps m) ∙ value-front r ps (in_order r ps) (IsPermutation-insert ps _ r) d m q)

pub ascends-put : (r : Pair) (ps : List Pair) → Ascends (keys ps) → Ascends (keys (put in_order ps r))
ascends-put r ps s = on_side (member r.key (keys ps))
    (λ m. subst Ascends (sym (put-keys in_order r ps m)) s)
    (λ m. subst Ascends (sym (ap keys (put-absent in_order r ps m) ∙ keys-in_order r ps)) (ascends-in_order r.key (keys ps) s m))

-- a list in which the pair r is put stands for the map in which it is put
pub map-put : (ps zs : List Pair) (r : Pair) → Distinct ps → Distinct zs → ((q : Literal) → value_in q zs ≡ choice (same q r.key) (Some r.value) (value_in q ps)) → by_key zs ≡ put in_order (by_key ps) r
map-put ps zs r d t h =
    let s = ascends-by_key ps d in
    same-map (by_key zs) (put in_order (by_key ps) r) (ascends-by_key zs t) (ascends-put r (by_key ps) s) (λ q.
    value-by_key zs t q ∙ h q ∙ ap (λ o. choice (same q r.key) (Some r.value) o) (sym (value-by_key ps d q)) ∙ sym (value-put r (by_key ps) (distinct-ascending (by_key ps) s) q))

pub map-push : (ps : List Pair) (r : Pair) → Distinct ps → member r.key (keys ps) ≡ false → by_key (ps ++ r ∷ []) ≡ put in_order (by_key ps) r
map-push ps r d m =
    let front = IsPermutation-sym (ps ++ r ∷ []) (r ∷ ps) (IsPermutation-to_front ps r) in
    map-put ps (ps ++ r ∷ []) r d (distinct-permutes (r ∷ ps) (ps ++ r ∷ []) front (distinct-more r ps d m)) (value-front r ps (ps ++ r ∷ []) front d m)

-- ---- pairs go
module _ (f : Literal → Bool) where
  nothing : (b : Bool) → None ≡ choice b None None
  nothing true = refl
  nothing false = refl

  filter-keys : (ps : List Pair) → keys (kept_by f ps) ≡ filter f (keys ps)
  filter-keys [] = refl
  filter-keys (p ∷ ps) = on_side (f p.key)
      (λ e. ap (λ t. keys (cond t (p ∷ kept_by f ps) (kept_by f ps))) e ∙ ap (λ l. p.key ∷ l) (filter-keys ps) ∙ sym (ap (λ t. cond t (p.key ∷ filter f (keys ps)) (filter f (keys ps))) e))
      (λ e. ap (λ t. keys (cond t (p ∷ kept_by f ps) (kept_by f ps))) e ∙ filter-keys ps ∙ sym (ap (λ t. cond t (p.key ∷ filter f (keys ps)) (filter f (keys ps))) e))

  value-filter : (q : Literal) (ps : List Pair) → value_in q (kept_by f ps) ≡ choice (f q) (value_in q ps) None
  value-filter q [] = nothing (f q)
  value-filter q (p ∷ ps) = on_side (f p.key)
      (λ e. ap (λ t. value_in q (cond t (p ∷ kept_by f ps) (kept_by f ps))) e ∙ value-cons q p (kept_by f ps) ∙ ap (λ o. choice (same q p.key) (Some p.value) o) (value-filter q ps) ∙ kept e)
      (λ e. ap (λ t. value_in q (cond t (p ∷ kept_by f ps) (kept_by f ps))) e ∙ value-filter q ps ∙ gone e)
    where
      kept : f p.key ≡ true → choice (same q p.key) (Some p.value) (choice (f q) (value_in q ps) None) ≡ choice (f q) (value_in q (p ∷ ps)) None
      kept e = on_side (same q p.key)
          (λ g. ap (λ b. choice b (Some p.value) (choice (f q) (value_in q ps) None)) g ∙ sym (ap (λ b. choice b (value_in q (p ∷ ps)) None) (ap f (same-is q p.key g) ∙ e) ∙ value-here q p ps g))
          (λ g. ap (λ b. choice b (Some p.value) (choice (f q) (value_in q ps) None)) g ∙ ap (λ o. choice (f q) o None) (sym (value-past q p ps g)))

      gone : f p.key ≡ false → choice (f q) (value_in q ps) None ≡ choice (f q) (value_in q (p ∷ ps)) None
      gone e = on_side (same q p.key)
          (λ g. ap (λ b. choice b (value_in q ps) None) (ap f (same-is q p.key g) ∙ e) ∙ sym (ap (λ b. choice b (value_in q (p ∷ ps)) None) (ap f (same-is q p.key g) ∙ e)))
          (λ g. ap (λ o. choice (f q) o None) (sym (value-past q p ps g)))

  -- a list that has lost the keys that f turns down stands for the map that has
  pub map-filter : (ps zs : List Pair) → Distinct ps → Distinct zs → ((q : Literal) → value_in q zs ≡ choice (f q) (value_in q ps) None) → by_key zs ≡ kept_by f (by_key ps)
  map-filter ps zs d t h =
      let s = ascends-by_key ps d in
      same-map (by_key zs) (kept_by f (by_key ps)) (ascends-by_key zs t) (subst Ascends (sym (filter-keys (by_key ps))) (ascends-filter f (keys (by_key ps)) s)) (λ q.
      value-by_key zs t q ∙ h q ∙ ap (λ o. choice (f q) o None) (sym (value-by_key ps d q)) ∙ sym (value-filter q (by_key ps)))

-- one pair is taken out
pub map-out : (ps zs : List Pair) (r : Pair) → Distinct ps → IsPermutation ps (r ∷ zs) → by_key zs ≡ without r.key (by_key ps)
map-out ps zs r d h =
    let t = keys-tail r.key (keys zs) (distinct-permutes ps (r ∷ zs) h d) in
    map-filter (λ k. not (same k r.key)) ps zs d t.1 (λ q. on_side (same q r.key)
    (λ g. value-none q zs (member-same q r.key (keys zs) g ∙ t.0) ∙ sym (ap (λ b. choice (not b) (value_in q ps) None) g))
    (λ g. sym (value-past q r zs g) ∙ value-permutes ps (r ∷ zs) h d q ∙ sym (ap (λ b. choice (not b) (value_in q ps) None) g)))

-- what isn't there doesn't go
pub map-without : (ps : List Pair) (a : Literal) → Distinct ps → member a (keys ps) ≡ false → by_key ps ≡ without a (by_key ps)
map-without ps a d m = map-filter (λ k. not (same k a)) ps ps d d (λ q. on_side (same q a)
    (λ g. value-none q ps (member-same q a (keys ps) g ∙ m) ∙ sym (ap (λ b. choice (not b) (value_in q ps) None) g))
    (λ g. sym (ap (λ b. choice (not b) (value_in q ps) None) g)))
