-- Members stay sound through each step, and the set that they stand for.
use Rattle.std.proofs.Common.{◌≡◌, ◌≢◌, ℕ, zero, suc, ◌+◌, ◌<◌, ◌≤◌, ◌^◌, min, true, false, ◌||◌, List, [], ◌∷◌, ◌++◌, length, map, set, slice_get, All, IsPermutation, Option, Some, None, refl, sym, ap, subst, ◌∙◌, arith}
use Rattle.std.specs.Prelude.{option_map, IfSome, IfNone}
use Rattle.cow_buf.specs.Places.{place}
use Rattle.std.proofs.lemmas.List.{map-append, map-set, length_push, length-map}
use Rattle.std.proofs.lemmas.List.Elements.{All-push, All-drop}
use Rattle.std.proofs.lemmas.List.Sums.{fold-append}
use Rattle.std.proofs.lemmas.List.Sorted.{All-permutation, IsPermutation-map, length_permutation}
use Rattle.std.proofs.lemmas.Option.{slice_get-map, slice_get_within}
use Rattle.cow_model.specs.Members.{member, in_order, ascending}
use Rattle.cow_model.specs.Order.{same}
use Rattle.cow_model.specs.declared.plain.Literal.{Literal}
use Rattle.cow_table.specs.Pairs.{TableView, hash_at, Gains, Keeps}
use Rattle.cow_members.specs.Ascents.{Ascends}
use Rattle.cow_members.specs.Members.{MembersView, IsIndexed, AreSound, listed, set_of}
use Rattle.cow_model.proofs.Ascending.{ascending_cons, ascending_permutes}
use Rattle.cow_members.proofs.Ascents.{same-is, itself, differs, member-ascending, length-ascending, count_by-ascending, ascends-in_order, ascends-out, or-true}
use Rattle.cow_members.proofs.Lookups.{looks-pushed, looks-alike}

-- one more last
pub ascending-push : (l : List Literal) (a : Literal) → ascending (l ++ a ∷ []) ≡ in_order a (ascending l)
ascending-push l a = fold-append (λ sorted b. in_order b sorted) [] l (a ∷ [])

module _ {K : Type 0} (plain : K → Literal) where
  -- what stands at a position is a member
  pub member-at : (xs : List K) (a : Literal) (i : ℕ) → option_map plain (slice_get xs i) ≡ Some a → member a (map plain xs) ≡ true
  member-at [] a i e = cc
  member-at (x ∷ xs) a zero e = let z : plain x ≡ a = cc in ap (λ b. b || member a (map plain xs)) (ap (same a) z ∙ itself a)
  member-at (x ∷ xs) a (suc i) e = ap (λ b. same a (plain x) || b) (member-at xs a i e) ∙ or-true (same a (plain x))

  -- what stands nowhere is none
  pub member-nowhere : (xs : List K) (a : Literal) → ((i : ℕ) → option_map plain (slice_get xs i) ≢ Some a) → member a (map plain xs) ≡ false
  member-nowhere [] a d = refl
  member-nowhere (x ∷ xs) a d = ap (λ b. b || member a (map plain xs)) (differs a (plain x) (λ e. d 0 (ap (λ y. Some y) (sym e)))) ∙ member-nowhere xs a (λ i. d (suc i))

  -- where it stands in one list, it does in another with the same plain keys
  pub has-alike : (xs ys : List K) (a : Literal) (i : ℕ) → map plain ys ≡ map plain xs → option_map plain (slice_get xs i) ≡ Some a → option_map plain (slice_get ys i) ≡ Some a
  has-alike xs ys a i e h = sym (slice_get-map plain ys i) ∙ ap (λ l. slice_get l i) e ∙ slice_get-map plain xs i ∙ h

  -- where it stands is a position
  pub has-within : (xs : List K) (a : Literal) (i : ℕ) → option_map plain (slice_get xs i) ≡ Some a → i < length xs
  has-within xs a i h = omega (arith, length-map xs plain, slice_get_within (map plain xs) i a (slice_get-map plain xs i ∙ h))

  -- a key in the place of the same one
  pub replaced-same : (xs : List K) (i : ℕ) (y : K) (a : Literal) → option_map plain (slice_get xs i) ≡ Some a → plain y ≡ a → map plain (set xs i y) ≡ map plain xs
  replaced-same [] i y a e h = refl
  replaced-same (x ∷ xs) zero y a e h = let z : plain x ≡ a = cc in ap (λ b. b ∷ map plain xs) (h ∙ sym z)
  replaced-same (x ∷ xs) (suc i) y a e h = ap (λ l. plain x ∷ l) (replaced-same xs i y a e h)

  pub set-push : (xs : List K) (x : K) → ascending (map plain (xs ++ x ∷ [])) ≡ in_order (plain x) (ascending (map plain xs))
  set-push xs x = ap ascending (map-append plain xs (x ∷ [])) ∙ ascending-push (map plain xs) (plain x)

  -- an item is taken out
  pub set-out : (xs ys : List K) (x : K) → IsPermutation xs (x ∷ ys) → ascending (map plain xs) ≡ in_order (plain x) (ascending (map plain ys))
  set-out xs ys x h = sym (ascending_permutes (map plain xs) (map plain (x ∷ ys)) (IsPermutation-map plain xs (x ∷ ys) h)) ∙ ascending_cons (plain x) (map plain ys)

  module _ (hash_of : Literal → ℕ) (P : K → Type 0) where
    -- one more key stands last
    pub sound-push : (m : MembersView K) (k : K) (t : TableView) (h : ℕ) → AreSound plain hash_of P m → P k → h ≡ hash_of (plain k) → member (plain k) (listed plain m) ≡ false
        → length m.keys.items < m.keys.capacity → length m.keys.items < 2 ^ 31
        → Gains (record { hash = h; position = length m.keys.items }) m.table.pairs t.pairs → t.room + 1 ≡ m.table.room
        → AreSound plain hash_of P (record { keys = record m.keys { items = m.keys.items ++ k ∷ [] }; table = t })
    sound-push m k t h s p e lacks fits small gains room =
        let long = length_push m.keys.items k in
        record {
          settled = All-push P m.keys.items k s.settled p;
          indexed = record {
            lookup = looks-pushed (λ x. hash_of (plain x)) m.table.pairs t.pairs m.keys.items k h e s.indexed.lookup gains;
            count = omega (arith, long, gains.count, s.indexed.count);
            front = s.indexed.front;
            fits = omega (arith, long, fits);
            small = omega (arith, long, small);
          };
          apart = subst Ascends (sym (set-push m.keys.items k)) (ascends-in_order (plain k) (set_of plain m) s.apart (member-ascending (plain k) (listed plain m) ∙ lacks));
          roomy = omega (arith, long, room, s.roomy);
        }

    -- one key goes, and the others may change places
    pub sound-out : (m n : MembersView K) (k : K) → AreSound plain hash_of P m → IsPermutation m.keys.items (k ∷ n.keys.items) → IsIndexed (λ x. hash_of (plain x)) n
        → n.keys.capacity ≡ m.keys.capacity → n.table.room ≡ m.table.room + 1 → AreSound plain hash_of P n
    sound-out m n k s h indexed capacity room =
        let long = length_permutation m.keys.items (k ∷ n.keys.items) h in
        record {
          settled = All-drop P 1 (k ∷ n.keys.items) (All-permutation P m.keys.items (k ∷ n.keys.items) h s.settled);
          indexed = indexed;
          apart = (ascends-out (plain k) (set_of plain n) (subst Ascends (set-out m.keys.items n.keys.items k h) s.apart)).1;
          roomy = subst (λ c. min c (2 ^ 31) ≤ length n.keys.items + n.table.room) (sym capacity) (omega (arith, long, room, s.roomy));
        }

    -- the keys look alike, and the table has the same pairs
    pub sound-alike : (m n : MembersView K) → AreSound plain hash_of P m → All P n.keys.items → listed plain n ≡ listed plain m → Keeps m.table.pairs n.table.pairs → n.keys.front ≡ 0
        → length n.keys.items ≤ n.keys.capacity → min n.keys.capacity (2 ^ 31) ≤ length m.keys.items + n.table.room → AreSound plain hash_of P n
    sound-alike m n s settled same keeps front fits roomy =
        let long : length n.keys.items ≡ length m.keys.items = omega (arith, length-map n.keys.items plain, length-map m.keys.items plain, ap length same) in
        record {
          settled = settled;
          indexed = record {
            lookup = looks-alike plain hash_of n.table.pairs m.keys.items n.keys.items same (λ q. keeps.lookup q ∙ s.indexed.lookup q);
            count = omega (arith, long, keeps.count, s.indexed.count);
            front = front;
            fits = fits;
            small = omega (arith, long, s.indexed.small);
          };
          apart = subst (λ l. Ascends (ascending l)) (sym same) s.apart;
          roomy = omega (arith, long, roomy);
        }

-- what a table finds in the buffer of a row
module _ {K : Type 0} (plain : K → Literal) (hash_of : Literal → ℕ) (m : MembersView K) (buf : List (Option K))
    (indexed : IsIndexed (λ k. hash_of (plain k)) m) (lies : (i : ℕ) → i < length m.keys.items → place buf (m.keys.front + i) ≡ slice_get m.keys.items i) where
  lies-at : (i : ℕ) → i < length m.keys.items → place buf i ≡ slice_get m.keys.items i
  lies-at i l = let e : i ≡ m.keys.front + i = omega (arith, indexed.front) in ap (λ k. place buf k) e ∙ lies i l

  hashed-within : (p h : ℕ) → hash_at m.table.pairs p ≡ Some h → p < length m.keys.items
  hashed-within p h there = omega (
    arith,
    length-map m.keys.items (λ k. hash_of (plain k)),
    slice_get_within (map (λ k. hash_of (plain k)) m.keys.items) p h (slice_get-map (λ k. hash_of (plain k)) m.keys.items p ∙ sym (indexed.lookup p) ∙ there),
  )

  hash-of-key : (o : Option K) (a : Literal) → option_map plain o ≡ Some a → option_map (λ k. hash_of (plain k)) o ≡ Some (hash_of a)
  hash-of-key None a e = cc
  hash-of-key (Some x) a e = let z : plain x ≡ a = cc in ap (λ y. Some (hash_of y)) z

  pub found-member : (a : Literal) (p h : ℕ) → option_map plain (place buf p) ≡ Some a → hash_at m.table.pairs p ≡ Some h → member a (map plain m.keys.items) ≡ true
  found-member a p h found there = member-at plain m.keys.items a p (ap (λ o. option_map plain o) (sym (lies-at p (hashed-within p h there))) ∙ found)

  pub lacks-member : (a : Literal) → ((p h : ℕ) → hash_at m.table.pairs p ≡ Some h → option_map plain (place buf p) ≢ Some a) → member a (map plain m.keys.items) ≡ false
  lacks-member a lacks = member-nowhere plain m.keys.items a (λ i e.
      lacks i (hash_of a) (indexed.lookup i ∙ hash-of-key (slice_get m.keys.items i) a e) (ap (λ o. option_map plain o) (lies-at i (has-within plain m.keys.items a i e)) ∙ e))

pub some-both : {A : Type 0} {P Q : A → Type 0} {R : Type 0} (o : Option A) → ((x : A) → P x → Q x → R) → IfSome o P → IfSome o Q → IfSome o (λ x. R)
some-both None f p q = tt
some-both (Some x) f p q = f x p q

pub none-by : {A : Type 0} {P R : Type 0} (o : Option A) → (P → R) → IfNone o P → IfNone o R
none-by None f p = f p
none-by (Some x) f p = tt

-- how the set of members follows their list
pub ruleset set_steps = (length-ascending, count_by-ascending, member-ascending, ascending-push, length-map, map-append)
