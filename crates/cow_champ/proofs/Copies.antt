-- A copy of a node.
use Rattle.std.proofs.Common.{◌≡◌, ◌∙◌, ℕ, ◌<◌, ◌+◌, map, length, get_or, List, [], ◌∷◌, Bool, true, false, sym, ap, refl, subst, All, arith}
use Rattle.std.proofs.lemmas.List.{length-map, get_or-map}
use Rattle.std.proofs.lemmas.List.Elements.{All-map, All-from_get_or}
use Rattle.cow_model.specs.declared.plain.Literal.{Literal}
use Rattle.cow_model.specs.declared.value.Pair.{Pair}
use Rattle.cow_model.specs.Canon.{Tree, branch}
use Rattle.cow_champ.specs.Node.{value_of, slots_of, pair_of, BothSettled, IsWholeChild}
use Rattle.cow_champ.specs.Spending.{Own}
use Rattle.cow_cell.specs.Words.{unsure}
use Rattle.cow_model.specs.Slots.{slot_at, Fits}
use Rattle.cow_champ.specs.declared.rows.Entry.{Entry}
use Rattle.cow_cell.specs.declared.counted.Counted.{Counted}

abbrev same_own : Own → Own → Type 0
same_own a b = a ≡ b

map_after : {A B D : Type 0} (h : B → D) (f : A → B) (xs : List A) → map (λ x. h (f x)) xs ≡ map h (map f xs)
map_after h f [] = refl
map_after h f (x ∷ xs) = ap (λ ys. h (f x) ∷ ys) (map_after h f xs)

module _ {X Y C Z : Type 0} (key_plain : X → Literal) (value_plain : Y → Literal) (shape_of : C → Tree) (Whole : C → Type 0) (data_map node_map : ℕ) (es es' : List (Entry X Y)) (cs cs' : List (Counted C Z)) (e : map (pair_of key_plain value_plain) es' ≡ map (pair_of key_plain value_plain) es) (f : map (λ c. value_of c) cs' ≡ map (λ c. value_of c) cs) where
  shapes : map (λ c. shape_of (value_of c)) cs' ≡ map (λ c. shape_of (value_of c)) cs
  shapes = map_after shape_of (λ c. value_of c) cs' ∙ ap (map shape_of) f ∙ sym (map_after shape_of (λ c. value_of c) cs)

  pub copied_slots : branch (slots_of key_plain value_plain shape_of data_map node_map es' cs') ≡ branch (slots_of key_plain value_plain shape_of data_map node_map es cs)
  copied_slots = rw (e, shapes) refl

  pub copied_fits : Fits data_map node_map (length es) (length cs) → Fits data_map node_map (length es') (length cs')
  copied_fits h =
      let a : length es' ≡ length es = sym (length-map es' (pair_of key_plain value_plain)) ∙ ap length e ∙ length-map es (pair_of key_plain value_plain) in
      let b : length cs' ≡ length cs = sym (length-map cs' (λ c. value_of c)) ∙ ap length f ∙ length-map cs (λ c. value_of c) in
      rw (a, b) h

  pub copied_own : same_own (record { held = length es'; linked = length cs' }) (record { held = length es; linked = length cs })
  copied_own =
      let a : length es' ≡ length es = sym (length-map es' (pair_of key_plain value_plain)) ∙ ap length e ∙ length-map es (pair_of key_plain value_plain) in
      let b : length cs' ≡ length cs = sym (length-map cs' (λ c. value_of c)) ∙ ap length f ∙ length-map cs (λ c. value_of c) in
      rw (a, b) refl

  pub copied_children : All (IsWholeChild Whole) cs → All (λ c. c.alone ≡ false) cs' → All (IsWholeChild Whole) cs'
  copied_children h k = λ i d l.
      let b : length cs' ≡ length cs = sym (length-map cs' (λ c. value_of c)) ∙ ap length f ∙ length-map cs (λ c. value_of c) in
      let l' : i < length cs = omega (arith, l, b) in
      let v : Counted C Z → C = λ c. value_of c in
      let q : v (get_or cs' i d) ≡ v (get_or cs i d) = sym (get_or-map v cs' i d (v d) l) ∙ ap (λ ys. get_or ys i (v d)) f ∙ get_or-map v cs i d (v d) l' in
      (k i d l, subst Whole (sym q) (h i d l').1)

-- a handle after `settle`
pub settled_value : {X Y : Type 0} (a b : Counted X Y) → a ≡ unsure b → value_of a ≡ value_of b
settled_value a b e = ap (λ c. value_of c) e

pub settled_alone : {X Y : Type 0} (a b : Counted X Y) → a ≡ unsure b → a.alone ≡ false
settled_alone a b e = ap (λ c. c.alone) e
