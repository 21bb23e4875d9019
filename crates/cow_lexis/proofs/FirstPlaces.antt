-- The first place of a byte.
use Rattle.std.proofs.Common.{◌≡◌, ℕ, zero, suc, ◌+◌, ◌<◌, ◌≤◌, Bool, true, false, cond, eqb, ltb, List, [], ◌∷◌, ◌++◌, length, take, drop, get_or, Option, Some, None, refl, ap, sym, ◌∙◌, add-one, arith}
use Rattle.std.specs.List.{list_any, position}
use Rattle.std.proofs.Math.Seq.{split_at, take-length}
use Rattle.std.proofs.lemmas.List.Sums.{position_or_len_is}
use Rattle.memchr.specs.Find.{IsFirstByte, is_byte, is_byte2}
use Rattle.cow_model.specs.Atom.{is_escapable}
use Rattle.cow_lexis.specs.Cuts.{CutAtEscape}

not_true : (t : Bool) → ¬ (t ≡ true) → t ≡ false
not_true true h = absurd (h refl)
not_true false h = refl

no_place : (n m : ℕ) → n ≡ m → None ≡ cond (ltb n m) (Some n) None
no_place n m is = grind arith

a_place : (n m k : ℕ) → n ≡ k → k < m → Some k ≡ cond (ltb n m) (Some n) None
a_place n m k is lt = grind arith

-- what a search answers is the first place
pub position_is : (b : ℕ) (text : List ℕ) (r : Option ℕ) → IsFirstByte (is_byte b) text r → r ≡ position (λ x. eqb x b) text
position_is b text None h =
    let n = position_or_len_is (λ x. eqb x b) text (length text) 0 (omega arith) (λ k lt. not_true _ (h k (omega arith) lt)) (λ lt. absurd (omega (arith, lt))) in
    no_place _ (length text) n
position_is b text (Some k) h =
    let n = position_or_len_is (λ x. eqb x b) text k 0 (omega (arith, h.0.high)) (λ j lt. not_true _ (h.0.before j (omega arith) lt)) (λ _. h.1) in
    a_place _ (length text) k n h.0.high

-- a front in which no byte passes
none_before : (p : ℕ → Bool) (text : List ℕ) (k : ℕ) → k ≤ length text → ((j : ℕ) → j < k → p (get_or text j 0) ≡ false) → list_any p (take k text) ≡ false
none_before p text zero le none = refl
none_before p [] (suc k) le none = absurd (omega (arith, le))
none_before p (b ∷ bs) (suc k) le none =
    let here : p b ≡ false = none 0 (omega arith) in
    let more = none_before p bs k (omega (arith, le)) (λ j lt. none (suc j) (omega (arith, lt))) in
    rw (here, more) refl

-- a text is cut at the place that a search for `"` and `\` answers
pub cut_at_escape : (text : List ℕ) (k : ℕ) (after : List ℕ) → IsFirstByte (is_byte2 34 92) text (Some k) → after ≡ drop (k + 1) text → CutAtEscape text (take k text) (get_or text k 0) after
cut_at_escape text k after h is = record {
  parts = split_at text k 0 h.0.high ∙ ap (λ xs. take k text ++ get_or text k 0 ∷ xs) (ap (λ n. drop n text) (sym (add-one k)) ∙ sym is);
  bare = none_before is_escapable text k (omega (arith, h.0.high)) (λ j lt. not_true _ (h.0.before j (omega arith) lt));
  escape = h.1;
}

-- and has none where the search answers no place
pub no_escape : (text : List ℕ) → IsFirstByte (is_byte2 34 92) text None → list_any is_escapable text ≡ false
no_escape text h =
    let bare = none_before is_escapable text (length text) (omega arith) (λ j lt. not_true _ (h j (omega arith) lt)) in
    ap (list_any is_escapable) (sym (take-length text)) ∙ bare

-- a text that begins with a byte
pub begins_with : (text more : List ℕ) (b : ℕ) → 0 < length text → get_or text 0 0 ≡ b → more ≡ drop 1 text → text ≡ b ∷ more
begins_with [] more b some is behind = absurd (omega (arith, some))
begins_with (c ∷ cs) more b some is behind = cc
