-- What the lines of a text are once newlines or its first line are cut off.
use Rattle.std.proofs.Common.{◌≡◌, ℕ, ◌+◌, ◌-◌, ◌<◌, ◌≤◌, zero, suc, Bool, true, false, not, cond, eqb, List, [], ◌∷◌, length, refl, ap, sym, ◌∙◌, subst, get_or, drop, arith, inl, inr}
use Rattle.std.specs.List.{slice_split, onto_first, position_or_len, before_first, after_first}
use Rattle.std.proofs.lemmas.Bool.{cases_lt}
use Rattle.std.proofs.lemmas.List.{take_all, drop_all, nil_from_length}
use Rattle.std.proofs.lemmas.List.Splits.{slice_split_first, length-slice_split}
use Rattle.cow_model.specs.Lexis.{Text, without_empty_end, lines_of}
use Rattle.cow_lexis.specs.Cuts.{AreEmpty, with_empty}

abbrev is_newline : ℕ → Bool
is_newline b = eqb b 10

-- one element more before parts that are one part
one_part_more : (b : Bool) (x : ℕ) (xs : List ℕ) (parts : List (List ℕ)) (n : ℕ) → suc (length xs) ≤ cond (not b) (1 + n) 0 → (length xs ≤ n → parts ≡ xs ∷ []) → cond b ([] ∷ parts) (onto_first x parts) ≡ (x ∷ xs) ∷ []
one_part_more true x xs parts n h is = absurd (omega arith)
one_part_more false x xs parts n h is = ap (onto_first x) (is (omega arith))

-- a text in which nothing passes is one part
one_part : (p : ℕ → Bool) (xs : List ℕ) → length xs ≤ position_or_len p xs → slice_split p xs ≡ xs ∷ []
one_part p [] h = refl
one_part p (x ∷ xs) h = one_part_more (p x) x xs (slice_split p xs) (position_or_len p xs) h (one_part p xs)

-- where nothing passes, the first part is the whole text, and nothing stands behind it
no_cut : (p : ℕ → Bool) (xs : List ℕ) → length xs ≤ position_or_len p xs → (before_first p xs ≡ xs) × (after_first p xs ≡ [])
no_cut p xs h = (take_all (position_or_len p xs) xs h, drop_all (position_or_len p xs + 1) xs (omega arith))

-- a part before others is a line
line_before : (part : List ℕ) (parts : List (List ℕ)) → 0 < length parts → without_empty_end (part ∷ parts) ≡ part ∷ without_empty_end parts
line_before part [] h = absurd (omega arith)
line_before [] (next ∷ parts) h = refl
line_before (b ∷ bs) (next ∷ parts) h = refl

-- a part that isn't empty is a line
one_line : (text : List ℕ) → 0 < length text → without_empty_end (text ∷ []) ≡ text ∷ []
one_line [] h = absurd (omega arith)
one_line (b ∷ bs) h = refl

-- a text that isn't empty is its first line and the lines behind its first newline
pub lines_of_cut : (text : List ℕ) → 0 < length text → lines_of text ≡ before_first is_newline text ∷ lines_of (after_first is_newline text)
unfolding lines_of
lines_of_cut text some =
    elim (cases_lt (position_or_len is_newline text) (length text)) [
      | inl lt ↦
          let rest : 0 < length (slice_split is_newline (after_first is_newline text)) = omega (arith, length-slice_split is_newline (after_first is_newline text)) in
          ap without_empty_end (slice_split_first is_newline text 0 lt) ∙ line_before (before_first is_newline text) _ rest
      | inr none ↦
          let whole = no_cut is_newline text none in
          rw (whole.0, whole.1) (ap without_empty_end (one_part is_newline text none) ∙ one_line text some)
    ]

-- ---- empty lines

-- a newline at the front is an empty line
newline_first : (more : Text) → lines_of (10 ∷ more) ≡ [] ∷ lines_of more
unfolding lines_of
newline_first more = line_before [] (slice_split is_newline more) (omega (arith, length-slice_split is_newline more))

one_more_empty : (n : ℕ) (lines : List Text) → with_empty n ([] ∷ lines) ≡ with_empty (suc n) lines
one_more_empty zero lines = refl
one_more_empty (suc n) lines = ap (λ ls. [] ∷ ls) (one_more_empty n lines)

-- what stands behind newlines at the front of a text
pub record Skipped (text rest : Text) : Type 0 where
  pub shorter : length rest ≤ length text
  pub lines : lines_of text ≡ with_empty (length text - length rest) (lines_of rest)

-- nothing is skipped yet
pub skipped_none : (text : Text) → Skipped text text
skipped_none text =
    let none : length text - length text ≡ 0 = omega arith in
    record { shorter = omega arith; lines = rw none refl }

-- one more newline is skipped
pub skipped_more : (text more : Text) → Skipped text (10 ∷ more) → Skipped text more
skipped_more text more so_far =
    let one : length text - length more ≡ suc (length text - suc (length more)) = omega (arith, so_far.shorter) in
    record {
      shorter = omega (arith, so_far.shorter);
      lines = so_far.lines ∙ (ap (with_empty (length text - suc (length more))) (newline_first more) ∙ (one_more_empty (length text - suc (length more)) (lines_of more) ∙ ap (λ n. with_empty n (lines_of more)) (sym one)));
    }

-- the newline at the front of the rest is skipped
pub skipped_first : (text rest more : Text) → 0 < length rest → get_or rest 0 0 ≡ 10 → more ≡ drop 1 rest → Skipped text rest → Skipped text more
skipped_first text [] more some is behind so_far = absurd (omega (arith, some))
skipped_first text (b ∷ bs) more some is behind so_far =
    let same : 10 ∷ more ≡ b ∷ bs = cc in
    skipped_more text more (subst (Skipped text) (sym same) so_far)

-- eight newlines are skipped
pub skipped_eight : (text rest more : Text) → rest ≡ 10 ∷ 10 ∷ 10 ∷ 10 ∷ 10 ∷ 10 ∷ 10 ∷ 10 ∷ more → Skipped text rest → Skipped text more
skipped_eight text rest more is so_far =
    skipped_more text _ (skipped_more text _ (skipped_more text _ (skipped_more text _ (skipped_more text _ (skipped_more text _ (skipped_more text _ (skipped_more text _ (subst (Skipped text) is so_far))))))))

-- nothing stands behind them
pub skipped_all : (text rest : Text) (n : ℕ) → lines_of text ≡ with_empty n (lines_of rest) → length rest ≡ 0 → AreEmpty (lines_of text)
unfolding lines_of
skipped_all text rest n is none = (n, is ∙ ap (λ ls. with_empty n (lines_of ls)) (nil_from_length rest none))
