-- The integer that the first token of a line is.
use Rattle.std.proofs.Common.{◌≡◌, ◌≢◌, ℕ, ℤ, zero, suc, ◌+◌, ◌<◌, ◌≤◌, Bool, true, false, not, cond, eqb, [], ◌∷◌, length, take, drop, get_or, Some, None, refl, ap, sym, subst, ◌∙◌, arith, inl, inr}
use Rattle.std.proofs.lemmas.Bool.{cases_Bool, cases_lt, eqb-true}
use Rattle.std.proofs.lemmas.List.{length-take, drop-drop}
use Rattle.std.proofs.lemmas.List.Sums.{prefix_len-le-length}
use Rattle.cow_model.specs.declared.reading.Quoting.TheVariants.{Start, Plain, Quoted}
use Rattle.std.specs.Prelude.{Ok, Err}
use Rattle.cow_model.specs.declared.fault.Flaw.TheVariants.{BadAtom}
use Rattle.cow_model.specs.declared.plain.Literal.TheVariants as literal
use Rattle.cow_model.specs.Atom.{atom_of, int_atom, text_atom, content_of}
use Rattle.cow_model.specs.Integer.{integer_of, is_digit}
use Rattle.cow_model.specs.Lexis.{Text, quoting_after}
use Rattle.cow_lexis.specs.Cuts.{behind_token, cut_len, digits_len, first_token, integer_len}
use Rattle.cow_lexis.proofs.Digits.{digits_len-take}
use Rattle.cow_lexis.proofs.FrontIntegers.{FrontIs, front_count, front_none, front_value, integer_short}
use Rattle.cow_lexis.proofs.TokenTexts.{plain_len_is}

-- ---- where the token ends

digit_no_space : (b : ℕ) → is_digit b ≡ true → eqb b 32 ≡ false
digit_no_space b is = grind arith

digits_more : (t s : Bool) (b : ℕ) (bs : Text) → is_digit b ≡ t → (is_digit b ≡ true → eqb b 32 ≡ false) → cut_len Plain bs ≡ digits_len bs + cut_len Plain (drop (digits_len bs) bs) → cut_len Plain (b ∷ bs) ≡ cond t (suc (digits_len bs)) 0 + cut_len Plain (drop (cond t (suc (digits_len bs)) 0) (b ∷ bs))
digits_more true s b bs is apart more =
    ap (λ u. cond u 0 (suc (cut_len Plain bs))) (apart is) ∙ omega (arith, more)
digits_more false s b bs is apart more = omega arith

-- behind its digits, at the first space
digits_cut : (line : Text) → cut_len Plain line ≡ digits_len line + cut_len Plain (drop (digits_len line) line)
digits_cut [] = refl
digits_cut (b ∷ bs) = digits_more (is_digit b) (eqb b 32) b bs refl (digit_no_space b) (digits_cut bs)

minus_cut : (m : Bool) (b : ℕ) (bs : Text) → eqb b 45 ≡ m → cut_len Plain (b ∷ bs) ≡ cond m (suc (digits_len bs)) (digits_len (b ∷ bs)) + cut_len Plain (drop (cond m (suc (digits_len bs)) (digits_len (b ∷ bs))) (b ∷ bs))
minus_cut true b bs is =
    let no_space : eqb b 32 ≡ false = grind arith in
    ap (λ u. cond u 0 (suc (cut_len Plain bs))) no_space ∙ omega (arith, digits_cut bs)
minus_cut false b bs is = digits_cut (b ∷ bs)

-- behind the bytes that may be those of an integer
integer_cut : (line : Text) → cut_len Plain line ≡ integer_len line + cut_len Plain (drop (integer_len line) line)
integer_cut [] = refl
integer_cut (b ∷ bs) = minus_cut (eqb b 45) b bs refl

-- where no quote stands at the front
plain_start : (line : Text) → eqb (get_or line 0 0) 34 ≡ false → cut_len Start line ≡ cut_len Plain line
plain_start [] h = refl
plain_start (b ∷ bs) h = ap (λ t. cond (eqb b 32) 0 (suc (cut_len (cond t Quoted Plain) bs))) h

-- ---- the integer

take_more : (m : Bool) (b : ℕ) (bs : Text) (k : ℕ) → cond m (suc (digits_len bs)) (digits_len (b ∷ bs)) ≤ suc k → cond m (suc (digits_len (take k bs))) (digits_len (b ∷ take k bs)) ≡ cond m (suc (digits_len bs)) (digits_len (b ∷ bs))
take_more true b bs k le = omega (arith, le, digits_len-take k bs)
take_more false b bs k le = omega (arith, le, digits_len-take (suc k) (b ∷ bs))

-- bytes behind those that may be an integer's don't change how many these are
integer_len-take : (k : ℕ) (line : Text) → integer_len line ≤ k → integer_len (take k line) ≡ integer_len line
integer_len-take zero [] le = refl
integer_len-take zero (b ∷ bs) le = omega (arith, le)
integer_len-take (suc k) [] le = refl
integer_len-take (suc k) (b ∷ bs) le = take_more (eqb b 45) b bs k le

-- the token of a line that begins with a quote is no integer
quote_first : (line : Text) → eqb (get_or line 0 0) 34 ≡ true → integer_of (first_token line) ≡ None
quote_first [] is = refl
quote_first (b ∷ bs) is =
    let b_is : b ≡ 34 = eqb-true b 34 is in
    ap (λ c. integer_of (first_token (c ∷ bs))) b_is

plain_le : (line : Text) → cut_len Plain line ≤ length line
plain_le line = omega (arith, plain_len_is line, prefix_len-le-length (λ b. not (eqb b 32)) line)

no_quote : (line : Text) (x : ℤ) → eqb (get_or line 0 0) 34 ≡ true → integer_of (take (integer_len line) line) ≡ Some x → ⊥
no_quote [] x quote is = cc
no_quote (b ∷ bs) x quote is =
    let none : integer_of (take (integer_len (34 ∷ bs)) (34 ∷ bs)) ≡ None = refl in
    let here : integer_of (take (integer_len (b ∷ bs)) (b ∷ bs)) ≡ integer_of (take (integer_len (34 ∷ bs)) (34 ∷ bs)) = ap (λ c. integer_of (take (integer_len (c ∷ bs)) (c ∷ bs))) (eqb-true b 34 quote) in
    cc

integer_cut_start : (line : Text) → eqb (get_or line 0 0) 34 ≡ false → cut_len Start line ≡ integer_len line + cut_len Plain (drop (integer_len line) line)
integer_cut_start line other = plain_start line other ∙ integer_cut line

-- the token goes on behind the bytes that may be an integer's
pub int_goes_on : (line : Text) → 0 < cut_len Plain (drop (integer_len line) line) → integer_of (first_token line) ≡ None
int_goes_on line more = elim (cases_Bool (eqb (get_or line 0 0) 34)) [
  | inl quote ↦ quote_first line quote
  | inr other ↦
      let cut = integer_cut_start line other in
      let same = integer_len-take (cut_len Start line) line (omega (arith, cut)) in
      integer_short (first_token line) (omega (arith, cut, same, more, length-take (cut_len Start line) line, plain_le line, plain_start line other))
]

-- or it ends there
pub int_ends : (line : Text) (x : ℤ) → integer_of (take (integer_len line) line) ≡ Some x → cut_len Plain (drop (integer_len line) line) ≡ 0 → (integer_of (first_token line) ≡ Some x) × (behind_token line ≡ drop 1 (drop (integer_len line) line))
int_ends line x is none = elim (cases_Bool (eqb (get_or line 0 0) 34)) [
  | inl quote ↦ absurd (no_quote line x quote is)
  | inr other ↦
      let cut : cut_len Start line ≡ integer_len line = omega (arith, integer_cut_start line other, none) in
      (ap (λ n. integer_of (take n line)) cut ∙ is, ap (λ n. drop (n + 1) line) cut ∙ sym (drop-drop 1 (integer_len line) line))
]

-- no integer stands at the front
pub int_none : (line : Text) → integer_of (take (integer_len line) line) ≡ None → integer_of (first_token line) ≡ None
int_none line is = elim (cases_lt 0 (cut_len Plain (drop (integer_len line) line))) [
  | inl more ↦ int_goes_on line more
  | inr none ↦ elim (cases_Bool (eqb (get_or line 0 0) 34)) [
    | inl quote ↦ quote_first line quote
    | inr other ↦
        let cut : cut_len Start line ≡ integer_len line = omega (arith, integer_cut_start line other, none) in
        ap (λ n. integer_of (take n line)) cut ∙ is
  ]
]

-- ---- by what is read of the line

-- no integer stands at its front
pub front_no_int : (line : Text) → FrontIs line None → integer_of (first_token line) ≡ None
front_no_int line is = int_none line (front_none line is)

-- one does, but the token goes on behind it
pub front_int_goes_on : (line : Text) (x : ℤ) (len : ℕ) (rest : Text) → FrontIs line (Some (x, len)) → rest ≡ drop len line → 0 < cut_len Plain rest → integer_of (first_token line) ≡ None
front_int_goes_on line x len rest is behind more =
    int_goes_on line (subst (λ r. 0 < cut_len Plain r) (behind ∙ ap (λ n. drop n line) (front_count line x len is)) more)

-- one does, and the token ends
pub front_int_ends : (line : Text) (x : ℤ) (len : ℕ) (rest : Text) → FrontIs line (Some (x, len)) → rest ≡ drop len line → cut_len Plain rest ≡ 0 → (integer_of (first_token line) ≡ Some x) × (drop 1 rest ≡ behind_token line)
front_int_ends line x len rest is behind none =
    let place : rest ≡ drop (integer_len line) line = behind ∙ ap (λ n. drop n line) (front_count line x len is) in
    let ends = int_ends line x (front_value line x len is) (subst (λ r. cut_len Plain r ≡ 0) place none) in
    (ends.0, ap (drop 1) place ∙ sym ends.1)

-- ---- the atom

-- a token that begins with no quote is an integer or none
atom_by : (b : ℕ) (bs : Text) → eqb b 34 ≡ false → atom_of (b ∷ bs) ≡ int_atom (integer_of (b ∷ bs))
unfolding atom_of
atom_by b bs other = ap (λ t. cond t (text_atom (content_of false bs)) (int_atom (integer_of (b ∷ bs)))) other

atom_none : atom_of [] ≡ int_atom (integer_of [])
unfolding atom_of
atom_none = refl

token_atom : (t : Bool) (n b : ℕ) (bs : Text) → eqb b 34 ≡ false → atom_of (take (cond t 0 (suc n)) (b ∷ bs)) ≡ int_atom (integer_of (take (cond t 0 (suc n)) (b ∷ bs)))
token_atom true n b bs other = atom_none
token_atom false n b bs other = atom_by b (take n bs) other

int_atom_is : (line : Text) → eqb (get_or line 0 0) 34 ≡ false → atom_of (first_token line) ≡ int_atom (integer_of (first_token line))
int_atom_is [] other = atom_none
int_atom_is (b ∷ bs) other = token_atom (eqb b 32) (cut_len (quoting_after Start b) bs) b bs other

no_quote_first : (line : Text) → (0 < length line → get_or line 0 0 ≢ 34) → eqb (get_or line 0 0) 34 ≡ false
no_quote_first [] other = refl
no_quote_first (b ∷ bs) other =
    let apart : b ≢ 34 = other (omega arith) in
    grind arith

-- the first token is this integer
pub int_token : (line : Text) (x : ℤ) → (0 < length line → get_or line 0 0 ≢ 34) → integer_of (first_token line) ≡ Some x → atom_of (first_token line) ≡ Ok (literal.Int x)
int_token line x other is = int_atom_is line (no_quote_first line other) ∙ ap int_atom is

-- or neither an integer nor a text
pub other_token : (line : Text) → (0 < length line → get_or line 0 0 ≢ 34) → integer_of (first_token line) ≡ None → atom_of (first_token line) ≡ Err BadAtom
other_token line other is = int_atom_is line (no_quote_first line other) ∙ ap int_atom is
