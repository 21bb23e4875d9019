-- The tokens of a line, once its first token is cut off.
use Rattle.std.proofs.Common.{◌≡◌, ◌≢◌, ℕ, suc, ◌+◌, ◌<◌, ◌≤◌, Bool, true, false, not, cond, eqb, ltb, List, [], ◌∷◌, ◌++◌, length, take, drop, get_or, Some, None, refl, ap, sym, ◌∙◌, append_assoc, append-nil, add-one, arith}
use Rattle.std.specs.List.{position, position_or_len}
use Rattle.std.proofs.lemmas.List.Recursion.{is_position_or_len}
use Rattle.std.proofs.lemmas.List.{nil_from_length}
use Rattle.std.proofs.lemmas.List.Sums.{prefix_len-le-length}
use Rattle.cow_model.specs.declared.reading.Quoting.{Quoting}
use Rattle.cow_model.specs.declared.reading.Quoting.TheVariants.{Start, Plain}
use Rattle.cow_model.specs.Lexis.{Text, is_cut, quoting_after, with_token, tokens_from, tokens_of}
use Rattle.std.specs.Prelude.{Ok}
use Rattle.cow_model.specs.declared.plain.Literal.{Literal}
use Rattle.cow_model.specs.Atom.{atom_of}
use Rattle.cow_model.specs.Readers.{and_then}
use Rattle.cow_lexis.specs.Cuts.{behind_token, cut_len, first_token}
use Rattle.cow_lexis.specs.Reads.{Fails, atom_ahead}
use Rattle.cow_lexis.specs.declared.stop.Stop.{Stop}
use Rattle.cow_lexis.specs.declared.stop.Stop.TheVariants as stop

cut_here : (c : Bool) (q : Quoting) (token : Text) (b : ℕ) (bs : Text) (m : ℕ) → tokens_from q (token ++ b ∷ []) bs ≡ with_token ((token ++ b ∷ []) ++ take m bs) (tokens_from Start [] (drop (suc m) bs)) → cond c (with_token token (tokens_from Start [] bs)) (tokens_from q (token ++ b ∷ []) bs) ≡ with_token (token ++ take (cond c 0 (suc m)) (b ∷ bs)) (tokens_from Start [] (drop (suc (cond c 0 (suc m))) (b ∷ bs)))
cut_here true q token b bs m h = ap (λ t. with_token t (tokens_from Start [] bs)) (sym (append-nil token))
cut_here false q token b bs m h = h ∙ ap (λ t. with_token t (tokens_from Start [] (drop (suc m) bs))) (append_assoc token (b ∷ []) (take m bs))

-- tokens are what stands before the first cut, and then those behind it
tokens_from_cut : (at : Quoting) (token line : Text) → tokens_from at token line ≡ with_token (token ++ take (cut_len at line) line) (tokens_from Start [] (drop (suc (cut_len at line)) line))
tokens_from_cut at token [] = ap (λ t. with_token t []) (sym (append-nil token))
tokens_from_cut at token (b ∷ bs) = cut_here (is_cut at b) (quoting_after at b) token b bs (cut_len (quoting_after at b) bs) (tokens_from_cut (quoting_after at b) (token ++ b ∷ []) bs)

-- a line is its first token, unless that has no bytes, and those behind the first cut
tokens_of_cut : (line : Text) → tokens_of line ≡ with_token (take (cut_len Start line) line) (tokens_of (drop (cut_len Start line + 1) line))
unfolding tokens_of
tokens_of_cut line = tokens_from_cut Start [] line ∙ ap (λ n. with_token (take (cut_len Start line) line) (tokens_from Start [] (drop n line))) (sym (add-one (cut_len Start line)))

with_some : (b : ℕ) (token : Text) (tokens : List Text) → with_token (b ∷ token) tokens ≡ (b ∷ token) ∷ tokens
with_some b token tokens = refl

some_by : (t : Bool) (n b : ℕ) (bs : Text) (tokens : List Text) → t ≡ false → with_token (take (cond t 0 (suc n)) (b ∷ bs)) tokens ≡ take (cond t 0 (suc n)) (b ∷ bs) ∷ tokens
some_by t n b bs tokens is = rw is refl

not_byte : (b n : ℕ) → b ≢ n → eqb b n ≡ false
not_byte b n apart = grind arith

-- a line that begins with a token
pub some_token : (line : Text) → 0 < length line → get_or line 0 0 ≢ 32 → tokens_of line ≡ first_token line ∷ tokens_of (behind_token line)
some_token [] some apart = absurd (omega (arith, some))
some_token (b ∷ bs) some apart =
    tokens_of_cut (b ∷ bs) ∙ some_by (eqb b 32) (cut_len (quoting_after Start b) bs) b bs (tokens_of (behind_token (b ∷ bs))) (not_byte b 32 apart)

-- one that begins with a space
pub space_first : (line more : Text) → 0 < length line → get_or line 0 0 ≡ 32 → more ≡ drop 1 line → tokens_of more ≡ tokens_of line
space_first [] more some is behind = absurd (omega (arith, some))
space_first (b ∷ bs) more some is behind = ap tokens_of behind ∙ sym (ap (λ c. tokens_of (c ∷ bs)) is ∙ tokens_of_cut (32 ∷ bs))

-- and one without bytes
pub no_token : (line : Text) → length line ≡ 0 → tokens_of line ≡ []
unfolding tokens_of
no_token line none = ap tokens_of (nil_from_length line none)

-- ---- the first space

plain_step : (b : ℕ) (n : ℕ) → cond (eqb b 32) 0 (suc n) ≡ cond (eqb b 32) 0 (1 + n)
plain_step b n =
    let count : suc n ≡ 1 + n = omega arith in
    ap (cond (eqb b 32) 0) count

-- how many bytes stand before the first space
pub plain_len_is : (line : Text) → cut_len Plain line ≡ position_or_len (λ b. eqb b 32) line
plain_len_is line = is_position_or_len (cut_len Plain) (λ b. eqb b 32) refl (λ b bs. plain_step b (cut_len Plain bs)) line

found_is : (t : Bool) (n at : ℕ) → Some at ≡ cond t (Some n) None → at ≡ n
found_is true n at is = cc
found_is false n at is = cc

none_le : (n m : ℕ) → None ≡ cond (ltb n m) (Some n) None → m ≤ n
none_le n m is = grind (arith, is)

-- it stands at this place
pub plain_at : (line : Text) (at : ℕ) → Some at ≡ position (λ b. eqb b 32) line → at ≡ cut_len Plain line
plain_at line at is = found_is (ltb (position_or_len (λ b. eqb b 32) line) (length line)) (position_or_len (λ b. eqb b 32) line) at is ∙ sym (plain_len_is line)

-- there is none
pub plain_none : (line : Text) → None ≡ position (λ b. eqb b 32) line → length line ≡ cut_len Plain line
plain_none line is =
    let le = none_le (position_or_len (λ b. eqb b 32) line) (length line) is in
    omega (arith, le, plain_len_is line, prefix_len-le-length (λ b. not (eqb b 32)) line)

-- ---- the atom that the next token is

-- there is none
pub ahead_none : (tokens : List Text) (line : Text) → tokens ≡ tokens_of line → length line ≡ 0 → atom_ahead tokens ≡ Ok (None, tokens_of line)
ahead_none tokens line is none = ap atom_ahead (is ∙ no_token line none) ∙ ap (λ ts. Ok (None, ts)) (sym (no_token line none))

-- there is one
ahead_is : (tokens : List Text) (line : Text) → tokens ≡ tokens_of line → 0 < length line → get_or line 0 0 ≢ 32 → atom_ahead tokens ≡ and_then (atom_of (first_token line)) (λ atom. Ok (Some atom, tokens_of (behind_token line)))
ahead_is tokens line is some apart = ap atom_ahead (is ∙ some_token line some apart)

-- it is an atom
pub ahead_atom : (tokens : List Text) (line after : Text) (atom : Literal) → tokens ≡ tokens_of line → 0 < length line → get_or line 0 0 ≢ 32 → atom_of (first_token line) ≡ Ok atom → after ≡ behind_token line → atom_ahead tokens ≡ Ok (Some atom, tokens_of after)
ahead_atom tokens line after atom is some apart said behind =
    ahead_is tokens line is some apart ∙ (ap (λ r. and_then r (λ a. Ok (Some a, tokens_of (behind_token line)))) said ∙ ap (λ t. Ok (Some atom, tokens_of t)) (sym behind))

-- it is none, or memory ran out
pub ahead_fails : (tokens : List Text) (line : Text) (why : Stop) → tokens ≡ tokens_of line → 0 < length line → get_or line 0 0 ≢ 32 → Fails why (atom_of (first_token line)) → Fails why (atom_ahead tokens)
ahead_fails tokens line (stop.Flaw flaw) is some apart said =
    ahead_is tokens line is some apart ∙ ap (λ r. and_then r (λ a. Ok (Some a, tokens_of (behind_token line)))) said
ahead_fails tokens line stop.NoMemory is some apart said = tt
