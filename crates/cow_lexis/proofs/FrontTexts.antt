-- The text at the front of a line, run by run, and the token that it stands in.
use Rattle.std.proofs.Common.{◌≡◌, ◌≢◌, ℕ, suc, ◌+◌, ◌<◌, ◌≤◌, Bool, true, false, cond, eqb, ◌||◌, [], ◌∷◌, ◌++◌, length, take, drop, Option, Some, None, refl, ap, sym, ◌∙◌, append_assoc, append-nil, subst, arith}
use Rattle.std.specs.List.{list_any}
use Rattle.std.specs.Option.{option_map}
use Rattle.std.specs.Prelude.{Err, Ok, nat_le}
use Rattle.std.proofs.lemmas.List.{length-take}
use Rattle.cow_model.specs.declared.fault.Flaw.TheVariants.{BadAtom, Limit}
use Rattle.cow_model.specs.declared.plain.Literal.TheVariants as literal
use Rattle.cow_model.specs.declared.reading.Quoting.{Quoting}
use Rattle.cow_model.specs.declared.reading.Quoting.TheVariants.{Plain, Quoted, Escaped}
use Rattle.cow_model.specs.Lexis.{Text, is_cut, quoting_after}
use Rattle.cow_model.specs.Atom.{atom_of, content_of, is_escapable, text_atom}
use Rattle.cow_lexis.specs.Cuts.{CutAtEscape, and_front, behind_token, cut_len, first_token, front_of}

-- ---- runs

started : (front : Option (Text × Text)) → front ≡ and_front [] front
started None = refl
started (Some f) = refl

and_and : (x y : Text) (front : Option (Text × Text)) → and_front x (and_front y front) ≡ and_front (x ++ y) front
and_and x y None = refl
and_and x y (Some f) = ap (λ t. Some (t, f.1)) (sym (append_assoc x y f.0))

plain_byte : (q s : Bool) (others : Option (Text × Text)) (at_quote at_slash : Option (Text × Text)) → (q || s) ≡ false → cond q at_quote (cond s at_slash others) ≡ others
plain_byte true s others at_quote at_slash is = cc
plain_byte false true others at_quote at_slash is = cc
plain_byte false false others at_quote at_slash is = refl

first_bare : (t more : Bool) → (t || more) ≡ false → t ≡ false
first_bare true more is = is
first_bare false more is = refl

others_bare : (t more : Bool) → (t || more) ≡ false → more ≡ false
others_bare true more is = cc
others_bare false more is = is

-- a run without `"` and `\` before others
front_run : (run more : Text) → list_any is_escapable run ≡ false → front_of false (run ++ more) ≡ and_front run (front_of false more)
front_run [] more bare = started (front_of false more)
front_run (b ∷ bs) more bare =
    let here = first_bare (is_escapable b) (list_any is_escapable bs) bare in
    let behind = front_run bs more (others_bare (is_escapable b) (list_any is_escapable bs) bare) in
    plain_byte (eqb b 34) (eqb b 92) _ _ _ here ∙ (ap (and_front (b ∷ [])) behind ∙ and_and (b ∷ []) bs (front_of false more))

-- a text without them has no closing quote
pub front_bare : (text : Text) → list_any is_escapable text ≡ false → front_of false text ≡ None
front_bare [] bare = refl
front_bare (b ∷ bs) bare =
    let here = first_bare (is_escapable b) (list_any is_escapable bs) bare in
    let behind = front_bare bs (others_bare (is_escapable b) (list_any is_escapable bs) bare) in
    plain_byte (eqb b 34) (eqb b 92) _ _ _ here ∙ ap (and_front (b ∷ [])) behind

-- a text up to its first `"` or `\`
run_read : (text run : Text) (byte : ℕ) (after : Text) → CutAtEscape text run byte after → front_of false text ≡ and_front run (front_of false (byte ∷ after))
run_read text run byte after cut = ap (front_of false) cut.parts ∙ front_run run (byte ∷ after) cut.bare

-- it is the closing quote
pub front_closed : (text run : Text) (byte : ℕ) (after : Text) → CutAtEscape text run byte after → byte ≡ 34 → front_of false text ≡ Some (run, after)
front_closed text run byte after cut is =
    run_read text run byte after cut ∙ (ap (λ b. and_front run (front_of false (b ∷ after))) is ∙ ap (λ t. Some (t, after)) (append-nil run))

not_byte : (b n : ℕ) → b ≢ n → eqb b n ≡ false
not_byte b n apart = grind arith

slash : (q s : Bool) → (q || s) ≡ true → q ≡ false → s ≡ true
slash true s is other = cc
slash false s is other = is

-- it is a `\`
pub front_slash : (text run : Text) (byte : ℕ) (after : Text) → CutAtEscape text run byte after → byte ≢ 34 → front_of false text ≡ and_front run (front_of true after)
front_slash text run byte after cut other =
    let no_quote = not_byte byte 34 other in
    run_read text run byte after cut ∙ ap (and_front run) (rw (no_quote, slash (eqb byte 34) (eqb byte 92) cut.escape no_quote) refl)

-- ---- behind a `\`

-- what is said of a text, by its content so far and what stands behind a `\`
pub record EscapedSoFar (said : Option (Text × Text)) (content rest : Text) : Type 0 where
  pub front : said ≡ and_front content (front_of true rest)

-- nothing is read yet
pub escaped_start : (content whole : Text) → EscapedSoFar (and_front content (front_of true whole)) content whole
escaped_start content whole = record { front = refl }

-- a byte that may stand there, and the run behind it
escaped_run : (said : Option (Text × Text)) (content rest : Text) (byte : ℕ) (more run : Text) (front : Option (Text × Text)) → EscapedSoFar said content rest → front_of true rest ≡ and_front (byte ∷ []) (front_of false more) → front_of false more ≡ and_front run front → said ≡ and_front ((content ++ byte ∷ []) ++ run) front
escaped_run said content rest byte more run front so_far is next =
    so_far.front ∙ (ap (and_front content) is ∙ (and_and content (byte ∷ []) (front_of false more) ∙ (ap (and_front (content ++ byte ∷ [])) next ∙ and_and (content ++ byte ∷ []) run front)))

-- up to the next `\`
pub escaped_more : (said : Option (Text × Text)) (content rest : Text) (byte : ℕ) (more run : Text) (next : ℕ) (after : Text) → EscapedSoFar said content rest → front_of true rest ≡ and_front (byte ∷ []) (front_of false more) → CutAtEscape more run next after → next ≢ 34 → EscapedSoFar said ((content ++ byte ∷ []) ++ run) after
escaped_more said content rest byte more run next after so_far is cut other = record {
  front = escaped_run said content rest byte more run (front_of true after) so_far is (front_slash more run next after cut other);
}

-- up to the closing quote
pub escaped_closed : (said : Option (Text × Text)) (content rest : Text) (byte : ℕ) (more run : Text) (next : ℕ) (after : Text) → EscapedSoFar said content rest → front_of true rest ≡ and_front (byte ∷ []) (front_of false more) → CutAtEscape more run next after → next ≡ 34 → said ≡ Some ((content ++ byte ∷ []) ++ run, after)
escaped_closed said content rest byte more run next after so_far is cut quote =
    escaped_run said content rest byte more run (Some ([], after)) so_far is (front_closed more run next after cut quote ∙ ap (λ t. Some (t, after)) (sym (append-nil run))) ∙ ap (λ t. Some (t, after)) (append-nil ((content ++ byte ∷ []) ++ run))

-- up to the end
pub escaped_open : (said : Option (Text × Text)) (content rest : Text) (byte : ℕ) (more : Text) → EscapedSoFar said content rest → front_of true rest ≡ and_front (byte ∷ []) (front_of false more) → list_any is_escapable more ≡ false → said ≡ None
escaped_open said content rest byte more so_far is bare = so_far.front ∙ ap (and_front content) (is ∙ ap (and_front (byte ∷ [])) (front_bare more bare))

-- no byte that may stand there
pub escaped_bad : (said : Option (Text × Text)) (content rest : Text) → EscapedSoFar said content rest → front_of true rest ≡ None → said ≡ None
escaped_bad said content rest so_far is = so_far.front ∙ ap (and_front content) is

-- a text without a closing quote, whatever stands before it
pub none_before : (content : Text) (front : Option (Text × Text)) → and_front content front ≡ None → front ≡ None
none_before content None is = refl
none_before content (Some f) is = cc

-- ---- the token

-- where the bytes of a text stand, right behind a `\` or not
abbrev quoting : Bool → Quoting
quoting true = Escaped
quoting false = Quoted

-- what the token of a text is, for what stands at its front
abbrev pub TokenOf : Bool → Text → Option (Text × Text) → Type 0
TokenOf e text None = content_of e (take (cut_len (quoting e) text) text) ≡ None
TokenOf e text (Some front) =
    (content_of e (take (cut_len (quoting e) text) text) ≡ cond (eqb (cut_len Plain front.1) 0) (Some front.0) None)
    × (drop (cut_len (quoting e) text + 1) text ≡ drop (cut_len Plain front.1 + 1) front.1)

-- a content before what is known of it by a test
map_cond : (b : ℕ) (t : Bool) (content : Text) → option_map (λ more. b ∷ more) (cond t (Some content) None) ≡ cond t (Some (b ∷ content)) None
map_cond b true content = refl
map_cond b false content = refl

drop_more : (b n : ℕ) (bs : Text) → drop (suc n + 1) (b ∷ bs) ≡ drop (n + 1) bs
drop_more b n bs =
    let count : suc n + 1 ≡ suc (n + 1) = omega arith in
    ap (λ k. drop k (b ∷ bs)) count

-- a byte behind a `\`, by whether it may stand there
escaped_token : (t : Bool) (b : ℕ) (bs : Text) (front : Option (Text × Text)) → is_escapable b ≡ t → TokenOf false bs front → TokenOf true (b ∷ bs) (cond t (and_front (b ∷ []) front) None)
escaped_token false b bs front is said = ap (λ t. cond t (option_map (λ more. b ∷ more) (content_of false (take (cut_len Quoted bs) bs))) None) is
escaped_token true b bs None is said =
    ap (λ t. cond t (option_map (λ more. b ∷ more) (content_of false (take (cut_len Quoted bs) bs))) None) is ∙ ap (option_map (λ more. b ∷ more)) said
escaped_token true b bs (Some front) is said = (
  ap (λ t. cond t (option_map (λ more. b ∷ more) (content_of false (take (cut_len Quoted bs) bs))) None) is ∙ (ap (option_map (λ more. b ∷ more)) said.0 ∙ map_cond b (eqb (cut_len Plain front.1) 0) front.0),
  drop_more b (cut_len Quoted bs) bs ∙ said.1,
)

-- the content of what is left of a token, of which this byte in quotes is the first, by whether it is a `"` or a `\`
abbrev content_by : Bool → Bool → ℕ → Text → Option Text
content_by q s b word =
    cond q (cond (eqb (length word) 0) (Some []) None) (cond s (content_of true word) (option_map (λ more. b ∷ more) (content_of false word)))

-- how many bytes of it stand behind that byte
abbrev cut_by : Bool → Bool → Text → ℕ
cut_by q s bs = cut_len (cond q Plain (cond s Escaped Quoted)) bs

abbrev TokenBy : Bool → Bool → ℕ → Text → Option (Text × Text) → Type 0
TokenBy q s b bs None = content_by q s b (take (cut_by q s bs) bs) ≡ None
TokenBy q s b bs (Some front) =
    (content_by q s b (take (cut_by q s bs) bs) ≡ cond (eqb (cut_len Plain front.1) 0) (Some front.0) None)
    × (drop (suc (cut_by q s bs) + 1) (b ∷ bs) ≡ drop (cut_len Plain front.1 + 1) front.1)

cut_more : (t : Bool) (n m : ℕ) → n ≤ m → cond t 0 (suc n) ≤ suc m
cut_more true n m le = omega arith
cut_more false n m le = omega (arith, le)

cut_len_le : (at : Quoting) (bs : Text) → cut_len at bs ≤ length bs
cut_len_le at [] = omega arith
cut_len_le at (b ∷ bs) = cut_more (is_cut at b) (cut_len (quoting_after at b) bs) (length bs) (cut_len_le (quoting_after at b) bs)

quoted_token : (q s : Bool) (b : ℕ) (bs : Text) (quoted escaped : Option (Text × Text)) → TokenOf false bs quoted → TokenOf true bs escaped → TokenBy q s b bs (cond q (Some ([], bs)) (cond s escaped (and_front (b ∷ []) quoted)))
quoted_token true s b bs quoted escaped said after =
    let long : length (take (cut_len Plain bs) bs) ≡ cut_len Plain bs = omega (arith, length-take (cut_len Plain bs) bs, cut_len_le Plain bs) in
    (ap (λ n. cond (eqb n 0) (Some []) None) long, drop_more b (cut_len Plain bs) bs)
quoted_token false true b bs quoted None said after = after
quoted_token false true b bs quoted (Some front) said after = (after.0, drop_more b (cut_len Escaped bs) bs ∙ after.1)
quoted_token false false b bs None escaped said after = ap (option_map (λ more. b ∷ more)) said
quoted_token false false b bs (Some front) escaped said after = (
  ap (option_map (λ more. b ∷ more)) said.0 ∙ map_cond b (eqb (cut_len Plain front.1) 0) front.0,
  drop_more b (cut_len Quoted bs) bs ∙ said.1,
)

-- a token that begins with a `"` is a text where its front has a closing quote and the token ends there
pub front_token : (e : Bool) (text : Text) → TokenOf e text (front_of e text)
front_token true [] = refl
front_token false [] = refl
front_token true (b ∷ bs) = escaped_token (is_escapable b) b bs (front_of false bs) refl (front_token false bs)
front_token false (b ∷ bs) = quoted_token (eqb b 34) (eqb b 92) b bs (front_of false bs) (front_of true bs) (front_token false bs) (front_token true bs)

-- ---- the atom

-- there is no text at the front
pub no_text : (text : Text) → front_of false text ≡ None → atom_of (first_token (34 ∷ text)) ≡ Err BadAtom
unfolding atom_of
no_text text is =
    let said : TokenOf false text None = subst (TokenOf false text) is (front_token false text) in
    ap text_atom said

-- there is one, but the token goes on behind its closing quote
pub text_goes_on : (text content rest : Text) → front_of false text ≡ Some (content, rest) → 0 < cut_len Plain rest → atom_of (first_token (34 ∷ text)) ≡ Err BadAtom
unfolding atom_of
text_goes_on text content rest is more =
    let said : TokenOf false text (Some (content, rest)) = subst (TokenOf false text) is (front_token false text) in
    let behind : eqb (cut_len Plain rest) 0 ≡ false = grind arith in
    ap text_atom (said.0 ∙ ap (λ t. cond t (Some content) None) behind)

-- there is one, and the token ends
pub text_ends : (text content rest : Text) → front_of false text ≡ Some (content, rest) → cut_len Plain rest ≡ 0 → (atom_of (first_token (34 ∷ text)) ≡ text_atom (Some content)) × (behind_token (34 ∷ text) ≡ drop 1 rest)
unfolding atom_of
text_ends text content rest is none =
    let said : TokenOf false text (Some (content, rest)) = subst (TokenOf false text) is (front_token false text) in
    (ap text_atom (said.0 ∙ ap (λ n. cond (eqb n 0) (Some content) None) none), drop_more 34 (cut_len Quoted text) text ∙ (said.1 ∙ ap (λ n. drop (n + 1) rest) none))

too_long : (n : ℕ) → 255 < n → nat_le n 255 ≡ false
too_long n lt = grind arith

fits : (n : ℕ) → n ≤ 255 → nat_le n 255 ≡ true
fits n le = grind arith

-- a content of more bytes than a text may have
pub long_text : (content : Text) → 255 < length content → text_atom (Some content) ≡ Err (Limit (length content) 255)
long_text content lt = rw (too_long (length content) lt) refl

-- and one of no more
pub short_text : (content : Text) → length content ≤ 255 → text_atom (Some content) ≡ Ok (literal.Text content)
short_text content le = rw (fits (length content) le) refl
