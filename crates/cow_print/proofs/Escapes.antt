-- The bytes of a text as they are printed, run by run.
use Rattle.std.proofs.Common.{◌≡◌, ℕ, Bool, true, false, cond, ◌||◌, [], ◌∷◌, ◌++◌, refl, ap, sym, ◌∙◌, append_assoc}
use Rattle.std.specs.List.{flat_map, list_any}
use Rattle.cow_model.specs.Atom.{is_escapable}
use Rattle.cow_model.specs.Lexis.{Text}
use Rattle.cow_model.specs.Printed.{escaped}
use Rattle.cow_lexis.specs.Cuts.{CutAtEscape}

bare_more : (t more : Bool) (b : ℕ) (bs rest : Text) → (t || more) ≡ false → (more ≡ false → bs ≡ rest) → cond t (92 ∷ b ∷ []) (b ∷ []) ++ bs ≡ b ∷ rest
bare_more true more b bs rest is same = cc
bare_more false more b bs rest is same = ap (λ xs. b ∷ xs) (same is)

-- a run without `"` and `\` is printed as it is
run_first : (run more : Text) → list_any is_escapable run ≡ false → flat_map escaped (run ++ more) ≡ run ++ flat_map escaped more
run_first [] more bare = refl
run_first (b ∷ bs) more bare = bare_more (is_escapable b) (list_any is_escapable bs) b (flat_map escaped (bs ++ more)) (bs ++ flat_map escaped more) bare (run_first bs more)

-- so is a text without them
pub no_escape : (bytes : Text) → list_any is_escapable bytes ≡ false → flat_map escaped bytes ≡ bytes
no_escape [] bare = refl
no_escape (b ∷ bs) bare = bare_more (is_escapable b) (list_any is_escapable bs) b (flat_map escaped bs) bs bare (no_escape bs)

-- a text that is cut at its first escape
pub escape_at : (bytes run : Text) (byte : ℕ) (after : Text) → CutAtEscape bytes run byte after → flat_map escaped bytes ≡ run ++ 92 ∷ byte ∷ flat_map escaped after
escape_at bytes run byte after cut =
    let here : flat_map escaped (byte ∷ after) ≡ 92 ∷ byte ∷ flat_map escaped after = ap (λ t. cond t (92 ∷ byte ∷ []) (byte ∷ []) ++ flat_map escaped after) cut.escape in
    ap (flat_map escaped) cut.parts ∙ (run_first run (byte ∷ after) cut.bare ∙ ap (λ t. run ++ t) here)

-- one more run and its escape are printed
pub escapes_more : (text rest whole run : Text) (byte : ℕ) (after : Text) → text ++ flat_map escaped rest ≡ whole → CutAtEscape rest run byte after → ((text ++ run) ++ 92 ∷ byte ∷ []) ++ flat_map escaped after ≡ whole
escapes_more text rest whole run byte after so_far cut =
    append_assoc (text ++ run) (92 ∷ byte ∷ []) (flat_map escaped after)
    ∙ (append_assoc text run (92 ∷ byte ∷ flat_map escaped after) ∙ (ap (λ t. text ++ t) (sym (escape_at rest run byte after cut)) ∙ so_far))
