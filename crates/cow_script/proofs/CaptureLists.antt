-- The captures of a line, token by token.
use Rattle.std.proofs.Common.{◌≡◌, List, [], ◌∷◌, ◌++◌, Option, Some, None, refl, ap, sym, ◌∙◌, append_assoc, append-nil}
use Rattle.std.specs.Prelude.{Result, Ok, Err}
use Rattle.cow_model.specs.declared.fault.Flaw.{Flaw}
use Rattle.cow_model.specs.declared.reading.Due.{Due}
use Rattle.cow_model.specs.declared.reading.Due.TheVariants.{Group}
use Rattle.cow_model.specs.declared.statement.Capture.{Capture}
use Rattle.cow_model.specs.Lexis.{Text}
use Rattle.cow_model.specs.Readers.{and_then, capture_of, captures_end, with_capture, captures_from, all_captures}
use Rattle.cow_lexis.specs.declared.stop.Stop.{Stop}
use Rattle.cow_lexis.specs.declared.stop.Stop.TheVariants as stop
use Rattle.cow_lexis.specs.Reads.{Fails}

-- captures, and then those of tokens to come
abbrev pub and_captures : List Capture → Result (List Capture) Flaw → Result (List Capture) Flaw
and_captures found more = and_then more (λ captures. Ok (found ++ captures))

-- the captures found so far, and the tokens to come, are those of the whole
pub record CapturesSoFar (found : List Capture) (due : Due) (rest whole : List Text) : Type 0 where
  pub captures : captures_from Group whole ≡ and_captures found (captures_from due rest)

started : (more : Result (List Capture) Flaw) → more ≡ and_captures [] more
started (Ok captures) = refl
started (Err flaw) = refl

none_more : (found : List Capture) (more : Result (List Capture) Flaw) → and_captures found (and_then more (λ captures. Ok (with_capture None captures))) ≡ and_captures found more
none_more found (Ok captures) = refl
none_more found (Err flaw) = refl

one_more : (found : List Capture) (capture : Capture) (more : Result (List Capture) Flaw) → and_captures found (and_then more (λ captures. Ok (with_capture (Some capture) captures))) ≡ and_captures (found ++ capture ∷ []) more
one_more found capture (Ok captures) = ap Ok (sym (append_assoc found (capture ∷ []) captures))
one_more found capture (Err flaw) = refl

-- the next token, and those behind it
at : (found : List Capture) (due : Due) (tokens others whole : List Text) → CapturesSoFar found due tokens whole → tokens ≡ others → CapturesSoFar found due others whole
at found due tokens others whole so_far is = record { captures = so_far.captures ∙ ap (λ ts. and_captures found (captures_from due ts)) is }

-- what is read behind a token
next : (found : List Capture) (due : Due) (tokens : List Text) (token : Text) (rest whole : List Text) (answer : Result (Due × Option Capture) Flaw) → CapturesSoFar found due tokens whole → tokens ≡ token ∷ rest → capture_of due token ≡ answer → captures_from Group whole ≡ and_captures found (and_then answer (λ x. and_then (captures_from x.0 rest) (λ others. Ok (with_capture x.1 others))))
unfolding captures_from
next found due tokens token rest whole answer so_far cut is =
    (at found due tokens (token ∷ rest) whole so_far cut).captures ∙ ap (λ r. and_captures found (and_then r (λ x. and_then (captures_from x.0 rest) (λ others. Ok (with_capture x.1 others))))) is

-- nothing was found yet
pub captures_start : (whole : List Text) → CapturesSoFar [] Group whole whole
captures_start whole = record { captures = started (captures_from Group whole) }

-- the next token captures nothing
pub captures_same : (found : List Capture) (due after : Due) (tokens : List Text) (token : Text) (rest whole : List Text) → CapturesSoFar found due tokens whole → tokens ≡ token ∷ rest → capture_of due token ≡ Ok (after, None) → CapturesSoFar found after rest whole
captures_same found due after tokens token rest whole so_far cut is =
    record { captures = next found due tokens token rest whole (Ok (after, None)) so_far cut is ∙ none_more found (captures_from after rest) }

-- the next token captures
pub captures_more : (found : List Capture) (due after : Due) (tokens : List Text) (token : Text) (rest whole : List Text) (capture : Capture) → CapturesSoFar found due tokens whole → tokens ≡ token ∷ rest → capture_of due token ≡ Ok (after, Some capture) → CapturesSoFar (found ++ capture ∷ []) after rest whole
captures_more found due after tokens token rest whole capture so_far cut is =
    record { captures = next found due tokens token rest whole (Ok (after, Some capture)) so_far cut is ∙ one_more found capture (captures_from after rest) }

-- the next token has a flaw, or memory ran out
pub captures_stop : (found : List Capture) (due : Due) (tokens : List Text) (token : Text) (rest whole : List Text) (why : Stop) → CapturesSoFar found due tokens whole → tokens ≡ token ∷ rest → Fails why (capture_of due token) → Fails why (all_captures whole)
captures_stop found due tokens token rest whole (stop.Flaw flaw) so_far cut is = ap (λ r. and_then r (λ captures. Ok (captures, []))) (next found due tokens token rest whole (Err flaw) so_far cut is)
captures_stop found due tokens token rest whole stop.NoMemory so_far cut is = tt

-- there is no further token, and what is said of that
ended : (found : List Capture) (due : Due) (tokens whole : List Text) (answer : Result (Unit {0}) Flaw) → CapturesSoFar found due tokens whole → tokens ≡ [] → captures_end due ≡ answer → captures_from Group whole ≡ and_captures found (and_then answer (λ _. Ok []))
unfolding captures_from
ended found due tokens whole answer so_far none is =
    (at found due tokens [] whole so_far none).captures ∙ ap (λ r. and_captures found (and_then r (λ _. Ok []))) is

-- there is no further token
pub captures_done : (found : List Capture) (due : Due) (tokens whole : List Text) → CapturesSoFar found due tokens whole → tokens ≡ [] → captures_end due ≡ Ok tt → all_captures whole ≡ Ok (found, [])
captures_done found due tokens whole so_far none is =
    ap (λ r. and_then r (λ captures. Ok (captures, []))) (ended found due tokens whole (Ok tt) so_far none is ∙ ap Ok (append-nil found))

-- there is no further token, but a name is due
pub captures_short : (found : List Capture) (due : Due) (tokens whole : List Text) (flaw : Flaw) → CapturesSoFar found due tokens whole → tokens ≡ [] → captures_end due ≡ Err flaw → all_captures whole ≡ Err flaw
captures_short found due tokens whole flaw so_far none is =
    ap (λ r. and_then r (λ captures. Ok (captures, []))) (ended found due tokens whole (Err flaw) so_far none is)
