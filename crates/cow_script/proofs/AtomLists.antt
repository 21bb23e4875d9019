-- The atoms of a line, token by token.
use Rattle.std.proofs.Common.{◌≡◌, ℕ, ◌+◌, Bool, true, false, cond, Option, Some, None, List, [], ◌∷◌, ◌++◌, length, refl, ap, sym, ◌∙◌, append_assoc, append-nil, length-append}
use Rattle.std.specs.Prelude.{Result, Ok, Err, nat_lt, if◌then◌else◌}
use Rattle.cow_model.specs.declared.fault.Flaw.TheVariants.{Limit}
use Rattle.cow_model.specs.declared.fault.Flaw.{Flaw}
use Rattle.cow_model.specs.declared.plain.Literal.{Literal}
use Rattle.cow_model.specs.Lexis.{Text}
use Rattle.cow_model.specs.Atom.{atom_of}
use Rattle.cow_model.specs.Readers.{and_then, atoms_from, all_atoms, max_atoms, numbered_atom}
use Rattle.cow_lexis.specs.declared.stop.Stop.{Stop}
use Rattle.cow_lexis.specs.declared.stop.Stop.TheVariants as stop
use Rattle.cow_lexis.specs.Reads.{Fails, atom_ahead}
use Rattle.cow_script.specs.Atoms.{one_more}

-- atoms, and then those of tokens to come
abbrev pub and_atoms : List Literal → Result (List Literal) Flaw → Result (List Literal) Flaw
and_atoms found more = and_then more (λ atoms. Ok (found ++ atoms))

-- the atoms found so far, and the tokens to come, are those of the whole
pub record AtomsSoFar (found : List Literal) (rest whole : List Text) : Type 0 where
  pub atoms : atoms_from 0 whole ≡ and_atoms found (atoms_from (length found) rest)

started : (more : Result (List Literal) Flaw) → more ≡ and_atoms [] more
started (Ok atoms) = refl
started (Err flaw) = refl

one_more_found : (found : List Literal) (atom : Literal) (more : Result (List Literal) Flaw) → and_atoms found (and_then more (λ atoms. Ok (atom ∷ atoms))) ≡ and_atoms (found ++ atom ∷ []) more
one_more_found found atom (Ok atoms) = ap Ok (sym (append_assoc found (atom ∷ []) atoms))
one_more_found found atom (Err flaw) = refl

-- nothing was found yet
pub atoms_start : (whole : List Text) → AtomsSoFar [] whole whole
atoms_start whole = record { atoms = started (atoms_from 0 whole) }

-- the next token, and those behind it
pub atoms_at : (found : List Literal) (tokens others whole : List Text) → AtomsSoFar found tokens whole → tokens ≡ others → AtomsSoFar found others whole
atoms_at found tokens others whole so_far is = record { atoms = so_far.atoms ∙ ap (λ ts. and_atoms found (atoms_from (length found) ts)) is }

-- what is read behind a token
next : (found : List Literal) (n : ℕ) (tokens : List Text) (token : Text) (rest whole : List Text) (answer : Result Literal Flaw) → AtomsSoFar found tokens whole → tokens ≡ token ∷ rest → n ≡ length found → numbered_atom n token ≡ answer → atoms_from 0 whole ≡ and_atoms found (and_then answer (λ a. and_then (atoms_from (length found + 1) rest) (λ atoms. Ok (a ∷ atoms))))
unfolding atoms_from
next found n tokens token rest whole answer so_far cut count is =
    (atoms_at found tokens (token ∷ rest) whole so_far cut).atoms
    ∙ ap (λ r. and_atoms found (and_then r (λ a. and_then (atoms_from (length found + 1) rest) (λ atoms. Ok (a ∷ atoms))))) (ap (λ k. numbered_atom k token) (sym count) ∙ is)

-- ---- by what `next_atom` answers

-- what `atom_ahead` says of a token, by its atom
abbrev ahead_by : Result Literal Flaw → List Text → Result (Option Literal × List Text) Flaw
ahead_by answer rest = and_then answer (λ a. Ok (Some a, rest))

some_by : (answer : Result Literal Flaw) (rest left : List Text) (atom : Literal) → ahead_by answer rest ≡ Ok (Some atom, left) → (left ≡ rest) × (answer ≡ Ok atom)
some_by (Ok a) rest left atom is =
    let same : ◌≡◌ {A = Option Literal × List Text} (Some a, rest) (Some atom, left) = cc in
    let value : Some a ≡ Some atom = ap (λ (p : Option Literal × List Text). p.0) same in
    (sym (ap (λ (p : Option Literal × List Text). p.1) same), (let equal : a ≡ atom = cc in ap Ok equal))
some_by (Err flaw) rest left atom is = cc

none_by : (answer : Result Literal Flaw) (rest left : List Text) → ahead_by answer rest ≡ Ok (None, left) → ⊥
none_by (Ok a) rest left is =
    let same : ◌≡◌ {A = Option Literal × List Text} (Some a, rest) (None, left) = cc in
    let value : Some a ≡ None = ap (λ (p : Option Literal × List Text). p.0) same in
    cc
none_by (Err flaw) rest left is = cc

flaw_by : (answer : Result Literal Flaw) (rest : List Text) (flaw : Flaw) → ahead_by answer rest ≡ Err flaw → answer ≡ Err flaw
flaw_by (Ok a) rest flaw is = cc
flaw_by (Err other) rest flaw is = cc

abbrev room : Bool → Flaw → Result (Unit {0}) Flaw
room t full = cond t (Ok tt) (Err full)

abbrev roomy : Bool → Literal → Flaw → Result Literal Flaw
roomy t atom full = cond t (Ok atom) (Err full)

room_by : (t : Bool) (atom : Literal) (full : Flaw) → roomy t atom full ≡ and_then (room t full) (λ _. Ok atom)
room_by true atom full = refl
room_by false atom full = refl

-- an atom with its number
numbered : (n : ℕ) (token : Text) (atom : Literal) (room : Result (Unit {0}) Flaw) → atom_of token ≡ Ok atom → room ≡ one_more n → numbered_atom n token ≡ and_then room (λ _. Ok atom)
numbered n token atom room is has =
    ap (λ r. and_then r (λ a. cond (nat_lt n max_atoms) (Ok a) (Err (Limit (max_atoms + 1) max_atoms)))) is ∙ (room_by (nat_lt n max_atoms) atom (Limit (max_atoms + 1) max_atoms) ∙ ap (λ r. and_then r (λ _. Ok atom)) (sym has))

-- the next token is an atom, and there is room for it
pub atoms_more : (found : List Literal) (n : ℕ) (tokens left whole : List Text) (atom : Literal) → AtomsSoFar found tokens whole → atom_ahead tokens ≡ Ok (Some atom, left) → n ≡ length found → Ok tt ≡ one_more n → AtomsSoFar (found ++ atom ∷ []) left whole
atoms_more found n [] left whole atom so_far ahead count room =
    let same : ◌≡◌ {A = Option Literal × List Text} (None, []) (Some atom, left) = cc in
    let value : None ≡ Some atom = ap (λ (p : Option Literal × List Text). p.0) same in
    cc
atoms_more found n (token ∷ rest) left whole atom so_far ahead count room =
    let is = some_by (atom_of token) rest left atom ahead in
    let said = numbered n token atom (Ok tt) is.1 room in
    record { atoms = next found n (token ∷ rest) token rest whole (Ok atom) so_far refl count said ∙ (one_more_found found atom (atoms_from (length found + 1) rest) ∙ (ap (λ k. and_atoms (found ++ atom ∷ []) (atoms_from k rest)) (sym (length-append found (atom ∷ []))) ∙ ap (λ ts. and_atoms (found ++ atom ∷ []) (atoms_from (length (found ++ atom ∷ [])) ts)) (sym is.0))) }

-- it is one, and there is none
pub atoms_full : (found : List Literal) (n : ℕ) (tokens left whole : List Text) (atom : Literal) (flaw : Flaw) → AtomsSoFar found tokens whole → atom_ahead tokens ≡ Ok (Some atom, left) → n ≡ length found → Err flaw ≡ one_more n → all_atoms whole ≡ Err flaw
atoms_full found n [] left whole atom flaw so_far ahead count room =
    let same : ◌≡◌ {A = Option Literal × List Text} (None, []) (Some atom, left) = cc in
    let value : None ≡ Some atom = ap (λ (p : Option Literal × List Text). p.0) same in
    cc
atoms_full found n (token ∷ rest) left whole atom flaw so_far ahead count room =
    let is = some_by (atom_of token) rest left atom ahead in
    let said = numbered n token atom (Err flaw) is.1 room in
    ap (λ r. and_then r (λ atoms. Ok (atoms, []))) (next found n (token ∷ rest) token rest whole (Err flaw) so_far refl count said)

-- the next token has a flaw, or memory ran out
pub atoms_stop : (found : List Literal) (tokens whole : List Text) (why : Stop) → AtomsSoFar found tokens whole → Fails why (atom_ahead tokens) → Fails why (all_atoms whole)
atoms_stop found [] whole (stop.Flaw flaw) so_far ahead = cc
atoms_stop found (token ∷ rest) whole (stop.Flaw flaw) so_far ahead =
    let said : numbered_atom (length found) token ≡ Err flaw = ap (λ r. and_then r (λ a. cond (nat_lt (length found) max_atoms) (Ok a) (Err (Limit (max_atoms + 1) max_atoms)))) (flaw_by (atom_of token) rest flaw ahead) in
    ap (λ r. and_then r (λ atoms. Ok (atoms, []))) (next found (length found) (token ∷ rest) token rest whole (Err flaw) so_far refl refl said)
atoms_stop found tokens whole stop.NoMemory so_far ahead = tt

-- there is no further token
pub atoms_done : (found : List Literal) (tokens left whole : List Text) → AtomsSoFar found tokens whole → atom_ahead tokens ≡ Ok (None, left) → all_atoms whole ≡ Ok (found, left)
unfolding atoms_from
atoms_done found [] left whole so_far ahead =
    let same : ◌≡◌ {A = Option Literal × List Text} (None, []) (None, left) = cc in
    ap (λ r. and_then r (λ atoms. Ok (atoms, []))) (so_far.atoms ∙ ap Ok (append-nil found)) ∙ ap (λ (p : Option Literal × List Text). Ok (found, p.1)) same
atoms_done found (token ∷ rest) left whole so_far ahead = absurd (none_by (atom_of token) rest left ahead)
