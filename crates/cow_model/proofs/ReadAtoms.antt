-- The atoms that readers read: short texts, and few of them.
use Rattle.std.proofs.Common.{ℕ, ◌+◌, ◌≤◌, List, [], ◌∷◌, length, All, Option, false, Some, None, arith}
use Rattle.std.specs.Prelude.{ℤ, nat_lt, nat_le, ◌==◌, Ok, Err, IfOk}
use Rattle.std.proofs.lemmas.Bool.{ltb-true, leb-true}
use Rattle.std.proofs.lemmas.List.Elements.{All-nil, All-cons}
use Rattle.cow_model.specs.declared.fault.Flaw.TheVariants.{Limit}
use Rattle.cow_model.specs.declared.plain.Literal.{Literal}
use Rattle.cow_model.specs.declared.plain.Literal.TheVariants as literal
use Rattle.cow_model.specs.Literals.{FitsText}
use Rattle.cow_model.specs.Lexis.{Text}
use Rattle.cow_model.specs.Integer.{integer_of}
use Rattle.cow_model.specs.Atom.{content_of, text_atom, int_atom, atom_of}
use Rattle.cow_model.specs.Readers.{due_atom, max_atoms, numbered_atom, atoms_from, all_atoms}
use Rattle.cow_model.proofs.ReadSteps.{Reads, and_then_if, either_if, where_if, reads_due}

-- a text is an atom where it has at most 255 bytes
text_fits : (content : Option Text) → IfOk (text_atom content) FitsText
text_fits None = tt
text_fits (Some bytes) = where_if FitsText (nat_le (length bytes) 255) (Ok (literal.Text bytes)) (Err (Limit (length bytes) 255)) (leb-true (length bytes) 255) tt

-- an integer has no text
int_fits : (x : Option ℤ) → IfOk (int_atom x) FitsText
int_fits None = tt
int_fits (Some x) = tt

-- an atom is short
atom_fits : (token : Text) → IfOk (atom_of token) FitsText
unfolding atom_of
atom_fits [] = tt
atom_fits (b ∷ bs) = either_if FitsText (b == 34) _ _ (text_fits (content_of false bs)) (int_fits (integer_of (b ∷ bs)))

-- an atom is due
pub reads_atom : Reads FitsText due_atom
unfolding due_atom
reads_atom = reads_due FitsText atom_of atom_fits

-- atoms behind n others: short, and with those no more than a line may have
pub record FitsAtoms (n : ℕ) (atoms : List Literal) : Type 0 where
  pub texts : All FitsText atoms
  pub few : n ≤ max_atoms → n + length atoms ≤ max_atoms

-- an atom behind n others is short, and n less than a line may have
record FitsAt (n : ℕ) (atom : Literal) : Type 0 where
  text : FitsText atom
  few : n + 1 ≤ max_atoms

-- none
no_atoms : (n : ℕ) → FitsAtoms n []
no_atoms n = record { texts = All-nil FitsText; few = λ h. omega (arith, h) }

-- one more in front
one_more : (n : ℕ) (atom : Literal) (atoms : List Literal) → FitsAt n atom → FitsAtoms (n + 1) atoms → FitsAtoms n (atom ∷ atoms)
one_more n atom atoms one more = record { texts = All-cons FitsText atom atoms one.text more.texts; few = λ h. omega (arith, more.few one.few) }

-- an atom behind n others
numbered_fits : (n : ℕ) (token : Text) → IfOk (numbered_atom n token) (FitsAt n)
numbered_fits n token =
    and_then_if FitsText (FitsAt n) (atom_of token) _ (atom_fits token)
    (λ atom h. where_if (FitsAt n) (nat_lt n max_atoms) _ _ (λ below. record { text = h; few = omega (arith, ltb-true n max_atoms below) }) tt)

-- the atoms of the tokens behind n others
atoms_fit : (n : ℕ) (tokens : List Text) → IfOk (atoms_from n tokens) (FitsAtoms n)
unfolding atoms_from
atoms_fit n [] = no_atoms n
atoms_fit n (token ∷ tokens) =
    and_then_if (FitsAt n) (FitsAtoms n) (numbered_atom n token) _ (numbered_fits n token)
    (λ atom one. and_then_if (FitsAtoms (n + 1)) (FitsAtoms n) (atoms_from (n + 1) tokens) _ (atoms_fit (n + 1) tokens) (λ atoms more. one_more n atom atoms one more))

-- all atoms up to the end of a line
pub reads_atoms : Reads (FitsAtoms 0) all_atoms
reads_atoms tokens = and_then_if (FitsAtoms 0) (λ x. FitsAtoms 0 x.0) (atoms_from 0 tokens) _ (atoms_fit 0 tokens) (λ atoms h. h)

-- one atom is few
pub one_atom : (a : Literal) → FitsText a → FitsAtoms 0 (a ∷ [])
one_atom a h = record { texts = All-cons FitsText a [] h (All-nil FitsText); few = λ h. omega arith }

-- and two
pub two_atoms : (a b : Literal) → FitsText a → FitsText b → FitsAtoms 0 (a ∷ b ∷ [])
two_atoms a b h k = record { texts = All-cons FitsText a (b ∷ []) h (All-cons FitsText b [] k (All-nil FitsText)); few = λ h. omega arith }
