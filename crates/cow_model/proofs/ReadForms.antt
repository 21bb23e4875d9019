-- The statement of every form has short texts, and few atoms.
use Rattle.std.proofs.Common.{◌≡◌, ℕ, ◌≤◌, List, [], ◌∷◌, length, arith, refl, Option, Some, None}
use Rattle.std.specs.Prelude.{ℤ, nat_le, codes}
use Rattle.std.proofs.lemmas.List.Elements.{All-nil}
use Rattle.cow_model.specs.declared.plain.Literal.{Literal}
use Rattle.cow_model.specs.declared.statement.Kind.{Kind}
use Rattle.cow_model.specs.declared.statement.Side.{Side}
use Rattle.cow_model.specs.declared.statement.Statement.{Statement, out-Statement}
use Rattle.cow_model.specs.declared.statement.Statement.TheVariants as statement
use Rattle.cow_model.specs.declared.statement.Statement.TheViews
use Rattle.cow_model.specs.declared.statement.Statement.TheOpen.{Statement-F}
use Rattle.cow_model.specs.declared.statement.TaskBlock.{TaskBlock}
use Rattle.cow_model.specs.declared.word.Form.{Form}
use Rattle.cow_model.specs.declared.word.Form.TheVariants.{Let, OnName, OnAtom, OnPlace, OnSide, OnOther, Insert, Set, Replace, Swap, Splice, Put, Merge, Lazy, Give}
use Rattle.cow_model.specs.declared.word.NameWord.{NameWord}
use Rattle.cow_model.specs.declared.word.NameWord.TheVariants.{Drop, Show, Count, Reverse, Clear, Rebase}
use Rattle.cow_model.specs.declared.word.AtomWord.{AtomWord}
use Rattle.cow_model.specs.declared.word.AtomWord.TheVariants.{Append, Prepend, Update, Remove, Get, Has, Place}
use Rattle.cow_model.specs.declared.word.PlaceWord.{PlaceWord}
use Rattle.cow_model.specs.declared.word.PlaceWord.TheVariants.{RemoveAt, At, Rotate, Reserve}
use Rattle.cow_model.specs.declared.word.SideWord.{SideWord}
use Rattle.cow_model.specs.declared.word.SideWord.TheVariants.{Pop, Peek}
use Rattle.cow_model.specs.declared.word.OtherWord.{OtherWord}
use Rattle.cow_model.specs.declared.word.OtherWord.TheVariants.{Extend, Union, Inter, Minus, SymDiff, Subset, Disjoint, Equal, Within}
use Rattle.cow_model.specs.Literals.{FitsText}
use Rattle.cow_model.specs.Atoms.{FitsTexts, atoms_of}
use Rattle.cow_model.specs.Sharing.{Layer, literals}
use Rattle.cow_model.specs.Plain.{max_count}
use Rattle.cow_model.specs.Lexis.{Text}
use Rattle.cow_model.specs.Words.{kind_of, side_of, verb_of, preference_of}
use Rattle.cow_model.specs.Forms.{on_name, on_atom, on_place, on_side, on_other, lone_name, name_atom, name_place, name_place_atom, name_side, two_names, name_side_atom, name_places, name_atoms, splice, merge, lazy, give, insert_atom, insert_at, insert, in_pairs, made, sliced, assigned, is_slice, no_kind, value_by, value_of, assignment, statement_of}
use Rattle.cow_model.specs.Readers.{all_atoms, checked, due_atom, due_integer, due_name, due_token, due_word, name_of, no_more}
use Rattle.cow_model.proofs.ReadSteps.{Reads, either_if, reads_either, reads_then, reads_next}
use Rattle.cow_model.proofs.ReadAtoms.{FitsAtoms, reads_atom, reads_atoms, one_atom, two_atoms}

-- a layer's texts are short, and its literals few
pub record FitsLayer (s : Layer) : Type 0 where
  pub texts : FitsTexts s
  pub few : literals s ≤ max_count

-- a statement's
abbrev pub Fits : Statement → Type 0
Fits s = FitsLayer (out-Statement s)

-- a statement with no atoms fits
without_atoms : (s : Layer) → atoms_of s ≡ [] → literals s ≡ 0 → FitsLayer s
without_atoms s is none = record { texts = rw is (All-nil FitsText); few = omega (arith, none) }

-- a statement with atoms that fit a line
with_atoms : (s : Layer) (atoms : List Literal) → atoms_of s ≡ atoms → literals s ≡ length atoms → FitsAtoms 0 atoms → FitsLayer s
with_atoms s atoms is count fits = record { texts = rw is fits.texts; few = omega (arith, count, fits.few (omega arith)) }

-- ---- words by what stands behind them

-- `WORD N`
on_name_fits : (line : ℕ) (word : NameWord) (n : Text) → Fits (on_name line word n)
unfolding TheViews.out-Statement denote.Hole.Carrier.out
on_name_fits line Drop n = without_atoms _ refl refl
on_name_fits line Show n = without_atoms _ refl refl
on_name_fits line Count n = without_atoms _ refl refl
on_name_fits line Reverse n = without_atoms _ refl refl
on_name_fits line Clear n = without_atoms _ refl refl
on_name_fits line Rebase n = without_atoms _ refl refl

-- `WORD N A`
on_atom_fits : (line : ℕ) (word : AtomWord) (n : Text) (a : Literal) → FitsText a → Fits (on_atom line word n a)
unfolding TheViews.out-Statement denote.Hole.Carrier.out
on_atom_fits line Append n a h = with_atoms _ _ refl refl (one_atom a h)
on_atom_fits line Prepend n a h = with_atoms _ _ refl refl (one_atom a h)
on_atom_fits line Update n a h = with_atoms _ _ refl refl (one_atom a h)
on_atom_fits line Remove n a h = with_atoms _ _ refl refl (one_atom a h)
on_atom_fits line Get n a h = with_atoms _ _ refl refl (one_atom a h)
on_atom_fits line Has n a h = with_atoms _ _ refl refl (one_atom a h)
on_atom_fits line Place n a h = with_atoms _ _ refl refl (one_atom a h)

-- `WORD N I`
on_place_fits : (line : ℕ) (word : PlaceWord) (n : Text) (i : ℤ) → Fits (on_place line word n i)
unfolding TheViews.out-Statement denote.Hole.Carrier.out
on_place_fits line RemoveAt n i = without_atoms _ refl refl
on_place_fits line At n i = without_atoms _ refl refl
on_place_fits line Rotate n i = without_atoms _ refl refl
on_place_fits line Reserve n i = without_atoms _ refl refl

-- `WORD N END`
on_side_fits : (line : ℕ) (word : SideWord) (n : Text) (side : Side) → Fits (on_side line word n side)
unfolding TheViews.out-Statement denote.Hole.Carrier.out
on_side_fits line Pop n side = without_atoms _ refl refl
on_side_fits line Peek n side = without_atoms _ refl refl

-- `WORD N M`
on_other_fits : (line : ℕ) (word : OtherWord) (n m : Text) → Fits (on_other line word n m)
unfolding TheViews.out-Statement denote.Hole.Carrier.out
on_other_fits line Extend n m = without_atoms _ refl refl
on_other_fits line Union n m = without_atoms _ refl refl
on_other_fits line Inter n m = without_atoms _ refl refl
on_other_fits line Minus n m = without_atoms _ refl refl
on_other_fits line SymDiff n m = without_atoms _ refl refl
on_other_fits line Subset n m = without_atoms _ refl refl
on_other_fits line Disjoint n m = without_atoms _ refl refl
on_other_fits line Equal n m = without_atoms _ refl refl
on_other_fits line Within n m = without_atoms _ refl refl

-- ---- tokens

-- the atom of `N A`
abbrev FitsSecond : Text × Literal → Type 0
FitsSecond x = FitsText x.1

-- what `N A` reads fits
reads_name_atom : Reads FitsSecond name_atom
unfolding name_atom
reads_name_atom = reads_next FitsSecond due_name _ (λ n. reads_then FitsText FitsSecond due_atom _ reads_atom (λ a h. reads_next FitsSecond no_more _ (λ _ tokens. h)))

-- the atom of `N I A`
abbrev FitsThird : Text × ℤ × Literal → Type 0
FitsThird x = FitsText x.2

-- what `N I A` reads fits
reads_name_place_atom : Reads FitsThird name_place_atom
unfolding name_place_atom
reads_name_place_atom = reads_next FitsThird due_name _ (λ n. reads_next FitsThird due_integer _ (λ i. reads_then FitsText FitsThird due_atom _ reads_atom (λ a h. reads_next FitsThird no_more _ (λ _ tokens. h))))

-- the atom of `N END A`
abbrev FitsAtSide : Text × Side × Literal → Type 0
FitsAtSide x = FitsText x.2

-- what `N END A` reads fits
reads_name_side_atom : Reads FitsAtSide name_side_atom
unfolding name_side_atom
reads_name_side_atom = reads_next FitsAtSide due_name _ (λ n. reads_next FitsAtSide (due_word side_of) _ (λ side. reads_then FitsText FitsAtSide due_atom _ reads_atom (λ a h. reads_next FitsAtSide no_more _ (λ _ tokens. h))))

-- both atoms of `N K V`
abbrev FitsBoth : Text × Literal × Literal → Type 0
FitsBoth x = FitsText x.1 × FitsText x.2

-- what `N K V` reads fits
reads_name_atoms : Reads FitsBoth name_atoms
unfolding name_atoms
reads_name_atoms = reads_next FitsBoth due_name _ (λ n. reads_then FitsText FitsBoth due_atom _ reads_atom (λ k h. reads_then FitsText FitsBoth due_atom _ reads_atom (λ v g. reads_next FitsBoth no_more _ (λ _ tokens. (h, g)))))

-- ---- statements with a form of their own

-- `splice N I J A*`
reads_splice : (line : ℕ) → Reads Fits (splice line)
unfolding splice TheViews.out-Statement denote.Hole.Carrier.out
reads_splice line = reads_next Fits due_name _ (λ n. reads_next Fits due_integer _ (λ i. reads_next Fits due_integer _ (λ j. reads_then (FitsAtoms 0) Fits all_atoms _ reads_atoms (λ atoms h tokens. with_atoms _ atoms refl refl h))))

-- `merge N M keep` and `merge N M take`
reads_merge : (line : ℕ) → Reads Fits (merge line)
unfolding merge TheViews.out-Statement denote.Hole.Carrier.out
reads_merge line = reads_next Fits due_name _ (λ n. reads_next Fits due_name _ (λ m. reads_next Fits (due_word preference_of) _ (λ takes. reads_next Fits no_more _ (λ _ tokens. without_atoms _ refl refl))))

-- `lazy N I VERB`
reads_lazy : (line : ℕ) → Reads Fits (lazy line)
unfolding lazy TheViews.out-Statement denote.Hole.Carrier.out
reads_lazy line = reads_next Fits due_name _ (λ n. reads_next Fits due_integer _ (λ i. reads_next Fits (due_word verb_of) _ (λ asked. reads_next Fits no_more _ (λ _ tokens. without_atoms _ refl refl))))

-- `give Y as Z`
reads_give : (line : ℕ) → Reads Fits (give line)
unfolding give TheViews.out-Statement denote.Hole.Carrier.out
reads_give line = reads_next Fits due_name _ (λ y. reads_next Fits (due_token (codes "as")) _ (λ _. reads_next Fits due_name _ (λ z. reads_next Fits no_more _ (λ _ tokens. without_atoms _ refl refl))))

-- `insert N A`
reads_insert_atom : (line : ℕ) → Reads Fits (insert_atom line)
unfolding insert_atom TheViews.out-Statement denote.Hole.Carrier.out
reads_insert_atom line = reads_then FitsSecond Fits name_atom _ reads_name_atom (λ x h tokens. with_atoms _ _ refl refl (one_atom x.1 h))

-- `insert N I A`
reads_insert_at : (line : ℕ) → Reads Fits (insert_at line)
unfolding insert_at TheViews.out-Statement denote.Hole.Carrier.out
reads_insert_at line = reads_then FitsThird Fits name_place_atom _ reads_name_place_atom (λ x h tokens. with_atoms _ _ refl refl (one_atom x.2 h))

-- `insert N A`, and with more tokens `insert N I A`
reads_insert : (line : ℕ) → Reads Fits (insert line)
unfolding insert
reads_insert line tokens = either_if (λ x. Fits x.0) (nat_le 3 (length tokens)) (insert_at line tokens) (insert_atom line tokens) (reads_insert_at line tokens) (reads_insert_atom line tokens)

-- ---- `let`

-- `A*` behind `let N = KIND`
reads_made : (line : ℕ) (n : Text) (k : Kind) → Reads Fits (made line n k)
unfolding made TheViews.out-Statement denote.Hole.Carrier.out
reads_made line n k = reads_then (FitsAtoms 0) Fits all_atoms _ reads_atoms (λ atoms h. reads_next Fits (checked (in_pairs k atoms)) _ (λ _ tokens. with_atoms _ atoms refl refl h))

-- `M I J` behind `let N = slice`
reads_sliced : (line : ℕ) (n : Text) → Reads Fits (sliced line n)
unfolding sliced TheViews.out-Statement denote.Hole.Carrier.out
reads_sliced line n = reads_next Fits name_places _ (λ x tokens. without_atoms _ refl refl)

-- nothing more behind `let N = M`
reads_assigned : (line : ℕ) (n m : Text) → Reads Fits (assigned line n m)
unfolding assigned TheViews.out-Statement denote.Hole.Carrier.out
reads_assigned line n m = reads_next Fits no_more _ (λ _ tokens. without_atoms _ refl refl)

-- what stands behind `let N =`, where the first token of it is no kind
reads_no_kind : (line : ℕ) (n token : Text) → Reads Fits (no_kind line n token)
unfolding no_kind
reads_no_kind line n token = reads_either Fits (is_slice token) _ _ (reads_sliced line n) (reads_next Fits (checked (name_of token)) _ (λ m. reads_assigned line n m))

-- what stands behind `let N =`, by the kind that its first token may be
reads_value_by : (line : ℕ) (n token : Text) (k : Option Kind) → Reads Fits (value_by line n token k)
reads_value_by line n token (Some k) = reads_made line n k
reads_value_by line n token None = reads_no_kind line n token

-- what stands behind `let N =`
reads_value : (line : ℕ) (n : Text) → Reads Fits (value_of line n)
unfolding value_of
reads_value line n [] = tt
reads_value line n (token ∷ tokens) = reads_value_by line n token (kind_of token) tokens

-- `let N = KIND A*`, `let N = M`, `let N = slice M I J`
reads_assignment : (line : ℕ) → Reads Fits (assignment line)
unfolding assignment
reads_assignment line = reads_next Fits due_name _ (λ n. reads_next Fits (due_token (codes "=")) _ (λ _. reads_value line n))

-- ---- all of them

-- the statement of every form fits
pub reads_statement : (line : ℕ) (form : Form) → Reads Fits (statement_of line form)
unfolding statement_of TheViews.out-Statement denote.Hole.Carrier.out
reads_statement line Let = reads_assignment line
reads_statement line (OnName word) = reads_next Fits lone_name _ (λ n tokens. on_name_fits line word n)
reads_statement line (OnAtom word) = reads_then FitsSecond Fits name_atom _ reads_name_atom (λ x h tokens. on_atom_fits line word x.0 x.1 h)
reads_statement line (OnPlace word) = reads_next Fits name_place _ (λ x tokens. on_place_fits line word x.0 x.1)
reads_statement line (OnSide word) = reads_next Fits name_side _ (λ x tokens. on_side_fits line word x.0 x.1)
reads_statement line (OnOther word) = reads_next Fits two_names _ (λ x tokens. on_other_fits line word x.0 x.1)
reads_statement line Insert = reads_insert line
reads_statement line Set = reads_then FitsThird Fits name_place_atom _ reads_name_place_atom (λ x h tokens. with_atoms _ _ refl refl (one_atom x.2 h))
reads_statement line Replace = reads_then FitsAtSide Fits name_side_atom _ reads_name_side_atom (λ x h tokens. with_atoms _ _ refl refl (one_atom x.2 h))
reads_statement line Swap = reads_next Fits name_places _ (λ x tokens. without_atoms _ refl refl)
reads_statement line Splice = reads_splice line
reads_statement line Put = reads_then FitsBoth Fits name_atoms _ reads_name_atoms (λ x h tokens. with_atoms _ _ refl refl (two_atoms x.1 x.2 h.0 h.1))
reads_statement line Merge = reads_merge line
reads_statement line Lazy = reads_lazy line
reads_statement line Give = reads_give line

-- a fork has no atoms of its own
pub fork_fits : (line : ℕ) (tasks : List TaskBlock) → Fits (statement.Fork line tasks)
fork_fits line tasks = rw (statement.outs-Fork line tasks) (without_atoms (Statement-F.Fork line tasks) refl refl)
