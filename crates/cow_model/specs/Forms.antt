-- The forms of statements of one line: what the tokens behind the first word say.
use Rattle.std.specs.Prelude.{ℕ, ℤ, ◌%◌, Bool, true, false, ◌&&◌, not, nat_le, List, [], ◌∷◌, length, codes, ◌==◌, Option, Some, None, Result, Ok, Err, if◌then◌else◌}
use Rattle.std.specs.Str.{bytes_eq}
use Rattle.cow_model.specs.declared.fault.Flaw.{Flaw}
use Rattle.cow_model.specs.declared.fault.Flaw.TheVariants.{BadWord, BadAtom}
use Rattle.cow_model.specs.declared.plain.Literal.{Literal}
use Rattle.cow_model.specs.declared.statement.Kind.{Kind}
use Rattle.cow_model.specs.declared.statement.Kind.TheVariants as kind
use Rattle.cow_model.specs.declared.statement.Side.{Side}
use Rattle.cow_model.specs.declared.statement.Statement.{Statement}
use Rattle.cow_model.specs.declared.statement.Statement.TheVariants as statement
use Rattle.cow_model.specs.declared.word.Form.{Form}
use Rattle.cow_model.specs.declared.word.Form.TheVariants.{Let, OnName, OnAtom, OnPlace, OnSide, OnOther, Insert, Set, Replace, Swap, Splice, Put, Merge, Lazy, Give}
use Rattle.cow_model.specs.declared.word.NameWord.{NameWord}
use Rattle.cow_model.specs.declared.word.NameWord.TheVariants.{Drop, Show, Count, Reverse, Clear, Rebase}
use Rattle.cow_model.specs.declared.word.AtomWord.{AtomWord}
use Rattle.cow_model.specs.declared.word.AtomWord.TheVariants.{Append, Prepend, Update, Remove, Get, Has, Place}
use Rattle.cow_model.specs.declared.word.PlaceWord.{PlaceWord}
use Rattle.cow_model.specs.declared.word.PlaceWord.TheVariants.{RemoveAt, At, Rotate, Reserve}
use Rattle.cow_model.specs.declared.word.SideWord.{SideWord}
use Rattle.cow_model.specs.declared.word.SideWord.TheVariants.{Pop, Peek}
use Rattle.cow_model.specs.declared.word.OtherWord.{OtherWord}
use Rattle.cow_model.specs.declared.word.OtherWord.TheVariants.{Extend, Union, Inter, Minus, SymDiff, Subset, Disjoint, Equal, Within}
use Rattle.cow_model.specs.Lexis.{Text}
use Rattle.cow_model.specs.Words.{kind_of, side_of, verb_of, preference_of}
use Rattle.cow_model.specs.Readers.{Reader, ◌>>=◌, ◌>>◌, pure, due_name, due_atom, due_integer, due_word, due_token, no_more, all_atoms, checked, name_of}

-- ---- words by what stands behind them

-- `WORD N`
abbrev pub on_name : ℕ → NameWord → Text → Statement
on_name line Drop n = statement.Discard line n
on_name line Show n = statement.Show line n
on_name line Count n = statement.Count line n
on_name line Reverse n = statement.Reverse line n
on_name line Clear n = statement.Clear line n
on_name line Rebase n = statement.Rebase line n

-- `WORD N A`
abbrev pub on_atom : ℕ → AtomWord → Text → Literal → Statement
on_atom line Append n a = statement.Append line n a
on_atom line Prepend n a = statement.Prepend line n a
on_atom line Update n a = statement.Update line n a
on_atom line Remove n a = statement.Remove line n a
on_atom line Get n a = statement.Get line n a
on_atom line Has n a = statement.Has line n a
on_atom line Place n a = statement.Place line n a

-- `WORD N I`
abbrev pub on_place : ℕ → PlaceWord → Text → ℤ → Statement
on_place line RemoveAt n i = statement.RemoveAt line n i
on_place line At n i = statement.At line n i
on_place line Rotate n i = statement.Rotate line n i
on_place line Reserve n i = statement.Reserve line n i

-- `WORD N END`
abbrev pub on_side : ℕ → SideWord → Text → Side → Statement
on_side line Pop n side = statement.Pop line n side
on_side line Peek n side = statement.Peek line n side

-- `WORD N M`
abbrev pub on_other : ℕ → OtherWord → Text → Text → Statement
on_other line Extend n m = statement.Extend line n m
on_other line Union n m = statement.Union line n m
on_other line Inter n m = statement.Inter line n m
on_other line Minus n m = statement.Minus line n m
on_other line SymDiff n m = statement.SymDiff line n m
on_other line Subset n m = statement.Subset line n m
on_other line Disjoint n m = statement.Disjoint line n m
on_other line Equal n m = statement.Equal line n m
on_other line Within n m = statement.Within line n m

-- ---- tokens

-- `N`
unfoldable pub lone_name : Reader Text
lone_name = do
  n ← due_name
  no_more
  pure n

-- `N A`
unfoldable pub name_atom : Reader (Text × Literal)
name_atom = do
  n ← due_name
  a ← due_atom
  no_more
  pure (n, a)

-- `N I`
unfoldable pub name_place : Reader (Text × ℤ)
name_place = do
  n ← due_name
  i ← due_integer
  no_more
  pure (n, i)

-- `N I A`
unfoldable pub name_place_atom : Reader (Text × ℤ × Literal)
name_place_atom = do
  n ← due_name
  i ← due_integer
  a ← due_atom
  no_more
  pure (n, i, a)

-- `N END`
unfoldable pub name_side : Reader (Text × Side)
name_side = do
  n ← due_name
  side ← due_word side_of
  no_more
  pure (n, side)

-- `N M`
unfoldable pub two_names : Reader (Text × Text)
two_names = do
  n ← due_name
  m ← due_name
  no_more
  pure (n, m)

-- `N END A`
unfoldable pub name_side_atom : Reader (Text × Side × Literal)
name_side_atom = do
  n ← due_name
  side ← due_word side_of
  a ← due_atom
  no_more
  pure (n, side, a)

-- `N I J`
unfoldable pub name_places : Reader (Text × ℤ × ℤ)
name_places = do
  n ← due_name
  i ← due_integer
  j ← due_integer
  no_more
  pure (n, i, j)

-- `N K V`
unfoldable pub name_atoms : Reader (Text × Literal × Literal)
name_atoms = do
  n ← due_name
  k ← due_atom
  v ← due_atom
  no_more
  pure (n, k, v)

-- ---- statements with a form of their own

-- `splice N I J A*`
unfoldable pub splice : ℕ → Reader Statement
splice line = do
  n ← due_name
  i ← due_integer
  j ← due_integer
  atoms ← all_atoms
  pure (statement.Splice line n i j atoms)

-- `merge N M keep` and `merge N M take`
unfoldable pub merge : ℕ → Reader Statement
merge line = do
  n ← due_name
  m ← due_name
  takes ← due_word preference_of
  no_more
  pure (statement.Merge line n m takes)

-- `lazy N I VERB`
unfoldable pub lazy : ℕ → Reader Statement
lazy line = do
  n ← due_name
  i ← due_integer
  asked ← due_word verb_of
  no_more
  pure (statement.Lazy line n i asked)

-- `give Y as Z`
unfoldable pub give : ℕ → Reader Statement
give line = do
  y ← due_name
  due_token (codes "as")
  z ← due_name
  no_more
  pure (statement.Give line y z)

-- `insert N A`
unfoldable pub insert_atom : ℕ → Reader Statement
insert_atom line = do
  x ← name_atom
  pure (statement.Insert line x.0 x.1)

-- `insert N I A`
unfoldable pub insert_at : ℕ → Reader Statement
insert_at line = do
  x ← name_place_atom
  pure (statement.InsertAt line x.0 x.1 x.2)

-- `insert N A`, and with more tokens `insert N I A`
unfoldable pub insert : ℕ → Reader Statement
insert line tokens = if nat_le 3 (length tokens) then insert_at line tokens else insert_atom line tokens

-- ---- `let`

-- whether a kind is made of pairs
abbrev pub is_paired : Kind → Bool
is_paired kind.Dict = true
is_paired kind.ODict = true
is_paired kind.TDict = true
is_paired _ = false

-- pairs are an even number of atoms
abbrev pub in_pairs : Kind → List Literal → Result (Unit {0}) Flaw
in_pairs k atoms = if is_paired k && not (length atoms % 2 == 0) then Err BadAtom else Ok tt

-- `A*` behind `let N = KIND`
unfoldable pub made : ℕ → Text → Kind → Reader Statement
made line n k = do
  atoms ← all_atoms
  checked (in_pairs k atoms)
  pure (statement.Let line n k atoms)

-- `M I J` behind `let N = slice`
unfoldable pub sliced : ℕ → Text → Reader Statement
sliced line n = do
  x ← name_places
  pure (statement.Slice line n x.0 x.1 x.2)

-- nothing more behind `let N = M`
unfoldable pub assigned : ℕ → Text → Text → Reader Statement
assigned line n m = do
  no_more
  pure (statement.Assign line n m)

-- whether a token is the word `slice`
abbrev pub is_slice : Text → Bool
is_slice token = bytes_eq token (codes "slice")

-- what stands behind `let N =`, where the first token of it is no kind
unfoldable pub no_kind : ℕ → Text → Text → Reader Statement
no_kind line n token = if is_slice token then sliced line n else (checked (name_of token) >>= (λ m. assigned line n m))

-- what stands behind `let N =`, by the kind that its first token may be
abbrev pub value_by : ℕ → Text → Text → Option Kind → Reader Statement
value_by line n token (Some k) = made line n k
value_by line n token None = no_kind line n token

-- what stands behind `let N =`
unfoldable pub value_of : ℕ → Text → Reader Statement
value_of line n [] = Err BadWord
value_of line n (token ∷ tokens) = value_by line n token (kind_of token) tokens

-- `let N = KIND A*`, `let N = M`, `let N = slice M I J`
unfoldable pub assignment : ℕ → Reader Statement
assignment line = do
  n ← due_name
  due_token (codes "=")
  value_of line n

-- ---- all of them

-- the statement that the tokens behind a first word are
unfoldable pub statement_of : ℕ → Form → Reader Statement
statement_of line Let = assignment line
statement_of line (OnName word) = lone_name >>= (λ n. pure (on_name line word n))
statement_of line (OnAtom word) = name_atom >>= (λ x. pure (on_atom line word x.0 x.1))
statement_of line (OnPlace word) = name_place >>= (λ x. pure (on_place line word x.0 x.1))
statement_of line (OnSide word) = name_side >>= (λ x. pure (on_side line word x.0 x.1))
statement_of line (OnOther word) = two_names >>= (λ x. pure (on_other line word x.0 x.1))
statement_of line Insert = insert line
statement_of line Set = name_place_atom >>= (λ x. pure (statement.Set line x.0 x.1 x.2))
statement_of line Replace = name_side_atom >>= (λ x. pure (statement.Replace line x.0 x.1 x.2))
statement_of line Swap = name_places >>= (λ x. pure (statement.Swap line x.0 x.1 x.2))
statement_of line Splice = splice line
statement_of line Put = name_atoms >>= (λ x. pure (statement.Put line x.0 x.1 x.2))
statement_of line Merge = merge line
statement_of line Lazy = lazy line
statement_of line Give = give line
