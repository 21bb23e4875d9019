-- The words of a script, and what each of them means.
use Rattle.std.specs.Prelude.{Bool, true, false, List, [], ◌∷◌, codes, Option, Some, None, if◌then◌else◌}
use Rattle.std.specs.Str.{bytes_eq}
use Rattle.cow_model.specs.declared.statement.Kind.{Kind}
use Rattle.cow_model.specs.declared.statement.Kind.TheVariants as kind
use Rattle.cow_model.specs.declared.statement.Side.{Side}
use Rattle.cow_model.specs.declared.statement.Side.TheVariants.{First, Last, Min, Max}
use Rattle.cow_model.specs.declared.statement.Verb.{Verb}
use Rattle.cow_model.specs.declared.statement.Verb.TheVariants as verb
use Rattle.cow_model.specs.declared.word.Word.{Word}
use Rattle.cow_model.specs.declared.word.Word.TheVariants.{Statement, Fork, Task, End}
use Rattle.cow_model.specs.declared.word.Form.TheVariants.{Let, OnName, OnAtom, OnPlace, OnSide, OnOther, Insert, Set, Replace, Swap, Splice, Put, Merge, Lazy, Give}
use Rattle.cow_model.specs.declared.word.NameWord.TheVariants.{Drop, Show, Count, Reverse, Clear, Rebase}
use Rattle.cow_model.specs.declared.word.AtomWord.TheVariants.{Append, Prepend, Update, Remove, Get, Has, Place}
use Rattle.cow_model.specs.declared.word.PlaceWord.TheVariants.{RemoveAt, At, Rotate, Reserve}
use Rattle.cow_model.specs.declared.word.SideWord.TheVariants.{Pop, Peek}
use Rattle.cow_model.specs.declared.word.OtherWord.TheVariants.{Extend, Union, Inter, Minus, SymDiff, Subset, Disjoint, Equal, Within}
use Rattle.cow_model.specs.Lexis.{Text}

-- words, each with what it means
abbrev pub Table : Type 0 → Type 0
Table A = List (Text × A)

-- what a token means by a table
abbrev pub look_up : {A : Type 0} → Table A → Text → Option A
look_up [] token = None
look_up (entry ∷ entries) token = if bytes_eq entry.0 token then Some entry.1 else look_up entries token

-- the first words of lines
abbrev pub words : Table Word
words =
    (codes "let", Statement Let)
    ∷ (codes "drop", Statement (OnName Drop))
    ∷ (codes "show", Statement (OnName Show))
    ∷ (codes "count", Statement (OnName Count))
    ∷ (codes "append", Statement (OnAtom Append))
    ∷ (codes "prepend", Statement (OnAtom Prepend))
    ∷ (codes "insert", Statement Insert)
    ∷ (codes "update", Statement (OnAtom Update))
    ∷ (codes "remove", Statement (OnAtom Remove))
    ∷ (codes "removeat", Statement (OnPlace RemoveAt))
    ∷ (codes "set", Statement Set)
    ∷ (codes "get", Statement (OnAtom Get))
    ∷ (codes "at", Statement (OnPlace At))
    ∷ (codes "has", Statement (OnAtom Has))
    ∷ (codes "place", Statement (OnAtom Place))
    ∷ (codes "pop", Statement (OnSide Pop))
    ∷ (codes "peek", Statement (OnSide Peek))
    ∷ (codes "replace", Statement Replace)
    ∷ (codes "swap", Statement Swap)
    ∷ (codes "reverse", Statement (OnName Reverse))
    ∷ (codes "rotate", Statement (OnPlace Rotate))
    ∷ (codes "splice", Statement Splice)
    ∷ (codes "reserve", Statement (OnPlace Reserve))
    ∷ (codes "clear", Statement (OnName Clear))
    ∷ (codes "rebase", Statement (OnName Rebase))
    ∷ (codes "extend", Statement (OnOther Extend))
    ∷ (codes "union", Statement (OnOther Union))
    ∷ (codes "inter", Statement (OnOther Inter))
    ∷ (codes "minus", Statement (OnOther Minus))
    ∷ (codes "symdiff", Statement (OnOther SymDiff))
    ∷ (codes "subset", Statement (OnOther Subset))
    ∷ (codes "disjoint", Statement (OnOther Disjoint))
    ∷ (codes "equal", Statement (OnOther Equal))
    ∷ (codes "put", Statement Put)
    ∷ (codes "merge", Statement Merge)
    ∷ (codes "within", Statement (OnOther Within))
    ∷ (codes "lazy", Statement Lazy)
    ∷ (codes "fork", Fork)
    ∷ (codes "task", Task)
    ∷ (codes "give", Statement Give)
    ∷ (codes "end", End)
    ∷ []

-- what the first word of a line means
unfoldable pub word_of : Text → Option Word
word_of token = look_up words token

-- the kinds that `let` makes
abbrev pub kinds : Table Kind
kinds =
    (codes "array", kind.Array)
    ∷ (codes "deque", kind.Deque)
    ∷ (codes "set", kind.Set)
    ∷ (codes "dict", kind.Dict)
    ∷ (codes "oset", kind.OSet)
    ∷ (codes "odict", kind.ODict)
    ∷ (codes "heap", kind.Heap)
    ∷ (codes "tset", kind.TSet)
    ∷ (codes "tdict", kind.TDict)
    ∷ []

-- the kind that a token names
unfoldable pub kind_of : Text → Option Kind
kind_of token = look_up kinds token

-- the ends of a value
abbrev pub sides : Table Side
sides = (codes "first", First) ∷ (codes "last", Last) ∷ (codes "min", Min) ∷ (codes "max", Max) ∷ []

-- the end that a token names
unfoldable pub side_of : Text → Option Side
side_of token = look_up sides token

-- what a lazy statement may ask
abbrev pub verbs : Table Verb
verbs = (codes "first", verb.First) ∷ (codes "show", verb.Show) ∷ (codes "count", verb.Count) ∷ []

-- what a token asks
unfoldable pub verb_of : Text → Option Verb
verb_of token = look_up verbs token

-- the words before captures, and whether they move
abbrev pub groups : Table Bool
groups = (codes "copy", false) ∷ (codes "take", true) ∷ []

-- whether the group that a token opens moves
unfoldable pub group_of : Text → Option Bool
group_of token = look_up groups token

-- whose value a merge takes, and whether that is the other's
abbrev pub preferences : Table Bool
preferences = (codes "keep", false) ∷ (codes "take", true) ∷ []

-- whether a merge takes the other's value
unfoldable pub preference_of : Text → Option Bool
preference_of token = look_up preferences token
