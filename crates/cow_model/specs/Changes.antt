-- What a statement makes of values, by the statement: the tables of its definitions, and of the names that they are run on.
use Rattle.std.specs.Prelude.{Bool, false, Option, Some, None, Ok, Err}
use Rattle.cow_model.specs.Lexis.{Text}
use Rattle.cow_model.specs.Operation as operation
use Rattle.cow_model.specs.Query as query
use Rattle.cow_model.specs.Sharing.{Layer}
use Rattle.cow_model.specs.declared.value.Plain.{Plain}
use Rattle.cow_model.specs.declared.statement.Statement.TheOpen.{Statement-F}

-- a statement that changes one value
abbrev pub change_of : Layer → Plain → operation.Answer
change_of (Statement-F.Append l n a) = operation.append a
change_of (Statement-F.Prepend l n a) = operation.prepend a
change_of (Statement-F.Insert l n a) = operation.insert a
change_of (Statement-F.InsertAt l n i a) = operation.insert_at i a
change_of (Statement-F.Update l n a) = operation.update a
change_of (Statement-F.Remove l n x) = operation.remove x
change_of (Statement-F.RemoveAt l n i) = operation.remove_at i
change_of (Statement-F.Set l n i a) = operation.set i a
change_of (Statement-F.Replace l n side a) = operation.replace side a
change_of (Statement-F.Swap l n i j) = operation.swap i j
change_of (Statement-F.Reverse l n) = operation.reversed
change_of (Statement-F.Rotate l n c) = operation.rotate c
change_of (Statement-F.Splice l n i j atoms) = operation.splice i j atoms
change_of (Statement-F.Reserve l n c) = operation.reserve c
change_of (Statement-F.Clear l n) = operation.clear
change_of (Statement-F.Rebase l n) = operation.rebase
change_of (Statement-F.Put l n k v) = operation.put (record { key = k; value = v })
change_of s = λ value. operation.wrong

-- a statement that changes one value by another
abbrev pub change_by_of : Layer → Plain → Plain → operation.Answer
change_by_of (Statement-F.Extend l n m) = operation.extend
change_by_of (Statement-F.Union l n m) = operation.union
change_by_of (Statement-F.Inter l n m) = operation.inter
change_by_of (Statement-F.Minus l n m) = operation.minus
change_by_of (Statement-F.SymDiff l n m) = operation.symdiff
change_by_of (Statement-F.Merge l n m take) = operation.merge take
change_by_of (Statement-F.Within l n m) = operation.within
change_by_of s = λ value other. operation.wrong

-- a statement that reads one value
abbrev pub query_of : Layer → Plain → query.Told
query_of (Statement-F.Count l n) = query.count_of
query_of (Statement-F.Get l n x) = query.get x
query_of (Statement-F.At l n i) = query.at i
query_of (Statement-F.Has l n a) = query.has a
query_of (Statement-F.Place l n a) = query.place a
query_of (Statement-F.Peek l n side) = query.peek side
query_of s = λ value. query.wrong

-- a statement that reads two values
abbrev pub query_both_of : Layer → Plain → Plain → query.Told
query_both_of (Statement-F.Subset l n m) = query.subset
query_both_of (Statement-F.Disjoint l n m) = query.disjoint
query_both_of (Statement-F.Equal l n m) = query.equal
query_both_of s = λ value other. query.wrong

-- the name whose value a statement changes, where it is one that changes one value
abbrev pub changed_name : Layer → Option Text
changed_name (Statement-F.Append l n a) = Some n
changed_name (Statement-F.Prepend l n a) = Some n
changed_name (Statement-F.Insert l n a) = Some n
changed_name (Statement-F.InsertAt l n i a) = Some n
changed_name (Statement-F.Update l n a) = Some n
changed_name (Statement-F.Remove l n x) = Some n
changed_name (Statement-F.RemoveAt l n i) = Some n
changed_name (Statement-F.Set l n i a) = Some n
changed_name (Statement-F.Pop l n side) = Some n
changed_name (Statement-F.Replace l n side a) = Some n
changed_name (Statement-F.Swap l n i j) = Some n
changed_name (Statement-F.Reverse l n) = Some n
changed_name (Statement-F.Rotate l n c) = Some n
changed_name (Statement-F.Splice l n i j atoms) = Some n
changed_name (Statement-F.Reserve l n c) = Some n
changed_name (Statement-F.Clear l n) = Some n
changed_name (Statement-F.Rebase l n) = Some n
changed_name (Statement-F.Put l n k v) = Some n
changed_name s = None

-- the name whose value a statement changes by another's, and that other, where it is one of these
abbrev pub changed_names : Layer → Option (Text × Text)
changed_names (Statement-F.Extend l n m) = Some (n, m)
changed_names (Statement-F.Union l n m) = Some (n, m)
changed_names (Statement-F.Inter l n m) = Some (n, m)
changed_names (Statement-F.Minus l n m) = Some (n, m)
changed_names (Statement-F.SymDiff l n m) = Some (n, m)
changed_names (Statement-F.Merge l n m take) = Some (n, m)
changed_names (Statement-F.Within l n m) = Some (n, m)
changed_names s = None

-- the name whose value a statement reads, where it is one that reads one value
abbrev pub asked_name : Layer → Option Text
asked_name (Statement-F.Count l n) = Some n
asked_name (Statement-F.Get l n x) = Some n
asked_name (Statement-F.At l n i) = Some n
asked_name (Statement-F.Has l n a) = Some n
asked_name (Statement-F.Place l n a) = Some n
asked_name (Statement-F.Peek l n side) = Some n
asked_name s = None

-- the two names whose values a statement reads, where it is one of these
abbrev pub asked_names : Layer → Option (Text × Text)
asked_names (Statement-F.Subset l n m) = Some (n, m)
asked_names (Statement-F.Disjoint l n m) = Some (n, m)
asked_names (Statement-F.Equal l n m) = Some (n, m)
asked_names s = None

-- a flag that depends on the value after a statement; none where that is refused
abbrev pub flag_of : (Plain → Bool) → operation.Answer → Bool
flag_of alone (Ok done) = alone done.value
flag_of alone (Err why) = false
