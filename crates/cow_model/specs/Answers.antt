-- What becomes of a statement by the answer that its definition gives.
use Rattle.std.specs.Prelude.{Bool, true, false, ⊤, [], Option, Some, None, Result, Ok, Err}
use Rattle.cow_model.specs.Lexis.{Text}
use Rattle.cow_model.specs.Printed.{line}
use Rattle.cow_model.specs.Operation.{Answer}
use Rattle.cow_model.specs.Query.{Told}
use Rattle.cow_model.specs.declared.value.Plain.{Plain}
use Rattle.cow_model.specs.declared.refusal.Refusal.{Refusal}

-- whether a statement was done, or why it was refused
abbrev pub verdict : Answer → Result ⊤ Refusal
verdict (Ok done) = Ok _
verdict (Err why) = Err why

-- whether a statement is refused
abbrev pub is_refused : Answer → Bool
is_refused (Ok done) = false
is_refused (Err why) = true

-- the value after a statement: a refused one changes nothing
abbrev pub value_after : Plain → Answer → Plain
value_after before (Ok done) = done.value
value_after before (Err why) = before

-- what a statement prints, if it isn't refused
abbrev pub reply_of : Answer → Text
reply_of (Ok done) = done.reply
reply_of (Err why) = []

-- the same of a statement that only reads
abbrev pub told_verdict : Told → Result ⊤ Refusal
told_verdict (Ok text) = Ok _
told_verdict (Err why) = Err why

-- the line of what was told, if it was
abbrev pub told_reply : Told → Text
told_reply (Ok text) = line text
told_reply (Err why) = []

-- why a statement is refused, if it is
abbrev pub refusal_in : Answer → Option Refusal
refusal_in (Ok done) = None
refusal_in (Err why) = Some why
