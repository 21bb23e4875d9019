-- What a run says of its script, once its source was read to the end.
use Rattle.std.proofs.Common.{◌≡◌, ◌≢◌, ℕ, ◌+◌, ◌≤◌, List, [], ◌++◌, length, sym, ◌∙◌, ap, subst, refl, inl, inr, append-nil, length-append, arith, Bool, Ok, Err}
use Rattle.std.specs.Prelude.{Option, Some, None, ◌⊎◌, ⊤, Result}
use Rattle.std.specs.Io.KnownBytes.{Appends, Consumes, IsAtEnd}
use Rattle.cow_model.specs.Parse.{script_of}
use Rattle.cow_model.specs.Purse.{Purse}
use Rattle.cow_model.specs.Run.{bound}
use Rattle.cow_model.specs.declared.fault.ParseFault.{ParseFault}
use Rattle.cow_model.specs.declared.statement.Statement.{Statement}
use Rattle.cow_tasks.specs.Blocks.{unbuilt_line}
use Rattle.cow_run.specs.Answer.{Lent, Says, Answers, IsBuiltScript, HasRun, IsBareScript, IsDone, RunsWhole, whole_text}
use Rattle.cow_run.specs.Input.{max_bytes}
use Rattle.cow_run.specs.Runs.{BytesAnswered}
use Rattle.cow_run.specs.declared.status.Status.{Status}
use Rattle.cow_run.specs.declared.status.Status.TheVariants as status

-- what is said of all bytes that were read says the same where they are the whole of a source
says-at-end : (ended failed : Type 0) (census : Bool) (read written : List ℕ) (rules : Lent) (h : Purse) (s : Status) → ended → s ≢ status.Usage → s ≢ status.ReadFault → Says ⊤ failed census read written rules h s → Says ended failed census read written rules h s
says-at-end ended failed census read written rules h status.Ok at-end usage fault ((t, of), spare) = ((at-end, of), spare)
says-at-end ended failed census read written rules h (status.Leak spare stock) at-end usage fault ((t, of), leaks) = ((at-end, of), leaks)
says-at-end ended failed census read written rules h status.Usage at-end usage fault says = absurd (usage refl)
says-at-end ended failed census read written rules h (status.Script why) at-end usage fault (inl long, line, fresh) = (inl long, line, fresh)
says-at-end ended failed census read written rules h (status.Script why) at-end usage fault (inr (t, short, wrong), line, fresh) = (inr (at-end, short, wrong), line, fresh)
says-at-end ended failed census read written rules h status.ReadFault at-end usage fault says = absurd (fault refl)
says-at-end ended failed census read written rules h status.WriteFault at-end usage fault (t, of) = (at-end, of)
says-at-end ended failed census read written rules h status.NoMemory at-end usage fault (inl none) = inl none
says-at-end ended failed census read written rules h status.NoMemory at-end usage fault (inr (t, of)) = inr (at-end, of)
says-at-end ended failed census read written rules h (status.NotYet line) at-end usage fault ((t, of), told, fresh) = ((at-end, of), told, fresh)

-- the same of the answers
pub run_answers : (left left' held held' : Option (List ℕ)) (failed : Type 0) (census : Bool) (rules : Lent) (bytes read : List ℕ) (h : Purse) (s : Status) → bytes ≡ read → Consumes left left' read → IsAtEnd left' → s ≢ status.Usage → s ≢ status.ReadFault → BytesAnswered held held' failed census rules bytes h s → Answers left left' held held' failed census rules h s
run_answers left left' held held' failed census rules bytes read h s same consumed at-end usage fault answered =
    let of-read = subst (λ z. BytesAnswered held held' failed census rules z h s) same answered in
    record {
      read = read;
      written = of-read.written;
      consumed = consumed;
      appended = of-read.appended;
      says = says-at-end (IsAtEnd left') failed census read of-read.written rules h s at-end usage fault of-read.says;
    }

-- all of a source that is known was read
all-read : (bytes read : List ℕ) (left' : Option (List ℕ)) → Consumes (Some bytes) left' read → IsAtEnd left' → read ≡ bytes
all-read bytes read None consumed at-end = absurd consumed
all-read bytes read (Some rest) consumed at-end = sym (consumed ∙ (ap (λ z. read ++ z) at-end ∙ append-nil read))

-- no more was read than there was
no-more : (bytes read : List ℕ) (left' : Option (List ℕ)) → Consumes (Some bytes) left' read → length read ≤ length bytes
no-more bytes read None consumed = absurd consumed
no-more bytes read (Some rest) consumed =
    let both = ap length consumed ∙ length-append read rest in
    omega arith

-- the statements of a script that was read, or none
statements-in : Result (List Statement) ParseFault → List Statement
statements-in (Ok ss) = ss
statements-in (Err why) = []

-- the bytes were a script
was-read : Result (List Statement) ParseFault → Type 0
was-read (Ok ss) = ⊤
was-read (Err why) = ⊥

-- a run to its end wrote the whole text of the script that was read
whole-written : (held held' : Option (List ℕ)) (census : Bool) (rules : Lent) (bytes read written : List ℕ) (ss run : List Statement) (h : Purse) → read ≡ bytes → script_of bytes ≡ Ok ss → script_of read ≡ Ok run → HasRun census written rules h run → Appends held held' written → (run ≡ ss) × Appends held held' (whole_text census h.copied rules.shapes ss)
unfolding statements-in
whole-written held held' census rules bytes read written ss run h same of-bytes of-read ran a =
    let one = ap statements-in (sym of-read ∙ (ap script_of same ∙ of-bytes)) in
    (one, subst (λ z. Appends held held' (whole_text census h.copied rules.shapes z)) one (subst (Appends held held') ran.written a))

-- no line is told
is-none : Option ℕ → Type 0
is-none None = ⊤
is-none (Some line) = ⊥

-- a built script that stands in the source, by what was said at the status of a run of it
runs-of : (left' : Option (List ℕ)) (read-failed write-failed : Type 0) (held held' : Option (List ℕ)) (census : Bool) (rules : Lent) (h : Purse) (bytes read written : List ℕ) (ss : List Statement) (s : Status) → (IsAtEnd left' → read ≡ bytes) → length read ≤ length bytes → IsBuiltScript bytes ss → Appends held held' written → s ≢ status.Usage → (s ≡ status.ReadFault → read-failed) → (s ≡ status.WriteFault → write-failed) → ¬ (read-failed ⊎ write-failed) → Says (IsAtEnd left') write-failed census read written rules h s → (s ≡ status.NoMemory) ⊎ (IsDone ss s × Appends held held' (whole_text census h.copied rules.shapes ss))
unfolding statements-in was-read is-none
runs-of left' rf wf held held' census rules h bytes read written ss status.Ok same less built a usage reads writes well ((at-end, (run, script, ran)), spare) =
    let w = whole-written held held' census rules bytes read written ss run h (same at-end) built.0.1 script.0.1 ran a in
    inr (tt, w.1)
runs-of left' rf wf held held' census rules h bytes read written ss (status.Leak spare stock) same less built a usage reads writes well ((at-end, (run, script, (ran, not-bare))), leaks) =
    let w = whole-written held held' census rules bytes read written ss run h (same at-end) built.0.1 script.0.1 ran a in
    inr (subst (λ z. ¬ IsBareScript z) w.0 not-bare, w.1)
runs-of left' rf wf held held' census rules h bytes read written ss status.Usage same less built a usage reads writes well says = absurd (usage refl)
runs-of left' rf wf held held' census rules h bytes read written ss (status.Script why) same less built a usage reads writes well (inl (is, long), line, fresh) =
    let short = built.0.0 in
    absurd (omega arith)
runs-of left' rf wf held held' census rules h bytes read written ss (status.Script why) same less built a usage reads writes well (inr (at-end, short, wrong), line, fresh) =
    absurd (subst was-read (sym built.0.1 ∙ (ap script_of (sym (same at-end)) ∙ wrong)) tt)
runs-of left' rf wf held held' census rules h bytes read written ss status.ReadFault same less built a usage reads writes well says = absurd (well (inl (reads refl)))
runs-of left' rf wf held held' census rules h bytes read written ss status.WriteFault same less built a usage reads writes well says = absurd (well (inr (writes refl)))
runs-of left' rf wf held held' census rules h bytes read written ss status.NoMemory same less built a usage reads writes well says = inl refl
runs-of left' rf wf held held' census rules h bytes read written ss (status.NotYet line) same less built a usage reads writes well ((at-end, (run, script, first)), told, fresh) =
    let one : run ≡ ss = ap statements-in (sym script.1 ∙ (ap script_of (same at-end) ∙ built.0.1)) in
    absurd (subst is-none (sym built.1 ∙ (ap unbuilt_line (sym one) ∙ first)) tt)

-- a built script is run to its end, unless a device fails or memory runs out
pub runs_whole : (left left' held held' : Option (List ℕ)) (read-failed write-failed : Type 0) (census asked : Bool) (rules : Lent) (h : Purse) (s : Status) → census ≡ asked → Answers left left' held held' write-failed census rules h s → s ≢ status.Usage → (s ≡ status.ReadFault → read-failed) → (s ≡ status.WriteFault → write-failed) → RunsWhole left held held' (read-failed ⊎ write-failed) asked rules.shapes h s
runs_whole left left' held held' rf wf census asked rules h s is answers usage reads writes bytes ss there built well =
    let consumed = subst (λ z. Consumes z left' answers.read) there answers.consumed in
    subst (λ z. (s ≡ status.NoMemory) ⊎ (IsDone ss s × Appends held held' (whole_text z h.copied rules.shapes ss))) is
    (runs-of left' rf wf held held' census rules h bytes answers.read answers.written ss s
    (all-read bytes answers.read left' consumed) (no-more bytes answers.read left' consumed)
    built answers.appended usage reads writes well answers.says)
