-- What was written while a script ran.
use Rattle.std.proofs.Common.{◌≡◌, ℕ, ◌+◌, ◌<◌, ◌≤◌, List, [], ◌∷◌, ◌++◌, length, drop, get_or, sym, ◌∙◌, ap, subst, append_assoc, refl, inl, inr, Bool, true, if◌then◌else◌}
use Rattle.std.specs.Prelude.{Option, Some, None}
use Rattle.std.proofs.lemmas.List.{at_drop_more}
use Rattle.std.specs.Io.KnownBytes.{Appends}
use Rattle.cow_model.specs.Env.{start}
use Rattle.cow_model.specs.Purse.{Purse}
use Rattle.cow_model.specs.Run.{run_one, text_from, text_of, env_after, bound, least}
use Rattle.cow_model.specs.declared.outcome.Environment.{Environment}
use Rattle.cow_model.specs.declared.shape.Shape.{Shape}
use Rattle.cow_model.specs.declared.statement.Statement.{Statement, out-Statement}
use Rattle.cow_views.specs.Asks.{asks_layer, asks_from, raised_by}
use Rattle.cow_eval.proofs.Asking.{raised-on}
use Rattle.cow_tasks.specs.Blocks.{unbuilt_line}
use Rattle.cow_run.specs.Answer.{Lent, stock_units, whole_text, HasRun, IsBareScript, IsLine}
use Rattle.cow_run.specs.Lines.{census_if}
use Rattle.cow_run.specs.Output.{WritesFront, WritesLine}
use Rattle.cow_run.specs.Runs.{SaysOf, SaysUnits, StatementsAnswered}
use Rattle.cow_run.specs.declared.status.Status.{Status}
use Rattle.cow_run.specs.declared.status.Status.TheVariants as status
use Rattle.cow_run.proofs.Known.{appends_more, appends_none}

-- some text was written, and what is to come completes the whole
pub record HasWritten (before now : Option (List ℕ)) (rest whole : List ℕ) : Type 0 where
  pub done : List ℕ
  pub told : done ++ rest ≡ whole
  pub appended : Appends before now done

-- what was written, and one piece more
pub written_more : (before now after : Option (List ℕ)) (one rest whole : List ℕ) → HasWritten before now (one ++ rest) whole → Appends now after one → HasWritten before after rest whole
written_more before now after one rest whole h a = record {
  done = h.done ++ one;
  told = append_assoc h.done one rest ∙ h.told;
  appended = appends_more before now after h.done one h.appended a;
}

-- what was written, and a front of the next piece
pub front_more : (before now after : Option (List ℕ)) (one rest whole : List ℕ) → HasWritten before now (one ++ rest) whole → WritesFront now after one → WritesFront before after whole
front_more before now after one rest whole h (front, is_front, a) =
    let told : (h.done ++ front) ++ (is_front.0 ++ rest) ≡ whole =
    append_assoc h.done front (is_front.0 ++ rest) ∙ (ap (λ z. h.done ++ z) (sym (append_assoc front is_front.0 rest) ∙ ap (λ z. z ++ rest) is_front.1) ∙ h.told) in
    (h.done ++ front, (is_front.0 ++ rest, told), appends_more before now after h.done front h.appended a)

-- a line that was written, whole or in part
pub line_written : (before after : Option (List ℕ)) (failed : Type 0) (text : List ℕ) → WritesLine before after failed text → (written : List ℕ) × Appends before after written × IsLine failed written text
line_written before after failed text (inl whole) = (text, whole, inl refl)
line_written before after failed text (inr (f, (front, is, a))) = (front, a, inr (f, is))

-- what is left of a block is its next statement, and what is left behind it
pub next_rest : (block : List Statement) (i : ℕ) (s : Statement) → i < length block → s ≡ get_or block i s → drop i block ≡ s ∷ drop (i + 1) block
next_rest block i s lt is = at_drop_more (λ x. x) block i s lt ∙ ap (λ x. x ∷ drop (i + 1) block) (sym is)

-- how far the statements ss were run: `rest` is left of them
pub record Stands (before now : Option (List ℕ)) (shapes : List Shape) (ss rest : List Statement) (env : Environment) : Type 0 where
  pub written : HasWritten before now (text_from env shapes rest) (text_of ss shapes)
  pub ends : env_after env shapes rest ≡ env_after start shapes ss

-- one statement more
pub stands_more : (before now after : Option (List ℕ)) (shapes : List Shape) (ss rest : List Statement) (s : Statement) (env env' : Environment) → Stands before now shapes ss (s ∷ rest) env → env' ≡ (run_one env shapes s).env → Appends now after (run_one env shapes s).text → Stands before after shapes ss rest env'
stands_more before now after shapes ss rest s env env' st is a =
    let more = written_more before now after (run_one env shapes s).text (text_from (run_one env shapes s).env shapes rest) (text_of ss shapes) st.written a in
    record {
      written = subst (λ e. HasWritten before after (text_from e shapes rest) (text_of ss shapes)) (sym is) more;
      ends = ap (λ e. env_after e shapes rest) is ∙ st.ends;
    }

-- how often rules will have been asked once the statements ss were run, of which `rest` is left
abbrev pub Asked : List Shape → List Statement → List Statement → Environment → List ℕ → List ℕ → Type 0
Asked shapes ss rest env began asked = raised_by (λ k. asks_from env shapes k rest) asked ≡ raised_by (λ k. asks_from start shapes k ss) began

-- one statement more
pub asked_more : (shapes : List Shape) (ss rest : List Statement) (s : Statement) (env env' : Environment) (began asked asked' : List ℕ) → Asked shapes ss (s ∷ rest) env began asked → env' ≡ (run_one env shapes s).env → asked' ≡ raised_by (λ k. asks_layer env shapes k (out-Statement s)) asked → Asked shapes ss rest env' began asked'
asked_more shapes ss rest s env env' began asked asked' so-far is raised =
    let here : ℕ → ℕ = λ k. asks_layer env shapes k (out-Statement s) in
    let left : ℕ → ℕ = λ k. asks_from (run_one env shapes s).env shapes k rest in
    ap (λ e. raised_by (λ k. asks_from e shapes k rest) asked') is ∙ (ap (raised_by left) raised ∙ (raised-on here left asked ∙ so-far))

-- a front of a text is one of a longer text
pub front_before : (before after : Option (List ℕ)) (text rest : List ℕ) → WritesFront before after text → WritesFront before after (text ++ rest)
front_before before after text rest (front, is_front, a) =
    (front, (is_front.0 ++ rest, sym (append_assoc front is_front.0 rest) ∙ ap (λ z. z ++ rest) is_front.1), a)

-- nothing was written of a text
pub front_none : (held : Option (List ℕ)) (text : List ℕ) → WritesFront held held text
front_none held text = ([], (text, refl), appends_none held)

-- a text was written, and a front of the next one
pub front_behind : (before now after : Option (List ℕ)) (text next : List ℕ) → Appends before now text → WritesFront now after next → WritesFront before after (text ++ next)
front_behind before now after text next a (front, is_front, b) =
    (text ++ front, (is_front.0, append_assoc text front is_front.0 ∙ ap (λ z. text ++ z) is_front.1), appends_more before now after text front a b)

-- the census with the numbers told otherwise
pub census_front : (before after : Option (List ℕ)) (census : Bool) (copied copied' most most' : ℕ) → copied ≡ copied' → most ≡ most' → WritesFront before after (census_if census copied most) → WritesFront before after (census_if census copied' most')
census_front before after census copied copied' most most' p q = subst (λ text. WritesFront before after text) (ap (λ n. census_if census n most) p ∙ ap (census_if census copied') q)

-- the text of a script was written, and then its census
pub census_written : (before now after : Option (List ℕ)) (shapes : List Shape) (ss : List Statement) (census : Bool) (copied copied' most : ℕ) → copied ≡ copied' → most ≡ bound ss shapes → Appends before now (text_of ss shapes) → Appends now after (census_if census copied most) → Appends before after (whole_text census copied' shapes ss)
census_written before now after shapes ss census copied copied' most p q text line =
    appends_more before now after (text_of ss shapes) (census_if census copied' (bound ss shapes)) text
    (subst (λ t. Appends now after t) (ap (λ n. census_if census n most) p ∙ ap (census_if census copied') q) line)

-- all that was written at the end of a run of these statements, what the holder tells of it, and how often each rule was asked
abbrev pub Ended : (before after : Option (List ℕ)) → Bool → Lent → Purse → List Statement → Type 0
Ended before after census rules h ss =
    Appends before after (whole_text census h.copied rules.shapes ss) × (h.copied ≤ bound ss rules.shapes) × (least ss rules.shapes ≤ h.copied) × (IsBareScript ss → h.spare ≡ stock_units)
    × (rules.asked_after ≡ raised_by (λ k. asks_from start rules.shapes k ss) rules.asked)

-- a run to its end says what its status tells of the units
ended-says : (before after : Option (List ℕ)) (failed : Type 0) (census : Bool) (rules : Lent) (ss : List Statement) (h : Purse) (status : Status) → Ended before after census rules h ss → unbuilt_line ss ≡ None → SaysUnits h status → SaysOf failed census rules ss (whole_text census h.copied rules.shapes ss) h status
ended-says before after failed census rules ss h status.Ok e built says = ((built, record { written = refl; least = e.2; most = e.1; asked = e.4 }), says)
ended-says before after failed census rules ss h (status.Leak spare stock) e built says =
    ((built, (record { written = refl; least = e.2; most = e.1; asked = e.4 }, λ is_bare. says.2 (says.0 ∙ (e.3 is_bare ∙ sym says.1)))), says)
ended-says before after failed census rules ss h status.Usage e built says = absurd says
ended-says before after failed census rules ss h (status.Script why) e built says = absurd says
ended-says before after failed census rules ss h status.ReadFault e built says = absurd says
ended-says before after failed census rules ss h status.WriteFault e built says = absurd says
ended-says before after failed census rules ss h status.NoMemory e built says = absurd says
ended-says before after failed census rules ss h (status.NotYet line) e built says = absurd says

-- the same of a script whose statements were run
pub run_ended : (before after : Option (List ℕ)) (failed : Type 0) (census : Bool) (rules : Lent) (ss run : List Statement) (h : Purse) (status : Status) → run ≡ ss → Ended before after census rules h run → unbuilt_line ss ≡ None → SaysUnits h status → StatementsAnswered before after failed census rules ss h status
run_ended before after failed census rules ss run h status same e built says =
    let of-all = subst (λ z. Ended before after census rules h z) same e in
    record {
      written = whole_text census h.copied rules.shapes ss;
      appended = of-all.0;
      says = ended-says before after failed census rules ss h status of-all built says;
    }
