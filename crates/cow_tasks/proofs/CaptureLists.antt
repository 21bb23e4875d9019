-- Captures in turn, and the texts that they print.
use Rattle.std.proofs.Common.{◌≡◌, ◌++◌, Bool, true, false, List, [], ◌∷◌, Option, Some, None, ap, ◌∙◌, refl, append_assoc}
use Rattle.std.proofs.lemmas.List.{append-nil}
use Rattle.cow_model.specs.Env.{entry_of}
use Rattle.cow_model.specs.Fork.{captured, captured_all, captured_by, forked, forked_on}
use Rattle.cow_model.specs.Fronts.{IsFrontOf}
use Rattle.cow_model.specs.Lexis.{Text}
use Rattle.cow_model.specs.Printed.{refusal}
use Rattle.cow_model.specs.declared.fork.Captured.{Captured}
use Rattle.cow_model.specs.declared.fork.Forked.{Forked}
use Rattle.cow_model.specs.declared.outcome.Entry.{Entry}
use Rattle.cow_model.specs.declared.refusal.Refusal.TheVariants.{NoName}
use Rattle.cow_model.specs.declared.statement.Capture.{Capture}
use Rattle.cow_model.specs.declared.statement.TaskBlock.{TaskBlock}
use Rattle.cow_tasks.proofs.Growth.{front-on, front-of}

-- a text before what captures print
abbrev pub behind : Text → Captured → Captured
behind said c = record c { text = said ++ c.text }

one-behind : (said : Text) (c : Captured) (moves : Bool) (name : Text) (found : Option Entry) → captured (behind said c) (record { moves = moves; name = name }) found ≡ behind said (captured c (record { moves = moves; name = name }) found)
one-behind said c moves name None = ap {B = Captured} (λ t. record c { text = t }) (append_assoc said c.text (refusal NoName))
one-behind said c true name (Some e) = refl
one-behind said c false name (Some e) = refl

-- captures print the same, whatever stands before
pub all-behind : (said : Text) (c : Captured) (captures : List Capture) → captured_all (behind said c) captures ≡ behind said (captured_all c captures)
all-behind said c [] = refl
all-behind said c (x ∷ xs) = ap (λ d. captured_all d xs) (one-behind said c x.moves x.name (entry_of x.name c.parent)) ∙ all-behind said (captured c x (entry_of x.name c.parent)) xs

-- a capture prints behind what there is
pub one-grows : (c : Captured) (moves : Bool) (name : Text) (found : Option Entry) → IsFrontOf c.text (captured c (record { moves = moves; name = name }) found).text
one-grows c moves name None = front-of c.text (refusal NoName)
one-grows c true name (Some e) = ([], append-nil c.text)
one-grows c false name (Some e) = ([], append-nil c.text)

-- captures print behind what there is
pub all-grows : (c : Captured) (captures : List Capture) → IsFrontOf c.text (captured_all c captures).text
all-grows c [] = ([], append-nil c.text)
all-grows c (x ∷ xs) =
    let next = captured c x (entry_of x.name c.parent) in
    front-on c.text next.text (captured_all next xs).text (one-grows c x.moves x.name (entry_of x.name c.parent)) (all-grows next xs)

-- the captures of a fork print behind what there is
pub forks-grow : (f : Forked) (tasks : List TaskBlock) → IsFrontOf f.text (forked f tasks).text
forks-grow f [] = ([], append-nil f.text)
forks-grow f (t ∷ ts) =
    let next = forked_on f (captured_by f.parent t) in
    front-on f.text next.text (forked next ts).text (front-of f.text (captured_by f.parent t).text) (forks-grow next ts)

-- a text before what the captures of a fork print
abbrev pub fork-behind : Text → Forked → Forked
fork-behind said f = record f { text = said ++ f.text }

-- they print the same, whatever stands before
pub forks-behind : (said : Text) (f : Forked) (tasks : List TaskBlock) → forked (fork-behind said f) tasks ≡ fork-behind said (forked f tasks)
forks-behind said f [] = refl
forks-behind said f (t ∷ ts) =
    let c = captured_by f.parent t in
    ap (λ text. forked (record { parent = c.parent; text = text; tasks = f.tasks ++ c.names ∷ [] }) ts) (append_assoc said f.text c.text) ∙ forks-behind said (forked_on f c) ts
