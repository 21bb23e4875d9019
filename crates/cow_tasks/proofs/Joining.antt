-- What a parent takes of its tasks, and assigns.
use Rattle.std.proofs.Common.{◌≡◌, ◌+◌, ◌≤◌, ◌^◌, ◌++◌, Bool, true, false, List, [], ◌∷◌, map, Result, Ok, Err, ap, sym, ◌∙◌, arith, subst, refl, if◌then◌else◌, append_assoc}
use Rattle.std.specs.Prelude.{⊤, All, IsOk, OnOk, OnErr, flat_map}
use Rattle.std.proofs.lemmas.List.{append-nil, map-append}
use Rattle.cow_model.specs.Env.{given, has_place, renamed}
use Rattle.cow_model.specs.Fork.{assigned, assigned_all}
use Rattle.cow_model.specs.Fronts.{IsFrontOf, GrowsWithin}
use Rattle.cow_model.specs.Lexis.{Text}
use Rattle.cow_model.specs.Plain.{stop}
use Rattle.cow_model.specs.Printed.{refusal}
use Rattle.cow_model.specs.Purse.{Purse, more, noted}
use Rattle.cow_model.specs.declared.memory.NoMemory.{NoMemory}
use Rattle.cow_model.specs.declared.outcome.Entry.{Entry}
use Rattle.cow_model.specs.declared.outcome.Environment.{Environment}
use Rattle.cow_model.specs.declared.outcome.Outcome.{Outcome}
use Rattle.cow_model.specs.declared.plain.Literal.{Literal}
use Rattle.cow_model.specs.declared.refusal.Refusal.TheVariants.{Full}
use Rattle.cow_model.proofs.ListSteps.{All-push}
use Rattle.std.proofs.lemmas.List.Sums.{sum_by_push}
use Rattle.cow_eval.specs.Entries.{SeenEntry, entry_of}
use Rattle.cow_eval.specs.Envs.{SeenEnv, env_of}
use Rattle.cow_eval.proofs.Results.{on-ok}
use Rattle.cow_value.specs.Seen.{units}
use Rattle.cow_tasks.specs.Joins.{AllTell, Assigns, Joins, StopsIn, TakesIn, Tells, outcome_at}
use Rattle.cow_tasks.specs.Tasks.{SeenOut}
use Rattle.cow_tasks.proofs.Capturing.{Accepts}
use Rattle.cow_tasks.proofs.Growth.{front-on, front-of}
use Rattle.cow_tasks.proofs.Names.{Near, given-has, near-of, near-from}
use Rattle.std.proofs.lemmas.List.Elements.{All-head, All-tail}

-- ---- assigning

-- the outcome at this environment and this text
abbrev at : Environment → Text → Outcome
at e text = record { env = e; text = text }

either-grows : (out : Outcome) (b : Bool) (e : Environment) → IsFrontOf out.text (if b then record out { env = e } else record out { text = out.text ++ refusal Full }).text
either-grows out true e = ([], append-nil out.text)
either-grows out false e = front-of out.text (refusal Full)

-- an entry that is assigned prints behind what there is
one-grows : (out : Outcome) (e : Entry) → IsFrontOf out.text (assigned out e).text
one-grows out e = either-grows out (has_place e.name out.env.names) (renamed (given e out.env.names) out.env)

-- and so do entries in turn
pub assigned-grows : (out : Outcome) (es : List Entry) → IsFrontOf out.text (assigned_all out es).text
assigned-grows out [] = ([], append-nil out.text)
assigned-grows out (e ∷ es) = front-on out.text (assigned out e).text (assigned_all (assigned out e) es).text (one-grows out e) (assigned-grows (assigned out e) es)

-- a text that stays is a front of itself
front-same : (said : Text) (r : Result ⊤ NoMemory) → OnErr r (IsFrontOf said said)
front-same said (Ok x) = _
front-same said (Err x) = ([], append-nil said)

module _ (p : Literal → Bool) (e : SeenEntry) (before after : SeenEnv) (said : Text) (h h' : Purse) where
  -- there is a place for its name
  pub placed : (r : Result ⊤ NoMemory) → has_place e.name (env_of before).names ≡ true → Accepts p e before after h h' r →
      Assigns p (e ∷ []) (assigned (outcome_at before said) (entry_of e)) before after said said h h' r
  placed r place accepts = rw place (record {
    done = on-ok _ _ r accepts.ok (λ put. ap (λ x. at x said) put);
    kept = front-same said r;
    grows = ([], append-nil said);
    allowed = accepts.allowed;
    copied = accepts.copied;
    falls = accepts.falls;
    near = λ m names gives. on-ok _ _ r accepts.ok (λ put. near-from m after.names _ (ap (λ x. x.names) put) (given-has (Near m) (entry_of e) (map entry_of before.names) (All-head (λ x. stop x.seen.value + m ≤ 2 ^ 31) e [] gives) (near-of m before.names names)));
    bare = λ names gives. accepts.bare names (All-head (λ x. units p x.seen ≡ 0) e [] gives);
  })

-- one entry more
pub assigned-push : (out : Outcome) (es : List Entry) (e : Entry) → assigned_all out (es ++ e ∷ []) ≡ assigned (assigned_all out es) e
assigned-push out [] e = refl
assigned-push out (x ∷ xs) e = assigned-push (assigned out x) xs e

assigned-app : (out : Outcome) (es more : List Entry) → assigned_all out (es ++ more) ≡ assigned_all (assigned_all out es) more
assigned-app out [] more = refl
assigned-app out (x ∷ xs) more = assigned-app (assigned out x) xs more

-- a front of what was printed up to an entry is one of what all entries print
pub front-assigned : (out : Outcome) (es all : List SeenEntry) (e : SeenEntry) (rest : List SeenEntry) (front : Text) → all ≡ es ++ e ∷ rest → IsFrontOf front (assigned (assigned_all out (map entry_of es)) (entry_of e)).text → IsFrontOf front (assigned_all out (map entry_of all)).text
front-assigned out es all e rest front is kept =
    let so-far = assigned (assigned_all out (map entry_of es)) (entry_of e) in
    let whole : assigned_all out (map entry_of all) ≡ assigned_all so-far (map entry_of rest) = ap (λ l. assigned_all out (map entry_of l)) is ∙ (ap (assigned_all out) (map-append entry_of es (e ∷ rest)) ∙ assigned-app out (map entry_of es) (map entry_of (e ∷ rest))) in
    subst (λ (o : Outcome). IsFrontOf front o.text) (sym whole) (front-on front so-far.text (assigned_all so-far (map entry_of rest)).text kept (assigned-grows so-far (map entry_of rest)))

-- ---- joining

-- a text stays: it grew by a front of anything
pub grows-not : (said said' whole : Text) → said' ≡ said → GrowsWithin said said' whole
grows-not said said' whole is = record { added = []; front = (whole, refl); grown = is ∙ sym (append-nil said) }

-- a text that grew by the whole
pub grows-whole : (said said' whole : Text) → said' ≡ said ++ whole → GrowsWithin said said' whole
grows-whole said said' whole is = record { added = whole; front = ([], append-nil whole); grown = is }

-- a text that grew by a front grew by a front of what goes on
pub grows-longer : (said said' whole more : Text) → GrowsWithin said said' whole → GrowsWithin said said' (whole ++ more)
grows-longer said said' whole more g = record { added = g.added; front = (g.front.0 ++ more, sym (append_assoc g.added g.front.0 more) ∙ ap (λ t. t ++ more) g.front.1); grown = g.grown }

-- a text that grew by one text, and then by a front of the next
pub grows-behind : (said now said' one next : Text) → now ≡ said ++ one → GrowsWithin now said' next → GrowsWithin said said' (one ++ next)
grows-behind said now said' one next is g = record {
  added = one ++ g.added;
  front = (g.front.0, append_assoc one g.added g.front.0 ∙ ap (λ t. one ++ t) g.front.1);
  grown = g.grown ∙ (ap (λ t. t ++ g.added) is ∙ append_assoc said one g.added);
}

-- a front of a front
pub grows-within : (said said' one whole : Text) → IsFrontOf one whole → GrowsWithin said said' one → GrowsWithin said said' whole
grows-within said said' one whole front g = record { added = g.added; front = front-on g.added one whole g.front front; grown = g.grown }

-- what is told where a call answered Ok
pub ok-told : (r : Result ⊤ NoMemory) (P : Type 0) → IsOk r → OnOk r P → P
ok-told (Ok x) P ok told = told
ok-told (Err x) P ok told = cc

-- the last of the tasks and of their whole texts
pub record Last (outs : List SeenOut) (o : SeenOut) (wholes : List Text) : Type 0 where
  pub init : List Text
  pub last : Text
  pub is : wholes ≡ init ++ last ∷ []
  pub tell : AllTell outs init
  pub tells : Tells o last

pub last-of : (outs : List SeenOut) (o : SeenOut) (wholes : List Text) → AllTell (outs ++ o ∷ []) wholes → Last outs o wholes
last-of [] o [] t = absurd t
last-of [] o (w ∷ []) t = record { init = []; last = w; is = refl; tell = _; tells = t.0 }
last-of [] o (w ∷ (v ∷ wholes)) t = absurd t.1
last-of (x ∷ xs) o [] t = absurd t
last-of (x ∷ xs) o (w ∷ wholes) t =
    let l = last-of xs o wholes t.1 in
    record { init = w ∷ l.init; last = l.last; is = ap (λ ws. w ∷ ws) l.is; tell = (t.0, l.tell); tells = l.tells }

-- texts end to end, and one more
pub texts-push : {A : Type 0} (f : A → Text) (xs : List A) (x : A) → flat_map f (xs ++ x ∷ []) ≡ flat_map f xs ++ f x
texts-push f [] x = append-nil (f x)
texts-push f (y ∷ ys) x = ap (λ t. f y ++ t) (texts-push f ys x) ∙ sym (append_assoc (f y) (flat_map f ys) (f x))

pub gives-push : (xs : List SeenOut) (x : SeenOut) → flat_map (λ o. o.gives) (xs ++ x ∷ []) ≡ flat_map (λ o. o.gives) xs ++ x.gives
gives-push [] x = append-nil x.gives
gives-push (y ∷ ys) x = ap (λ t. y.gives ++ t) (gives-push ys x) ∙ sym (append_assoc y.gives (flat_map (λ o. o.gives) ys) x.gives)

-- where no task ran out of memory the texts are the whole ones
pub whole-texts : (outs : List SeenOut) (wholes : List Text) → All (λ o. IsOk o.outcome) outs → AllTell outs wholes → flat_map (λ o. o.text) outs ≡ flat_map (λ w. w) wholes
whole-texts [] [] ok t = refl
whole-texts [] (w ∷ wholes) ok t = absurd t
whole-texts (o ∷ outs) [] ok t = absurd t
whole-texts (o ∷ outs) (w ∷ wholes) ok t =
    let one = ok-told o.outcome (o.text ≡ w) (All-head (λ x. IsOk x.outcome) o outs ok) t.0.text in
    ap (λ x. x ++ flat_map (λ o. o.text) outs) one ∙ ap (λ x. w ++ x) (whole-texts outs wholes (All-tail (λ x. IsOk x.outcome) o outs ok) t.1)

-- the text of a task is a front of its whole text
told-front : (r : Result ⊤ NoMemory) (said whole : Text) → OnOk r (said ≡ whole) → OnErr r (IsFrontOf said whole) → IsFrontOf said whole
told-front (Ok x) said whole same front = ([], append-nil said ∙ same)
told-front (Err x) said whole same front = front

module _ (ys : List SeenOut) (o : SeenOut) (said text text' : Text) (gives gives' : List SeenEntry) where
  -- one task more was taken in
  pub takes-more : (r j : Result ⊤ NoMemory) → OnOk r (IsOk j) → OnOk r (IsOk o.outcome) → OnOk r (text' ≡ text ++ o.text) → OnOk r (gives' ≡ gives ++ o.gives) →
      OnOk j (TakesIn ys said text gives) → OnOk r (TakesIn (ys ++ o ∷ []) said text' gives')
  takes-more (Err x) j before ok told given so-far = _
  takes-more (Ok x) j before ok told given so-far =
      let s = ok-told j (TakesIn ys said text gives) before so-far in
      record {
        ok = All-push (λ x. IsOk x.outcome) ys o s.ok ok;
        text = told ∙ (ap (λ t. t ++ o.text) s.text ∙ (append_assoc said (flat_map (λ x. x.text) ys) o.text ∙ ap (λ t. said ++ t) (sym (texts-push (λ (x : SeenOut). x.text) ys o))));
        given = given ∙ (ap (λ l. l ++ o.gives) s.given ∙ sym (gives-push ys o));
      }

  -- or stops the text
  pub stops-more : (r j : Result ⊤ NoMemory) → OnErr j (text' ≡ text) → OnErr r (GrowsWithin text text' o.text) →
      OnOk j (TakesIn ys said text gives) → OnErr j (StopsIn ys said text) → OnErr r (StopsIn (ys ++ o ∷ []) said text')
  stops-more (Ok x) j same grew takes stops = _
  stops-more (Err x) (Ok y) same grew takes stops = λ wholes tell.
      let l = last-of ys o wholes tell in
      let front = told-front o.outcome o.text l.last l.tells.text l.tells.kept in
      let before = whole-texts ys l.init takes.ok l.tell in
      let all : flat_map (λ x. x.text) ys ++ l.last ≡ flat_map (λ w. w) wholes =
      ap (λ t. t ++ l.last) before ∙ (sym (texts-push (λ (w : Text). w) l.init l.last) ∙ ap (flat_map (λ (w : Text). w)) (sym l.is)) in
      subst (GrowsWithin said text') all (grows-behind said text text' (flat_map (λ x. x.text) ys) l.last takes.text (grows-within text text' o.text l.last front grew))
  stops-more (Err x) (Err y) same grew takes stops = λ wholes tell.
      let l = last-of ys o wholes tell in
      let all : flat_map (λ (w : Text). w) l.init ++ l.last ≡ flat_map (λ w. w) wholes =
      sym (texts-push (λ (w : Text). w) l.init l.last) ∙ ap (flat_map (λ (w : Text). w)) (sym l.is) in
      subst (λ t. GrowsWithin said t (flat_map (λ w. w) wholes)) (sym same) (subst (GrowsWithin said text) all (grows-longer said text (flat_map (λ (w : Text). w) l.init) l.last (stops l.init l.tell)))

-- units, copies and what was allowed of one task more
pub joins-more : (ys : List SeenOut) (o : SeenOut) (before now after : SeenEnv) (h0 h h' : Purse) → Joins ys before now h0 h → h' ≡ noted o.h.copied (more o.h.spare h) → after ≡ record now { allowed = now.allowed + o.allowed } →
    Joins (ys ++ o ∷ []) before after h0 h'
joins-more ys o before now after h0 h h' so-far sum allowed =
    let spare = ap (λ x. x.spare) sum in
    let copied = ap (λ x. x.copied) sum in
    let s = so-far.spare in
    let c = so-far.copied in
    let k = so-far.kept in
    let a = so-far.allowed in
    let here = ap (λ x. x.allowed) allowed in
    record {
      spare = omega (arith, spare, s, sum_by_push (λ (x : SeenOut). x.h.spare) ys o);
      copied = omega (arith, copied, c, sum_by_push (λ (x : SeenOut). x.h.copied) ys o);
      kept = omega (arith, copied, k);
      names = ap (λ x. x.names) allowed ∙ so-far.names;
      room = ap (λ x. x.room) allowed ∙ so-far.room;
      allowed = omega (arith, here, a, sum_by_push (λ (x : SeenOut). x.allowed) ys o);
    }
