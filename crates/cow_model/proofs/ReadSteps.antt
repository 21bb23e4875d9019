-- Whatever a reader reads has a property: how that passes on through the steps of a reader.
use Rattle.std.proofs.Common.{◌≡◌, refl, List, [], ◌∷◌, Bool, true, false}
use Rattle.std.specs.Prelude.{Result, Ok, Err, IfOk, if◌then◌else◌}
use Rattle.cow_model.specs.declared.fault.Flaw.{Flaw}
use Rattle.cow_model.specs.Lexis.{Text}
use Rattle.cow_model.specs.Readers.{Reader, and_then, ◌>>=◌, due}

-- whatever is read has P
abbrev pub Reads : {A : Type 0} → (A → Type 0) → Reader A → Type 0
Reads P reader = (tokens : List Text) → IfOk (reader tokens) (λ x. P x.0)

-- a second step, of which nothing but what the first one answered is known
pub and_then_if : {A B : Type 0} (P : A → Type 0) (Q : B → Type 0) (r : Result A Flaw) (next : A → Result B Flaw) → IfOk r P → ((x : A) → P x → IfOk (next x) Q) → IfOk (and_then r next) Q
and_then_if P Q (Ok x) next p q = q x p
and_then_if P Q (Err flaw) next p q = tt

-- a second step that needs nothing of the first
pub and_then_any : {A B : Type 0} (Q : B → Type 0) (r : Result A Flaw) (next : A → Result B Flaw) → ((x : A) → IfOk (next x) Q) → IfOk (and_then r next) Q
and_then_any Q (Ok x) next q = q x
and_then_any Q (Err flaw) next q = tt

-- two branches
pub either_if : {A : Type 0} (Q : A → Type 0) (b : Bool) (x y : Result A Flaw) → IfOk x Q → IfOk y Q → IfOk (if b then x else y) Q
either_if Q true x y p q = p
either_if Q false x y p q = q

-- a branch that a test leads to
pub where_if : {A : Type 0} (Q : A → Type 0) (b : Bool) (x y : Result A Flaw) → (b ≡ true → IfOk x Q) → IfOk y Q → IfOk (if b then x else y) Q
where_if Q true x y p q = p refl
where_if Q false x y p q = q

-- one of two readers
pub reads_either : {A : Type 0} (P : A → Type 0) (b : Bool) (x y : Reader A) → Reads P x → Reads P y → Reads P (if b then x else y)
reads_either P true x y p q = p
reads_either P false x y p q = q

-- one reader, and then another, which needs what the first has read
pub reads_then : {A B : Type 0} (P : A → Type 0) (Q : B → Type 0) (reader : Reader A) (next : A → Reader B) → Reads P reader → ((x : A) → P x → Reads Q (next x)) → Reads Q (reader >>= next)
reads_then P Q reader next p q tokens = and_then_if (λ x. P x.0) (λ x. Q x.0) (reader tokens) (λ x. next x.0 x.1) (p tokens) (λ x h. q x.0 h x.1)

-- one reader, and then another, which needs nothing of the first
pub reads_next : {A B : Type 0} (Q : B → Type 0) (reader : Reader A) (next : A → Reader B) → ((x : A) → Reads Q (next x)) → Reads Q (reader >>= next)
reads_next Q reader next q tokens = and_then_any (λ x. Q x.0) (reader tokens) (λ x. next x.0 x.1) (λ x. q x.0 x.1)

-- one token
pub reads_due : {A : Type 0} (P : A → Type 0) (read : Text → Result A Flaw) → ((token : Text) → IfOk (read token) P) → Reads P (due read)
reads_due P read p [] = tt
reads_due P read p (token ∷ tokens) = and_then_if P (λ x. P x.0) (read token) (λ x. Ok (x, tokens)) (p token) (λ x h. h)

-- what everything has, whatever is there has
always_if : {A : Type 0} (P : A → Type 0) (r : Result A Flaw) → ((x : A) → P x) → IfOk r P
always_if P (Ok x) p = p x
always_if P (Err flaw) p = tt

-- what everything has, whatever is read has
pub reads_any : {A : Type 0} (P : A → Type 0) (reader : Reader A) → ((x : A) → P x) → Reads P reader
reads_any P reader p tokens = always_if (λ x. P x.0) (reader tokens) (λ x. p x.0)
