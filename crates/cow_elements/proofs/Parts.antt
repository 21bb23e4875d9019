-- Whether a statement leaves a value alone that wasn't, by the value that it leaves.
use Rattle.std.proofs.Common.{◌≡◌, Bool, true, false, not, ◌&&◌, cond, Ok, Err}
use Rattle.std.specs.Prelude.{nat_le}
use Rattle.cow_model.specs.Operation as operation
use Rattle.cow_model.specs.Lexis.{Text}
use Rattle.cow_model.specs.Plain.{count, max_count, same_plain}
use Rattle.cow_model.specs.Turns.{Turn, tells_of}
use Rattle.cow_model.specs.declared.refusal.Refusal.TheVariants.{Full}
use Rattle.cow_model.specs.declared.value.Plain.{Plain}

-- of one that isn't refused
pub told-of : (told : Bool) (t : Turn) (v w : Plain) (reply : Text) → told ≡ (t.parts v && not (same_plain v w)) → tells_of told t v (operation.fitting (Ok (record { value = w; reply = reply })))
told-of told t v w reply e =
    elim (nat_le (count w) max_count) as (λ b. tells_of told t v (cond {A = operation.Answer} b (Ok (record { value = w; reply = reply })) (Err Full)))
    [ true ↦ e | false ↦ tt ]
