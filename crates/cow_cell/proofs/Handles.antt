-- What the layers above cite of handles.
use Rattle.std.proofs.Common.{◌≡◌, true, refl}
use Rattle.cow_cell.specs.declared.counted.Counted.{Counted}
use Rattle.cow_cell.specs.Words.{holding}

-- an alone handle that shows what it showed is the same
pub holding-same : {X Q : Type 0} (w : X) (c : Counted X Q) → w ≡ c.value → c.alone ≡ true → holding w c ≡ c
holding-same w c e a = rw (e, ← a) refl
