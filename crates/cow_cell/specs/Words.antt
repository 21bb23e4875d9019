-- The words in which contracts speak of a handle.
use Rattle.std.specs.Prelude.{◌≡◌, true, false}
use denote.RawPtr.{Ptr}
use Rattle.cow_cell.specs.declared.counted.Counted.{Counted}

module _ {X Q : Type 0} where
  -- the same block in a handle that is not alone
  abbrev pub unsure : Counted X Q → Counted X Q
  unsure c = record c { alone = false }

  -- an alone handle of the same block that shows w
  abbrev pub holding : X → Counted X Q → Counted X Q
  holding w c = record c { value = w; alone = true }

  -- the handle shows v and is alone
  pub record Holds (v : X) (c : Counted X Q) : Type 0 where
    pub value : c.value ≡ v
    pub alone : c.alone ≡ true

  -- the name of the block
  abbrev pub block : Counted X Q → Ptr
  block c = c.at
