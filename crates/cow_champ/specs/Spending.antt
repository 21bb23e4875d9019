-- How a call on a node moves a holder.
use Rattle.std.specs.Prelude.{ℕ, ◌+◌, ◌-◌, ◌*◌, ◌≤◌, ◌==◌, List}
use Rattle.cow_model.specs.Canon.{Tree, count_where}
use Rattle.cow_model.specs.Purse.{Purse}
use Rattle.cow_model.specs.declared.plain.Literal.{Literal}
use Rattle.cow_model.specs.declared.value.Pair.{Pair}
use Rattle.cow_champ.specs.Words.{size}

-- spare falls by at most `units`, and copied rises by at most `copies`
pub record Spends (units copies : ℕ) (before after : Purse) : Type 0 where
  pub falls : before.spare ≤ after.spare + units
  pub copied : after.copied ≤ before.copied + copies
  pub kept : before.copied ≤ after.copied

-- the entries and the children of one node
pub record Own : Type 0 where
  pub held : ℕ
  pub linked : ℕ

-- the spare that a copy of one node takes, and the handle of it
abbrev pub unshared : Own → ℕ
unshared o = 2 * o.held + o.linked + 1

-- a copy of one node, whose pairs are of weight w: its entries are copied, and its children get a handle more
abbrev pub CopiesNode : ℕ → Own → (before after : Purse) → Type 0
CopiesNode w o = Spends (2 * o.held + o.linked) (w * o.held)

-- the same with its handle
abbrev pub Unshares : ℕ → Own → (before after : Purse) → Type 0
Unshares w o = Spends (unshared o) (w * o.held)

-- the spare that `put` takes at a level, by the number of pairs
abbrev pub put_need : ℕ → ℕ → ℕ
put_need level n = 4 * n + 4 * (14 - level)

-- `put` at a level: at most the whole is copied
abbrev pub Puts : (w level : ℕ) → Tree → (before after : Purse) → Type 0
Puts w level s = Spends (put_need level (size s)) (w * size s)

-- the same of a node for whose copy was paid
abbrev pub PutsIn : (w level : ℕ) → Tree → Own → (before after : Purse) → Type 0
PutsIn w level s o = Spends (put_need level (size s) - unshared o) (w * (size s - o.held))

-- the entries on the path to a hash, from a level on, and the pairs of that hash
abbrev pub on_path : (Literal → ℕ) → ℕ → ℕ → List Pair → ℕ
on_path hash_of level hash ps = 32 * (7 - level) + count_where (λ p. hash_of p.key == hash) ps

-- at most n pairs of weight w are copied
abbrev pub Copies : (w n : ℕ) → (before after : Purse) → Type 0
Copies w n before after = after.copied ≤ before.copied + w * n

-- the spare that `build` takes at a level beside its handle, by the number of pairs
abbrev pub build_need : ℕ → ℕ → ℕ
build_need level n = (14 - level) * n
