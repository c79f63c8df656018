-- The first of several entries or units.
use Rattle.std.specs.Prelude.{◌≡◌, ◌<◌, ◌≤◌, ℕ, Bool, true, length, Some}
use Rattle.dwarf_tree.specs.Trees.{PlainTree, entry_at, head_at, entry_of}
use Rattle.dwarf_entries.specs.Chains.{has_signature}

-- An entry passes a test, and comes before any other that passes it.
pub record IsFirstEntry (t : PlainTree) (passes : ℕ → Bool) (e : ℕ) : Type 0 where
  pub inside : e < length t.entries
  pub itself : passes e ≡ true
  pub least : (f : ℕ) → f < length t.entries → passes f ≡ true → (entry_at t e).offset ≤ (entry_at t f).offset

-- An entry is the type entry of a unit with a signature, and the unit comes before any other with the signature.
pub record IsOfFirstUnit (t : PlainTree) (signature e : ℕ) : Type 0 where
  pub unit : ℕ
  pub inside : unit < length t.units
  pub signed : has_signature signature (head_at t unit) ≡ true
  pub least : (other : ℕ) → other < length t.units → has_signature signature (head_at t other) ≡ true → (head_at t unit).offset ≤ (head_at t other).offset
  pub type : entry_of t (head_at t unit).type_entry ≡ Some e
