-- Marks that mark nothing.
use Rattle.std.specs.Prelude.{◌≡◌, ℕ, false, List, [], slice_index_or}
use Rattle.abi_types.specs.declared.library.Marks.{Marks}

-- no export is dropped, and no node is marked at either way
pub record MarkNothing (m : Marks) : Type 0 where
  pub exports : (k : ℕ) → slice_index_or m.exports k false ≡ false
  pub direct : (a : ℕ) → slice_index_or m.direct a false ≡ false
  pub pointer : (a : ℕ) → slice_index_or m.pointer a false ≡ false

-- marks that mark nothing, for the rule text with this digest
abbrev pub empty_marks : List ℕ → Marks
empty_marks digest = record { digest = digest; exports = []; direct = []; pointer = [] }
