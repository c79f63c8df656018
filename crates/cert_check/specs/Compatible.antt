-- When a new library may replace an old one.
use Rattle.std.specs.Prelude.{◌≡◌, ◌==◌, ◌&&◌, not, ℕ, Bool, false, if◌then◌else◌, List, [], ◌∷◌, length, filter_map, slice_get, slice_index_or, option_and_then, Option, Some, None}
use Rattle.std.specs.List.{range_with_len}
use Rattle.abi_types.specs.declared.library.Marks.{Marks}
use Rattle.abi_types.specs.Exports.{PlainExport}
use Rattle.abi_types.specs.Libraries.{PlainLibrary}
use Rattle.abi_types.specs.Graphs.{node_of}
use Rattle.elf_bind.specs.Binding.{bind_to}
use Rattle.pair_rules.specs.ExportRules.{export_breaks}
use Rattle.pair_rules.specs.Steps.{PlainRoot, Task}
use Rattle.pair_rules.specs.Closed.{AreCompatible}

-- two libraries, and the marks of the old one: the exports and types that are not compared
pub record Sides : Type 0 where
  pub old : PlainLibrary
  pub new : PlainLibrary
  pub marks : Marks

abbrev pub sides : PlainLibrary → PlainLibrary → Marks → Sides
sides old new marks = record { old = old; new = new; marks = marks }

-- ---- exports

-- the old export at a position is compared
pub record IsCompared (s : Sides) (k : ℕ) (e : PlainExport) : Type 0 where
  pub at : slice_get s.old.exports k ≡ Some e
  pub kept : slice_index_or s.marks.exports k false ≡ false

-- the new export to which an old one binds
abbrev pub bound : Sides → PlainExport → Option PlainExport
bound s e = option_and_then (slice_get s.new.exports) (bind_to s.new.exports e)

-- no rule of exports is broken
abbrev pub KeepsExport : PlainExport → PlainExport → Type 0
KeepsExport e f = export_breaks e f ≡ false ∷ false ∷ false ∷ []

-- the export binds, and keeps the rules of exports
pub record IsBound (s : Sides) (e : PlainExport) : Type 0 where
  pub partner : PlainExport
  pub binds : bound s e ≡ Some partner
  pub keeps : KeepsExport e partner

-- ---- typed pairs

abbrev pub is_typed : PlainExport → Bool
is_typed e = not (e.entry == 0)

abbrev pub root_with : ℕ → Option ℕ → Option ℕ → Option PlainRoot
root_with k (Some a) (Some b) = Some (record { export = k; old = a; new = b })
root_with k a b = None

abbrev pub root_to : Sides → ℕ → PlainExport → Option PlainExport → Option PlainRoot
root_to s k e None = None
root_to s k e (Some f) = if is_typed e && is_typed f then root_with k (node_of s.old.graph e.entry) (node_of s.new.graph f.entry) else None

abbrev pub root_from : Sides → ℕ → Option PlainExport → Option PlainRoot
root_from s k None = None
root_from s k (Some e) = if slice_index_or s.marks.exports k false then None else root_to s k e (bound s e)

-- the types of the old export at a position and of the one to which it binds, if it is compared and both have a type
unfoldable pub typed_root : Sides → ℕ → Option PlainRoot
typed_root s k = root_from s k (slice_get s.old.exports k)

unfoldable pub typed_roots : Sides → List PlainRoot
typed_roots s = filter_map (typed_root s) (range_with_len 0 (length s.old.exports))

abbrev pub task_of : Sides → Task
task_of s = record { old = s.old.graph; new = s.new.graph; direct = s.marks.direct; pointer = s.marks.pointer; roots = typed_roots s }

-- ---- compatible

-- The sonames agree; each compared old export binds and keeps the rules of exports; and some closed relation holds all typed pairs,
-- by value.
pub record IsCompatible (s : Sides) : Type 0 where
  pub sonames : s.old.soname ≡ s.new.soname
  pub exports : (k : ℕ) (e : PlainExport) → IsCompared s k e → IsBound s e
  pub types : AreCompatible (task_of s)
