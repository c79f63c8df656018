-- The reached entries as a list by offset.
use Rattle.std.specs.Prelude.{◌&&◌, ℕ, zero, suc, Bool, false, List, length, filter, nat_eq, Some, None}
use Rattle.std.specs.List.{list_any, range_with_len}
use Rattle.dwarf_tree.specs.Trees.{PlainTree}
use Rattle.type_reach.specs.References.{Type_, types_of}

abbrev pub is_entry : ℕ → Type_ → Bool
is_entry f None = false
is_entry f (Some e) = nat_eq e f

abbrev pub refers : PlainTree → ℕ → ℕ → Bool
refers t e f = list_any (is_entry f) (types_of t e)

-- a chain of this many references leads from a root to an entry, as a test
unfoldable pub leads : PlainTree → List ℕ → ℕ → ℕ → Bool
leads t roots zero f = list_any (nat_eq f) roots
leads t roots (suc n) f = list_any (λ e. leads t roots n e && refers t e f) (range_with_len 0 (length t.entries))

-- Some chain to a reached entry has fewer references than there are entries. A law shows that this is `IsReached`.
unfoldable pub is_reached : PlainTree → List ℕ → ℕ → Bool
is_reached t roots f = list_any (λ n. leads t roots n f) (range_with_len 0 (length t.entries))

unfoldable pub reached_of : PlainTree → List ℕ → List ℕ
reached_of t roots = filter (is_reached t roots) (range_with_len 0 (length t.entries))
