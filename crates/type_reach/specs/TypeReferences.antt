-- The types to which found entries lead.
use Rattle.std.specs.Prelude.{◌≡◌, ◌<◌, ℕ, List, length, map, sum_by, All, Contains}
use Rattle.abi_base.specs.declared.limit.Limit.{Limit}
use Rattle.abi_base.specs.declared.limit.Limit.TheVariants as limit
use Rattle.dwarf_tree.specs.Trees.{PlainTree}
use Rattle.type_reach.specs.declared.type_references.TypeReferences.{TypeReferences}
use Rattle.type_reach.specs.References.{parts_of, types_of}
use Rattle.type_reach.specs.Views.{is_variadic}

-- the parts and the types of all found entries, and which of them are variadic functions, by number
pub record AreTypeReferences (t : PlainTree) (found : List ℕ) (leads : TypeReferences) : Type 0 where
  pub parts : leads.parts ≡ map (parts_of t) found
  pub types : leads.types ≡ map (types_of t) found
  pub variadic : leads.variadic.items ≡ map (is_variadic t) found
  pub inside : (e : ℕ) → Contains found e → All (λ (c : ℕ). c < length t.entries) (parts_of t e)

-- ---- the limit

-- how many members and parameters the found entries have in all
abbrev pub references_count : PlainTree → List ℕ → ℕ
references_count t found = sum_by (λ e. length (parts_of t e)) found

-- The limit is that on members, and the found entries have more than this many members and parameters.
abbrev pub PassesReferences : PlainTree → List ℕ → ℕ → Limit → Type 0
PassesReferences t found most l = (l ≡ limit.Members) × (most < references_count t found)
