-- The limits on a graph of types: what each counts, and how much it allows for a file of this size in bytes.
use Rattle.std.specs.Prelude.{◌≡◌, ◌<◌, ◌≤◌, ℕ, ◌⊎◌, List, length, sum_by}
use Rattle.abi_base.specs.declared.limit.Limit.{Limit}
use Rattle.abi_base.specs.declared.limit.Limit.TheVariants as limit
use Rattle.abi_base.specs.Budgets.{allowed}
use Rattle.dwarf_entries.specs.Debug.{PlainDwarf}
use Rattle.type_reach.specs.ReachedList.{reached_of}
use Rattle.type_reach.specs.TypeReferences.{references_count}
use Rattle.type_graph.specs.Counts.{parts_in_all, members_in_all, member_letters_in_all, enumerators_in_all, enumerator_letters_in_all, type_letters, names_held}
use Rattle.type_graph.specs.Nodes.{made_nodes}

-- the letters of the tags and of the names of all types
abbrev pub type_letters_in_all : PlainDwarf → List ℕ → ℕ
type_letters_in_all d found = sum_by type_letters (made_nodes d found)

-- how many names all types have
abbrev pub names_in_all : PlainDwarf → List ℕ → ℕ
names_in_all d found = sum_by names_held (made_nodes d found)

-- ---- the limits that one step passes, for the entries that were found

abbrev pub EnumeratorsPass : PlainDwarf → List ℕ → ℕ → Limit → Type 0
EnumeratorsPass d found bytes l =
    ((l ≡ limit.Enumerators) × (allowed limit.Enumerators bytes < enumerators_in_all d found))
    ⊎ ((l ≡ limit.Letters) × (allowed limit.Letters bytes < enumerator_letters_in_all d found))

abbrev pub PartsPass : PlainDwarf → List ℕ → ℕ → Limit → Type 0
PartsPass d found bytes l =
    ((l ≡ limit.Members) × (allowed limit.Members bytes < members_in_all d found))
    ⊎ ((l ≡ limit.Letters) × (allowed limit.Letters bytes < member_letters_in_all d found))

abbrev pub NodesPass : PlainDwarf → List ℕ → ℕ → Limit → Type 0
NodesPass d found bytes l =
    ((l ≡ limit.Letters) × (allowed limit.Letters bytes < type_letters_in_all d found))
    ⊎ ((l ≡ limit.TypeNames) × (allowed limit.TypeNames (length found) < names_in_all d found))

-- ---- all limits

-- The limit that the types of these entries pass. The letters of enumerators, of members and of types count each for themselves.
abbrev pub TypesPass : PlainDwarf → List ℕ → ℕ → Limit → Type 0
TypesPass d found bytes limit.Types = allowed limit.Types bytes < length found
TypesPass d found bytes limit.Members = (allowed limit.Members bytes < references_count d.tree found) ⊎ (allowed limit.Members bytes < members_in_all d found)
TypesPass d found bytes limit.Enumerators = allowed limit.Enumerators bytes < enumerators_in_all d found
TypesPass d found bytes limit.Letters =
    (allowed limit.Letters bytes < enumerator_letters_in_all d found)
    ⊎ ((allowed limit.Letters bytes < member_letters_in_all d found) ⊎ (allowed limit.Letters bytes < type_letters_in_all d found))
TypesPass d found bytes limit.TypeNames = allowed limit.TypeNames (length found) < names_in_all d found
TypesPass d found bytes others = ⊥

-- the limit that the types pass which these roots reach
abbrev pub GraphPasses : PlainDwarf → List ℕ → ℕ → Limit → Type 0
GraphPasses d roots bytes l = TypesPass d (reached_of d.tree roots) bytes l

-- the types of these entries pass no limit
pub record KeepTypeLimits (d : PlainDwarf) (found : List ℕ) (bytes : ℕ) : Type 0 where
  pub types : length found ≤ allowed limit.Types bytes
  pub references : references_count d.tree found ≤ allowed limit.Members bytes
  pub members : members_in_all d found ≤ allowed limit.Members bytes
  pub parts : parts_in_all d found ≤ allowed limit.Members bytes
  pub enumerators : enumerators_in_all d found ≤ allowed limit.Enumerators bytes
  pub enumerator_letters : enumerator_letters_in_all d found ≤ allowed limit.Letters bytes
  pub member_letters : member_letters_in_all d found ≤ allowed limit.Letters bytes
  pub type_letters : type_letters_in_all d found ≤ allowed limit.Letters bytes
  pub names : names_in_all d found ≤ allowed limit.TypeNames (length found)
