-- The names and versions of exports, as they are kept to find one that stood before.
use Rattle.std.specs.Prelude.{◌≡◌, ℕ, Bool, ◌&&◌, List, Option, Some, None}
use Rattle.std.specs.Borrow.{Bor}
use Rattle.std.specs.List.{list_any}
use Rattle.std.specs.Str.{bytes_eq}
use Rattle.std.specs.BTreeSet.{BTreeSet, contains_by}
use Rattle.abi_types.specs.Exports.{PlainExport}
use Rattle.elf_bind.specs.Exports.{same_name}
use Rattle.elf_bind.specs.NameOrder.{code_of, name_cmp, version_cmp}

-- sets of names, each with its code, and of names with versions
abbrev pub Names : Type 0
Names = BTreeSet (ℕ × Bor (List ℕ))

abbrev pub Versioned : Type 0
Versioned = BTreeSet (ℕ × Bor (List ℕ) × Bor (List ℕ))

-- whether a code with a name is in such a set, and with a version
abbrev pub has_code : Names → ℕ → List ℕ → Bool
has_code names code name = contains_by (λ k. name_cmp code name k.0 k.1.now) names

abbrev pub has_code_version : Versioned → ℕ → List ℕ → List ℕ → Bool
has_code_version names code name version = contains_by (λ k. version_cmp code name version k.0 k.1.now k.2.now) names

-- whether a name is in such a set, and a name with a version
abbrev pub has_name : Names → List ℕ → Bool
has_name names name = has_code names (code_of name) name

abbrev pub has_version : Versioned → List ℕ → List ℕ → Bool
has_version names name version = has_code_version names (code_of name) name version

-- an export has this name and this version, or no version
abbrev pub is_like : List ℕ → Option (List ℕ) → PlainExport → Bool
is_like name version e = bytes_eq name e.name && same_name version e.version

-- the sets hold exactly the names of some exports without versions, and those with their versions
pub record EarlierExports (unversioned : Names) (versioned : Versioned) (before : List PlainExport) : Type 0 where
  pub bare : (name : List ℕ) → has_name unversioned name ≡ list_any (is_like name None) before
  pub paired : (name version : List ℕ) → has_version versioned name version ≡ list_any (is_like name (Some version)) before
