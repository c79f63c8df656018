-- Binding among the positions of the exports of one name.
use Rattle.std.specs.Prelude.{◌≡◌, ℕ, ◌==◌, Bool, false, if◌then◌else◌, List, slice_get, find, position, count_by, Option, Some, None}
use Rattle.std.specs.BTreeMap.{BTreeMap, get}
use Rattle.std.specs.Option.{option_or, option_map_or}
use Rattle.std.specs.Ordering.{nat_cmp}
use Rattle.abi_types.specs.Exports.{PlainExport}
use Rattle.abi_types.specs.Names.{name_at}
use Rattle.elf_bind.specs.Binding.{has_version, has_first_version, is_default_version, only_default_version}

-- an export stands at a position and passes a test
abbrev pub passes_at : (PlainExport → Bool) → List PlainExport → ℕ → Bool
passes_at test exports place = option_map_or test (slice_get exports place) false

-- the only one of these positions at which an export of this name has a default version
abbrev pub only_default_version_among : List ℕ → List ℕ → List PlainExport → Option ℕ
only_default_version_among name places offered =
    if count_by (passes_at (is_default_version name) offered) places == 1 then find (passes_at (is_default_version name) offered) places else None

-- the one of these positions that an export of this name without a version binds to, where each export there has a version
abbrev pub some_version_among : List ℕ → List ℕ → List PlainExport → Option ℕ
some_version_among name places offered = option_or (find (passes_at (has_first_version name) offered) places) (only_default_version_among name places offered)

-- what such an export binds to among all exports
abbrev pub some_version_of : List ℕ → List PlainExport → Option ℕ
some_version_of name offered = option_or (position (has_first_version name) offered) (only_default_version name offered)

-- what an export of this name without a version binds to
abbrev pub bind_unversioned : List ℕ → List PlainExport → Option ℕ
bind_unversioned name offered = option_or (position (has_version name None) offered) (some_version_of name offered)

-- each answer that stands under a position is that for the name of the export there
pub record AreAnswers (answers : BTreeMap ℕ (Option ℕ)) (offered : List PlainExport) : Type 0 where
  pub each : (k : ℕ) (answer : Option ℕ) → get nat_cmp answers k ≡ Some answer → answer ≡ some_version_of (name_at offered k) offered
