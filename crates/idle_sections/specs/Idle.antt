-- The idle sections of a rule file: those that match nothing in a library.
use Rattle.std.specs.Prelude.{◌≡◌, ◌<◌, ◌≤◌, ◌+◌, ◌-◌, ◌*◌, ◌^◌, ◌||◌, ℕ, Bool, not, List, length, min, Option, filter, flat_map, sum_by}
use Rattle.std.specs.List.{list_any}
use Rattle.abi_base.specs.declared.limit.Limit.{Limit}
use Rattle.abi_base.specs.declared.limit.Limit.TheVariants as limit
use Rattle.abi_base.specs.Budgets.{allowed}
use Rattle.abi_types.specs.declared.kind.Way.TheVariants.{Direct, Pointer}
use Rattle.abi_types.specs.Exports.{PlainExport}
use Rattle.abi_types.specs.Libraries.{PlainLibrary}
use Rattle.abi_types.specs.Types.{PlainLabel, PlainNode}
use Rattle.suppression_text.specs.Rules.{PlainRules, PlainSection}
use Rattle.suppressions.specs.Meaning.{section_holds}
use Rattle.suppressions.specs.Subjects.{export_subject, label_subject}

-- the section matches an export of a library that has this soname
abbrev pub holds_of_export : PlainSection → Option (List ℕ) → PlainExport → Bool
holds_of_export section soname e = section_holds (export_subject soname e) section

-- it matches a name of a type, for a program that reaches the type by value or through a pointer
abbrev pub holds_of_label : PlainSection → Option (List ℕ) → PlainLabel → Bool
holds_of_label section soname l = section_holds (label_subject soname Direct l) section || section_holds (label_subject soname Pointer l) section

-- all names of all types
abbrev pub all_labels : List PlainNode → List PlainLabel
all_labels nodes = flat_map (λ (n : PlainNode). n.labels) nodes

-- it matches an export of the library, or a name of one of its types
unfoldable pub holds_in : PlainLibrary → PlainSection → Bool
holds_in library section = list_any (holds_of_export section library.soname) library.exports || list_any (holds_of_label section library.soname) (all_labels library.graph)

-- the sections that match nothing, in the order of the rule file
unfoldable pub idle_of : PlainRules → PlainLibrary → List PlainSection
idle_of rules library = filter (λ section. not (holds_in library section)) rules.sections

-- ---- the limit

abbrev pub label_count : PlainNode → ℕ
label_count n = length n.labels

-- the most tests that one section takes: one for each export, and two for each name, where a name of several types may count once
abbrev pub most_tests : PlainLibrary → ℕ
most_tests library = length library.exports + 2 * sum_by label_count library.graph

-- The limit is that on tests, and all sections together, each with this number of tests, take more than it allows.
abbrev pub PassesTests : PlainRules → PlainLibrary → Limit → Type 0
PassesTests rules library l =
    (l ≡ limit.IdleSections)
    × ((tests : ℕ) × (tests ≤ most_tests library) × (allowed limit.IdleSections (min (length rules.sections + tests) (2 ^ 38 - 1)) < length rules.sections * tests))
