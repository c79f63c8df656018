-- Sections that test names, and the others.
use Rattle.std.specs.Prelude.{not, Bool, true, false, List, [], if◌then◌else◌}
use Rattle.std.specs.List.{filter, list_any}
use Rattle.suppression_text.specs.declared.key.Key.{Key}
use Rattle.suppression_text.specs.declared.key.Key.TheVariants.{Label, SonameRegexp, TypeKind, AccessedThrough}
use Rattle.suppression_text.specs.Rules.{PlainProperty, PlainSection}
use Rattle.abi_types.specs.Types.{PlainLabel}

-- The property tests a name: of an export, of its symbol, of its version or of a type. The others test properties that many names
-- share: the soname, the kind of a type, and how a program reaches it.
abbrev pub asks_name : Key → Bool
asks_name Label = false
asks_name SonameRegexp = false
asks_name TypeKind = false
asks_name AccessedThrough = false
asks_name key = true

unfoldable pub asks_names : PlainSection → Bool
asks_names section = list_any (λ (p : PlainProperty). asks_name p.key) section.properties

-- The section is chosen: with `asking` one that tests names, else one that does not.
abbrev pub is_chosen : Bool → PlainSection → Bool
is_chosen asking section = if asking then asks_names section else not (asks_names section)

unfoldable pub chosen : Bool → List PlainSection → List PlainSection
chosen asking sections = filter (is_chosen asking) sections

-- one of the sections tests names
abbrev pub some_ask : List PlainSection → Bool
some_ask sections = list_any asks_names sections

-- The name that sections judge. If no section tests names, it is empty, and the kind is enough.
abbrev pub judged_label : List PlainSection → PlainLabel → PlainLabel
judged_label sections l = if some_ask sections then l else record l { name = [] }
