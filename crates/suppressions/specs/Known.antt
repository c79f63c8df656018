-- A search tree that keeps how the names of types are marked: no choice of names makes a look-up long.
use Rattle.std.specs.Prelude.{◌≡◌, ℕ, List, Option, Some}
use Rattle.std.specs.Borrow.{Bor}
use Rattle.std.specs.BTreeMap.{BTreeMap, get_by}
use Rattle.std.specs.Cmp.Lexicographic.{slice_cmp}
use Rattle.std.specs.Ordering.{nat_cmp, ordering_then}
use Rattle.std.specs.declared.cmp.Ordering.{Ordering}
use Rattle.abi_types.specs.declared.kind.LabelKind.{LabelKind}
use Rattle.abi_types.specs.declared.kind.LabelKind.TheVariants.{Structure, Union, Enumeration, Typedef, Builtin}
use Rattle.abi_types.specs.declared.kind.Way.TheVariants.{Direct, Pointer}
use Rattle.abi_types.specs.Types.{PlainLabel}
use Rattle.suppression_text.specs.Rules.{PlainSection}
use Rattle.suppressions.specs.declared.accessed_through.MarkedByWay.{MarkedByWay}
use Rattle.suppressions.specs.Meaning.{marks_name, marks_names}

-- the number of a kind of names
abbrev pub kind_number : LabelKind → ℕ
kind_number Structure = 0
kind_number Union = 1
kind_number Enumeration = 2
kind_number Typedef = 3
kind_number Builtin = 4

-- the order of a kind with a name: by the numbers of the kinds, and for one kind by the bytes of the names
abbrev pub name_cmp : ℕ → List ℕ → ℕ → List ℕ → Ordering
name_cmp kind name k n = ordering_then (nat_cmp kind k) (slice_cmp nat_cmp name n)

-- a map from the kind and the name of a label to how sections mark it
abbrev pub Known : Type 0
Known = BTreeMap (ℕ × Bor (List ℕ)) MarkedByWay

abbrev pub known_of : Known → PlainLabel → Option MarkedByWay
known_of known l = get_by (λ k. name_cmp (kind_number l.kind) l.name k.0 k.1.now) known

-- how sections mark a name: by value, and through a pointer
abbrev pub name_ways : List PlainSection → Option (List ℕ) → PlainLabel → MarkedByWay
name_ways sections soname l = record { direct = marks_name sections soname Direct l; pointer = marks_name sections soname Pointer l }

-- how sections mark a type that has these names
abbrev pub names_ways : List PlainSection → Option (List ℕ) → List PlainLabel → MarkedByWay
names_ways sections soname labels = record { direct = marks_names sections soname Direct labels; pointer = marks_names sections soname Pointer labels }

-- each entry of the map says how the sections mark the name
abbrev pub IsKnown : List PlainSection → Option (List ℕ) → Known → Type 0
IsKnown sections soname known = (l : PlainLabel) (ways : MarkedByWay) → known_of known l ≡ Some ways → ways ≡ name_ways sections soname l
