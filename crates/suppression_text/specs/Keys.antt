-- The sections of a rule file and their properties, with the names that libabigail's suppression files use.
use Rattle.std.specs.Prelude.{◌==◌, ◌||◌, ℕ, Bool, true, false, List, [], ◌∷◌, Option, find, codes}
use Rattle.std.specs.Str.{bytes_eq}
use Rattle.suppression_text.specs.declared.key.SectionKind.{SectionKind}
use Rattle.suppression_text.specs.declared.key.SectionKind.TheVariants.{Functions, Variables, Types}
use Rattle.suppression_text.specs.declared.key.Key.{Key}
use Rattle.suppression_text.specs.declared.key.Key.TheVariants.{Label, Name, NameRegexp, NameNotRegexp, SymbolName, SymbolNameRegexp, SymbolVersion, SymbolVersionRegexp, SonameRegexp, TypeKind, AccessedThrough}

-- ---- names

abbrev pub section_word : SectionKind → List ℕ
section_word Functions = codes "suppress_function"
section_word Variables = codes "suppress_variable"
section_word Types = codes "suppress_type"

abbrev pub section_kinds : List SectionKind
section_kinds = Functions ∷ Variables ∷ Types ∷ []

-- the kind of section that has this name
unfoldable pub section_named : List ℕ → Option SectionKind
section_named name = find (λ kind. bytes_eq name (section_word kind)) section_kinds

abbrev pub key_word : Key → List ℕ
key_word Label = codes "label"
key_word Name = codes "name"
key_word NameRegexp = codes "name_regexp"
key_word NameNotRegexp = codes "name_not_regexp"
key_word SymbolName = codes "symbol_name"
key_word SymbolNameRegexp = codes "symbol_name_regexp"
key_word SymbolVersion = codes "symbol_version"
key_word SymbolVersionRegexp = codes "symbol_version_regexp"
key_word SonameRegexp = codes "soname_regexp"
key_word TypeKind = codes "type_kind"
key_word AccessedThrough = codes "accessed_through"

abbrev pub keys : List Key
keys = Label ∷ Name ∷ NameRegexp ∷ NameNotRegexp ∷ SymbolName ∷ SymbolNameRegexp ∷ SymbolVersion ∷ SymbolVersionRegexp ∷ SonameRegexp ∷ TypeKind ∷ AccessedThrough ∷ []

-- the property that has this name
unfoldable pub key_named : List ℕ → Option Key
key_named name = find (λ key. bytes_eq name (key_word key)) keys

-- ---- values

-- the value of the property is a pattern
abbrev pub has_pattern : Key → Bool
has_pattern NameRegexp = true
has_pattern NameNotRegexp = true
has_pattern SymbolNameRegexp = true
has_pattern SymbolVersionRegexp = true
has_pattern SonameRegexp = true
has_pattern key = false

-- the word names a kind of type
unfoldable pub is_type_word : List ℕ → Bool
is_type_word word = bytes_eq word (codes "struct") || (bytes_eq word (codes "union") || (bytes_eq word (codes "enum") || (bytes_eq word (codes "typedef") || bytes_eq word (codes "builtin"))))

-- the word names a way
unfoldable pub is_way_word : List ℕ → Bool
is_way_word word = bytes_eq word (codes "direct") || bytes_eq word (codes "pointer")

-- The property may have the value. Most properties take any text; whether a text is a pattern is checked elsewhere.
abbrev pub takes_value : Key → List ℕ → Bool
takes_value TypeKind value = is_type_word value
takes_value AccessedThrough value = is_way_word value
takes_value key value = true

-- ---- which sections have which properties

-- the properties that sections on functions and on variables may have
abbrev pub is_of_exports : Key → Bool
is_of_exports TypeKind = false
is_of_exports AccessedThrough = false
is_of_exports key = true

-- the properties that sections on types may have
abbrev pub is_of_types : Key → Bool
is_of_types SymbolName = false
is_of_types SymbolNameRegexp = false
is_of_types SymbolVersion = false
is_of_types SymbolVersionRegexp = false
is_of_types key = true

abbrev pub has_key : SectionKind → Key → Bool
has_key Functions key = is_of_exports key
has_key Variables key = is_of_exports key
has_key Types key = is_of_types key

-- ---- one property and another

abbrev pub is_label : Key → Bool
is_label Label = true
is_label key = false

-- the position of a property in the list of all properties
abbrev pub key_place : Key → ℕ
key_place Label = 0
key_place Name = 1
key_place NameRegexp = 2
key_place NameNotRegexp = 3
key_place SymbolName = 4
key_place SymbolNameRegexp = 5
key_place SymbolVersion = 6
key_place SymbolVersionRegexp = 7
key_place SonameRegexp = 8
key_place TypeKind = 9
key_place AccessedThrough = 10

abbrev pub same_key : Key → Key → Bool
same_key one other = key_place one == key_place other
