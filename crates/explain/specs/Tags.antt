-- Tags that no structure has, and the tags that are similar.
use Rattle.std.specs.Prelude.{ℕ, Bool, true, false, List, [], ◌∷◌, codes, filter, flat_map, if◌then◌else◌, Option, Some, None}
use Rattle.std.specs.List.{concat}
use Rattle.std.specs.Str.{is_utf8}
use Rattle.explain.specs.declared.tags.TaggedType.{TaggedType}
use Rattle.explain.specs.declared.tags.TaggedType.TheVariants.{Union, Enumeration}

-- the words about the tag of a type of this kind
abbrev pub kind_words : (tag kind : List ℕ) → List ℕ
kind_words tag kind = concat (tag ∷ codes " is " ∷ kind ∷ codes ", and layout prints structures alone" ∷ [])

-- the words about the tag of such a type
abbrev pub tagged_words : (tag : List ℕ) → TaggedType → List ℕ
tagged_words tag Union = kind_words tag (codes "a union")
tagged_words tag Enumeration = kind_words tag (codes "an enumeration")

-- the bytes as a text, if they are UTF-8
abbrev pub text_of : List ℕ → Option (List ℕ)
text_of bytes = if is_utf8 bytes then Some bytes else None

-- what stands in front of a name
abbrev pub before_name : (first : List ℕ) (is_first : Bool) → List ℕ
before_name first true = first
before_name first false = codes ", "

-- a name after other words, if it is UTF-8
abbrev pub name_behind : (before name : List ℕ) → List ℕ
name_behind before name = if is_utf8 name then concat (before ∷ name ∷ []) else []

-- names in one text, with `first` in front of the first one and commas between them; nothing if there are none
abbrev pub joined_names : (first : List ℕ) (names : List (List ℕ)) → List ℕ
joined_names first [] = []
joined_names first (name ∷ rest) = concat (first ∷ name ∷ flat_map (λ other. concat (codes ", " ∷ other ∷ [])) rest ∷ [])

-- the same for those of the names that are UTF-8
abbrev pub names_words : (first : List ℕ) (names : List (List ℕ)) → List ℕ
names_words first names = joined_names first (filter is_utf8 names)

-- what is said of a tag that one only declares
abbrev pub declared_words : (is_declared : Bool) → List ℕ
declared_words true = codes " that is defined; one is declared"
declared_words false = []

-- the words about a tag that no structure has, if one is declared, and if these tags are similar
abbrev pub unknown_words : (tag : List ℕ) (is_declared : Bool) (near : List (List ℕ)) → List ℕ
unknown_words tag is_declared near =
    concat (codes "its exports reach no structure with the tag " ∷ tag ∷ declared_words is_declared ∷ names_words (codes "; tags near it: ") near ∷ [])
