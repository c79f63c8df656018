-- The contents of a rule file, as plain data: its sections, in order.
use Rattle.std.specs.Prelude.{◌+◌, ℕ, List, [], ◌∷◌, ◌++◌, Option, Some, None, find}
use Rattle.std.specs.Option.{option_map}
use Rattle.sha2.specs.Sha256.{sha256}
use Rattle.suppression_text.specs.declared.key.SectionKind.{SectionKind}
use Rattle.suppression_text.specs.declared.key.Key.{Key}
use Rattle.suppression_text.specs.Keys.{section_named, key_named, same_key}
use Rattle.suppression_text.specs.Lines.{Form, Comment, Head, Property, Other, forms_of}

-- a property with its value
pub record PlainProperty : Type 0 where
  pub key : Key
  pub value : List ℕ

abbrev pub plain_property : Key → List ℕ → PlainProperty
plain_property key value = record { key = key; value = value }

-- a section: the number of its first line, its kind, and its properties in order
pub record PlainSection : Type 0 where
  pub line : ℕ
  pub kind : SectionKind
  pub properties : List PlainProperty

-- a rule file: the SHA-256 of its bytes, and its sections in order
pub record PlainRules : Type 0 where
  pub digest : List ℕ
  pub sections : List PlainSection

-- the value of the section's first property with this key, if it has one
abbrev pub value_in : Key → PlainSection → Option (List ℕ)
value_in key section = option_map (λ (p : PlainProperty). p.value) (find (λ (p : PlainProperty). same_key key p.key) section.properties)

abbrev pub headed_section : ℕ → SectionKind → List PlainProperty → PlainSection
headed_section line kind properties = record { line = line; kind = kind; properties = properties }

-- the section with one more property
abbrev pub with_property : PlainSection → PlainProperty → PlainSection
with_property section property = record section { properties = section.properties ++ property ∷ [] }

abbrev pub plain_rules : List ℕ → List PlainSection → PlainRules
plain_rules digest sections = record { digest = digest; sections = sections }

-- ---- the sections of lines

-- the property, if its name is known
abbrev pub keyed : Option Key → List ℕ → List PlainProperty
keyed None value = []
keyed (Some key) value = plain_property key value ∷ []

-- the properties that stand before the next head
unfoldable pub properties_in : List Form → List PlainProperty
properties_in [] = []
properties_in (Head name ∷ forms) = []
properties_in (Property name value ∷ forms) = keyed (key_named name) value ++ properties_in forms
properties_in (Comment ∷ forms) = properties_in forms
properties_in (Other ∷ forms) = properties_in forms

-- the section of a head, if its name is known
abbrev pub headed : ℕ → Option SectionKind → List PlainProperty → List PlainSection
headed line None properties = []
headed line (Some kind) properties = headed_section line kind properties ∷ []

-- the sections of lines, where the first line has number n
unfoldable pub sections_from : ℕ → List Form → List PlainSection
sections_from n [] = []
sections_from n (Head name ∷ forms) = headed n (section_named name) (properties_in forms) ++ sections_from (n + 1) forms
sections_from n (Property name value ∷ forms) = sections_from (n + 1) forms
sections_from n (Comment ∷ forms) = sections_from (n + 1) forms
sections_from n (Other ∷ forms) = sections_from (n + 1) forms

-- A section extends from its head to the next one. Lines are numbered from 1.
abbrev pub sections_of : List Form → List PlainSection
sections_of forms = sections_from 1 forms

-- the contents of a text without a fault
abbrev pub rules_of : List ℕ → PlainRules
rules_of bytes = plain_rules (sha256 bytes) (sections_of (forms_of bytes))
