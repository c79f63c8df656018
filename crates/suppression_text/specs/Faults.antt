-- The first fault of a rule file. `at` is the number of a line, counted from 1.
use Rattle.std.specs.Prelude.{◌+◌, ◌-◌, ◌==◌, ◌&&◌, ◌||◌, not, nat_lt, ℕ, Bool, if◌then◌else◌, List, [], ◌∷◌, ◌++◌, length, take, map, Option, Some, None, is_none, slice_get, slice_index_or, count_by}
use Rattle.std.specs.List.{list_all, list_any, range_with_len}
use Rattle.std.specs.Str.{is_utf8}
use Rattle.std.specs.Str.Lossy.{utf8_valid_len}
use Rattle.abi_base.specs.declared.fault.FaultKind.{FaultKind}
use Rattle.abi_base.specs.declared.fault.FaultKind.TheVariants as kind
use Rattle.abi_base.specs.declared.fault.Fault.{Fault}
use Rattle.abi_base.specs.Outcome.{fault_if, first}
use Rattle.suppression_text.specs.declared.key.Key.{Key}
use Rattle.suppression_text.specs.Keys.{section_named, key_named, has_pattern, has_key, takes_value, same_key, is_label}
use Rattle.suppression_text.specs.Lines.{Form, Comment, Head, Property, Other, is_feed, forms_of}
use Rattle.suppression_text.specs.Patterns.{is_no_pattern}
use Rattle.suppression_text.specs.Rules.{PlainProperty, PlainSection, sections_of}

abbrev pub fault_at : FaultKind → ℕ → Fault
fault_at kind at = record { kind = kind; at = at }

-- ---- a text that is not UTF-8

-- the number of the line that contains the byte at a position
abbrev pub line_at : List ℕ → ℕ → ℕ
line_at bytes at = count_by is_feed (take at bytes) + 1

-- the text is not UTF-8 (50), at the line of the first invalid byte
abbrev pub text_fault : List ℕ → Option Fault
text_fault bytes = fault_if (not (is_utf8 bytes)) kind.BadText (line_at bytes (utf8_valid_len bytes))

-- ---- faults of lines

-- the most bytes that a pattern may have
abbrev pub pattern_limit : ℕ
pattern_limit = 256

abbrev pub has_brace : List ℕ → Bool
has_brace value = list_any (λ b. b == 123) value

-- the section has the property
abbrev pub has : Key → PlainSection → Bool
has key section = list_any (λ (p : PlainProperty). same_key key p.key) section.properties

-- A property is faulty in a section that may not have it, or not with this value (53), or that already has it (57). A pattern is
-- faulty if it is too long (56) or has a brace (58).
abbrev pub checked_faults : ℕ → PlainSection → Key → List ℕ → List (Option Fault)
checked_faults n section key value =
    fault_if (not (has_key section.kind key && takes_value key value)) kind.Property n
    ∷ fault_if (has key section) kind.Repeated n
    ∷ fault_if (has_pattern key && nat_lt pattern_limit (length value)) kind.LongPattern n
    ∷ fault_if (has_pattern key && has_brace value) kind.Brace n
    ∷ []

unfoldable pub checked_fault : ℕ → PlainSection → Key → List ℕ → Option Fault
checked_fault n section key value = first (checked_faults n section key value)

-- and last, the value must be a pattern and is not one (55)
unfoldable pub key_fault : ℕ → PlainSection → Key → List ℕ → Option Fault
key_fault n section key value = first (checked_fault n section key value ∷ fault_if (is_no_pattern key value) kind.BadPattern n ∷ [])

-- no section may have a property with an unknown name (53)
abbrev pub named_fault : ℕ → PlainSection → Option Key → List ℕ → Option Fault
named_fault n section None value = Some (fault_at kind.Property n)
named_fault n section (Some key) value = key_fault n section key value

-- a property stands before any section (51), or is checked in its section
abbrev pub placed_fault : ℕ → Option PlainSection → List ℕ → List ℕ → Option Fault
placed_fault n None name value = Some (fault_at kind.RuleLine n)
placed_fault n (Some section) name value = named_fault n section (key_named name) value

-- a property has no name or no value (51), or is faulty in its section
unfoldable pub property_fault : ℕ → Option PlainSection → List ℕ → List ℕ → Option Fault
property_fault n section name value =
    if length name == 0 || length value == 0 then Some (fault_at kind.RuleLine n) else placed_fault n section name value

-- no section has this name (52)
abbrev pub head_fault : ℕ → List ℕ → Option Fault
head_fault n name = fault_if (is_none (section_named name)) kind.Section n

-- the fault of a line, in a section or before any; a line of no other form is a fault (51)
abbrev pub form_fault : ℕ → Option PlainSection → Form → Option Fault
form_fault n section Comment = None
form_fault n section (Head name) = head_fault n name
form_fault n section (Property name value) = property_fault n section name value
form_fault n section Other = Some (fault_at kind.RuleLine n)

-- the last section of a list
abbrev pub last_of : List PlainSection → Option PlainSection
last_of sections = slice_get sections (length sections - 1)

-- the section that contains the line at a position: the last one that begins above it
abbrev pub section_above : List Form → ℕ → Option PlainSection
section_above forms k = last_of (sections_of (take k forms))

-- the fault of the line at a position, counted from 0
abbrev pub line_fault : List Form → ℕ → Option Fault
line_fault forms k = form_fault (k + 1) (section_above forms k) (slice_index_or forms k Comment)

abbrev pub line_faults : List Form → List (Option Fault)
line_faults forms = map (line_fault forms) (range_with_len 0 (length forms))

-- ---- faults of sections

-- a section has no property except labels
abbrev pub is_empty_rule : PlainSection → Bool
is_empty_rule section = list_all (λ (p : PlainProperty). is_label p.key) section.properties

-- such a section is a fault (54), at the line of its head
abbrev pub section_fault : PlainSection → Option Fault
section_fault section = fault_if (is_empty_rule section) kind.EmptyRule section.line

-- ---- the first fault

-- The fault of the text comes first, then those of its lines by number, then those of its sections in order.
abbrev pub all_faults : List ℕ → List Form → List (Option Fault)
all_faults bytes forms = text_fault bytes ∷ line_faults forms ++ map section_fault (sections_of forms)

unfoldable pub rule_fault : List ℕ → Option Fault
rule_fault bytes = first (all_faults bytes (forms_of bytes))
