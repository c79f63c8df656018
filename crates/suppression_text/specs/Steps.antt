-- How the sections change when one more line is read.
use Rattle.std.specs.Prelude.{◌-◌, ◌++◌, ℕ, List, [], length, slice_set, Option, Some, None}
use Rattle.suppression_text.specs.Keys.{section_named, key_named}
use Rattle.suppression_text.specs.Lines.{Form, Comment, Head, Property, Other}
use Rattle.suppression_text.specs.Rules.{PlainProperty, PlainSection, keyed, headed}
use Rattle.suppression_text.specs.Faults.{last_of}

-- the sections, where the last one is this one with more properties
abbrev pub with_properties : List PlainSection → Option PlainSection → List PlainProperty → List PlainSection
with_properties sections None properties = sections
with_properties sections (Some last) properties = slice_set sections (length sections - 1) (record last { properties = last.properties ++ properties })

-- the sections after one more line, with this number
abbrev pub with_form : ℕ → List PlainSection → Form → List PlainSection
with_form n sections Comment = sections
with_form n sections (Head name) = sections ++ headed n (section_named name) []
with_form n sections (Property name value) = with_properties sections (last_of sections) (keyed (key_named name) value)
with_form n sections Other = sections
