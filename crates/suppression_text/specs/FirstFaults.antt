-- The first fault of a rule file, described by where faults are.
use Rattle.std.specs.Prelude.{◌≡◌, ◌<◌, ◌+◌, ◌⊎◌, ℕ, true, false, List, length, Some, None, slice_get}
use Rattle.std.specs.Str.{is_utf8}
use Rattle.abi_base.specs.declared.fault.Fault.{Fault}
use Rattle.suppression_text.specs.Lines.{Form, forms_of}
use Rattle.suppression_text.specs.Rules.{PlainSection, sections_of}
use Rattle.suppression_text.specs.Faults.{text_fault, line_fault, section_fault, is_empty_rule}

-- no line before the position has a fault
abbrev pub IsClear : List Form → ℕ → Type 0
IsClear forms place = (j : ℕ) → j < place → line_fault forms j ≡ None

-- the fault is that of the line at a position, and no line before it has one
pub record IsOfLine (forms : List Form) (f : Fault) : Type 0 where
  pub place : ℕ
  pub inside : place < length forms
  pub is : line_fault forms place ≡ Some f
  pub number : f.at ≡ place + 1
  pub before : IsClear forms place

-- no line has a fault; the fault is that of a section, and no section before it has one
pub record IsOfSection (forms : List Form) (f : Fault) : Type 0 where
  pub lines : IsClear forms (length forms)
  pub place : ℕ
  pub section : PlainSection
  pub at : slice_get (sections_of forms) place ≡ Some section
  pub is : section_fault section ≡ Some f
  pub before : (j : ℕ) (other : PlainSection) → j < place → slice_get (sections_of forms) j ≡ Some other → section_fault other ≡ None

abbrev pub IsFirstFault : List ℕ → Fault → Type 0
IsFirstFault bytes f = (text_fault bytes ≡ Some f) ⊎ ((text_fault bytes ≡ None) × (IsOfLine (forms_of bytes) f ⊎ IsOfSection (forms_of bytes) f))

pub record IsFaultless (bytes : List ℕ) : Type 0 where
  pub text : is_utf8 bytes ≡ true
  pub lines : IsClear (forms_of bytes) (length (forms_of bytes))
  pub sections : (j : ℕ) (section : PlainSection) → slice_get (sections_of (forms_of bytes)) j ≡ Some section → is_empty_rule section ≡ false
