-- Sections that match a subject, given by their numbers.
use Rattle.std.specs.Prelude.{◌≡◌, ◌<◌, ◌||◌, ℕ, Bool, true, false, List, [], length, slice_index_or}
use Rattle.std.specs.List.{list_any}
use Rattle.std.specs.Option.{option_map_or}
use Rattle.suppression_text.specs.Patterns.{is_one_found}
use Rattle.suppression_text.specs.declared.key.SectionKind.TheVariants.{Types}
use Rattle.suppression_text.specs.Rules.{PlainSection, headed_section}
use Rattle.suppressions.specs.Handles.{PlainHandle, gates_of, handle_of}
use Rattle.suppressions.specs.Meaning.{section_holds}
use Rattle.suppressions.specs.Subjects.{PlainSubject}

-- the section that has this number
abbrev pub section_at : List PlainSection → ℕ → PlainSection
section_at sections k = slice_index_or sections k (headed_section 0 Types [])

-- one of the sections with these numbers matches the subject
abbrev pub one_section_holds : List PlainSection → PlainSubject → List ℕ → Bool
one_section_holds sections s numbers = list_any (λ (k : ℕ). section_holds s (section_at sections k)) numbers

-- the section that has this number matches the subject
abbrev pub Holds : List PlainSection → PlainSubject → ℕ → Type 0
Holds sections s k = (k < length sections) × (section_holds s (section_at sections k) ≡ true)

-- The answer is yes only if a section matches the subject, and no only if no section with this handle does.
pub record IsOneOfHandle (sections : List PlainSection) (s : PlainSubject) (handle : PlainHandle) (answer : Bool) : Type 0 where
  pub some : answer ≡ true → (k : ℕ) × Holds sections s k
  pub none : answer ≡ false → (k : ℕ) → handle_of (section_at sections k) ≡ handle → (Holds sections s k → ⊥)

-- one of the patterns matches the name of the subject, or that of its symbol
abbrev pub is_named_by : List (List ℕ) → PlainSubject → Bool
is_named_by texts s = is_one_found texts s.name || option_map_or (is_one_found texts) s.symbol false

-- The answer is no only if none of the sections' patterns for names matches a name of the subject.
abbrev pub IsLetIn : List PlainSection → PlainSubject → Bool → Type 0
IsLetIn sections s answer = answer ≡ false → is_named_by (gates_of sections) s ≡ false
