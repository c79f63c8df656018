-- The limits on rule files that are applied to a library, and what passes them.
use Rattle.std.specs.Prelude.{◌≡◌, ◌<◌, ◌≤◌, ◌*◌, ◌==◌, ◌&&◌, ℕ, Bool, true, List, count_by}
use Rattle.std.specs.Str.{bytes_eq}
use Rattle.abi_base.specs.declared.limit.Limit.{Limit}
use Rattle.abi_base.specs.declared.limit.Limit.TheVariants as limit
use Rattle.abi_base.specs.Budgets.{allowed}
use Rattle.abi_types.specs.Libraries.{PlainLibrary}
use Rattle.suppression_text.specs.Rules.{PlainRules, PlainSection}
use Rattle.suppressions.specs.Handles.{PlainHandle, handle_of, handles_of}
use Rattle.suppressions.specs.Names.{asks_names, some_ask}
use Rattle.suppressions.specs.Weights.{text_length, weight_of, weight_allowed, letters_of, letters_allowed}

-- ---- sections that are found by one handle

abbrev pub is_handle : PlainHandle → PlainHandle → Bool
is_handle handle other = handle.0 == other.0 && bytes_eq handle.1 other.1

-- how many of the handles are this one
abbrev pub handle_count : PlainHandle → List PlainHandle → ℕ
handle_count handle handles = count_by (is_handle handle) handles

-- how many may be one
abbrev pub handles_allowed : ℕ
handles_allowed = allowed limit.BlockSections 0

-- One of the handles stands there more often than this.
abbrev pub IsCrowdedBy : ℕ → List PlainHandle → Type 0
IsCrowdedBy most handles = (handle : PlainHandle) × (most < handle_count handle handles)

-- One of them stands there more often than is allowed.
abbrev pub IsCrowded : List PlainHandle → Type 0
IsCrowded handles = IsCrowdedBy handles_allowed handles

-- The limit is that on such sections: some of these test names, and more are found by one handle than it allows.
abbrev pub PassesCompiled : List PlainSection → Limit → Type 0
PassesCompiled sections l = (l ≡ limit.BlockSections) × ((some_ask sections ≡ true) × IsCrowded (handles_of sections))

-- the section tests names and is found by this handle
abbrev pub is_found_by : PlainHandle → PlainSection → Bool
is_found_by handle section = asks_names section && is_handle handle (handle_of section)

-- The limit is that on sections of one handle, and more of these are found by one than it allows.
abbrev pub PassesHandles : List PlainSection → Limit → Type 0
PassesHandles sections l = (l ≡ limit.BlockSections) × ((handle : PlainHandle) × (handles_allowed < count_by (is_found_by handle) sections))

-- ---- a rule file and a library

-- The limit is passed: the soname is too long, the patterns weigh too much, they may read too many letters, or too many sections
-- are found by one handle.
abbrev pub MarksPass : PlainRules → PlainLibrary → Limit → Type 0
MarksPass rules old limit.Soname = allowed limit.Soname 0 < text_length old.soname
MarksPass rules old limit.Patterns = weight_allowed < weight_of rules.sections
MarksPass rules old limit.PatternLetters = letters_allowed old < letters_of old * weight_of rules.sections
MarksPass rules old limit.BlockSections = PassesHandles rules.sections limit.BlockSections
MarksPass rules old other = ⊥

-- The soname, the weight of the patterns and the letters that they may read are within their limits.
pub record AreModest (rules : PlainRules) (old : PlainLibrary) : Type 0 where
  pub soname : text_length old.soname ≤ allowed limit.Soname 0
  pub weight : weight_of rules.sections ≤ weight_allowed
  pub letters : letters_of old * weight_of rules.sections ≤ letters_allowed old
