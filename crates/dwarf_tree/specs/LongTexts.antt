-- Where texts in the bytes of entries end (DWARF 5, section 7.5.5 "Classes and Forms", "string").
use Rattle.std.specs.Prelude.{◌≡◌, ◌≢◌, ◌<◌, ◌≤◌, ℕ, List, Some, length, slice_get, slice_index}
use Rattle.dwarf_tree.specs.declared.long_texts.LongText.{LongText}

-- a text that begins at `at` ends at `to`: this is the offset of the first byte 0
pub record TextEnds (info : List ℕ) (at to : ℕ) : Type 0 where
  pub rises : at ≤ to
  pub inside : to < length info
  pub zero : slice_index info to ≡ 0
  pub letters : (k : ℕ) → at ≤ k → k < to → slice_index info k ≢ 0

-- a long text ends where it says
abbrev pub IsLongText : List ℕ → LongText → Type 0
IsLongText info text = TextEnds info text.from text.to

-- one of these texts is around an offset, and ends at another
pub record IsKeptEnd (texts : List LongText) (at to : ℕ) : Type 0 where
  pub place : ℕ
  pub text : LongText
  pub is : slice_get texts place ≡ Some text
  pub begins : text.from ≤ at
  pub ends : at ≤ to
  pub to_is : text.to ≡ to
