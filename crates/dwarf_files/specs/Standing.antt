-- The offsets of entries in tables, and the parts of names.
use Rattle.std.specs.Prelude.{◌≡◌, ◌⊎◌, ℕ, List, [], ◌∷◌, Option, Some}
use Rattle.abi_base.specs.Numbers.{text_at}
use Rattle.dwarf_files.specs.declared.heads.Head.{Head}
use Rattle.dwarf_files.specs.Heads.{head_of}
use Rattle.dwarf_files.specs.Names.{PlainHeader, header_by, joined}

-- These items follow one another from an offset on, and end at another.
abbrev pub StandsFrom : {A : Type 0} → (ℕ → Option (A × ℕ)) → ℕ → List A → ℕ → Type 0
StandsFrom read at [] end = at ≡ end
StandsFrom read at (x ∷ xs) end = (next : ℕ) × (read at ≡ Some (x, next)) × StandsFrom read next xs end

-- a string is in the header, in `.debug_str` or in `.debug_line_str`
abbrev pub Stands : PlainHeader → List ℕ → Type 0
Stands h text = (place : ℕ) × ((text_at h.bytes place ≡ Some text) ⊎ ((text_at h.str place ≡ Some text) ⊎ (text_at h.line_str place ≡ Some text)))

-- directory 0, whose name is empty where the header does not have it, or another directory in it
abbrev pub IsDirectory : PlainHeader → List ℕ → Type 0
IsDirectory h directory =
    (first : List ℕ)
    × ((first ≡ []) ⊎ Stands h first)
    × ((directory ≡ first) ⊎ ((below : List ℕ) × Stands h below × (directory ≡ joined first below)))

-- A name is such a string, in a directory that consists of such strings.
pub record IsMadeOfTexts (h : PlainHeader) (name : List ℕ) : Type 0 where
  pub own : List ℕ
  pub directory : List ℕ
  pub stands : Stands h own
  pub is_directory : IsDirectory h directory
  pub is : name ≡ joined directory own

-- the same for the header at an offset in `.debug_line`
abbrev pub IsMadeOfTextsAt : (line str line_str : List ℕ) → ℕ → List ℕ → Type 0
IsMadeOfTextsAt line str line_str at name = (head : Head) × (head_of line at ≡ Some head) × IsMadeOfTexts (header_by line str line_str head) name
