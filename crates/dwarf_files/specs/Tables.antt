-- The tables of directories and of files in a line program header.
use Rattle.std.specs.Prelude.{ℕ, zero, suc, ◌+◌, ◌==◌, nat_lt, if◌then◌else◌, List, [], ◌∷◌, length, find, Option, Some, None, pos}
use Rattle.std.specs.Option.{option_map, option_or}
use Rattle.abi_base.specs.Numbers.{number_at}
use Rattle.abi_base.specs.Leb.{uleb_at}
use Rattle.dwarf_forms.specs.Values.{value_at}
use Rattle.dwarf_forms.specs.declared.values.Value.{Value}
use Rattle.dwarf_files.specs.declared.entries.Entry.{Entry}
use Rattle.dwarf_files.specs.declared.formats.Pair.{Pair}
use Rattle.dwarf_files.specs.Steps.{◌>>=◌, if_read}

-- this many items one after another, and the offset after them
unfoldable pub items : {A : Type 0} → (ℕ → Option (A × ℕ)) → ℕ → ℕ → Option (List A × ℕ)
items read zero at = Some ([], at)
items read (suc n) at = do
  first ← read at
  others ← items read n first.1
  Some (first.0 ∷ others.0, others.1)

-- ---- version 5: entries with a format that the header gives (DWARF 5, section 6.2.4)

-- the content type of a value and its form: two unsigned LEB128 numbers
abbrev pub pair_of : List ℕ → ℕ → Option (Pair × ℕ)
pair_of bytes at = do
  content ← uleb_at bytes at
  form ← uleb_at bytes content.1
  Some (record { content = content.0; form = form.0 }, form.1)

-- an entry format: a byte that counts the pairs, then the pairs
unfoldable pub format_of : List ℕ → ℕ → Option (List Pair × ℕ)
format_of bytes at = do
  count ← number_at 1 bytes at
  items (pair_of bytes) count (at + 1)

-- The value of a form at an offset, and the offset after it. Each form that an entry may have takes bytes (DWARF 5, sections
-- 6.2.4.1 "Standard Content Descriptions" and 6.2.4.2 "Vendor-defined Content Descriptions").
abbrev pub if_longer : ℕ → Option (Value × ℕ) → Option (Value × ℕ)
if_longer at None = None
if_longer at (Some r) = if nat_lt at r.1 then Some r else None

abbrev pub value_of : List ℕ → ℕ → ℕ → Option (Value × ℕ)
value_of bytes form at = if_longer at (if_read (value_at form (pos 0) 0 (length bytes) 0 bytes at))

-- the values of an entry, in the order of its format, each with its content type, and the offset after them
unfoldable pub values_of : List ℕ → List Pair → ℕ → Option (List (ℕ × Value) × ℕ)
values_of bytes [] at = Some ([], at)
values_of bytes (p ∷ format) at = do
  first ← value_of bytes p.form at
  others ← values_of bytes format first.1
  Some ((p.content, first.0) ∷ others.0, others.1)

-- the first value with a content type
abbrev pub first_of : ℕ → List (ℕ × Value) → Option Value
first_of content values = option_map (λ v. v.1) (find (λ v. v.0 == content) values)

-- An entry has its name under DW_LNCT_path, which is 1, and the number of its directory under DW_LNCT_directory_index, which
-- is 2 (DWARF 5, section 7.22 "Line Number Information").
abbrev pub entry_by : List (ℕ × Value) → Entry
entry_by values = record { path = first_of 1 values; directory = first_of 2 values }

-- an entry with a format, which takes bytes, and the offset after it
unfoldable pub entry_of : List ℕ → List Pair → ℕ → Option (Entry × ℕ)
entry_of bytes format at = do
  values ← values_of bytes format at
  if nat_lt at values.1 then Some (entry_by values.0, values.1) else None

-- an entry with one more value
abbrev pub with_value : Entry → ℕ → Value → Entry
with_value e content v =
    if content == 1
    then record { path = option_or e.path (Some v); directory = e.directory }
    else (if content == 2 then record { path = e.path; directory = option_or e.directory (Some v) } else e)

-- a table: the entry format, the number of entries, and the entries
unfoldable pub table_of : List ℕ → ℕ → Option (List Entry × ℕ)
table_of bytes at = do
  format ← format_of bytes at
  count ← uleb_at bytes format.1
  items (entry_of bytes format.0) count.0 count.1
