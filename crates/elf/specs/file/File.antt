-- A file that was read, field by field.
use Rattle.std.specs.Prelude.{◌≡◌, ◌≤◌, ℕ, List, length, None}
use Rattle.abi_base.specs.Limits.{input_limit}
use Rattle.elf.specs.declared.file.records.SectionTable.{SectionTable}
use Rattle.elf.specs.declared.file.records.Section.{Section}
use Rattle.elf.specs.file.Elf.{table, contents, elf_fault, HasTable, HasRanges, SectionView}

pub record IsOpen (f : List ℕ) (sections : SectionTable) (names : List ℕ) : Type 0 where
  pub no_fault : elf_fault f ≡ None
  pub small : length f ≤ input_limit
  pub table_is : sections ≡ table f
  pub names_are : names ≡ contents f sections.names
  pub has : HasTable f
  pub ranges : HasRanges f

-- a section of the code, without the address of its bytes in memory
abbrev pub viewed : Section → SectionView
viewed s = record { index = s.index; bytes = s.bytes.now; link = s.link; info = s.info; entsize = s.entsize }
