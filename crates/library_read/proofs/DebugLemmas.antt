-- The sections of debug information of a file, and its entries.
use Rattle.std.proofs.Common.{◌≡◌, ◌<◌, ◌≤◌, ◌^◌, ℕ, Bool, true, false, cond, List, [], ◌∷◌, length, take, drop, Option, Some, None, refl, arith, length-take, length-drop}
use Rattle.std.specs.Prelude.{codes}
use Rattle.std.specs.Option.{option_map, unwrap_or}
use Rattle.abi_base.specs.declared.fault.Fault.{Fault}
use Rattle.abi_base.specs.Limits.{input_limit}
use Rattle.abi_base.specs.Outcome.{first}
use Rattle.dwarf_entries.specs.Debug.{plain_sections, dwarf_of}
use Rattle.dwarf_entries.specs.Pass.{dwarf_fault, own_fault}
use Rattle.dwarf_forms.specs.declared.sections.Sections.{Sections}
use Rattle.dwarf_tree.specs.Trees.{IsOrdered, tree_of}
use Rattle.dwarf_units.specs.Sequence.{entries_fault}
use Rattle.elf.specs.sections.DebugSections.{AreSectionsOf, debug_info, debug_abbrev, section_or_none}
use Rattle.elf.specs.file.Elf.{contents, holds_bytes, section, section_number}
use Rattle.library_read.specs.Debug.{debug_of, sections_in}

pub sections_are : (f : List ℕ) (s : Sections) → AreSectionsOf f s → plain_sections s ≡ sections_in f
unfolding sections_in
sections_are f s is = cc

-- ---- no section is longer than its file

pub contents-small : (f : List ℕ) (i : ℕ) → length (contents f i) ≤ length f
unfolding contents
contents-small f i = go (holds_bytes i (section f i)) where
  go : (holds : Bool) → length (cond holds (take (section f i).size (drop (section f i).offset f)) []) ≤ length f
  go true = omega (arith, length-take (section f i).size (drop (section f i).offset f), length-drop (section f i).offset f)
  go false = omega arith

pub held-small : (f : List ℕ) (o : Option ℕ) → length (unwrap_or (option_map (contents f) o) []) ≤ length f
held-small f None = omega arith
held-small f (Some i) = contents-small f i

section-small : (f name : List ℕ) → length (section_or_none f name) ≤ length f
section-small f name = held-small f (section_number f name)

-- ---- the entries

entries_first : (o p : Option Fault) → first (o ∷ p ∷ []) ≡ None → o ≡ None
entries_first None p none = refl
entries_first (Some x) p none = absurd cc

-- what the law of trees promises
abbrev pub AreInOrder : Type 0
AreInOrder = (info abbrevs : List ℕ) → length info < 2 ^ 32 → entries_fault info abbrevs ≡ None → IsOrdered (tree_of info abbrevs)

pub debug-ordered : AreInOrder → (f : List ℕ) → length f ≤ input_limit → dwarf_fault (sections_in f) ≡ None → IsOrdered (debug_of f).tree
unfolding debug_of sections_in dwarf_fault
debug-ordered in_order f small none =
    let info : length (debug_info f) ≤ length f = section-small f (codes ".debug_info") in
    in_order (debug_info f) (debug_abbrev f) (omega arith) (entries_first (entries_fault (debug_info f) (debug_abbrev f)) (own_fault (dwarf_of (sections_in f))) none)
