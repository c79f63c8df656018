-- What holds at each section of a file without a fault.
use Rattle.std.proofs.Common.{◌≡◌, ℕ, ◌+◌, ◌<◌, ◌≤◌, true, false, List, length, drop, map, Option, Some, None, Bor, refl, sym, ◌∙◌, inl, inr, arith, length-drop}
use Rattle.std.specs.Prelude.{nat_lt, is_none, ◌&&◌, IfNone}
use Rattle.std.specs.Option.{option_or, option_map_or, option_copied}
use Rattle.std.proofs.lemmas.List.{length-take}
use Rattle.std.proofs.lemmas.Bool.{cases_lt}
use Rattle.std.proofs.lemmas.Bool.Decides.{nat_tests}
use Rattle.abi_base.specs.declared.fault.Fault.{Fault}
use Rattle.abi_base.specs.declared.fault.FaultKind.TheVariants as kind
use Rattle.abi_base.specs.Outcome.{first}
use Rattle.abi_base.proofs.lemmas.Outcomes.{none_at, fault_if-none}
use Rattle.elf.specs.file.Elf.{table, section, contents, section_name, all_sections, holds_bytes, is_compressed, header_faults, range_fault, name_fault, compressed_fault, elf_fault}
use Rattle.elf.proofs.file_lemmas.ElfLemmas.{elf_fault_is}

-- no group has a fault
pub record Faultless (f : List ℕ) : Type 0 where
  pub header : first (header_faults f) ≡ None
  pub ranges : first (map (range_fault f) (all_sections f)) ≡ None
  pub names : first (map (name_fault f) (all_sections f)) ≡ None
  pub compressed : first (map (compressed_fault f) (all_sections f)) ≡ None

none_of_both : (a b : Option Fault) → option_or a b ≡ None → (a ≡ None) × (b ≡ None)
none_of_both None b h = (refl, h)
none_of_both (Some fault) b h = absurd cc

pub faultless : (f : List ℕ) → elf_fault f ≡ None → Faultless f
faultless f none =
    let h = none_of_both _ _ (sym (elf_fault_is f) ∙ none) in
    let r = none_of_both _ _ h.1 in
    let n = none_of_both _ _ r.1 in
    record { header = h.0; ranges = r.0; names = n.0; compressed = n.1 }

pub lies_inside : (f : List ℕ) (i : ℕ) → elf_fault f ≡ None → i < (table f).count → holds_bytes i (section f i) ≡ true
    → (section f i).offset + (section f i).size ≤ length f
unfolding range_fault
lies_inside f i none lt holds =
    let free : range_fault f i ≡ None = none_at (range_fault f) (table f).count i (faultless f none).ranges lt in
    let short : (holds_bytes i (section f i) && nat_lt (length f) ((section f i).offset + (section f i).size)) ≡ false = fault_if-none _ kind.SectionRange i free in
    grind (arith, nat_tests, short, holds)

pub holds_its_size : (f : List ℕ) (i : ℕ) → elf_fault f ≡ None → i < (table f).count → holds_bytes i (section f i) ≡ true → length (contents f i) ≡ (section f i).size
unfolding contents
holds_its_size f i none lt holds =
    let inside : (section f i).offset + (section f i).size ≤ length f = lies_inside f i none lt holds in
    rw holds (omega (arith, length-take (section f i).size (drop (section f i).offset f), length-drop (section f i).offset f))

some_of : (o : Option (List ℕ)) → is_none o ≡ false → (name : List ℕ) × (o ≡ Some name)
some_of None h = absurd cc
some_of (Some name) h = (name, refl)

pub has_a_name : (f : List ℕ) (i : ℕ) → elf_fault f ≡ None → i < (table f).count → (name : List ℕ) × (section_name f i ≡ Some name)
unfolding name_fault
has_a_name f i none lt =
    let free : name_fault f i ≡ None = none_at (name_fault f) (table f).count i (faultless f none).names lt in
    some_of (section_name f i) (fault_if-none _ kind.SectionName i free)

pub is_not_compressed : (f name : List ℕ) (i : ℕ) → elf_fault f ≡ None → i < (table f).count → section_name f i ≡ Some name → is_compressed name (section f i).flags ≡ false
unfolding compressed_fault
is_not_compressed f name i none lt named =
    let free : compressed_fault f i ≡ None = none_at (compressed_fault f) (table f).count i (faultless f none).compressed lt in
    let no : option_map_or (λ n. is_compressed n (section f i).flags) (section_name f i) false ≡ false = fault_if-none _ kind.Compressed i free in
    rw named at no

-- A look-up by name fails only where there is no section.
pub no_name_outside : (f : List ℕ) (i : ℕ) (found : Option (Bor (List ℕ))) → elf_fault f ≡ None → option_copied found ≡ section_name f i → IfNone found ((table f).count ≤ i)
no_name_outside f i (Some name) none is = tt
no_name_outside f i None none is = elim (cases_lt i (table f).count) [
  | inl lt ↦ let named : (name : List ℕ) × (section_name f i ≡ Some name) = has_a_name f i none lt in let two : None ≡ Some named.0 = is ∙ named.1 in absurd cc
  | inr le ↦ le
]
