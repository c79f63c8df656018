-- The fields of a file without a fault, and its sections one by one.
use Rattle.std.proofs.Common.{◌≡◌, ℕ, List, Option, map, ap, ◌∙◌, ◌++◌}
use Rattle.std.specs.Option.{option_or}
use Rattle.abi_base.specs.declared.fault.Fault.{Fault}
use Rattle.abi_base.specs.Outcome.{first}
use Rattle.elf.specs.file.Elf.{all_sections, header_faults, range_fault, name_fault, compressed_fault, elf_fault}
use Rattle.abi_base.proofs.lemmas.Outcomes.{first-append}

-- the first fault, group by group
pub elf_fault_is : (f : List ℕ) → elf_fault f ≡
    option_or (first (header_faults f)) (option_or (first (map (range_fault f) (all_sections f)))
    (option_or (first (map (name_fault f) (all_sections f))) (first (map (compressed_fault f) (all_sections f)))))
unfolding elf_fault
elf_fault_is f =
    let h = header_faults f in
    let r = map (range_fault f) (all_sections f) in
    let n = map (name_fault f) (all_sections f) in
    let c = map (compressed_fault f) (all_sections f) in
    first-append h (r ++ (n ++ c))
    ∙ ap (λ (o : Option Fault). option_or (first h) o) (first-append r (n ++ c) ∙ ap (λ (o : Option Fault). option_or (first r) o) (first-append n c))
