-- The needs of a file, and those of its section.
use Rattle.std.proofs.Common.{◌≡◌, ℕ, List, [], Option, Some, None, refl, ◌∙◌, ap}
use Rattle.std.specs.Prelude.{unwrap_or, option_and_then}
use Rattle.std.specs.Option.{option_map_or}
use Rattle.std.specs.HashMap.{IsEmpty}
use Rattle.abi_base.specs.GnuVersions.{sht_gnu_verneed}
use Rattle.elf.specs.file.Elf.{SectionView, section_of_kind, strings_of}
use Rattle.elf_needs.specs.Needs.{PlainNeed, entries_of, need_among, need_with}
use Rattle.elf_needs.specs.Plain.{ByIndex, need_under}
use Rattle.elf_needs.proofs.ReadNeeds.{none_under}

-- what an index names, by the section of needs
abbrev by_section : List ℕ → ℕ → Option SectionView → Option PlainNeed
by_section f index section =
    need_among
    (entries_of
    (option_map_or (λ s. s.bytes) section [])
    (unwrap_or (option_and_then (λ s. strings_of f s.link) section) [])
    (option_map_or (λ s. s.info) section 0))
    index

with_section : (f : List ℕ) (index : ℕ) → by_section f index (section_of_kind f sht_gnu_verneed) ≡ need_with f index
unfolding need_with
with_section f index = refl

pub without : (f : List ℕ) (by_index : ByIndex) → None ≡ section_of_kind f sht_gnu_verneed → IsEmpty by_index → (index : ℕ) → need_under by_index index ≡ need_with f index
without f by_index none empty index = none_under by_index index empty ∙ ap (by_section f index) none ∙ with_section f index

within : (f strings : List ℕ) (s : SectionView) (index : ℕ) (found : Option (List ℕ)) → Some strings ≡ found
    → need_among (entries_of s.bytes strings s.info) index ≡ need_among (entries_of s.bytes (unwrap_or found []) s.info) index
within f strings s index found is = ap (λ (o : Option (List ℕ)). need_among (entries_of s.bytes (unwrap_or o []) s.info) index) is

pub with : (f strings : List ℕ) (s : SectionView) (by_index : ByIndex) → Some s ≡ section_of_kind f sht_gnu_verneed → Some strings ≡ strings_of f s.link
    → ((q : ℕ) → need_under by_index q ≡ need_among (entries_of s.bytes strings s.info) q) → (index : ℕ) → need_under by_index index ≡ need_with f index
with f strings s by_index some named read index =
    read index ∙ within f strings s index (strings_of f s.link) named ∙ ap (by_section f index) some ∙ with_section f index
