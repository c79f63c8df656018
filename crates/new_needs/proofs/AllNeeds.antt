-- The needs for the version indexes, one after another.
use Rattle.std.proofs.Common.{◌≡◌, ℕ, ◌+◌, List, [], ◌∷◌, ◌++◌, Option, Some, None, refl, sym, ◌∙◌, ap}
use Rattle.std.specs.Prelude.{filter_map}
use Rattle.std.specs.List.{range_with_len}
use Rattle.std.proofs.lemmas.List.{append-nil, map-append}
use Rattle.std.proofs.lemmas.List.Elements.{filter_map-append}
use Rattle.abi_base.proofs.lemmas.Ranges.{below_more}
use Rattle.elf_needs.specs.declared.kept.Need.{Need}
use Rattle.elf_needs.specs.Needs.{PlainNeed}
use Rattle.elf_needs.specs.Plain.{plain_need}
use Rattle.new_needs.specs.Versions.{plain_versions}

module _ (named : ℕ → Option PlainNeed) (index : ℕ) (before : List Need) (so_far : plain_versions before ≡ filter_map named (range_with_len 0 index)) where
  one_more : filter_map named (range_with_len 0 (index + 1)) ≡ filter_map named (range_with_len 0 index) ++ filter_map named (index ∷ [])
  one_more = ap (filter_map named) (below_more index) ∙ filter_map-append named (range_with_len 0 index) (index ∷ [])

  -- an index with a need adds it
  pub all_added : (more : List Need) (need : Need) → Some (plain_need need) ≡ named index → more ≡ before ++ need ∷ [] → plain_versions more ≡ filter_map named (range_with_len 0 (index + 1))
  all_added more need is grown =
      let here : filter_map named (index ∷ []) ≡ plain_need need ∷ [] = rw (sym is) refl in
      ap plain_versions grown ∙ map-append plain_need before (need ∷ []) ∙ ap (λ (l : List PlainNeed). l ++ plain_need need ∷ []) so_far
      ∙ sym (one_more ∙ ap (λ (l : List PlainNeed). filter_map named (range_with_len 0 index) ++ l) here)

  -- an index without one adds none
  pub all_passed : None ≡ named index → plain_versions before ≡ filter_map named (range_with_len 0 (index + 1))
  all_passed is =
      let here : filter_map named (index ∷ []) ≡ [] = rw (sym is) refl in
      so_far ∙ sym (one_more ∙ ap (λ (l : List PlainNeed). filter_map named (range_with_len 0 index) ++ l) here ∙ append-nil (filter_map named (range_with_len 0 index)))
