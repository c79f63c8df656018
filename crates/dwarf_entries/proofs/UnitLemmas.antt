-- The contexts of units.
use Rattle.std.proofs.Common.{subst, ◌≡◌, ◌∙◌, ℕ, ◌+◌, ◌<◌, List, [], ◌∷◌, ◌++◌, length, map, get_or, sym, ap, arith}
use Rattle.std.specs.List.{range_with_len}
use Rattle.std.proofs.lemmas.List.FromFn.{map-range_with_len_more, get_or-map-range_with_len, length-map-range_with_len}
use Rattle.dwarf_tree.specs.Trees.{PlainTree, entry_at, IsOrdered}
use Rattle.dwarf_entries.specs.declared.unit_context.UnitContext.{UnitContext}
use Rattle.dwarf_entries.specs.Debug.{PlainDwarf}
use Rattle.dwarf_entries.specs.UnitContext.{told_of, all_told}

-- the contexts of the units before one
pub record TellUnits (told : List UnitContext) (d : PlainDwarf) (unit : ℕ) : Type 0 where
  pub units : told ≡ map (told_of d) (range_with_len 0 unit)

pub told_none : (told : List UnitContext) (d : PlainDwarf) → told ≡ [] → TellUnits told d 0
told_none told d empty = record { units = empty }

pub told_more : (told next : List UnitContext) (d : PlainDwarf) (unit : ℕ) (said : UnitContext) → TellUnits told d unit → said ≡ told_of d unit → next ≡ told ++ said ∷ [] → TellUnits next d (unit + 1)
told_more told next d unit said so_far is adds = record {
  units = adds ∙ ap (λ (t : UnitContext). told ++ t ∷ []) is ∙ ap (λ (ts : List UnitContext). ts ++ told_of d unit ∷ []) so_far.units ∙ sym (map-range_with_len_more (told_of d) 0 unit unit (omega arith));
}

pub told_end : (told : List UnitContext) (d : PlainDwarf) (unit : ℕ) → TellUnits told d unit → unit ≡ length d.tree.units → told ≡ all_told d
told_end told d unit so_far e = so_far.units ∙ ap (λ (n : ℕ). map (told_of d) (range_with_len 0 n)) e

-- the context of an entry's unit
module _ (told : List UnitContext) (d : PlainDwarf) (t : PlainTree) (e unit : ℕ) (all : told ≡ all_told d) (ordered : IsOrdered t) (same : t ≡ d.tree) (inside : e < length d.tree.entries)
    (is : unit ≡ (entry_at t e).unit) where
  unit_inside : unit < length d.tree.units
  unit_inside =
      let there : (entry_at t e).unit < length t.units = ordered.known e (subst (λ (u : PlainTree). e < length u.entries) (sym same) inside) in
      omega (arith, ap (λ (u : PlainTree). length u.units) same)

  pub unit_told : unit < length told
  unit_told = omega (arith, unit_inside, ap (λ (ts : List UnitContext). length ts) all ∙ length-map-range_with_len (told_of d) 0 (length d.tree.units))

  pub told_there : (said : UnitContext) → said ≡ get_or told unit said → said ≡ told_of d (entry_at d.tree e).unit
  told_there said here =
      here ∙ ap (λ (ts : List UnitContext). get_or ts unit said) all ∙ get_or-map-range_with_len (told_of d) 0 (length d.tree.units) unit unit said unit_inside (omega arith)
      ∙ ap (told_of d) (is ∙ ap (λ (u : PlainTree). (entry_at u e).unit) same)
