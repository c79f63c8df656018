-- The entries of a unit are in order.
use Rattle.std.proofs.Common.{ℕ, suc, ◌≤◌, Bool, true, false, List, [], ◌∷◌, map, Option, Some, None, sym, ap, subst, arith}
use Rattle.std.specs.List.{filter_map}
use Rattle.abi_base.specs.declared.fault.Fault.{Fault}
use Rattle.abi_base.specs.Runs.{Chain}
use Rattle.dwarf_units.specs.declared.entry.Entry.{Entry}
use Rattle.dwarf_units.specs.Grammar.{TokenStands}
use Rattle.dwarf_units.specs.Units.{PlainUnit, State, entries_of, open_lists, opened, root_of, token_at, tokens_from}
use Rattle.dwarf_tree.specs.Trees.{placed}
use Rattle.dwarf_tree.proofs.InOrder.{IsNext, InOrder}
use Rattle.dwarf_tree.proofs.UnitLaws.{UnitLaws}

opened-le : (children : Bool) (n : ℕ) → opened children n ≤ suc n
opened-le true n = omega arith
opened-le false n = omega arith

-- an entry opens at most one list
few_lists : (u : PlainUnit) (s : State) (e : Entry) (next : State) → TokenStands u s (Some e) next → open_lists next.1 ≤ suc e.depth
few_lists u s e next t = omega (arith, ap open_lists t.is.lists, opened-le t.is.children (open_lists s.1), t.is.depth)

module _ (laws : UnitLaws) (u : PlainUnit) (k : ℕ) where
  tokens_in_order : (xs : List (Option Entry)) (from deepest : ℕ) (s : State) (end : Option Fault) → Chain (token_at u) s xs end → from ≤ s.0 → open_lists s.1 ≤ deepest
      → InOrder from u.end deepest k (suc k) (map (placed k) (filter_map (λ x. x) xs))
  tokens_in_order [] from deepest s end chain on deep = tt
  tokens_in_order (None ∷ xs) from deepest s end (next, is, others) on deep =
      let t = laws.token u s None next is in
      tokens_in_order xs from deepest next end others (omega (arith, t.on)) (omega (arith, ap open_lists t.is.lists, t.is.fewer))
  tokens_in_order (Some e ∷ xs) from deepest s end (next, is, others) on deep =
      let t = laws.token u s (Some e) next is in
      let here : IsNext from u.end deepest k (suc k) (placed k e) = record {
        on = omega (arith, t.is.offset);
        before = omega (arith, t.is.offset, t.inside);
        deep = omega (arith, t.is.depth);
        unit = omega arith;
        known = omega arith;
      } in
      (here, tokens_in_order xs (suc e.offset) (suc e.depth) next end others (omega (arith, t.is.offset, t.on)) (few_lists u s e next t))

  -- the entries of a unit are between its root and its end
  pub unit_in_order : (from : ℕ) → from ≤ root_of u → InOrder from u.end 0 k (suc k) (map (placed k) (entries_of u).items)
  unit_in_order from on =
      subst (λ (es : List Entry). InOrder from u.end 0 k (suc k) (map (placed k) es)) (sym (laws.entries u))
      (tokens_in_order (tokens_from u (root_of u, None)).items from 0 (root_of u, None) (tokens_from u (root_of u, None)).end (laws.tokens u (root_of u, None)) on (omega arith))
