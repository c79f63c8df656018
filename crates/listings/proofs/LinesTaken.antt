-- The lines of exports, and what they take of a budget.
use Rattle.std.proofs.Common.{◌≡◌, ℕ, ◌+◌, ◌-◌, ◌<◌, ◌≤◌, List, [], ◌∷◌, ◌++◌, length, flat_map, take, drop, get_or, suc, sym, ap, ◌∙◌, arith}
use Rattle.std.proofs.lemmas.Grind.{flat_map-append}
use Rattle.std.proofs.Math.Seq.{drop-cons}
use Rattle.std.proofs.lemmas.List.{length-append, map-append, take-append-drop}
use Rattle.abi_base.specs.Budgets.{BudgetState, with_taken}
use Rattle.abi_types.specs.declared.export.Export.{Export}
use Rattle.abi_types.specs.Exports.{PlainExport}
use Rattle.abi_types.specs.Plain.{plain_export, plain_exports}

-- the lines of the exports so far were taken of the budget
pub record LinesTaken (line : PlainExport → List ℕ) (exports : List PlainExport) (start now : BudgetState) : Type 0 where
  pub limit_is : now.limit ≡ start.limit
  pub most : now.most ≡ start.most
  pub taken : now.taken ≡ start.taken + length (flat_map line exports)
  pub within : now.taken ≤ now.most

module _ (line : PlainExport → List ℕ) (exports : List PlainExport) (e : PlainExport) where
  longer : (rest : List PlainExport) → length (flat_map line (exports ++ e ∷ rest)) ≡ length (flat_map line exports) + (length (line e) + length (flat_map line rest))
  longer rest =
      ap length (flat_map-append line exports (e ∷ rest))
      ∙ length-append (flat_map line exports) (flat_map line (e ∷ rest))
      ∙ ap (λ (n : ℕ). length (flat_map line exports) + n) (length-append (line e) (flat_map line rest))

  module _ (start now : BudgetState) (so_far : LinesTaken line exports start now) where
    pub lines_more : (next : BudgetState) → next ≡ with_taken now (length (line e)) → now.taken + length (line e) ≤ now.most → LinesTaken line (exports ++ e ∷ []) start next
    lines_more next took fits =
        let taken : next.taken ≡ now.taken + length (line e) = ap (λ (b : BudgetState). b.taken) took in
        let most : next.most ≡ now.most = ap (λ (b : BudgetState). b.most) took in
        record {
          limit_is = ap (λ (b : BudgetState). b.limit) took ∙ so_far.limit_is;
          most = most ∙ so_far.most;
          taken = omega (arith, taken, so_far.taken, longer []);
          within = omega (arith, taken, most, fits);
        }

    pub lines_past : (rest : List PlainExport) → now.most < now.taken + length (line e) → start.most < start.taken + length (flat_map line (exports ++ e ∷ rest))
    lines_past rest above = omega (arith, above, so_far.most, so_far.taken, longer rest)

-- An export whose line does not fit makes the lines of them all too long.
pub past_at : (line : PlainExport → List ℕ) (items : List Export) (i : ℕ) (d : Export) (old new : List ℕ) (start now : BudgetState) → new ≡ old ++ line (plain_export (get_or items i d))
    → LinesTaken line (plain_exports (take i items)) start now → i < length items → now.most < now.taken + (length new - length old) → start.most < start.taken + length (flat_map line (plain_exports items))
past_at line items i d old new start now grown so_far lt above =
    let e = plain_export (get_or items i d) in
    let longer : length new ≡ length old + length (line e) = ap length grown ∙ length-append old (line e) in
    let whole : plain_exports items ≡ plain_exports (take i items) ++ e ∷ plain_exports (drop (suc i) items) =
    ap plain_exports (sym (take-append-drop i items))
    ∙ map-append plain_export (take i items) (drop i items)
    ∙ ap (λ (l : List Export). plain_exports (take i items) ++ plain_exports l) (drop-cons items i d lt) in
    let past : start.most < start.taken + length (flat_map line (plain_exports (take i items) ++ e ∷ plain_exports (drop (suc i) items))) =
    lines_past line (plain_exports (take i items)) e start now so_far (plain_exports (drop (suc i) items)) (omega (arith, longer, above)) in
    omega (arith, past, ap (λ (l : List PlainExport). length (flat_map line l)) whole)
