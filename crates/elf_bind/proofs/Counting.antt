-- What the exports that were kept count.
use Rattle.std.proofs.Common.{◌≡◌, ℕ, ◌+◌, ◌*◌, ◌<◌, ◌≤◌, List, [], ◌∷◌, ◌++◌, length, take, drop, Option, sym, ◌∙◌, ap, arith}
use Rattle.std.specs.List.{sum_by}
use Rattle.std.proofs.lemmas.List.{length-map, map-append, take-append-drop}
use Rattle.std.proofs.lemmas.List.Elements.{filter_map-append}
use Rattle.std.proofs.lemmas.List.Sums.{sum_by-append, sum_by_push}
use Rattle.abi_base.specs.Budgets.{BudgetState, fresh, with_taken}
use Rattle.abi_base.specs.Elf.{sym_size}
use Rattle.abi_base.specs.declared.limit.Limit.TheVariants.{ExportNames}
use Rattle.abi_types.specs.declared.export.Export.{Export}
use Rattle.abi_types.specs.Exports.{PlainExport}
use Rattle.abi_types.specs.Plain.{plain_export, plain_exports}
use Rattle.elf.specs.declared.symbols.symbol.Symbol.{Symbol}
use Rattle.elf.specs.symbols.Plain.{plain_symbol, plain_symbols}
use Rattle.elf.specs.symbols.Symbols.{PlainSymbol}
use Rattle.elf.specs.versions.Versions.{PlainVersion, version_in}
use Rattle.elf_bind.specs.Exports.{export_cost, export_of, exports_allowed, exports_count, exports_with}

-- the budget is that for the symbols, and what was taken of it is what the exports count
pub record CountedExports (symbols : List PlainSymbol) (exports : List PlainExport) (budget : BudgetState) : Type 0 where
  pub limit_is : budget.limit ≡ ExportNames
  pub most : budget.most ≡ exports_allowed symbols
  pub taken : budget.taken ≡ sum_by export_cost exports
  pub within : budget.taken ≤ budget.most

pub counted_none : (symbols : List Symbol) (budget : BudgetState) → budget ≡ fresh ExportNames (sym_size * length symbols) → CountedExports (plain_symbols symbols) [] budget
counted_none symbols budget is =
    let e : length symbols ≡ length (plain_symbols symbols) = sym (length-map symbols plain_symbol) in
    record {
      limit_is = ap (λ (b : BudgetState). b.limit) is;
      most = ap (λ (b : BudgetState). b.most) is ∙ ap (λ (n : ℕ). (fresh ExportNames (sym_size * n)).most) e;
      taken = ap (λ (b : BudgetState). b.taken) is;
      within = omega (arith, ap (λ (b : BudgetState). b.taken) is);
    }

pub counted_more : (symbols : List PlainSymbol) (before more : List Export) (e : Export) (budget next : BudgetState) → CountedExports symbols (plain_exports before) budget
    → more ≡ before ++ e ∷ [] → budget.taken + export_cost (plain_export e) ≤ budget.most → next ≡ with_taken budget (export_cost (plain_export e)) → CountedExports symbols (plain_exports more) next
counted_more symbols before more e budget next so_far grown fits took =
    let sums : sum_by export_cost (plain_exports more) ≡ sum_by export_cost (plain_exports before) + export_cost (plain_export e) =
    ap (λ (l : List Export). sum_by export_cost (plain_exports l)) grown
    ∙ ap (sum_by export_cost) (map-append plain_export before (e ∷ []))
    ∙ sum_by_push export_cost (plain_exports before) (plain_export e) in
    record {
      limit_is = ap (λ (b : BudgetState). b.limit) took ∙ so_far.limit_is;
      most = ap (λ (b : BudgetState). b.most) took ∙ so_far.most;
      taken = omega (arith, ap (λ (b : BudgetState). b.taken) took, so_far.taken, sums);
      within = omega (arith, ap (λ (b : BudgetState). b.taken) took, ap (λ (b : BudgetState). b.most) took, fits);
    }

-- the exports among the first symbols count at most what all do
front : (symbols : List PlainSymbol) (versions : List (Option PlainVersion)) (i : ℕ) → sum_by export_cost (exports_with (take i symbols) versions) ≤ exports_count symbols versions
front symbols versions i =
    let split : exports_count symbols versions ≡ sum_by export_cost (exports_with (take i symbols) versions) + sum_by export_cost (exports_with (drop i symbols) versions) =
    ap (λ (l : List PlainSymbol). sum_by export_cost (exports_with l versions)) (sym (take-append-drop i symbols))
    ∙ ap (sum_by export_cost) (filter_map-append (λ (s : PlainSymbol). export_of s (version_in versions s.number)) (take i symbols) (drop i symbols))
    ∙ sum_by-append export_cost (exports_with (take i symbols) versions) (exports_with (drop i symbols) versions) in
    omega (arith, split)

pub counted_past : (symbols : List PlainSymbol) (versions : List (Option PlainVersion)) (i : ℕ) (before : List Export) (e : Export) (budget : BudgetState) → CountedExports symbols (plain_exports before) budget
    → plain_exports (before ++ e ∷ []) ≡ exports_with (take (i + 1) symbols) versions → budget.most < budget.taken + export_cost (plain_export e) → exports_allowed symbols < exports_count symbols versions
counted_past symbols versions i before e budget so_far read above =
    let sums : sum_by export_cost (exports_with (take (i + 1) symbols) versions) ≡ sum_by export_cost (plain_exports before) + export_cost (plain_export e) =
    ap (sum_by export_cost) (sym read ∙ map-append plain_export before (e ∷ []))
    ∙ sum_by_push export_cost (plain_exports before) (plain_export e) in
    omega (arith, front symbols versions (i + 1), sums, above, so_far.most, so_far.taken)

pub counted_whole : (symbols : List PlainSymbol) (versions : List (Option PlainVersion)) (exports : List PlainExport) (budget : BudgetState) → CountedExports symbols exports budget
    → exports ≡ exports_with symbols versions → exports_count symbols versions ≤ exports_allowed symbols
counted_whole symbols versions exports budget so_far read =
    omega (arith, so_far.within, so_far.most, so_far.taken, ap (sum_by export_cost) read)
