use Rattle.std.proofs.Common.{◌≡◌, ◌∙◌, ◌∷◌, [], ◌++◌, ◌*◌, length, refl, sym, ap, arith}
use Rattle.std.proofs.lemmas.List.{length-map}
use Rattle.std.proofs.lemmas.Result.{err_from_is_err_and}
use Rattle.std.specs.Option.{option_map}
use Rattle.abi_base.specs.Budgets.{fresh}
use Rattle.abi_base.specs.Elf.{sym_size}
use Rattle.abi_base.specs.declared.limit.Limit.TheVariants.{ImportNeeds}
use Rattle.abi_base.proofs.lemmas.Filtered.{spent_again}
use Rattle.abi_base.proofs.lemmas.Outcomes.{on_limit_weaker}
use Rattle.elf.specs.symbols.Plain.{plain_symbol, plain_symbols}
use Rattle.elf_needs.specs.Plain.{needed}
use Rattle.app_check.specs.Imports.{all_need_bytes, need_bytes}
use Rattle.app_check.specs.Plain.{plain_import, plain_imports}
use Rattle.app_check.proofs.ImportsRead.{import_added, import_passed, bytes_added, bytes_past, bytes_start}
use Rattle.app_check.proofs.reading.imports_in.Goals as goal
use Rattle.app_check.proofs.reading.imports_in.Goals.{in-Some+in_ok-keep, in_default}

pub loop-symbol-init : goal.loop-symbol-init
loop-symbol-init c = record {
  read = ap plain_imports c.new-imports.ensures.items;
  spent =
      bytes_start (sym_size * length (plain_symbols c.args.symbols.now)) c.new-imports.result.items c.of-budget.result c.new-imports.ensures.items
      (c.of-budget.ensures ∙ ap (λ n. fresh ImportNeeds (sym_size * n)) (sym (length-map c.args.symbols.now plain_symbol)));
}

pub loop-symbol-preserved : goal.loop-symbol-preserved
loop-symbol-preserved c =
    elim c.match-import_of.branch [
      | in-Some+in_ok-keep w ↦
          let grown = ap (λ v. v.items) w.imports-is ∙ w.in_ok-keep.ensures.kept in
          record {
            read =
                import_added (needed c.args.needs.now) c.args.indexes.now c.args.symbols.now c.loop-symbol.symbol-index _ c.loop-symbol-test.true c.loop-symbol.imports.items c.match-import_of.imports.items w.in-Some.import
                (sym (ap (option_map plain_import) w.in-Some.is) ∙ c.import_of.ensures) grown c.loop-symbol.invariant.read;
            spent =
                spent_again ImportNeeds (sym_size * length (plain_symbols c.args.symbols.now)) (all_need_bytes (plain_imports c.loop-symbol.imports.items)) (need_bytes (plain_import w.in-Some.import))
                (all_need_bytes (plain_imports c.match-import_of.imports.items)) c.loop-symbol.budget c.match-import_of.budget c.loop-symbol.invariant.spent w.in_ok-keep.ensures.within
                (w.budget-is ∙ w.in_ok-keep.ensures.taken) (bytes_added c.loop-symbol.imports.items c.match-import_of.imports.items w.in-Some.import grown);
          }
      | in_default w ↦
          record {
            read =
                ap (λ v. plain_imports v.items) w.imports-is
                ∙ import_passed (needed c.args.needs.now) c.args.indexes.now c.args.symbols.now c.loop-symbol.symbol-index _ c.loop-symbol-test.true c.loop-symbol.imports.items
                (sym (ap (option_map plain_import) w.in_default.is) ∙ c.import_of.ensures) c.loop-symbol.invariant.read;
            spent = rw (w.imports-is, w.budget-is) c.loop-symbol.invariant.spent;
          }
    ]

pub returns-in_err-keep-clause-past : goal.returns-in_err-keep-clause-past
returns-in_err-keep-clause-past c =
    let p = err_from_is_err_and c.from_residual.result c.from_residual.ensures.1 in
    rw (p.1, p.2) (on_limit_weaker c.in_err-keep.field-0.0 _ _
    (λ l h. (
      h.0 ∙ c.loop-symbol.invariant.spent.limit_is,
      bytes_past (needed c.args.needs.now) c.args.indexes.now (plain_symbols c.args.symbols.now) c.loop-symbol.symbol-index (sym_size * length (plain_symbols c.args.symbols.now))
          c.loop-symbol.imports.items c.in-Some.import c.loop-symbol.budget c.loop-symbol.invariant.spent
          (import_added (needed c.args.needs.now) c.args.indexes.now c.args.symbols.now c.loop-symbol.symbol-index _ c.loop-symbol-test.true c.loop-symbol.imports.items
          (c.loop-symbol.imports.items ++ c.in-Some.import ∷ []) c.in-Some.import
          (sym (ap (option_map plain_import) c.in-Some.is) ∙ c.import_of.ensures) refl c.loop-symbol.invariant.read) h.1,
    ))
    c.in_err-keep.ensures.past)

pub returns-clause-short : goal.returns-clause-short
returns-clause-short c =
    let e : length (plain_symbols c.args.symbols.now) ≡ length c.args.symbols.now = length-map c.args.symbols.now plain_symbol in
    omega (arith, e, c.loop-symbol.invariant.spent.within, c.loop-symbol.invariant.spent.most, c.loop-symbol.invariant.spent.taken)
