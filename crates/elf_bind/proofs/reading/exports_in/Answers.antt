use Rattle.std.proofs.Common.{◌∙◌, ◌∷◌, [], ◌++◌, refl, sym, ap, get_or}
use Rattle.std.proofs.lemmas.Result.{err_from_is_err_and}
use Rattle.abi_base.proofs.lemmas.Outcomes.{on_limit_weaker}
use Rattle.std.specs.Option.{option_map}
use Rattle.abi_types.specs.Plain.{plain_export, plain_exports}
use Rattle.elf.specs.symbols.Plain.{plain_symbol, plain_symbols}
use Rattle.elf_bind.specs.Exports.{export_of}
use Rattle.elf_bind.proofs.Counting.{counted_more, counted_past}
use Rattle.elf_bind.proofs.Among.{none_symbol, export_added, export_passed}
use Rattle.elf_bind.proofs.reading.exports_in.Goals as goal
use Rattle.elf_bind.proofs.reading.exports_in.Goals.{in-Some+in_ok-keep, in_default}

pub loop-symbol-preserved : goal.loop-symbol-preserved
loop-symbol-preserved c =
    let is = c.export_of.ensures ∙ ap (export_of (plain_symbol (get_or c.args.symbols.now c.loop-symbol.symbol-index none_symbol))) c.version_of.ensures in
    elim c.match-export_of.branch [
      | in-Some+in_ok-keep w ↦ (
        export_added c.args.versions.now c.args.symbols.now c.loop-symbol.symbol-index _ c.loop-symbol-test.true c.loop-symbol.exports.items c.match-export_of.exports.items w.in-Some.export
            (sym (ap (option_map plain_export) w.in-Some.is) ∙ is) (ap (λ v. v.items) w.exports-is ∙ w.in_ok-keep.ensures.kept) c.loop-symbol.invariant.0,
        counted_more (plain_symbols c.args.symbols.now) c.loop-symbol.exports.items c.match-export_of.exports.items w.in-Some.export c.loop-symbol.budget c.match-export_of.budget
            c.loop-symbol.invariant.1 (ap (λ v. v.items) w.exports-is ∙ w.in_ok-keep.ensures.kept) w.in_ok-keep.ensures.within (w.budget-is ∙ w.in_ok-keep.ensures.taken),
      )
      | in_default w ↦ (
        ap (λ v. plain_exports v.items) w.exports-is
            ∙ export_passed c.args.versions.now c.args.symbols.now c.loop-symbol.symbol-index _ c.loop-symbol-test.true c.loop-symbol.exports.items (sym (ap (option_map plain_export) w.in_default.is) ∙ is)
            c.loop-symbol.invariant.0,
        rw (w.exports-is, w.budget-is) c.loop-symbol.invariant.1,
      )
    ]

pub returns-in_err-keep-clause-past : goal.returns-in_err-keep-clause-past
returns-in_err-keep-clause-past c =
    let is = c.export_of.ensures ∙ ap (export_of (plain_symbol (get_or c.args.symbols.now c.loop-symbol.symbol-index none_symbol))) c.version_of.ensures in
    let p = err_from_is_err_and c.from_residual.result c.from_residual.ensures.1 in
    rw (p.1, p.2) (on_limit_weaker c.in_err-keep.field-0.0 _ _
    (λ l h. (
      h.0 ∙ c.loop-symbol.invariant.1.limit_is,
      counted_past (plain_symbols c.args.symbols.now) c.args.versions.now c.loop-symbol.symbol-index c.loop-symbol.exports.items c.in-Some.export c.loop-symbol.budget c.loop-symbol.invariant.1
          (export_added c.args.versions.now c.args.symbols.now c.loop-symbol.symbol-index _ c.loop-symbol-test.true c.loop-symbol.exports.items (c.loop-symbol.exports.items ++ c.in-Some.export ∷ []) c.in-Some.export
          (sym (ap (option_map plain_export) c.in-Some.is) ∙ is) refl c.loop-symbol.invariant.0) h.1,
    ))
    c.in_err-keep.ensures.past)
