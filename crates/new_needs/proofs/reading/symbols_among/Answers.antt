use Rattle.std.proofs.Common.{◌∙◌, sym, ap}
use Rattle.elf.specs.symbols.Plain.{plain_symbols}
use Rattle.new_needs.specs.Plain.{plain_all}
use Rattle.new_needs.proofs.ReadLemmas.{strong_added, strong_passed}
use Rattle.new_needs.proofs.reading.symbols_among.Goals as goal
use Rattle.new_needs.proofs.reading.symbols_among.Goals.{then-is_strong+in_ok-push, else-is_strong}

pub loop-import-preserved : goal.loop-import-preserved
loop-import-preserved c =
    elim c.if-is_strong.branch [
      | then-is_strong+in_ok-push w ↦
          strong_added (plain_symbols c.args.symbols.now) c.args.imports.now c.loop-import.import-index _ c.loop-import-test.true c.loop-import.needed.items c.if-is_strong.needed.items w.symbol_of.result
          (sym c.is_strong.ensures ∙ w.if-is_strong.true) w.symbol_of.ensures (ap (λ v. v.items) w.needed-is ∙ w.in_ok-push.ensures.items) c.loop-import.invariant
      | else-is_strong w ↦
          ap (λ v. plain_all v.items) w.needed-is
          ∙ strong_passed (plain_symbols c.args.symbols.now) c.args.imports.now c.loop-import.import-index _ c.loop-import-test.true c.loop-import.needed.items
          (sym c.is_strong.ensures ∙ w.if-is_strong.false) c.loop-import.invariant
    ]
