use Rattle.std.proofs.Common.{ℕ, ◌-◌, ◌^◌, ◌∙◌, sym, ap}
use Rattle.std.specs.Prelude.{min}
use Rattle.suppression_text.proofs.ClassLemmas.{flagged_are}
use Rattle.suppression_text.proofs.classes.classes_in.Goals as goal

pub returns-then-has_flags : goal.returns-then-has_flags
returns-then-has_flags c =
    c.saturating_mul.ensures
    ∙ ap (λ (n : ℕ). min n (2 ^ 64 - 1))
    (flagged_are c.args.line.now c.from.result.now c.in-Some.at c.class_count-count.result c.in-Some.ensures c.from.ensures c.class_count-count.ensures (sym c.has_flags.ensures ∙ c.if-has_flags.true))
