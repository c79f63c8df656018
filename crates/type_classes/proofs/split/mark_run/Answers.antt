-- One number more is marked.
use Rattle.std.proofs.Common.{◌≡◌, refl, ap, arith, inl, inr, ◌∙◌}
use Rattle.std.proofs.lemmas.Bool.{cases_lt}
use Rattle.type_classes.specs.Blocks.{is_marked}
use Rattle.type_classes.specs.Splits.{key_at, number_at}
use Rattle.type_classes.proofs.SplitLemmas.{marked_more}
use Rattle.type_classes.proofs.split.mark_run.Goals as goal

pub run-preserved : goal.run-preserved
run-preserved c =
    let inv = c.run.invariant in
    let told = c.in_ok-mark.ensures in
    let here = c.if-pair-first.false in
    record {
      blocks = told.blocks;
      listed = told.listed;
      len = told.len ∙ inv.len;
      count = told.count ∙ inv.count;
      classes = λ x. told.classes x ∙ inv.classes x;
      marks = λ x x_in. marked_more c.args.pairs.now c.run.i (key_at c.args.pairs.now c.args.from) x (number_at c.args.pairs.now c.run.i) (is_marked c.run.blocks x) (is_marked c.mark.new.self x) c.run-test.true here refl (inv.marks x x_in) (told.marks x (omega (arith, inv.len)));
      run = λ j low high. elim (cases_lt j c.run.i) [
        | inl lt ↦ inv.run j low lt
        | inr ge ↦ let e : j ≡ c.run.i = omega arith in ap (key_at c.args.pairs.now) e ∙ here
      ];
    }
