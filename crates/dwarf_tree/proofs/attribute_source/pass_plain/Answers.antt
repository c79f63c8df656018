use Rattle.std.proofs.Common.{ℕ, ◌∙◌, subst, arith}
use Rattle.dwarf_tree.proofs.AskLemmas.{EndAt, plain_more}
use Rattle.dwarf_tree.proofs.attribute_source.pass_plain.Goals as goal

pub pairs-preserved : goal.pairs-preserved
pairs-preserved c =
    let ends : EndAt c.in-Some.pair.form c.args.unit_end c.pairs.at c.in-Some-fixed_end.after =
    subst (λ (form : ℕ). EndAt form c.args.unit_end c.pairs.at c.in-Some-fixed_end.after) c.from-in-Some.ensures c.in-Some-fixed_end.ensures.end in
    record {
      same =
          plain_more c.args.abbrevs.now c.args.unit_end c.args.name c.pairs.pairs c.pairs.at (c.args.first, c.args.from) c.in-Some.pair.attribute c.in-Some.pair.form c.in-Some-fixed_end.after
          c.in-Some.ensures.found ends (λ is. c.if-from-name.false (c.from.ensures ∙ is)) c.pairs.invariant.same;
      after = omega (arith, c.pairs.invariant.after);
    }
