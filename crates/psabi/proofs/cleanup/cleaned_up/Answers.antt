-- Eightbyte by eightbyte.
use Rattle.std.proofs.Common.{sym, ◌∙◌, arith, length-set}
use Rattle.psabi.specs.declared.class.Class.TheVariants.{NoClass}
use Rattle.psabi.specs.Cleanup.{grounded}
use Rattle.psabi.proofs.Merges.{below-more}
use Rattle.std.proofs.lemmas.List.FromFn.{fill_by_all}
use Rattle.psabi.proofs.cleanup.cleaned_up.Goals as goal

pub loop-k-preserved : goal.loop-k-preserved
loop-k-preserved c =
    let many = c.loop-k.invariant.many in
    record {
      many = simp length-set many;
      below = below-more (λ j d. grounded c.args.classes.now j) c.loop-k.cleaned c.loop-k.cleaned c.loop-k.k c.grounded.result (omega arith) c.grounded.ensures c.loop-k.invariant.below;
    }

pub returns : goal.returns
returns c =
    let e = fill_by_all (grounded c.args.classes.now) c.loop-k.cleaned 8 NoClass c.loop-k.invariant.many (λ k lt. c.loop-k.invariant.below k (omega arith)) in
    let kept = sym c.becomes_memory_class.ensures ∙ c.if-becomes_memory_class.false in
    rw kept e
