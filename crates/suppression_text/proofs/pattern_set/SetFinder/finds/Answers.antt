use Rattle.std.proofs.Common.{◌∙◌, sym, ap, arith}
use Rattle.suppression_text.specs.Patterns.{has_match, is_one_found}
use Rattle.suppression_text.proofs.PatternLemmas.{is_any}
use Rattle.suppression_text.proofs.pattern_set.SetFinder.finds.Goals as goal

pub returns-clause-found : goal.returns-clause-found
returns-clause-found c =
    is_any (has_match c.args.bytes.now) _ c.is_match.result c.is_match.ensures.found ∙ sym (c.self.invariant c.args.bytes.now (λ k. let fits = c.type_inv.bytes k in omega arith))
    ∙ ap (λ texts. is_one_found texts c.args.bytes.now) c.self.view_is
