use Rattle.std.proofs.Common.{◌∙◌}
use Rattle.app_check.proofs.LinksLemmas.{count_same}
use Rattle.app_check.proofs.linking.links_with.Goals as goal

pub returns-clause-bound : goal.returns-clause-bound
returns-clause-bound c = c.in_ok-links_to.ensures.bound ∙ count_same _ _ _ _ _ _ c.in_ok-offered.ensures.exports c.in_ok-offered.ensures.soname c.requires.imports
