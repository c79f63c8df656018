-- The set has the other texts.
use Rattle.std.proofs.Common.{◌∙◌, ℕ, List, ap, not}
use Rattle.type_notes.specs.DefinedElsewhere.{has_text, is_lacking}
use Rattle.type_notes.proofs.DefinitionLemmas.{position_same}
use Rattle.type_notes.proofs.lacking.first_lacking.Goals as goal

pub returns : goal.returns
returns c =
    c.first_absent.ensures ∙ position_same (λ (t : List ℕ). not (has_text c.in_ok-set.set t)) (is_lacking c.args.others.now) (λ t. ap not (c.in_ok-set.ensures t)) c.args.texts.now
