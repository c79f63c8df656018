-- Nothing is broken exactly where each rule is kept.
use Rattle.std.proofs.Common.{sym, ◌∙◌, refl}
use Rattle.std.proofs.lemmas.Bool.{false≢true}
use Rattle.pair_rules.proofs.Keeps.{none_uncompared, none_compared, whole_from_none, parts_from_none}
use Rattle.pair_rules.proofs.rules.holds.Goals as goal

pub returns-then-not-keeps_whole : goal.returns-then-not-keeps_whole
returns-then-not-keeps_whole c = (
  (λ holds. absurd (false≢true holds)),
  λ none. c.if-not-keeps_whole.ensures ∙ whole_from_none c.args.old.now c.args.new.now none,
)

pub returns-then-not-are_compared : goal.returns-then-not-are_compared
returns-then-not-are_compared c = (
  (λ holds. none_uncompared c.args.old.now c.args.new.now (sym c.if-not-are_compared.ensures) (sym c.if-not-keeps_whole.ensures)),
  λ none. refl,
)

pub returns : goal.returns
returns c = (
  (λ holds. none_compared c.args.old.now c.args.new.now (sym c.if-not-are_compared.ensures) (sym c.if-not-keeps_whole.ensures) (sym c.keeps_parts.ensures ∙ holds)),
  λ none. c.keeps_parts.ensures ∙ parts_from_none c.args.old.now c.args.new.now (sym c.if-not-are_compared.ensures) none,
)
