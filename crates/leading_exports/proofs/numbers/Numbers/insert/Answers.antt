-- One number more.
use Rattle.std.proofs.Common.{List, ℕ, Some, ap, cond, ◌∙◌}
use Rattle.pair_rules.specs.Steps.{Triple}
use Rattle.pair_explorer.specs.Keys.{at_triple}
use Rattle.leading_exports.specs.Numbers.{number_in}
use Rattle.leading_exports.proofs.Numbered.{inserted_is}
use Rattle.leading_exports.proofs.numbers.Numbers.insert.Goals as goal

pub returns-clause-ok : goal.returns-clause-ok
returns-clause-ok c = λ q.
    inserted_is c.self.inside.by_key c.insert.new.self c.args.triple.now c.key_of.result c.args.number c.key_of.ensures c.in_ok-insert.ensures.updates.0 q
    ∙ ap (λ (ns : List (Triple × ℕ)). cond (at_triple c.args.triple.now q) (Some c.args.number) (number_in ns q)) c.self.view_is
