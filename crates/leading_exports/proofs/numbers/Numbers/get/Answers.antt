-- The number that the tree has for the key of the triple.
use Rattle.std.proofs.Common.{List, ℕ, ap, ◌∙◌}
use Rattle.std.specs.Map.{lookup}
use Rattle.std.specs.Ordering.{is_eq}
use Rattle.pair_rules.specs.Steps.{Triple}
use Rattle.pair_explorer.specs.Keys.{Key, key_cmp}
use Rattle.leading_exports.specs.Numbers.{number_in}
use Rattle.leading_exports.proofs.Numbered.{found_is}
use Rattle.leading_exports.proofs.numbers.Numbers.get.Goals as goal

pub returns : goal.returns
returns c =
    let entries = c.self.inside.by_key.entries in
    c.copied.ensures ∙ c.get.ensures.value ∙ ap (λ (k : Key). lookup (λ (q : Key). is_eq (key_cmp k q)) entries) c.key_of-key.ensures ∙ found_is c.args.triple.now entries
    ∙ ap (λ (ns : List (Triple × ℕ)). number_in ns c.args.triple.now) c.self.view_is
