-- The node at which the first steps end, and their text.
use Rattle.std.proofs.Common.{string_bytes}
use Rattle.pair_compare.proofs.reports_lemmas.WalkLemmas.{IsSpelled}
use Rattle.pair_compare.proofs.reports.paths.steps_text.Given as goal

abbrev pub invariant-walk : goal.invariant-walk
invariant-walk l = IsSpelled l.library l.route.export l.route.parts l.k l.node (string_bytes l.text)
