use Rattle.pair_compare.proofs.reports_lemmas.ExportLemmas.{names_there}
use Rattle.pair_compare.proofs.reports.exports.is_named.Goals as goal

pub returns : goal.returns
returns c = names_there c.args.library.now.exports c.args.name.now c.exports_named.result.now c.is_empty.result c.exports_named.ensures c.is_empty.ensures
