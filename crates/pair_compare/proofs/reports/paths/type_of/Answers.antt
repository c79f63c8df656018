use Rattle.std.proofs.Common.{◌∙◌, sym, ap, List, Some, None}
use Rattle.abi_types.specs.Graphs.{node_of}
use Rattle.abi_types.specs.Types.{PlainNode}
use Rattle.abi_types.specs.Plain.{plain_export}
use Rattle.pair_compare.proofs.reports_lemmas.ExportLemmas.{type_none, type_some}
use Rattle.pair_compare.proofs.reports.paths.type_of.Goals as goal

pub returns-in-None : goal.returns-in-None
returns-in-None c = c.of.ensures ∙ type_none c.args.library.now c.args.export c.in-None.ensures

pub returns-in-None-find : goal.returns-in-None-find
returns-in-None-find c = c.of-in-None-find.ensures ∙ type_some c.args.library.now c.args.export (plain_export c.in-Some.export.now) None c.in-Some.ensures (ap (λ (g : List PlainNode). node_of g c.in-Some.export.now.entry) (sym c.graph.ensures) ∙ sym c.in-None-find.ensures.node)

pub returns-in-Some-find : goal.returns-in-Some-find
returns-in-Some-find c = type_some c.args.library.now c.args.export (plain_export c.in-Some.export.now) (Some c.in-Some-find.node) c.in-Some.ensures (ap (λ (g : List PlainNode). node_of g c.in-Some.export.now.entry) (sym c.graph.ensures) ∙ sym c.in-Some-find.ensures.node)
