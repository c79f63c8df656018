use Rattle.std.proofs.Common.{arith}
use Rattle.abi_types.specs.Parts.{plain_part}
use Rattle.abi_types.proofs.LookupLemmas.{count_under_from, counted_up}
use Rattle.abi_types.proofs.lookup.count_up.Goals as goal

pub overflow_add-number : goal.overflow_add-number
overflow_add-number g c =
    let part = plain_part g.Ix.Index.number_of c.args.part.now in
    let e = count_under_from c.args.counts.now part c.sort_of.result c.name_of.result.now c.get.result c.copied.result c.unwrap_or-number.result c.sort_of.ensures c.name_of.ensures c.get.ensures.value c.copied.ensures c.unwrap_or-number.ensures in
    omega (arith, e, c.requires)

pub returns-clause-number : goal.returns-clause-number
returns-clause-number g c =
    count_under_from c.args.counts.now (plain_part g.Ix.Index.number_of c.args.part.now) c.sort_of.result c.name_of.result.now c.get.result c.copied.result c.unwrap_or-number.result c.sort_of.ensures c.name_of.ensures c.get.ensures.value c.copied.ensures c.unwrap_or-number.ensures

pub returns-clause-counts : goal.returns-clause-counts
returns-clause-counts g c =
    let part = plain_part g.Ix.Index.number_of c.args.part.now in
    counted_up c.args.counts.now c.insert.new.self part c.sort_of.result c.name_of.result.now c.unwrap_or-number.result c.sort_of.ensures c.name_of.ensures
    (count_under_from c.args.counts.now part c.sort_of.result c.name_of.result.now c.get.result c.copied.result c.unwrap_or-number.result c.sort_of.ensures c.name_of.ensures c.get.ensures.value c.copied.ensures c.unwrap_or-number.ensures)
    c.in_ok-insert.ensures.updates.0
