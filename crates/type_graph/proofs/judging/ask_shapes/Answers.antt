use Rattle.std.proofs.Common.{sym, ◌∙◌, map, arith}
use Rattle.std.proofs.lemmas.Option.{slice_get_within, get_or_from_slice_get}
use Rattle.abi_base.proofs.lemmas.Lists.{contains_at}
use Rattle.abi_base.specs.Outcome.{first}
use Rattle.type_reach.specs.Faults.{shape_fault}
use Rattle.type_graph.proofs.JudgeLemmas.{first-on, first-here, first-end}
use Rattle.type_graph.proofs.judging.ask_shapes.Goals as goal

pub shape_fault_of-requires-clause-inside : goal.shape_fault_of-requires-clause-inside
shape_fault_of-requires-clause-inside c = c.requires.closed.inside c.at-e.result (contains_at c.args.found.now c.found.number c.at-e.result c.at-e.ensures)

pub returns-in-Some-clause-judged : goal.returns-in-Some-clause-judged
returns-in-Some-clause-judged c =
    let g = shape_fault c.args.dwarf.now in
    let found = c.args.found.now in
    let e = c.at-e.result in
    first-here g found c.found.number e c.in-Some.fault (first (map g found)) (slice_get_within found c.found.number e c.at-e.ensures) (sym (get_or_from_slice_get found c.found.number e 0 c.at-e.ensures)) (sym c.in_ok-fault.ensures.fault ∙ c.in-Some.is) c.found.invariant

pub found-preserved : goal.found-preserved
found-preserved c =
    let g = shape_fault c.args.dwarf.now in
    let found = c.args.found.now in
    let e = c.at-e.result in
    first-on g found c.found.number e (first (map g found)) (slice_get_within found c.found.number e c.at-e.ensures) (sym (get_or_from_slice_get found c.found.number e 0 c.at-e.ensures)) (sym c.in_ok-fault.ensures.fault ∙ c.in-None.is) c.found.invariant

pub returns-clause-judged : goal.returns-clause-judged
returns-clause-judged c =
    let g = shape_fault c.args.dwarf.now in
    let found = c.args.found.now in
    first-end g found c.found.number (first (map g found)) (omega (arith, c.found-test.false, c.len-number-end.ensures)) c.found.invariant
