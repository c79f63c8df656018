use Rattle.std.proofs.Common.{◌≡◌, ◌<◌, ◌∙◌, ℕ, ap, map, length, arith}
use Rattle.std.specs.Option.{option_copied}
use Rattle.abi_types.specs.declared.kind.Way.TheVariants.{Direct, Pointer}
use Rattle.abi_types.specs.Plain.{plain_label}
use Rattle.abi_types.specs.Graphs.{node_at}
use Rattle.suppressions.specs.declared.accessed_through.MarkedByWay.{MarkedByWay}
use Rattle.suppressions.specs.Meaning.{marks_names}
use Rattle.suppressions.proofs.MarkLemmas.{flags_more}
use Rattle.suppressions.proofs.marking.node_flags.Goals as goal

pub loop-i-preserved : goal.loop-i-preserved
loop-i-preserved c =
    let was = c.loop-i.invariant in
    let same = c.in_ok-ways.ensures.same in
    let labels = map plain_label c.labels.result.now in
    let inside : c.loop-i.i < length c.args.graph.now = omega (arith, c.loop-i-test.true, c.len-i-end.ensures) in
    let are : labels ≡ (node_at c.args.graph.now c.loop-i.i).labels = c.labels.ensures ∙ ap (λ (k : ℕ). (node_at c.args.graph.now k).labels) c.of.ensures in
    record {
      same = same ∙ was.same;
      known = rw same c.in_ok-ways.ensures.known;
      direct = rw same (flags_more (marks_names c.loop-i.sections (option_copied c.args.soname) Direct) c.args.graph.now c.loop-i.i c.loop-i.direct _ labels c.in_ok-ways.ways.direct inside was.direct are (ap (λ (w : MarkedByWay). w.direct) c.in_ok-ways.ensures.ways) c.in_ok-push.ensures.ok);
      pointer = rw same (flags_more (marks_names c.loop-i.sections (option_copied c.args.soname) Pointer) c.args.graph.now c.loop-i.i c.loop-i.pointer _ labels c.in_ok-ways.ways.pointer inside was.pointer are (ap (λ (w : MarkedByWay). w.pointer) c.in_ok-ways.ensures.ways) c.in_ok-push-2.ensures.ok);
    }
