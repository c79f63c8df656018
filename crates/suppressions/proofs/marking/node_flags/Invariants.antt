use Rattle.std.proofs.Common.{◌≡◌, map, take}
use Rattle.std.specs.Option.{option_copied}
use Rattle.abi_types.specs.declared.kind.Way.TheVariants.{Direct, Pointer}
use Rattle.abi_types.specs.Types.{PlainNode}
use Rattle.suppressions.specs.Meaning.{marks_names}
use Rattle.suppressions.specs.Known.{IsKnown}
use Rattle.suppressions.proofs.marking.node_flags.Given as goal

-- the sections have not changed, and the flags are those of the nodes so far
abbrev pub invariant-loop-i : goal.invariant-loop-i
invariant-loop-i l = record {
  same : l.sections ≡ l.fn.sections;
  known : IsKnown l.sections (option_copied l.soname) l.known;
  direct : l.direct ≡ map (λ (n : PlainNode). marks_names l.sections (option_copied l.soname) Direct n.labels) (take l.i l.graph);
  pointer : l.pointer ≡ map (λ (n : PlainNode). marks_names l.sections (option_copied l.soname) Pointer n.labels) (take l.i l.graph);
}
