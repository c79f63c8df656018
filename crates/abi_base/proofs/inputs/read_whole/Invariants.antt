use Rattle.std.proofs.Common.{◌≡◌, ◌-◌, ◌≤◌, vec_len}
use Rattle.abi_base.specs.Causes.{count_after}
use Rattle.abi_base.proofs.Loops.{ReadSoFar}
use Rattle.abi_base.proofs.inputs.read_whole.Given as goal

abbrev pub invariant-pieces : goal.invariant-pieces
invariant-pieces g l =
    record {
      so_far : ReadSoFar g.I.Inputs.told g.I.Inputs.faults g.I.Inputs.answers_to g.I.Inputs.left g.I.Inputs.given g.I.Inputs.is_made_to_fail l.fn.inputs l.inputs l.name l.bytes.items l.piece.items;
      within : vec_len l.bytes ≤ l.limit;
      once : g.I.Inputs.started l.inputs ≡ count_after (g.I.Inputs.started l.fn.inputs) 1;
    }

abbrev pub decreases-pieces : goal.decreases-pieces
decreases-pieces g l = l.limit - vec_len l.bytes
