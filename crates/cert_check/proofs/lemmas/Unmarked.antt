-- Marks that mark nothing.
use Rattle.std.proofs.Common.{◌≡◌, ℕ, false}
use Rattle.abi_types.specs.declared.kind.Way.{Way}
use Rattle.abi_types.specs.declared.kind.Way.TheVariants.{Direct, Pointer}
use Rattle.pair_rules.specs.Steps.{is_marked}
use Rattle.cert_check.specs.Compatible.{Sides, task_of}
use Rattle.cert_check.specs.Unmarked.{MarkNothing}

pub unmarked : (s : Sides) → MarkNothing s.marks → (a : ℕ) (way : Way) → is_marked (task_of s) a way ≡ false
unmarked s m a Direct = m.direct a
unmarked s m a Pointer = m.pointer a
