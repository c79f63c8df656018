-- The first texts.
use Rattle.std.proofs.Common.{◌≡◌, ℕ, List, take}
use Rattle.type_notes.specs.DefinedElsewhere.{has_text, is_among}
use Rattle.type_notes.proofs.lacking.set_of.Given as goal

abbrev pub invariant-loop-k : goal.invariant-loop-k
invariant-loop-k l = (q : List ℕ) → has_text l.set q ≡ is_among (take l.k l.texts) q
