-- The nodes that parts name.
use Rattle.std.proofs.Common.{◌≡◌, ℕ, Some}
use Rattle.abi_types.specs.Types.{PlainPart, Member, Enumerator, Target, Element, Outcome, Param}
use Rattle.abi_types.specs.Graphs.{to_of, inner_of}

-- a node that a part names by value is one that it names
pub to_from_inner : (p : PlainPart) (to : ℕ) → inner_of p ≡ Some to → to_of p ≡ Some to
to_from_inner (Member name bit width at) to e = e
to_from_inner (Enumerator name value) to e = cc
to_from_inner (Target at) to e = cc
to_from_inner (Element at) to e = e
to_from_inner (Outcome at) to e = e
to_from_inner (Param at) to e = e
