-- A worked access: from `void p(struct s *)` by its parameter and its target to the member `x`, which moves into a nameless union at the
-- same place. The view of the new structure has `y` beside it, at the same bit.
use Rattle.std.proofs.Common.{◌≡◌, ℕ, List, [], ◌∷◌, Some, refl}
use Rattle.std.specs.Prelude.{codes}
use Rattle.abi_types.specs.declared.kind.Kind.TheVariants as kind
use Rattle.abi_types.specs.declared.kind.Group.TheVariants as group
use Rattle.abi_types.specs.declared.kind.Way.TheVariants.{Pointer}
use Rattle.abi_types.specs.Types.{PlainPart, Member, Target, Outcome, Param, PlainView, PlainNode}
use Rattle.abi_types.specs.Graphs.{void_view, void_node}
use Rattle.abi_types.specs.Parts.{place_of}
use Rattle.accesses.specs.Moves.{ToParam, ToTarget, ToMember, named}
use Rattle.accesses.specs.Accesses.{Moves, Stay, Then, moved, walk}

abbrev node : PlainView → PlainNode
node v = record void_node { view = v }

abbrev long : PlainView
long = record void_view { kind = kind.Scalar; size = 8; group = group.Signed }

abbrev structure : List PlainPart → PlainView
structure parts = record void_view { kind = kind.Structure; size = 16; parts = parts }

abbrev pointer : ℕ → PlainView
pointer to = record void_view { kind = kind.Pointer; size = 8; parts = Target to ∷ [] }

abbrev function : PlainView
function = record void_view { kind = kind.Function; parts = Outcome 0 ∷ Param 3 ∷ [] }

abbrev old : List PlainNode
old = void_node ∷ node long ∷ node (structure (Member (codes "a") 0 0 1 ∷ Member (codes "x") 64 0 1 ∷ [])) ∷ node (pointer 2) ∷ node function ∷ []

abbrev new : List PlainNode
new = void_node ∷ node long ∷ node (structure (Member (codes "a") 0 0 1 ∷ Member (codes "y") 64 0 1 ∷ Member (codes "x") 64 0 1 ∷ [])) ∷ node (pointer 2) ∷ node function ∷ []

abbrev to_x : Moves
to_x = Then (Then (Then Stay (ToParam 0)) ToTarget) (ToMember (codes "x") 0)

at_old : walk old 4 to_x ≡ Some (record { node = 1; bit = 64; width = 0; way = Pointer })
unfolding moved named place_of
at_old = refl

at_new : walk new 4 to_x ≡ Some (record { node = 1; bit = 64; width = 0; way = Pointer })
unfolding moved named place_of
at_new = refl
