-- Alignments are at most the greatest explicit one.
use Rattle.std.proofs.Common.{◌≡◌, ◌<◌, ◌≤◌, ◌^◌, ℕ, suc, List, [], ◌∷◌, length, get_or, Option, Some, None, refl, arith}
use Rattle.std.specs.Prelude.{Bool, true, false, nat_lt}
use Rattle.std.proofs.lemmas.Bool.Decides.{nat_tests}
use Rattle.abi_types.specs.declared.kind.Kind.{Kind}
use Rattle.abi_types.specs.declared.kind.Kind.TheVariants as kind
use Rattle.abi_types.specs.declared.kind.Group.{Group}
use Rattle.abi_types.specs.declared.kind.Group.TheVariants as group
use Rattle.abi_types.specs.Types.{PlainNode}
use Rattle.abi_types.specs.Graphs.{IsGraph, view_at, part_at, no_part, inner_of}
use Rattle.abi_types.specs.Forms.{is_aggregate}
use Rattle.psabi.specs.Alignment.{other_align, scalar_align, complex_align, vector_align, natural_align, greatest, named_or, inner_align, own_align, align_of}
use Rattle.psabi.proofs.AlignLemmas.{align_of-step}
use Rattle.abi_types.proofs.lemmas.ByValue.{by_value-induction}

other-bound : (size : ℕ) → other_align size ≤ 64
other-bound size = go (nat_lt 8 size) refl where
  go : (b : Bool) → nat_lt 8 size ≡ b → other_align size ≤ 64
  go true is = rw is (omega arith)
  go false is = rw is (omega arith)

scalar-bound : (size : ℕ) → scalar_align size ≤ 64
scalar-bound size = grind (arith, nat_tests)

complex-bound : (size : ℕ) → complex_align size ≤ 64
complex-bound size = grind (arith, nat_tests)

vector-bound : (size : ℕ) → vector_align size ≤ 64
vector-bound size = grind (arith, nat_tests)

scalar-kind-bound : (g : Group) (size : ℕ) → natural_align kind.Scalar g size ≤ 64
scalar-kind-bound group.Bool size = scalar-bound size
scalar-kind-bound group.Signed size = scalar-bound size
scalar-kind-bound group.Unsigned size = scalar-bound size
scalar-kind-bound group.Float size = scalar-bound size
scalar-kind-bound group.Quad size = scalar-bound size
scalar-kind-bound group.Complex size = complex-bound size
scalar-kind-bound group.Decimal size = scalar-bound size

natural-bound : (k : Kind) (g : Group) (size : ℕ) → natural_align k g size ≤ 64
natural-bound kind.Scalar g size = scalar-kind-bound g size
natural-bound kind.Enumeration g size = scalar-bound size
natural-bound kind.Pointer g size = scalar-bound size
natural-bound kind.Vector g size = vector-bound size
natural-bound kind.Void g size = other-bound size
natural-bound kind.Structure g size = other-bound size
natural-bound kind.Union g size = other-bound size
natural-bound kind.Array g size = other-bound size
natural-bound kind.Function g size = other-bound size

greatest-bound : {X : Type 0} (f : X → ℕ) (xs : List X) (b : ℕ) (d : X) → 1 ≤ b → ((k : ℕ) → k < length xs → f (get_or xs k d) ≤ b) → greatest f xs ≤ b
unfolding greatest
greatest-bound f [] b d one below = one
greatest-bound f (x ∷ xs) b d one below =
    let here : f x ≤ b = below 0 (omega arith) in
    let later = greatest-bound f xs b d one (λ k lt. below (suc k) (omega arith)) in
    omega (arith, here, later)

named-bound : (f : ℕ → ℕ) (o : Option ℕ) (b : ℕ) → 1 ≤ b → ((to : ℕ) → o ≡ Some to → f to ≤ b) → named_or 1 f o ≤ b
named-bound f None b one below = one
named-bound f (Some to) b one below = below to refl

own-bound : (nodes : List PlainNode) (i : ℕ) → ((k to : ℕ) → inner_of (part_at (view_at nodes i) k) ≡ Some to → align_of nodes to ≤ 2 ^ 32) → own_align nodes (align_of nodes) i ≤ 2 ^ 32
own-bound nodes i below = go (is_aggregate (view_at nodes i).kind) refl where
  go : (b : Bool) → is_aggregate (view_at nodes i).kind ≡ b → own_align nodes (align_of nodes) i ≤ 2 ^ 32
  go true is = rw is (greatest-bound (inner_align (align_of nodes)) (view_at nodes i).parts (2 ^ 32) no_part (omega arith) (λ k lt. named-bound (align_of nodes) (inner_of (part_at (view_at nodes i) k)) (2 ^ 32) (omega arith) (below k)))
  go false is = let e = natural-bound (view_at nodes i).kind (view_at nodes i).group (view_at nodes i).size in rw is (omega arith)

pub align-bound : (nodes : List PlainNode) → IsGraph nodes → (i : ℕ) → align_of nodes i ≤ 2 ^ 32
align-bound nodes is i = by_value-induction (λ i. align_of nodes i ≤ 2 ^ 32) nodes is
    (λ i below.
    let own = own-bound nodes i below in
    let explicit = (is.limits i).align in
    rw (align_of-step nodes is i) (omega (arith, own, explicit))) i
