-- The classes of a node's object, case by case.
use Rattle.std.proofs.Common.{arith, ◌≡◌, ◌<◌, ◌≤◌, ◌∙◌, ℕ, zero, suc, List, refl, ap, sym, subst}
use Rattle.std.specs.Prelude.{Bool, true, false, ◌||◌, nat_lt, IfSome}
use Rattle.std.specs.List.{fold, list_all}
use Rattle.std.proofs.lemmas.List.FromFn.{fill_by_all}
use Rattle.std.proofs.lemmas.Bool.{le-ltb, lt-ltb}
use Rattle.std.proofs.lemmas.Bool.Decides.{nat_tests}
use Rattle.abi_base.proofs.lemmas.Bools.{or_true}
use Rattle.abi_types.specs.declared.kind.Kind.{Kind}
use Rattle.abi_types.specs.declared.kind.Kind.TheVariants as kind
use Rattle.abi_types.specs.declared.kind.Group.{Group}
use Rattle.abi_types.specs.declared.kind.Group.TheVariants as group
use Rattle.abi_types.specs.Forms.{size_of_kind, is_aggregate, is_leaf}
use Rattle.abi_types.specs.Types.{PlainNode}
use Rattle.abi_types.specs.Graphs.{IsGraph, view_at}
use Rattle.psabi.specs.declared.class.Class.{Class}
use Rattle.psabi.specs.declared.class.Class.TheVariants.{NoClass}
use Rattle.psabi.specs.declared.eightbytes.Eightbytes.{Eightbytes}
use Rattle.abi_types.specs.Leaves.{leaves_of}
use Rattle.psabi.specs.Past.{ends_past}
use Rattle.psabi.specs.Rows.{one, all_memory_class, integer_row, float_row, quad_row, decimal_row, complex_row, vector_row, scalar_row, row}
use Rattle.psabi.specs.Touching.{is_aligned}
use Rattle.psabi.specs.Merging.{merge_leaf, MergesLeaves, nothing_merged}
use Rattle.psabi.specs.Class.{class_at}
use Rattle.psabi.specs.Classes.{merged_at, merged, in_memory, classes_of}
use Rattle.psabi.specs.Cleanup.{cleaned_up}

-- before any leaf
nothing-at : (k : ℕ) → class_at (one NoClass) k ≡ NoClass
nothing-at zero = refl
nothing-at (suc zero) = refl
nothing-at (suc (suc zero)) = refl
nothing-at (suc (suc (suc zero))) = refl
nothing-at (suc (suc (suc (suc zero)))) = refl
nothing-at (suc (suc (suc (suc (suc zero))))) = refl
nothing-at (suc (suc (suc (suc (suc (suc zero)))))) = refl
nothing-at (suc (suc (suc (suc (suc (suc (suc zero))))))) = refl
nothing-at (suc (suc (suc (suc (suc (suc (suc (suc k)))))))) = refl

pub merged-from_merging : (nodes : List PlainNode) (i : ℕ) (r s : Eightbytes) → r ≡ nothing_merged → MergesLeaves (leaves_of nodes i 0 0) r s → s.classes ≡ merged nodes i
unfolding merged merged_at
merged-from_merging nodes i r s e eightbytes =
    let P : Eightbytes → Type 0 = λ r. MergesLeaves (leaves_of nodes i 0 0) r s in
    let held : MergesLeaves (leaves_of nodes i 0 0) nothing_merged s = subst P e eightbytes in
    fill_by_all (merged_at nodes i) s.classes 8 NoClass (held.many refl)
    (λ k lt. held.classes k lt ∙ ap (λ (c : Class). fold (merge_leaf k) c (leaves_of nodes i 0 0)) (nothing-at k))

pub aligned-from_merging : (nodes : List PlainNode) (i : ℕ) (r s : Eightbytes) → r ≡ nothing_merged → MergesLeaves (leaves_of nodes i 0 0) r s → list_all is_aligned (leaves_of nodes i 0 0) ≡ s.aligned
aligned-from_merging nodes i r s e eightbytes =
    let P : Eightbytes → Type 0 = λ r. MergesLeaves (leaves_of nodes i 0 0) r s in
    let held : MergesLeaves (leaves_of nodes i 0 0) nothing_merged s = subst P e eightbytes in
    sym held.aligned

pub classes-leaf : (nodes : List PlainNode) (i : ℕ) → is_leaf (view_at nodes i).kind ≡ true → classes_of nodes i ≡ row (view_at nodes i).kind (view_at nodes i).group (view_at nodes i).size
unfolding classes_of
classes-leaf nodes i leaf = rw leaf refl

pub classes-none : (nodes : List PlainNode) (i : ℕ) → is_leaf (view_at nodes i).kind ≡ false → is_aggregate (view_at nodes i).kind ≡ false → classes_of nodes i ≡ one NoClass
unfolding classes_of
classes-none nodes i leaf whole = rw (leaf, whole) refl

classes-memory : (nodes : List PlainNode) (i : ℕ) → is_leaf (view_at nodes i).kind ≡ false → is_aggregate (view_at nodes i).kind ≡ true → in_memory nodes i ≡ true → classes_of nodes i ≡ all_memory_class
unfolding classes_of
classes-memory nodes i leaf whole memory = rw (leaf, whole, memory) refl

pub classes-large : (nodes : List PlainNode) (i : ℕ) → is_leaf (view_at nodes i).kind ≡ false → is_aggregate (view_at nodes i).kind ≡ true → 64 < (view_at nodes i).size → classes_of nodes i ≡ all_memory_class
unfolding in_memory
classes-large nodes i leaf whole lt =
    let large : nat_lt 64 (view_at nodes i).size ≡ true = lt-ltb 64 (view_at nodes i).size lt in
    let memory : in_memory nodes i ≡ true = rw large refl in
    classes-memory nodes i leaf whole memory

pub classes-past : (nodes : List PlainNode) (i : ℕ) → is_leaf (view_at nodes i).kind ≡ false → is_aggregate (view_at nodes i).kind ≡ true → ends_past nodes i ≡ true → classes_of nodes i ≡ all_memory_class
unfolding in_memory
classes-past nodes i leaf whole past =
    let memory : in_memory nodes i ≡ true = rw (past, or_true (nat_lt 64 (view_at nodes i).size)) refl in
    classes-memory nodes i leaf whole memory

pub classes-unaligned : (nodes : List PlainNode) (i : ℕ) → is_leaf (view_at nodes i).kind ≡ false → is_aggregate (view_at nodes i).kind ≡ true → list_all is_aligned (leaves_of nodes i 0 0) ≡ false → classes_of nodes i ≡ all_memory_class
unfolding in_memory
classes-unaligned nodes i leaf whole odd =
    let memory : in_memory nodes i ≡ true = rw odd (or_true (nat_lt 64 (view_at nodes i).size || ends_past nodes i)) in
    classes-memory nodes i leaf whole memory

pub classes-merged : (nodes : List PlainNode) (i : ℕ) → is_leaf (view_at nodes i).kind ≡ false → is_aggregate (view_at nodes i).kind ≡ true → (view_at nodes i).size ≤ 64 → ends_past nodes i ≡ false → list_all is_aligned (leaves_of nodes i 0 0) ≡ true → classes_of nodes i ≡ cleaned_up (merged nodes i) (view_at nodes i).size
unfolding classes_of in_memory
classes-merged nodes i leaf whole le kept even =
    let small : nat_lt 64 (view_at nodes i).size ≡ false = le-ltb 64 (view_at nodes i).size le in
    rw (leaf, whole, small, kept, even) refl

-- ---- large objects

integer-large : (size : ℕ) → 64 < size → integer_row size ≡ all_memory_class
integer-large size lt = grind (arith, nat_tests)

float-large : (size : ℕ) → 64 < size → float_row size ≡ all_memory_class
float-large size lt = grind (arith, nat_tests)

quad-large : (size : ℕ) → 64 < size → quad_row size ≡ all_memory_class
quad-large size lt = grind (arith, nat_tests)

decimal-large : (size : ℕ) → 64 < size → decimal_row size ≡ all_memory_class
decimal-large size lt = grind (arith, nat_tests)

complex-large : (size : ℕ) → 64 < size → complex_row size ≡ all_memory_class
complex-large size lt = grind (arith, nat_tests)

vector-large : (size : ℕ) → 64 < size → vector_row size ≡ all_memory_class
vector-large size lt = grind (arith, nat_tests)

scalar-large : (g : Group) (size : ℕ) → 64 < size → scalar_row g size ≡ all_memory_class
scalar-large group.Bool size lt = integer-large size lt
scalar-large group.Signed size lt = integer-large size lt
scalar-large group.Unsigned size lt = integer-large size lt
scalar-large group.Float size lt = float-large size lt
scalar-large group.Quad size lt = quad-large size lt
scalar-large group.Complex size lt = complex-large size lt
scalar-large group.Decimal size lt = decimal-large size lt

row-large : (k : Kind) (g : Group) (size : ℕ) → 64 < size → row k g size ≡ all_memory_class
unfolding row
row-large kind.Scalar g size lt = scalar-large g size lt
row-large kind.Enumeration g size lt = integer-large size lt
row-large kind.Pointer g size lt = integer-large size lt
row-large kind.Vector g size lt = vector-large size lt
row-large kind.Void g size lt = refl
row-large kind.Structure g size lt = refl
row-large kind.Union g size lt = refl
row-large kind.Array g size lt = refl
row-large kind.Function g size lt = refl

-- what is neither a leaf nor an aggregate has no bytes
no_bytes : (k : Kind) (size : ℕ) → is_leaf k ≡ false → is_aggregate k ≡ false → IfSome (size_of_kind k) (λ n. size ≡ n) → size ≡ 0
no_bytes kind.Void size leaf whole e = e
no_bytes kind.Function size leaf whole e = e
no_bytes kind.Scalar size leaf whole e = cc
no_bytes kind.Enumeration size leaf whole e = cc
no_bytes kind.Pointer size leaf whole e = cc
no_bytes kind.Vector size leaf whole e = cc
no_bytes kind.Structure size leaf whole e = cc
no_bytes kind.Union size leaf whole e = cc
no_bytes kind.Array size leaf whole e = cc

pub large-memory : (nodes : List PlainNode) (i : ℕ) → IsGraph nodes → 64 < (view_at nodes i).size → classes_of nodes i ≡ all_memory_class
large-memory nodes i is lt = go (is_leaf (view_at nodes i).kind) (is_aggregate (view_at nodes i).kind) refl refl where
  go : (a b : Bool) → is_leaf (view_at nodes i).kind ≡ a → is_aggregate (view_at nodes i).kind ≡ b → classes_of nodes i ≡ all_memory_class
  go true b leaf whole = classes-leaf nodes i leaf ∙ row-large (view_at nodes i).kind (view_at nodes i).group (view_at nodes i).size lt
  go false true leaf whole = classes-large nodes i leaf whole lt
  go false false leaf whole = let none = no_bytes (view_at nodes i).kind (view_at nodes i).size leaf whole (is.forms i).size in absurd (omega (arith, none))
