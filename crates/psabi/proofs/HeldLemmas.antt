-- The slots of an argument are the registers that are counted for it.
use Rattle.std.proofs.Common.{◌≡◌, ◌+◌, ◌∙◌, ℕ, zero, suc, List, [], ◌∷◌, length, map, take, Some, refl, ap, sym, subst, arith}
use Rattle.std.specs.Prelude.{Bool, true, false, ◌==◌, ◌||◌, nat_le, cond, count_by, slice_get}
use Rattle.std.proofs.lemmas.List.FromFn.{length-map-range_with_len}
use Rattle.abi_types.specs.declared.kind.Kind.{Kind}
use Rattle.abi_types.specs.declared.kind.Kind.TheVariants as kind
use Rattle.abi_types.specs.declared.kind.Group.{Group}
use Rattle.abi_types.specs.declared.kind.Group.TheVariants as group
use Rattle.abi_types.specs.declared.place.Slot.{Slot}
use Rattle.abi_types.specs.declared.place.Place.{Place}
use Rattle.abi_types.specs.declared.place.Place.TheVariants as place
use Rattle.abi_types.specs.Types.{PlainNode}
use Rattle.abi_types.specs.Forms.{is_leaf, is_aggregate}
use Rattle.abi_types.specs.Graphs.{view_at, params_of}
use Rattle.psabi.specs.declared.class.Class.{Class}
use Rattle.psabi.specs.declared.class.Class.TheVariants.{NoClass, Integer, Sse, SseUp, X87, X87Up, ComplexX87, Memory}
use Rattle.psabi.specs.Calls.{call_of}
use Rattle.psabi.specs.Class.{is_integer, is_sse}
use Rattle.psabi.specs.Classes.{merged, in_memory, classes_of}
use Rattle.psabi.specs.Cleanup.{becomes_memory_class, grounded, cleaned_up}
use Rattle.psabi.specs.Rows.{integer_row, float_row, quad_row, decimal_row, complex_row, vector_row, scalar_row, row}
use Rattle.psabi.specs.Arguments.{argument_slot_of, rounded, step_of}
use Rattle.psabi.specs.Registers.{has_no_place, general_count, vector_count}
use Rattle.psabi.specs.Counted.{Argument, argument_at, arguments_of, ints_before, floats_before, stack_before, ints_of_result, fits, slots_after, place_after, is_general_slot, is_vector_slot, HoldsItsCount}
use Rattle.psabi.specs.Laws.{IsPlaceOf}
use Rattle.psabi.proofs.CountedLemmas.{places-counted}

-- ---- each object has the classes of eight eightbytes

eight-if : (b : Bool) (xs ys : List Class) → length xs ≡ 8 → length ys ≡ 8 → length (cond b xs ys) ≡ 8
eight-if true xs ys e f = e
eight-if false xs ys e f = f

integer-eight : (size : ℕ) → length (integer_row size) ≡ 8
integer-eight size = eight-if (size == 0) _ _ refl (eight-if (nat_le size 8) _ _ refl (eight-if (size == 16) _ _ refl refl))

float-eight : (size : ℕ) → length (float_row size) ≡ 8
float-eight size = eight-if (size == 2 || size == 4 || size == 8) _ _ refl (eight-if (size == 16) _ _ refl refl)

quad-eight : (size : ℕ) → length (quad_row size) ≡ 8
quad-eight size = eight-if (size == 16) _ _ refl refl

decimal-eight : (size : ℕ) → length (decimal_row size) ≡ 8
decimal-eight size = eight-if (size == 4 || size == 8) _ _ refl (eight-if (size == 16) _ _ refl refl)

complex-eight : (size : ℕ) → length (complex_row size) ≡ 8
complex-eight size = eight-if (size == 4 || size == 8) _ _ refl (eight-if (size == 16) _ _ refl (eight-if (size == 32) _ _ refl refl))

vector-eight : (size : ℕ) → length (vector_row size) ≡ 8
vector-eight size = eight-if (size == 8) _ _ refl (eight-if (size == 16) _ _ refl (eight-if (size == 32) _ _ refl (eight-if (size == 64) _ _ refl refl)))

scalar-eight : (g : Group) (size : ℕ) → length (scalar_row g size) ≡ 8
scalar-eight group.Bool size = integer-eight size
scalar-eight group.Signed size = integer-eight size
scalar-eight group.Unsigned size = integer-eight size
scalar-eight group.Float size = float-eight size
scalar-eight group.Quad size = quad-eight size
scalar-eight group.Complex size = complex-eight size
scalar-eight group.Decimal size = decimal-eight size

row-eight : (k : Kind) (g : Group) (size : ℕ) → length (row k g size) ≡ 8
unfolding row
row-eight kind.Scalar g size = scalar-eight g size
row-eight kind.Enumeration g size = integer-eight size
row-eight kind.Pointer g size = integer-eight size
row-eight kind.Vector g size = vector-eight size
row-eight kind.Void g size = refl
row-eight kind.Structure g size = refl
row-eight kind.Union g size = refl
row-eight kind.Array g size = refl
row-eight kind.Function g size = refl

cleaned-eight : (cs : List Class) (size : ℕ) → length (cleaned_up cs size) ≡ 8
cleaned-eight cs size = eight-if (becomes_memory_class cs size) _ _ refl (length-map-range_with_len (grounded cs) 0 8)

classes-eight : (nodes : List PlainNode) (i : ℕ) → length (classes_of nodes i) ≡ 8
unfolding classes_of
classes-eight nodes i =
    let v = view_at nodes i in
    eight-if (is_leaf v.kind) _ _ (row-eight v.kind v.group v.size) (eight-if (is_aggregate v.kind) _ _ (eight-if (in_memory nodes i) _ _ refl (cleaned-eight (merged nodes i) v.size)) refl)

-- ---- each of them has the slot of its class

general-slot : (c : Class) (a b : ℕ) → is_general_slot (argument_slot_of c a b) ≡ is_integer c
general-slot Integer a b = refl
general-slot NoClass a b = refl
general-slot Sse a b = refl
general-slot SseUp a b = refl
general-slot X87 a b = refl
general-slot X87Up a b = refl
general-slot ComplexX87 a b = refl
general-slot Memory a b = refl

vector-slot : (c : Class) (a b : ℕ) → is_vector_slot (argument_slot_of c a b) ≡ is_sse c
vector-slot Integer a b = refl
vector-slot NoClass a b = refl
vector-slot Sse a b = refl
vector-slot SseUp a b = refl
vector-slot X87 a b = refl
vector-slot X87Up a b = refl
vector-slot ComplexX87 a b = refl
vector-slot Memory a b = refl

slots-general : (x y : ℕ) (cs : List Class) → length cs ≡ 8 → count_by is_general_slot (slots_after x y cs) ≡ general_count cs
unfolding general_count
slots-general x y (a ∷ b ∷ c ∷ d ∷ e ∷ f ∷ g ∷ h ∷ []) many =
    rw (general-slot a _ _, general-slot b _ _, general-slot c _ _, general-slot d _ _, general-slot e _ _, general-slot f _ _, general-slot g _ _, general-slot h _ _) refl
slots-general x y [] many = absurd (omega (arith, many))
slots-general x y (a ∷ []) many = absurd (omega (arith, many))
slots-general x y (a ∷ b ∷ []) many = absurd (omega (arith, many))
slots-general x y (a ∷ b ∷ c ∷ []) many = absurd (omega (arith, many))
slots-general x y (a ∷ b ∷ c ∷ d ∷ []) many = absurd (omega (arith, many))
slots-general x y (a ∷ b ∷ c ∷ d ∷ e ∷ []) many = absurd (omega (arith, many))
slots-general x y (a ∷ b ∷ c ∷ d ∷ e ∷ f ∷ []) many = absurd (omega (arith, many))
slots-general x y (a ∷ b ∷ c ∷ d ∷ e ∷ f ∷ g ∷ []) many = absurd (omega (arith, many))
slots-general x y (a ∷ b ∷ c ∷ d ∷ e ∷ f ∷ g ∷ h ∷ i ∷ cs) many = absurd (omega (arith, many))

slots-vector : (x y : ℕ) (cs : List Class) → length cs ≡ 8 → count_by is_vector_slot (slots_after x y cs) ≡ vector_count cs
unfolding vector_count
slots-vector x y (a ∷ b ∷ c ∷ d ∷ e ∷ f ∷ g ∷ h ∷ []) many =
    rw (vector-slot a _ _, vector-slot b _ _, vector-slot c _ _, vector-slot d _ _, vector-slot e _ _, vector-slot f _ _, vector-slot g _ _, vector-slot h _ _) refl
slots-vector x y [] many = absurd (omega (arith, many))
slots-vector x y (a ∷ []) many = absurd (omega (arith, many))
slots-vector x y (a ∷ b ∷ []) many = absurd (omega (arith, many))
slots-vector x y (a ∷ b ∷ c ∷ []) many = absurd (omega (arith, many))
slots-vector x y (a ∷ b ∷ c ∷ d ∷ []) many = absurd (omega (arith, many))
slots-vector x y (a ∷ b ∷ c ∷ d ∷ e ∷ []) many = absurd (omega (arith, many))
slots-vector x y (a ∷ b ∷ c ∷ d ∷ e ∷ f ∷ []) many = absurd (omega (arith, many))
slots-vector x y (a ∷ b ∷ c ∷ d ∷ e ∷ f ∷ g ∷ []) many = absurd (omega (arith, many))
slots-vector x y (a ∷ b ∷ c ∷ d ∷ e ∷ f ∷ g ∷ h ∷ i ∷ cs) many = absurd (omega (arith, many))

-- ---- arguments of calls

argument-eight : (nodes : List PlainNode) (params : List ℕ) (k : ℕ) (a : Argument) → slice_get (map (argument_at nodes) params) k ≡ Some a → length a.classes ≡ 8
argument-eight nodes [] k a e = cc
argument-eight nodes (i ∷ params) zero a e =
    let same : argument_at nodes i ≡ a = cc in
    subst (λ (b : Argument). length b.classes ≡ 8) same (classes-eight nodes i)
argument-eight nodes (i ∷ params) (suc k) a e = argument-eight nodes params k a e

in-registers : (x y z : ℕ) (a : Argument) (slots : List Slot) → place_after x y z a ≡ place.Registers slots → slots ≡ slots_after x y a.classes
in-registers x y z a slots e = go (has_no_place a.size a.classes) (fits x y a.classes) refl refl where
  go : (b c : Bool) → has_no_place a.size a.classes ≡ b → fits x y a.classes ≡ c → slots ≡ slots_after x y a.classes
  go true c none fit = let here : place_after x y z a ≡ place.Nothing = rw none refl in cc
  go false true some fit =
      let here : place_after x y z a ≡ place.Registers (slots_after x y a.classes) = rw (some, fit) refl in
      cc
  go false false some fit = let here : place_after x y z a ≡ place.Stack (rounded z (step_of a.align)) (rounded a.size 8) = rw (some, fit) refl in cc

same_Some : (p q : Place) → Some p ≡ Some q → p ≡ q
same_Some p q e = cc

pub registers-counted : (nodes : List PlainNode) (f k : ℕ) (a : Argument) (slots : List Slot) → (view_at nodes f).kind ≡ kind.Function → slice_get (arguments_of nodes f) k ≡ Some a → IsPlaceOf (call_of nodes f) k (place.Registers slots) → HoldsItsCount a slots
registers-counted nodes f k a slots function e held =
    let args = take k (arguments_of nodes f) in
    let ps = take k (call_of nodes f).params in
    let x = ints_of_result (call_of nodes f).outcome + ints_before args ps in
    let y = floats_before args ps in
    let z = stack_before ps in
    let here = same_Some (place_after x y z a) (place.Registers slots) (sym ((places-counted nodes f function).each k a e) ∙ held) in
    let are = in-registers x y z a slots here in
    let many = argument-eight nodes (params_of (view_at nodes f).parts) k a e in
    record {
      ints = ap (count_by is_general_slot) are ∙ slots-general x y a.classes many;
      floats = ap (count_by is_vector_slot) are ∙ slots-vector x y a.classes many;
    }
