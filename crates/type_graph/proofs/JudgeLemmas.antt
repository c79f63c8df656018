-- First faults, entry by entry and row by row.
use Rattle.std.proofs.Common.{◌≡◌, ◌<◌, ◌≤◌, ◌+◌, ℕ, Bool, true, false, List, [], ◌∷◌, ◌++◌, length, map, drop, get_or, Option, Some, None, refl, sym, ◌∙◌, ap, inl, inr}
use Rattle.std.specs.Prelude.{Contains, not, nat_lt, ◌||◌, ◌↔◌}
use Rattle.std.proofs.lemmas.List.{at_drop_more, drop_all}
use Rattle.std.proofs.lemmas.Option.{none-some}
use Rattle.abi_base.proofs.lemmas.Contained.{in_front, in_none}
use Rattle.abi_base.specs.declared.fault.Fault.{Fault}
use Rattle.abi_base.specs.declared.fault.FaultKind.TheVariants as fault
use Rattle.abi_base.specs.declared.fault.Refusal.{Refusal}
use Rattle.abi_base.specs.declared.fault.Refusal.TheVariants as refusal
use Rattle.abi_base.specs.Outcome.{first, fault_if, Refuses}
use Rattle.dwarf_tree.specs.Trees.{PlainTree}
use Rattle.dwarf_entries.specs.Debug.{PlainDwarf}
use Rattle.type_reach.specs.References.{Type_}
use Rattle.type_reach.specs.ByValue.{StepsOn, IsTooDeep}
use Rattle.type_reach.specs.ReachedList.{reached_of}
use Rattle.type_reach.specs.Shapes.{has_shape}
use Rattle.abi_base.specs.Limits.{depth_limit, weight_limit}
use Rattle.abi_types.specs.Limits.{size_limit, align_limit, room_limit}
use Rattle.type_reach.specs.declared.facts.Facts.{Facts}
use Rattle.type_reach.specs.Facts.{facts_of}
use Rattle.type_reach.specs.TypeLaws.{IsShallow, TypeLaws}
use Rattle.type_reach.specs.Sizes.{is_too_large}
use Rattle.type_graph.specs.Large.{are_too_large}
use Rattle.type_reach.specs.Faults.{steps_on, at_entry, shape_fault, deep_fault, large_fault, depth_fault, types_fault}

-- ---- one entry after the other

pub first-on : (g : ℕ → Option Fault) (xs : List ℕ) (k e : ℕ) (whole : Option Fault) → k < length xs → e ≡ get_or xs k 0 → g e ≡ None → first (map g (drop k xs)) ≡ whole → first (map g (drop (k + 1) xs)) ≡ whole
first-on g xs k e whole lt read none was =
    ap (λ o. first (o ∷ map g (drop (k + 1) xs))) (sym (ap g (sym read) ∙ none)) ∙ sym (at_drop_more (λ ys. first (map g ys)) xs k 0 lt) ∙ was

pub first-here : (g : ℕ → Option Fault) (xs : List ℕ) (k e : ℕ) (f : Fault) (whole : Option Fault) → k < length xs → e ≡ get_or xs k 0 → g e ≡ Some f → first (map g (drop k xs)) ≡ whole → whole ≡ Some f
first-here g xs k e f whole lt read some was =
    sym was ∙ at_drop_more (λ ys. first (map g ys)) xs k 0 lt ∙ ap (λ o. first (o ∷ map g (drop (k + 1) xs))) (ap g (sym read) ∙ some)

pub first-end : (g : ℕ → Option Fault) (xs : List ℕ) (k : ℕ) (whole : Option Fault) → length xs ≤ k → first (map g (drop k xs)) ≡ whole → whole ≡ None
first-end g xs k whole past was = sym was ∙ ap (λ ys. first (map g ys)) (drop_all k xs past)

pub shape-none : (d : PlainDwarf) (e : ℕ) → has_shape d e ≡ true → shape_fault d e ≡ None
unfolding shape_fault
shape-none d e is = rw is refl

pub shape-some : (d : PlainDwarf) (e at : ℕ) → has_shape d e ≡ false → at ≡ at_entry d.tree e → shape_fault d e ≡ Some (record { kind = fault.Shape; at = at })
unfolding shape_fault
shape-some d e at is place = rw is (ap (λ a. Some (record { kind = fault.Shape; at = a })) (sym place))

pub large-none : (d : PlainDwarf) (e : ℕ) → is_too_large d e ≡ false → large_fault d e ≡ None
unfolding large_fault
large-none d e is = rw is refl

pub large-some : (d : PlainDwarf) (e at : ℕ) → is_too_large d e ≡ true → at ≡ at_entry d.tree e → large_fault d e ≡ Some (record { kind = fault.TooLarge; at = at })
unfolding large_fault
large-some d e at is place = rw is (ap (λ a. Some (record { kind = fault.TooLarge; at = a })) (sym place))

-- where no entry has a fault, each passes the test
pass-one : (g : ℕ → Option Fault) (x e : ℕ) (xs : List ℕ) (o : Option Fault) → (first (map g xs) ≡ None → Contains xs e → g e ≡ None) → Contains (x ∷ xs) e → g x ≡ o → first (o ∷ map g xs) ≡ None → g e ≡ None
pass-one g x e xs None later h is rest = elim (in_front x xs e h) [ inl same ↦ ap g (sym same) ∙ is | inr behind ↦ later rest behind ]
pass-one g x e xs (Some f) later h is rest = absurd (none-some f (sym rest))

all-pass : (g : ℕ → Option Fault) (xs : List ℕ) (e : ℕ) → first (map g xs) ≡ None → Contains xs e → g e ≡ None
all-pass g [] e none h = absurd (in_none e h)
all-pass g (x ∷ xs) e none h = pass-one g x e xs (g x) (all-pass g xs e) h refl none

shape-back : (d : PlainDwarf) (e : ℕ) → shape_fault d e ≡ None → has_shape d e ≡ true
unfolding shape_fault
shape-back d e none = go (has_shape d e) none where
  go : (b : Bool) → fault_if (not b) fault.Shape (at_entry d.tree e) ≡ None → b ≡ true
  go true is = refl
  go false is = absurd (none-some _ (sym is))

large-back : (d : PlainDwarf) (e : ℕ) → large_fault d e ≡ None → is_too_large d e ≡ false
unfolding large_fault
large-back d e none = go (is_too_large d e) none where
  go : (b : Bool) → fault_if b fault.TooLarge (at_entry d.tree e) ≡ None → b ≡ false
  go false is = refl
  go true is = absurd (none-some _ (sym is))

pub shapes-hold : (d : PlainDwarf) (order : List ℕ) → first (map (shape_fault d) order) ≡ None → (e : ℕ) → Contains order e → has_shape d e ≡ true
shapes-hold d order none e h = shape-back d e (all-pass (shape_fault d) order e none h)

pub sizes-hold : (d : PlainDwarf) (order : List ℕ) → first (map (large_fault d) order) ≡ None → (e : ℕ) → Contains order e → is_too_large d e ≡ false
sizes-hold d order none e h = large-back d e (all-pass (large_fault d) order e none h)

-- ---- one row after the other

first-front : (xs ys : List (Option Fault)) (f : Fault) → first xs ≡ Some f → first (xs ++ ys) ≡ Some f
first-front [] ys f is = absurd (none-some f is)
first-front (None ∷ xs) ys f is = first-front xs ys f is
first-front (Some x ∷ xs) ys f is = is

first-behind : (xs ys : List (Option Fault)) → first xs ≡ None → first (xs ++ ys) ≡ first ys
first-behind [] ys is = refl
first-behind (None ∷ xs) ys is = first-behind xs ys is
first-behind (Some x ∷ xs) ys is = absurd (none-some x (sym is))

module _ (d : PlainDwarf) (roots order : List ℕ) (is : order ≡ reached_of d.tree roots) where
  pub by-shape : (f : Fault) → first (map (shape_fault d) order) ≡ Some f → types_fault d roots ≡ Some f
  unfolding types_fault
  by-shape f some = first-front (map (shape_fault d) (reached_of d.tree roots)) _ f (ap (λ xs. first (map (shape_fault d) xs)) (sym is) ∙ some)

  after-shapes : first (map (shape_fault d) order) ≡ None → types_fault d roots ≡ first (map (deep_fault d.tree) (reached_of d.tree roots) ++ map (large_fault d) (reached_of d.tree roots))
  unfolding types_fault
  after-shapes none = first-behind (map (shape_fault d) (reached_of d.tree roots)) _ (ap (λ xs. first (map (shape_fault d) xs)) (sym is) ∙ none)

  pub by-depth : (f : Fault) → first (map (shape_fault d) order) ≡ None → depth_fault d.tree roots ≡ Some f → types_fault d roots ≡ Some f
  unfolding depth_fault
  by-depth f none some = after-shapes none ∙ first-front (map (deep_fault d.tree) (reached_of d.tree roots)) (map (large_fault d) (reached_of d.tree roots)) f some

  after-depth : first (map (shape_fault d) order) ≡ None → depth_fault d.tree roots ≡ None → types_fault d roots ≡ first (map (large_fault d) order)
  unfolding depth_fault
  after-depth none shallow =
      after-shapes none
      ∙ first-behind (map (deep_fault d.tree) (reached_of d.tree roots)) (map (large_fault d) (reached_of d.tree roots)) shallow
      ∙ ap (λ xs. first (map (large_fault d) xs)) (sym is)

  pub by-size : (o : Option Fault) → first (map (shape_fault d) order) ≡ None → depth_fault d.tree roots ≡ None → first (map (large_fault d) order) ≡ o → types_fault d roots ≡ o
  by-size o none shallow large = after-depth none shallow ∙ large

-- a refusal that stands for one fault stands for another that is there where the one is
pub refuses-too : (e : Refusal) (one other : Option Fault) → ((f : Fault) → one ≡ Some f → other ≡ Some f) → Refuses e one → Refuses e other
refuses-too (refusal.Fault f) one other on is = on f is
refuses-too (refusal.NoMemory cause) one other on is = tt

-- ---- no fault at all

first-both : (xs ys : List (Option Fault)) → first (xs ++ ys) ≡ None → (first xs ≡ None) × (first ys ≡ None)
first-both [] ys none = (refl, none)
first-both (None ∷ xs) ys none = first-both xs ys none
first-both (Some x ∷ xs) ys none = absurd (none-some x (sym none))

-- what types without a fault have
pub record AreSound (d : PlainDwarf) (roots : List ℕ) : Type 0 where
  pub shaped : (e : ℕ) → Contains (reached_of d.tree roots) e → has_shape d e ≡ true
  pub shallow : (e : ℕ) → Contains (reached_of d.tree roots) e → IsTooDeep d.tree (Some e) → ⊥
  pub fits : (e : ℕ) → Contains (reached_of d.tree roots) e → is_too_large d e ≡ false

-- what the law says of chains of steps by value
abbrev pub ChainsAreTested : Type 0
ChainsAreTested = (t : PlainTree) (n : ℕ) (r : Type_) → (steps_on t n r ≡ true) ↔ StepsOn t n r

deep-back : ChainsAreTested → (t : PlainTree) (e : ℕ) → deep_fault t e ≡ None → IsTooDeep t (Some e) → ⊥
unfolding deep_fault
deep-back chains t e none deep = none-some _ (sym none ∙ ap (λ b. fault_if b fault.TooDeep (at_entry t e)) ((chains t (depth_limit + 1) (Some e)).1 deep))

pub are-sound : ChainsAreTested → (d : PlainDwarf) (roots : List ℕ) → types_fault d roots ≡ None → AreSound d roots
unfolding types_fault
are-sound chains d roots none =
    let reached : List ℕ = reached_of d.tree roots in
    let shapes = first-both (map (shape_fault d) reached) (map (deep_fault d.tree) reached ++ map (large_fault d) reached) none in
    let others = first-both (map (deep_fault d.tree) reached) (map (large_fault d) reached) shapes.1 in
    record {
      shaped = shapes-hold d reached shapes.0;
      shallow = λ e h. deep-back chains d.tree e (all-pass (deep_fault d.tree) reached e others.0 h);
      fits = sizes-hold d reached others.1;
    }

-- what facts tell of limits is what the definitions say
pub too-large-is : (d : PlainDwarf) → TypeLaws d → (e : ℕ) (x : Facts) → IsShallow d (Some e) → x ≡ facts_of d (Some e) → are_too_large x ≡ is_too_large d e
unfolding is_too_large
too-large-is d laws e x shallow is =
    let y : Facts = facts_of d (Some e) in
    ap are_too_large is
    ∙ ap (λ b. nat_lt size_limit y.size || (nat_lt size_limit y.count || (nat_lt weight_limit y.weight || (nat_lt align_limit y.align || (nat_lt room_limit y.rooms || b))))) (laws.beyond (Some e) shallow)
