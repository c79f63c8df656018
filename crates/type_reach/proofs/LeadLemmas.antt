-- What entries lead to, as it is kept.
use Rattle.std.proofs.Common.{◌≡◌, ◌<◌, ◌≤◌, ◌+◌, ℕ, true, List, ◌∷◌, length, map, take, get_or, slice_get, Some, refl, sym, ◌∙◌, ap, subst, arith, inl, inr}
use Rattle.std.specs.Prelude.{Contains, All}
use Rattle.std.proofs.lemmas.Bool.{cases_Bool}
use Rattle.std.proofs.lemmas.List.{length-map, length-append, get_or-map, get_or-append-add, take_all}
use Rattle.std.proofs.lemmas.List.Elements.{All-more, All-contains}
use Rattle.std.proofs.lemmas.Option.{same_Some, slice_get_within, get_or_from_slice_get}
use Rattle.abi_base.proofs.lemmas.Lists.{slice_get-mapped}
use Rattle.dwarf_tree.specs.Trees.{PlainTree}
use Rattle.dwarf_entries.specs.Addresses.{is_declared_only}
use Rattle.type_reach.specs.declared.role.Role.{Role}
use Rattle.type_reach.specs.declared.role.Role.TheVariants as role
use Rattle.type_reach.specs.References.{Type_, role_of, has_type, type_of, own_types, types_of, parts_of, members_for, members_of}

-- ---- rows by number

pub row-inside : {X : Type 0} (f : ℕ → X) (found : List ℕ) (rows : List X) (number e : ℕ) → rows ≡ map f found → slice_get found number ≡ Some e → number < length rows
row-inside f found rows number e are at = let lt = slice_get_within found number e at in omega (arith, lt, ap length are, length-map found f)

pub row-is : {X : Type 0} (f : ℕ → X) (found : List ℕ) (rows : List X) (number e : ℕ) (row : X) → rows ≡ map f found → slice_get found number ≡ Some e → slice_get rows number ≡ Some row → row ≡ f e
row-is f found rows number e row are at read = same_Some row (f e) (sym read ∙ ap (λ xs. slice_get xs number) are ∙ slice_get-mapped f found number e at)

-- ---- the types of an entry

pub own-first : (t : PlainTree) (e : ℕ) → has_type (role_of t e) ≡ true → types_of t e ≡ type_of t e ∷ map (type_of t) (parts_of t e)
unfolding types_of own_types
own-first t e own = rw own refl

pub types-count : (t : PlainTree) (e : ℕ) → length (types_of t e) ≡ length (own_types t e) + length (parts_of t e)
unfolding types_of
types-count t e = length-append (own_types t e) (map (type_of t) (parts_of t e)) ∙ ap (λ n. length (own_types t e) + n) (length-map (parts_of t e) (type_of t))

pub type-of-part : (t : PlainTree) (e k : ℕ) (d : Type_) → k < length (parts_of t e) → get_or (types_of t e) (length (own_types t e) + k) d ≡ type_of t (get_or (parts_of t e) k 0)
unfolding types_of
type-of-part t e k d lt = get_or-append-add (own_types t e) (map (type_of t) (parts_of t e)) k d ∙ get_or-map (type_of t) (parts_of t e) k 0 d lt

-- ---- the types of members

pub record AreTypesOfMembers (t : PlainTree) (e : ℕ) : Type 0 where
  pub members : members_of t e ≡ parts_of t e
  pub types : types_of t e ≡ map (type_of t) (parts_of t e)

aggregate-types : (t : PlainTree) (e : ℕ) → role_of t e ≡ role.Aggregate → types_of t e ≡ map (type_of t) (parts_of t e)
unfolding types_of own_types
aggregate-types t e is = rw is refl

-- an entry that has a member has no type itself, and all its parts are members
has-members : (t : PlainTree) (e k : ℕ) → k < length (members_of t e) → AreTypesOfMembers t e
unfolding members_of
has-members t e k lt = go (role_of t e) refl lt where
  go : (r : Role) → role_of t e ≡ r → k < length (members_for r t e) → AreTypesOfMembers t e
  go role.Aggregate is inside =
      elim (cases_Bool (is_declared_only t e)) [
        | inl only ↦ absurd (let none = rw only at inside in omega (arith, none))
        | inr defined ↦ record { members = rw (is, defined) refl; types = aggregate-types t e is }
      ]
  go role.Wrapper is inside = absurd (omega (arith, inside))
  go role.Function is inside = absurd (omega (arith, inside))
  go role.Part is inside = absurd (omega (arith, inside))
  go role.Pointer is inside = absurd (omega (arith, inside))
  go role.Array is inside = absurd (omega (arith, inside))
  go role.Enumeration is inside = absurd (omega (arith, inside))
  go role.Base is inside = absurd (omega (arith, inside))
  go role.Unknown is inside = absurd (omega (arith, inside))

pub member-inside : (t : PlainTree) (e k : ℕ) → k < length (members_of t e) → k < length (types_of t e)
member-inside t e k lt =
    let are = has-members t e k lt in
    omega (arith, lt, ap length are.members, ap length are.types, length-map (parts_of t e) (type_of t))

pub type-of-member : (t : PlainTree) (e k : ℕ) (d : Type_) → k < length (members_of t e) → get_or (types_of t e) k d ≡ type_of t (get_or (members_of t e) k 0)
type-of-member t e k d lt =
    let are = has-members t e k lt in
    ap (λ xs. get_or xs k d) are.types
    ∙ get_or-map (type_of t) (parts_of t e) k 0 d (omega (arith, lt, ap length are.members))
    ∙ ap (λ xs. type_of t (get_or xs k 0)) (sym are.members)

-- ---- the parts of all that was found

abbrev pub ArePartsInside : PlainTree → ℕ → Type 0
ArePartsInside t e = All (λ (c : ℕ). c < length t.entries) (parts_of t e)

pub inside-more : (t : PlainTree) (found : List ℕ) (k e : ℕ) → All (ArePartsInside t) (take k found) → slice_get found k ≡ Some e → ArePartsInside t e → All (ArePartsInside t) (take (k + 1) found)
inside-more t found k e was at inside =
    All-more (ArePartsInside t) found k 0 (slice_get_within found k e at) was (subst (ArePartsInside t) (sym (get_or_from_slice_get found k e 0 at)) inside)

pub inside-end : (t : PlainTree) (found : List ℕ) (k : ℕ) → All (ArePartsInside t) (take k found) → length found ≤ k → (e : ℕ) → Contains found e → ArePartsInside t e
inside-end t found k was past e has = All-contains (ArePartsInside t) found e (subst (All (ArePartsInside t)) (take_all k found past) was) has
