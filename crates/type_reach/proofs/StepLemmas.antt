-- The steps from entries of each role.
use Rattle.std.proofs.Common.{◌≡◌, ℕ, List, [], ◌∷◌, map, refl, ap, ◌∙◌, inl, inr}
use Rattle.std.proofs.lemmas.Bool.{cases_Bool}
use Rattle.std.specs.Prelude.{zip}
use Rattle.dwarf_tree.specs.Trees.{PlainTree}
use Rattle.dwarf_entries.specs.Addresses.{is_declared_only}
use Rattle.type_reach.specs.declared.role.Role.{Role}
use Rattle.type_reach.specs.declared.role.Role.TheVariants as role
use Rattle.type_reach.specs.References.{Type_, role_of, type_of, own_types, types_of, steps_of, parts_of, members_for, members_of}

pub passed-steps : (t : PlainTree) (e : ℕ) → role_of t e ≡ role.Wrapper → steps_of t e ≡ type_of t e ∷ []
unfolding steps_of types_of own_types parts_of
passed-steps t e is = rw is refl

pub array-steps : (t : PlainTree) (e : ℕ) → role_of t e ≡ role.Array → steps_of t e ≡ type_of t e ∷ []
unfolding steps_of types_of own_types parts_of
array-steps t e is = rw is refl

pub aggregate-steps : (t : PlainTree) (e : ℕ) → role_of t e ≡ role.Aggregate → steps_of t e ≡ map (type_of t) (parts_of t e)
unfolding steps_of types_of own_types
aggregate-steps t e is = rw is refl

-- each part beside what is made of its type
zip-made : {X : Type 0} (f : Type_ → X) (t : PlainTree) (ps : List ℕ) → zip ps (map f (map (type_of t) ps)) ≡ map (λ m. (m, f (type_of t m))) ps
zip-made f t [] = refl
zip-made f t (p ∷ ps) = ap (λ xs. (p, f (type_of t p)) ∷ xs) (zip-made f t ps)

-- Each member stands beside what was made of its type.
pub members-beside : {X : Type 0} (f : Type_ → X) (t : PlainTree) (e : ℕ) → zip (members_of t e) (map f (steps_of t e)) ≡ map (λ m. (m, f (type_of t m))) (members_of t e)
unfolding members_of
members-beside f t e = go (role_of t e) refl where
  go : (k : Role) → role_of t e ≡ k → zip (members_for k t e) (map f (steps_of t e)) ≡ map (λ m. (m, f (type_of t m))) (members_for k t e)
  go role.Aggregate is =
      elim (cases_Bool (is_declared_only t e)) [ inl only ↦ rw only refl | inr defined ↦ rw defined (ap (λ ss. zip (parts_of t e) (map f ss)) (aggregate-steps t e is) ∙ zip-made f t (parts_of t e)) ]
  go role.Wrapper is = refl
  go role.Function is = refl
  go role.Part is = refl
  go role.Pointer is = refl
  go role.Array is = refl
  go role.Enumeration is = refl
  go role.Base is = refl
  go role.Unknown is = refl
