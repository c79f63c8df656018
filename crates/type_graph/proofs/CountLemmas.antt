-- How many flat members each member gives.
use Rattle.std.proofs.Common.{◌≡◌, ◌<◌, ◌≤◌, ◌+◌, ℕ, zero, suc, List, [], ◌∷◌, length, Option, Some, None, refl, sym, ◌∙◌, ap, arith}
use Rattle.std.specs.Prelude.{sum_by, pos, Contains}
use Rattle.std.proofs.lemmas.List.{length-map}
use Rattle.std.proofs.lemmas.List.Concat.{length-flat_map}
use Rattle.std.proofs.lemmas.List.Sums.{sum_by-cons}
use Rattle.abi_base.proofs.lemmas.Contained.{at_front, in_rest}
use Rattle.dwarf_entries.specs.Chains.{name_of}
use Rattle.dwarf_entries.specs.Debug.{PlainDwarf}
use Rattle.type_reach.specs.declared.role.Role.{Role}
use Rattle.type_reach.specs.declared.role.Role.TheVariants as role
use Rattle.type_reach.specs.References.{Type_, role_of, type_of, members_of}
use Rattle.type_reach.specs.Facts.{facts_of}
use Rattle.type_reach.specs.Summaries.{summary_of}
use Rattle.type_reach.specs.ByValue.{IsTooDeep, IsClosed}
use Rattle.type_reach.specs.Flat.{moved, given_by, flat_of, member_gives}
use Rattle.type_reach.specs.PeeledCores.{StandsForNone}
use Rattle.type_reach.specs.TypeLaws.{IsShallow, TypeLaws}
use Rattle.type_graph.specs.Counts.{parts_for, parts_held, parts_in_all, members_read, members_for, members_held, members_in_all}
use Rattle.type_graph.specs.Placed.{replacing}
use Rattle.type_graph.proofs.FlattenLemmas.{gives-nested, gives-nothing, member_shallow, nested-is}
use Rattle.type_graph.proofs.MemberLemmas.{read_for, read-is, read-replaced}

abbrev pub many_given : PlainDwarf → ℕ → ℕ
many_given d m = length (member_gives d m)

pub nested-gives : (d : PlainDwarf) → TypeLaws d → (m inner : ℕ) → IsShallow d (type_of d.tree m) → name_of d m ≡ None → replacing (summary_of (facts_of d (type_of d.tree m))) ≡ Some inner → many_given d m ≡ length (flat_of d (Some inner))
nested-gives d laws m inner shallow none replaced =
    sym (length-map (member_gives d m) (moved (pos 0)))
    ∙ ap length (gives-nested d laws m inner (pos 0) shallow none replaced)
    ∙ length-map (flat_of d (Some inner)) (moved _)

pub nothing-gives : (d : PlainDwarf) → TypeLaws d → (m : ℕ) → IsShallow d (type_of d.tree m) → name_of d m ≡ None → replacing (summary_of (facts_of d (type_of d.tree m))) ≡ None → many_given d m ≡ 0
nothing-gives d laws m shallow none replaced =
    sym (length-map (member_gives d m) (moved (pos 0))) ∙ ap length (gives-nothing d laws m (pos 0) shallow none replaced)

pub named-gives : (d : PlainDwarf) (m : ℕ) (name : List ℕ) → name_of d m ≡ Some name → many_given d m ≡ 1
named-gives d m name is = ap (λ (o : Option (List ℕ)). length (given_by d m o (flat_of d (type_of d.tree m)))) is

sum-le : (f g : ℕ → ℕ) (xs : List ℕ) → ((x : ℕ) → Contains xs x → f x ≤ 1 + g x) → sum_by f xs ≤ length xs + sum_by g xs
sum-le f g [] le = omega arith
sum-le f g (x ∷ xs) le =
    let here = le x (at_front x xs) in
    let later = sum-le f g xs (λ y h. le y (in_rest x xs y h)) in
    omega (arith, here, later, sum_by-cons f x xs, sum_by-cons g x xs)

all-le : (f g : ℕ → ℕ) (xs : List ℕ) → ((x : ℕ) → Contains xs x → f x ≤ g x) → sum_by f xs ≤ sum_by g xs
all-le f g [] le = omega arith
all-le f g (x ∷ xs) le =
    let here = le x (at_front x xs) in
    let later = all-le f g xs (λ y h. le y (in_rest x xs y h)) in
    omega (arith, here, later, sum_by-cons f x xs, sum_by-cons g x xs)

-- a flat member is one that is read
module _ (d : PlainDwarf) (laws : TypeLaws d) (found : List ℕ) (closed : IsClosed d.tree found) (shallow : (e : ℕ) → Contains found e → IsTooDeep d.tree (Some e) → ⊥) where
  unnamed-le : (n c m : ℕ) → ((inner : ℕ) → Contains found inner → StandsForNone d inner → (facts_of d (Some inner)).rank < n → length (flat_of d (Some inner)) ≤ members_read d inner)
      → Contains found c → (facts_of d (Some c)).rank < suc n → Contains (members_of d.tree c) m → name_of d m ≡ None → (r : Type_) → replacing (summary_of (facts_of d (type_of d.tree m))) ≡ r → many_given d m ≤ 1 + read_for d m
  unnamed-le n c m below there low has none None is = omega (arith, nothing-gives d laws m (member_shallow d laws found closed shallow c m there has) none is)
  unnamed-le n c m below there low has none (Some inner) is =
      let nested = nested-is d laws found closed shallow c m inner there has is in
      let gives = nested-gives d laws m inner (member_shallow d laws found closed shallow c m there has) none is in
      let read = read-replaced d m inner none is in
      let le = below inner nested.there nested.last (omega (arith, nested.low, low)) in
      omega (arith, gives, read, le)

  member-le : (n c m : ℕ) → ((inner : ℕ) → Contains found inner → StandsForNone d inner → (facts_of d (Some inner)).rank < n → length (flat_of d (Some inner)) ≤ members_read d inner)
      → Contains found c → (facts_of d (Some c)).rank < suc n → Contains (members_of d.tree c) m → (o : Option (List ℕ)) → name_of d m ≡ o → many_given d m ≤ 1 + read_for d m
  member-le n c m below there low has (Some name) is = omega (arith, named-gives d m name is)
  member-le n c m below there low has None is = unnamed-le n c m below there low has is (replacing (summary_of (facts_of d (type_of d.tree m)))) refl

  flats-below : (n c : ℕ) → Contains found c → StandsForNone d c → (facts_of d (Some c)).rank < n → length (flat_of d (Some c)) ≤ members_read d c
  flats-below zero c there last low = absurd (omega arith)
  flats-below (suc n) c there last low =
      let flat = ap length (laws.members c (shallow c there) last) ∙ length-flat_map (member_gives d) (members_of d.tree c) in
      let each = sum-le (many_given d) (read_for d) (members_of d.tree c) (λ m has. member-le n c m (flats-below n) there low has (name_of d m) refl) in
      omega (arith, flat, each, read-is d laws found closed shallow c there)

  held-le : (e : ℕ) → Contains found e → (k : Role) → role_of d.tree e ≡ k → parts_for k d e ≤ members_for k d e
  held-le e there role.Aggregate is = flats-below (suc (facts_of d (Some e)).rank) e there (λ h. (cc)) (omega arith)
  held-le e there role.Function is = omega arith
  held-le e there role.Wrapper is = omega arith
  held-le e there role.Part is = omega arith
  held-le e there role.Pointer is = omega arith
  held-le e there role.Array is = omega arith
  held-le e there role.Enumeration is = omega arith
  held-le e there role.Base is = omega arith
  held-le e there role.Unknown is = omega arith

  pub parts-le : parts_in_all d found ≤ members_in_all d found
  parts-le = all-le (parts_held d) (members_held d) found (λ e there. held-le e there (role_of d.tree e) refl)
