-- How many letters the names have that each member gives.
use Rattle.std.proofs.Common.{◌≡◌, ◌+◌, ℕ, List, [], ◌∷◌, length, map, Option, Some, None, refl, sym, ◌∙◌, ap, arith}
use Rattle.std.specs.Prelude.{sum_by, flat_map, ℤ, pos}
use Rattle.std.proofs.lemmas.List.Sums.{sum_by-cons, sum_by-append}
use Rattle.dwarf_entries.specs.Chains.{name_of}
use Rattle.dwarf_entries.specs.Debug.{PlainDwarf}
use Rattle.type_reach.specs.References.{type_of, members_of}
use Rattle.type_reach.specs.Facts.{facts_of}
use Rattle.type_reach.specs.Summaries.{summary_of}
use Rattle.type_reach.specs.Placement.{width_of}
use Rattle.type_reach.specs.Flat.{Flat, moved, declared_bit, given_by, flat_of, member_gives}
use Rattle.type_reach.specs.PeeledCores.{StandsForNone}
use Rattle.type_reach.specs.TypeLaws.{IsShallow, TypeLaws}
use Rattle.type_graph.specs.Counts.{member_letters}
use Rattle.type_graph.specs.Placed.{replacing}
use Rattle.type_graph.proofs.FlattenLemmas.{gives-nested, gives-nothing}

abbrev pub letters_given : PlainDwarf → ℕ → ℕ
letters_given d m = member_letters (member_gives d m)

letters-moved : (by : ℤ) (xs : List Flat) → member_letters (map (moved by) xs) ≡ member_letters xs
letters-moved by [] = refl
letters-moved by (x ∷ xs) =
    let f : Flat → ℕ = λ m. length m.name in
    sum_by-cons f (moved by x) (map (moved by) xs) ∙ ap (λ n. length x.name + n) (letters-moved by xs) ∙ sym (sum_by-cons f x xs)

letters-of-all : (g : ℕ → List Flat) (xs : List ℕ) → member_letters (flat_map g xs) ≡ sum_by (λ x. member_letters (g x)) xs
letters-of-all g [] = refl
letters-of-all g (x ∷ xs) =
    let f : Flat → ℕ = λ m. length m.name in
    sum_by-append f (g x) (flat_map g xs) ∙ ap (λ n. member_letters (g x) + n) (letters-of-all g xs) ∙ sym (sum_by-cons (λ y. member_letters (g y)) x xs)

pub nested-letters : (d : PlainDwarf) → TypeLaws d → (m inner : ℕ) → IsShallow d (type_of d.tree m) → name_of d m ≡ None → replacing (summary_of (facts_of d (type_of d.tree m))) ≡ Some inner → letters_given d m ≡ member_letters (flat_of d (Some inner))
nested-letters d laws m inner shallow none replaced =
    sym (letters-moved (pos 0) (member_gives d m))
    ∙ ap member_letters (gives-nested d laws m inner (pos 0) shallow none replaced)
    ∙ letters-moved _ (flat_of d (Some inner))

pub nothing-letters : (d : PlainDwarf) → TypeLaws d → (m : ℕ) → IsShallow d (type_of d.tree m) → name_of d m ≡ None → replacing (summary_of (facts_of d (type_of d.tree m))) ≡ None → letters_given d m ≡ 0
nothing-letters d laws m shallow none replaced =
    sym (letters-moved (pos 0) (member_gives d m)) ∙ ap member_letters (gives-nothing d laws m (pos 0) shallow none replaced)

pub letters-named : (d : PlainDwarf) (m : ℕ) (name : List ℕ) → name_of d m ≡ Some name → letters_given d m ≡ length name
letters-named d m name is =
    let f : Flat → ℕ = λ x. length x.name in
    let named : Flat = record { name = name; bit = declared_bit d m; width = width_of d m; to = type_of d.tree m } in
    let given = ap (λ (o : Option (List ℕ)). member_letters (given_by d m o (flat_of d (type_of d.tree m)))) is in
    omega (arith, given, sum_by-cons f named [])

-- the letters of a structure's names are those that its members give
pub letters-is : (d : PlainDwarf) → TypeLaws d → (c : ℕ) (members : List ℕ) → members ≡ members_of d.tree c → IsShallow d (Some c) → StandsForNone d c → 0 + sum_by (letters_given d) members ≡ member_letters (flat_of d (Some c))
letters-is d laws c members is shallow last =
    let flat : member_letters (flat_of d (Some c)) ≡ sum_by (letters_given d) members =
    ap member_letters (laws.members c shallow last) ∙ letters-of-all (member_gives d) (members_of d.tree c) ∙ ap (sum_by (letters_given d)) (sym is) in
    omega (arith, flat)
