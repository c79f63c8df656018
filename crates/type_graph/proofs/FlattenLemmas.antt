-- Flat members one after the other.
use Rattle.std.proofs.Common.{◌≡◌, ◌<◌, ◌≤◌, ◌+◌, ℕ, true, List, [], ◌∷◌, ◌++◌, length, map, take, get_or, Some, None, refl, sym, ◌∙◌, ap, subst, arith, inl, inr}
use Rattle.std.proofs.lemmas.Bool.{cases_Bool}
use Rattle.std.specs.Prelude.{Contains, flat_map, ℤ, ◌+ℤ◌}
use Rattle.std.proofs.Math.IntN.{+ℤ_assoc}
use Rattle.std.proofs.lemmas.List.{take_more, take_all, map-append, append_assoc, append-nil}
use Rattle.dwarf_entries.specs.Chains.{name_of}
use Rattle.dwarf_entries.specs.Debug.{PlainDwarf}
use Rattle.type_reach.specs.References.{Type_, type_of, members_of}
use Rattle.type_reach.specs.ByValue.{IsTooDeep, IsClosed}
use Rattle.type_reach.specs.Placement.{width_of}
use Rattle.type_reach.specs.Facts.{facts_of}
use Rattle.type_reach.specs.Summaries.{summary_of}
use Rattle.type_reach.specs.Flat.{Flat, core_of, moved, declared_bit, given_by, flat_of, member_gives}
use Rattle.type_reach.specs.PeeledCores.{StandsForNone, IsFound, IsPeeledCore}
use Rattle.type_reach.specs.TypeLaws.{IsShallow, TypeLaws}
use Rattle.std.proofs.lemmas.Option.{none-some}
use Rattle.abi_base.proofs.lemmas.Lists.{map-map}
use Rattle.type_graph.specs.Placed.{replacing}
use Rattle.type_reach.proofs.lemmas.Mapped.{map-same}
use Rattle.type_graph.proofs.ViewLemmas.{found-shallow}

-- the members of the first parts were put, each moved
abbrev pub IsPut : PlainDwarf → List Flat → ℤ → List ℕ → ℕ → List Flat → Type 0
IsPut d before base members k out = out ≡ before ++ map (moved base) (flat_map (member_gives d) (take k members))

flat_map-push : {X Y : Type 0} (f : X → List Y) (xs : List X) (x : X) → flat_map f (xs ++ x ∷ []) ≡ flat_map f xs ++ f x
flat_map-push f [] x = append-nil (f x)
flat_map-push f (y ∷ ys) x = ap (λ zs. f y ++ zs) (flat_map-push f ys x) ∙ sym (append_assoc (f y) (flat_map f ys) (f x))

pub IsPut-start : (d : PlainDwarf) (before : List Flat) (base : ℤ) (members : List ℕ) → IsPut d before base members 0 before
IsPut-start d before base members = sym (append-nil before)

pub IsPut-more : (d : PlainDwarf) (before : List Flat) (base : ℤ) (members : List ℕ) (k m : ℕ) (out new : List Flat) → IsPut d before base members k out → k < length members → m ≡ get_or members k 0 → new ≡ out ++ map (moved base) (member_gives d m) → IsPut d before base members (k + 1) new
IsPut-more d before base members k m out new was lt read grown =
    let f : ℕ → List Flat = member_gives d in
    let firsts : List Flat = flat_map f (take k members) in
    let more : take (k + 1) members ≡ take k members ++ m ∷ [] = take_more members k 0 lt ∙ ap (λ x. take k members ++ x ∷ []) (sym read) in
    grown
    ∙ ap (λ xs. xs ++ map (moved base) (f m)) was
    ∙ append_assoc before (map (moved base) firsts) (map (moved base) (f m))
    ∙ ap (λ xs. before ++ xs) (sym (map-append (moved base) firsts (f m)))
    ∙ ap (λ xs. before ++ map (moved base) xs) (sym (flat_map-push f (take k members) m))
    ∙ ap (λ xs. before ++ map (moved base) (flat_map f xs)) (sym more)

pub IsPut-end : (d : PlainDwarf) → TypeLaws d → (before : List Flat) (base : ℤ) (c : ℕ) (members : List ℕ) (k : ℕ) (out : List Flat) → IsPut d before base members k out → length members ≤ k → members ≡ members_of d.tree c → IsShallow d (Some c) → StandsForNone d c
    → out ≡ before ++ map (moved base) (flat_of d (Some c))
IsPut-end d laws before base c members k out was past is shallow last =
    was ∙ ap (λ xs. before ++ map (moved base) (flat_map (member_gives d) xs)) (take_all k members past ∙ is) ∙ ap (λ xs. before ++ map (moved base) xs) (sym (laws.members c shallow last))

-- ---- the cases of a member

pub gives-named : (d : PlainDwarf) (m : ℕ) (base : ℤ) (name : List ℕ) → name_of d m ≡ Some name
    → map (moved base) (member_gives d m) ≡ record { name = name; bit = base +ℤ declared_bit d m; width = width_of d m; to = type_of d.tree m } ∷ []
gives-named d m base name is = ap (λ o. map (moved base) (given_by d m o (flat_of d (type_of d.tree m)))) is

moved-twice : (a b : ℤ) (x : Flat) → moved a (moved b x) ≡ moved (a +ℤ b) x
moved-twice a b x = ap (λ z. record x { bit = z }) (sym (+ℤ_assoc a b x.bit))

-- a nameless structure or union gives the members of its core, and any other nameless member nothing
gives-of : (d : PlainDwarf) → TypeLaws d → (m : ℕ) (base : ℤ) → IsShallow d (type_of d.tree m) → name_of d m ≡ None → (facts_of d (type_of d.tree m)).aggregate ≡ true
    → map (moved base) (member_gives d m) ≡ map (moved (base +ℤ declared_bit d m)) (flat_of d (core_of d (type_of d.tree m)))
gives-of d laws m base shallow is yes' =
    let ty : Type_ = type_of d.tree m in
    ap (λ o. map (moved base) (given_by d m o (flat_of d ty))) is
    ∙ (rw yes' (map-map (moved base) (moved (declared_bit d m)) (flat_of d ty)))
    ∙ map-same (λ x. moved base (moved (declared_bit d m) x)) (moved (base +ℤ declared_bit d m)) (flat_of d ty) (λ x h. moved-twice base (declared_bit d m) x)
    ∙ ap (map (moved (base +ℤ declared_bit d m))) (laws.cores ty shallow).flat

pub gives-nested : (d : PlainDwarf) → TypeLaws d → (m inner : ℕ) (base : ℤ) → IsShallow d (type_of d.tree m) → name_of d m ≡ None → replacing (summary_of (facts_of d (type_of d.tree m))) ≡ Some inner
    → map (moved base) (member_gives d m) ≡ map (moved (base +ℤ declared_bit d m)) (flat_of d (Some inner))
gives-nested d laws m inner base shallow none is =
    let ty : Type_ = type_of d.tree m in
    elim (cases_Bool (facts_of d ty).aggregate) [ inl yes' ↦ gives-of d laws m base shallow none yes' ∙ ap (λ c. map (moved (base +ℤ declared_bit d m)) (flat_of d c)) (rw yes' at is) | inr no' ↦ absurd (none-some inner (rw no' at is)) ]

pub gives-nothing : (d : PlainDwarf) → TypeLaws d → (m : ℕ) (base : ℤ) → IsShallow d (type_of d.tree m) → name_of d m ≡ None → replacing (summary_of (facts_of d (type_of d.tree m))) ≡ None → map (moved base) (member_gives d m) ≡ []
gives-nothing d laws m base shallow none is =
    let ty : Type_ = type_of d.tree m in
    elim (cases_Bool (facts_of d ty).aggregate) [ inl yes' ↦ gives-of d laws m base shallow none yes' ∙ ap (λ c. map (moved (base +ℤ declared_bit d m)) (flat_of d c)) (rw yes' at is) ∙ ap (map (moved (base +ℤ declared_bit d m))) laws.flats_void | inr no' ↦ ap (λ o. map (moved base) (given_by d m o (flat_of d ty))) none ∙ (rw no' refl) ]

-- what holds of the core of a member's type
pub record IsNested (d : PlainDwarf) (found : List ℕ) (c m inner : ℕ) : Type 0 where
  pub there : IsFound found (Some inner)
  pub last : StandsForNone d inner
  pub low : (facts_of d (Some inner)).rank < (facts_of d (Some c)).rank

module _ (d : PlainDwarf) (laws : TypeLaws d) (found : List ℕ) (closed : IsClosed d.tree found) (shallow : (e : ℕ) → Contains found e → IsTooDeep d.tree (Some e) → ⊥) where
  pub member_found : (c m : ℕ) → Contains found c → Contains (members_of d.tree c) m → IsFound found (type_of d.tree m)
  member_found c m there has = laws.step_found found (Some c) (type_of d.tree m) closed there (laws.member_step c m has)

  pub member_shallow : (c m : ℕ) → Contains found c → Contains (members_of d.tree c) m → IsShallow d (type_of d.tree m)
  member_shallow c m there has = found-shallow d laws found closed shallow (type_of d.tree m) (member_found c m there has)

  pub member_lower : (c m : ℕ) → Contains found c → Contains (members_of d.tree c) m → (facts_of d (type_of d.tree m)).rank < (facts_of d (Some c)).rank
  member_lower c m there has = laws.falls (Some c) (type_of d.tree m) (shallow c there) (laws.member_step c m has)

  pub nested-is : (c m inner : ℕ) → Contains found c → Contains (members_of d.tree c) m → replacing (summary_of (facts_of d (type_of d.tree m))) ≡ Some inner → IsNested d found c m inner
  nested-is c m inner there has replaced =
      let ty : Type_ = type_of d.tree m in
      let ty_there = member_found c m there has in
      let ty_shallow = member_shallow c m there has in
      let is : core_of d ty ≡ Some inner = elim (cases_Bool (facts_of d ty).aggregate) [ inl yes' ↦ rw yes' at replaced | inr no' ↦ absurd (none-some inner (rw no' at replaced)) ] in
      let core = subst (IsPeeledCore d ty) is (laws.cores ty ty_shallow) in
      let falls = member_lower c m there has in
      record {
        there = subst (IsFound found) is (laws.found found ty closed ty_shallow ty_there);
        last = core.last;
        low = omega (arith, core.low, falls);
      }
