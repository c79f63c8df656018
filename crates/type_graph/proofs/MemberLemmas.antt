-- How many members are read of a structure or a union.
use Rattle.std.proofs.Common.{◌≡◌, ◌<◌, ◌≤◌, ◌+◌, ℕ, zero, suc, List, [], ◌∷◌, length, Option, Some, None, refl, sym, ◌∙◌, ap, arith}
use Rattle.std.specs.Prelude.{sum_by, Contains}
use Rattle.std.specs.Option.{option_map_or}
use Rattle.std.proofs.lemmas.List.Sums.{sum_by-cons}
use Rattle.abi_base.proofs.lemmas.Contained.{at_front, in_rest}
use Rattle.dwarf_entries.specs.Chains.{name_of}
use Rattle.dwarf_entries.specs.Debug.{PlainDwarf}
use Rattle.type_reach.specs.References.{Type_, type_of, members_of}
use Rattle.type_reach.specs.Facts.{facts_of}
use Rattle.type_reach.specs.Summaries.{summary_of}
use Rattle.type_reach.specs.ByValue.{IsTooDeep, IsClosed}
use Rattle.type_reach.specs.TypeLaws.{TypeLaws}
use Rattle.type_graph.specs.Placed.{replacing}
use Rattle.type_graph.specs.Counts.{replaced_by, members_down, members_read}
use Rattle.type_graph.proofs.FlattenLemmas.{nested-is}

sum-same : {A : Type 0} (f g : A → ℕ) (xs : List A) → ((x : A) → Contains xs x → f x ≡ g x) → sum_by f xs ≡ sum_by g xs
sum-same f g [] same = refl
sum-same f g (x ∷ xs) same =
    let here = same x (at_front x xs) in
    let later = sum-same f g xs (λ y h. same y (in_rest x xs y h)) in
    omega (arith, here, later, sum_by-cons f x xs, sum_by-cons g x xs)

over-same : (f g : ℕ → ℕ) (o : Type_) → ((c : ℕ) → o ≡ Some c → f c ≡ g c) → option_map_or f o 0 ≡ option_map_or g o 0
over-same f g None same = refl
over-same f g (Some c) same = same c refl

-- how many members are read where one is replaced
abbrev pub read_for : PlainDwarf → ℕ → ℕ
read_for d m = option_map_or (members_read d) (replaced_by d m (name_of d m)) 0

-- what replaces a member does so because it has no name
replaced-is : (d : PlainDwarf) (m inner : ℕ) (name : Option (List ℕ)) → replaced_by d m name ≡ Some inner → replacing (summary_of (facts_of d (type_of d.tree m))) ≡ Some inner
replaced-is d m inner None is = is
replaced-is d m inner (Some name) is = absurd cc

module _ (d : PlainDwarf) (laws : TypeLaws d) (found : List ℕ) (closed : IsClosed d.tree found) (shallow : (e : ℕ) → Contains found e → IsTooDeep d.tree (Some e) → ⊥) where
  -- any two depths that suffice agree
  down-same : (n k c : ℕ) → Contains found c → (facts_of d (Some c)).rank < n → (facts_of d (Some c)).rank < k → members_down d n c ≡ members_down d k c
  unfolding members_down
  down-same zero k c there lt_n lt_k = absurd (omega arith)
  down-same (suc n) zero c there lt_n lt_k = absurd (omega arith)
  down-same (suc n) (suc k) c there lt_n lt_k =
      ap (λ (s : ℕ). length (members_of d.tree c) + s)
      (sum-same (λ m. option_map_or (members_down d n) (replaced_by d m (name_of d m)) 0) (λ m. option_map_or (members_down d k) (replaced_by d m (name_of d m)) 0) (members_of d.tree c)
      (λ m has. over-same (members_down d n) (members_down d k) (replaced_by d m (name_of d m))
      (λ inner is. let nested = nested-is d laws found closed shallow c m inner there has (replaced-is d m inner (name_of d m) is) in
      down-same n k inner nested.there (omega (arith, nested.low, lt_n)) (omega (arith, nested.low, lt_k)))))

  -- a structure's members, and those that are read where one is replaced
  pub read-is : (c : ℕ) → Contains found c → members_read d c ≡ length (members_of d.tree c) + sum_by (read_for d) (members_of d.tree c)
  unfolding members_down
  read-is c there =
      let rank : ℕ = (facts_of d (Some c)).rank in
      ap (λ (s : ℕ). length (members_of d.tree c) + s)
      (sum-same (λ m. option_map_or (members_down d rank) (replaced_by d m (name_of d m)) 0) (read_for d) (members_of d.tree c)
      (λ m has. over-same (members_down d rank) (members_read d) (replaced_by d m (name_of d m))
      (λ inner is. let nested = nested-is d laws found closed shallow c m inner there has (replaced-is d m inner (name_of d m) is) in
      down-same rank (suc (facts_of d (Some inner)).rank) inner nested.there nested.low (omega arith))))

-- ---- one member

pub read-named : (d : PlainDwarf) (m : ℕ) (name : List ℕ) → name_of d m ≡ Some name → read_for d m ≡ 0
read-named d m name is = ap (λ (o : Option (List ℕ)). option_map_or (members_read d) (replaced_by d m o) 0) is

pub read-replaced : (d : PlainDwarf) (m inner : ℕ) → name_of d m ≡ None → replacing (summary_of (facts_of d (type_of d.tree m))) ≡ Some inner → read_for d m ≡ members_read d inner
read-replaced d m inner none is = ap (λ (o : Option (List ℕ)). option_map_or (members_read d) (replaced_by d m o) 0) none ∙ ap (λ (r : Type_). option_map_or (members_read d) r 0) is

pub read-nothing : (d : PlainDwarf) (m : ℕ) → name_of d m ≡ None → replacing (summary_of (facts_of d (type_of d.tree m))) ≡ None → read_for d m ≡ 0
read-nothing d m none is = ap (λ (o : Option (List ℕ)). option_map_or (members_read d) (replaced_by d m o) 0) none ∙ ap (λ (r : Type_). option_map_or (members_read d) r 0) is
