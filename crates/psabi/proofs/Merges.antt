-- Leaves, merged one after another.
use Rattle.std.proofs.Common.{◌≡◌, ◌<◌, ◌≤◌, ◌+◌, ◌≢◌, ℕ, List, [], ◌++◌, length, set, refl, ◌∙◌, arith, get_or-set_other, get_or-set_same, below_more}
use Rattle.std.specs.Prelude.{Bool, true, false, ◌&&◌}
use Rattle.std.specs.List.{list_all}
use Rattle.std.proofs.lemmas.List.Sums.{fold-append}
use Rattle.std.proofs.lemmas.List.Folds.{list_all-append}
use Rattle.psabi.specs.declared.class.Class.{Class}
use Rattle.abi_types.specs.declared.leaf.Leaf.{Leaf}
use Rattle.psabi.specs.declared.eightbytes.Eightbytes.{Eightbytes}
use Rattle.psabi.specs.Touching.{is_aligned}
use Rattle.psabi.specs.Merging.{merge_leaf, MergesLeaves}
use Rattle.psabi.specs.Class.{class_at}

and-true : (a b : Bool) → (a && b) ≡ (a && (b && true))
and-true true true = refl
and-true true false = refl
and-true false b = refl

and-assoc : (a b c : Bool) → ((a && b) && c) ≡ (a && (b && c))
and-assoc true b c = refl
and-assoc false b c = refl

pub and-one : (a b : Bool) (r : Bool) → r ≡ (a && b) → r ≡ (a && (b && true))
and-one a b r e = e ∙ and-true a b

and-false_right : (a : Bool) → a ≡ (a && true)
and-false_right true = refl
and-false_right false = refl

-- one more eightbyte has the leaf
pub below-more : (f : ℕ → Class → Class) (new old : List Class) (k : ℕ) (c : Class) → k < length new → c ≡ f k (class_at old k) → ((j : ℕ) → j < k → class_at new j ≡ f j (class_at old j)) → (j : ℕ) → j < k + 1 → class_at (set new k c) j ≡ f j (class_at old j)
below-more f new old k c lt e below =
    below_more (λ j. class_at (set new k c) j ≡ f j (class_at old j)) k
    (λ j h. let ne : j ≢ k = omega arith in rw get_or-set_other (below j h))
    (rw get_or-set_same e)

pub above-less : (new old : List Class) (k : ℕ) (c : Class) → ((j : ℕ) → k ≤ j → class_at new j ≡ class_at old j) → (j : ℕ) → k + 1 ≤ j → class_at (set new k c) j ≡ class_at old j
above-less new old k c above j le = let ne : j ≢ k = omega arith in rw get_or-set_other (above j (omega arith))

pub MergesLeaves-none : (s : Eightbytes) → MergesLeaves [] s s
MergesLeaves-none s = record { aligned = and-false_right s.aligned; many = λ e. e; classes = λ k lt. refl }

pub MergesLeaves-append : (xs ys : List Leaf) (a b c : Eightbytes) → MergesLeaves xs a b → MergesLeaves ys b c → MergesLeaves (xs ++ ys) a c
MergesLeaves-append xs ys a b c f g = record {
  aligned =
      let e = list_all-append is_aligned xs ys in
      g.aligned ∙ rw (f.aligned, e) (and-assoc a.aligned (list_all is_aligned xs) (list_all is_aligned ys));
  many = λ e. g.many (f.many e);
  classes = λ k lt. let e = fold-append (merge_leaf k) (class_at a.classes k) xs ys in g.classes k lt ∙ rw (e, f.classes k lt) refl;
}
