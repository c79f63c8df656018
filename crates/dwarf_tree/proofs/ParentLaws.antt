-- Children by depth and position, and that each entry has one parent.
use Rattle.std.proofs.Common.{◌≡◌, ℕ, zero, suc, ◌+◌, ◌<◌, ◌≤◌, List, length, None, sym, ap, arith, inl, inr}
use Rattle.std.specs.Prelude.{◌↔◌, ◌==◌, Contains}
use Rattle.std.proofs.lemmas.Bool.{cases_lt, cases_order, eq-eqb}
use Rattle.dwarf_units.specs.Sequence.{entries_fault}
use Rattle.dwarf_tree.specs.Keeping.{end_below}
use Rattle.dwarf_tree.specs.Parents.{StandsBelow, HasOneParent}
use Rattle.dwarf_tree.specs.Trees.{PlainTree, depth_at, count_below, children_of, tree_of}
use Rattle.dwarf_tree.proofs.Below.{below_is, below_stops}
use Rattle.dwarf_tree.proofs.Children.{child_is, filtered_there}
use Rattle.dwarf_tree.proofs.TreeOrdered.{tree_grows, tree_begins}
use Rattle.dwarf_tree.proofs.UnitLaws.{UnitLaws}

module _ (t : PlainTree) where
  stands_below : (e i : ℕ) → e < length t.entries → Contains (children_of t e) i → StandsBelow t e i
  stands_below e i inside has =
      let is = child_is t e i has in
      let below = below_is t e inside in
      record {
        after = is.after;
        inside = omega (arith, is.before, below.inside);
        deep = is.deep;
        between = λ k after before. below.deeper k after (omega (arith, before, is.before));
      }

  -- such an entry is not after the end of the entries below
  before_end : (e i : ℕ) → e < length t.entries → StandsBelow t e i → i < end_below t e
  before_end e i inside stands =
      elim (cases_lt i (end_below t e)) [
        | inl lt ↦ lt
        | inr le ↦
            let stops = below_stops t e inside (omega (arith, le, stands.inside)) in
            elim (cases_lt (end_below t e) i) [
              | inl between ↦ absurd (omega (arith, stops, stands.between (end_below t e) (below_is t e inside).after between))
              | inr ge ↦
                  let same : i ≡ end_below t e = omega arith in
                  absurd (omega (arith, stops, ap (λ (n : ℕ). depth_at t n) same, stands.deep))
            ]
      ]

  child_there : (e i : ℕ) → e < length t.entries → StandsBelow t e i → Contains (children_of t e) i
  unfolding children_of
  child_there e i inside stands =
      filtered_there (λ n. depth_at t n == depth_at t e + 1) (e + 1) (count_below t e) i (omega (arith, stands.after)) (before_end e i inside stands)
      (eq-eqb (depth_at t i) (depth_at t e + 1) stands.deep)

  -- the last earlier entry that is less deep
  parent_before : (i j : ℕ) → ((k : ℕ) → depth_at t (k + 1) ≤ depth_at t k + 1) → depth_at t 0 ≡ 0 → i < length t.entries → 0 < depth_at t i → j ≤ i → ((k : ℕ) → j ≤ k → k < i → depth_at t i ≤ depth_at t k)
      → (e : ℕ) × StandsBelow t e i
  parent_before i zero grows first inside deep le all =
      elim (cases_lt 0 i) [
        | inl lt ↦ absurd (omega (arith, all 0 (omega arith) lt))
        | inr ge ↦ let same : i ≡ 0 = omega arith in absurd (omega (arith, ap (λ (n : ℕ). depth_at t n) same))
      ]
  parent_before i (suc j) grows first inside deep le all =
      elim (cases_lt (depth_at t j) (depth_at t i)) [
        | inl less ↦
            let next : depth_at t (suc j) ≤ depth_at t j + 1 = let e : j + 1 ≡ suc j = omega arith in rw e at (grows j) in
            let above : depth_at t i ≤ depth_at t (suc j) =
            elim (cases_lt (suc j) i) [
              | inl lt ↦ all (suc j) (omega arith) lt
              | inr ge ↦ let same : i ≡ suc j = omega arith in omega (arith, ap (λ (n : ℕ). depth_at t n) same)
            ] in
            let stands : StandsBelow t j i = record {
              after = omega arith;
              inside = inside;
              deep = omega arith;
              between = λ k after before. omega (arith, less, all k (omega arith) before);
            } in
            (j, stands)
        | inr more ↦
            parent_before i j grows first inside deep (omega arith) (λ k from before. elim (cases_lt j k) [
              | inl lt ↦ all k (omega arith) before
              | inr ge ↦ let same : k ≡ j = omega arith in omega (arith, more, ap (λ (n : ℕ). depth_at t n) same)
            ])
      ]

  same_parent : (e other i : ℕ) → StandsBelow t e i → StandsBelow t other i → other ≡ e
  same_parent e other i below also =
      elim (cases_order e other) [
        | inl same ↦ sym same
        | inr (inl before) ↦ absurd (omega (arith, below.between other before also.after, below.deep, also.deep))
        | inr (inr after) ↦ absurd (omega (arith, also.between e after below.after, below.deep, also.deep))
      ]

  one_parent : (i : ℕ) → ((k : ℕ) → depth_at t (k + 1) ≤ depth_at t k + 1) → depth_at t 0 ≡ 0 → i < length t.entries → 0 < depth_at t i → HasOneParent t i
  one_parent i grows first inside deep =
      let found = parent_before i i grows first inside deep (omega arith) (λ k from before. absurd (omega arith)) in
      record {
        parent = found.0;
        child = child_there found.0 i (omega (arith, found.1.after, inside)) found.1;
        alone = λ other has.
            let is = child_is t other i has in
            same_parent found.0 other i found.1 (stands_below other i (omega (arith, is.after, inside)) has);
      }

pub children_are : (t : PlainTree) (e i : ℕ) → e < length t.entries → Contains (children_of t e) i ↔ StandsBelow t e i
children_are t e i inside = (stands_below t e i inside, child_there t e i inside)

pub has_one_parent : (laws : UnitLaws) (info abbrevs : List ℕ) (i : ℕ) → entries_fault info abbrevs ≡ None → i < length (tree_of info abbrevs).entries → 0 < depth_at (tree_of info abbrevs) i
    → HasOneParent (tree_of info abbrevs) i
has_one_parent laws info abbrevs i none inside deep = one_parent (tree_of info abbrevs) i (tree_grows laws info abbrevs) (tree_begins laws info abbrevs) inside deep
