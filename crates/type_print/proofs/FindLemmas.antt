-- The search for the structure of a tag.
use Rattle.std.proofs.Common.{◌≡◌, ◌<◌, ◌≤◌, ◌+◌, ℕ, true, false, List, length, Option, Some, None, sym, ap, subst, inl, inr, arith}
use Rattle.std.specs.Prelude.{nat_lt, IfSome, IfNone}
use Rattle.std.specs.Option.{option_map}
use Rattle.std.proofs.lemmas.Bool.{cases_lt, cases_Bool, both_ways, lt-ltb, le-ltb, cond-true, cond-false}
use Rattle.abi_types.specs.Types.{PlainNode}
use Rattle.abi_types.specs.Graphs.{node_at, view_at}
use Rattle.type_print.specs.Structures.{has_layout, IsFirstTagged, IsUntagged}
use Rattle.type_print.specs.Searches.{earlier_of, found_of}

-- the earliest of the nodes below k that have the tag
pub record IsFirstBelow (nodes : List PlainNode) (tag : List ℕ) (k number : ℕ) : Type 0 where
  pub inside : number < length nodes
  pub tagged : has_layout (view_at nodes number) tag ≡ true
  pub first : (i : ℕ) → i < k → has_layout (view_at nodes i) tag ≡ true → (node_at nodes number).entry ≤ (node_at nodes i).entry

abbrev pub IsFoundBelow : List PlainNode → List ℕ → ℕ → Option ℕ → Type 0
IsFoundBelow nodes tag k None = (i : ℕ) → i < k → has_layout (view_at nodes i) tag ≡ false
IsFoundBelow nodes tag k (Some number) = IsFirstBelow nodes tag k number

module _ (nodes : List PlainNode) (tag : List ℕ) (k : ℕ) (inside : k < length nodes) where
  pub found_more : (found : Option ℕ) → IsFoundBelow nodes tag k found → IsFoundBelow nodes tag (k + 1) (found_of nodes tag found k)
  found_more found kept = elim (cases_Bool (has_layout (view_at nodes k) tag)) [
    | inl passes ↦
        let P : Option ℕ → Type 0 = IsFoundBelow nodes tag (k + 1) in
        subst P (sym (cond-true (has_layout (view_at nodes k) tag) (Some (earlier_of nodes found k)) found passes)) (better found kept passes)
    | inr fails ↦
        let P : Option ℕ → Type 0 = IsFoundBelow nodes tag (k + 1) in
        subst P (sym (cond-false (has_layout (view_at nodes k) tag) (Some (earlier_of nodes found k)) found fails)) (same found kept fails)
  ] where
    better : (found : Option ℕ) → IsFoundBelow nodes tag k found → has_layout (view_at nodes k) tag ≡ true → IsFirstBelow nodes tag (k + 1) (earlier_of nodes found k)
    better None kept passes = record {
      inside = inside;
      tagged = passes;
      first = λ i less tagged. elim (cases_lt i k) [
        | inl before ↦ absurd (both_ways (has_layout (view_at nodes i) tag) (kept i before) tagged)
        | inr not ↦ let here : i ≡ k = omega arith in let entry : (node_at nodes i).entry ≡ (node_at nodes k).entry = ap (λ (j : ℕ). (node_at nodes j).entry) here in omega arith
      ];
    }
    better (Some other) kept passes = elim (cases_lt (node_at nodes other).entry (node_at nodes k).entry) [
      | inl earlier ↦
          let is : earlier_of nodes (Some other) k ≡ other = cond-true (nat_lt (node_at nodes other).entry (node_at nodes k).entry) other k (lt-ltb (node_at nodes other).entry (node_at nodes k).entry earlier) in
          subst (IsFirstBelow nodes tag (k + 1)) (sym is) (record {
            inside = kept.inside;
            tagged = kept.tagged;
            first = λ i less tagged. elim (cases_lt i k) [
              | inl before ↦ kept.first i before tagged
              | inr not ↦ let here : i ≡ k = omega arith in let entry : (node_at nodes i).entry ≡ (node_at nodes k).entry = ap (λ (j : ℕ). (node_at nodes j).entry) here in omega arith
            ];
          })
      | inr later ↦
          let is : earlier_of nodes (Some other) k ≡ k = cond-false (nat_lt (node_at nodes other).entry (node_at nodes k).entry) other k (le-ltb (node_at nodes other).entry (node_at nodes k).entry later) in
          subst (IsFirstBelow nodes tag (k + 1)) (sym is) (record {
            inside = inside;
            tagged = passes;
            first = λ i less tagged. elim (cases_lt i k) [
              | inl before ↦ let least : (node_at nodes other).entry ≤ (node_at nodes i).entry = kept.first i before tagged in omega arith
              | inr not ↦ let here : i ≡ k = omega arith in let entry : (node_at nodes i).entry ≡ (node_at nodes k).entry = ap (λ (j : ℕ). (node_at nodes j).entry) here in omega arith
            ];
          })
    ]

    same : (found : Option ℕ) → IsFoundBelow nodes tag k found → has_layout (view_at nodes k) tag ≡ false → IsFoundBelow nodes tag (k + 1) found
    same None kept fails = λ i less. elim (cases_lt i k) [
      | inl before ↦ kept i before
      | inr not ↦ let here : i ≡ k = omega arith in let P : ℕ → Type 0 = λ j. has_layout (view_at nodes j) tag ≡ false in subst P (sym here) fails
    ]
    same (Some other) kept fails = record {
      inside = kept.inside;
      tagged = kept.tagged;
      first = λ i less tagged. elim (cases_lt i k) [
        | inl before ↦ kept.first i before tagged
        | inr not ↦
            let here : i ≡ k = omega arith in
            let untagged : has_layout (view_at nodes i) tag ≡ false = let P : ℕ → Type 0 = λ j. has_layout (view_at nodes j) tag ≡ false in subst P (sym here) fails in
            absurd (both_ways (has_layout (view_at nodes i) tag) untagged tagged)
      ];
    }

pub found_first : (nodes : List PlainNode) (tag : List ℕ) (number : ℕ) → IsFoundBelow nodes tag (length nodes) (Some number) → IsFirstTagged nodes tag number
found_first nodes tag number is = record { inside = is.inside; tagged = is.tagged; first = is.first }

-- a node that was found is one of the graph
pub found_inside : {Ix : Type 0} (number_of : Ix → ℕ) (nodes : List PlainNode) (tag : List ℕ) (k : ℕ) (found : Option Ix) → IsFoundBelow nodes tag k (option_map number_of found) → (x : Ix) → found ≡ Some x → number_of x < length nodes
found_inside {Ix} number_of nodes tag k found is x same =
    let P : Option Ix → Type 0 = λ o. IsFoundBelow nodes tag k (option_map number_of o) in
    let here : IsFirstBelow nodes tag k (number_of x) = subst P same is in
    here.inside

pub found_tagged : {Ix : Type 0} (number_of : Ix → ℕ) (nodes : List PlainNode) (tag : List ℕ) (found : Option Ix) → IsFoundBelow nodes tag (length nodes) (option_map number_of found) → IfSome found (λ ix. IsFirstTagged nodes tag (number_of ix))
found_tagged number_of nodes tag None is = tt
found_tagged number_of nodes tag (Some ix) is = found_first nodes tag (number_of ix) is

pub found_untagged : {Ix : Type 0} (number_of : Ix → ℕ) (nodes : List PlainNode) (tag : List ℕ) (found : Option Ix) → IsFoundBelow nodes tag (length nodes) (option_map number_of found) → IfNone found (IsUntagged nodes tag)
found_untagged number_of nodes tag None is = is
found_untagged number_of nodes tag (Some ix) is = tt
