-- Tags that are near another one.
use Rattle.std.proofs.Common.{◌≡◌, ◌≢◌, ◌<◌, ◌≤◌, ℕ, Bool, true, false, not, ◌||◌, ◌&&◌, ◌==◌, List, [], ◌∷◌, ◌++◌, length, map, All, Option, Some, None, ◌⊎◌, inl, inr, refl, sym, ◌∙◌, ap, subst, arith, Bor}
use Rattle.std.specs.Prelude.{IfSome, IsSomeAnd}
use Rattle.std.specs.List.{AllPairs, Contains, list_any}
use Rattle.std.specs.Option.{ForSome}
use Rattle.std.specs.Str.{bytes_eq}
use Rattle.std.proofs.lemmas.Bool.{and_from, and_right, both_ways, cases_Bool, ne_eqb}
use Rattle.std.proofs.lemmas.List.{map-append}
use Rattle.std.proofs.lemmas.List.Elements.{All-get_or, All-push, Contains-append_cases, Contains-append_left, Contains-append_right, Contains-get_or, Contains-push, Contains-push_cases}
use Rattle.std.proofs.lemmas.List.Quantifiers.{all_pairs_push}
use Rattle.std.proofs.lemmas.Slice.Eq.{bytes_eq-Decides}
use Rattle.abi_types.specs.Types.{PlainNode, PlainView}
use Rattle.abi_types.specs.Graphs.{view_at}
use Rattle.type_print.specs.Structures.{has_layout, is_structure}
use Rattle.library_layout.specs.declared.near.Near.{Near}
use Rattle.library_layout.specs.Structures.{AreTagsIn, IsAsNear, IsLeftOut, IsNearestBeside, IsNewTagIn, IsTagIn, distance}

-- ---- one of some texts

module _ {X : Type 0} (f : X → List ℕ) (y : List ℕ) where
  not_among : (xs : List X) → list_any (λ x. bytes_eq (f x) y) xs ≡ false → Contains (map f xs) y → ⊥
  not_among [] none there = let below : there.0 < 0 = there.1 in absurd (omega arith)
  not_among (x ∷ xs) none there = elim (cases_Bool (bytes_eq (f x) y)) [
    | inl here ↦ both_ways true (subst (λ (b : Bool). (b || list_any (λ z. bytes_eq (f z) y) xs) ≡ false) here none) refl
    | inr not ↦ elim (Contains-append_cases (f x ∷ []) (map f xs) y there) [
      | inl one ↦ elim (Contains-push_cases [] (f x) y one) [
        | inl empty ↦ let below : empty.0 < 0 = empty.1 in absurd (omega arith)
        | inr same ↦ both_ways (bytes_eq (f x) y) not ((bytes_eq-Decides (f x) y).1 same)
      ]
      | inr rest ↦ not_among xs (subst (λ (b : Bool). (b || list_any (λ z. bytes_eq (f z) y) xs) ≡ false) not none) rest
    ]
  ]

module _ {X : Type 0} (f : X → List ℕ) (y : List ℕ) where
  pub among : (xs : List X) → list_any (λ x. bytes_eq (f x) y) xs ≡ true → Contains (map f xs) y
  among [] some = absurd (both_ways false refl some)
  among (x ∷ xs) some = elim (cases_Bool (bytes_eq (f x) y)) [
    | inl here ↦ Contains-append_left (f x ∷ []) (map f xs) y (subst (Contains (f x ∷ [])) ((bytes_eq-Decides (f x) y).0 here) (Contains-push [] (f x)))
    | inr other ↦ Contains-append_right (f x ∷ []) (map f xs) y (among xs (subst (λ (b : Bool). (b || list_any (λ z. bytes_eq (f z) y) xs) ≡ true) other some))
  ]

pub new_tag : (nodes : List PlainNode) (number : ℕ) (tags : List (Bor (List ℕ))) (tag : List ℕ) → number < length nodes → has_layout (view_at nodes number) tag ≡ true
    → list_any (λ t. bytes_eq t.now tag) tags ≡ false → IsNewTagIn nodes (map (λ t. t.now) tags) tag
new_tag nodes number tags tag inside tagged none = record {
  there = record { number = number; inside = inside; tagged = tagged };
  new = not_among (λ t. t.now) tag tags none;
}

pub kept_by : {X : Type 0} (P : X → Type 0) (first second found : Option X) → (found ≡ first) ⊎ (found ≡ second) → ForSome first P → ForSome second P → ForSome found P
kept_by {X = X} P first second found which one other = elim which [
  | inl is ↦ subst (λ (o : Option X). ForSome o P) (sym is) one
  | inr is ↦ subst (λ (o : Option X). ForSome o P) (sym is) other
]

-- one tag more
pub tags_more : (nodes : List PlainNode) (tags : List (List ℕ)) (tag : List ℕ) → AreTagsIn nodes tags → IsNewTagIn nodes tags tag → AreTagsIn nodes (tags ++ tag ∷ [])
tags_more nodes tags tag are new = record {
  there = All-push (IsTagIn nodes) tags tag are.there new.there;
  apart = all_pairs_push (λ a b. a ≢ b) tags tag are.apart (λ k d below same. new.new (subst (Contains tags) same (Contains-get_or tags k d below)));
}

pub tags_pushed : (nodes : List PlainNode) (before seen now : List (Bor (List ℕ))) (tag : Bor (List ℕ)) → seen ≡ before → now ≡ before ++ tag ∷ [] → AreTagsIn nodes (map (λ t. t.now) before)
    → IsNewTagIn nodes (map (λ t. t.now) seen) tag.now → AreTagsIn nodes (map (λ t. t.now) now)
tags_pushed nodes before seen now tag same grown are new =
    let text_of : Bor (List ℕ) → List ℕ = λ t. t.now in
    let more = tags_more nodes (map text_of before) tag.now are (subst (λ (ts : List (Bor (List ℕ))). IsNewTagIn nodes (map text_of ts) tag.now) same new) in
    let mapped : map text_of now ≡ map text_of before ++ tag.now ∷ [] = ap (map text_of) grown ∙ map-append text_of before (tag ∷ []) in
    subst (AreTagsIn nodes) (sym mapped) more

-- ---- the tag of a type

pub tag_is : (v : PlainView) (other : List ℕ) → has_layout v other ≡ true → v.tag ≡ other
tag_is v other layout = elim (cases_Bool (bytes_eq v.tag other)) [
  | inl same ↦ (bytes_eq-Decides v.tag other).0 same
  | inr not_same ↦ absurd (both_ways (has_layout v other) (and_right (is_structure v.kind && not v.declared_only) (bytes_eq v.tag other) not_same) layout)
]

is_named : (tag : List ℕ) → tag ≢ [] → not (length tag == 0) ≡ true
is_named [] named = absurd (named refl)
is_named (x ∷ xs) named = rw (ne_eqb (length (x ∷ xs)) 0 (omega arith)) refl

pub not_tagged : (v : PlainView) (other : List ℕ) → (has_layout v v.tag && not (length v.tag == 0)) ≡ false → has_layout v other ≡ true → other ≢ [] → ⊥
not_tagged v other none layout named =
    let same : v.tag ≡ other = tag_is v other layout in
    let own : has_layout v v.tag ≡ true = subst (λ (t : List ℕ). has_layout v t ≡ true) (sym same) layout in
    both_ways (has_layout v v.tag && not (length v.tag == 0)) none (and_from (has_layout v v.tag) (not (length v.tag == 0)) own (is_named v.tag (λ empty. named (sym same ∙ empty))))

-- ---- the nearest of them

-- of the types before a place, no tag that is left out is nearer than what was found
abbrev pub IsLeast : List PlainNode → List ℕ → List (List ℕ) → ℕ → Option Near → Type 0
IsLeast nodes wanted tags end found =
    (k : ℕ) → k < end → (other : List ℕ) → has_layout (view_at nodes k) other ≡ true → other ≢ [] → ¬ Contains tags other
    → IsSomeAnd found (λ near. near.edits ≤ distance other wanted)

-- no tag that is left out is nearer than one of these
abbrev pub AreNearer : List PlainNode → List ℕ → List (List ℕ) → Type 0
AreNearer nodes wanted tags = (other : List ℕ) → IsLeftOut nodes tags other → All (λ tag. IsAsNear wanted tag other) tags

-- what is as near as the one before is as near as all that came before
pub still_least : (first found : Option Near) (d : ℕ) → IfSome first (λ near. IsSomeAnd found (λ f. f.edits ≤ near.edits)) → IsSomeAnd first (λ near. near.edits ≤ d) → IsSomeAnd found (λ f. f.edits ≤ d)
still_least None found d kept none = absurd none
still_least (Some near) None d none below = absurd none
still_least (Some near) (Some f) d kept below = let step : f.edits ≤ near.edits = kept in let end : near.edits ≤ d = below in omega arith

-- the tag of this type was measured
pub measured_here : (wanted other : List ℕ) (near : Option Near) → IfSome near (λ n. n.edits ≡ distance n.tag.now wanted) → IsSomeAnd near (λ n. n.tag.now ≡ other) → IsSomeAnd near (λ n. n.edits ≤ distance other wanted)
measured_here wanted other None measured none = absurd none
measured_here wanted other (Some n) measured same = let is : n.edits ≡ distance other wanted = measured ∙ ap (λ (t : List ℕ). distance t wanted) same in omega arith

-- what is left out with one tag more was left out before
pub left_out_before : (nodes : List PlainNode) (tags : List (List ℕ)) (tag other : List ℕ) → IsLeftOut nodes (tags ++ tag ∷ []) other → IsLeftOut nodes tags other
left_out_before nodes tags tag other out = (record { there = out.0.there; new = λ had. out.0.new (Contains-append_left tags (tag ∷ []) other had) }, out.1)

-- one tag more, which is as near as all that are left out
pub ordered_more : (nodes : List PlainNode) (wanted : List ℕ) (tags : List (List ℕ)) (tag : List ℕ) → AllPairs (IsAsNear wanted) tags → AreNearer nodes wanted tags → IsLeftOut nodes tags tag
    → AllPairs (IsAsNear wanted) (tags ++ tag ∷ [])
ordered_more nodes wanted tags tag ordered nearer out = all_pairs_push (IsAsNear wanted) tags tag ordered (λ k d below. All-get_or (λ t. IsAsNear wanted t tag) tags k d below (nearer tag out))

pub nearer_more : (nodes : List PlainNode) (wanted : List ℕ) (tags : List (List ℕ)) (tag : List ℕ) → AreNearer nodes wanted tags → IsNearestBeside nodes wanted tags (Some tag)
    → AreNearer nodes wanted (tags ++ tag ∷ [])
nearer_more nodes wanted tags tag nearer nearest other out =
    let before = left_out_before nodes tags tag other out in
    All-push (λ t. IsAsNear wanted t other) tags tag (nearer other before) (nearest other before)
