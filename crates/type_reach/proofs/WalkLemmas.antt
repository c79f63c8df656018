-- The walk finds exactly what is reached.
use Rattle.std.proofs.Common.{◌≡◌, ◌<◌, ◌≤◌, ◌+◌, ℕ, zero, suc, Bool, true, false, cond, List, [], ◌∷◌, ◌++◌, length, map, get_or, slice_get, Some, None, refl, sym, ◌∙◌, ap, subst, arith, inl, inr}
use Rattle.std.specs.Prelude.{All, Contains, nat_eq}
use Rattle.std.specs.List.{IsDistinct}
use Rattle.std.proofs.lemmas.Bool.{cases_order, cases_lt, eqb-true}
use Rattle.std.proofs.lemmas.List.{length-append}
use Rattle.std.proofs.lemmas.List.Elements.{Contains-append_left, Contains-append_cases, Contains-get_or}
use Rattle.std.proofs.lemmas.Map.Steps.{length-le_from_distinct_below}
use Rattle.std.proofs.lemmas.Map.Views.{Contains-from_any}
use Rattle.std.proofs.lemmas.Option.{same_Some, slice_get_within}
use Rattle.abi_base.proofs.lemmas.Lists.{contains_at, slice_get-before}
use Rattle.abi_base.proofs.lemmas.Contained.{in_front, at_front, in_rest, in_none}
use Rattle.dwarf_tree.specs.Trees.{PlainTree}
use Rattle.type_reach.specs.References.{Type_, types_of, own_types, type_of, parts_of, has_type, role_of}
use Rattle.type_reach.specs.Reached.{TypeReferences, IsWalk}
use Rattle.type_reach.proofs.GrowLemmas.{Grew}
use Rattle.type_reach.proofs.ReferLemmas.{Inside, type_inside}
use Rattle.type_reach.proofs.lemmas.Mapped.{from_map, Contains-map}

-- all to which entries lead is inside
abbrev pub LeadInside : PlainTree → Type 0
LeadInside t = (e f : ℕ) → Contains (types_of t e) (Some f) → f < length t.entries

-- the entries before a number were expanded
pub record IsWalking (t : PlainTree) (roots found : List ℕ) (number : ℕ) : Type 0 where
  pub led : (i f : ℕ) → slice_get found i ≡ Some f → (n : ℕ) × (n ≤ i) × TypeReferences t roots n f
  pub roots_there : (f : ℕ) → Contains roots f → Contains found f
  pub closed : (i e f : ℕ) → i < number → slice_get found i ≡ Some e → Contains (types_of t e) (Some f) → Contains found f
  pub inside : (f : ℕ) → Contains found f → f < length t.entries
  pub place : number ≤ length found

pub contains_slice_get : {X : Type 0} (xs : List X) (x : X) → Contains xs x → (i : ℕ) × (i < length xs) × (slice_get xs i ≡ Some x)
contains_slice_get {X = X} xs x (i, lt, is) = (i, lt, here xs i lt ∙ ap (λ y. Some y) is) where
  here : (ys : List X) (k : ℕ) → k < length ys → slice_get ys k ≡ Some (get_or ys k x)
  here [] k lt = absurd (omega arith)
  here (y ∷ ys) zero lt = refl
  here (y ∷ ys) (suc k) lt = here ys k (omega arith)

some_root : (roots : List ℕ) (f : ℕ) → Contains (map (λ e. Some e) roots) (Some f) → Contains roots f
some_root [] f h = absurd (in_none (Some f) h)
some_root (r ∷ roots) f h = elim (in_front (Some r) (map (λ e. Some e) roots) (Some f) h) [
  | inl same ↦ subst (Contains (r ∷ roots)) (same_Some r f same) (at_front r roots)
  | inr later ↦ in_rest r roots f (some_root roots f later)
]

own_led : (t : PlainTree) (b : Bool) (e f : ℕ) → Contains (cond b (type_of t e ∷ []) []) (Some f) → f < length t.entries
own_led t true e f h = elim (in_front (type_of t e) [] (Some f) h) [
  | inl same ↦ subst (Inside t) same (type_inside t e)
  | inr none ↦ absurd (in_none (Some f) none)
]
own_led t false e f h = absurd (in_none (Some f) h)

pub lead_inside : (t : PlainTree) → LeadInside t
unfolding types_of own_types
lead_inside t e f h =
    elim (Contains-append_cases (own_types t e) (map (type_of t) (parts_of t e)) (Some f) h) [
      | inl own ↦ own_led t (has_type (role_of t e)) e f own
      | inr part ↦ let r = from_map (type_of t) (parts_of t e) (Some f) part in subst (Inside t) r.2 (type_inside t r.0)
    ]

pub types-inside : (t : PlainTree) (e : ℕ) → All (Inside t) (types_of t e)
types-inside t e k d lt = go (get_or (types_of t e) k d) (Contains-get_or (types_of t e) k d lt) where
  go : (ty : Type_) → Contains (types_of t e) ty → Inside t ty
  go None has = tt
  go (Some f) has = lead_inside t e f has

module _ (t : PlainTree) (roots : List ℕ) (inside : LeadInside t) where
  pub IsWalking-start : (found : List ℕ) → ((f : ℕ) → Contains roots f → f < length t.entries) → Grew [] (map (λ e. Some e) roots) found → IsWalking t roots found 0
  IsWalking-start found below grew =
      let root : (f : ℕ) → Contains found f → Contains roots f = λ f h. elim (grew.only f h) [ inl none ↦ absurd (omega (arith, none.1)) | inr is ↦ some_root roots f is ] in
      record {
        led = λ i f at. (0, omega arith, root f (contains_at found i f at));
        roots_there = λ f h. grew.all f (Contains-map (λ e. Some e) roots f h);
        closed = λ i e f lt at has. absurd (omega arith);
        inside = λ f h. below f (root f h);
        place = omega arith;
      }

  pub IsWalking-more : (found : List ℕ) (number e : ℕ) (new : List ℕ) → IsWalking t roots found number → slice_get found number ≡ Some e → Grew found (types_of t e) new → IsWalking t roots new (number + 1)
  IsWalking-more found number e new was at grew =
      let within = slice_get_within found number e at in
      let here = contains_at found number e at in
      let kept : (f : ℕ) → Contains found f → Contains new f = λ f h. subst (λ xs. Contains xs f) (sym grew.is) (Contains-append_left found grew.more f h) in
      let same : (i : ℕ) → i < length found → slice_get new i ≡ slice_get found i = λ i lt. ap (λ xs. slice_get xs i) grew.is ∙ slice_get-before found grew.more i lt in
      record {
        led = λ i f at_i. elim (cases_lt i (length found)) [
          | inl old ↦ was.led i f (sym (same i old) ∙ at_i)
          | inr past ↦ elim (grew.only f (contains_at new i f at_i)) [
            | inl before ↦ let p = contains_slice_get found f before in let r = was.led p.0 f p.2 in (r.0, omega (arith, r.1, p.1), r.2)
            | inr leads ↦ let r = was.led number e at in (suc r.0, omega (arith, r.1, within), (e, r.2, leads))
          ]
        ];
        roots_there = λ f h. kept f (was.roots_there f h);
        closed = λ i x f lt at_i has. elim (cases_order i number) [
          | inl is ↦ let one = same_Some x e (sym at_i ∙ same i (omega arith) ∙ ap (slice_get found) is ∙ at) in grew.all f (subst (λ y. Contains (types_of t y) (Some f)) one has)
          | inr (inl below) ↦ kept f (was.closed i x f below (sym (same i (omega arith)) ∙ at_i) has)
          | inr (inr above) ↦ absurd (omega arith)
        ];
        inside = λ f h. elim (grew.only f h) [ inl before ↦ was.inside f before | inr leads ↦ inside e f leads ];
        place = let long : length new ≡ length (found ++ grew.more) = ap length grew.is in omega (arith, long, length-append found grew.more);
      }

  pub all_found : (found : List ℕ) (number : ℕ) → IsWalking t roots found number → length found ≤ number → (n f : ℕ) → TypeReferences t roots n f → Contains found f
  all_found found number was past zero f leads = was.roots_there f leads
  all_found found number was past (suc n) f leads =
      let e = leads.0 in
      let there = contains_slice_get found e (all_found found number was past n e leads.1) in
      was.closed there.0 e f (omega (arith, there.1)) there.2 leads.2

  pub IsWalk-end : (found : List ℕ) (number : ℕ) → IsWalking t roots found number → length found ≤ number → IsDistinct nat_eq found → IsWalk t roots found
  IsWalk-end found number was past once = record {
    exact = λ f. (λ h. let p = contains_slice_get found f h in let r = was.led p.0 f p.2 in (r.0, r.2), λ r. all_found found number was past r.0 f r.1);
    once = once;
    inside = λ k d lt. was.inside (get_or found k d) (Contains-get_or found k d lt);
  }

-- no more entries are found than there are
pub found-le : (t : PlainTree) (roots found : List ℕ) (number : ℕ) → IsWalking t roots found number → IsDistinct nat_eq found → length found ≤ length t.entries
found-le t roots found number was once = length-le_from_distinct_below found (length t.entries) once (λ q h. was.inside q (Contains-from_any eqb-true q found h))
