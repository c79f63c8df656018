-- Reached by some chain is reached by a chain of fewer references than there are entries.
use Rattle.std.proofs.Common.{◌≡◌, ◌<◌, ◌≤◌, ◌+◌, ℕ, zero, suc, Bool, true, List, [], ◌∷◌, length, map, Some, None, refl, sym, ◌∙◌, ap, subst, arith, inl, inr}
use Rattle.std.specs.Prelude.{Contains, nat_eq, ◌↔◌, ◌&&◌}
use Rattle.std.specs.List.{list_any, range_with_len, IsDistinct}
use Rattle.std.proofs.lemmas.Bool.{cases_Bool, cases_lt, eqb-true, eq-eqb, and_parts, false≢true}
use Rattle.std.proofs.lemmas.Option.{slice_get_cases}
use Rattle.dwarf_tree.specs.Trees.{PlainTree}
use Rattle.type_reach.specs.References.{Type_, types_of}
use Rattle.type_reach.specs.Reached.{TypeReferences, IsReached, with_type, with_types}
use Rattle.type_reach.specs.ReachedList.{is_entry, refers, leads, is_reached}
use Rattle.type_reach.proofs.GrowLemmas.{Grew-types}
use Rattle.type_reach.proofs.WalkLemmas.{lead_inside, IsWalking, IsWalking-start, IsWalking-more, all_found, found-le, contains_slice_get}
use Rattle.std.proofs.lemmas.Map.Keys.{IsDistinct-push}
use Rattle.std.specs.Cmp.{nat_eq_equiv}
use Rattle.abi_base.proofs.lemmas.Contained.{in_front, at_front, in_rest, in_none}

-- ---- tests and chains

pub any_there : {X : Type 0} (p : X → Bool) (xs : List X) (x : X) → Contains xs x → p x ≡ true → list_any p xs ≡ true
any_there p [] x h is = absurd (in_none x h)
any_there p (y ∷ ys) x h is = elim (in_front y ys x h) [
  | inl same ↦ let here : p y ≡ true = ap p same ∙ is in rw here refl
  | inr later ↦ elim (cases_Bool (p y)) [ inl here ↦ rw here refl | inr other ↦ rw other (any_there p ys x later is) ]
]

pub any_found : {X : Type 0} (p : X → Bool) (xs : List X) → list_any p xs ≡ true → (x : X) × Contains xs x × (p x ≡ true)
any_found p [] h = absurd (false≢true h)
any_found p (y ∷ ys) h = elim (cases_Bool (p y)) [ inl here ↦ (y, at_front y ys, here) | inr other ↦ let r = any_found p ys (rw other at h) in (r.0, in_rest y ys r.0 r.1, r.2) ]

pub in_range : (a n i : ℕ) → a ≤ i → i < a + n → Contains (range_with_len a n) i
in_range a zero i le lt = absurd (omega arith)
in_range a (suc n) i le lt = elim (cases_lt a i) [
  | inl more ↦ in_rest a (range_with_len (a + 1) n) i (in_range (a + 1) n i (omega arith) (omega arith))
  | inr same ↦ let e : a ≡ i = omega arith in subst (Contains (a ∷ range_with_len (a + 1) n)) e (at_front a (range_with_len (a + 1) n))
]

refers-is : (t : PlainTree) (e f : ℕ) → refers t e f ≡ true → Contains (types_of t e) (Some f)
refers-is t e f h = let r = any_found (is_entry f) (types_of t e) h in go r.0 r.1 r.2 where
  go : (ty : Type_) → Contains (types_of t e) ty → is_entry f ty ≡ true → Contains (types_of t e) (Some f)
  go None has is = absurd (false≢true is)
  go (Some g) has is = subst (λ x. Contains (types_of t e) (Some x)) (eqb-true g f is) has

-- a test that holds is a chain
TypeReferences-from : (t : PlainTree) (roots : List ℕ) (n f : ℕ) → leads t roots n f ≡ true → TypeReferences t roots n f
unfolding leads
TypeReferences-from t roots zero f h = let r = any_found (nat_eq f) roots h in subst (Contains roots) (sym (eqb-true f r.0 r.2)) r.1
TypeReferences-from t roots (suc n) f h =
    let r = any_found _ (range_with_len 0 (length t.entries)) h in
    let both = and_parts (leads t roots n r.0) (refers t r.0 f) r.2 in
    (r.0, TypeReferences-from t roots n r.0 both.0, refers-is t r.0 f both.1)

-- a chain of entries of the tree passes the test
leads-from : (t : PlainTree) (roots : List ℕ) → ((e : ℕ) → Contains roots e → e < length t.entries) → (n f : ℕ) → TypeReferences t roots n f → leads t roots n f ≡ true
unfolding leads
leads-from t roots inside zero f h = any_there (nat_eq f) roots f h (eq-eqb f f refl)
leads-from t roots inside (suc n) f (e, before, has) =
    let below : e < length t.entries = there n e before in
    let here = leads-from t roots inside n e before in
    let on : refers t e f ≡ true = any_there (is_entry f) (types_of t e) (Some f) has (eq-eqb f f refl) in
    any_there (λ x. leads t roots n x && refers t x f) (range_with_len 0 (length t.entries)) e (in_range 0 (length t.entries) e (omega arith) (omega (arith, below))) (rw (here, on) refl)
  where
    there : (m g : ℕ) → TypeReferences t roots m g → g < length t.entries
    there zero g h = inside g h
    there (suc m) g (x, b, on) = lead_inside t x g on

-- ---- a walk ends with all that is reached, so a chain of fewer references than there are entries leads to each

distinct-type : (found : List ℕ) (ty : Type_) → IsDistinct nat_eq found → IsDistinct nat_eq (with_type found ty)
distinct-type found None once = once
distinct-type found (Some e) once =
    elim (cases_Bool (list_any (nat_eq e) found)) [ inl there ↦ rw there once | inr new ↦ rw new (IsDistinct-push nat_eq_equiv found e once new) ]

distinct-types : (found : List ℕ) (types : List Type_) → IsDistinct nat_eq found → IsDistinct nat_eq (with_types found types)
unfolding with_types
distinct-types found [] once = once
distinct-types found (ty ∷ types) once = distinct-types (with_type found ty) types (distinct-type found ty once)

distinct-none : IsDistinct nat_eq []
unfolding IsDistinct
distinct-none = tt

-- a list at which a walk ends
record IsWhole (t : PlainTree) (roots : List ℕ) : Type 0 where
  found : List ℕ
  number : ℕ
  walked : IsWalking t roots found number
  past : length found ≤ number
  once : IsDistinct nat_eq found

walk_on : (t : PlainTree) (roots : List ℕ) (fuel : ℕ) (found : List ℕ) (number : ℕ) → IsWalking t roots found number → IsDistinct nat_eq found → length t.entries ≤ number + fuel → IsWhole t roots
walk_on t roots zero found number was once le = record { found = found; number = number; walked = was; past = omega (arith, found-le t roots found number was once, le); once = once }
walk_on t roots (suc fuel) found number was once le =
    elim (slice_get_cases found number).1 [
      | inl there ↦
          let new : List ℕ = with_types found (types_of t there.0) in
          walk_on t roots fuel new (number + 1) (IsWalking-more t roots (lead_inside t) found number there.0 new was there.2 (Grew-types found (types_of t there.0))) (distinct-types found (types_of t there.0) once) (omega (arith, le))
      | inr past ↦ record { found = found; number = number; walked = was; past = past.0; once = once }
    ]

walk_whole : (t : PlainTree) (roots : List ℕ) → ((e : ℕ) → Contains roots e → e < length t.entries) → IsWhole t roots
walk_whole t roots inside =
    let start : List ℕ = with_types [] (map (λ e. Some e) roots) in
    walk_on t roots (length t.entries) start 0 (IsWalking-start t roots (lead_inside t) start inside (Grew-types [] (map (λ e. Some e) roots))) (distinct-types [] (map (λ e. Some e) roots) (distinct-none)) (omega arith)

-- THE LAW: the test says that some chain leads to the entry
pub is_reached-is : (t : PlainTree) (roots : List ℕ) → ((e : ℕ) → Contains roots e → e < length t.entries) → (f : ℕ) → (is_reached t roots f ≡ true) ↔ IsReached t roots f
unfolding is_reached
is_reached-is t roots inside f = (to, from) where
  to : list_any (λ n. leads t roots n f) (range_with_len 0 (length t.entries)) ≡ true → IsReached t roots f
  to h = let r = any_found (λ n. leads t roots n f) (range_with_len 0 (length t.entries)) h in (r.0, TypeReferences-from t roots r.0 f r.2)

  from : IsReached t roots f → list_any (λ n. leads t roots n f) (range_with_len 0 (length t.entries)) ≡ true
  from reached =
      let w = walk_whole t roots inside in
      let at = contains_slice_get w.found f (all_found t roots (lead_inside t) w.found w.number w.walked w.past reached.0 f reached.1) in
      let led = w.walked.led at.0 f at.2 in
      let few = found-le t roots w.found w.number w.walked w.once in
      any_there (λ n. leads t roots n f) (range_with_len 0 (length t.entries)) led.0 (in_range 0 (length t.entries) led.0 (omega arith) (omega (arith, led.1, at.1, few))) (leads-from t roots inside led.0 f led.2)
