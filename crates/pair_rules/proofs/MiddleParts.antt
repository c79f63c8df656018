-- Parts that are alike, and how many of them types of one kind have.
use Rattle.std.proofs.Common.{◌≡◌, ◌≤◌, ◌<◌, ◌⊎◌, ℕ, zero, suc, Bool, true, false, List, [], ◌∷◌, length, take, get_or, filter, count_by, Some, refl, sym, ◌∙◌, ap, arith, inl, inr}
use Rattle.std.specs.List.{list_all}
use Rattle.std.specs.Str.{bytes_eq}
use Rattle.std.proofs.lemmas.Bool.{cases_Bool, and_parts}
use Rattle.std.proofs.lemmas.List.Elements.{filter_agree}
use Rattle.std.proofs.lemmas.List.Sums.{length-filter}
use Rattle.std.proofs.lemmas.Slice.Eq.{bytes_eq-Decides}
use Rattle.abi_base.proofs.lemmas.Lists.{fewer_before}
use Rattle.abi_types.specs.declared.kind.Kind.{Kind}
use Rattle.abi_types.specs.declared.kind.Kind.TheVariants as kind
use Rattle.abi_types.specs.declared.kind.Way.{Way}
use Rattle.abi_types.specs.Types.{PlainPart, Member, Enumerator, Target, Element, Outcome, Param}
use Rattle.abi_types.specs.Forms.{is_function, is_member, is_enumerator, is_param, is_one_target, is_one_element, are_of_function, are_none, parts_fit}
use Rattle.abi_types.specs.Graphs.{no_part, to_of}
use Rattle.abi_types.specs.Parts.{like}
use Rattle.pair_rules.specs.Ways.{after}

-- ---- alike

like_members : (m n : List ℕ) (b c to d e at : ℕ) → m ≡ n → (r : PlainPart) → like (Member n d e at) r ≡ like (Member m b c to) r
like_members m n b c to d e at same (Member x _ _ _) = ap (λ (y : List ℕ). bytes_eq y x) (sym same)
like_members m n b c to d e at same _ = refl

like_enumerators : (m n : List ℕ) (b c : ℕ) → m ≡ n → (r : PlainPart) → like (Enumerator n c) r ≡ like (Enumerator m b) r
like_enumerators m n b c same (Enumerator x _) = ap (λ (y : List ℕ). bytes_eq y x) (sym same)
like_enumerators m n b c same _ = refl

like_targets : (a b : ℕ) (r : PlainPart) → like (Target b) r ≡ like (Target a) r
like_targets a b (Target _) = refl
like_targets a b _ = refl

like_elements : (a b : ℕ) (r : PlainPart) → like (Element b) r ≡ like (Element a) r
like_elements a b (Element _) = refl
like_elements a b _ = refl

like_outcomes : (a b : ℕ) (r : PlainPart) → like (Outcome b) r ≡ like (Outcome a) r
like_outcomes a b (Outcome _) = refl
like_outcomes a b _ = refl

like_params : (a b : ℕ) (r : PlainPart) → like (Param b) r ≡ like (Param a) r
like_params a b (Param _) = refl
like_params a b _ = refl

-- what is like one of two parts that are alike is like the other
pub like_agree : (p q : PlainPart) → like p q ≡ true → (r : PlainPart) → like q r ≡ like p r
like_agree (Member m b c to) (Member n d e at) alike r = like_members m n b c to d e at ((bytes_eq-Decides m n).0 alike) r
like_agree (Enumerator m b) (Enumerator n c) alike r = like_enumerators m n b c ((bytes_eq-Decides m n).0 alike) r
like_agree (Target a) (Target b) alike r = like_targets a b r
like_agree (Element a) (Element b) alike r = like_elements a b r
like_agree (Outcome a) (Outcome b) alike r = like_outcomes a b r
like_agree (Param a) (Param b) alike r = like_params a b r
like_agree p q alike r = absurd cc

-- what alike parts name is reached by the same way
pub way_like : (way : Way) (p q : PlainPart) → like p q ≡ true → after way q ≡ after way p
way_like way (Member m b c at) (Member n d e there) alike = refl
way_like way (Enumerator m b) (Enumerator n c) alike = refl
way_like way (Target at) (Target there) alike = refl
way_like way (Element at) (Element there) alike = refl
way_like way (Outcome at) (Outcome there) alike = refl
way_like way (Param at) (Param there) alike = refl
way_like way p q alike = absurd cc

-- ---- lists

all_at : {X : Type 0} (p : X → Bool) (xs : List X) (i : ℕ) (d : X) → list_all p xs ≡ true → i < length xs → p (get_or xs i d) ≡ true
all_at p [] i d all inside = absurd (omega (arith, inside))
all_at p (x ∷ xs) zero d all inside = (and_parts (p x) (list_all p xs) all).0
all_at p (x ∷ xs) (suc i) d all inside = all_at p xs i d (and_parts (p x) (list_all p xs) all).1 (omega (arith, inside))

none_pass : {X : Type 0} (p q : X → Bool) (xs : List X) → list_all q xs ≡ true → ((x : X) → q x ≡ true → p x ≡ false) → filter p xs ≡ []
none_pass p q [] all fails = refl
none_pass p q (x ∷ xs) all fails =
    let parts = and_parts (q x) (list_all q xs) all in
    let here : p x ≡ false = fails x parts.0 in
    rw here (none_pass p q xs parts.1 fails)

-- ---- how many are there

-- the second list has as many parts like part i of the first as the first has
abbrev pub AreAsMany : List PlainPart → List PlainPart → ℕ → Type 0
AreAsMany vs us i = length (filter (like (get_or vs i no_part)) vs) ≤ length (filter (like (get_or vs i no_part)) us)

none_inside : (vs : List PlainPart) (i : ℕ) → are_none vs ≡ true → i < length vs → ⊥
none_inside [] i none inside = omega (arith, inside)
none_inside (v ∷ vs) i none inside = absurd cc

targets : (vs us : List PlainPart) (i : ℕ) → is_one_target vs ≡ true → is_one_target us ≡ true → i < length vs → AreAsMany vs us i
targets (Target a ∷ []) (Target b ∷ []) zero one other inside = omega arith
targets (Target a ∷ []) (Target b ∷ []) (suc i) one other inside = absurd (omega (arith, inside))
targets vs us i one other inside = absurd cc

elements : (vs us : List PlainPart) (i : ℕ) → is_one_element vs ≡ true → is_one_element us ≡ true → i < length vs → AreAsMany vs us i
elements (Element a ∷ []) (Element b ∷ []) zero one other inside = omega arith
elements (Element a ∷ []) (Element b ∷ []) (suc i) one other inside = absurd (omega (arith, inside))
elements vs us i one other inside = absurd cc

enumerators : (p : PlainPart) (to : ℕ) → is_enumerator p ≡ true → to_of p ≡ Some to → ⊥
enumerators (Enumerator m b) to is named = cc
enumerators p to is named = cc

no_outcome : (a : ℕ) (p : PlainPart) → is_param p ≡ true → like (Outcome a) p ≡ false
no_outcome a (Param to) is = refl
no_outcome a p is = absurd cc

param_is : (p : PlainPart) → is_param p ≡ true → (x : PlainPart) → like p x ≡ is_param x
param_is (Param a) is (Param b) = refl
param_is (Param a) is _ = refl
param_is p is x = absurd cc

param_count : (p : PlainPart) → is_param p ≡ true → (xs : List PlainPart) → length (filter (like p) xs) ≡ count_by is_param xs
param_count p is xs = ap length (filter_agree (like p) is_param (param_is p is) xs) ∙ length-filter is_param xs

outcome_first : (a b : ℕ) (ps qs : List PlainPart) → list_all is_param ps ≡ true → AreAsMany (Outcome a ∷ ps) (Outcome b ∷ qs) 0
outcome_first a b ps qs all = let none : filter (like (Outcome a)) ps ≡ [] = none_pass (like (Outcome a)) is_param ps all (no_outcome a) in omega (arith, ap length none)

functions : (vs us : List PlainPart) (i : ℕ) → are_of_function vs ≡ true → are_of_function us ≡ true → count_by is_param vs ≡ count_by is_param us → i < length vs → AreAsMany vs us i
functions (Outcome a ∷ ps) (Outcome b ∷ qs) zero one other count inside = outcome_first a b ps qs one
functions (Outcome a ∷ ps) (Outcome b ∷ qs) (suc i) one other count inside =
    let is : is_param (get_or ps i no_part) ≡ true = all_at is_param ps i no_part one (omega (arith, inside)) in
    omega (arith, param_count (get_or ps i no_part) is (Outcome a ∷ ps), param_count (get_or ps i no_part) is (Outcome b ∷ qs), count)
functions vs us i one other count inside = absurd cc

-- A part that names a node is a member, or the other type of this kind has as many like it.
pub as_many : (k : Kind) (vs us : List PlainPart) (i to : ℕ) → parts_fit k vs ≡ true → parts_fit k us ≡ true → (is_function k ≡ true → count_by is_param vs ≡ count_by is_param us)
    → i < length vs → to_of (get_or vs i no_part) ≡ Some to → (is_member (get_or vs i no_part) ≡ true) ⊎ AreAsMany vs us i
as_many kind.Void vs us i to one other count inside named = absurd (none_inside vs i one inside)
as_many kind.Scalar vs us i to one other count inside named = absurd (none_inside vs i one inside)
as_many kind.Pointer vs us i to one other count inside named = inr (targets vs us i one other inside)
as_many kind.Enumeration vs us i to one other count inside named = absurd (enumerators (get_or vs i no_part) to (all_at is_enumerator vs i no_part one inside) named)
as_many kind.Structure vs us i to one other count inside named = inl (all_at is_member vs i no_part one inside)
as_many kind.Union vs us i to one other count inside named = inl (all_at is_member vs i no_part one inside)
as_many kind.Array vs us i to one other count inside named = inr (elements vs us i one other inside)
as_many kind.Vector vs us i to one other count inside named = inr (elements vs us i one other inside)
as_many kind.Function vs us i to one other count inside named = inr (functions vs us i one other (count refl) inside)
