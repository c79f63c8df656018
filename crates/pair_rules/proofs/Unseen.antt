-- Matches, partners and steps, and what rules compare, see of the nodes that parts name only which they are.
use Rattle.std.proofs.Common.{◌≡◌, ◌-◌, ℕ, zero, suc, Bool, true, false, cond, List, [], ◌∷◌, map, take, length, count_by, Option, Some, None, refl, sym, ◌∙◌, ap}
use Rattle.std.specs.Option.{option_map}
use Rattle.std.specs.Prelude.{is_some, slice_get}
use Rattle.std.proofs.lemmas.List.{length-map}
use Rattle.std.proofs.lemmas.List.Sums.{sum_by-cons}
use Rattle.abi_base.proofs.lemmas.Options.{option_map-same}
use Rattle.abi_base.proofs.lemmas.Bools.{and_same}
use Rattle.abi_types.specs.declared.kind.Way.{Way}
use Rattle.abi_types.specs.Types.{PlainPart, Member, Enumerator, Target, Element, Outcome, Param, PlainView}
use Rattle.abi_types.specs.Forms.{is_member, is_enumerator, is_param}
use Rattle.abi_types.specs.Graphs.{part_at, to_of}
use Rattle.abi_types.specs.Parts.{like, place_of, like_before}
use Rattle.pair_rules.specs.Same.{same_place}
use Rattle.pair_rules.specs.Matching.{number_of, match_of}
use Rattle.pair_rules.specs.TypeRules.{are_compared, is_outcome, bit_of, width_of, value_of, in_bytes, bit_at, width_at, value_at, differs, matched, params_of, places_differ, param_moved}
use Rattle.pair_rules.specs.Partners.{pair_of, partner_at}
use Rattle.pair_rules.specs.Ways.{after}
use Rattle.pair_rules.specs.Steps.{triple_of, led_by, next_of}
use Rattle.pair_rules.specs.Stable.{classed}
use Rattle.abi_types.specs.ClassLooks.{part_seen, view_seen}
use Rattle.pair_rules.proofs.lemmas.Parts.{get_or-seen, after-seen, part_at-seen, named-seen}

-- ---- what each part says

like-seen : (f g : ℕ → ℕ) (p q : PlainPart) → like (part_seen f p) (part_seen g q) ≡ like p q
like-seen f g (Member _ _ _ _) (Member _ _ _ _) = refl
like-seen f g (Enumerator _ _) (Enumerator _ _) = refl
like-seen f g (Target _) (Target _) = refl
like-seen f g (Element _) (Element _) = refl
like-seen f g (Outcome _) (Outcome _) = refl
like-seen f g (Param _) (Param _) = refl
like-seen f g _ _ = refl

pub is_member-seen : (f : ℕ → ℕ) (p : PlainPart) → is_member (part_seen f p) ≡ is_member p
is_member-seen f (Member _ _ _ _) = refl
is_member-seen f _ = refl

pub is_enumerator-seen : (f : ℕ → ℕ) (p : PlainPart) → is_enumerator (part_seen f p) ≡ is_enumerator p
is_enumerator-seen f (Enumerator _ _) = refl
is_enumerator-seen f _ = refl

pub is_outcome-seen : (f : ℕ → ℕ) (p : PlainPart) → is_outcome (part_seen f p) ≡ is_outcome p
is_outcome-seen f (Outcome _) = refl
is_outcome-seen f _ = refl

pub is_param-seen : (f : ℕ → ℕ) (p : PlainPart) → is_param (part_seen f p) ≡ is_param p
is_param-seen f (Param _) = refl
is_param-seen f _ = refl

bit_of-seen : (f : ℕ → ℕ) (p : PlainPart) → bit_of (part_seen f p) ≡ bit_of p
bit_of-seen f (Member _ _ _ _) = refl
bit_of-seen f _ = refl

width_of-seen : (f : ℕ → ℕ) (p : PlainPart) → width_of (part_seen f p) ≡ width_of p
width_of-seen f (Member _ _ _ _) = refl
width_of-seen f _ = refl

value_of-seen : (f : ℕ → ℕ) (p : PlainPart) → value_of (part_seen f p) ≡ value_of p
value_of-seen f (Enumerator _ _) = refl
value_of-seen f _ = refl

-- ---- lists of parts

place_of-map : {X Y : Type 0} (h : X → Y) (p : Y → Bool) (q : X → Bool) → ((x : X) → p (h x) ≡ q x) → (k : ℕ) (xs : List X) → place_of p k (map h xs) ≡ place_of q k xs
unfolding place_of
place_of-map h p q same k [] = refl
place_of-map h p q same k (x ∷ xs) = rw (same x, place_of-map h p q same k xs, place_of-map h p q same (k - 1) xs) refl

count_by-map : {X Y : Type 0} (h : X → Y) (p : Y → Bool) (q : X → Bool) → ((x : X) → p (h x) ≡ q x) → (xs : List X) → count_by p (map h xs) ≡ count_by q xs
count_by-map h p q same [] = refl
count_by-map h p q same (x ∷ xs) =
    sum_by-cons (λ y. cond (p y) 1 0) (h x) (map h xs) ∙ rw (same x, count_by-map h p q same xs) (sym (sum_by-cons (λ y. cond (q y) 1 0) x xs))

take-map : {X Y : Type 0} (h : X → Y) (i : ℕ) (xs : List X) → take i (map h xs) ≡ map h (take i xs)
take-map h zero xs = refl
take-map h (suc i) [] = refl
take-map h (suc i) (x ∷ xs) = rw (take-map h i xs) refl

-- ---- views

pub length-seen : (f : ℕ → ℕ) (v : PlainView) → length (view_seen f v).parts ≡ length v.parts
unfolding view_seen
length-seen f v = length-map v.parts (part_seen f)

-- what a function says of a part, where it does not see which node the part names
pub said-seen : {X : Type 0} (said : PlainPart → X) → ((f : ℕ → ℕ) (p : PlainPart) → said (part_seen f p) ≡ said p) → (f : ℕ → ℕ) (v : PlainView) (i : ℕ) → said (part_at (view_seen f v) i) ≡ said (part_at v i)
said-seen said unseen f v i = ap said (part_at-seen f v i) ∙ unseen f (part_at v i)

like_before-seen : (f : ℕ → ℕ) (ps : List PlainPart) (p : PlainPart) (i : ℕ) → like_before (map (part_seen f) ps) (part_seen f p) i ≡ like_before ps p i
unfolding like_before
like_before-seen f ps p i =
    ap (λ qs. count_by (like (part_seen f p)) qs) (take-map (part_seen f) i ps)
    ∙ count_by-map (part_seen f) (like (part_seen f p)) (like p) (λ q. like-seen f f p q) (take i ps)

pub number_of-seen : (f : ℕ → ℕ) (v : PlainView) (i : ℕ) → number_of (view_seen f v) i ≡ number_of v i
unfolding view_seen
number_of-seen f v i =
    ap (λ p. like_before (map (part_seen f) v.parts) p i) (get_or-seen f v.parts i)
    ∙ like_before-seen f v.parts (part_at v i) i

places-seen : (g : ℕ → ℕ) (f : ℕ → ℕ) (p : PlainPart) (k : ℕ) (w : PlainView) → place_of (like (part_seen f p)) k (view_seen g w).parts ≡ place_of (like p) k w.parts
unfolding view_seen
places-seen g f p k w = place_of-map (part_seen g) (like (part_seen f p)) (like p) (λ q. like-seen f g p q) k w.parts

pub match_of-seen : (f g : ℕ → ℕ) (v w : PlainView) (i : ℕ) → match_of (view_seen f v) (view_seen g w) i ≡ match_of v w i
unfolding match_of
match_of-seen f g v w i =
    ap (λ k. place_of (like (part_at (view_seen f v) i)) k (view_seen g w).parts) (number_of-seen f v i)
    ∙ ap (λ p. place_of (like p) (number_of v i) (view_seen g w).parts) (part_at-seen f v i)
    ∙ places-seen g f (part_at v i) (number_of v i) w

-- ---- partners and steps

compared-seen : (f g : ℕ → ℕ) (v w : PlainView) → are_compared (view_seen f v) (view_seen g w) ≡ are_compared v w
unfolding view_seen
compared-seen f g v w = refl

pair_of-map : (f : ℕ → ℕ) (i : ℕ) (o m : Option ℕ) → pair_of i (option_map f o) m ≡ pair_of i o m
pair_of-map f i None m = refl
pair_of-map f i (Some t) None = refl
pair_of-map f i (Some t) (Some j) = refl

partner_of : Bool → ℕ → Option ℕ → Option ℕ → Option (ℕ × ℕ)
partner_of b i o m = cond b (pair_of i o m) None

partner_of-map : (f : ℕ → ℕ) (b : Bool) (i : ℕ) (o m : Option ℕ) → partner_of b i (option_map f o) m ≡ partner_of b i o m
unfolding partner_of
partner_of-map f true i o m = pair_of-map f i o m
partner_of-map f false i o m = refl

partner_at-is : (v w : PlainView) (i : ℕ) → partner_at v w i ≡ partner_of (are_compared v w) i (to_of (part_at v i)) (match_of v w i)
unfolding partner_at partner_of
partner_at-is v w i = refl

pub partner_at-seen : (f g : ℕ → ℕ) (v w : PlainView) (i : ℕ) → partner_at (view_seen f v) (view_seen g w) i ≡ partner_at v w i
partner_at-seen f g v w i =
    partner_at-is (view_seen f v) (view_seen g w) i
    ∙ ap (λ b. partner_of b i (to_of (part_at (view_seen f v) i)) (match_of (view_seen f v) (view_seen g w) i)) (compared-seen f g v w)
    ∙ ap (λ o. partner_of (are_compared v w) i o (match_of (view_seen f v) (view_seen g w) i)) (named-seen f v i)
    ∙ ap (λ m. partner_of (are_compared v w) i (option_map f (to_of (part_at v i))) m) (match_of-seen f g v w i)
    ∙ partner_of-map f (are_compared v w) i (to_of (part_at v i)) (match_of v w i)
    ∙ sym (partner_at-is v w i)

triple_of-map : (f g : ℕ → ℕ) (way : Way) (a b : Option ℕ) → triple_of way (option_map f a) (option_map g b) ≡ option_map (classed f g) (triple_of way a b)
triple_of-map f g way None b = refl
triple_of-map f g way (Some x) None = refl
triple_of-map f g way (Some x) (Some y) = refl

way-seen : (f : ℕ → ℕ) (v : PlainView) (way : Way) (i : ℕ) → after way (part_at (view_seen f v) i) ≡ after way (part_at v i)
way-seen f v way i = ap (after way) (part_at-seen f v i) ∙ after-seen f way (part_at v i)

led_by-seen : (f g : ℕ → ℕ) (v w : PlainView) (way : Way) (o : Option (ℕ × ℕ)) → led_by (view_seen f v) (view_seen g w) way o ≡ option_map (classed f g) (led_by v w way o)
led_by-seen f g v w way None = refl
led_by-seen f g v w way (Some p) =
    ap (λ at. triple_of at (to_of (part_at (view_seen f v) p.0)) (to_of (part_at (view_seen g w) p.1))) (way-seen f v way p.0)
    ∙ ap (λ a. triple_of (after way (part_at v p.0)) a (to_of (part_at (view_seen g w) p.1))) (named-seen f v p.0)
    ∙ ap (λ b. triple_of (after way (part_at v p.0)) (option_map f (to_of (part_at v p.0))) b) (named-seen g w p.1)
    ∙ triple_of-map f g (after way (part_at v p.0)) (to_of (part_at v p.0)) (to_of (part_at w p.1))

pub next_of-seen : (f g : ℕ → ℕ) (v w : PlainView) (way : Way) (i : ℕ) → next_of (view_seen f v) (view_seen g w) way i ≡ option_map (classed f g) (next_of v w way i)
unfolding next_of
next_of-seen f g v w way i =
    ap (λ o. led_by (view_seen f v) (view_seen g w) way o) (partner_at-seen f g v w i)
    ∙ led_by-seen f g v w way (partner_at v w i)

-- ---- what rules compare

pub params_of-seen : (f : ℕ → ℕ) (v : PlainView) → params_of (view_seen f v) ≡ params_of v
unfolding view_seen
params_of-seen f v = count_by-map (part_seen f) is_param is_param (is_param-seen f) v.parts

pub bit_at-seen : (f : ℕ → ℕ) (v : PlainView) (i : ℕ) → bit_at (view_seen f v) i ≡ bit_at v i
bit_at-seen = said-seen bit_of bit_of-seen

pub width_at-seen : (f : ℕ → ℕ) (v : PlainView) (i : ℕ) → width_at (view_seen f v) i ≡ width_at v i
width_at-seen = said-seen width_of width_of-seen

size-seen : (f : ℕ → ℕ) (v : PlainView) → (view_seen f v).size ≡ v.size
unfolding view_seen
size-seen f v = refl

pub value_at-seen : (f : ℕ → ℕ) (v : PlainView) (i : ℕ) → value_at (view_seen f v) i ≡ value_at v i
value_at-seen f v i =
    ap (λ n. in_bytes n (value_of (part_at (view_seen f v) i))) (size-seen f v)
    ∙ ap (λ n. in_bytes v.size n) (said-seen value_of value_of-seen f v i)

pub matched-seen : (said : PlainView → ℕ → ℕ) → ((f : ℕ → ℕ) (v : PlainView) (i : ℕ) → said (view_seen f v) i ≡ said v i) → (f g : ℕ → ℕ) (v w : PlainView) (i : ℕ) → differs (said (view_seen f v) i) (matched said (view_seen f v) (view_seen g w) i) ≡ differs (said v i) (matched said v w i)
matched-seen said unseen f g v w i =
    ap (λ n. differs n (matched said (view_seen f v) (view_seen g w) i)) (unseen f v i)
    ∙ ap (λ m. differs (said v i) (option_map (said (view_seen g w)) m)) (match_of-seen f g v w i)
    ∙ ap (λ o. differs (said v i) o) (option_map-same (said (view_seen g w)) (said w) (unseen g w) (match_of v w i))

pub outcomes-seen : (f g : ℕ → ℕ) (v w : PlainView) → same_place (view_seen f v).call.outcome (view_seen g w).call.outcome ≡ same_place v.call.outcome w.call.outcome
unfolding view_seen
outcomes-seen f g v w = refl

params-seen : (f g : ℕ → ℕ) (v w : PlainView) (k : ℕ) → places_differ (slice_get (view_seen f v).call.params k) (slice_get (view_seen g w).call.params k) ≡ places_differ (slice_get v.call.params k) (slice_get w.call.params k)
unfolding view_seen
params-seen f g v w k = refl

pub param_moved-seen : (f g : ℕ → ℕ) (v w : PlainView) (i : ℕ) → param_moved (view_seen f v) (view_seen g w) i ≡ param_moved v w i
param_moved-seen f g v w i =
    and_same _ _ _ _ (ap (λ m. is_some m) (match_of-seen f g v w i))
    (ap (λ k. places_differ (slice_get (view_seen f v).call.params k) (slice_get (view_seen g w).call.params k)) (number_of-seen f v i)
    ∙ params-seen f g v w (number_of v i))
