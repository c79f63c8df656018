-- The weight of patterns, byte by byte, and the letters of names.
use Rattle.std.proofs.Common.{◌≡◌, ◌<◌, ◌≤◌, ℕ, ◌+◌, ◌-◌, ◌*◌, ◌^◌, Bool, true, false, cond, List, [], ◌∷◌, length, take, drop, get_or, map, Option, refl, sym, ◌∙◌, ap, subst, arith}
use Rattle.std.specs.Prelude.{◌==◌, ◌&&◌, not, if◌then◌else◌, min, sum_by}
use Rattle.std.specs.Char.{is_ascii_alphabetic}
use Rattle.std.proofs.Math.Nat.{min-le_right, zero-min}
use Rattle.std.proofs.lemmas.List.{drop_more, drop_all, get_or-map, length-map, take_all, take_more}
use Rattle.std.proofs.lemmas.List.Sums.{sum_by_push}
use Rattle.abi_base.specs.declared.limit.Limit.TheVariants.{PatternLetters, Patterns}
use Rattle.abi_base.specs.Budgets.{BudgetState, allowed, fresh}
use Rattle.abi_types.specs.Exports.{PlainExport}
use Rattle.abi_types.specs.Libraries.{PlainLibrary}
use Rattle.abi_types.specs.Types.{PlainNode}
use Rattle.suppression_text.specs.Keys.{has_pattern}
use Rattle.suppression_text.specs.Rules.{PlainProperty, PlainSection}
use Rattle.suppression_text.proofs.lemmas.Capped.{above_cap, capped_lower, capped_more, capped_sum, capped_times, fits_below}
use Rattle.suppressions.specs.Weights.{escaped_letters, export_letters, letters_allowed, letters_of, names_of, node_letters, property_weight, text_length, weight_allowed, weight_of}

-- ---- escaped letters

-- what the rest of a text adds, where its first byte is escaped or not
pub rest_of : Bool → List ℕ → ℕ
rest_of false text = escaped_letters text
rest_of true [] = 0
rest_of true (b ∷ text) = cond (is_ascii_alphabetic b) 1 0 + escaped_letters text

zero_plus : (n : ℕ) → 0 + n ≡ n
zero_plus n = omega arith

rest_step : (escaped : Bool) (b : ℕ) (text : List ℕ) → rest_of escaped (b ∷ text) ≡ cond (escaped && is_ascii_alphabetic b) 1 0 + rest_of (not escaped && b == 92) text
unfolding escaped_letters rest_of
rest_step true b text = refl
rest_step false b [] = none (b == 92) ∙ sym (zero_plus (rest_of (b == 92) []))
  where
    none : (is : Bool) → 0 ≡ rest_of is []
    none true = refl
    none false = refl
rest_step false b (c ∷ text) = some (b == 92) ∙ sym (zero_plus (rest_of (b == 92) (c ∷ text)))
  where
    some : (is : Bool) → (if is then (if is_ascii_alphabetic c then 1 else 0) + escaped_letters text else escaped_letters (c ∷ text)) ≡ rest_of is (c ∷ text)
    some true = refl
    some false = refl

-- all bytes
pub letters_start : (text : List ℕ) → escaped_letters text ≡ 0 + rest_of false text
unfolding rest_of
letters_start text = sym (zero_plus (escaped_letters text))

-- one more byte
pub letters_step : (text : List ℕ) (i d count more : ℕ) (escaped letter next : Bool) → i < length text → escaped_letters text ≡ count + rest_of escaped (drop i text)
    → letter ≡ (escaped && is_ascii_alphabetic (get_or text i d)) → next ≡ (not escaped && get_or text i d == 92) → more ≡ count + cond letter 1 0
    → escaped_letters text ≡ more + rest_of next (drop (i + 1) text)
letters_step text i d count more escaped letter next inside was is_letter is_next grown =
    let here : rest_of escaped (drop i text) ≡ cond letter 1 0 + rest_of next (drop (i + 1) text) =
    ap (rest_of escaped) (drop_more text i d inside) ∙ rest_step escaped (get_or text i d) (drop (i + 1) text) ∙ rw (is_letter, is_next) refl in
    omega (arith, was, here, grown)

rest_none : (escaped : Bool) → rest_of escaped [] ≡ 0
unfolding escaped_letters rest_of
rest_none true = refl
rest_none false = refl

-- no more bytes
pub letters_whole : (text : List ℕ) (i count : ℕ) (escaped : Bool) → length text ≤ i → escaped_letters text ≡ count + rest_of escaped (drop i text) → count ≡ escaped_letters text
letters_whole text i count escaped whole was =
    let none : rest_of escaped (drop i text) ≡ 0 = ap (rest_of escaped) (drop_all i text whole) ∙ rest_none escaped in
    omega (arith, was, none)

-- ---- the weight of a property

pub weighs_nothing : (p : PlainProperty) (m : ℕ) → has_pattern p.key ≡ false → 0 ≡ min (property_weight p) m
weighs_nothing p m none = rw none (sym (zero-min m))

pub weighs : (p : PlainProperty) (text : List ℕ) (letters a b all m : ℕ) → has_pattern p.key ≡ true → text ≡ p.value → letters ≡ escaped_letters text → a ≡ min (letters * 64) m → b ≡ min (a + 64) m
    → all ≡ min (b + length text) m → all ≡ min (property_weight p) m
weighs p text letters a b all m some is counted first second third =
    third ∙ rw (second, first, counted, is, some)
    (ap (λ (n : ℕ). min (n + length p.value) m) (capped_more (escaped_letters p.value * 64) 64 m) ∙ capped_more (escaped_letters p.value * 64 + 64) (length p.value) m)

-- ---- capped sums

-- the sum over one more item of a list that is seen as another
pub capped_view : {X A : Type 0} (view : X → A) (cost : A → ℕ) (items : List X) (i : ℕ) (d : X) (so_far here next m : ℕ) → i < length items → so_far ≡ min (sum_by cost (take i (map view items))) m
    → here ≡ cost (view (get_or items i d)) → next ≡ min (so_far + here) m → next ≡ min (sum_by cost (take (i + 1) (map view items))) m
capped_view {X} {A} view cost items i d so_far here next m inside was is grown =
    let len : length (map view items) ≡ length items = length-map items view in
    let at : get_or (map view items) i (view d) ≡ view (get_or items i d) = get_or-map view items i d (view d) inside in
    let more : sum_by cost (take (i + 1) (map view items)) ≡ sum_by cost (take i (map view items)) + cost (get_or (map view items) i (view d)) =
    ap (λ (l : List A). sum_by cost l) (take_more (map view items) i (view d) (omega (arith, len, inside))) ∙ sum_by_push cost (take i (map view items)) (get_or (map view items) i (view d)) in
    grown ∙ rw (was, is) (capped_more (sum_by cost (take i (map view items))) (cost (view (get_or items i d))) m)
    ∙ ap (λ (n : ℕ). min n m) (ap (λ (a : A). sum_by cost (take i (map view items)) + cost a) (sym at) ∙ sym more)

pub capped_all : {X A : Type 0} (view : X → A) (cost : A → ℕ) (items : List X) (i total m : ℕ) → total ≡ min (sum_by cost (take i (map view items))) m → length items ≡ i → total ≡ min (sum_by cost (map view items)) m
capped_all {X} {A} view cost items i total m is whole =
    let len : length (map view items) ≡ length items = length-map items view in
    is ∙ ap (λ (l : List A). min (sum_by cost l) m) (take_all i (map view items) (omega (arith, len, whole)))

-- ---- the letters of a library

pub letters_are : (old : PlainLibrary) (soname a b all m : ℕ) (exports : List PlainExport) (graph : List PlainNode) (text : Option (List ℕ)) → soname ≡ text_length text → text ≡ old.soname → exports ≡ old.exports
    → graph ≡ old.graph → a ≡ min (sum_by (export_letters soname) exports) m → b ≡ min (sum_by (node_letters soname) graph) m → all ≡ min (a + b) m → all ≡ min (letters_of old) m
letters_are old soname a b all m exports graph text len is of_exports of_graph first second both =
    both ∙ rw (first, second, of_exports, of_graph, len, is) (capped_sum (sum_by (export_letters (text_length old.soname)) old.exports) (sum_by (node_letters (text_length old.soname)) old.graph) m)

-- ---- budgets

-- the budget for letters, by a capped number of names
module _ (old : PlainLibrary) (sections : List PlainSection) (names letters weight product : ℕ) (budget : BudgetState) (named : names ≡ min (names_of old) (2 ^ 64 - 1)) (is : budget ≡ fresh PatternLetters (min names (2 ^ 38 - 1))) (read : letters ≡ min (letters_of old) (2 ^ 64 - 1)) (weighed : weight ≡ min (weight_of sections) (2 ^ 64 - 1)) (times : product ≡ min (letters * weight) (2 ^ 64 - 1)) where
  most_is : budget.most ≡ letters_allowed old
  most_is =
      ap (λ (b : BudgetState). b.most) is ∙ ap (λ (n : ℕ). allowed PatternLetters (min n (2 ^ 38 - 1))) named
      ∙ ap (allowed PatternLetters) (capped_lower (names_of old) (2 ^ 64 - 1) (2 ^ 38 - 1) (omega arith))

  taken_is : budget.taken ≡ 0
  taken_is = ap (λ (b : BudgetState). b.taken) is

  product_is : product ≡ min (letters_of old * weight_of sections) (2 ^ 64 - 1)
  product_is = times ∙ rw (read, weighed) (capped_times (letters_of old) (weight_of sections) (2 ^ 64 - 1) (omega arith))

  small : letters_allowed old < 2 ^ 64 - 1
  small = omega (arith, min-le_right (names_of old) (2 ^ 38 - 1))

  pub letters_past : budget.most < budget.taken + product → letters_allowed old < letters_of old * weight_of sections
  letters_past above =
      omega (arith, above_cap (letters_of old * weight_of sections) (2 ^ 64 - 1) budget.most budget.taken (subst (λ (n : ℕ). budget.most < budget.taken + n) product_is above), most_is, taken_is)

  pub letters_within : budget.taken + product ≤ budget.most → letters_of old * weight_of sections ≤ letters_allowed old
  letters_within fits =
      let exact : min (letters_of old * weight_of sections) (2 ^ 64 - 1) ≡ letters_of old * weight_of sections =
      fits_below (letters_of old * weight_of sections) (2 ^ 64 - 1) budget.most budget.taken (subst (λ (n : ℕ). budget.taken + n ≤ budget.most) product_is fits) (omega (arith, small, most_is)) in
      omega (arith, fits, product_is, exact, most_is, taken_is)

module _ (sections : List PlainSection) (weight : ℕ) (budget : BudgetState) (is : budget ≡ fresh Patterns 0) (weighed : weight ≡ min (weight_of sections) (2 ^ 64 - 1)) where
  weight_most : budget.most ≡ weight_allowed
  weight_most = ap (λ (b : BudgetState). b.most) is

  weight_taken : budget.taken ≡ 0
  weight_taken = ap (λ (b : BudgetState). b.taken) is

  pub weight_past : budget.most < budget.taken + weight → weight_allowed < weight_of sections
  weight_past above =
      omega (arith, above_cap (weight_of sections) (2 ^ 64 - 1) budget.most budget.taken (subst (λ (n : ℕ). budget.most < budget.taken + n) weighed above), weight_most, weight_taken)

  pub weight_within : budget.taken + weight ≤ budget.most → weight_of sections ≤ weight_allowed
  weight_within fits =
      let exact : min (weight_of sections) (2 ^ 64 - 1) ≡ weight_of sections =
      fits_below (weight_of sections) (2 ^ 64 - 1) budget.most budget.taken (subst (λ (n : ℕ). budget.taken + n ≤ budget.most) weighed fits) (omega (arith, weight_most)) in
      omega (arith, fits, weighed, exact, weight_most, weight_taken)
