-- Classes and flags, place by place.
use Rattle.std.proofs.Common.{◌≡◌, ℕ, ◌+◌, ◌*◌, Bool, true, false, cond, List, [], ◌∷◌, drop, Option, Some, refl, sym, ◌∙◌, ap}
use Rattle.std.specs.Prelude.{◌||◌, if◌then◌else◌, count_by, position}
use Rattle.std.specs.Option.{option_map_or}
use Rattle.std.specs.List.{range_with_len, list_any}
use Rattle.std.proofs.lemmas.List.Folds.{list_any-append}
use Rattle.std.proofs.lemmas.List.Sums.{sum_by_push}
use Rattle.abi_base.proofs.lemmas.Bools.{or_false}
use Rattle.abi_base.proofs.lemmas.Ranges.{below_more}
use Rattle.suppression_text.specs.Classes.{class_count, classes_of, has_flags, value_classes}
use Rattle.suppression_text.specs.Lines.{is_equals}

pub count_more : (p : ℕ → Bool) (n : ℕ) → count_by p (range_with_len 0 (n + 1)) ≡ count_by p (range_with_len 0 n) + cond (p n) 1 0
count_more p n = ap (count_by p) (below_more n) ∙ sum_by_push (λ x. cond (p x) 1 0) (range_with_len 0 n) n

pub any_more : (p : ℕ → Bool) (n : ℕ) → list_any p (range_with_len 0 (n + 1)) ≡ (list_any p (range_with_len 0 n) || p n)
any_more p n =
    ap (λ (l : List ℕ). list_any p l) (below_more n) ∙ list_any-append p (range_with_len 0 n) (n ∷ [])
    ∙ ap (λ (b : Bool). list_any p (range_with_len 0 n) || b) (or_false (p n))

pub count_is : (p : ℕ → Bool) (n count more : ℕ) (here : Bool) → here ≡ p n → count ≡ count_by p (range_with_len 0 n) → more ≡ count + cond here 1 0 → more ≡ count_by p (range_with_len 0 (n + 1))
count_is p n count more here is so_far grown =
    grown ∙ ap (λ (b : Bool). count + cond b 1 0) is ∙ ap (λ (c : ℕ). c + cond (p n) 1 0) so_far ∙ sym (count_more p n)

pub any_is : (p : ℕ → Bool) (n : ℕ) (before here after : Bool) → before ≡ list_any p (range_with_len 0 n) → here ≡ p n → after ≡ (before || here) → after ≡ list_any p (range_with_len 0 (n + 1))
any_is p n before here after so_far is grown = grown ∙ rw (so_far, is) (sym (any_more p n))

-- the classes of a line with flags, by its value
pub flagged_are : (line value : List ℕ) (at count : ℕ) → Some at ≡ position is_equals line → value ≡ drop (at + 1) line → count ≡ class_count value → has_flags line ≡ true → count * 8 ≡ classes_of line
unfolding classes_of
flagged_are line value at count found is counted flagged =
    ap (λ (n : ℕ). n * 8) (counted ∙ ap class_count is)
    ∙ ap (λ (b : Bool). class_count (drop (at + 1) line) * (if b then 8 else 1)) (sym flagged)
    ∙ ap (λ (o : Option ℕ). option_map_or (λ (k : ℕ). value_classes line (drop (k + 1) line)) o 0) found
