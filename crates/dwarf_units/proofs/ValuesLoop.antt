-- Loops over the attributes of an abbreviation.
use Rattle.std.proofs.Common.{◌≡◌, ℕ, ◌+◌, ◌<◌, ◌≤◌, List, [], ◌∷◌, ◌++◌, length, drop, get_or, Result, Ok, Err, refl, sym, ap, ◌∙◌, append_assoc}
use Rattle.std.proofs.lemmas.List.{drop_more, drop_all, append-nil}
use Rattle.abi_base.proofs.lemmas.Cases.{result_cases, same_Ok, same_Err}
use Rattle.abi_base.specs.declared.fault.Fault.{Fault}
use Rattle.dwarf_forms.specs.declared.abbreviations.abbrev.Spec.{Spec}
use Rattle.dwarf_forms.specs.declared.values.Value.{Value}
use Rattle.abi_base.specs.Outcome.{◌>>=◌}
use Rattle.dwarf_forms.specs.Values.{value_at, place_after}
use Rattle.dwarf_units.specs.Units.{PlainUnit, values_at}

abbrev pub values_before : List (ℕ × Value) → Result (List (ℕ × Value) × ℕ) Fault → Result (List (ℕ × Value) × ℕ) Fault
values_before front (Ok r) = Ok (front ++ r.0, r.1)
values_before front (Err f) = Err f

regrouped : (front : List (ℕ × Value)) (x : ℕ × Value) (r : Result (List (ℕ × Value) × ℕ) Fault) → values_before front (r >>= λ others. Ok (x ∷ others.0, others.1)) ≡ values_before (front ++ x ∷ []) r
regrouped front x (Ok r) = ap (λ (ys : List (ℕ × Value)). Ok (ys, r.1)) (sym (append_assoc front (x ∷ []) r.0))
regrouped front x (Err f) = refl

pub values_more : (u : PlainUnit) (entry : ℕ) (specs : List Spec) (i : ℕ) (d : Spec) (at : ℕ) (v : Value) (after : ℕ) (front : List (ℕ × Value)) (whole : Result (List (ℕ × Value) × ℕ) Fault)
    → i < length specs → value_at (get_or specs i d).form (get_or specs i d).implicit u.offset u.end entry u.info at ≡ Ok (v, after)
    → values_before front (values_at u entry (drop i specs) at) ≡ whole → values_before (front ++ ((get_or specs i d).attribute, v) ∷ []) (values_at u entry (drop (i + 1) specs) after) ≡ whole
unfolding values_at
values_more u entry specs i d at v after front whole lt h so_far =
    let more = drop_more specs i d lt in
    let e : values_at u entry (drop i specs) at ≡ (values_at u entry (drop (i + 1) specs) after >>= λ others. Ok (((get_or specs i d).attribute, v) ∷ others.0, others.1)) = rw (more, h) refl in
    sym (regrouped front ((get_or specs i d).attribute, v) (values_at u entry (drop (i + 1) specs) after)) ∙ ap (values_before front) (sym e) ∙ so_far

pub values_fault : (u : PlainUnit) (entry : ℕ) (specs : List Spec) (i : ℕ) (d : Spec) (at : ℕ) (f : Fault) (front : List (ℕ × Value)) (whole : Result (List (ℕ × Value) × ℕ) Fault)
    → i < length specs → value_at (get_or specs i d).form (get_or specs i d).implicit u.offset u.end entry u.info at ≡ Err f
    → values_before front (values_at u entry (drop i specs) at) ≡ whole → whole ≡ Err f
unfolding values_at
values_fault u entry specs i d at f front whole lt h so_far =
    let more = drop_more specs i d lt in
    let e : values_before front (values_at u entry (drop i specs) at) ≡ Err f = rw (more, h) refl in
    sym so_far ∙ e

pub values_end : (u : PlainUnit) (entry : ℕ) (specs : List Spec) (i at : ℕ) (front : List (ℕ × Value)) (whole : Result (List (ℕ × Value) × ℕ) Fault)
    → length specs ≤ i → values_before front (values_at u entry (drop i specs) at) ≡ whole → whole ≡ Ok (front, at)
unfolding values_at
values_end u entry specs i at front whole le so_far =
    let none = drop_all i specs le in
    let e : values_before front (values_at u entry (drop i specs) at) ≡ Ok (front, at) = rw none (ap (λ (ys : List (ℕ × Value)). Ok (ys, at)) (append-nil front)) in
    sym so_far ∙ e

-- ---- a loop that skips them

passed_front : (x : ℕ × Value) (r : Result (List (ℕ × Value) × ℕ) Fault) → place_after (r >>= λ others. Ok (x ∷ others.0, others.1)) ≡ place_after r
passed_front x (Ok r) = refl
passed_front x (Err f) = refl

pub passed_more : (u : PlainUnit) (entry : ℕ) (specs : List Spec) (i : ℕ) (d : Spec) (at after : ℕ) (whole : Result ℕ Fault)
    → i < length specs → place_after (value_at (get_or specs i d).form (get_or specs i d).implicit u.offset u.end entry u.info at) ≡ Ok after
    → place_after (values_at u entry (drop i specs) at) ≡ whole → place_after (values_at u entry (drop (i + 1) specs) after) ≡ whole
unfolding values_at
passed_more u entry specs i d at after whole lt h so_far =
    let more = drop_more specs i d lt in
    result_cases (value_at (get_or specs i d).form (get_or specs i d).implicit u.offset u.end entry u.info at)
    (λ v is. let same : v.1 ≡ after = same_Ok v.1 after (rw is at h) in
    let x : ℕ × Value = ((get_or specs i d).attribute, v.0) in
    let e : values_at u entry (drop i specs) at ≡ (values_at u entry (drop (i + 1) specs) v.1 >>= λ others. Ok (x ∷ others.0, others.1)) = rw (more, is) refl in
    ap (λ (n : ℕ). place_after (values_at u entry (drop (i + 1) specs) n)) (sym same)
    ∙ sym (passed_front x (values_at u entry (drop (i + 1) specs) v.1)) ∙ ap place_after (sym e) ∙ so_far)
    (λ f is. absurd (let g = rw is at h in cc))

pub passed_fault : (u : PlainUnit) (entry : ℕ) (specs : List Spec) (i : ℕ) (d : Spec) (at : ℕ) (f : Fault) (whole : Result ℕ Fault)
    → i < length specs → place_after (value_at (get_or specs i d).form (get_or specs i d).implicit u.offset u.end entry u.info at) ≡ Err f
    → place_after (values_at u entry (drop i specs) at) ≡ whole → whole ≡ Err f
unfolding values_at
passed_fault u entry specs i d at f whole lt h so_far =
    let more = drop_more specs i d lt in
    result_cases (value_at (get_or specs i d).form (get_or specs i d).implicit u.offset u.end entry u.info at)
    (λ v is. absurd (let g = rw is at h in cc))
    (λ g is. let same : g ≡ f = same_Err g f (rw is at h) in
    let e : place_after (values_at u entry (drop i specs) at) ≡ Err g = rw (more, is) refl in
    sym so_far ∙ e ∙ ap (λ (x : Fault). Err x) same)

pub passed_all : (u : PlainUnit) (entry : ℕ) (specs : List Spec) (i at : ℕ) (whole : Result ℕ Fault)
    → length specs ≤ i → place_after (values_at u entry (drop i specs) at) ≡ whole → whole ≡ Ok at
unfolding values_at
passed_all u entry specs i at whole le so_far =
    let none = drop_all i specs le in
    let e : place_after (values_at u entry (drop i specs) at) ≡ Ok at = rw none refl in
    sym so_far ∙ e
