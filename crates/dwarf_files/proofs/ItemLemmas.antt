-- Items one after another, in a loop that goes over them.
use Rattle.std.proofs.Common.{◌≡◌, ℕ, zero, suc, ◌-◌, ◌<◌, ◌≤◌, List, [], ◌∷◌, ◌++◌, Option, Some, None, refl, sym, ap, ◌∙◌, append_assoc, arith}
use Rattle.std.proofs.lemmas.List.{append-nil}
use Rattle.dwarf_files.specs.declared.entries.Entry.{Entry}
use Rattle.dwarf_files.specs.declared.formats.Pair.{Pair}
use Rattle.dwarf_files.specs.Steps.{◌>>=◌}
use Rattle.dwarf_files.specs.Tables.{items, entry_of, pair_of}

-- what was read, and what remains
abbrev pub before : {A : Type 0} → List A → Option (List A × ℕ) → Option (List A × ℕ)
before front None = None
before front (Some r) = Some (front ++ r.0, r.1)

pub items_suc : {A : Type 0} (read : ℕ → Option (A × ℕ)) (n at : ℕ) (x : A) (after : ℕ) → read at ≡ Some (x, after)
    → items read (suc n) at ≡ (items read n after >>= λ others. Some (x ∷ others.0, others.1))
unfolding items
items_suc read n at x after is = rw is refl

pub items_none : {A : Type 0} (read : ℕ → Option (A × ℕ)) (n at : ℕ) → read at ≡ None → items read (suc n) at ≡ None
unfolding items
items_none read n at is = rw is refl

pub items_zero : {A : Type 0} (read : ℕ → Option (A × ℕ)) (at : ℕ) → items read zero at ≡ Some ([], at)
unfolding items
items_zero read at = refl

regrouped : {A : Type 0} (front : List A) (x : A) (r : Option (List A × ℕ)) → before front (r >>= λ others. Some (x ∷ others.0, others.1)) ≡ before (front ++ x ∷ []) r
regrouped front x None = refl
regrouped {A = A} front x (Some r) = ap (λ (ys : List A). Some (ys, r.1)) (sym (append_assoc front (x ∷ []) r.0))

module _ {A : Type 0} (read : ℕ → Option (A × ℕ)) (left at : ℕ) (front : List A) (whole : Option (List A × ℕ)) where
  more : (x : A) (after : ℕ) → 0 < left → read at ≡ Some (x, after) → before front (items read left at) ≡ whole → before (front ++ x ∷ []) (items read (left - 1) after) ≡ whole
  more x after some is so_far =
      let n : left ≡ suc (left - 1) = omega arith in
      sym (regrouped front x (items read (left - 1) after)) ∙ ap (before front) (sym (ap (λ (k : ℕ). items read k at) n ∙ items_suc read (left - 1) at x after is)) ∙ so_far

  cut : 0 < left → read at ≡ None → before front (items read left at) ≡ whole → None ≡ whole
  cut some is so_far =
      let n : left ≡ suc (left - 1) = omega arith in
      ap (before front) (sym (ap (λ (k : ℕ). items read k at) n ∙ items_none read (left - 1) at is)) ∙ so_far

  done : left ≤ 0 → before front (items read left at) ≡ whole → Some (front, at) ≡ whole
  done none so_far =
      let n : left ≡ 0 = omega arith in
      let e : before front (items read left at) ≡ Some (front, at) = rw (n, items_zero read at) (ap (λ (ys : List A). let all : Option (List A × ℕ) = Some (ys, at) in all) (append-nil front)) in
      sym e ∙ so_far

-- ---- pairs of a format

pub pairs_more : (bytes : List ℕ) (left at : ℕ) (x : Pair) (after : ℕ) (front : List Pair) (whole : Option (List Pair × ℕ)) → 0 < left → pair_of bytes at ≡ Some (x, after)
    → before front (items (pair_of bytes) left at) ≡ whole → before (front ++ x ∷ []) (items (pair_of bytes) (left - 1) after) ≡ whole
pairs_more bytes left at x after front whole = more (pair_of bytes) left at front whole x after

pub pairs_cut : (bytes : List ℕ) (left at : ℕ) (front : List Pair) (whole : Option (List Pair × ℕ)) → 0 < left → pair_of bytes at ≡ None
    → before front (items (pair_of bytes) left at) ≡ whole → None ≡ whole
pairs_cut bytes = cut (pair_of bytes)

pub pairs_done : (bytes : List ℕ) (left at : ℕ) (front : List Pair) (whole : Option (List Pair × ℕ)) → left ≤ 0
    → before front (items (pair_of bytes) left at) ≡ whole → Some (front, at) ≡ whole
pairs_done bytes = done (pair_of bytes)

-- ---- entries of a table

pub entries_more : (bytes : List ℕ) (format : List Pair) (left at : ℕ) (x : Entry) (after : ℕ) (front : List Entry) (whole : Option (List Entry × ℕ)) → 0 < left → entry_of bytes format at ≡ Some (x, after)
    → before front (items (entry_of bytes format) left at) ≡ whole → before (front ++ x ∷ []) (items (entry_of bytes format) (left - 1) after) ≡ whole
entries_more bytes format left at x after front whole = more (entry_of bytes format) left at front whole x after

pub entries_cut : (bytes : List ℕ) (format : List Pair) (left at : ℕ) (front : List Entry) (whole : Option (List Entry × ℕ)) → 0 < left → entry_of bytes format at ≡ None
    → before front (items (entry_of bytes format) left at) ≡ whole → None ≡ whole
entries_cut bytes format = cut (entry_of bytes format)

pub entries_done : (bytes : List ℕ) (format : List Pair) (left at : ℕ) (front : List Entry) (whole : Option (List Entry × ℕ)) → left ≤ 0
    → before front (items (entry_of bytes format) left at) ≡ whole → Some (front, at) ≡ whole
entries_done bytes format = done (entry_of bytes format)
