-- Items of a list, in a loop that goes over them.
use Rattle.std.proofs.Common.{◌≡◌, ℕ, suc, ◌+◌, ◌-◌, ◌<◌, ◌≤◌, Bool, true, false, List, [], ◌∷◌, ◌++◌, length, take, drop, Option, Some, None, Ok, Err, refl, sym, ap, ◌∙◌, append_assoc, arith}
use Rattle.std.specs.Prelude.{position}
use Rattle.std.specs.Option.{option_map}
use Rattle.std.proofs.lemmas.List.{append-nil, length-take, length-drop}
use Rattle.std.proofs.lemmas.List.Quantifiers.{position-Some}
use Rattle.std.proofs.lemmas.Option.{same_Some}
use Rattle.abi_base.specs.Runs.{Run, run, put_front, ended}
use Rattle.abi_base.specs.Numbers.{text_at, is_zero}
use Rattle.abi_base.specs.Leb.{uleb_at}
use Rattle.abi_base.proofs.lemmas.Cases.{option_cases, result_cases, same_Ok}
use Rattle.abi_base.proofs.lemmas.Leb.{uleb_inside}
use Rattle.abi_base.proofs.lemmas.Runs.{Falls, run_more, run_end}
use Rattle.dwarf_forms.specs.declared.values.Value.TheVariants as value
use Rattle.dwarf_files.specs.declared.entries.Entry.{Entry}
use Rattle.dwarf_files.specs.Lists.{step_of, run_of, if_whole, list_of, named, directory_step, file_step}
use Rattle.dwarf_files.proofs.ItemLemmas.{before}

-- how many bytes of a header remain from a place on
abbrev pub left_of : List ℕ → ℕ → ℕ
left_of bytes at = length bytes - at

text_inside : (bytes : List ℕ) (at : ℕ) (text : List ℕ) → text_at bytes at ≡ Some text → at + length text < length bytes
unfolding text_at
text_inside bytes at text h = cases (position is_zero (drop at bytes)) refl h
  where
    cases : (o : Option ℕ) → position is_zero (drop at bytes) ≡ o → option_map (λ len. take len (drop at bytes)) o ≡ Some text → at + length text < length bytes
    cases None is e = absurd cc
    cases (Some k) is e =
        let lt = (position-Some is_zero (drop at bytes) k 0 is).0 in
        let same : take k (drop at bytes) ≡ text = same_Some (take k (drop at bytes)) text e in
        omega (arith, lt, ap length same, length-take k (drop at bytes), length-drop at bytes)

directory_after : (bytes : List ℕ) (at : ℕ) (r : Entry × ℕ) → directory_step bytes at ≡ Ok r → (at < r.1) × (r.1 ≤ length bytes)
unfolding directory_step
directory_after bytes at r h =
    option_cases (text_at bytes at) (λ is. absurd (let e = rw is at h in cc)) (λ text is. after text is (rw is at h))
  where
    after : (text : List ℕ) → text_at bytes at ≡ Some text → named at text ≡ Ok r → (at < r.1) × (r.1 ≤ length bytes)
    after [] is e = absurd cc
    after (b ∷ others) is e =
        let inside = text_inside bytes at (b ∷ others) is in
        let made : Entry = record { path = Some (value.Inline at); directory = None } in
        let next : at + length (b ∷ others) + 1 ≡ r.1 = ap (λ (p : Entry × ℕ). p.1) (same_Ok (made, at + length (b ∷ others) + 1) r e) in
        (omega (arith, next), omega (arith, next, inside))

file_after : (bytes : List ℕ) (at : ℕ) (x : Entry) (next : ℕ) → file_step bytes at ≡ Ok (x, next) → left_of bytes next < left_of bytes at
unfolding file_step
file_after bytes at x next h =
    result_cases (directory_step bytes at) (λ name is.
    let first = directory_after bytes at name is in
    let h1 = rw is at h in
    option_cases (uleb_at bytes name.1) (λ no. absurd (let e = rw no at h1 in cc)) (λ directory ia.
    let h2 = rw ia at h1 in
    option_cases (uleb_at bytes directory.1) (λ no. absurd (let e = rw no at h2 in cc)) (λ time ib.
    let h3 = rw ib at h2 in
    option_cases (uleb_at bytes time.1) (λ no. absurd (let e = rw no at h3 in cc)) (λ size ic.
    let made : Entry = record { path = name.0.path; directory = Some (value.Unsigned directory.0) } in
    let last : size.1 ≡ next = ap (λ (p : Entry × ℕ). p.1) (same_Ok (made, size.1) (x, next) (rw ic at h3)) in
    let a = uleb_inside bytes name.1 directory ia in
    let b = uleb_inside bytes directory.1 time ib in
    let d = uleb_inside bytes time.1 size ic in
    omega (arith, first.0, first.1, a.0, b.0, d.0, d.1, last)))))
    (λ e is. absurd (let g = rw is at h in cc))

step_after : (files : Bool) (bytes : List ℕ) (at : ℕ) (x : Entry) (next : ℕ) → step_of files bytes at ≡ Ok (x, next) → left_of bytes next < left_of bytes at
step_after true bytes at x next h = let r = file_after bytes at x next h in omega (arith, r)
step_after false bytes at x next h = let r = directory_after bytes at (x, next) h in omega (arith, r.0, r.1)

pub step_falls : (files : Bool) (bytes : List ℕ) → Falls (step_of files bytes) (left_of bytes)
step_falls files bytes = record { falls = step_after files bytes }

whole_more : (front : List Entry) (x : Entry) (r : Run Entry (Option ℕ)) → before front (if_whole (put_front x r)) ≡ before (front ++ x ∷ []) (if_whole r)
whole_more front x r = cases r.end
  where
    cases : (end : Option ℕ) → before front (option_map (λ after. (x ∷ r.items, after)) end) ≡ before (front ++ x ∷ []) (option_map (λ after. (r.items, after)) end)
    cases None = refl
    cases (Some after) = ap (λ (xs : List Entry). let all : Option (List Entry × ℕ) = Some (xs, after) in all) (sym (append_assoc front (x ∷ []) r.items))

pub list_more : (files : Bool) (bytes : List ℕ) (at next : ℕ) (x : Entry) (front : List Entry) (whole : Option (List Entry × ℕ)) → step_of files bytes at ≡ Ok (x, next)
    → before front (list_of files bytes at) ≡ whole → before (front ++ x ∷ []) (list_of files bytes next) ≡ whole
unfolding run_of
list_more files bytes at next x front whole is so_far =
    let few : left_of bytes at ≤ length bytes = omega arith in
    let more = run_more (step_of files bytes) None (left_of bytes) (length bytes) at x next (step_falls files bytes) few is in
    sym (whole_more front x (run (step_of files bytes) None (suc (length bytes)) next))
    ∙ ap (λ (r : Run Entry (Option ℕ)). before front (if_whole r)) (sym more) ∙ so_far

pub list_end : (files : Bool) (bytes : List ℕ) (at : ℕ) (end : Option ℕ) (front : List Entry) (whole : Option (List Entry × ℕ)) → step_of files bytes at ≡ Err end
    → before front (list_of files bytes at) ≡ whole → option_map (λ after. (front, after)) end ≡ whole
unfolding run_of
list_end files bytes at end front whole is so_far = last end ∙ ap (λ (r : Run Entry (Option ℕ)). before front (if_whole r)) (sym (run_end (step_of files bytes) None (length bytes) at end is)) ∙ so_far
  where
    last : (end : Option ℕ) → option_map (λ after. (front, after)) end ≡ before front (if_whole (ended end))
    last None = refl
    last (Some after) = ap (λ (xs : List Entry). let all : Option (List Entry × ℕ) = Some (xs, after) in all) (sym (append-nil front))
