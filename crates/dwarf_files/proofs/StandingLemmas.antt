-- The entries of a table follow one another.
use Rattle.std.proofs.Common.{◌≡◌, ℕ, zero, suc, ◌-◌, Bool, List, [], ◌∷◌, length, Option, Some, None, refl, ap, arith}
use Rattle.std.proofs.lemmas.Option.{same_Some}
use Rattle.abi_base.proofs.lemmas.Cases.{option_cases}
use Rattle.abi_base.proofs.lemmas.Runs.{run_chain}
use Rattle.abi_base.specs.Runs.{Chain}
use Rattle.dwarf_files.specs.Lists.{step_of, run_of}
use Rattle.dwarf_files.specs.Standing.{StandsFrom}
use Rattle.dwarf_files.specs.Tables.{items}
use Rattle.dwarf_files.proofs.ListLemmas.{step_falls}

pub items_stand : {A : Type 0} (read : ℕ → Option (A × ℕ)) (n at : ℕ) (xs : List A) (end : ℕ) → items read n at ≡ Some (xs, end) → (length xs ≡ n) × StandsFrom read at xs end
unfolding items
items_stand {A = A} read zero at xs end h =
    let same : ([], at) ≡ (xs, end) = same_Some {A = List A × ℕ} ([], at) (xs, end) h in
    let none : [] ≡ xs = ap (λ (p : List A × ℕ). p.0) same in
    let here : at ≡ end = ap (λ (p : List A × ℕ). p.1) same in
    rw (← none) (refl, here)
items_stand {A = A} read (suc n) at xs end h =
    option_cases (read at) (λ no. absurd (let g = rw no at h in cc)) (λ first is.
    let h1 = rw is at h in
    option_cases (items read n first.1) (λ no. absurd (let g = rw no at h1 in cc)) (λ others so.
    let same : (first.0 ∷ others.0, others.1) ≡ (xs, end) = same_Some {A = List A × ℕ} (first.0 ∷ others.0, others.1) (xs, end) (rw so at h1) in
    let list : first.0 ∷ others.0 ≡ xs = ap (λ (p : List A × ℕ). p.0) same in
    let last : others.1 ≡ end = ap (λ (p : List A × ℕ). p.1) same in
    let inner = items_stand read n first.1 others.0 others.1 so in
    rw (← list, ← last) (ap suc inner.0, (first.1, is, inner.1))))

pub stand_items : {A : Type 0} (read : ℕ → Option (A × ℕ)) (at : ℕ) (xs : List A) (end : ℕ) → StandsFrom read at xs end → items read (length xs) at ≡ Some (xs, end)
unfolding items
stand_items {A = A} read at [] end h = ap (λ (n : ℕ). let r : Option (List A × ℕ) = Some ([], n) in r) h
stand_items read at (x ∷ xs) end h = rw (h.1, stand_items read h.0 xs end h.2) refl

pub list_stands : (files : Bool) (bytes : List ℕ) (at : ℕ) → Chain (step_of files bytes) at (run_of files bytes at).items (run_of files bytes at).end
unfolding run_of
list_stands files bytes at = run_chain (step_of files bytes) None (λ place. length bytes - place) (suc (length bytes)) at (step_falls files bytes) (omega arith)
