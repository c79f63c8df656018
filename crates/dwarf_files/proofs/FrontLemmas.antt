-- The first fields of a header with more bytes after the section.
use Rattle.std.proofs.Common.{◌≡◌, ℕ, zero, suc, ◌+◌, ◌≤◌, true, List, [], ◌∷◌, ◌++◌, length, take, drop, Some, ap, arith}
use Rattle.std.specs.Prelude.{slice_get, ◌&&◌, nat_lt, nat_le}
use Rattle.std.proofs.lemmas.Bool.{le-leb, leb-true}
use Rattle.std.proofs.lemmas.List.{length-append, length-drop, drop-append-le, take-append-le}
use Rattle.std.proofs.lemmas.Option.{same_Some}
use Rattle.abi_base.proofs.lemmas.Bools.{and_is_true}
use Rattle.abi_base.specs.Numbers.{number, number_at}
use Rattle.abi_base.proofs.lemmas.Cases.{option_cases, bool_cases}
use Rattle.abi_base.proofs.lemmas.Numbers.{number_inside}
use Rattle.dwarf_files.specs.declared.heads.Head.{Head}
use Rattle.dwarf_files.specs.Heads.{unit_end_of, length_place_of, lengths_of, head_of}

element_front : (xs ys : List ℕ) (k x : ℕ) → slice_get xs k ≡ Some x → slice_get (xs ++ ys) k ≡ Some x
element_front [] ys k x h = absurd cc
element_front (y ∷ xs) ys zero x h = h
element_front (y ∷ xs) ys (suc k) x h = element_front xs ys k x h

number_front : (n : ℕ) (xs ys : List ℕ) (at x : ℕ) → number_at n xs at ≡ Some x → number_at n (xs ++ ys) at ≡ Some x
unfolding number
number_front n xs ys at x h =
    let inside = number_inside n xs at x h in
    let fits : nat_le (at + n) (length xs) ≡ true = le-leb (at + n) (length xs) inside in
    let still : nat_le (at + n) (length (xs ++ ys)) ≡ true = le-leb (at + n) (length (xs ++ ys)) (omega (arith, length-append xs ys, inside)) in
    let from : drop at (xs ++ ys) ≡ drop at xs ++ ys = drop-append-le at xs ys (omega (arith, inside)) in
    let front : take n (drop at xs ++ ys) ≡ take n (drop at xs) = take-append-le n (drop at xs) ys (omega (arith, inside, length-drop at xs)) in
    rw (still, from, front) (rw fits at h)

module _ (line others : List ℕ) where
  unit_end_front : (at end : ℕ) → unit_end_of line at ≡ Some end → (end ≤ length line) × (unit_end_of (line ++ others) at ≡ Some end)
  unit_end_front at end h =
      option_cases (number_at 4 line at) (λ no. absurd (let g = rw no at h in cc)) (λ size is.
      let h1 = rw is at h in
      bool_cases (nat_lt size 0xffff_fff0 && nat_le (at + 4 + size) (length line))
      (λ holds.
      let same : at + 4 + size ≡ end = same_Some (at + 4 + size) end (rw holds at h1) in
      let parts = and_is_true (nat_lt size 0xffff_fff0) (nat_le (at + 4 + size) (length line)) holds in
      let inside = leb-true (at + 4 + size) (length line) parts.1 in
      let still : nat_le (at + 4 + size) (length (line ++ others)) ≡ true = le-leb (at + 4 + size) (length (line ++ others)) (omega (arith, length-append line others, inside)) in
      (omega (arith, inside, same), rw (number_front 4 line others at size is, parts.0, still) (ap (λ (n : ℕ). Some n) same)))
      (λ fails. absurd (let g = rw fails at h1 in cc)))

  lengths_front : (place end : ℕ) (lengths : ℕ × ℕ) → lengths_of line place end ≡ Some lengths → (lengths.1 ≤ end) × (lengths_of (line ++ others) place end ≡ Some lengths)
  lengths_front place end lengths h =
      option_cases (number_at 4 line place) (λ no. absurd (let g = rw no at h in cc)) (λ size is.
      let h1 = rw is at h in
      option_cases (slice_get line (place + 9)) (λ no. absurd (let g = rw no at h1 in cc)) (λ base so.
      let h2 = rw so at h1 in
      bool_cases (nat_lt 0 base && (nat_le (place + 9 + base) (place + 4 + size) && nat_le (place + 4 + size) end))
      (λ holds.
      let same : place + 4 + size ≡ lengths.1 = ap (λ (p : ℕ × ℕ). p.1) (same_Some (place + 9 + base, place + 4 + size) lengths (rw holds at h2)) in
      let parts = and_is_true (nat_lt 0 base) (nat_le (place + 9 + base) (place + 4 + size) && nat_le (place + 4 + size) end) holds in
      let inner = and_is_true (nat_le (place + 9 + base) (place + 4 + size)) (nat_le (place + 4 + size) end) parts.1 in
      let inside = leb-true (place + 4 + size) end inner.1 in
      (omega (arith, inside, same), rw (number_front 4 line others place size is, element_front line others (place + 9) base so) h2))
      (λ fails. absurd (let g = rw fails at h2 in cc))))

  pub head_front : (at : ℕ) (head : Head) → head_of line at ≡ Some head → (head.end ≤ length line) × (head_of (line ++ others) at ≡ Some head)
  unfolding head_of
  head_front at head h =
      option_cases (unit_end_of line at) (λ no. absurd (let g = rw no at h in cc)) (λ end ia.
      let unit = unit_end_front at end ia in
      let h1 = rw ia at h in
      option_cases (number_at 2 line (at + 4)) (λ no. absurd (let g = rw no at h1 in cc)) (λ version ib.
      let h2 = rw ib at h1 in
      option_cases (length_place_of version at) (λ no. absurd (let g = rw no at h2 in cc)) (λ place ic.
      let h3 = rw ic at h2 in
      option_cases (lengths_of line place end) (λ no. absurd (let g = rw no at h3 in cc)) (λ lengths id.
      let h4 = rw id at h3 in
      let front = lengths_front place end lengths id in
      let made : Head = record { version = version; tables = lengths.0; end = lengths.1 } in
      let ends : lengths.1 ≡ head.end = ap (λ (x : Head). x.end) (same_Some made head h4) in
      (omega (arith, unit.0, front.0, ends), rw (unit.1, number_front 2 line others (at + 4) version ib, ic, front.1) h4)))))
