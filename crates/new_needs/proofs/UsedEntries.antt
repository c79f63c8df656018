-- The entries of a dynamic table before its end, and the names that they have, one after another.
use Rattle.std.proofs.Common.{◌≡◌, ℕ, ◌+◌, ◌-◌, ◌<◌, ◌≤◌, Bool, true, false, List, [], ◌∷◌, ◌++◌, length, map, Option, Some, None, refl, sym, ◌∙◌, ap, arith}
use Rattle.std.specs.Prelude.{take_while, filter_map, option_to_list}
use Rattle.std.specs.List.{range_with_len}
use Rattle.std.proofs.lemmas.List.{append-nil, append_assoc}
use Rattle.std.proofs.lemmas.List.Elements.{filter_map-append}
use Rattle.std.proofs.lemmas.List.FromFn.{length-range_with_len}
use Rattle.std.proofs.lemmas.List.Sums.{take_while-cons}
use Rattle.abi_base.proofs.lemmas.Outcomes.{first_from, first_from-step, first_from-here, whole_none}
use Rattle.abi_base.proofs.lemmas.Places.{places, places_more, places_none}
use Rattle.abi_base.proofs.lemmas.Ranges.{below_more}
use Rattle.abi_base.specs.declared.fault.Fault.{Fault}
use Rattle.abi_base.specs.Outcome.{first}
use Rattle.new_needs.specs.NeededFiles.{needed_name, needed_name_fault}

-- ---- the entries before the first one that ends the table

-- the numbers below i, and then those from i on before the first one without q
abbrev pub split_at : (ℕ → Bool) → ℕ → ℕ → List ℕ
split_at q i n = range_with_len 0 i ++ take_while q (places i n)

pub split_none : (q : ℕ → Bool) (n : ℕ) → split_at q 0 n ≡ take_while q (range_with_len 0 n)
split_none q n =
    let e : n - 0 ≡ n = omega arith in
    rw e refl

pub split_more : (q : ℕ → Bool) (i n : ℕ) → i < n → q i ≡ true → split_at q (i + 1) n ≡ split_at q i n
split_more q i n lt goes =
    let rest : List ℕ = take_while q (places (i + 1) n) in
    let here : take_while q (places i n) ≡ i ∷ rest = rw (places_more i n lt, take_while-cons, goes) refl in
    ap (λ (l : List ℕ). l ++ rest) (below_more i) ∙ append_assoc (range_with_len 0 i) (i ∷ []) rest ∙ sym (ap (λ (l : List ℕ). range_with_len 0 i ++ l) here)

pub split_stop : (q : ℕ → Bool) (i n : ℕ) → i < n → q i ≡ false → range_with_len 0 i ≡ split_at q i n
split_stop q i n lt ends =
    let here : take_while q (places i n) ≡ [] = rw (places_more i n lt, take_while-cons, ends) refl in
    sym (ap (λ (l : List ℕ). range_with_len 0 i ++ l) here ∙ append-nil (range_with_len 0 i))

pub split_end : (q : ℕ → Bool) (i n : ℕ) → n ≤ i → range_with_len 0 i ≡ split_at q i n
split_end q i n le =
    let here : take_while q (places i n) ≡ [] = rw (places_none i n le) refl in
    sym (ap (λ (l : List ℕ). range_with_len 0 i ++ l) here ∙ append-nil (range_with_len 0 i))

-- ---- the names of the first entries

-- The names of the first entries were kept, and none of these has a fault.
pub record NamesBefore (table strings : List ℕ) (count number : ℕ) (names : List (List ℕ)) : Type 0 where
  pub read : names ≡ filter_map (needed_name table strings) (range_with_len 0 number)
  pub judged : first_from (needed_name_fault table strings) number count ≡ first (map (needed_name_fault table strings) (range_with_len 0 count))

name_alone : (f : ℕ → Option (List ℕ)) (x : ℕ) (o : Option (List ℕ)) → f x ≡ o → filter_map f (x ∷ []) ≡ option_to_list o
name_alone f x None is = rw is refl
name_alone f x (Some name) is = rw is refl

module _ (table strings : List ℕ) (count : ℕ) where
  pub names_none : (names : List (List ℕ)) → names ≡ [] → NamesBefore table strings count 0 names
  names_none names is =
      let all : count - 0 ≡ count = omega arith in
      record { read = is; judged = rw all refl }

  pub names_more : (number : ℕ) (before more : List (List ℕ)) (name : Option (List ℕ)) → NamesBefore table strings count number before → number < count
      → needed_name_fault table strings number ≡ None → name ≡ needed_name table strings number → more ≡ before ++ option_to_list name → NamesBefore table strings count (number + 1) more
  names_more number before more name so_far lt none is grown =
      let f : ℕ → Option (List ℕ) = needed_name table strings in
      record {
        read =
            grown ∙ ap (λ (l : List (List ℕ)). l ++ option_to_list name) so_far.read
            ∙ sym (ap (filter_map f) (below_more number) ∙ filter_map-append f (range_with_len 0 number) (number ∷ [])
            ∙ ap (λ (l : List (List ℕ)). filter_map f (range_with_len 0 number) ++ l) (name_alone f number name (sym is)));
        judged = sym (first_from-step (needed_name_fault table strings) number count lt none) ∙ so_far.judged;
      }

  -- the fault of an entry is the first one
  pub names_refused : (number : ℕ) (names : List (List ℕ)) (fault : Fault) (used : List ℕ) → NamesBefore table strings count number names → number < count
      → needed_name_fault table strings number ≡ Some fault → range_with_len 0 count ≡ used → first (map (needed_name_fault table strings) used) ≡ Some fault
  names_refused number names fault used so_far lt bad are =
      ap (λ (l : List ℕ). first (map (needed_name_fault table strings) l)) (sym are)
      ∙ sym so_far.judged ∙ first_from-here (needed_name_fault table strings) number count fault lt bad

  -- all entries were read
  pub names_judged : (number : ℕ) (names : List (List ℕ)) (used : List ℕ) → NamesBefore table strings count number names → count ≤ number
      → range_with_len 0 count ≡ used → first (map (needed_name_fault table strings) used) ≡ None
  names_judged number names used so_far le are =
      ap (λ (l : List ℕ). first (map (needed_name_fault table strings) l)) (sym are)
      ∙ whole_none (needed_name_fault table strings) number count (first (map (needed_name_fault table strings) (range_with_len 0 count))) le so_far.judged

  pub names_read : (number : ℕ) (names : List (List ℕ)) (used : List ℕ) → NamesBefore table strings count number names → number ≡ count
      → range_with_len 0 count ≡ used → names ≡ filter_map (needed_name table strings) used
  names_read number names used so_far whole are =
      so_far.read ∙ ap (λ n. filter_map (needed_name table strings) (range_with_len 0 n)) whole ∙ ap (filter_map (needed_name table strings)) are

pub used_count : (count : ℕ) (used : List ℕ) → range_with_len 0 count ≡ used → count ≡ length used
used_count count used are = sym (length-range_with_len 0 count) ∙ ap length are
