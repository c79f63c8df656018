-- The result of a search among the entries before the end.
use Rattle.std.proofs.Common.{◌≡◌, ℕ, ◌+◌, ◌/◌, ◌<◌, ◌≤◌, zero, suc, Bool, true, false, List, [], ◌∷◌, length, Option, Some, None, refl, arith, inl, inr}
use Rattle.std.specs.Prelude.{find, take_while, is_none, option_and_then}
use Rattle.std.specs.List.{range_with_len}
use Rattle.std.proofs.lemmas.List.Sums.{take_while-cons}
use Rattle.std.proofs.lemmas.Option.{none-some, same_Some}
use Rattle.std.proofs.lemmas.Bool.{cases_lt}
use Rattle.std.proofs.lemmas.Bool.Decides.{nat_tests}
use Rattle.abi_base.specs.declared.fault.FaultKind.TheVariants as kind
use Rattle.abi_base.specs.Outcome.{fault_if}
use Rattle.abi_base.proofs.lemmas.Outcomes.{fault_if-none}
use Rattle.elf.proofs.lemmas.Faults.{none_both}
use Rattle.std.specs.Option.{option_map_or}
use Rattle.elf.specs.file.Elf.{section_of_kind}
use Rattle.abi_base.specs.Elf.{sht_dynamic, dyn_size}
use Rattle.elf.specs.symbols.Tables.{is_table_bad}
use Rattle.elf.specs.symbols.Dynamic.{is_used, is_soname, soname_entry, soname_of, dynamic_fault, dynamic_table, dynamic_strings, text_of_entry, soname_fault, IsFirstSoname}

-- i is the first of the n places from a on with p, and each before it has q
record IsFirstWith (p q : ℕ → Bool) (a n i : ℕ) : Type 0 where
  pub from_here : a ≤ i
  pub inside : i < a + n
  pub passes : p i ≡ true
  pub fails_before : (j : ℕ) → a ≤ j → j < i → p j ≡ false
  pub goes_before : (j : ℕ) → a ≤ j → j < i → q j ≡ true

with_one_more : (p q : ℕ → Bool) (a n i : ℕ) (goes passes : Bool) → q a ≡ goes → p a ≡ passes → find p (take_while q (a ∷ range_with_len (a + 1) n)) ≡ Some i
    → (find p (take_while q (range_with_len (a + 1) n)) ≡ Some i → IsFirstWith p q (a + 1) n i) → IsFirstWith p q a (suc n) i
with_one_more p q a n i false passes ends is found later = absurd (none-some i (rw (take_while-cons q a (range_with_len (a + 1) n), ends) at found))
with_one_more p q a n i true true goes is found later =
    let here : Some a ≡ Some i = rw (take_while-cons q a (range_with_len (a + 1) n), goes, is) at found in
    let same : a ≡ i = same_Some a i here in
    record {
      from_here = omega arith;
      inside = omega arith;
      passes = rw same at is;
      fails_before = λ j le lt. absurd (omega arith);
      goes_before = λ j le lt. absurd (omega arith);
    }
with_one_more p q a n i true false goes is found later =
    let rest : IsFirstWith p q (a + 1) n i = later (rw (take_while-cons q a (range_with_len (a + 1) n), goes, is) at found) in
    record {
      from_here = omega arith;
      inside = omega arith;
      passes = rest.passes;
      fails_before = λ j le lt. elim (cases_lt a j) [ inl more ↦ rest.fails_before j (omega arith) lt | inr less ↦ let same : a ≡ j = omega arith in rw same at is ];
      goes_before = λ j le lt. elim (cases_lt a j) [ inl more ↦ rest.goes_before j (omega arith) lt | inr less ↦ let same : a ≡ j = omega arith in rw same at goes ];
    }

first_with : (p q : ℕ → Bool) (a n i : ℕ) → find p (take_while q (range_with_len a n)) ≡ Some i → IsFirstWith p q a n i
first_with p q a zero i found = absurd (none-some i found)
first_with p q a (suc n) i found = with_one_more p q a n i (q a) (p a) refl refl found (λ h. first_with p q (a + 1) n i h)

pub first_soname : (table : List ℕ) (i : ℕ) → soname_entry table ≡ Some i → IsFirstSoname table i
first_soname table i found =
    let it : IsFirstWith (is_soname table) (is_used table) 0 (length table / dyn_size) i = first_with _ _ 0 (length table / dyn_size) i found in
    record {
      inside = omega (arith, it.inside);
      tagged = grind (arith, nat_tests, it.passes);
      first_one = λ j lt. let no : is_soname table j ≡ false = it.fails_before j (omega arith) lt in grind (arith, nat_tests, no);
      before_end = λ j lt. let goes : is_used table j ≡ true = it.goes_before j (omega arith) lt in grind (arith, nat_tests, goes);
    }

-- ---- without a fault

no_entry : (table strings : List ℕ) (o : Option ℕ) → option_and_then (soname_fault table strings) o ≡ None → option_and_then (text_of_entry table strings) o ≡ None → o ≡ None
unfolding soname_fault
no_entry table strings None free none = refl
no_entry table strings (Some i) free none =
    let some : is_none (text_of_entry table strings i) ≡ false = fault_if-none _ kind.DynamicTable i free in
    let wrong : true ≡ false = rw none at some in absurd cc

pub missing : (f : List ℕ) → dynamic_fault f ≡ None → soname_of f ≡ None → soname_entry (dynamic_table f) ≡ None
unfolding dynamic_fault soname_of
missing f free none =
    let bad = fault_if (option_map_or (is_table_bad dyn_size f) (section_of_kind f sht_dynamic) false) kind.DynamicTable 0 in
    let at_entry = option_and_then (soname_fault (dynamic_table f) (dynamic_strings f)) (soname_entry (dynamic_table f)) in
    let rest = (none_both at_entry [] (none_both bad (at_entry ∷ []) free).1).0 in
    no_entry (dynamic_table f) (dynamic_strings f) (soname_entry (dynamic_table f)) rest none
