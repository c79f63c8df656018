-- The values of an entry, in a loop that goes over them.
use Rattle.std.proofs.Common.{◌≡◌, ℕ, ◌+◌, ◌<◌, ◌≤◌, true, false, List, ◌∷◌, length, drop, get_or, Option, Some, None, refl, sym, ap, ◌∙◌, arith, inl, inr}
use Rattle.std.specs.Prelude.{◌==◌, nat_lt, if◌then◌else◌}
use Rattle.std.specs.Option.{option_or}
use Rattle.std.proofs.lemmas.List.{drop_more, drop_all}
use Rattle.std.proofs.lemmas.Bool.{cases_Bool, lt-ltb}
use Rattle.dwarf_forms.specs.declared.values.Value.{Value}
use Rattle.dwarf_files.specs.declared.entries.Entry.{Entry}
use Rattle.dwarf_files.specs.declared.formats.Pair.{Pair}
use Rattle.dwarf_files.specs.Steps.{◌>>=◌}
use Rattle.dwarf_files.specs.Tables.{value_of, values_of, first_of, entry_by, entry_of, with_value}

-- an entry and later values
abbrev pub with_values : Entry → List (ℕ × Value) → Entry
with_values e values = record { path = option_or e.path (first_of 1 values); directory = option_or e.directory (first_of 2 values) }

abbrev pub rest : Entry → Option (List (ℕ × Value) × ℕ) → Option (Entry × ℕ)
rest e None = None
rest e (Some r) = Some (with_values e r.0, r.1)

put_first : (p : Option Value) (v : Value) (o : Option Value) → option_or (option_or p (Some v)) o ≡ option_or p (Some v)
put_first None v o = refl
put_first (Some w) v o = refl

one_more : (e : Entry) (c : ℕ) (v : Value) (values : List (ℕ × Value)) → with_values e ((c, v) ∷ values) ≡ with_values (with_value e c v) values
one_more e c v values = elim (cases_Bool (c == 1)) [
  | inl is ↦ let not_two : (c == 2) ≡ false = grind arith in
      rw (is, not_two) (ap (λ (o : Option Value). let made : Entry = record { path = o; directory = option_or e.directory (first_of 2 values) } in made) (sym (put_first e.path v (first_of 1 values))))
  | inr other ↦ elim (cases_Bool (c == 2)) [
    | inl two ↦ rw (other, two) (ap (λ (o : Option Value). let made : Entry = record { path = option_or e.path (first_of 1 values); directory = o } in made) (sym (put_first e.directory v (first_of 2 values))))
    | inr neither ↦ rw (other, neither) refl
  ]
]

more_of : (e : Entry) (c : ℕ) (v : Value) (r : Option (List (ℕ × Value) × ℕ)) → rest e (r >>= λ others. Some ((c, v) ∷ others.0, others.1)) ≡ rest (with_value e c v) r
more_of e c v None = refl
more_of e c v (Some r) = ap (λ (x : Entry). Some (x, r.1)) (one_more e c v r.0)

option_or_none : {A : Type 0} (o : Option A) → option_or o None ≡ o
option_or_none None = refl
option_or_none (Some x) = refl

pub values_more : (bytes : List ℕ) (format : List Pair) (i : ℕ) (d : Pair) (at : ℕ) (v : Value) (after : ℕ) (e : Entry) (whole : Option (Entry × ℕ))
    → i < length format → value_of bytes (get_or format i d).form at ≡ Some (v, after)
    → rest e (values_of bytes (drop i format) at) ≡ whole → rest (with_value e (get_or format i d).content v) (values_of bytes (drop (i + 1) format) after) ≡ whole
unfolding values_of
values_more bytes format i d at v after e whole lt is so_far =
    let more = drop_more format i d lt in
    let step : values_of bytes (drop i format) at ≡ (values_of bytes (drop (i + 1) format) after >>= λ others. Some (((get_or format i d).content, v) ∷ others.0, others.1)) = rw (more, is) refl in
    sym (more_of e (get_or format i d).content v (values_of bytes (drop (i + 1) format) after)) ∙ ap (rest e) (sym step) ∙ so_far

-- an entry takes bytes
abbrev pub if_moved : ℕ → Option (Entry × ℕ) → Option (Entry × ℕ)
if_moved at None = None
if_moved at (Some r) = if nat_lt at r.1 then Some r else None

abbrev pub no_values : Entry
no_values = record { path = None; directory = None }

entry_is : (bytes : List ℕ) (format : List Pair) (at : ℕ) → if_moved at (rest no_values (values_of bytes format at)) ≡ entry_of bytes format at
unfolding entry_of
entry_is bytes format at = cases (values_of bytes format at)
  where
    cases : (r : Option (List (ℕ × Value) × ℕ)) → if_moved at (rest no_values r) ≡ (r >>= λ values. if nat_lt at values.1 then Some (entry_by values.0, values.1) else None)
    cases None = refl
    cases (Some r) = refl

module _ (bytes : List ℕ) (format : List Pair) (i : ℕ) (from at : ℕ) (e : Entry) (so_far : rest e (values_of bytes (drop i format) at) ≡ rest no_values (values_of bytes format from)) where
  pub values_cut : (d : Pair) → i < length format → value_of bytes (get_or format i d).form at ≡ None → None ≡ entry_of bytes format from
  unfolding values_of
  values_cut d lt is =
      let more = drop_more format i d lt in
      let step : rest e (values_of bytes (drop i format) at) ≡ None = rw (more, is) refl in
      ap (if_moved from) (sym step ∙ so_far) ∙ entry_is bytes format from

  values_done : length format ≤ i → if_moved from (Some (e, at)) ≡ entry_of bytes format from
  unfolding values_of
  values_done le =
      let none = drop_all i format le in
      let step : rest e (values_of bytes (drop i format) at) ≡ Some (e, at) = rw (none, option_or_none e.path, option_or_none e.directory) refl in
      ap (if_moved from) (sym step ∙ so_far) ∙ entry_is bytes format from

  pub values_some : length format ≤ i → from < at → Some (e, at) ≡ entry_of bytes format from
  values_some le lt = let is : nat_lt from at ≡ true = lt-ltb from at lt in rw is at (values_done le)

  pub values_none : length format ≤ i → at ≤ from → None ≡ entry_of bytes format from
  values_none le past = let is : nat_lt from at ≡ false = grind arith in rw is at (values_done le)
