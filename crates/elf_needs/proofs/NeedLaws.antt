-- What the needs of a file come to.
use Rattle.std.proofs.Common.{◌≡◌, ◌≢◌, ℕ, zero, suc, ◌+◌, ◌<◌, ◌≤◌, Bool, true, false, cond, List, [], ◌∷◌, length, map, Option, Some, None, refl, ◌∙◌, ap, arith}
use Rattle.std.specs.Prelude.{find, ◌==◌, ◌||◌, ◌&&◌, not, nat_lt, is_none, slice_get}
use Rattle.std.specs.List.{range_with_len, list_any, flat_map}
use Rattle.std.specs.Option.{option_map}
use Rattle.std.proofs.lemmas.Bool.Decides.{nat_tests, Decides-eqb}
use Rattle.std.proofs.lemmas.List.Folds.{list_any-append}
use Rattle.abi_base.proofs.lemmas.Bools.{or_is_false, or_true}
use Rattle.abi_base.specs.declared.fault.Fault.{Fault}
use Rattle.abi_base.specs.declared.fault.FaultKind.TheVariants as kind
use Rattle.abi_base.specs.GnuVersions.{sht_gnu_versym, ver_ndx_global}
use Rattle.abi_base.specs.Numbers.{number}
use Rattle.abi_base.specs.Outcome.{first}
use Rattle.abi_base.proofs.lemmas.Outcomes.{none_at, fault_if-none}
use Rattle.elf.specs.file.Elf.{section_of_kind}
use Rattle.elf.specs.versions.Versions.{version_index}
use Rattle.elf_needs.specs.GnuNeeds.{verneed_size, vernaux_size, vn_version, vn_next, vna_next, ver_need_current}
use Rattle.elf_needs.specs.Indexes.{symbol_index, indexes_of}
use Rattle.elf_needs.specs.Needs.{Entry, place_of, file_at, entry_count, entry_place, index_at, version_at, entry_of, entries_of_need, file_entries, is_malformed, is_bad_entry, has_bad_entry, need_fault, strings_fault, need_table, need_strings, need_count, need_with, needs_fault, need_among, said_by}

-- ---- the list of indexes

among : (g : ℕ → ℕ) (a n i : ℕ) → i < n → slice_get (map g (range_with_len a n)) i ≡ Some (g (a + i))
among g a zero i lt = absurd (omega arith)
among g a (suc n) zero lt =
    let e : a + 0 ≡ a = omega arith in
    rw e refl
among g a (suc n) (suc i) lt =
    let e : a + suc i ≡ a + 1 + i = omega arith in
    rw e (among g (a + 1) n i (omega arith))

beyond : (g : ℕ → ℕ) (a n i : ℕ) → n ≤ i → slice_get (map g (range_with_len a n)) i ≡ None
beyond g a zero i le = refl
beyond g a (suc n) zero le = absurd (omega arith)
beyond g a (suc n) (suc i) le = beyond g (a + 1) n i (omega arith)

pub kept : (f : List ℕ) (symbols i : ℕ) → i < symbols → slice_get (indexes_of f symbols) i ≡ Some (symbol_index f i)
kept f symbols i lt =
    let e : 0 + i ≡ i = omega arith in
    among (symbol_index f) 0 symbols i lt ∙ ap (λ (n : ℕ). Some (symbol_index f n)) e

pub past : (f : List ℕ) (symbols i : ℕ) → symbols ≤ i → slice_get (indexes_of f symbols) i ≡ None
past f symbols i le = beyond (symbol_index f) 0 symbols i le

pub unversioned : (f : List ℕ) (i : ℕ) → section_of_kind f sht_gnu_versym ≡ None → symbol_index f i ≡ ver_ndx_global
unfolding version_index
unversioned f i none = rw none refl

-- ---- needs without a fault

rest_none : (o : Option Fault) (os : List (Option Fault)) → first (o ∷ os) ≡ None → first os ≡ None
rest_none None os h = h
rest_none (Some fault) os h = absurd cc

none_along : (p : ℕ → Bool) (a n i : ℕ) → list_any p (range_with_len a n) ≡ false → i < n → p (a + i) ≡ false
none_along p a zero i h lt = absurd (omega arith)
none_along p a (suc n) zero h lt =
    let e : a + 0 ≡ a = omega arith in
    rw e (or_is_false (p a) (list_any p (range_with_len (a + 1) n)) h).0
none_along p a (suc n) (suc i) h lt =
    let e : a + suc i ≡ a + 1 + i = omega arith in
    rw e (none_along p (a + 1) n i (or_is_false (p a) (list_any p (range_with_len (a + 1) n)) h).1 (omega arith))

sound : (f : List ℕ) (k : ℕ) → needs_fault f ≡ None → k < need_count f
    → (is_malformed (need_table f) (need_strings f) (need_count f) k ≡ false) × (has_bad_entry (need_table f) (need_strings f) k ≡ false)
unfolding needs_fault
sound f k none lt =
    let faults = map (need_fault (need_table f) (need_strings f) (need_count f)) (range_with_len 0 (need_count f)) in
    let each = rest_none (strings_fault f) faults none in
    let here : need_fault (need_table f) (need_strings f) (need_count f) k ≡ None = none_at (need_fault (need_table f) (need_strings f) (need_count f)) (need_count f) k each lt in
    or_is_false _ _ (fault_if-none _ kind.VersionNeed k here)

sound_entry : (f : List ℕ) (k j : ℕ) → needs_fault f ≡ None → k < need_count f → j < entry_count (need_table f) k → is_bad_entry (need_table f) (need_strings f) k j ≡ false
sound_entry f k j none lt below =
    let e : 0 + j ≡ j = omega arith in
    rw e at (none_along (is_bad_entry (need_table f) (need_strings f) k) 0 (entry_count (need_table f) k) j (sound f k none lt).1 below)

need_within : (table strings : List ℕ) (count k : ℕ) → is_malformed table strings count k ≡ false → place_of table k + verneed_size ≤ length table
unfolding is_malformed
need_within table strings count k whole =
    let outside : nat_lt (length table) (place_of table k + verneed_size) ≡ false = (or_is_false _ _ whole).0 in
    grind (arith, nat_tests)

has_file : (table strings : List ℕ) (count k : ℕ) → is_malformed table strings count k ≡ false → is_none (file_at table strings k) ≡ false
unfolding is_malformed
has_file table strings count k whole =
    let at = place_of table k in
    let last = nat_lt (k + 1) count && number 4 table (at + vn_next) == 0 in
    let file = is_none (file_at table strings k) || last in
    let version = not (number 2 table (at + vn_version) == ver_need_current) || file in
    let h1 = (or_is_false (nat_lt (length table) (at + verneed_size)) version whole).1 in
    let h2 = (or_is_false (not (number 2 table (at + vn_version) == ver_need_current)) file h1).1 in
    (or_is_false (is_none (file_at table strings k)) last h2).0

entry_within : (table strings : List ℕ) (k j : ℕ) → is_bad_entry table strings k j ≡ false → entry_place table k j + vernaux_size ≤ length table
unfolding is_bad_entry
entry_within table strings k j whole =
    let outside : nat_lt (length table) (entry_place table k j + vernaux_size) ≡ false = (or_is_false _ _ whole).0 in
    grind (arith, nat_tests)

has_version : (table strings : List ℕ) (k j : ℕ) → is_bad_entry table strings k j ≡ false → is_none (version_at table strings k j) ≡ false
unfolding is_bad_entry
has_version table strings k j whole =
    let at = entry_place table k j in
    let last = nat_lt (j + 1) (entry_count table k) && number 4 table (at + vna_next) == 0 in
    let h1 = (or_is_false (nat_lt (length table) (at + vernaux_size)) (is_none (version_at table strings k j) || last) whole).1 in
    (or_is_false (is_none (version_at table strings k j)) last h1).0

not_none : (o : Option (List ℕ)) → is_none o ≡ false → o ≢ None
not_none None h = absurd cc
not_none (Some x) h = λ is. absurd cc

pub inside : (f : List ℕ) (k : ℕ) → needs_fault f ≡ None → k < need_count f → place_of (need_table f) k + verneed_size ≤ length (need_table f)
inside f k none lt = need_within (need_table f) (need_strings f) (need_count f) k (sound f k none lt).0

pub of_file : (f : List ℕ) (k : ℕ) → needs_fault f ≡ None → k < need_count f → file_at (need_table f) (need_strings f) k ≢ None
of_file f k none lt = not_none (file_at (need_table f) (need_strings f) k) (has_file (need_table f) (need_strings f) (need_count f) k (sound f k none lt).0)

pub entries : (f : List ℕ) (k j : ℕ) → needs_fault f ≡ None → k < need_count f → j < entry_count (need_table f) k → entry_place (need_table f) k j + vernaux_size ≤ length (need_table f)
entries f k j none lt below = entry_within (need_table f) (need_strings f) k j (sound_entry f k j none lt below)

pub named : (f : List ℕ) (k j : ℕ) → needs_fault f ≡ None → k < need_count f → j < entry_count (need_table f) k → version_at (need_table f) (need_strings f) k j ≢ None
named f k j none lt below = not_none (version_at (need_table f) (need_strings f) k j) (has_version (need_table f) (need_strings f) k j (sound_entry f k j none lt below))

-- ---- each index is found

any_mapped : (p : Entry → Bool) (g : ℕ → Entry) (a n j : ℕ) → j < n → p (g (a + j)) ≡ true → list_any p (map g (range_with_len a n)) ≡ true
any_mapped p g a zero j lt here = absurd (omega arith)
any_mapped p g a (suc n) zero lt here =
    let e : a + 0 ≡ a = omega arith in
    let at_once : p (g a) ≡ true = rw e at here in
    rw at_once refl
any_mapped p g a (suc n) (suc j) lt here =
    let e : a + suc j ≡ a + 1 + j = omega arith in
    let later : p (g (a + 1 + j)) ≡ true = rw e at here in
    rw (any_mapped p g (a + 1) n j (omega arith) later) (or_true (p (g a)))

any_joined : (p : Entry → Bool) (g : ℕ → List Entry) (a n k : ℕ) → k < n → list_any p (g (a + k)) ≡ true → list_any p (flat_map g (range_with_len a n)) ≡ true
any_joined p g a zero k lt here = absurd (omega arith)
any_joined p g a (suc n) zero lt here =
    let e : a + 0 ≡ a = omega arith in
    let at_once : list_any p (g a) ≡ true = rw e at here in
    list_any-append p (g a) (flat_map g (range_with_len (a + 1) n)) ∙ rw at_once refl
any_joined p g a (suc n) (suc k) lt here =
    let e : a + suc k ≡ a + 1 + k = omega arith in
    let later : list_any p (g (a + 1 + k)) ≡ true = rw e at here in
    list_any-append p (g a) (flat_map g (range_with_len (a + 1) n)) ∙ rw (any_joined p g (a + 1) n k (omega arith) later) (or_true (list_any p (g a)))

find_some : (index : ℕ) (xs : List Entry) → list_any (λ e. e.index == index) xs ≡ true → need_among xs index ≢ None
find_some index [] any = absurd cc
find_some index (x ∷ xs) any = cases (x.index == index) any (find_some index xs)
  where
    cases : (b : Bool) → (b || list_any (λ e. e.index == index) xs) ≡ true → (list_any (λ e. e.index == index) xs ≡ true → need_among xs index ≢ None)
        → option_map said_by (cond b (Some x) (find (λ e. e.index == index) xs)) ≢ None
    cases true h rest = λ is. absurd cc
    cases false h rest = rest h

own_index : (table strings : List ℕ) (k j : ℕ) → ((entry_of table strings k (0 + j)).index == index_at table k j) ≡ true
unfolding entry_of
own_index table strings k j =
    let e : 0 + j ≡ j = omega arith in
    (Decides-eqb (index_at table k (0 + j)) (index_at table k j)).1 (ap (index_at table k) e)

in_need : (table strings : List ℕ) (k j : ℕ) → j < entry_count table k → list_any (λ e. e.index == index_at table k j) (entries_of_need table strings k) ≡ true
in_need table strings k j below = any_mapped (λ e. e.index == index_at table k j) (entry_of table strings k) 0 (entry_count table k) j below (own_index table strings k j)

pub found : (f : List ℕ) (k j : ℕ) → k < need_count f → j < entry_count (need_table f) k → need_with f (index_at (need_table f) k j) ≢ None
unfolding need_with
found f k j lt below =
    let e : 0 + k ≡ k = omega arith in
    let p : Entry → Bool = λ e. e.index == index_at (need_table f) k j in
    let here : list_any p (entries_of_need (need_table f) (need_strings f) (0 + k)) ≡ true =
    ap (λ (n : ℕ). list_any p (entries_of_need (need_table f) (need_strings f) n)) e ∙ in_need (need_table f) (need_strings f) k j below in
    find_some (index_at (need_table f) k j) (file_entries f) (any_joined p (entries_of_need (need_table f) (need_strings f)) 0 (need_count f) k lt here)
