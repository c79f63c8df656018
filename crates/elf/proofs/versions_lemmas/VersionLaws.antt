-- What follows from the definitions of versions.
use Rattle.std.proofs.Common.{◌≡◌, ◌≢◌, ℕ, zero, suc, ◌+◌, ◌<◌, ◌≤◌, Bool, true, false, List, ◌∷◌, length, map, Option, Some, None, refl, sym, ◌∙◌, ap, arith, inl, inr}
use Rattle.std.specs.Prelude.{find, ◌==◌, ◌||◌, ◌&&◌, not, nat_lt, is_none}
use Rattle.std.specs.List.{range_with_len, list_any}
use Rattle.std.proofs.lemmas.Bool.{cases_lt}
use Rattle.std.proofs.lemmas.Bool.Decides.{nat_tests, Decides-eqb}
use Rattle.abi_base.proofs.lemmas.Bools.{or_is_false}
use Rattle.abi_base.specs.declared.fault.Fault.{Fault}
use Rattle.abi_base.specs.declared.fault.FaultKind.TheVariants as kind
use Rattle.abi_base.specs.Numbers.{number}
use Rattle.abi_base.specs.Outcome.{first}
use Rattle.abi_base.proofs.lemmas.Outcomes.{none_at, fault_if-none}
use Rattle.elf.specs.file.Elf.{section_of_kind}
use Rattle.abi_base.specs.GnuVersions.{sht_gnu_versym, ver_ndx_global, verdef_size, verdaux_size, vd_version, vd_cnt, vd_next, ver_def_current}
use Rattle.elf.specs.versions.Definitions.{place_of, index_of, auxiliary_of, name_of, stood_before, is_malformed, is_bad, version_name, definition_fault, definition_table, definition_strings, definition_count, definition_with, strings_fault, definition_faults}
use Rattle.elf.specs.versions.Versions.{PlainVersion, version_at, version_index, versions_of, version_in, version_fault, table_fault}

-- ---- the list of all versions

among : (g : ℕ → Option PlainVersion) (a n i : ℕ) → i < n → version_in (map g (range_with_len a n)) i ≡ g (a + i)
among g a zero i lt = absurd (omega arith)
among g a (suc n) zero lt =
    let e : a + 0 ≡ a = omega arith in
    rw e refl
among g a (suc n) (suc i) lt =
    let e : a + suc i ≡ a + 1 + i = omega arith in
    rw e (among g (a + 1) n i (omega arith))

beyond : (g : ℕ → Option PlainVersion) (a n i : ℕ) → n ≤ i → version_in (map g (range_with_len a n)) i ≡ None
beyond g a zero i le = refl
beyond g a (suc n) zero le = absurd (omega arith)
beyond g a (suc n) (suc i) le = beyond g (a + 1) n i (omega arith)

past : (f : List ℕ) (symbols i : ℕ) → symbols ≤ i → version_at f symbols i ≡ None
unfolding version_at
past f symbols i le =
    let outside : nat_lt i symbols ≡ false = grind (arith, nat_tests) in
    rw outside refl

pub kept : (f : List ℕ) (symbols i : ℕ) → version_in (versions_of f symbols) i ≡ version_at f symbols i
kept f symbols i =
    let e : 0 + i ≡ i = omega arith in
    elim (cases_lt i symbols) [
      | inl lt ↦ rw e at (among (version_at f symbols) 0 symbols i lt)
      | inr le ↦ beyond (version_at f symbols) 0 symbols i le ∙ sym (past f symbols i le)
    ]

pub unversioned : (f : List ℕ) (symbols i : ℕ) → section_of_kind f sht_gnu_versym ≡ None → i < symbols → version_at f symbols i ≡ Some (record { name = None; index = ver_ndx_global; hidden = false })
unfolding version_at version_index
unversioned f symbols i none lt =
    let below : nat_lt i symbols ≡ true = grind (arith, nat_tests) in
    rw (below, none) refl

-- ---- definitions without a fault

rest_none : (o : Option Fault) (os : List (Option Fault)) → first (o ∷ os) ≡ None → first os ≡ None
rest_none None os h = h
rest_none (Some fault) os h = absurd cc

record Sound (table strings : List ℕ) (count k : ℕ) : Type 0 where
  pub whole : is_malformed table strings count k ≡ false
  pub new : stood_before table k ≡ false

sound : (f : List ℕ) (symbols k : ℕ) → version_fault f symbols ≡ None → k < definition_count f → Sound (definition_table f) (definition_strings f) (definition_count f) k
unfolding version_fault is_bad
sound f symbols k none lt =
    let faults = map (definition_fault (definition_table f) (definition_strings f) (definition_count f)) (range_with_len 0 (definition_count f)) in
    let each = rest_none (strings_fault f) faults (rest_none (table_fault f symbols) (definition_faults f) none) in
    let here : definition_fault (definition_table f) (definition_strings f) (definition_count f) k ≡ None =
    none_at (definition_fault (definition_table f) (definition_strings f) (definition_count f)) (definition_count f) k each lt in
    let parts = or_is_false _ _ (fault_if-none _ kind.VersionDefinition k here) in
    record { whole = parts.0; new = parts.1 }

within : (table strings : List ℕ) (count k : ℕ) → is_malformed table strings count k ≡ false → place_of table k + verdef_size ≤ length table
unfolding is_malformed
within table strings count k whole =
    let outside : nat_lt (length table) (place_of table k + verdef_size) ≡ false = (or_is_false _ _ whole).0 in
    grind (arith, nat_tests)

pub inside : (f : List ℕ) (symbols k : ℕ) → version_fault f symbols ≡ None → k < definition_count f → place_of (definition_table f) k + verdef_size ≤ length (definition_table f)
inside f symbols k none lt = within (definition_table f) (definition_strings f) (definition_count f) k (sound f symbols k none lt).whole

has_name : (table strings : List ℕ) (count k : ℕ) → is_malformed table strings count k ≡ false → is_none (name_of table strings k) ≡ false
unfolding is_malformed
has_name table strings count k whole =
    let at = place_of table k in
    let last = nat_lt (k + 1) count && number 4 table (at + vd_next) == 0 in
    let name = is_none (name_of table strings k) || last in
    let auxiliary = nat_lt (length table) (auxiliary_of table k + verdaux_size) || name in
    let index = index_of table k == 0 || auxiliary in
    let entries = number 2 table (at + vd_cnt) == 0 || index in
    let version = not (number 2 table (at + vd_version) == ver_def_current) || entries in
    let h1 = (or_is_false (nat_lt (length table) (at + verdef_size)) version whole).1 in
    let h2 = (or_is_false (not (number 2 table (at + vd_version) == ver_def_current)) entries h1).1 in
    let h3 = (or_is_false (number 2 table (at + vd_cnt) == 0) index h2).1 in
    let h4 = (or_is_false (index_of table k == 0) auxiliary h3).1 in
    let h5 = (or_is_false (nat_lt (length table) (auxiliary_of table k + verdaux_size)) name h4).1 in
    (or_is_false (is_none (name_of table strings k)) last h5).0

pub named : (f : List ℕ) (symbols k : ℕ) → version_fault f symbols ≡ None → k < definition_count f → name_of (definition_table f) (definition_strings f) k ≢ None
named f symbols k none lt = λ is.
    let some : is_none (name_of (definition_table f) (definition_strings f) k) ≡ false = has_name (definition_table f) (definition_strings f) (definition_count f) k (sound f symbols k none lt).whole in
    let h = rw is at some in
    absurd cc

none_along : (p : ℕ → Bool) (a n i : ℕ) → list_any p (range_with_len a n) ≡ false → i < n → p (a + i) ≡ false
none_along p a zero i h lt = absurd (omega arith)
none_along p a (suc n) zero h lt =
    let e : a + 0 ≡ a = omega arith in
    rw e (or_is_false (p a) (list_any p (range_with_len (a + 1) n)) h).0
none_along p a (suc n) (suc i) h lt =
    let e : a + suc i ≡ a + 1 + i = omega arith in
    rw e (none_along p (a + 1) n i (or_is_false (p a) (list_any p (range_with_len (a + 1) n)) h).1 (omega arith))

pub apart : (f : List ℕ) (symbols j k : ℕ) → version_fault f symbols ≡ None → j < k → k < definition_count f → index_of (definition_table f) j ≢ index_of (definition_table f) k
apart f symbols j k none lt below = λ same.
    let e : 0 + j ≡ j = omega arith in
    let table = definition_table f in
    let not_here : (index_of table j == index_of table k) ≡ false = rw e at (none_along (λ i. index_of table i == index_of table k) 0 k j (sound f symbols k none below).new lt) in
    let here : (index_of table j == index_of table k) ≡ true = (Decides-eqb (index_of table j) (index_of table k)).1 same in
    absurd cc

first_found : (p : ℕ → Bool) (a n k : ℕ) → k < n → list_any p (range_with_len a k) ≡ false → p (a + k) ≡ true → find p (range_with_len a n) ≡ Some (a + k)
first_found p a zero k lt before here = absurd (omega arith)
first_found p a (suc n) zero lt before here =
    let e : a + 0 ≡ a = omega arith in
    let at_once : p a ≡ true = rw e at here in
    rw (at_once, e) refl
first_found p a (suc n) (suc k) lt before here =
    let e : a + suc k ≡ a + 1 + k = omega arith in
    let later : p (a + 1 + k) ≡ true = rw e at here in
    let split = or_is_false (p a) (list_any p (range_with_len (a + 1) k)) before in
    let fails : p a ≡ false = split.0 in
    rw (fails, e) (first_found p (a + 1) n k (omega arith) split.1 later)

pub found : (f : List ℕ) (symbols k : ℕ) → version_fault f symbols ≡ None → k < definition_count f → version_name f (index_of (definition_table f) k) ≡ name_of (definition_table f) (definition_strings f) k
unfolding version_name
found f symbols k none lt =
    let table = definition_table f in
    let e : 0 + k ≡ k = omega arith in
    let itself : (index_of table (0 + k) == index_of table k) ≡ true = (Decides-eqb (index_of table (0 + k)) (index_of table k)).1 (ap (index_of table) e) in
    let at : definition_with table (definition_count f) (index_of table k) ≡ Some (0 + k) = first_found (λ j. index_of table j == index_of table k) 0 (definition_count f) k lt (sound f symbols k none lt).new itself in
    rw (at, e) refl
