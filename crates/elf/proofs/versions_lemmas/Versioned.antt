-- The versions of symbols, one by one.
use Rattle.std.proofs.Common.{◌≡◌, ℕ, zero, suc, ◌+◌, ◌<◌, ◌%◌, ◌/◌, Bool, true, List, [], ◌∷◌, ◌++◌, map, Option, refl, sym, ◌∙◌, ap, arith}
use Rattle.std.specs.Prelude.{◌==◌, nat_lt}
use Rattle.std.specs.List.{range_with_len}
use Rattle.std.specs.Option.{option_map}
use Rattle.std.proofs.lemmas.List.{map-append}
use Rattle.std.proofs.lemmas.List.FromFn.{map-range_with_len_more}
use Rattle.std.proofs.lemmas.Bool.Decides.{nat_tests}
use Rattle.abi_base.specs.GnuVersions.{versym_hidden}
use Rattle.elf.specs.declared.versions.version.Version.{Version}
use Rattle.elf.specs.versions.Definitions.{version_name}
use Rattle.elf.specs.versions.Names.{Names, name_under, IsNames}
use Rattle.elf.specs.versions.Plain.{plain_version}
use Rattle.elf.specs.versions.Versions.{PlainVersion, index_table, index_in, version_index, version_by, version_from, version_at, versions_of}

-- ---- the loop over the symbols

pub one_more : (version_of : ℕ → Option PlainVersion) (n : ℕ) (all more : List (Option Version)) (version : Option Version)
    → map (option_map plain_version) all ≡ map version_of (range_with_len 0 n) → option_map plain_version version ≡ version_of n → more ≡ all ++ version ∷ []
    → map (option_map plain_version) more ≡ map version_of (range_with_len 0 (n + 1))
one_more version_of n all more version so_far is grown =
    ap (map (option_map plain_version)) grown ∙ map-append (option_map plain_version) all (version ∷ [])
    ∙ ap (λ (l : List (Option PlainVersion)). l ++ option_map plain_version version ∷ []) so_far
    ∙ ap (λ (v : Option PlainVersion). map version_of (range_with_len 0 n) ++ v ∷ []) is
    ∙ sym (map-range_with_len_more version_of 0 n n (omega arith))

-- ---- the versions of a file

same_version : (f g : ℕ → Option (List ℕ)) (index : ℕ) (hidden : Bool) → f index ≡ g index → version_by f index hidden ≡ version_by g index hidden
same_version f g index hidden same = rw same refl

version_here : (f : List ℕ) (symbols i : ℕ) (names : Names) → IsNames names (version_name f) → i < symbols → version_from (name_under names) (index_in (index_table f) i) ≡ version_at f symbols i
unfolding version_at version_index
version_here f symbols i names is lt =
    let inside : nat_lt i symbols ≡ true = grind (arith, nat_tests) in
    let raw = index_in (index_table f) i in
    rw inside (same_version (name_under names) (version_name f) (raw % versym_hidden) (raw / versym_hidden == 1) (is (raw % versym_hidden)))

same_along : (f g : ℕ → Option PlainVersion) (a n : ℕ) → ((i : ℕ) → i < a + n → f i ≡ g i) → map f (range_with_len a n) ≡ map g (range_with_len a n)
same_along f g a zero same = refl
same_along f g a (suc n) same =
    let here : f a ≡ g a = same a (omega arith) in
    rw here (ap (λ (l : List (Option PlainVersion)). g a ∷ l) (same_along f g (a + 1) n (λ i lt. same i (omega arith))))

pub all_versions : (f : List ℕ) (symbols : ℕ) (names : Names) → IsNames names (version_name f)
    → map (λ i. version_from (name_under names) (index_in (index_table f) i)) (range_with_len 0 symbols) ≡ versions_of f symbols
all_versions f symbols names is =
    same_along (λ i. version_from (name_under names) (index_in (index_table f) i)) (version_at f symbols) 0 symbols (λ i lt. version_here f symbols i names is (omega arith))

-- the same for the table that a reader found
pub versions_read : (f : List ℕ) (symbols : ℕ) (names : Names) (table : Option (List ℕ)) → IsNames names (version_name f) → table ≡ index_table f
    → map (λ i. version_from (name_under names) (index_in table i)) (range_with_len 0 symbols) ≡ versions_of f symbols
versions_read f symbols names table is same = rw same (all_versions f symbols names is)
