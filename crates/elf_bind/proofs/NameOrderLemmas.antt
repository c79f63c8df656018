-- A name with its code compares equal exactly to an equal name with its own.
use Rattle.std.proofs.Common.{◌≡◌, ℕ, List, refl, sym, ◌∙◌, ap}
use Rattle.std.specs.Prelude.{◌&&◌, ◌==◌}
use Rattle.std.specs.Cmp.{unsigned_ties, unsigned_Decides, both_tied}
use Rattle.std.specs.Cmp.Lexicographic.{slice_cmp, lists_ties}
use Rattle.std.specs.Ordering.{nat_cmp, is_eq}
use Rattle.std.specs.Str.{bytes_eq}
use Rattle.std.proofs.lemmas.Slice.Eq.{bytes_eq-Decides}
use Rattle.abi_base.proofs.lemmas.Cases.{bool_cases}
use Rattle.abi_base.proofs.lemmas.Bools.{and_false}
use Rattle.elf_bind.specs.NameOrder.{code_of, name_cmp, version_cmp}

bytes_tied : (a b : List ℕ) → bytes_eq a b ≡ is_eq (slice_cmp nat_cmp a b)
bytes_tied a b = lists_ties nat_cmp unsigned_ties a b

-- equal names have equal codes
code_tells_nothing : (code : ℕ) (a b : List ℕ) → code ≡ code_of a → ((code == code_of b) && bytes_eq a b) ≡ bytes_eq a b
code_tells_nothing code a b is =
    bool_cases (bytes_eq a b) (λ same.
    let e : code ≡ code_of b = is ∙ ap code_of ((bytes_eq-Decides a b).0 same) in
    rw (same, (unsigned_Decides code (code_of b)).1 e) refl) (λ apart. rw apart (and_false (code == code_of b)))

pub same_name_where_equal : (code : ℕ) (a b : List ℕ) → code ≡ code_of a → is_eq (name_cmp code a (code_of b) b) ≡ bytes_eq a b
same_name_where_equal code a b is =
    sym (both_tied (code == code_of b) (bytes_eq a b) (nat_cmp code (code_of b)) (slice_cmp nat_cmp a b) (unsigned_ties code (code_of b)) (bytes_tied a b))
    ∙ code_tells_nothing code a b is

pub same_version_where_equal : (code : ℕ) (name version n v : List ℕ) → code ≡ code_of name → is_eq (version_cmp code name version (code_of n) n v) ≡ (bytes_eq name n && bytes_eq version v)
same_version_where_equal code name version n v is =
    sym (both_tied (bytes_eq name n) (bytes_eq version v) (name_cmp code name (code_of n) n) (slice_cmp nat_cmp version v) (sym (same_name_where_equal code name n is)) (bytes_tied version v))
