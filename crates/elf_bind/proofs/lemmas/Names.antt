-- Equal names, and equal versions.
use Rattle.std.proofs.Common.{◌≡◌, ℕ, true, List, Option, Some, None, refl, sym, ap}
use Rattle.std.specs.Str.{bytes_eq}
use Rattle.std.proofs.lemmas.Option.{same_Some}
use Rattle.std.proofs.lemmas.Slice.Eq.{bytes_eq-Decides}
use Rattle.abi_base.proofs.lemmas.Bools.{same_tests}
use Rattle.elf_bind.specs.Exports.{same_name}

-- equal letters are equal both ways
pub turned : (a b : List ℕ) → bytes_eq a b ≡ bytes_eq b a
turned a b =
    same_tests (bytes_eq a b) (bytes_eq b a) (λ same. (bytes_eq-Decides b a).1 (sym ((bytes_eq-Decides a b).0 same))) (λ same. (bytes_eq-Decides a b).1 (sym ((bytes_eq-Decides b a).0 same)))

-- equal versions are found equal, and versions that are found equal are equal
pub same_version : (a b : Option (List ℕ)) → a ≡ b → same_name a b ≡ true
same_version None None e = refl
same_version None (Some y) e = cc
same_version (Some x) None e = cc
same_version (Some x) (Some y) e = (bytes_eq-Decides x y).1 (same_Some x y e)

pub version_from_same : (a b : Option (List ℕ)) → same_name a b ≡ true → a ≡ b
version_from_same None None e = refl
version_from_same None (Some y) e = cc
version_from_same (Some x) None e = cc
version_from_same (Some x) (Some y) e = ap Some ((bytes_eq-Decides x y).0 e)
