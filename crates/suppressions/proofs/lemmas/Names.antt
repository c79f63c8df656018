-- Kinds with names, as keys.
use Rattle.std.proofs.Common.{◌≡◌, ◌∙◌, ℕ, List, refl, sym, ap}
use Rattle.std.specs.Prelude.{◌&&◌, ◌==◌, if◌then◌else◌}
use Rattle.std.specs.Cmp.{both_tied, unsigned_ties}
use Rattle.std.specs.Cmp.Lexicographic.{slice_cmp}
use Rattle.std.specs.Ordering.{is_eq, nat_cmp}
use Rattle.std.specs.Str.{bytes_eq}
use Rattle.std.proofs.lemmas.Map.Text.{is_eq-slice_cmp}
use Rattle.abi_types.specs.declared.kind.LabelKind.{LabelKind}
use Rattle.abi_types.specs.declared.kind.LabelKind.TheVariants.{Structure, Union, Enumeration, Typedef, Builtin}
use Rattle.suppressions.specs.Known.{kind_number, name_cmp}

-- a kind with a name compares equal exactly to the same kind with the same name
pub equal_names : (n : ℕ) (name : List ℕ) (m : ℕ) (other : List ℕ) → (n == m && bytes_eq name other) ≡ is_eq (name_cmp n name m other)
equal_names n name m other = both_tied (n == m) (bytes_eq name other) (nat_cmp n m) (slice_cmp nat_cmp name other) (unsigned_ties n m) (sym (is_eq-slice_cmp name other))

abbrev kind_of : ℕ → LabelKind
kind_of n = if n == 0 then Structure else if n == 1 then Union else if n == 2 then Enumeration else if n == 3 then Typedef else Builtin

kind_is : (k : LabelKind) → kind_of (kind_number k) ≡ k
kind_is Structure = refl
kind_is Union = refl
kind_is Enumeration = refl
kind_is Typedef = refl
kind_is Builtin = refl

-- kinds with equal numbers are equal
pub one_kind : (j k : LabelKind) → kind_number j ≡ kind_number k → j ≡ k
one_kind j k e = sym (kind_is j) ∙ ap kind_of e ∙ kind_is k
