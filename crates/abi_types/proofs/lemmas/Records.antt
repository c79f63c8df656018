-- Records that are made of their fields.
use Rattle.std.proofs.Common.{◌≡◌, ℕ, List, ◌∙◌, ap, Bool}
use Rattle.abi_types.specs.declared.kind.LabelKind.{LabelKind}
use Rattle.abi_types.specs.Types.{PlainLabel}
use Rattle.abi_types.specs.declared.library.Marks.{Marks}

pub one_label : (l m : PlainLabel) → l.kind ≡ m.kind → l.name ≡ m.name → l ≡ m
one_label l m kinds names =
    ap (λ (k : LabelKind). let x : PlainLabel = record { kind = k; name = l.name } in x) kinds ∙ ap (λ (n : List ℕ). let x : PlainLabel = record { kind = m.kind; name = n } in x) names

abbrev pub marks_with : List ℕ → List Bool → List Bool → List Bool → Marks
marks_with digest exports direct pointer = record { digest = digest; exports = exports; direct = direct; pointer = pointer }
