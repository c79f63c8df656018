-- Lists, views and nodes that are the same, item by item and field by field.
use Rattle.std.proofs.Common.{◌≡◌, ◌<◌, ◌≤◌, ◌+◌, ℕ, Bool, List, [], length, map, get_or, sym, ◌∙◌, ap, subst, arith, inl, inr}
use Rattle.std.proofs.lemmas.Bool.{cases_lt}
use Rattle.std.proofs.lemmas.List.{ext_get_or, get_or-map, length-map}
use Rattle.abi_types.specs.declared.kind.Kind.{Kind}
use Rattle.abi_types.specs.declared.kind.Group.{Group}
use Rattle.abi_types.specs.declared.kind.LabelKind.TheVariants as label
use Rattle.abi_types.specs.declared.place.CallShape.{CallShape}
use Rattle.abi_types.specs.declared.view.Label.{Label}
use Rattle.abi_types.specs.Plain.{plain_label}
use Rattle.abi_types.specs.Types.{PlainPart, PlainView, PlainLabel}
use Rattle.type_classes.specs.Same.{HaveSameHeads}

-- ---- lists, item by item

-- one item more is the same
pub same_next : {X : Type 0} (d : X) (xs ys : List X) (k : ℕ) → ((j : ℕ) → j < k → get_or xs j d ≡ get_or ys j d) → get_or xs k d ≡ get_or ys k d → (j : ℕ) → j < k + 1 → get_or xs j d ≡ get_or ys j d
same_next d xs ys k before here j lt = elim (cases_lt j k) [
  | inl less ↦ before j less
  | inr past ↦ let same : k ≡ j = omega (arith, lt, past) in subst (λ (i : ℕ). get_or xs i d ≡ get_or ys i d) same here
]

-- all items are the same
pub same_all : {X : Type 0} (d : X) (xs ys : List X) (k : ℕ) → length xs ≤ k → length xs ≡ length ys → ((j : ℕ) → j < k → get_or xs j d ≡ get_or ys j d) → xs ≡ ys
same_all d xs ys k past size each = ext_get_or d xs ys size (λ i lt. each i (omega (arith, lt, past)))

abbrev pub no_label : PlainLabel
no_label = record { kind = label.Builtin; name = [] }

pub labels_next : (one other : List Label) (k : ℕ) (d e : Label) → k < length one → length one ≡ length other → ((j : ℕ) → j < k → get_or (map plain_label one) j no_label ≡ get_or (map plain_label other) j no_label) → plain_label (get_or one k d) ≡ plain_label (get_or other k e) → (j : ℕ) → j < k + 1 → get_or (map plain_label one) j no_label ≡ get_or (map plain_label other) j no_label
labels_next one other k d e lt size before same =
    same_next no_label (map plain_label one) (map plain_label other) k before
    (get_or-map plain_label one k d no_label lt ∙ same ∙ sym (get_or-map plain_label other k e no_label (omega (arith, lt, size))))

pub labels_all : (one other : List Label) (k : ℕ) → length one ≤ k → length one ≡ length other → ((j : ℕ) → j < k → get_or (map plain_label one) j no_label ≡ get_or (map plain_label other) j no_label) → map plain_label one ≡ map plain_label other
labels_all one other k past size each =
    same_all no_label (map plain_label one) (map plain_label other) k (rw (length-map one plain_label) past) (length-map one plain_label ∙ size ∙ sym (length-map other plain_label)) each

-- ---- views, field by field

-- views are equal where all their fields are
pub views_from : (v w : PlainView) → HaveSameHeads v w → v.parts ≡ w.parts → v.call ≡ w.call → v ≡ w
views_from v w h parts call =
    let mk : Kind → Bool → List ℕ → ℕ → Group → ℕ → ℕ → Bool → List PlainPart → CallShape → PlainView =
    λ kind declared tag size group align count variadic parts call. record { kind = kind; declared_only = declared; tag = tag; size = size; group = group; align = align; count = count; variadic = variadic; parts = parts; call = call } in
    ap (λ x. mk x v.declared_only v.tag v.size v.group v.align v.count v.variadic v.parts v.call) h.kind
    ∙ ap (λ x. mk w.kind x v.tag v.size v.group v.align v.count v.variadic v.parts v.call) h.declared_only
    ∙ ap (λ x. mk w.kind w.declared_only x v.size v.group v.align v.count v.variadic v.parts v.call) h.tag
    ∙ ap (λ x. mk w.kind w.declared_only w.tag x v.group v.align v.count v.variadic v.parts v.call) h.size
    ∙ ap (λ x. mk w.kind w.declared_only w.tag w.size x v.align v.count v.variadic v.parts v.call) h.group
    ∙ ap (λ x. mk w.kind w.declared_only w.tag w.size w.group x v.count v.variadic v.parts v.call) h.align
    ∙ ap (λ x. mk w.kind w.declared_only w.tag w.size w.group w.align x v.variadic v.parts v.call) h.count
    ∙ ap (λ x. mk w.kind w.declared_only w.tag w.size w.group w.align w.count x v.parts v.call) h.variadic
    ∙ ap (λ x. mk w.kind w.declared_only w.tag w.size w.group w.align w.count w.variadic x v.call) parts
    ∙ ap (λ x. mk w.kind w.declared_only w.tag w.size w.group w.align w.count w.variadic w.parts x) call
