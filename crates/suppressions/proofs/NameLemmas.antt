-- The map that keeps how names are marked.
use Rattle.std.proofs.Common.{◌≡◌, ℕ, Bool, cond, List, Option, Some, sym, ◌∙◌, ap}
use Rattle.std.specs.Prelude.{◌==◌}
use Rattle.std.specs.Borrow.{Bor}
use Rattle.std.specs.BTreeMap.{get_by}
use Rattle.std.specs.Ordering.{is_eq}
use Rattle.std.specs.Str.{bytes_eq}
use Rattle.std.proofs.lemmas.Bool.{and_parts, eqb-true}
use Rattle.std.proofs.lemmas.Slice.Eq.{bytes_eq-Decides}
use Rattle.abi_base.proofs.lemmas.Cases.{bool_cases}
use Rattle.abi_types.specs.declared.kind.LabelKind.{LabelKind}
use Rattle.abi_types.specs.Types.{PlainLabel}
use Rattle.suppression_text.specs.Rules.{PlainSection}
use Rattle.suppressions.specs.declared.accessed_through.MarkedByWay.{MarkedByWay}
use Rattle.suppressions.proofs.lemmas.Names.{equal_names, one_kind}
use Rattle.suppressions.specs.Known.{Known, kind_number, name_cmp, name_ways, IsKnown}
use Rattle.abi_types.proofs.lemmas.Records.{one_label}

abbrev key : LabelKind → List ℕ → ℕ × Bor (List ℕ)
key kind name = (kind_number kind, record { ref_ptr = (0, 0); now = name })

same_some : (x y : MarkedByWay) → Some x ≡ Some y → x ≡ y
same_some x y e = cc

-- the key has this number and this name
abbrev names : ℕ → List ℕ → ℕ × Bor (List ℕ) → Bool
names n name q = is_eq (name_cmp n name q.0 q.1.now)

-- the entry under the key
abbrev under : Known → ℕ × Bor (List ℕ) → Option MarkedByWay
under known q = get_by (λ k. name_cmp q.0 q.1.now k.0 k.1.now) known

-- the map stays right when a judged name is added
pub known_more : (sections : List PlainSection) (soname : Option (List ℕ)) (old new : Known) (label : PlainLabel) (n : ℕ) (ways : MarkedByWay) → IsKnown sections soname old → n ≡ kind_number label.kind → ways ≡ name_ways sections soname label
    → ((q : ℕ × Bor (List ℕ)) → under new q ≡ cond (names n label.name q) (Some ways) (under old q)) → IsKnown sections soname new
known_more sections soname old new label n ways was number is adds l found held =
    let q = key l.kind l.name in
    bool_cases (names n label.name q) (λ same.
    let both = and_parts (n == kind_number l.kind) (bytes_eq label.name l.name) (equal_names n label.name (kind_number l.kind) l.name ∙ same) in
    let kinds : label.kind ≡ l.kind = one_kind label.kind l.kind (sym number ∙ eqb-true n (kind_number l.kind) both.0) in
    let e : label ≡ l = one_label label l kinds ((bytes_eq-Decides label.name l.name).0 both.1) in
    let now : found ≡ ways = same_some found ways (sym held ∙ adds q ∙ ap (λ (b : Bool). cond b (Some ways) (under old q)) same) in
    now ∙ is ∙ ap (name_ways sections soname) e) (λ apart.
    was l found (sym (adds q ∙ ap (λ (b : Bool). cond b (Some ways) (under old q)) apart) ∙ held))
