-- The set of names, and tests that pass a name of it.
use Rattle.std.proofs.Common.{◌≡◌, ℕ, Bool, true, cond, List, [], ◌∷◌, ◌++◌, refl, sym, ◌∙◌, ap, inl, inr}
use Rattle.std.specs.Prelude.{◌==◌}
use Rattle.std.specs.Borrow.{Bor}
use Rattle.std.specs.BTreeSet.{contains_by}
use Rattle.std.specs.List.{list_any}
use Rattle.std.specs.Ordering.{is_eq}
use Rattle.std.specs.Str.{bytes_eq}
use Rattle.std.proofs.lemmas.Bool.{and_parts, cases_Bool, eqb-true}
use Rattle.std.proofs.lemmas.List.Folds.{list_any-append}
use Rattle.std.proofs.lemmas.Slice.Eq.{bytes_eq-Decides}
use Rattle.abi_types.specs.Types.{PlainLabel}
use Rattle.idle_sections.specs.Names.{Seen, AreSeen}
use Rattle.abi_types.proofs.lemmas.Records.{one_label}
use Rattle.suppressions.specs.Known.{kind_number, name_cmp}
use Rattle.suppressions.proofs.lemmas.Names.{equal_names, one_kind}

-- ---- names as keys

abbrev key : PlainLabel → ℕ × Bor (List ℕ)
key l = (kind_number l.kind, record { ref_ptr = (0, 0); now = l.name })

-- the key has this number and this name
abbrev is_key : ℕ → List ℕ → ℕ × Bor (List ℕ) → Bool
is_key n name q = is_eq (name_cmp n name q.0 q.1.now)

-- the set has the key
abbrev has : Seen → ℕ × Bor (List ℕ) → Bool
has seen q = contains_by (λ k. name_cmp q.0 q.1.now k.0 k.1.now) seen

one_of_key : (l m : PlainLabel) (n : ℕ) → n ≡ kind_number l.kind → is_key n l.name (key m) ≡ true → l ≡ m
one_of_key l m n number same =
    let both = and_parts (n == kind_number m.kind) (bytes_eq l.name m.name) (equal_names n l.name (kind_number m.kind) m.name ∙ same) in
    one_label l m (one_kind l.kind m.kind (sym number ∙ eqb-true n (kind_number m.kind) both.0)) ((bytes_eq-Decides l.name m.name).0 both.1)

-- ---- tests

passes_last : (test : PlainLabel → Bool) (names : List PlainLabel) (l : PlainLabel) → test l ≡ true → list_any test (names ++ l ∷ []) ≡ true
passes_last test [] l is = rw is refl
passes_last test (n ∷ names) l is = elim (cases_Bool (test n)) [
  | inl here ↦ rw here refl
  | inr other ↦ rw other (passes_last test names l is)
]

passes_more : (test : PlainLabel → Bool) (names more : List PlainLabel) → list_any test names ≡ true → list_any test (names ++ more) ≡ true
passes_more test names more is = list_any-append test names more ∙ (rw is refl)

-- ---- one more name

pub seen_more : (old new : Seen) (names : List PlainLabel) (l : PlainLabel) (n : ℕ) → AreSeen old names → n ≡ kind_number l.kind
    → ((q : ℕ × Bor (List ℕ)) → has new q ≡ cond (is_key n l.name q) true (has old q)) → AreSeen new (names ++ l ∷ [])
seen_more old new names l n were number adds m known test passes = elim (cases_Bool (is_key n l.name (key m))) [
  | inl same ↦ passes_last test names l (ap test (one_of_key l m n number same) ∙ passes)
  | inr apart ↦ passes_more test names (l ∷ []) (were m (sym (adds (key m) ∙ ap (λ (b : Bool). cond b true (has old (key m))) apart) ∙ known) test passes)
]
