-- The loop over the pairs of an entry, to an attribute.
use Rattle.std.proofs.Common.{◌≡◌, ◌≢◌, ◌∙◌, ◌+◌, ◌≤◌, ℕ, true, false, List, [], ◌∷◌, length, Option, Some, None, Result, Ok, Err, refl, sym, ap, inl, inr}
use Rattle.std.specs.Prelude.{◌==◌, take, ℤ}
use Rattle.std.proofs.lemmas.Bool.{cases_Bool, eqb-true}
use Rattle.abi_base.proofs.lemmas.Cases.{same_Ok}
use Rattle.abi_base.specs.Dwarf.{dw_form_string}
use Rattle.abi_base.specs.declared.fault.Fault.{Fault}
use Rattle.abi_base.specs.Numbers.{text_at}
use Rattle.abi_base.specs.Leb.{uleb_at}
use Rattle.abi_base.specs.Runs.{Run, put_front}
use Rattle.dwarf_forms.specs.declared.abbreviations.abbrev.Spec.{Spec}
use Rattle.dwarf_forms.specs.abbreviations.Abbrevs.{plain_pair, specs_run}
use Rattle.dwarf_forms.specs.declared.values.Value.{Value}
use Rattle.dwarf_forms.specs.declared.values.Value.TheVariants as value
use Rattle.dwarf_forms.specs.Values.{forms, place_after, shape_of, value_at, value_of}
use Rattle.dwarf_units.specs.Units.{attribute_of}
use Rattle.dwarf_tree.specs.declared.head.Head.{Head}
use Rattle.dwarf_tree.specs.declared.entry_records.EntryHead.{EntryHead}
use Rattle.dwarf_tree.specs.Keeping.{FindSame, Attributes, value_before, values_from, left_values, behind, values_of, value_read}

-- a pair is at a place, before the pairs from the next place on
abbrev IsPair : List ℕ → ℕ → Spec → ℕ → Type 0
IsPair abbrevs pairs s next = specs_run abbrevs pairs ≡ put_front s (specs_run abbrevs next)

-- a pair is the first one, also where its two numbers are known
pub plain_front : (abbrevs : List ℕ) (pairs attribute form next : ℕ) (s : Spec) → IsPair abbrevs pairs (plain_pair attribute form) next → s ≡ plain_pair attribute form → IsPair abbrevs pairs s next
plain_front abbrevs pairs attribute form next s h is = h ∙ ap (λ (x : Spec). put_front x (specs_run abbrevs next)) (sym is)

-- a text ends after its 0 byte
pub text_passed : (form : ℕ) (implicit : ℤ) (start end entry : ℕ) (info : List ℕ) (at : ℕ) (text : List ℕ) → form ≡ dw_form_string → Some text ≡ text_at (take end info) at
    → Ok (at + length text + 1) ≡ place_after (value_at form implicit start end entry info at)
unfolding value_at value_of shape_of forms
text_passed form implicit start end entry info at text is found = rw (is, ← found) refl

pub text_read : (form : ℕ) (implicit : ℤ) (start end entry : ℕ) (info : List ℕ) (at : ℕ) (text : List ℕ) → form ≡ dw_form_string → Some text ≡ text_at (take end info) at
    → Some (value.Inline at) ≡ value_read (value_at form implicit start end entry info at)
unfolding value_at value_of shape_of forms
text_read form implicit start end entry info at text is found = rw (is, ← found) refl

-- the values from a pair on: its value and those of the other pairs
pub left_front : (info abbrevs : List ℕ) (head : Head) (entry pairs at : ℕ) (s : Spec) (next : ℕ) → IsPair abbrevs pairs s next
    → left_values info abbrevs head entry pairs at
    ≡ value_before s.attribute (value_at s.form s.implicit head.offset head.end entry info at) (left_values info abbrevs head entry next)
unfolding values_from
left_front info abbrevs head entry pairs at s next h = ap (λ (r : Run Spec (Option ℕ)). values_from info head entry r.items at) h

first_passed : (name attribute : ℕ) (v : Value) (others : Attributes) → (attribute == name) ≡ false → attribute_of ((attribute, v) ∷ others) name ≡ attribute_of others name
first_passed name attribute v others apart = rw apart refl

first_met : (name attribute : ℕ) (v : Value) (others : Attributes) → (attribute == name) ≡ true → attribute_of ((attribute, v) ∷ others) name ≡ Some v
first_met name attribute v others same = rw same refl

-- a skipped value is in the list, and so is its place
ends_behind : (r : Result (Value × ℕ) Fault) (after : ℕ) → place_after r ≡ Ok after → (v : Value) × (r ≡ Ok (v, after))
ends_behind (Ok read) after is = (read.0, ap (λ (n : ℕ). Ok (read.0, n)) (same_Ok read.1 after is))
ends_behind (Err f) after is = absurd cc

faults_behind : (r : Result (Value × ℕ) Fault) (f : Fault) → place_after r ≡ Err f → r ≡ Err f
faults_behind (Ok read) f is = absurd cc
faults_behind (Err e) f is = let same : e ≡ f = cc in ap (λ (x : Fault). Err x) same

-- for another attribute, the values from a pair on are those after it
passed_over : (info abbrevs : List ℕ) (head : Head) (entry pairs at name : ℕ) (s : Spec) (next after : ℕ) → IsPair abbrevs pairs s next
    → place_after (value_at s.form s.implicit head.offset head.end entry info at) ≡ Ok after → (s.attribute == name) ≡ false
    → attribute_of (left_values info abbrevs head entry next after) name ≡ attribute_of (left_values info abbrevs head entry pairs at) name
passed_over info abbrevs head entry pairs at name s next after h passed apart =
    let others = left_values info abbrevs head entry next in
    let read = ends_behind (value_at s.form s.implicit head.offset head.end entry info at) after passed in
    sym (first_passed name s.attribute read.0 (others after) apart)
    ∙ ap (λ (r : Result (Value × ℕ) Fault). attribute_of (value_before s.attribute r others) name) (sym read.1)
    ∙ ap (λ (l : Attributes). attribute_of l name) (sym (left_front info abbrevs head entry pairs at s next h))

-- ---- the loop over plain pairs

-- values of a form end at a place, whatever the bytes are
abbrev pub EndAt : ℕ → ℕ → ℕ → ℕ → Type 0
EndAt form unit_end at after =
    (implicit : ℤ) (unit_start entry : ℕ) (bytes : List ℕ) → unit_end ≤ length bytes → place_after (value_at form implicit unit_start unit_end entry bytes at) ≡ Ok after

pub pair_more : (abbrevs : List ℕ) (unit_end name pairs at : ℕ) (other : ℕ × ℕ) (s : Spec) (next after : ℕ) → IsPair abbrevs pairs s next → EndAt s.form unit_end at after → s.attribute ≢ name
    → FindSame abbrevs unit_end name (pairs, at) other → FindSame abbrevs unit_end name (next, after) other
pair_more abbrevs unit_end name pairs at other s next after h ends differs so_far info head entry same fits =
    let apart : (s.attribute == name) ≡ false = elim (cases_Bool (s.attribute == name)) [
      | inl is ↦ absurd (differs (eqb-true s.attribute name is))
      | inr is ↦ is
    ] in
    let passed : place_after (value_at s.form s.implicit head.offset head.end entry info at) ≡ Ok after = rw same (ends s.implicit head.offset entry info fits) in
    passed_over info abbrevs head entry pairs at name s next after h passed apart
    ∙ so_far info head entry same fits

pub plain_more : (abbrevs : List ℕ) (unit_end name pairs at : ℕ) (other : ℕ × ℕ) (attribute form after : ℕ) → IsPair abbrevs pairs (plain_pair attribute form) (pairs + 2)
    → EndAt form unit_end at after → attribute ≢ name
    → FindSame abbrevs unit_end name (pairs, at) other → FindSame abbrevs unit_end name (pairs + 2, after) other
plain_more abbrevs unit_end name pairs at other attribute form after = pair_more abbrevs unit_end name pairs at other (plain_pair attribute form) (pairs + 2) after

-- ---- the loop over the other pairs

pub read_met : (name attribute : ℕ) (r : Result (Value × ℕ) Fault) (others : ℕ → Attributes) → (attribute == name) ≡ true
    → attribute_of (value_before attribute r others) name ≡ value_read r
read_met name attribute (Ok v) others same = first_met name attribute v.0 (others v.1) same
read_met name attribute (Err f) others same = refl

module _ (info abbrevs : List ℕ) (head : Head) (kept : EntryHead) (pairs at name : ℕ)
    (so_far : attribute_of (left_values info abbrevs head kept.offset pairs at) name ≡ attribute_of (values_of info abbrevs head kept) name) where
  pub ask_more : (s : Spec) (next after : ℕ) → IsPair abbrevs pairs s next
      → place_after (value_at s.form s.implicit head.offset head.end kept.offset info at) ≡ Ok after → (s.attribute == name) ≡ false
      → attribute_of (left_values info abbrevs head kept.offset next after) name ≡ attribute_of (values_of info abbrevs head kept) name
  ask_more s next after h passed apart = passed_over info abbrevs head kept.offset pairs at name s next after h passed apart ∙ so_far

  pub ask_met : (s : Spec) (next : ℕ) → IsPair abbrevs pairs s next → (s.attribute == name) ≡ true
      → value_read (value_at s.form s.implicit head.offset head.end kept.offset info at) ≡ attribute_of (values_of info abbrevs head kept) name
  ask_met s next h same =
      sym (read_met name s.attribute (value_at s.form s.implicit head.offset head.end kept.offset info at) (left_values info abbrevs head kept.offset next) same)
      ∙ ap (λ (l : Attributes). attribute_of l name) (sym (left_front info abbrevs head kept.offset pairs at s next h))
      ∙ so_far

  pub ask_fault : (s : Spec) (next : ℕ) (f : Fault) → IsPair abbrevs pairs s next
      → value_at s.form s.implicit head.offset head.end kept.offset info at ≡ Err f
      → None ≡ attribute_of (values_of info abbrevs head kept) name
  ask_fault s next f h read =
      let others = left_values info abbrevs head kept.offset next in
      ap (λ (r : Result (Value × ℕ) Fault). attribute_of (value_before s.attribute r others) name) (sym read)
      ∙ ap (λ (l : Attributes). attribute_of l name) (sym (left_front info abbrevs head kept.offset pairs at s next h))
      ∙ so_far

  pub ask_cut : (s : Spec) (next : ℕ) (f : Fault) → IsPair abbrevs pairs s next
      → place_after (value_at s.form s.implicit head.offset head.end kept.offset info at) ≡ Err f
      → None ≡ attribute_of (values_of info abbrevs head kept) name
  ask_cut s next f h passed = ask_fault s next f h (faults_behind (value_at s.form s.implicit head.offset head.end kept.offset info at) f passed)

  pub ask_end : (specs_run abbrevs pairs).items ≡ [] → None ≡ attribute_of (values_of info abbrevs head kept) name
  unfolding values_from
  ask_end h =
      ap (λ (specs : List Spec). attribute_of (values_from info head kept.offset specs at) name) (sym h)
      ∙ so_far

pub ask_start : (info abbrevs : List ℕ) (head : Head) (kept : EntryHead) (name code after : ℕ) → uleb_at (take head.end info) kept.offset ≡ Some (code, after)
    → attribute_of (left_values info abbrevs head kept.offset kept.specs_from after) name ≡ attribute_of (values_of info abbrevs head kept) name
unfolding values_of
ask_start info abbrevs head kept name code after h =
    ap (λ (o : Option (ℕ × ℕ)). attribute_of (behind o (left_values info abbrevs head kept.offset kept.specs_from)) name) (sym h)

pub ask_nothing : (info abbrevs : List ℕ) (head : Head) (kept : EntryHead) (name : ℕ) → uleb_at (take head.end info) kept.offset ≡ None
    → None ≡ attribute_of (values_of info abbrevs head kept) name
unfolding values_of
ask_nothing info abbrevs head kept name h =
    ap (λ (o : Option (ℕ × ℕ)). attribute_of (behind o (left_values info abbrevs head kept.offset kept.specs_from)) name) (sym h)
