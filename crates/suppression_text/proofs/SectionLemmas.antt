-- The sections of lines with one more line.
use Rattle.std.proofs.Common.{◌≡◌, ◌<◌, ◌+◌, ◌-◌, ◌⊎◌, inl, inr, ℕ, suc, Bool, true, false, List, [], ◌∷◌, ◌++◌, length, Option, Some, None, refl, sym, ◌∙◌, ap, arith}
use Rattle.std.specs.Prelude.{is_none, slice_get, slice_set}
use Rattle.std.proofs.lemmas.List.{append_assoc, append-nil, length-append}
use Rattle.suppression_text.specs.declared.key.SectionKind.{SectionKind}
use Rattle.suppression_text.specs.Keys.{section_named, key_named}
use Rattle.suppression_text.specs.Lines.{Form, Comment, Head, Property, Other}
use Rattle.suppression_text.specs.Rules.{PlainProperty, PlainSection, keyed, headed, properties_in, sections_from}
use Rattle.abi_base.specs.declared.fault.FaultKind.TheVariants as kind
use Rattle.abi_base.specs.Outcome.{fault_if}
use Rattle.suppression_text.specs.Faults.{last_of, form_fault}
use Rattle.suppression_text.specs.Steps.{with_properties, with_form}

-- each head has a known name
abbrev pub AreKnown : List Form → Type 0
AreKnown [] = Unit {0}
AreKnown (Head name ∷ forms) = (is_none (section_named name) ≡ false) × AreKnown forms
AreKnown (Property name value ∷ forms) = AreKnown forms
AreKnown (Comment ∷ forms) = AreKnown forms
AreKnown (Other ∷ forms) = AreKnown forms

abbrev has_head : List Form → Bool
has_head [] = false
has_head (Head name ∷ forms) = true
has_head (Property name value ∷ forms) = has_head forms
has_head (Comment ∷ forms) = has_head forms
has_head (Other ∷ forms) = has_head forms

-- ---- properties before the next head

in_front : (xs ys : List Form) → has_head xs ≡ true → properties_in (xs ++ ys) ≡ properties_in xs
unfolding properties_in
in_front [] ys has = cc
in_front (Head name ∷ xs) ys has = refl
in_front (Property name value ∷ xs) ys has = ap (λ (ps : List PlainProperty). keyed (key_named name) value ++ ps) (in_front xs ys has)
in_front (Comment ∷ xs) ys has = in_front xs ys has
in_front (Other ∷ xs) ys has = in_front xs ys has

across : (xs ys : List Form) → has_head xs ≡ false → properties_in (xs ++ ys) ≡ properties_in xs ++ properties_in ys
unfolding properties_in
across [] ys has = refl
across (Head name ∷ xs) ys has = cc
across (Property name value ∷ xs) ys has =
    ap (λ (ps : List PlainProperty). keyed (key_named name) value ++ ps) (across xs ys has) ∙ sym (append_assoc (keyed (key_named name) value) (properties_in xs) (properties_in ys))
across (Comment ∷ xs) ys has = across xs ys has
across (Other ∷ xs) ys has = across xs ys has

-- ---- sections

none_headed : (n : ℕ) (xs : List Form) → has_head xs ≡ false → sections_from n xs ≡ []
unfolding sections_from
none_headed n [] has = refl
none_headed n (Head name ∷ xs) has = cc
none_headed n (Property name value ∷ xs) has = none_headed (n + 1) xs has
none_headed n (Comment ∷ xs) has = none_headed (n + 1) xs has
none_headed n (Other ∷ xs) has = none_headed (n + 1) xs has

headed_some : (n : ℕ) (k : Option SectionKind) (ps : List PlainProperty) → is_none k ≡ false → length (headed n k ps) ≡ 1
headed_some n None ps is = cc
headed_some n (Some kind) ps is = refl

some_headed : (n : ℕ) (xs : List Form) → AreKnown xs → has_head xs ≡ true → 0 < length (sections_from n xs)
unfolding sections_from
some_headed n [] known has = cc
some_headed n (Head name ∷ xs) known has =
    omega (arith, length-append (headed n (section_named name) (properties_in xs)) (sections_from (n + 1) xs), headed_some n (section_named name) (properties_in xs) known.0)
some_headed n (Property name value ∷ xs) known has = some_headed (n + 1) xs known has
some_headed n (Comment ∷ xs) known has = some_headed (n + 1) xs known has
some_headed n (Other ∷ xs) known has = some_headed (n + 1) xs known has

-- ---- properties of the last section

abbrev put : List PlainSection → List PlainProperty → List PlainSection
put sections ps = with_properties sections (last_of sections) ps

-- appends properties to the section at a place
abbrev put_at : List PlainSection → ℕ → Option PlainSection → List PlainProperty → List PlainSection
put_at sections i None ps = sections
put_at sections i (Some section) ps = slice_set sections i (record section { properties = section.properties ++ ps })

put_is : (sections : List PlainSection) (o : Option PlainSection) (ps : List PlainProperty) → with_properties sections o ps ≡ put_at sections (length sections - 1) o ps
put_is sections None ps = refl
put_is sections (Some section) ps = refl

put_through : (s : PlainSection) (ss : List PlainSection) (i : ℕ) (o : Option PlainSection) (ps : List PlainProperty) → put_at (s ∷ ss) (suc i) o ps ≡ s ∷ put_at ss i o ps
put_through s ss i None ps = refl
put_through s ss i (Some section) ps = refl

put_later : (s : PlainSection) (ss : List PlainSection) (ps : List PlainProperty) → 0 < length ss → put (s ∷ ss) ps ≡ s ∷ put ss ps
put_later s ss ps some =
    let e : length (s ∷ ss) - 1 ≡ suc (length ss - 1) = omega (arith, some) in
    put_is (s ∷ ss) (last_of (s ∷ ss)) ps
    ∙ ap (λ (i : ℕ). put_at (s ∷ ss) i (slice_get (s ∷ ss) i) ps) e
    ∙ put_through s ss (length ss - 1) (slice_get ss (length ss - 1)) ps
    ∙ ap (λ (rest : List PlainSection). s ∷ rest) (sym (put_is ss (last_of ss) ps))

last_put : (h : List PlainSection) (ss : List PlainSection) (ps : List PlainProperty) → 0 < length ss → put (h ++ ss) ps ≡ h ++ put ss ps
last_put [] ss ps some = refl
last_put (s ∷ h) ss ps some = put_later s (h ++ ss) ps (omega (arith, some, length-append h ss)) ∙ ap (λ (rest : List PlainSection). s ∷ rest) (last_put h ss ps some)

put_headed : (n : ℕ) (k : Option SectionKind) (before ps : List PlainProperty) → is_none k ≡ false → put (headed n k before) ps ≡ headed n k (before ++ ps)
put_headed n None before ps is = cc
put_headed n (Some kind) before ps is = refl

head_cases : (xs : List Form) → (has_head xs ≡ true) ⊎ (has_head xs ≡ false)
head_cases xs = elim (has_head xs) as (λ b. (b ≡ true) ⊎ (b ≡ false)) [ true ↦ inl refl | false ↦ inr refl ]

-- a property goes into the last section
put_one : (n : ℕ) (xs : List Form) (name value : List ℕ) → AreKnown xs → sections_from n (xs ++ Property name value ∷ []) ≡ put (sections_from n xs) (keyed (key_named name) value)
unfolding sections_from properties_in
put_one n [] name value known = refl
put_one n (Head head ∷ xs) name value known =
    let k = section_named head in
    let ps = keyed (key_named name) value in
    let rest = put_one (n + 1) xs name value known.1 in
    elim (head_cases xs) [
      | inl has ↦
          ap (λ (qs : List PlainProperty). headed n k qs ++ sections_from (n + 1) (xs ++ Property name value ∷ [])) (in_front xs (Property name value ∷ []) has)
          ∙ ap (λ (ss : List PlainSection). headed n k (properties_in xs) ++ ss) rest
          ∙ sym (last_put (headed n k (properties_in xs)) (sections_from (n + 1) xs) ps (some_headed (n + 1) xs known.1 has))
      | inr none ↦
          let before = properties_in xs in
          let empty : sections_from (n + 1) xs ≡ [] = none_headed (n + 1) xs none in
          let more : properties_in (xs ++ Property name value ∷ []) ≡ before ++ ps = across xs (Property name value ∷ []) none ∙ ap (λ (qs : List PlainProperty). before ++ qs) (append-nil ps) in
          let stays : sections_from (n + 1) (xs ++ Property name value ∷ []) ≡ [] = rest ∙ ap (λ (ss : List PlainSection). put ss ps) empty in
          let was : headed n k before ++ sections_from (n + 1) xs ≡ headed n k before = ap (λ (ss : List PlainSection). headed n k before ++ ss) empty ∙ append-nil (headed n k before) in
          ap (λ (qs : List PlainProperty). headed n k qs ++ sections_from (n + 1) (xs ++ Property name value ∷ [])) more
          ∙ ap (λ (ss : List PlainSection). headed n k (before ++ ps) ++ ss) stays
          ∙ append-nil (headed n k (before ++ ps))
          ∙ sym (put_headed n k before ps known.0)
          ∙ ap (λ (ss : List PlainSection). put ss ps) (sym was)
    ]
put_one n (Property other was ∷ xs) name value known = put_one (n + 1) xs name value known
put_one n (Comment ∷ xs) name value known = put_one (n + 1) xs name value known
put_one n (Other ∷ xs) name value known = put_one (n + 1) xs name value known

-- a head ends the properties before it
ended : (xs : List Form) (name : List ℕ) → properties_in (xs ++ Head name ∷ []) ≡ properties_in xs
unfolding properties_in
ended xs name = elim (head_cases xs) [
  | inl has ↦ in_front xs (Head name ∷ []) has
  | inr none ↦ across xs (Head name ∷ []) none ∙ append-nil (properties_in xs)
]

-- a head begins a new section
head_one : (n : ℕ) (xs : List Form) (name : List ℕ) → sections_from n (xs ++ Head name ∷ []) ≡ sections_from n xs ++ headed (n + length xs) (section_named name) []
unfolding sections_from properties_in
head_one n [] name =
    let number : n ≡ n + length {A = Form} [] = omega arith in
    append-nil (headed n (section_named name) []) ∙ ap (λ (m : ℕ). headed m (section_named name) []) number
head_one n (Head head ∷ xs) name =
    let first = headed n (section_named head) (properties_in xs) in
    let number : (n + 1) + length xs ≡ n + length (Head head ∷ xs) = omega arith in
    ap (λ (qs : List PlainProperty). headed n (section_named head) qs ++ sections_from (n + 1) (xs ++ Head name ∷ [])) (ended xs name)
    ∙ ap (λ (ss : List PlainSection). first ++ ss) (head_one (n + 1) xs name ∙ ap (λ (m : ℕ). sections_from (n + 1) xs ++ headed m (section_named name) []) number)
    ∙ sym (append_assoc first (sections_from (n + 1) xs) (headed (n + length (Head head ∷ xs)) (section_named name) []))
head_one n (Property other was ∷ xs) name =
    let number : (n + 1) + length xs ≡ n + length (Property other was ∷ xs) = omega arith in
    head_one (n + 1) xs name ∙ ap (λ (m : ℕ). sections_from (n + 1) xs ++ headed m (section_named name) []) number
head_one n (Comment ∷ xs) name =
    let number : (n + 1) + length xs ≡ n + length (Comment ∷ xs) = omega arith in
    head_one (n + 1) xs name ∙ ap (λ (m : ℕ). sections_from (n + 1) xs ++ headed m (section_named name) []) number
head_one n (Other ∷ xs) name =
    let number : (n + 1) + length xs ≡ n + length (Other ∷ xs) = omega arith in
    head_one (n + 1) xs name ∙ ap (λ (m : ℕ). sections_from (n + 1) xs ++ headed m (section_named name) []) number

-- a line that is neither changes nothing
comment_after : (xs : List Form) → properties_in (xs ++ Comment ∷ []) ≡ properties_in xs
unfolding properties_in
comment_after xs = elim (head_cases xs) [
  | inl has ↦ in_front xs (Comment ∷ []) has
  | inr none ↦ across xs (Comment ∷ []) none ∙ append-nil (properties_in xs)
]

other_after : (xs : List Form) → properties_in (xs ++ Other ∷ []) ≡ properties_in xs
unfolding properties_in
other_after xs = elim (head_cases xs) [
  | inl has ↦ in_front xs (Other ∷ []) has
  | inr none ↦ across xs (Other ∷ []) none ∙ append-nil (properties_in xs)
]

comment_one : (n : ℕ) (xs : List Form) → sections_from n (xs ++ Comment ∷ []) ≡ sections_from n xs
unfolding sections_from properties_in
comment_one n [] = refl
comment_one n (Head head ∷ xs) =
    ap (λ (qs : List PlainProperty). headed n (section_named head) qs ++ sections_from (n + 1) (xs ++ Comment ∷ [])) (comment_after xs)
    ∙ ap (λ (ss : List PlainSection). headed n (section_named head) (properties_in xs) ++ ss) (comment_one (n + 1) xs)
comment_one n (Property other was ∷ xs) = comment_one (n + 1) xs
comment_one n (Comment ∷ xs) = comment_one (n + 1) xs
comment_one n (Other ∷ xs) = comment_one (n + 1) xs

other_one : (n : ℕ) (xs : List Form) → sections_from n (xs ++ Other ∷ []) ≡ sections_from n xs
unfolding sections_from properties_in
other_one n [] = refl
other_one n (Head head ∷ xs) =
    ap (λ (qs : List PlainProperty). headed n (section_named head) qs ++ sections_from (n + 1) (xs ++ Other ∷ [])) (other_after xs)
    ∙ ap (λ (ss : List PlainSection). headed n (section_named head) (properties_in xs) ++ ss) (other_one (n + 1) xs)
other_one n (Property other was ∷ xs) = other_one (n + 1) xs
other_one n (Comment ∷ xs) = other_one (n + 1) xs
other_one n (Other ∷ xs) = other_one (n + 1) xs

-- the sections of lines with one more line
pub sections-more : (n : ℕ) (xs : List Form) (f : Form) → AreKnown xs → sections_from n (xs ++ f ∷ []) ≡ with_form (n + length xs) (sections_from n xs) f
sections-more n xs Comment known = comment_one n xs
sections-more n xs (Head name) known = head_one n xs name
sections-more n xs (Property name value) known = put_one n xs name value known
sections-more n xs Other known = other_one n xs

-- ---- known heads

abbrev IsKnown : Form → Type 0
IsKnown (Head name) = is_none (section_named name) ≡ false
IsKnown (Property name value) = Unit {0}
IsKnown Comment = Unit {0}
IsKnown Other = Unit {0}

known_more : (xs : List Form) (f : Form) → AreKnown xs → IsKnown f → AreKnown (xs ++ f ∷ [])
known_more [] (Head name) known is = (is, tt)
known_more [] (Property name value) known is = tt
known_more [] Comment known is = tt
known_more [] Other known is = tt
known_more (Head name ∷ xs) f known is = (known.0, known_more xs f known.1 is)
known_more (Property name value ∷ xs) f known is = known_more xs f known is
known_more (Comment ∷ xs) f known is = known_more xs f known is
known_more (Other ∷ xs) f known is = known_more xs f known is

no_fault_if : (b : Bool) (at : ℕ) → fault_if b kind.Section at ≡ None → b ≡ false
no_fault_if true at is = cc
no_fault_if false at is = refl

known_form : (n : ℕ) (section : Option PlainSection) (f : Form) → form_fault n section f ≡ None → IsKnown f
known_form n section (Head name) is = no_fault_if (is_none (section_named name)) n is
known_form n section (Property name value) is = tt
known_form n section Comment is = tt
known_form n section Other is = tt

pub AreKnown-more : (n : ℕ) (section : Option PlainSection) (xs : List Form) (f : Form) → AreKnown xs → form_fault n section f ≡ None → AreKnown (xs ++ f ∷ [])
AreKnown-more n section xs f known is = known_more xs f known (known_form n section f is)
