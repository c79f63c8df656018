-- The first fault of a rule file, by places.
use Rattle.std.proofs.Common.{◌≡◌, ◌<◌, ◌≤◌, ◌+◌, ◌⊎◌, inl, inr, ℕ, zero, suc, Bool, true, false, List, [], ◌∷◌, ◌++◌, length, map, Option, Some, None, refl, sym, ◌∙◌, ap, arith}
use Rattle.std.specs.Prelude.{if◌then◌else◌, not, nat_lt, ◌&&◌, slice_get, slice_index_or, is_none, ◌==◌, ◌||◌}
use Rattle.std.specs.List.{range_with_len}
use Rattle.std.specs.Str.{is_utf8}
use Rattle.std.proofs.lemmas.Bool.{cases_eq}
use Rattle.abi_base.proofs.lemmas.Options.{some_same}
use Rattle.abi_base.specs.declared.fault.Fault.{Fault}
use Rattle.abi_base.specs.declared.fault.FaultKind.{FaultKind}
use Rattle.abi_base.specs.declared.fault.FaultKind.TheVariants as kind
use Rattle.abi_base.specs.Outcome.{first, fault_if}
use Rattle.suppression_text.specs.declared.key.Key.{Key}
use Rattle.suppression_text.specs.Keys.{section_named, key_named, has_key, takes_value, has_pattern}
use Rattle.suppression_text.specs.Lines.{Form, Comment, Head, Property, Other, forms_of}
use Rattle.suppression_text.specs.Patterns.{is_no_pattern}
use Rattle.suppression_text.specs.Rules.{PlainSection, sections_of}
use Rattle.suppression_text.specs.Faults.{fault_at, has, has_brace, pattern_limit, text_fault, checked_faults, checked_fault, key_fault, named_fault, placed_fault, property_fault, form_fault, section_above, line_fault, line_faults, is_empty_rule, section_fault, rule_fault}
use Rattle.suppression_text.specs.FirstFaults.{IsClear, IsOfLine, IsOfSection, IsFirstFault, IsFaultless}

-- ---- faults of one place

abbrev IsAt : ℕ → Option Fault → Type 0
IsAt n o = (f : Fault) → o ≡ Some f → f.at ≡ n

none_at : (n : ℕ) → IsAt n None
none_at n f e = cc

one_at : (n : ℕ) (k : FaultKind) → IsAt n (Some (fault_at k n))
one_at n k f e = ap (λ (g : Fault). g.at) (sym (some_same (fault_at k n) f e))

if_at : (n : ℕ) (b : Bool) (k : FaultKind) → IsAt n (fault_if b k n)
if_at n true k = one_at n k
if_at n false k = none_at n

cons_at : (n : ℕ) (o : Option Fault) (os : List (Option Fault)) → IsAt n o → IsAt n (first os) → IsAt n (first (o ∷ os))
cons_at n None os here later = later
cons_at n (Some g) os here later = here

abbrev AllAt : ℕ → List (Option Fault) → Type 0
AllAt n [] = Unit {0}
AllAt n (o ∷ os) = IsAt n o × AllAt n os

first_at : (n : ℕ) (os : List (Option Fault)) → AllAt n os → IsAt n (first os)
first_at n [] all = none_at n
first_at n (o ∷ os) all = cons_at n o os all.0 (first_at n os all.1)

checked_at : (n : ℕ) (section : PlainSection) (key : Key) (value : List ℕ) → IsAt n (checked_fault n section key value)
unfolding checked_fault
checked_at n section key value = first_at n (checked_faults n section key value) (
  if_at n (not (has_key section.kind key && takes_value key value)) kind.Property,
  (
    if_at n (has key section) kind.Repeated,
    (
      if_at n (has_pattern key && nat_lt pattern_limit (length value)) kind.LongPattern,
      (if_at n (has_pattern key && has_brace value) kind.Brace, tt),
    ),
  ),
)

key_at : (n : ℕ) (section : PlainSection) (key : Key) (value : List ℕ) → IsAt n (key_fault n section key value)
unfolding key_fault
key_at n section key value =
    first_at n (checked_fault n section key value ∷ fault_if (is_no_pattern key value) kind.BadPattern n ∷ [])
    (checked_at n section key value, (if_at n (is_no_pattern key value) kind.BadPattern, tt))

named_at : (n : ℕ) (section : PlainSection) (key : Option Key) (value : List ℕ) → IsAt n (named_fault n section key value)
named_at n section None value = one_at n kind.Property
named_at n section (Some key) value = key_at n section key value

placed_at : (n : ℕ) (section : Option PlainSection) (name value : List ℕ) → IsAt n (placed_fault n section name value)
placed_at n None name value = one_at n kind.RuleLine
placed_at n (Some section) name value = named_at n section (key_named name) value

either_at : (n : ℕ) (b : Bool) (k : FaultKind) (o : Option Fault) → IsAt n o → IsAt n (if b then Some (fault_at k n) else o)
either_at n true k o later = one_at n k
either_at n false k o later = later

property_at : (n : ℕ) (section : Option PlainSection) (name value : List ℕ) → IsAt n (property_fault n section name value)
unfolding property_fault
property_at n section name value = either_at n (length name == 0 || length value == 0) kind.RuleLine (placed_fault n section name value) (placed_at n section name value)

form_at : (n : ℕ) (section : Option PlainSection) (form : Form) → IsAt n (form_fault n section form)
form_at n section Comment = none_at n
form_at n section (Head name) = if_at n (is_none (section_named name)) kind.Section
form_at n section (Property name value) = property_at n section name value
form_at n section Other = one_at n kind.RuleLine

-- ---- places in order

-- the first of places that has a fault
record PatternMatch (g : ℕ → Option Fault) (i n : ℕ) (f : Fault) : Type 0 where
  place : ℕ
  from : i ≤ place
  below : place < i + n
  is : g place ≡ Some f
  before : (j : ℕ) → i ≤ j → j < place → g j ≡ None

found_in : (g : ℕ → Option Fault) (i n : ℕ) (f : Fault) (o : Option Fault) → g i ≡ o → first (o ∷ map g (range_with_len (i + 1) n)) ≡ Some f → ((first (map g (range_with_len (i + 1) n)) ≡ Some f) → PatternMatch g (i + 1) n f) → PatternMatch g i (suc n) f
found_in g i n f None here is later =
    let rest = later is in
    record {
      place = rest.place;
      from = omega (arith, rest.from);
      below = omega (arith, rest.below);
      is = rest.is;
      before = λ j le lt. elim (cases_eq i j) [ inl e ↦ ap g (sym e) ∙ here | inr other ↦ rest.before j (omega (arith, le, other)) lt ];
    }
found_in g i n f (Some h) here is later = record {
  place = i;
  from = omega arith;
  below = omega arith;
  is = here ∙ is;
  before = λ j le lt. absurd (omega (arith, le, lt));
}

found : (g : ℕ → Option Fault) (i n : ℕ) (f : Fault) → first (map g (range_with_len i n)) ≡ Some f → PatternMatch g i n f
found g i zero f is = cc
found g i (suc n) f is = found_in g i n f (g i) refl is (found g (i + 1) n f)

clear_in : (g : ℕ → Option Fault) (i n : ℕ) (o : Option Fault) → g i ≡ o → first (o ∷ map g (range_with_len (i + 1) n)) ≡ None → (g i ≡ None) × (first (map g (range_with_len (i + 1) n)) ≡ None)
clear_in g i n None here is = (here, is)
clear_in g i n (Some h) here is = cc

clear : (g : ℕ → Option Fault) (i n : ℕ) → first (map g (range_with_len i n)) ≡ None → (j : ℕ) → i ≤ j → j < i + n → g j ≡ None
clear g i zero is j le lt = absurd (omega (arith, le, lt))
clear g i (suc n) is j le lt =
    let both = clear_in g i n (g i) refl is in
    elim (cases_eq i j) [ inl e ↦ ap g (sym e) ∙ both.0 | inr other ↦ clear g (i + 1) n both.1 j (omega (arith, le, other)) (omega (arith, lt)) ]

-- ---- sections in order

record FoundSection (ss : List PlainSection) (f : Fault) : Type 0 where
  place : ℕ
  section : PlainSection
  at : slice_get ss place ≡ Some section
  is : section_fault section ≡ Some f
  before : (j : ℕ) (other : PlainSection) → j < place → slice_get ss j ≡ Some other → section_fault other ≡ None

section_in : (s : PlainSection) (ss : List PlainSection) (f : Fault) (o : Option Fault) → section_fault s ≡ o → first (o ∷ map section_fault ss) ≡ Some f → (first (map section_fault ss) ≡ Some f → FoundSection ss f) → FoundSection (s ∷ ss) f
section_in s ss f None here is later =
    let rest = later is in
    record {
      place = suc rest.place;
      section = rest.section;
      at = rest.at;
      is = rest.is;
      before = λ j. elim j as (λ j. (other : PlainSection) → j < suc rest.place → slice_get (s ∷ ss) j ≡ Some other → section_fault other ≡ None) [
        | zero ↦ λ other lt at. ap section_fault (sym (some_same s other at)) ∙ here
        | suc k ↦ λ other lt at. rest.before k other (omega (arith, lt)) at
      ];
    }
section_in s ss f (Some g) here is later = record {
  place = 0;
  section = s;
  at = refl;
  is = here ∙ is;
  before = λ j other lt at. absurd (omega (arith, lt));
}

found_section : (ss : List PlainSection) (f : Fault) → first (map section_fault ss) ≡ Some f → FoundSection ss f
found_section [] f is = cc
found_section (s ∷ ss) f is = section_in s ss f (section_fault s) refl is (found_section ss f)

selects : (b : Bool) (n : ℕ) → fault_if b kind.EmptyRule n ≡ None → b ≡ false
selects true n is = cc
selects false n is = refl

sections_clear_in : (s : PlainSection) (ss : List PlainSection) (o : Option Fault) → section_fault s ≡ o → first (o ∷ map section_fault ss) ≡ None → (section_fault s ≡ None) × (first (map section_fault ss) ≡ None)
sections_clear_in s ss None here is = (here, is)
sections_clear_in s ss (Some f) here is = cc

sections_clear : (ss : List PlainSection) → first (map section_fault ss) ≡ None → (j : ℕ) (section : PlainSection) → slice_get ss j ≡ Some section → is_empty_rule section ≡ false
sections_clear [] is j section at = cc
sections_clear (s ∷ ss) is zero section at =
    let both = sections_clear_in s ss (section_fault s) refl is in
    ap is_empty_rule (sym (some_same s section at)) ∙ selects (is_empty_rule s) s.line both.0
sections_clear (s ∷ ss) is (suc j) section at =
    let both = sections_clear_in s ss (section_fault s) refl is in
    sections_clear ss both.1 j section at

-- ---- the whole

joined : (xs ys : List (Option Fault)) (f : Fault) → first (xs ++ ys) ≡ Some f → (first xs ≡ Some f) ⊎ ((first xs ≡ None) × (first ys ≡ Some f))
joined [] ys f is = inr (refl, is)
joined (None ∷ xs) ys f is = joined xs ys f is
joined (Some g ∷ xs) ys f is = inl is

joined_none : (xs ys : List (Option Fault)) → first (xs ++ ys) ≡ None → (first xs ≡ None) × (first ys ≡ None)
joined_none [] ys is = (refl, is)
joined_none (None ∷ xs) ys is = joined_none xs ys is
joined_none (Some g ∷ xs) ys is = cc

of_line : (forms : List Form) (f : Fault) → first (line_faults forms) ≡ Some f → IsOfLine forms f
of_line forms f is =
    let at = found (line_fault forms) 0 (length forms) f is in
    record {
      place = at.place;
      inside = omega (arith, at.below);
      is = at.is;
      number = form_at (at.place + 1) (section_above forms at.place) (slice_index_or forms at.place Comment) f at.is;
      before = λ j lt. at.before j (omega arith) lt;
    }

all_clear : (forms : List Form) → first (line_faults forms) ≡ None → IsClear forms (length forms)
all_clear forms is j lt = clear (line_fault forms) 0 (length forms) is j (omega arith) (omega (arith, lt))

of_section : (forms : List Form) (f : Fault) → first (line_faults forms) ≡ None → first (map section_fault (sections_of forms)) ≡ Some f → IsOfSection forms f
of_section forms f none is =
    let at = found_section (sections_of forms) f is in
    record { lines = all_clear forms none; place = at.place; section = at.section; at = at.at; is = at.is; before = at.before }

by_text : (bytes : List ℕ) (f : Fault) (o : Option Fault) → text_fault bytes ≡ o → first (o ∷ line_faults (forms_of bytes) ++ map section_fault (sections_of (forms_of bytes))) ≡ Some f → IsFirstFault bytes f
by_text bytes f None text is =
    elim (joined (line_faults (forms_of bytes)) (map section_fault (sections_of (forms_of bytes))) f is) [
      | inl line ↦ inr (text, inl (of_line (forms_of bytes) f line))
      | inr both ↦ inr (text, inr (of_section (forms_of bytes) f both.0 both.1))
    ]
by_text bytes f (Some g) text is = inl (text ∙ is)

pub first_one : (bytes : List ℕ) (f : Fault) → rule_fault bytes ≡ Some f → IsFirstFault bytes f
unfolding rule_fault
first_one bytes f is = by_text bytes f (text_fault bytes) refl is

is_text : (b : Bool) (n : ℕ) → fault_if (not b) kind.BadText n ≡ None → b ≡ true
is_text true n is = refl
is_text false n is = cc

none_by_text : (bytes : List ℕ) (o : Option Fault) → text_fault bytes ≡ o → first (o ∷ line_faults (forms_of bytes) ++ map section_fault (sections_of (forms_of bytes))) ≡ None → IsFaultless bytes
none_by_text bytes None text is =
    let both = joined_none (line_faults (forms_of bytes)) (map section_fault (sections_of (forms_of bytes))) is in
    record { text = is_text (is_utf8 bytes) _ text; lines = all_clear (forms_of bytes) both.0; sections = sections_clear (sections_of (forms_of bytes)) both.1 }
none_by_text bytes (Some f) text is = cc

pub faultless : (bytes : List ℕ) → rule_fault bytes ≡ None → IsFaultless bytes
unfolding rule_fault
faultless bytes is = none_by_text bytes (text_fault bytes) refl is
