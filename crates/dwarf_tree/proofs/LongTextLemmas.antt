-- Where texts end, in a section and in its front.
use Rattle.std.proofs.Common.{◌≡◌, ◌≢◌, ◌<◌, ◌+◌, ◌-◌, ℕ, Bool, false, cond, List, ◌∷◌, [], ◌++◌, length, take, drop, get_or, Option, Some, None, Ok, refl, sym, ◌∙◌, ap, subst, min, ltb, inl, inr, arith}
use Rattle.std.specs.Prelude.{ℤ, All, position}
use Rattle.std.specs.List.{position_or_len}
use Rattle.std.specs.Option.{option_map}
use Rattle.std.proofs.lemmas.Bool.{cases_Bool, eqb-true, eqb-false, eq-eqb, lt-ltb}
use Rattle.std.proofs.lemmas.List.{get_or-take, get_or-drop, length-take, length-drop}
use Rattle.std.proofs.lemmas.List.Elements.{All-push}
use Rattle.std.proofs.lemmas.List.Quantifiers.{position-Some}
use Rattle.std.proofs.lemmas.Option.{get_or_from_slice_get, slice_get_within}
use Rattle.std.proofs.lemmas.List.Sums.{position_or_len_is}
use Rattle.abi_base.specs.Dwarf.{dw_form_string}
use Rattle.abi_base.specs.Numbers.{is_zero, text_at}
use Rattle.dwarf_forms.specs.Values.{place_after, value_at}
use Rattle.dwarf_forms.specs.declared.values.Value.TheVariants as value
use Rattle.dwarf_tree.specs.declared.long_texts.LongText.{LongText}
use Rattle.dwarf_tree.specs.Keeping.{value_read}
use Rattle.dwarf_tree.specs.LongTexts.{IsKeptEnd, IsLongText, TextEnds}
use Rattle.dwarf_tree.proofs.AskLemmas.{text_passed, text_read}

not_zero : (n : ℕ) → is_zero n ≡ false → n ≢ 0
not_zero n apart same = eqb-false n 0 apart same

is_not_zero : (n : ℕ) → n ≢ 0 → is_zero n ≡ false
is_not_zero n apart = elim (cases_Bool (is_zero n)) [ inl is ↦ absurd (apart (eqb-true n 0 is)) | inr other ↦ other ]

-- ---- a text that was read

-- the number of its letters is where its byte 0 is
letters_before : (rest : List ℕ) (found : Option ℕ) (letters : List ℕ) → position is_zero rest ≡ found → Some letters ≡ option_map (λ len. take len rest) found → position is_zero rest ≡ Some (length letters)
letters_before rest None letters at is = absurd cc
letters_before rest (Some n) letters at is =
    let inside : n < length rest = (position-Some is_zero rest n 0 at).0 in
    let same : letters ≡ take n rest = cc in
    let len : length letters ≡ n = ap length same ∙ length-take n rest ∙ omega arith in
    at ∙ ap (λ (m : ℕ). Some m) (sym len)

pub text_ends : (bytes : List ℕ) (at : ℕ) (letters : List ℕ) → Some letters ≡ text_at bytes at → TextEnds bytes at (at + length letters)
unfolding text_at
text_ends bytes at letters is =
    let rest = drop at bytes in
    let found = position-Some is_zero rest (length letters) 0 (letters_before rest (position is_zero rest) letters refl is) in
    let room : length letters < length bytes - at = rw length-drop at found.0 in
    record {
      rises = omega arith;
      inside = omega (arith, room);
      zero = sym (get_or-drop at bytes (length letters) 0) ∙ eqb-true (get_or rest (length letters) 0) 0 found.1;
      letters = λ k from before.
          let apart = found.2 (k - at) (omega (arith, from, before)) in
          let place : at + (k - at) ≡ k = omega (arith, from) in
          let same : get_or rest (k - at) 0 ≡ get_or bytes k 0 = get_or-drop at bytes (k - at) 0 ∙ ap (λ (n : ℕ). get_or bytes n 0) place in
          subst (λ (n : ℕ). n ≢ 0) same (not_zero (get_or rest (k - at) 0) apart);
    }

-- what ends in the front of a section ends in the section
pub ends_in_front : (info : List ℕ) (front at : ℕ) (letters : List ℕ) → Some letters ≡ text_at (take front info) at → TextEnds info at (at + length letters)
ends_in_front info front at letters is =
    let to = at + length letters in
    let ends = text_ends (take front info) at letters is in
    let room : to < min front (length info) = rw length-take at ends.inside in
    let before : to < front = omega (arith, room) in
    record {
      rises = ends.rises;
      inside = omega (arith, room);
      zero = sym (get_or-take front info to 0 before) ∙ ends.zero;
      letters = λ k from below. subst (λ (n : ℕ). n ≢ 0) (get_or-take front info k 0 (omega (arith, below, before))) (ends.letters k from below);
    }

-- ---- long texts

pub long_texts_more : (info : List ℕ) (texts : List LongText) (at : ℕ) (letters : List ℕ) → All (IsLongText info) texts → Some letters ≡ text_at info at → All (IsLongText info) (texts ++ record { from = at; to = at + length letters } ∷ [])
long_texts_more info texts at letters so_far is = All-push (IsLongText info) texts (record { from = at; to = at + length letters }) so_far (text_ends info at letters is)

-- a text that begins in a long text ends with it
pub ends_as_kept : (info : List ℕ) (texts : List LongText) (at to : ℕ) → All (IsLongText info) texts → IsKeptEnd texts at to → TextEnds info at to
ends_as_kept info texts at to are kept =
    let whole : IsLongText info kept.text =
    subst (IsLongText info) (get_or_from_slice_get texts kept.place kept.text kept.text kept.is) (are kept.place kept.text (slice_get_within texts kept.place kept.text kept.is)) in
    record {
      rises = kept.ends;
      inside = subst (λ (n : ℕ). n < length info) kept.to_is whole.inside;
      zero = ap (λ (n : ℕ). get_or info n 0) (sym kept.to_is) ∙ whole.zero;
      letters = λ k from before. whole.letters k (omega (arith, from, kept.begins)) (omega (arith, before, kept.to_is));
    }

-- ---- a text as a value

-- a text that ends inside its unit is one of the unit
record IsTextUpto (unit : List ℕ) (at to : ℕ) : Type 0 where
  text : List ℕ
  read : Some text ≡ text_at unit at
  end : at + length text ≡ to

in_unit : (end : ℕ) (info : List ℕ) (at to : ℕ) → TextEnds info at to → to < end → IsTextUpto (take end info) at to
unfolding text_at
in_unit end info at to ends inside =
    let unit = take end info in
    let rest = drop at unit in
    let n = to - at in
    let long : n < length rest = rw (length-drop, length-take) (omega (arith, ends.rises, ends.inside, inside)) in
    let read : (k : ℕ) → at + k < end → get_or rest k 0 ≡ get_or info (at + k) 0 = λ k below. get_or-drop at unit k 0 ∙ get_or-take end info (at + k) 0 below in
    let place : at + n ≡ to = omega (arith, ends.rises) in
    let counted : position_or_len is_zero rest ≡ n =
    position_or_len_is is_zero rest n 0 (omega (arith, long))
    (λ k below.
    let before : at + k < to = omega (arith, below, place) in
    is_not_zero (get_or rest k 0) (subst (λ (b : ℕ). b ≢ 0) (sym (read k (omega (arith, before, inside)))) (ends.letters (at + k) (omega arith) before)))
    (λ _. eq-eqb (get_or rest n 0) 0 (read n (omega (arith, place, inside)) ∙ ap (λ (k : ℕ). get_or info k 0) place ∙ ends.zero)) in
    let found : position is_zero rest ≡ Some n =
    ap (λ (m : ℕ). cond (ltb m (length rest)) (Some m) None) counted ∙ ap (λ (b : Bool). cond b (Some n) None) (lt-ltb n (length rest) long) in
    record {
      text = take n rest;
      read = sym (ap (option_map (λ len. take len rest)) found);
      end = rw length-take (omega (arith, long, place));
    }

-- it is passed over
pub text_behind : (form : ℕ) (implicit : ℤ) (start end entry : ℕ) (info : List ℕ) (at to : ℕ) → form ≡ dw_form_string → TextEnds info at to → to < end
    → Ok (to + 1) ≡ place_after (value_at form implicit start end entry info at)
text_behind form implicit start end entry info at to is ends inside =
    let found = in_unit end info at to ends inside in
    ap (λ (m : ℕ). Ok (m + 1)) (sym found.end) ∙ text_passed form implicit start end entry info at found.text is found.read

-- and its value is its offset
pub text_there : (form : ℕ) (implicit : ℤ) (start end entry : ℕ) (info : List ℕ) (at to : ℕ) → form ≡ dw_form_string → TextEnds info at to → to < end
    → Some (value.Inline at) ≡ value_read (value_at form implicit start end entry info at)
text_there form implicit start end entry info at to is ends inside =
    let found = in_unit end info at to ends inside in
    text_read form implicit start end entry info at found.text is found.read
