-- Where the texts of a section end.
use Rattle.std.proofs.Common.{◌≡◌, ◌∙◌, ℕ, zero, suc, ◌+◌, ◌-◌, ◌<◌, ◌≤◌, Bool, true, false, List, ◌∷◌, length, drop, Option, Some, None, refl, sym, ap, arith, inl, inr}
use Rattle.std.specs.Prelude.{is_some, position}
use Rattle.std.specs.List.{position_or_len}
use Rattle.std.specs.Option.{option_map}
use Rattle.std.proofs.Math.ListN.{get_or}
use Rattle.std.proofs.Math.Dec.{ltb}
use Rattle.std.proofs.lemmas.Bool.{cases_Bool, lt-ltb, ltb-true, ltb-false, eqb-true}
use Rattle.std.proofs.lemmas.List.{at_drop_more, at_drop_all}
use Rattle.abi_base.specs.Numbers.{text_at, is_zero}
use Rattle.dwarf_text.specs.Texts.{TextsEnd}

-- some byte of a list is 0
abbrev has_zero : List ℕ → Bool
has_zero bytes = is_some (position is_zero bytes)

some_map : {A B : Type 0} (f : A → B) (o : Option A) → is_some (option_map f o) ≡ is_some o
some_map f None = refl
some_map f (Some x) = refl

text_there : (section : List ℕ) (place : ℕ) → is_some (text_at section place) ≡ has_zero (drop place section)
unfolding text_at
text_there section place = some_map _ (position is_zero (drop place section))

found_is : (bytes : List ℕ) → has_zero bytes ≡ ltb (position_or_len is_zero bytes) (length bytes)
found_is bytes = cases (ltb (position_or_len is_zero bytes) (length bytes)) refl
  where
    cases : (b : Bool) → ltb (position_or_len is_zero bytes) (length bytes) ≡ b → has_zero bytes ≡ ltb (position_or_len is_zero bytes) (length bytes)
    cases true is = rw is refl
    cases false is = rw is refl

zero_here : (byte : ℕ) (bytes : List ℕ) → is_zero byte ≡ true → has_zero (byte ∷ bytes) ≡ true
zero_here byte bytes is =
    let first : position_or_len is_zero (byte ∷ bytes) ≡ 0 = rw is refl in
    found_is (byte ∷ bytes) ∙ ap (λ (n : ℕ). ltb n (suc (length bytes))) first ∙ lt-ltb 0 (suc (length bytes)) (omega arith)

one_more : (a b : ℕ) → ltb (1 + a) (suc b) ≡ ltb a b
one_more a b = grind arith

zero_later : (byte : ℕ) (bytes : List ℕ) → is_zero byte ≡ false → has_zero (byte ∷ bytes) ≡ has_zero bytes
zero_later byte bytes other =
    let more : position_or_len is_zero (byte ∷ bytes) ≡ 1 + position_or_len is_zero bytes = rw other refl in
    found_is (byte ∷ bytes) ∙ ap (λ (n : ℕ). ltb n (suc (length bytes))) more ∙ one_more (position_or_len is_zero bytes) (length bytes) ∙ sym (found_is bytes)

-- ---- from a place on

-- no text begins from a place on
abbrev pub NoText : List ℕ → ℕ → Type 0
NoText section end = (place : ℕ) → end ≤ place → is_some (text_at section place) ≡ false

pub none_past : (section : List ℕ) → NoText section (length section)
none_past section place past = text_there section place ∙ at_drop_all has_zero section place past

module _ (section : List ℕ) (place : ℕ) (inside : place < length section) where
  pub text_here : get_or section place 0 ≡ 0 → is_some (text_at section place) ≡ true
  text_here is = text_there section place ∙ at_drop_more has_zero section place 0 inside ∙ zero_here (get_or section place 0) (drop (place + 1) section) (rw is refl)

  text_later : is_zero (get_or section place 0) ≡ false → is_some (text_at section place) ≡ is_some (text_at section (place + 1))
  text_later other =
      text_there section place ∙ at_drop_more has_zero section place 0 inside
      ∙ zero_later (get_or section place 0) (drop (place + 1) section) other
      ∙ sym (text_there section (place + 1))

-- one place back
pub none_before : (section : List ℕ) (end : ℕ) → 0 < end → end ≤ length section → NoText section end → is_zero (get_or section (end - 1) 0) ≡ false → NoText section (end - 1)
none_before section end some inside none other place from = elim (cases_Bool (ltb place end)) [
  | inl here ↦ let same : end - 1 ≡ place = omega (arith, ltb-true place end here, from, some) in
      let next : is_some (text_at section (end - 1)) ≡ is_some (text_at section (end - 1 + 1)) = text_later section (end - 1) (omega (arith, some, inside)) other in
      rw same at (next ∙ none (end - 1 + 1) (omega (arith, some)))
  | inr past ↦ none place (ltb-false place end past)
]

-- texts end after a 0 byte, where none begins from there on
pub ends_behind : (section : List ℕ) (end : ℕ) → 0 < end → end ≤ length section → NoText section end → get_or section (end - 1) 0 ≡ 0 → TextsEnd section end
ends_behind section end some inside none is place = elim (cases_Bool (ltb place end)) [
  | inl before ↦ there (end - 1 - place) place (omega (arith, ltb-true place end before)) ∙ sym before
  | inr past ↦ none place (ltb-false place end past) ∙ sym past
]
  where
    there : (steps place : ℕ) → place + steps ≡ end - 1 → is_some (text_at section place) ≡ true
    there zero place same =
        let here : place ≡ end - 1 = omega (arith, same) in
        text_here section place (omega (arith, same, some, inside)) (rw here is)
    there (suc steps) place same = elim (cases_Bool (is_zero (get_or section place 0))) [
      | inl zero_byte ↦ text_here section place (omega (arith, same, some, inside)) (eqb-true (get_or section place 0) 0 zero_byte)
      | inr other ↦ text_later section place (omega (arith, same, some, inside)) other ∙ there steps (place + 1) (omega (arith, same))
    ]
