-- The entries of a dynamic table, as a loop goes through them, and whether a text is at an offset, by the byte behind it.
use Rattle.std.proofs.Common.{◌≡◌, ℕ, ◌+◌, ◌<◌, ◌≤◌, Bool, true, false, List, length, take, drop, get_or, Option, Some, None, refl, sym, ◌∙◌, ap, inl, inr, arith, length-drop}
use Rattle.std.specs.Prelude.{take_while, slice_get, position}
use Rattle.std.specs.List.{list_any, sum_by}
use Rattle.std.specs.Option.{option_map, option_map_or}
use Rattle.std.specs.Str.{bytes_eq}
use Rattle.std.proofs.lemmas.Bool.{cases_Bool}
use Rattle.std.proofs.lemmas.List.{length-take, get_or-drop}
use Rattle.std.proofs.lemmas.List.Quantifiers.{position-Some}
use Rattle.std.proofs.lemmas.List.Sums.{take_while-cons, sum_by-cons}
use Rattle.std.proofs.lemmas.Option.{slice_get-get_or}
use Rattle.std.proofs.lemmas.Slice.Eq.{bytes_eq-Decides}
use Rattle.abi_base.specs.Numbers.{is_zero, text_at}
use Rattle.abi_base.proofs.lemmas.Places.{places, places_more, places_none}
use Rattle.app_check.specs.Links.{is_text_at}

-- behind a text stands a 0 byte
pub ends_behind : (strings text : List ℕ) (at : ℕ) → option_map_or is_zero (slice_get strings (at + length text)) false ≡ false → is_text_at strings text at ≡ false
unfolding text_at
ends_behind strings text at other = cases (position is_zero (drop at strings)) refl
  where
    cases : (p : Option ℕ) → position is_zero (drop at strings) ≡ p → option_map_or (λ n. bytes_eq n text) (option_map (λ len. take len (drop at strings)) (position is_zero (drop at strings))) false ≡ false
    cases None is = rw is refl
    cases (Some len) is = rw is (elim (cases_Bool (bytes_eq (take len (drop at strings)) text)) [
      | inl same ↦
          let found = position-Some is_zero (drop at strings) len 1 is in
          let equal : take len (drop at strings) ≡ text = (bytes_eq-Decides (take len (drop at strings)) text).0 same in
          let long : length text ≡ len = ap length (sym equal) ∙ length-take len (drop at strings) ∙ omega (arith, found.0) in
          let byte : is_zero (get_or strings (at + len) 1) ≡ true = rw (get_or-drop at strings len 1) at found.1 in
          let inside : at + len < length strings = omega (arith, found.0, length-drop at strings) in
          absurd (let two : true ≡ false = rw (long, slice_get-get_or strings (at + len) 1 inside, byte) at other in cc)
      | inr differs ↦ differs
    ])

-- ---- entries

-- whether an entry from i on passes, and what the entries from i on count, of those before the first one without q
abbrev pub any_before_end : (ℕ → Bool) → (ℕ → Bool) → ℕ → ℕ → Bool
any_before_end p q i n = list_any p (take_while q (places i n))

abbrev pub counted_before_end : (ℕ → ℕ) → (ℕ → Bool) → ℕ → ℕ → ℕ
counted_before_end cost q i n = sum_by cost (take_while q (places i n))

pub any_ends : (p q : ℕ → Bool) (i n : ℕ) → i < n → q i ≡ false → any_before_end p q i n ≡ false
any_ends p q i n lt ends = rw (places_more i n lt, take_while-cons, ends) refl

pub any_here : (p q : ℕ → Bool) (i n : ℕ) → i < n → q i ≡ true → p i ≡ true → any_before_end p q i n ≡ true
any_here p q i n lt goes passes = rw (places_more i n lt, take_while-cons, goes) (rw passes refl)

pub any_later : (p q : ℕ → Bool) (i n : ℕ) → i < n → q i ≡ true → p i ≡ false → any_before_end p q i n ≡ any_before_end p q (i + 1) n
any_later p q i n lt goes fails = rw (places_more i n lt, take_while-cons, goes) (rw fails refl)

pub any_none : (p q : ℕ → Bool) (i n : ℕ) → n ≤ i → any_before_end p q i n ≡ false
any_none p q i n le = rw (places_none i n le) refl

pub counted_here : (cost : ℕ → ℕ) (q : ℕ → Bool) (i n : ℕ) → i < n → q i ≡ true → counted_before_end cost q i n ≡ cost i + counted_before_end cost q (i + 1) n
counted_here cost q i n lt goes = rw (places_more i n lt, take_while-cons, goes) (sum_by-cons cost i (take_while q (places (i + 1) n)))
