-- Numbers, words and digests, and their one spelling.
use Rattle.std.proofs.Common.{◌≡◌, ◌≢◌, ◌<◌, ◌≤◌, ◌+◌, ◌*◌, ◌^◌, ◌==◌, ◌&&◌, ◌||◌, not, ltb, nat_lt, ℕ, zero, suc, Bool, true, false, cond, List, [], ◌∷◌, ◌++◌, length, take, drop, get_or, Option, Some, None, refl, sym, ◌∙◌, ap, subst, inl, inr, arith, add-one, drop-cons, length-drop, ◌-◌}
use Rattle.std.specs.Prelude.{position, decimal, Result, Ok, Err, option_and_then}
use Rattle.std.specs.Option.{option_map}
use Rattle.std.specs.Str.Parse.{AllDigits, IsNumeral, digits_value, without_leading_plus, ParsesUnsigned}
use Rattle.std.specs.Char.{digit_value}
use Rattle.std.specs.Str.{IsUtf8, bytes_eq}
use Rattle.std.proofs.lemmas.Bool.{cases_lt, and_parts, eqb-true, eq-eqb, ne_eqb, lt-ltb, ltb-true}
use Rattle.std.proofs.lemmas.Fmt.{decimal_digit, decimal_nonempty, first_decimal, decimal_is_IsNumeral, decimal-digits_value, digits_value-decimal, parse-decimal, IsAscii-decimal}
use Rattle.std.proofs.lemmas.Str.{IsUtf8-from_ascii}
use Rattle.std.proofs.lemmas.Str.Parse.{IsNumeralModel, without_leading_plus_none}
use Rattle.std.proofs.lemmas.List.{take_all, take-append-drop, length-take}
use Rattle.std.proofs.lemmas.List.Sums.{position_or_len_is}
use Rattle.std.proofs.lemmas.List.Quantifiers.{position-Some}
use Rattle.std.proofs.lemmas.Slice.Eq.{bytes_eq-Decides}
use Rattle.std.proofs.lemmas.Option.{none-some, same_Some}
use Rattle.abi_base.proofs.lemmas.Orders.{bytes_eq-same, bytes_eq-is_same}
use Rattle.hex.specs.declared.error.FromHexError.{FromHexError}
use Rattle.hex.specs.Hex.{encode_lower, decode_sized, decode_of, IsBytes}
use Rattle.hex.proofs.HexLemmas.{decode_sized-ok, decode_sized-twice, decode_of-ok, decode_sized-encode_lower}
use Rattle.cert_text.specs.Certs.{IsDigest}
use Rattle.cert_text.specs.Forms.{is_plain, number_if, number_in, number_then, number_before, space, behind, digest_in, digest_if, digest_behind}

-- the text is this number below 2^64, in decimal
pub record IsNumber (text : List ℕ) (n : ℕ) : Type 0 where
  pub fits : n < 2 ^ 64
  pub is : text ≡ decimal n

pub own : IsNumeralModel (AllDigits 10) (digits_value 10)
own = record { to = λ ds h. h; from = λ ds h. h; same = λ ds h. refl }

-- ---- plain texts

plain_from_first : (text : List ℕ) → 0 < length text → 48 < get_or text 0 0 → is_plain text ≡ true
plain_from_first text some above =
    let a = lt-ltb 0 (length text) some in
    let b = ne_eqb (get_or text 0 0) 43 (λ e. absurd (omega (arith, e, above))) in
    let d = ne_eqb (get_or text 0 0) 48 (λ e. absurd (omega (arith, e, above))) in
    rw (a, b, d) refl

plain_decimal : (n : ℕ) → n < 2 ^ 64 → is_plain (decimal n) ≡ true
plain_decimal n fits = elim (cases_lt 0 n) [
  | inl above ↦ plain_from_first (decimal n) (decimal_nonempty n fits) (first_decimal n above fits)
  | inr le ↦ let zero_n : n ≡ 0 = omega arith in rw (zero_n, decimal_digit 0 (omega arith)) refl
]

not_plain : (text : List ℕ) (n : ℕ) → is_plain text ≡ false → IsNumber text n → ⊥
not_plain text n other is = let bad : true ≡ false = sym (plain_decimal n is.fits) ∙ ap is_plain (sym is.is) ∙ other in cc

-- ---- what `parse` reads

zero_alone : (text : List ℕ) → (not (get_or text 0 0 == 48) || length text == 1) ≡ true → get_or text 0 0 ≡ 48 → length text ≡ 1
zero_alone text e first =
    let f = eq-eqb (get_or text 0 0) 48 first in
    eqb-true (length text) 1 (rw f at e)

not_plus : (text : List ℕ) → not (get_or text 0 0 == 43) ≡ true → get_or text 0 0 ≢ 43
not_plus text e first = let f = eq-eqb (get_or text 0 0) 43 first in let bad : false ≡ true = rw f at e in cc

parsed : (text : List ℕ) (n : ℕ) → is_plain text ≡ true → (IsNumeral 10 (without_leading_plus text) × (digits_value 10 (without_leading_plus text) < 2 ^ 64)) × (n ≡ digits_value 10 (without_leading_plus text)) → IsNumber text n
parsed text n plain read =
    let outer = and_parts (ltb 0 (length text)) (not (get_or text 0 0 == 43) && (not (get_or text 0 0 == 48) || length text == 1)) plain in
    let inner = and_parts (not (get_or text 0 0 == 43)) (not (get_or text 0 0 == 48) || length text == 1) outer.1 in
    let bare : without_leading_plus text ≡ text = without_leading_plus_none text (not_plus text inner.0) in
    let numeral : IsNumeral 10 text = subst (IsNumeral 10) bare read.0.0 in
    let value : digits_value 10 (without_leading_plus text) ≡ digits_value 10 text = ap (digits_value 10) bare in
    let is : n ≡ digits_value 10 text = read.1 ∙ value in
    let below : digits_value 10 text < 2 ^ 64 = subst (λ (v : ℕ). v < 2 ^ 64) value read.0.1 in
    record {
      fits = subst (λ (v : ℕ). v < 2 ^ 64) (sym is) below;
      is = sym (ap decimal is ∙ decimal-digits_value own text numeral.1 numeral.0 (zero_alone text inner.1) below);
    }

err-ok : {T E : Type 0} (e : E) (x : T) → ◌≡◌ {A = Result T E} (Err e) (Ok x) → ⊥
err-ok e x is = cc

unparsed : {E : Type 0} (text : List ℕ) (n : ℕ) (e : E) → ParsesUnsigned 64 10 text (Err e) → IsNumber text n → ⊥
unparsed text n e read is = err-ok e n (parse-decimal 64 n text (Err e) is.fits is.fits is.is read)

unspelled : (text : List ℕ) (n : ℕ) → (IsUtf8 text → ⊥) → IsNumber text n → ⊥
unspelled text n broken is = broken (subst IsUtf8 (sym is.is) (IsUtf8-from_ascii (decimal n) (IsAscii-decimal n is.fits)))

-- ---- what `number_in` reads

no_bytes_with : (xs ys : List ℕ) (b : Bool) → bytes_eq xs ys ≡ b → xs ≢ ys → bytes_eq xs ys ≡ false
no_bytes_with xs ys true is other = absurd (other (bytes_eq-is_same xs ys is))
no_bytes_with xs ys false is other = is

pub no_bytes : (xs ys : List ℕ) → xs ≢ ys → bytes_eq xs ys ≡ false
no_bytes xs ys other = no_bytes_with xs ys (bytes_eq xs ys) refl other

pub number_some : (text : List ℕ) (n : ℕ) → IsNumber text n → number_in text ≡ Some n
unfolding number_in
number_some text n is =
    let value : digits_value 10 text ≡ n = ap (digits_value 10) is.is ∙ digits_value-decimal own n is.fits in
    let below = lt-ltb n (2 ^ 64) is.fits in
    let same = bytes_eq-same text (decimal n) is.is in
    ap (λ (m : ℕ). number_if m text) value ∙ rw (below, same) refl

number_if_is : (text : List ℕ) (m n : ℕ) (b : Bool) → (nat_lt m (2 ^ 64) && bytes_eq text (decimal m)) ≡ b → number_if m text ≡ Some n → IsNumber text n
number_if_is text m n true passes is =
    let e : m ≡ n = same_Some m n (sym (ap (λ (b : Bool). cond b (Some m) None) passes) ∙ is) in
    let tests = and_parts (nat_lt m (2 ^ 64)) (bytes_eq text (decimal m)) passes in
    record {
      fits = subst (λ (v : ℕ). v < 2 ^ 64) e (ltb-true m (2 ^ 64) tests.0);
      is = bytes_eq-is_same text (decimal m) tests.1 ∙ ap decimal e;
    }
number_if_is text m n false fails is = absurd (none-some n (sym (ap (λ (b : Bool). cond b (Some m) None) fails) ∙ is))

pub number_is : (text : List ℕ) (n : ℕ) → number_in text ≡ Some n → IsNumber text n
unfolding number_in
number_is text n is = number_if_is text (digits_value 10 text) n _ refl is

none_where : (text : List ℕ) (o : Option ℕ) → number_in text ≡ o → ((n : ℕ) → IsNumber text n → ⊥) → number_in text ≡ None
none_where text None is other = is
none_where text (Some n) is other = absurd (other n (number_is text n is))

-- what the code reads

pub some_read : (text : List ℕ) (n : ℕ) → is_plain text ≡ true → (IsNumeral 10 (without_leading_plus text) × (digits_value 10 (without_leading_plus text) < 2 ^ 64)) × (n ≡ digits_value 10 (without_leading_plus text)) → Some n ≡ number_in text
some_read text n plain read = sym (number_some text n (parsed text n plain read))

pub none_plain : (text : List ℕ) → is_plain text ≡ false → None ≡ number_in text
none_plain text other = sym (none_where text (number_in text) refl (λ n. not_plain text n other))

pub none_utf8 : (text : List ℕ) → (IsUtf8 text → ⊥) → None ≡ number_in text
none_utf8 text broken = sym (none_where text (number_in text) refl (λ n. unspelled text n broken))

pub none_parsed : {E : Type 0} (text : List ℕ) (e : E) → ParsesUnsigned 64 10 text (Err e) → None ≡ number_in text
none_parsed text e read = sym (none_where text (number_in text) refl (λ n. unparsed text n e read))

-- ---- a number, and what stands behind the next space

abbrev is_space : ℕ → Bool
is_space b = b == 32

no_digit : (c : ℕ) → digit_value c < 10 → is_space c ≡ false
no_digit c digit = ne_eqb c 32 (λ e. let bad : digit_value 32 < 10 = subst (λ (b : ℕ). digit_value b < 10) e digit in absurd (omega (arith, bad)))

digit_at : (ds ys : List ℕ) (k : ℕ) → AllDigits 10 ds → k < length ds → is_space (get_or (ds ++ ys) k 0) ≡ false
digit_at [] ys k all inside = absurd (omega (arith, inside))
digit_at (d ∷ ds) ys zero all inside = no_digit d all.0
digit_at (d ∷ ds) ys (suc k) all inside = digit_at ds ys k all.1 (omega (arith, inside))

next_at : (ds ys : List ℕ) (b : ℕ) → get_or (ds ++ b ∷ ys) (length ds) 0 ≡ b
next_at [] ys b = refl
next_at (d ∷ ds) ys b = next_at ds ys b

longer : (ds ys : List ℕ) (b : ℕ) → length ds < length (ds ++ b ∷ ys)
longer [] ys b = let n : 0 < suc (length ys) = omega arith in n
longer (d ∷ ds) ys b = let n = longer ds ys b in let m : suc (length ds) < suc (length (ds ++ b ∷ ys)) = omega (arith, n) in m

first_space : (ds rest : List ℕ) → AllDigits 10 ds → position is_space (ds ++ 32 ∷ rest) ≡ Some (length ds)
first_space ds rest all =
    let inside = longer ds rest 32 in
    let place = position_or_len_is is_space (ds ++ 32 ∷ rest) (length ds) 0 (omega (arith, inside)) (λ k lt. digit_at ds (32 ∷ rest) k all lt) (λ less. eq-eqb (get_or (ds ++ 32 ∷ rest) (length ds) 0) 32 (next_at ds rest 32)) in
    let lt = lt-ltb (length ds) (length (ds ++ 32 ∷ rest)) inside in
    rw (place, lt) refl

take_front : (ds rest : List ℕ) → take (length ds) (ds ++ rest) ≡ ds
take_front [] rest = refl
take_front (d ∷ ds) rest = ap (λ (xs : List ℕ). d ∷ xs) (take_front ds rest)

drop_front : (ds rest : List ℕ) (b : ℕ) → drop (length ds + 1) (ds ++ b ∷ rest) ≡ rest
drop_front [] rest b = refl
drop_front (d ∷ ds) rest b = let e : suc (length ds) + 1 ≡ suc (length ds + 1) = omega arith in rw e (drop_front ds rest b)

pub spaced : (n : ℕ) (rest : List ℕ) → n < 2 ^ 64 → number_then (decimal n ++ 32 ∷ rest) ≡ Some (n, rest)
unfolding number_then
spaced n rest fits =
    let place = first_space (decimal n) rest (decimal_is_IsNumeral n fits).0.1 in
    let front : number_in (take (length (decimal n)) (decimal n ++ 32 ∷ rest)) ≡ Some n = number_some _ n (record { fits = fits; is = take_front (decimal n) (32 ∷ rest) }) in
    ap (option_and_then (number_before (decimal n ++ 32 ∷ rest))) place
    ∙ ap (option_map (λ (m : ℕ). (m, drop (length (decimal n) + 1) (decimal n ++ 32 ∷ rest)))) front
    ∙ ap (λ (back : List ℕ). Some (n, back)) (drop_front (decimal n) rest 32)

parted : (text : List ℕ) (at : ℕ) → position is_space text ≡ Some at → text ≡ take at text ++ 32 ∷ drop (at + 1) text
parted text at is =
    let found = position-Some is_space text at 0 is in
    let space : get_or text at 0 ≡ 32 = eqb-true (get_or text at 0) 32 found.1 in
    let back : drop at text ≡ 32 ∷ drop (at + 1) text = drop-cons text at 0 found.0 ∙ ap (λ (b : ℕ). b ∷ drop (suc at) text) space ∙ ap (λ (n : ℕ). 32 ∷ drop n text) (sym (add-one at)) in
    sym (take-append-drop at text) ∙ ap (λ (xs : List ℕ). take at text ++ xs) back

pub record IsSpaced (text : List ℕ) (found : ℕ × List ℕ) : Type 0 where
  pub fits : found.0 < 2 ^ 64
  pub is : text ≡ decimal found.0 ++ 32 ∷ found.1

spaced_at : (text : List ℕ) (found : ℕ × List ℕ) (at : ℕ) (o : Option ℕ) → position is_space text ≡ Some at → number_in (take at text) ≡ o → option_map (λ (m : ℕ). (m, drop (at + 1) text)) o ≡ Some found → IsSpaced text found
spaced_at text found at None place read is = absurd (none-some found is)
spaced_at text found at (Some n) place read is =
    let e : (n, drop (at + 1) text) ≡ found = same_Some (n, drop (at + 1) text) found is in
    let number = number_is (take at text) n read in
    let here : IsSpaced text (n, drop (at + 1) text) = record { fits = number.fits; is = parted text at place ∙ ap (λ (xs : List ℕ). xs ++ 32 ∷ drop (at + 1) text) number.is } in
    subst (IsSpaced text) e here

spaced_with : (text : List ℕ) (found : ℕ × List ℕ) (o : Option ℕ) → position is_space text ≡ o → option_and_then (number_before text) o ≡ Some found → IsSpaced text found
spaced_with text found None place is = absurd (none-some found is)
spaced_with text found (Some at) place is = spaced_at text found at (number_in (take at text)) place refl is

pub spaced_is : (text : List ℕ) (found : ℕ × List ℕ) → number_then text ≡ Some found → IsSpaced text found
unfolding number_then
spaced_is text found is = spaced_with text found (position is_space text) refl is

-- ---- a word at the front

drop_word : (word rest : List ℕ) → drop (length word) (word ++ rest) ≡ rest
drop_word [] rest = refl
drop_word (b ∷ word) rest = drop_word word rest

longer_word : (word text : List ℕ) → length text < length word → bytes_eq (take (length word) text) word ≡ false
longer_word word text short = no_bytes (take (length word) text) word (λ e. absurd (omega (arith, length-take (length word) text, ap length e, short)))

pub none_longer : (word text : List ℕ) → length text < length word → None ≡ behind word text
unfolding behind
none_longer word text short = rw (longer_word word text short) refl

pub behind_word : (word rest : List ℕ) → behind word (word ++ rest) ≡ Some rest
unfolding behind
behind_word word rest =
    let same = bytes_eq-same (take (length word) (word ++ rest)) word (take_front word rest) in
    rw same (ap Some (drop_word word rest))

behind_with : (word text rest : List ℕ) (b : Bool) → bytes_eq (take (length word) text) word ≡ b → cond b (Some (drop (length word) text)) None ≡ Some rest → text ≡ word ++ rest
behind_with word text rest true same is =
    sym (take-append-drop (length word) text) ∙ ap (λ (xs : List ℕ). xs ++ drop (length word) text) (bytes_eq-is_same (take (length word) text) word same) ∙ ap (λ (xs : List ℕ). word ++ xs) (same_Some (drop (length word) text) rest is)
behind_with word text rest false other is = absurd (none-some rest is)

pub behind_is : (word text rest : List ℕ) → behind word text ≡ Some rest → text ≡ word ++ rest
unfolding behind
behind_is word text rest is = behind_with word text rest _ refl is

-- ---- digests

pub record IsDigestIn (word text digest : List ℕ) : Type 0 where
  pub size : IsDigest digest
  pub is : text ≡ word ++ encode_lower digest

sized : (text digest : List ℕ) → decode_sized text 32 ≡ Ok digest → IsDigest digest
sized text digest is =
    let len : length text ≡ 2 * 32 = decode_sized-ok text 32 digest is in
    let all = decode_of-ok text digest (sym (decode_sized-twice text 32 len) ∙ is) in
    record { size = omega (arith, len, all.2); are = all.3 }

decoded_if : (text digest read : List ℕ) (b : Bool) → bytes_eq text (encode_lower read) ≡ b → decode_sized text 32 ≡ Ok read → cond b (Some read) None ≡ Some digest → IsDigestIn [] text digest
decoded_if text digest read true same is some =
    let e : read ≡ digest = same_Some read digest some in
    record { size = sized text digest (is ∙ ap Ok e); is = bytes_eq-is_same text (encode_lower read) same ∙ ap encode_lower e }
decoded_if text digest read false same is some = absurd (none-some digest some)

decoded_with : (text digest : List ℕ) (r : Result (List ℕ) FromHexError) → decode_sized text 32 ≡ r → digest_if text r ≡ Some digest → IsDigestIn [] text digest
decoded_with text digest (Ok read) is some = decoded_if text digest read (bytes_eq text (encode_lower read)) refl is some
decoded_with text digest (Err e) is some = absurd (none-some digest some)

digest_with : (word text digest : List ℕ) (o : Option (List ℕ)) → behind word text ≡ o → option_and_then digest_in o ≡ Some digest → IsDigestIn word text digest
digest_with word text digest None is some = absurd (none-some digest some)
digest_with word text digest (Some rest) is some =
    let here = decoded_with rest digest (decode_sized rest 32) refl some in
    record { size = here.size; is = behind_is word text rest is ∙ ap (λ (xs : List ℕ). word ++ xs) here.is }

pub digest_is : (word text digest : List ℕ) → digest_behind word text ≡ Some digest → IsDigestIn word text digest
unfolding digest_behind
digest_is word text digest is = digest_with word text digest (behind word text) refl is

pub digest_some : (word digest : List ℕ) → IsDigest digest → digest_behind word (word ++ encode_lower digest) ≡ Some digest
unfolding digest_behind
digest_some word digest is =
    let same = bytes_eq-same (encode_lower digest) (encode_lower digest) refl in
    ap (option_and_then digest_in) (behind_word word (encode_lower digest))
    ∙ ap (digest_if (encode_lower digest)) (decode_sized-encode_lower digest 32 is.size is.are)
    ∙ rw same refl
