-- What is read of a line is what it spells.
use Rattle.std.proofs.Common.{◌≡◌, ◌<◌, ◌+◌, ◌*◌, ◌^◌, ◌&&◌, nat_lt, ℕ, Bool, true, false, cond, List, [], ◌∷◌, ◌++◌, Option, Some, None, refl, sym, ◌∙◌, ap, subst, arith, append_assoc}
use Rattle.std.specs.Prelude.{decimal, codes, option_and_then}
use Rattle.std.specs.Option.{option_map}
use Rattle.std.specs.Str.{bytes_eq}
use Rattle.std.proofs.lemmas.Bool.{and_parts, lt-ltb, ltb-true}
use Rattle.std.proofs.lemmas.Option.{none-some, same_Some}
use Rattle.abi_base.proofs.lemmas.Lists.{append_none}
use Rattle.abi_base.proofs.lemmas.Orders.{bytes_eq-is_same}
use Rattle.abi_types.specs.declared.kind.Way.{Way}
use Rattle.abi_types.specs.declared.kind.Way.TheVariants.{Direct, Pointer}
use Rattle.cert_text.specs.Grammar.{HasNumbers, IsLine, IsWay, spelling, way_words}
use Rattle.cert_text.specs.Forms.{number_in, number_then, numbers_in, second_number, behind, numbers_behind, bind_in, bind_from, alike_old_in, alike_new_in, plain_pair_in, way_in, pair_by_way, pair_from, pair_fields, pair_in, end_in, or_line, form_of}
use Rattle.cert_text.specs.declared.line.Version.{Version}
use Rattle.cert_text.specs.declared.line.Version.TheVariants.{One, Two}
use Rattle.cert_text.specs.declared.line.Line.{Line}
use Rattle.cert_text.specs.declared.line.Line.TheVariants.{Bind, AlikeOld, AlikeNew, Pair, End}
use Rattle.cert_text.proofs.NumberLemmas.{number_is, spaced_is, behind_is, IsNumber, IsSpaced}

-- ---- steps that gave something

then_is : {A B : Type 0} (f : A → Option B) (o : Option A) (y : B) → option_and_then f o ≡ Some y → (x : A) × ((o ≡ Some x) × (f x ≡ Some y))
then_is f None y is = absurd (none-some y is)
then_is f (Some x) y is = (x, (refl, is))

map_is : {A B : Type 0} (f : A → B) (o : Option A) (y : B) → option_map f o ≡ Some y → (x : A) × ((o ≡ Some x) × (f x ≡ y))
map_is f None y is = absurd (none-some y is)
map_is f (Some x) y is = (x, (refl, same_Some (f x) y is))

if_is : {A : Type 0} (b : Bool) (x y : A) → cond b (Some x) None ≡ Some y → (b ≡ true) × (x ≡ y)
if_is true x y is = (refl, same_Some x y is)
if_is false x y is = absurd (none-some y is)

-- ---- two numbers

pub record AreNumbers (word text : List ℕ) (pair : ℕ × ℕ) : Type 0 where
  pub one : pair.0 < 2 ^ 64
  pub other : pair.1 < 2 ^ 64
  pub are : text ≡ word ++ (decimal pair.0 ++ 32 ∷ decimal pair.1)

numbers_are : (text : List ℕ) (pair : ℕ × ℕ) → numbers_in text ≡ Some pair → AreNumbers [] text pair
unfolding numbers_in
numbers_are text pair is =
    let first = then_is second_number (number_then text) pair is in
    let second = map_is (λ (n : ℕ). let p : ℕ × ℕ = (first.0.0, n) in p) (number_in first.0.1) pair first.1.1 in
    let front = spaced_is text first.0 first.1.0 in
    let back = number_is first.0.1 second.0 second.1.0 in
    let here : AreNumbers [] text (first.0.0, second.0) = record {
      one = front.fits;
      other = back.fits;
      are = front.is ∙ ap (λ (xs : List ℕ). decimal first.0.0 ++ 32 ∷ xs) back.is;
    } in
    subst (AreNumbers [] text) second.1.1 here

numbers_stand : (word text : List ℕ) (pair : ℕ × ℕ) → numbers_behind word text ≡ Some pair → AreNumbers word text pair
unfolding numbers_behind
numbers_stand word text pair is =
    let rest = then_is numbers_in (behind word text) pair is in
    let here = numbers_are rest.0 pair rest.1.1 in
    record { one = here.one; other = here.other; are = behind_is word text rest.0 rest.1.0 ∙ ap (λ (xs : List ℕ). word ++ xs) here.are }

-- ---- each form

bind_is : (v : Version) (text : List ℕ) (line : Line) → bind_in text ≡ Some line → IsLine v text line
unfolding bind_in
bind_is v text line is =
    let found = then_is bind_from (numbers_behind (codes "bind ") text) line is in
    let pair = found.0 in
    let test = if_is (nat_lt pair.0 (2 ^ 32) && nat_lt pair.1 (2 ^ 32)) (Bind pair.0 pair.1) line found.1.1 in
    let both = and_parts (nat_lt pair.0 (2 ^ 32)) (nat_lt pair.1 (2 ^ 32)) test.0 in
    let are = numbers_stand (codes "bind ") text pair found.1.0 in
    let here : IsLine v text (Bind pair.0 pair.1) = record { numbers = (ltb-true pair.0 (2 ^ 32) both.0, ltb-true pair.1 (2 ^ 32) both.1); is = are.are } in
    subst (IsLine v text) test.1 here

alike_old_is : (v : Version) (text : List ℕ) (line : Line) → alike_old_in text ≡ Some line → IsLine v text line
unfolding alike_old_in
alike_old_is v text line is =
    let found = map_is (λ (p : ℕ × ℕ). AlikeOld p.0 p.1) (numbers_behind (codes "alike old ") text) line is in
    let are = numbers_stand (codes "alike old ") text found.0 found.1.0 in
    let here : IsLine v text (AlikeOld found.0.0 found.0.1) = record { numbers = (are.one, are.other); is = are.are } in
    subst (IsLine v text) found.1.1 here

alike_new_is : (v : Version) (text : List ℕ) (line : Line) → alike_new_in text ≡ Some line → IsLine v text line
unfolding alike_new_in
alike_new_is v text line is =
    let found = map_is (λ (p : ℕ × ℕ). AlikeNew p.0 p.1) (numbers_behind (codes "alike new ") text) line is in
    let are = numbers_stand (codes "alike new ") text found.0 found.1.0 in
    let here : IsLine v text (AlikeNew found.0.0 found.0.1) = record { numbers = (are.one, are.other); is = are.are } in
    subst (IsLine v text) found.1.1 here

plain_pair_is : (text : List ℕ) (line : Line) → plain_pair_in text ≡ Some line → IsLine One text line
plain_pair_is text line is =
    let found = map_is (λ (p : ℕ × ℕ). Pair p.0 p.1 Direct) (numbers_behind (codes "pair ") text) line is in
    let are = numbers_stand (codes "pair ") text found.0 found.1.0 in
    let here : IsLine One text (Pair found.0.0 found.0.1 Direct) = record {
      numbers = (are.one, are.other, refl);
      is = are.are ∙ ap (λ (xs : List ℕ). codes "pair " ++ (decimal found.0.0 ++ 32 ∷ xs)) (sym (append_none (decimal found.0.1)));
    } in
    subst (IsLine One text) found.1.1 here

way_with : (text : List ℕ) (way : Way) (b d : Bool) → bytes_eq text (codes "direct") ≡ b → bytes_eq text (codes "pointer") ≡ d → cond b (Some Direct) (cond d (Some Pointer) None) ≡ Some way → 32 ∷ text ≡ way_words Two way
way_with text way true d same other is =
    ap (λ (xs : List ℕ). 32 ∷ xs) (bytes_eq-is_same text (codes "direct") same) ∙ ap (way_words Two) (same_Some Direct way is)
way_with text way false true same other is =
    ap (λ (xs : List ℕ). 32 ∷ xs) (bytes_eq-is_same text (codes "pointer") other) ∙ ap (way_words Two) (same_Some Pointer way is)
way_with text way false false same other is = absurd (none-some way is)

way_is : (text : List ℕ) (way : Way) → way_in text ≡ Some way → 32 ∷ text ≡ way_words Two way
unfolding way_in
way_is text way is = way_with text way (bytes_eq text (codes "direct")) (bytes_eq text (codes "pointer")) refl refl is

fields_are : (text : List ℕ) (line : Line) → pair_fields text ≡ Some line → IsLine Two (codes "pair " ++ text) line
fields_are text line is =
    let one = then_is pair_from (number_then text) line is in
    let other = then_is (pair_by_way one.0.0) (number_then one.0.1) line one.1.1 in
    let last = map_is (λ (way : Way). Pair one.0.0 other.0.0 way) (way_in other.0.1) line other.1.1 in
    let front = spaced_is text one.0 one.1.0 in
    let next = spaced_is one.0.1 other.0 other.1.0 in
    let way = way_is other.0.1 last.0 last.1.0 in
    let here : IsLine Two (codes "pair " ++ text) (Pair one.0.0 other.0.0 last.0) = record {
      numbers = (front.fits, next.fits, tt);
      is = ap (λ (xs : List ℕ). codes "pair " ++ xs) (front.is ∙ ap (λ (xs : List ℕ). decimal one.0.0 ++ 32 ∷ xs) (next.is ∙ ap (λ (xs : List ℕ). decimal other.0.0 ++ xs) way));
    } in
    subst (IsLine Two (codes "pair " ++ text)) last.1.1 here

pair_is : (v : Version) (text : List ℕ) (line : Line) → pair_in v text ≡ Some line → IsLine v text line
unfolding pair_in
pair_is One text line is = plain_pair_is text line is
pair_is Two text line is =
    let found = then_is pair_fields (behind (codes "pair ") text) line is in
    let here = fields_are found.0 line found.1.1 in
    record { numbers = here.numbers; is = behind_is (codes "pair ") text found.0 found.1.0 ∙ here.is }

end_is : (v : Version) (text : List ℕ) (line : Line) → end_in text ≡ Some line → IsLine v text line
unfolding end_in
end_is v text line is =
    let test = if_is (bytes_eq text (codes "end")) End line is in
    let here : IsLine v text End = record { numbers = tt; is = bytes_eq-is_same text (codes "end") test.0 } in
    subst (IsLine v text) test.1 here

or_is : (P : Line → Type 0) (line : Line) (o next : Option Line) → (o ≡ Some line → P line) → (next ≡ Some line → P line) → or_line o next ≡ Some line → P line
or_is P line (Some found) next one other is = one is
or_is P line None next one other is = other is

pub form_is : (v : Version) (text : List ℕ) (line : Line) → form_of v text ≡ Some line → IsLine v text line
unfolding form_of
form_is v text line =
    or_is (IsLine v text) line (bind_in text) _ (bind_is v text line)
    (or_is (IsLine v text) line (alike_old_in text) _ (alike_old_is v text line)
    (or_is (IsLine v text) line (alike_new_in text) _ (alike_new_is v text line)
    (or_is (IsLine v text) line (pair_in v text) _ (pair_is v text line) (end_is v text line))))
