-- Texts that are shown in a line are one line.
use Rattle.std.proofs.Common.{◌≡◌, ◌≤◌, ◌<◌, ◌≢◌, ◌+◌, ◌/◌, ◌%◌, ◌^◌, ◌&&◌, ℕ, Bool, true, false, List, [], ◌∷◌, ◌++◌, flat_map, refl, sym, ◌∙◌, ap, arith, true≢false}
use Rattle.std.specs.Char.{encode_utf8}
use Rattle.std.specs.Prelude.{codes, decimal, nat_lt, slice_index, if◌then◌else◌}
use Rattle.std.specs.Str.{chars}
use Rattle.std.proofs.lemmas.Fmt.{decimal_by_steps}
use Rattle.std.proofs.lemmas.List.Folds.{list_all-append, list_all_at}
use Rattle.std.proofs.lemmas.Bool.{ltb-true}
use Rattle.std.proofs.lemmas.Bool.Decides.{nat_tests}
use Rattle.std.specs.List.{concat, list_all}
use Rattle.hex.specs.Hex.{encode_lower, encode_with, lower_digits}
use Rattle.abi_base.specs.Fault.{fault_number, fault_name}
use Rattle.abi_base.specs.declared.fault.Fault.{Fault}
use Rattle.abi_base.specs.declared.fault.FaultKind.{FaultKind}
use Rattle.abi_base.specs.declared.fault.FaultKind.TheVariants.{ShortFile}
use Rattle.explain.specs.Sentences.{fault_mark, said_of}
use Rattle.explain.specs.Lines.{in_line, is_escaped, is_one_line, is_printed, shown_char}

-- two lines one behind the other are one
pub joined : (xs ys : List ℕ) → is_one_line xs ≡ true → is_one_line ys ≡ true → is_one_line (xs ++ ys) ≡ true
joined xs ys one two = list_all-append is_printed xs ys ∙ ap (λ b. b && is_one_line ys) one ∙ two

-- a byte that is no control character
printed : (b : ℕ) → 32 ≤ b → b ≢ 127 → is_printed b ≡ true
printed b some other = grind (arith, nat_tests)

one_byte : (b : ℕ) → 32 ≤ b → b ≢ 127 → is_one_line (b ∷ []) ≡ true
one_byte b some other = ap (λ is. is && true) (printed b some other)

-- a digit is printed
digit_line : (n : ℕ) → n < 10 → is_one_line ((48 + n) ∷ []) ≡ true
digit_line n small = one_byte (48 + n) (omega arith) (λ same. omega (arith, same))

pub decimal_line : (n : ℕ) → n < 2 ^ 64 → is_one_line (decimal n) ≡ true
decimal_line n small =
    decimal_by_steps (λ (m : ℕ) (ds : List ℕ). is_one_line ds ≡ true) digit_line
    (λ m ds many before. joined ds ((48 + m % 10) ∷ []) before (digit_line (m % 10) (omega arith))) n small

chosen : (b : Bool) (xs ys : List ℕ) → (b ≡ true → is_one_line xs ≡ true) → (b ≡ false → is_one_line ys ≡ true) → is_one_line (if b then xs else ys) ≡ true
chosen true xs ys one two = one refl
chosen false xs ys one two = two refl

same_or : (b : Bool) → (b ≡ false → ⊥) → b ≡ true
same_or true not_false = refl
same_or false not_false = absurd (not_false refl)

-- a hexadecimal digit is printed
hex_printed : (d : ℕ) → d < 16 → is_printed (slice_index lower_digits d) ≡ true
hex_printed d small =
    let all : list_all is_printed lower_digits ≡ true = refl in
    same_or (is_printed (slice_index lower_digits d)) (λ no. true≢false (sym all ∙ list_all_at is_printed lower_digits d 0 small no))

-- the escaped form of a character is
escaped_line : (c : ℕ) → is_escaped c ≡ true → is_one_line (0x5c ∷ 0x78 ∷ encode_lower (c ∷ [])) ≡ true
unfolding encode_with
escaped_line c is =
    let small : c < 256 = grind (arith, nat_tests, is) in
    let high = hex_printed (c / 16) (omega (arith, small)) in
    let low = hex_printed (c % 16) (omega arith) in
    ap (λ b. b && (is_printed (slice_index lower_digits (c % 16)) && true)) high ∙ ap (λ b. b && true) low

-- and so is each other character
plain_line : (c : ℕ) → is_escaped c ≡ false → is_one_line (encode_utf8 c) ≡ true
unfolding encode_utf8
plain_line c is = grind (arith, nat_tests, is)

pub char_line : (c : ℕ) → is_one_line (shown_char c) ≡ true
char_line c = chosen (is_escaped c) (0x5c ∷ 0x78 ∷ encode_lower (c ∷ [])) (encode_utf8 c) (escaped_line c) (plain_line c)

pub shown_line : (cs : List ℕ) → is_one_line (flat_map shown_char cs) ≡ true
shown_line [] = refl
shown_line (c ∷ cs) = joined (shown_char c) (flat_map shown_char cs) (char_line c) (shown_line cs)

pub in_line_line : (text : List ℕ) → is_one_line (in_line text) ≡ true
in_line_line text = shown_line (chars text)

-- what is said of a path is one line
pub said_line : (path said : List ℕ) → is_one_line (said_of path said) ≡ true
said_line path said =
    let behind : is_one_line (concat (codes ": " ∷ in_line said ∷ [])) ≡ true = joined (codes ": ") (concat (in_line said ∷ [])) refl (joined (in_line said) [] (in_line_line said) refl) in
    joined (in_line path) (concat (codes ": " ∷ in_line said ∷ [])) (in_line_line path) behind

-- the name of each kind of fault, checked kind by kind
name_line : (kind : FaultKind) → is_one_line (fault_name kind) ≡ true
name_line ShortFile = refl
name_line kind = refl

small_number : (kind : FaultKind) → nat_lt (fault_number kind) (2 ^ 64) ≡ true
small_number ShortFile = refl
small_number kind = refl

-- and its number
number_line : (kind : FaultKind) → is_one_line (decimal (fault_number kind)) ≡ true
number_line kind = decimal_line (fault_number kind) (ltb-true (fault_number kind) (2 ^ 64) (small_number kind))

pub mark_line : (fault : Fault) → fault.at < 2 ^ 64 → is_one_line (fault_mark fault) ≡ true
mark_line fault small =
    let number = decimal (fault_number fault.kind) in
    let name = fault_name fault.kind in
    let at = decimal fault.at in
    let four : is_one_line (at ++ (codes ")" ++ [])) ≡ true = joined at (codes ")") (decimal_line fault.at small) refl in
    let three : is_one_line (codes " at " ++ (at ++ (codes ")" ++ []))) ≡ true = joined (codes " at ") (at ++ (codes ")" ++ [])) refl four in
    let two : is_one_line (name ++ (codes " at " ++ (at ++ (codes ")" ++ [])))) ≡ true = joined name (codes " at " ++ (at ++ (codes ")" ++ []))) (name_line fault.kind) three in
    let one : is_one_line (codes " " ++ (name ++ (codes " at " ++ (at ++ (codes ")" ++ []))))) ≡ true = joined (codes " ") (name ++ (codes " at " ++ (at ++ (codes ")" ++ [])))) refl two in
    joined (codes " (fault ") (number ++ (codes " " ++ (name ++ (codes " at " ++ (at ++ (codes ")" ++ [])))))) refl
    (joined number (codes " " ++ (name ++ (codes " at " ++ (at ++ (codes ")" ++ []))))) (number_line fault.kind) one)
