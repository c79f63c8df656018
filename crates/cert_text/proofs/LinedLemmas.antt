-- The lines of a text that was made of lines.
use Rattle.std.proofs.Common.{◌≡◌, ◌<◌, ◌≤◌, ◌+◌, ◌*◌, ◌/◌, ◌%◌, ◌^◌, ◌==◌, ◌&&◌, not, ℕ, zero, suc, Bool, true, false, List, [], ◌∷◌, ◌++◌, length, get_or, map, refl, sym, ◌∙◌, ap, subst, arith, append_assoc}
use Rattle.std.specs.Prelude.{decimal, codes, slice_index}
use Rattle.std.specs.List.{All}
use Rattle.std.specs.Char.{digit_value}
use Rattle.std.specs.Str.Parse.{AllDigits}
use Rattle.std.proofs.lemmas.Bool.{and_parts, and_from, ne_eqb}
use Rattle.std.proofs.lemmas.Fmt.{decimal_is_IsNumeral}
use Rattle.abi_base.proofs.lemmas.Bools.{not_is_true}
use Rattle.hex.specs.Hex.{encode_lower, encode_with, lower_digits}
use Rattle.abi_types.specs.declared.kind.Way.{Way}
use Rattle.abi_types.specs.declared.kind.Way.TheVariants.{Direct, Pointer}
use Rattle.cert_text.specs.Grammar.{HasNumbers, spelling, way_words, way_word, answer, digest_line, lined}
use Rattle.cert_text.specs.Forms.{is_feed}
use Rattle.cert_text.specs.Faults.{Parts, parts}
use Rattle.cert_text.specs.declared.line.Version.{Version}
use Rattle.cert_text.specs.declared.line.Version.TheVariants.{One, Two}
use Rattle.cert_text.specs.declared.line.Line.{Line}
use Rattle.cert_text.specs.declared.line.Line.TheVariants.{Bind, AlikeOld, AlikeNew, Pair, End}
use Rattle.cert_text.proofs.FeedLemmas.{HasNoFeed, parts-line}

-- ---- texts without a line feed

abbrev pub is_clear : List ℕ → Bool
is_clear [] = true
is_clear (b ∷ text) = not (is_feed b) && is_clear text

pub clear_at : (text : List ℕ) → is_clear text ≡ true → (k : ℕ) → is_feed (get_or text k 0) ≡ false
clear_at [] clear k = refl
clear_at (b ∷ text) clear zero = not_is_true (is_feed b) (and_parts (not (is_feed b)) (is_clear text) clear).0
clear_at (b ∷ text) clear (suc k) = clear_at text (and_parts (not (is_feed b)) (is_clear text) clear).1 k

pub has_no_feed : (text : List ℕ) → is_clear text ≡ true → HasNoFeed text
has_no_feed text clear k lt = clear_at text clear k

is_clear-append : (xs ys : List ℕ) → is_clear xs ≡ true → is_clear ys ≡ true → is_clear (xs ++ ys) ≡ true
is_clear-append [] ys one other = other
is_clear-append (x ∷ xs) ys one other =
    let both = and_parts (not (is_feed x)) (is_clear xs) one in
    and_from _ _ both.0 (is_clear-append xs ys both.1 other)

digit_clear : (c : ℕ) → digit_value c < 10 → not (is_feed c) ≡ true
digit_clear c digit = ap not (ne_eqb c 10 (λ e. let bad : digit_value 10 < 10 = subst (λ (b : ℕ). digit_value b < 10) e digit in absurd (omega (arith, bad))))

digits_clear : (ds : List ℕ) → AllDigits 10 ds → is_clear ds ≡ true
digits_clear [] all = refl
digits_clear (d ∷ ds) all = and_from _ _ (digit_clear d all.0) (digits_clear ds all.1)

decimal_clear : (n : ℕ) → n < 2 ^ 64 → is_clear (decimal n) ≡ true
decimal_clear n fits = digits_clear (decimal n) (decimal_is_IsNumeral n fits).0.1

hex_clear : (bytes : List ℕ) → is_clear (encode_with lower_digits bytes) ≡ true
unfolding encode_with
hex_clear [] = refl
hex_clear (b ∷ bytes) =
    let high = clear_at lower_digits refl (b / 16) in
    let low = clear_at lower_digits refl (b % 16) in
    and_from _ _ (ap not high) (and_from _ _ (ap not low) (hex_clear bytes))

pub digest_clear : (word digest : List ℕ) → is_clear word ≡ true → is_clear (digest_line word digest) ≡ true
digest_clear word digest clear = is_clear-append word (encode_lower digest) clear (hex_clear digest)

two_clear : (word : List ℕ) (m n : ℕ) → is_clear word ≡ true → m < 2 ^ 64 → n < 2 ^ 64 → is_clear (word ++ (decimal m ++ 32 ∷ decimal n)) ≡ true
two_clear word m n clear one other = is_clear-append word (decimal m ++ 32 ∷ decimal n) clear (is_clear-append (decimal m) (32 ∷ decimal n) (decimal_clear m one) (decimal_clear n other))

way_clear : (v : Version) (way : Way) → is_clear (way_words v way) ≡ true
way_clear One way = refl
way_clear Two Direct = refl
way_clear Two Pointer = refl

pub line_clear : (v : Version) (line : Line) → HasNumbers v line → is_clear (spelling v line) ≡ true
line_clear v (Bind m n) has = two_clear (codes "bind ") m n refl (omega (arith, has.0)) (omega (arith, has.1))
line_clear v (AlikeOld m n) has = two_clear (codes "alike old ") m n refl has.0 has.1
line_clear v (AlikeNew m n) has = two_clear (codes "alike new ") m n refl has.0 has.1
line_clear v (Pair m n way) has =
    is_clear-append (codes "pair ") (decimal m ++ 32 ∷ (decimal n ++ way_words v way)) refl
    (is_clear-append (decimal m) (32 ∷ (decimal n ++ way_words v way)) (decimal_clear m has.0) (is_clear-append (decimal n) (way_words v way) (decimal_clear n has.1) (way_clear v way)))
line_clear v End has = refl

pub answer_clear : (v : Version) → is_clear (answer v) ≡ true
answer_clear One = refl
answer_clear Two = refl

-- ---- the lines of joined lines

IsClear : List ℕ → Type 0
IsClear text = is_clear text ≡ true

-- each of the lines has no line feed
abbrev pub AreClear : List (List ℕ) → Type 0
AreClear lines = All (λ text. is_clear text ≡ true) lines

pub parts-lined : (lines : List (List ℕ)) (rest : List ℕ) → AreClear lines → parts (lined lines ++ rest) ≡ record { lines = lines ++ (parts rest).lines; rest = (parts rest).rest }
parts-lined [] rest all = refl
parts-lined (line ∷ lines) rest all =
    let clear : is_clear line ≡ true = all 0 line (omega arith) in
    let later = parts-lined lines rest (λ k d lt. all (suc k) d (omega (arith, lt))) in
    let e : lined (line ∷ lines) ++ rest ≡ line ++ 10 ∷ (lined lines ++ rest) = append_assoc (line ++ 10 ∷ []) (lined lines) rest ∙ append_assoc line (10 ∷ []) (lined lines ++ rest) in
    ap parts e ∙ parts-line line (lined lines ++ rest) (has_no_feed line clear)
    ∙ ap (λ (p : Parts). let q : Parts = record { lines = line ∷ p.lines; rest = p.rest } in q) later
