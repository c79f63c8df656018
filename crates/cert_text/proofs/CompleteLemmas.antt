-- What a line spells is read back.
use Rattle.std.proofs.Common.{◌≡◌, ◌<◌, ◌+◌, ◌*◌, ◌^◌, ◌&&◌, nat_lt, ℕ, Bool, true, false, cond, List, [], ◌∷◌, ◌++◌, Option, Some, None, refl, sym, ◌∙◌, ap, subst, arith}
use Rattle.std.specs.Prelude.{decimal, codes, option_and_then}
use Rattle.std.specs.Option.{option_map}
use Rattle.std.proofs.lemmas.Bool.{lt-ltb}
use Rattle.std.proofs.lemmas.List.{append-nil}
use Rattle.abi_types.specs.declared.kind.Way.{Way}
use Rattle.abi_types.specs.declared.kind.Way.TheVariants.{Direct, Pointer}
use Rattle.cert_text.specs.Grammar.{HasNumbers, IsLine, IsWay, spelling, way_word, way_words}
use Rattle.cert_text.specs.Forms.{number_in, number_then, numbers_in, second_number, behind, numbers_behind, bind_in, bind_from, alike_old_in, alike_new_in, plain_pair_in, way_in, pair_by_way, pair_from, pair_fields, pair_in, end_in, or_line, form_of}
use Rattle.cert_text.specs.declared.line.Version.{Version}
use Rattle.cert_text.specs.declared.line.Version.TheVariants.{One, Two}
use Rattle.cert_text.specs.declared.line.Line.{Line}
use Rattle.cert_text.specs.declared.line.Line.TheVariants.{Bind, AlikeOld, AlikeNew, Pair, End}
use Rattle.cert_text.proofs.NumberLemmas.{IsNumber, number_some, spaced, behind_word}

decimal_read : (n : ℕ) → n < 2 ^ 64 → number_in (decimal n) ≡ Some n
decimal_read n fits = number_some (decimal n) n (record { fits = fits; is = refl })

numbers_read : (m n : ℕ) → m < 2 ^ 64 → n < 2 ^ 64 → numbers_in (decimal m ++ 32 ∷ decimal n) ≡ Some (m, n)
unfolding numbers_in
numbers_read m n one other = ap (option_and_then second_number) (spaced m (decimal n) one) ∙ ap (option_map (λ (k : ℕ). let p : ℕ × ℕ = (m, k) in p)) (decimal_read n other)

behind_read : (word : List ℕ) (m n : ℕ) → m < 2 ^ 64 → n < 2 ^ 64 → numbers_behind word (word ++ (decimal m ++ 32 ∷ decimal n)) ≡ Some (m, n)
unfolding numbers_behind
behind_read word m n one other = ap (option_and_then numbers_in) (behind_word word (decimal m ++ 32 ∷ decimal n)) ∙ numbers_read m n one other

-- ---- lines of other kinds

not_behind : (word text : List ℕ) → behind word text ≡ None → numbers_behind word text ≡ None
unfolding numbers_behind
not_behind word text none = ap (option_and_then numbers_in) none

no_bind : (text : List ℕ) → behind (codes "bind ") text ≡ None → bind_in text ≡ None
unfolding bind_in
no_bind text none = ap (option_and_then bind_from) (not_behind (codes "bind ") text none)

no_old : (text : List ℕ) → behind (codes "alike old ") text ≡ None → alike_old_in text ≡ None
unfolding alike_old_in
no_old text none = ap (option_map (λ (p : ℕ × ℕ). AlikeOld p.0 p.1)) (not_behind (codes "alike old ") text none)

no_new : (text : List ℕ) → behind (codes "alike new ") text ≡ None → alike_new_in text ≡ None
unfolding alike_new_in
no_new text none = ap (option_map (λ (p : ℕ × ℕ). AlikeNew p.0 p.1)) (not_behind (codes "alike new ") text none)

no_pair : (v : Version) (text : List ℕ) → behind (codes "pair ") text ≡ None → pair_in v text ≡ None
unfolding pair_in
no_pair One text none = ap (option_map (λ (p : ℕ × ℕ). Pair p.0 p.1 Direct)) (not_behind (codes "pair ") text none)
no_pair Two text none = ap (option_and_then pair_fields) none

old_no_bind : (rest : List ℕ) → behind (codes "bind ") (codes "alike old " ++ rest) ≡ None
unfolding behind
old_no_bind rest = refl

new_no_bind : (rest : List ℕ) → behind (codes "bind ") (codes "alike new " ++ rest) ≡ None
unfolding behind
new_no_bind rest = refl

new_no_old : (rest : List ℕ) → behind (codes "alike old ") (codes "alike new " ++ rest) ≡ None
unfolding behind
new_no_old rest = refl

pair_no_bind : (rest : List ℕ) → behind (codes "bind ") (codes "pair " ++ rest) ≡ None
unfolding behind
pair_no_bind rest = refl

pair_no_old : (rest : List ℕ) → behind (codes "alike old ") (codes "pair " ++ rest) ≡ None
unfolding behind
pair_no_old rest = refl

pair_no_new : (rest : List ℕ) → behind (codes "alike new ") (codes "pair " ++ rest) ≡ None
unfolding behind
pair_no_new rest = refl

-- ---- each line

bind_read : (m n : ℕ) → m < 2 ^ 32 → n < 2 ^ 32 → bind_in (codes "bind " ++ (decimal m ++ 32 ∷ decimal n)) ≡ Some (Bind m n)
unfolding bind_in
bind_read m n one other =
    let a = lt-ltb m (2 ^ 32) one in
    let b = lt-ltb n (2 ^ 32) other in
    ap (option_and_then bind_from) (behind_read (codes "bind ") m n (omega (arith, one)) (omega (arith, other))) ∙ rw (a, b) refl

way_read : (way : Way) → way_in (way_word way) ≡ Some way
unfolding way_in
way_read Direct = refl
way_read Pointer = refl

fields_read : (m n : ℕ) (way : Way) → m < 2 ^ 64 → n < 2 ^ 64 → pair_fields (decimal m ++ 32 ∷ (decimal n ++ 32 ∷ way_word way)) ≡ Some (Pair m n way)
fields_read m n way one other =
    ap (option_and_then pair_from) (spaced m (decimal n ++ 32 ∷ way_word way) one)
    ∙ ap (option_and_then (pair_by_way m)) (spaced n (way_word way) other)
    ∙ ap (option_map (λ (w : Way). Pair m n w)) (way_read way)

pair_read : (v : Version) (m n : ℕ) (way : Way) → m < 2 ^ 64 → n < 2 ^ 64 → IsWay v way → pair_in v (codes "pair " ++ (decimal m ++ 32 ∷ (decimal n ++ way_words v way))) ≡ Some (Pair m n way)
unfolding pair_in
pair_read One m n way one other is =
    ap plain_pair_in (ap (λ (xs : List ℕ). codes "pair " ++ (decimal m ++ 32 ∷ xs)) (append-nil (decimal n)))
    ∙ ap (option_map (λ (p : ℕ × ℕ). Pair p.0 p.1 Direct)) (behind_read (codes "pair ") m n one other)
    ∙ ap (λ (w : Way). Some (Pair m n w)) (sym is)
pair_read Two m n way one other is =
    ap (option_and_then pair_fields) (behind_word (codes "pair ") (decimal m ++ 32 ∷ (decimal n ++ 32 ∷ way_word way))) ∙ fields_read m n way one other

pub form_read : (v : Version) (line : Line) → HasNumbers v line → form_of v (spelling v line) ≡ Some line
unfolding form_of bind_in alike_old_in alike_new_in pair_in end_in numbers_behind behind
form_read v (Bind m n) has = rw (bind_read m n has.0 has.1) refl
form_read v (AlikeOld m n) has =
    let rest = decimal m ++ 32 ∷ decimal n in
    let a = no_bind (codes "alike old " ++ rest) (old_no_bind rest) in
    let e : alike_old_in (codes "alike old " ++ rest) ≡ Some (AlikeOld m n) = ap (option_map (λ (p : ℕ × ℕ). AlikeOld p.0 p.1)) (behind_read (codes "alike old ") m n has.0 has.1) in
    ap (λ (o : Option Line). or_line o (or_line (alike_old_in (codes "alike old " ++ rest)) (or_line (alike_new_in (codes "alike old " ++ rest)) (or_line (pair_in v (codes "alike old " ++ rest)) (end_in (codes "alike old " ++ rest)))))) a
    ∙ ap (λ (o : Option Line). or_line o (or_line (alike_new_in (codes "alike old " ++ rest)) (or_line (pair_in v (codes "alike old " ++ rest)) (end_in (codes "alike old " ++ rest))))) e
form_read v (AlikeNew m n) has =
    let rest = decimal m ++ 32 ∷ decimal n in
    let text = codes "alike new " ++ rest in
    let a = no_bind text (new_no_bind rest) in
    let b = no_old text (new_no_old rest) in
    let e : alike_new_in text ≡ Some (AlikeNew m n) = ap (option_map (λ (p : ℕ × ℕ). AlikeNew p.0 p.1)) (behind_read (codes "alike new ") m n has.0 has.1) in
    ap (λ (o : Option Line). or_line o (or_line (alike_old_in text) (or_line (alike_new_in text) (or_line (pair_in v text) (end_in text))))) a
    ∙ ap (λ (o : Option Line). or_line o (or_line (alike_new_in text) (or_line (pair_in v text) (end_in text)))) b
    ∙ ap (λ (o : Option Line). or_line o (or_line (pair_in v text) (end_in text))) e
form_read v (Pair m n way) has =
    let rest = decimal m ++ 32 ∷ (decimal n ++ way_words v way) in
    let text = codes "pair " ++ rest in
    let a = no_bind text (pair_no_bind rest) in
    let b = no_old text (pair_no_old rest) in
    let c = no_new text (pair_no_new rest) in
    let e = pair_read v m n way has.0 has.1 has.2 in
    ap (λ (o : Option Line). or_line o (or_line (alike_old_in text) (or_line (alike_new_in text) (or_line (pair_in v text) (end_in text))))) a
    ∙ ap (λ (o : Option Line). or_line o (or_line (alike_new_in text) (or_line (pair_in v text) (end_in text)))) b
    ∙ ap (λ (o : Option Line). or_line o (or_line (pair_in v text) (end_in text))) c
    ∙ ap (λ (o : Option Line). or_line o (end_in text)) e
form_read One End has = refl
form_read Two End has = refl
