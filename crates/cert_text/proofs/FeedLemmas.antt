-- The lines of a text.
use Rattle.std.proofs.Common.{◌≡◌, ◌<◌, ◌≤◌, ◌+◌, ◌-◌, ◌==◌, ltb, ℕ, zero, suc, Bool, true, false, cond, List, [], ◌∷◌, ◌++◌, length, take, drop, get_or, Option, Some, None, refl, sym, ◌∙◌, ap, subst, inl, inr, arith, add-one, drop-cons, length-drop}
use Rattle.std.specs.Prelude.{position}
use Rattle.std.specs.List.{position_or_len}
use Rattle.std.proofs.lemmas.Bool.{cases_lt, eqb-true, lt-ltb}
use Rattle.std.proofs.lemmas.List.{take-append-drop, drop-drop, drop_more, get_or-take, length-take-le}
use Rattle.std.proofs.lemmas.List.Sums.{fails_before_first}
use Rattle.std.proofs.lemmas.List.Quantifiers.{position-Some}
use Rattle.std.proofs.lemmas.Option.{none-some}
use Rattle.cert_text.specs.Forms.{is_feed}
use Rattle.cert_text.specs.Faults.{Parts, parts, onto}
use Rattle.cert_text.specs.Steps.{IsRest, StandsAt, text_at}

-- no line feed stands in the text
abbrev pub HasNoFeed : List ℕ → Type 0
HasNoFeed text = (k : ℕ) → k < length text → is_feed (get_or text k 0) ≡ false

later : (b : ℕ) (text : List ℕ) → HasNoFeed (b ∷ text) → HasNoFeed text
later b text none k lt = none (suc k) (omega (arith, lt))

pub parts-line : (line rest : List ℕ) → HasNoFeed line → parts (line ++ 10 ∷ rest) ≡ record { lines = line ∷ (parts rest).lines; rest = (parts rest).rest }
unfolding parts
parts-line [] rest none = refl
parts-line (b ∷ line) rest none =
    let other : is_feed b ≡ false = none 0 (omega arith) in
    rw other (ap (λ (p : Parts). onto b p.lines p.rest) (parts-line line rest (later b line none)))

pub parts-rest : (rest : List ℕ) → HasNoFeed rest → parts rest ≡ record { lines = []; rest = rest }
unfolding parts
parts-rest [] none = refl
parts-rest (b ∷ rest) none =
    let other : is_feed b ≡ false = none 0 (omega arith) in
    rw other (ap (λ (p : Parts). onto b p.lines p.rest) (parts-rest rest (later b rest none)))

-- ---- where lines stand

none_first : (text : List ℕ) → position is_feed text ≡ None → HasNoFeed text
none_first text is k lt = elim (cases_lt (position_or_len is_feed text) (length text)) [
  | inl inside ↦ absurd (none-some (position_or_len is_feed text) (sym is ∙ ap (λ (b : Bool). cond b (Some (position_or_len is_feed text)) None) (lt-ltb (position_or_len is_feed text) (length text) inside)))
  | inr past ↦ fails_before_first is_feed text k 0 (omega (arith, lt, past))
]

pub rests : (bytes : List ℕ) (at : ℕ) → position is_feed (drop at bytes) ≡ None → IsRest bytes at
rests bytes at is =
    let e = parts-rest (drop at bytes) (none_first (drop at bytes) is) in
    record { lines = ap (λ (p : Parts). p.lines) e; rest = ap (λ (p : Parts). p.rest) e }

parted : (text : List ℕ) (found : ℕ) → position is_feed text ≡ Some found → text ≡ take found text ++ 10 ∷ drop (found + 1) text
parted text found is =
    let first = position-Some is_feed text found 0 is in
    let feed : get_or text found 0 ≡ 10 = eqb-true (get_or text found 0) 10 first.1 in
    let back : drop found text ≡ 10 ∷ drop (found + 1) text = drop_more text found 0 first.0 ∙ ap (λ (b : ℕ). b ∷ drop (found + 1) text) feed in
    sym (take-append-drop found text) ∙ ap (λ (xs : List ℕ). take found text ++ xs) back

no_feed_before : (text : List ℕ) (found : ℕ) → position is_feed text ≡ Some found → HasNoFeed (take found text)
no_feed_before text found is k lt =
    let first = position-Some is_feed text found 0 is in
    let size : length (take found text) ≡ found = length-take-le found text (omega (arith, first.0)) in
    let below : k < found = subst (λ (n : ℕ). k < n) size lt in
    ap is_feed (get_or-take found text k 0 below) ∙ first.2 k below

pub stands : (bytes : List ℕ) (at found : ℕ) → at ≤ length bytes → position is_feed (drop at bytes) ≡ Some found → (at ≤ at + found) × StandsAt bytes at (at + found + 1) (text_at bytes at (at + found))
stands bytes at found le is =
    let first = position-Some is_feed (drop at bytes) found 0 is in
    let same : at + found - at ≡ found = omega arith in
    let line : text_at bytes at (at + found) ≡ take found (drop at bytes) = ap (λ (n : ℕ). take n (drop at bytes)) same in
    let back : drop (found + 1) (drop at bytes) ≡ drop (at + found + 1) bytes = drop-drop (found + 1) at bytes ∙ ap (λ (n : ℕ). drop n bytes) (let e : at + (found + 1) ≡ at + found + 1 = omega arith in e) in
    let split : drop at bytes ≡ take found (drop at bytes) ++ 10 ∷ drop (at + found + 1) bytes = parted (drop at bytes) found is ∙ ap (λ (xs : List ℕ). take found (drop at bytes) ++ 10 ∷ xs) back in
    let e = ap parts split ∙ parts-line (take found (drop at bytes)) (drop (at + found + 1) bytes) (no_feed_before (drop at bytes) found is) in (
      omega arith,
      record {
        later = omega arith;
        inside = omega (arith, first.0, length-drop at bytes, le);
        is = split ∙ ap (λ (xs : List ℕ). xs ++ 10 ∷ drop (at + found + 1) bytes) (sym line);
        lines = ap (λ (p : Parts). p.lines) e ∙ ap (λ (xs : List ℕ). xs ∷ (parts (drop (at + found + 1) bytes)).lines) (sym line);
        rest = ap (λ (p : Parts). p.rest) e;
      },
    )
