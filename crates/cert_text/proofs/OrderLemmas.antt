-- The order of lines is strict and transitive.
use Rattle.std.proofs.Common.{◌≡◌, ◌<◌, ◌≤◌, ◌+◌, ◌==◌, ◌&&◌, ◌||◌, ◌⊎◌, inl, inr, not, nat_lt, ltb, ℕ, Bool, true, false, cond, List, [], ◌∷◌, ◌++◌, Option, Some, None, refl, sym, ◌∙◌, ap, subst, arith}
use Rattle.std.proofs.lemmas.Bool.{cases_lt, and_parts, lt-ltb, ltb-true, eqb-true, eq-eqb}
use Rattle.abi_types.specs.declared.kind.Way.{Way}
use Rattle.abi_types.specs.declared.kind.Way.TheVariants.{Direct, Pointer}
use Rattle.cert_text.specs.Faults.{rank, before_then, way_before, is_above, may_follow}
use Rattle.cert_text.specs.declared.line.Line.{Line}
use Rattle.cert_text.specs.declared.line.Line.TheVariants.{Bind, AlikeOld, AlikeNew, Pair, End}

or_is : (b d : Bool) → b || d ≡ true → (b ≡ true) ⊎ (d ≡ true)
or_is true d is = inl refl
or_is false d is = inr is

-- ---- one number, and what comes next

pub lex_is : (m n : ℕ) (t : Bool) → before_then m n t ≡ true → (m < n) ⊎ ((m ≡ n) × (t ≡ true))
lex_is m n t is = elim (or_is (nat_lt m n) (m == n && t) is) [
  | inl less ↦ inl (ltb-true m n less)
  | inr same ↦ let both = and_parts (m == n) t same in inr (eqb-true m n both.0, both.1)
]

pub lex_less : (m n : ℕ) (t : Bool) → m < n → before_then m n t ≡ true
lex_less m n t less = let e = lt-ltb m n less in rw e refl

or_true : (b : Bool) → b || true ≡ true
or_true true = refl
or_true false = refl

pub lex_same : (m n : ℕ) (t : Bool) → m ≡ n → t ≡ true → before_then m n t ≡ true
lex_same m n t same is = let e = eq-eqb m n same in rw (e, is) (or_true (nat_lt m n))

lex_trans : (l m n : ℕ) (s t u : Bool) → (s ≡ true → t ≡ true → u ≡ true) → before_then l m s ≡ true → before_then m n t ≡ true → before_then l n u ≡ true
lex_trans l m n s t u next one other = elim (lex_is l m s one) [
  | inl less ↦ elim (lex_is m n t other) [
    | inl also ↦ lex_less l n u (omega (arith, less, also))
    | inr same ↦ lex_less l n u (omega (arith, less, same.0))
  ]
  | inr tie ↦ elim (lex_is m n t other) [
    | inl less ↦ lex_less l n u (omega (arith, less, tie.0))
    | inr same ↦ lex_same l n u (tie.0 ∙ same.0) (next tie.1 same.1)
  ]
]

way_trans : (v w u : Way) → way_before v w ≡ true → way_before w u ≡ true → way_before v u ≡ true
way_trans Direct Direct u one other = cc
way_trans Direct Pointer u one other = cc
way_trans Pointer w u one other = cc

less_trans : (l m n : ℕ) → nat_lt l m ≡ true → nat_lt m n ≡ true → nat_lt l n ≡ true
less_trans l m n one other = lt-ltb l n (omega (arith, ltb-true l m one, ltb-true m n other))

above_pair : (e f : ℕ) (v : Way) (y z : Line) → is_above (Pair e f v) y ≡ true → is_above y z ≡ true → is_above (Pair e f v) z ≡ true
above_pair e f v (Pair g h w) (Pair i j u) one other =
    lex_trans e g i (before_then f h (way_before v w)) (before_then h j (way_before w u)) (before_then f j (way_before v u)) (lex_trans f h j (way_before v w) (way_before w u) (way_before v u) (way_trans v w u)) one other
above_pair e f v y z one other = cc

above_trans : (x y z : Line) → is_above x y ≡ true → is_above y z ≡ true → is_above x z ≡ true
above_trans (Bind i j) (Bind k l) (Bind m n) one other = less_trans i k m one other
above_trans (AlikeOld i j) (AlikeOld k l) (AlikeOld m n) one other = less_trans i k m one other
above_trans (AlikeNew i j) (AlikeNew k l) (AlikeNew m n) one other = less_trans i k m one other
above_trans (Pair e f v) y z one other = above_pair e f v y z one other
above_trans x y z one other = cc

pub follow_trans : (x y z : Line) → may_follow x y ≡ true → may_follow y z ≡ true → may_follow x z ≡ true
unfolding may_follow
follow_trans x y z one other = lex_trans (rank x) (rank y) (rank z) (is_above x y) (is_above y z) (is_above x z) (above_trans x y z) one other

-- kinds do not fall
pub rank_rises : (x y : Line) → may_follow x y ≡ true → rank x ≤ rank y
unfolding may_follow
rank_rises x y is = elim (lex_is (rank x) (rank y) (is_above x y) is) [ inl less ↦ omega (arith, less) | inr tie ↦ omega (arith, tie.0) ]
