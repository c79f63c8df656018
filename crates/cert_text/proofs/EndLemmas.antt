-- Where the lines of a text end.
use Rattle.std.proofs.Common.{◌≡◌, ◌<◌, ◌≤◌, ◌+◌, ◌*◌, ◌^◌, ◌⊎◌, inl, inr, ◌||◌, not, nat_lt, ltb, ℕ, zero, suc, Bool, true, false, cond, List, [], ◌∷◌, ◌++◌, length, drop, map, Option, Some, None, refl, sym, ◌∙◌, ap, subst, arith, append_assoc}
use Rattle.std.specs.List.{All, AllPairs}
use Rattle.std.specs.Ordering.{nat_cmp, bool_cmp, ordering_then}
use Rattle.std.specs.declared.cmp.Ordering.{Ordering}
use Rattle.std.specs.declared.cmp.Ordering.TheVariants.{Less}
use Rattle.std.proofs.lemmas.Bool.{lt-ltb, ltb-true}
use Rattle.std.proofs.lemmas.List.{append-nil}
use Rattle.std.proofs.lemmas.List.Elements.{All-weaker}
use Rattle.std.proofs.lemmas.Option.{none-some}
use Rattle.abi_base.proofs.lemmas.Bools.{not_is_false}
use Rattle.abi_types.specs.declared.kind.Way.{Way}
use Rattle.abi_types.specs.declared.kind.Way.TheVariants.{Direct, Pointer}
use Rattle.abi_base.specs.declared.fault.Fault.{Fault}
use Rattle.abi_base.specs.declared.fault.FaultKind.TheVariants as kind
use Rattle.cert_text.specs.Certs.{PlainCert, PairLine, IsCert, IsBelow, IsPairBelow, Ascend, first_cmp, pair_cmp, is_pointer}
use Rattle.cert_text.specs.Grammar.{HasNumbers, IsSpelledIn, spelling, body, head, lined, text_of, bind_of, alike_old_of, alike_new_of, pair_of}
use Rattle.cert_text.specs.Faults.{parts, may_follow, is_end, before_then, way_before, body_fault, end_fault, fault_of}
use Rattle.cert_text.specs.Steps.{IsRest}
use Rattle.cert_text.specs.declared.line.Version.{Version}
use Rattle.cert_text.specs.declared.line.Line.{Line}
use Rattle.cert_text.specs.declared.line.Line.TheVariants.{Bind, AlikeOld, AlikeNew, Pair, End}
use Rattle.cert_text.proofs.OrderLemmas.{lex_is}
use Rattle.cert_text.proofs.BodyLemmas.{All-front, All-back, All-of_map, AllPairs-front, AllPairs-back, AllPairs-of_map, AllPairs-weaker, groups, body-groups}
use Rattle.cert_text.proofs.ReadingLemmas.{Follows, IsReading, ended, said, lined-map}
use Rattle.abi_types.proofs.lemmas.Numbers.{nat_same}
use Rattle.abi_base.proofs.lemmas.Orders.{nat_less}

-- ---- the order of lines, as that of what they say

above : (r : ℕ) (t : Bool) → before_then r r t ≡ true → t ≡ true
above r t is = elim (lex_is r r t is) [ inl lt ↦ absurd (omega (arith, lt)) | inr tie ↦ tie.1 ]

binds_rise : (x y : ℕ × ℕ) → Follows (bind_of x) (bind_of y) → first_cmp x y ≡ Less
unfolding may_follow
binds_rise x y is = nat_less x.0 y.0 (ltb-true x.0 y.0 (above 0 (nat_lt x.0 y.0) is))

old_rise : (x y : ℕ × ℕ) → Follows (alike_old_of x) (alike_old_of y) → first_cmp x y ≡ Less
unfolding may_follow
old_rise x y is = nat_less x.0 y.0 (ltb-true x.0 y.0 (above 1 (nat_lt x.0 y.0) is))

new_rise : (x y : ℕ × ℕ) → Follows (alike_new_of x) (alike_new_of y) → first_cmp x y ≡ Less
unfolding may_follow
new_rise x y is = nat_less x.0 y.0 (ltb-true x.0 y.0 (above 2 (nat_lt x.0 y.0) is))

ways_rise : (v w : Way) → way_before v w ≡ true → bool_cmp (is_pointer v) (is_pointer w) ≡ Less
ways_rise Direct Direct is = cc
ways_rise Direct Pointer is = refl
ways_rise Pointer w is = cc

pairs_rise : (x y : PairLine) → Follows (pair_of x) (pair_of y) → pair_cmp x y ≡ Less
unfolding may_follow
pairs_rise x y is =
    let rest = before_then x.1 y.1 (way_before x.2 y.2) in
    let ways = bool_cmp (is_pointer x.2) (is_pointer y.2) in
    elim (lex_is x.0 y.0 rest (above 3 (before_then x.0 y.0 rest) is)) [
      | inl lt ↦ ap (λ (o : Ordering). ordering_then (ordering_then o (nat_cmp x.1 y.1)) ways) (nat_less x.0 y.0 lt)
      | inr tie ↦ elim (lex_is x.1 y.1 (way_before x.2 y.2) tie.1) [
        | inl lt ↦ ap (λ (o : Ordering). ordering_then (ordering_then o (nat_cmp x.1 y.1)) ways) (nat_same x.0 y.0 tie.0) ∙ ap (λ (o : Ordering). ordering_then o ways) (nat_less x.1 y.1 lt)
        | inr tie_too ↦ ap (λ (o : Ordering). ordering_then (ordering_then o (nat_cmp x.1 y.1)) ways) (nat_same x.0 y.0 tie.0) ∙ ap (λ (o : Ordering). ordering_then o ways) (nat_same x.1 y.1 tie_too.0) ∙ ways_rise x.2 y.2 tie_too.1
      ]
    ]

-- ---- the four lists of a certificate whose lines are in order

pub record AreInOrder (c : PlainCert) : Type 0 where
  pub binds : Ascend first_cmp c.binds
  pub alike_old : Ascend first_cmp c.alike_old
  pub alike_new : Ascend first_cmp c.alike_new
  pub pairs : Ascend pair_cmp c.pairs

in_order : (c : PlainCert) → AllPairs Follows (groups c.binds c.alike_old c.alike_new c.pairs) → AreInOrder c
unfolding groups
in_order c all =
    let bs = map bind_of c.binds in
    let os = map alike_old_of c.alike_old in
    let ns = map alike_new_of c.alike_new in
    let ps = map pair_of c.pairs in
    let rest1 = AllPairs-back Follows bs (os ++ (ns ++ ps)) all in
    let rest2 = AllPairs-back Follows os (ns ++ ps) rest1 in
    record {
      binds = AllPairs-weaker (λ x y. Follows (bind_of x) (bind_of y)) (λ x y. first_cmp x y ≡ Less) binds_rise c.binds (AllPairs-of_map Follows bind_of c.binds (AllPairs-front Follows bs (os ++ (ns ++ ps)) all));
      alike_old = AllPairs-weaker (λ x y. Follows (alike_old_of x) (alike_old_of y)) (λ x y. first_cmp x y ≡ Less) old_rise c.alike_old (AllPairs-of_map Follows alike_old_of c.alike_old (AllPairs-front Follows os (ns ++ ps) rest1));
      alike_new = AllPairs-weaker (λ x y. Follows (alike_new_of x) (alike_new_of y)) (λ x y. first_cmp x y ≡ Less) new_rise c.alike_new (AllPairs-of_map Follows alike_new_of c.alike_new (AllPairs-front Follows ns ps rest2));
      pairs = AllPairs-weaker (λ x y. Follows (pair_of x) (pair_of y)) (λ x y. pair_cmp x y ≡ Less) pairs_rise c.pairs (AllPairs-of_map Follows pair_of c.pairs (AllPairs-back Follows ns ps rest2));
    }

pub record AreBelow (c : PlainCert) : Type 0 where
  pub binds : All (IsBelow (2 ^ 32)) c.binds
  pub alike_old : All (IsBelow (2 ^ 64)) c.alike_old
  pub alike_new : All (IsBelow (2 ^ 64)) c.alike_new
  pub pairs : All (IsPairBelow (2 ^ 64)) c.pairs

in_range : (v : Version) (c : PlainCert) → All (HasNumbers v) (groups c.binds c.alike_old c.alike_new c.pairs) → AreBelow c
unfolding groups
in_range v c all =
    let P = HasNumbers v in
    let bs = map bind_of c.binds in
    let os = map alike_old_of c.alike_old in
    let ns = map alike_new_of c.alike_new in
    let ps = map pair_of c.pairs in
    let rest1 = All-back P bs (os ++ (ns ++ ps)) all in
    let rest2 = All-back P os (ns ++ ps) rest1 in
    record {
      binds = All-of_map P bind_of c.binds (All-front P bs (os ++ (ns ++ ps)) all);
      alike_old = All-of_map P alike_old_of c.alike_old (All-front P os (ns ++ ps) rest1);
      alike_new = All-of_map P alike_new_of c.alike_new (All-front P ns ps rest2);
      pairs = All-weaker (λ x. P (pair_of x)) (IsPairBelow (2 ^ 64)) (λ x below. (below.0, below.1)) c.pairs (All-of_map P pair_of c.pairs (All-back P ns ps rest2));
    }

pub certified : (v : Version) (bytes : List ℕ) (at number : ℕ) (before : Option Line) (c : PlainCert) → length bytes + 1 < 2 ^ 64 → IsReading v bytes at number before c → IsCert c
certified v bytes at number before c short reading =
    let order = in_order c (subst (AllPairs Follows) (body-groups c) reading.ordered) in
    let range = in_range v c (subst (All (HasNumbers v)) (body-groups c) reading.numbers) in
    record {
      binds = order.binds;
      alike_old = order.alike_old;
      alike_new = order.alike_new;
      pairs = order.pairs;
      numbers = record {
        old_digest = reading.old_digest;
        new_digest = reading.new_digest;
        rules_digest = reading.rules_digest;
        binds = range.binds;
        alike_old = range.alike_old;
        alike_new = range.alike_new;
        pairs = range.pairs;
      };
      fits = omega (arith, reading.size, reading.room, reading.inside, short);
    }

-- ---- the end

pub rest_fault : (v : Version) (bytes : List ℕ) (at number : ℕ) (before : Option Line) (c : PlainCert) → IsReading v bytes at number before c → IsRest bytes at → fault_of v bytes ≡ end_fault number before (drop at bytes)
unfolding body_fault
rest_fault v bytes at number before c reading rest =
    reading.same ∙ ap (λ (lines : List (List ℕ)). body_fault v number before lines (parts (drop at bytes)).rest) rest.lines
    ∙ ap (end_fault number before) rest.rest

both_false : (b d : Bool) → b || d ≡ false → (b ≡ false) × (d ≡ false)
both_false true d is = cc
both_false false d is = (refl, is)

no_fault : (b : Bool) (fault : Fault) → cond b (Some fault) None ≡ None → b ≡ false
no_fault true fault is = absurd (none-some fault (sym is))
no_fault false fault is = refl

empty_rest : (rest : List ℕ) → nat_lt 0 (length rest) ≡ false → rest ≡ []
empty_rest [] is = refl
empty_rest (b ∷ rest) is = let e : nat_lt 0 (length (b ∷ rest)) ≡ true = lt-ltb 0 (length (b ∷ rest)) (omega arith) in let bad : true ≡ false = sym e ∙ is in cc

ended_all : (before : Option Line) → is_end before ≡ true → ended before ≡ End ∷ []
ended_all None is = cc
ended_all (Some (Bind i j)) is = cc
ended_all (Some (AlikeOld i j)) is = cc
ended_all (Some (AlikeNew i j)) is = cc
ended_all (Some (Pair i j w)) is = cc
ended_all (Some End) is = refl

whole_text : (v : Version) (c : PlainCert) (front lines : List ℕ) → (front ++ (lines ++ (spelling v End ++ 10 ∷ []))) ++ [] ≡ front ++ (lines ++ lined (spelling v End ∷ []))
whole_text v c front lines = append-nil (front ++ (lines ++ (spelling v End ++ 10 ∷ []))) ∙ ap (λ (xs : List ℕ). front ++ (lines ++ xs)) (sym (append-nil (spelling v End ++ 10 ∷ [])))

pub finished : (v : Version) (bytes : List ℕ) (at number : ℕ) (before : Option Line) (c : PlainCert) → length bytes + 1 < 2 ^ 64 → IsReading v bytes at number before c → end_fault number before (drop at bytes) ≡ None → IsSpelledIn v bytes c
unfolding text_of
finished v bytes at number before c short reading none =
    let tests = both_false (not (is_end before)) (nat_lt 0 (length (drop at bytes))) (no_fault (not (is_end before) || nat_lt 0 (length (drop at bytes))) (record { kind = kind.End; at = number }) none) in
    let over = ended_all before (not_is_false (is_end before) tests.0) in
    let past = empty_rest (drop at bytes) tests.1 in
    let front = lined (head v c) in
    let lines = lined (map (spelling v) (body c)) in
    record {
      kept = certified v bytes at number before c short reading;
      lines = reading.numbers;
      is = reading.is
          ∙ ap (λ (xs : List ℕ). (front ++ lined (map (spelling v) (said before c))) ++ xs) past
          ∙ ap (λ (xs : List Line). (front ++ lined (map (spelling v) (body c ++ xs))) ++ []) over
          ∙ ap (λ (xs : List ℕ). (front ++ xs) ++ []) (lined-map v (body c) End)
          ∙ whole_text v c front lines;
    }
