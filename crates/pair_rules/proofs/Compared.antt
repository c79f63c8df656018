-- The matches of all parts, where parts are compared.
use Rattle.std.proofs.Common.{◌≡◌, ◌<◌, ℕ, zero, suc, true, false, List, [], ◌∷◌, length, map, get_or, slice_get, ltb, Option, Some, None, refl, sym, ◌∙◌, ap, arith, inl, inr}
use Rattle.std.specs.List.{range_with_len}
use Rattle.std.specs.Option.{IfSome, option_map}
use Rattle.std.proofs.lemmas.Bool.{cases_Bool, false≢true, ltb-true, lt-ltb}
use Rattle.std.proofs.lemmas.List.FromFn.{length-map-range_with_len, get_or-map-range_with_len}
use Rattle.std.proofs.lemmas.Option.{slice_get-get_or, slice_get_read, none-some}
use Rattle.abi_types.specs.declared.kind.Way.{Way}
use Rattle.abi_types.specs.declared.rule.Rule.{Rule}
use Rattle.abi_types.specs.declared.rule.Rule.TheVariants.{KindOfType, DeclarationTag}
use Rattle.abi_types.specs.Types.{PlainView, PlainPart}
use Rattle.abi_types.specs.Graphs.{part_at, to_of}
use Rattle.pair_rules.specs.Same.{same_kind}
use Rattle.pair_rules.specs.Matching.{match_of}
use Rattle.pair_rules.specs.TypeRules.{are_compared, is_declaration, speaks_of_parts, rules_asked}
use Rattle.pair_rules.specs.Comparisons.{matches, compared_match}
use Rattle.pair_rules.specs.Partners.{pair_of, partner_at}
use Rattle.pair_rules.specs.Ways.{after}
use Rattle.pair_rules.specs.Steps.{Triple, triple_of, led_by, next_of}
use Rattle.pair_rules.proofs.Matches.{match-inside}

pub matches-compared : (v w : PlainView) → are_compared v w ≡ true → matches v w ≡ map (match_of v w) (range_with_len 0 (length v.parts))
unfolding matches
matches-compared v w compared = rw compared refl

pub matches-uncompared : (v w : PlainView) → are_compared v w ≡ false → matches v w ≡ []
unfolding matches
matches-uncompared v w uncompared = rw uncompared refl

compared_match-compared : (v w : PlainView) (i : ℕ) → are_compared v w ≡ true → compared_match v w i ≡ match_of v w i
unfolding compared_match
compared_match-compared v w i compared = rw compared refl

compared_match-uncompared : (v w : PlainView) (i : ℕ) → are_compared v w ≡ false → compared_match v w i ≡ None
unfolding compared_match
compared_match-uncompared v w i uncompared = rw uncompared refl

-- what stands at a part, where parts are compared
pub matches-at : (v w : PlainView) (i : ℕ) → i < length v.parts → are_compared v w ≡ true → slice_get (matches v w) i ≡ Some (match_of v w i)
matches-at v w i inside compared =
    let all : List (Option ℕ) = map (match_of v w) (range_with_len 0 (length v.parts)) in
    let at : get_or all i None ≡ match_of v w i = get_or-map-range_with_len (match_of v w) 0 (length v.parts) i i None inside (omega arith) in
    ap (λ (ms : List (Option ℕ)). slice_get ms i) (matches-compared v w compared) ∙ slice_get-get_or all i None (omega (arith, length-map-range_with_len (match_of v w) 0 (length v.parts))) ∙ ap (λ m. Some m) at

match_some : (v w : PlainView) (i : ℕ) (m : Option ℕ) → i < length v.parts → slice_get (matches v w) i ≡ Some m → m ≡ compared_match v w i
match_some v w i m inside at =
    elim (cases_Bool (are_compared v w)) [
      | inl compared ↦
          let same : Some m ≡ Some (match_of v w i) = sym at ∙ matches-at v w i inside compared in
          let is : m ≡ match_of v w i = cc in
          is ∙ sym (compared_match-compared v w i compared)
      | inr uncompared ↦ absurd (none-some m (ap (λ (ms : List (Option ℕ)). slice_get ms i) (sym (matches-uncompared v w uncompared)) ∙ at))
    ]

-- what the code reads at a part
pub match_read : (v w : PlainView) (ms : List (Option ℕ)) (i : ℕ) (m : Option ℕ) → ms ≡ matches v w → i < length v.parts → true ≡ ltb i (length ms) → m ≡ get_or ms i m → m ≡ compared_match v w i
match_read v w ms i m are inside there is =
    match_some v w i m inside (ap (λ (xs : List (Option ℕ)). slice_get xs i) (sym are) ∙ slice_get_read ms (length ms) i m refl (ltb-true i (length ms) (sym there)) is)

pub match_unread : (v w : PlainView) (ms : List (Option ℕ)) (i : ℕ) → ms ≡ matches v w → i < length v.parts → false ≡ ltb i (length ms) → None ≡ compared_match v w i
match_unread v w ms i are inside past =
    elim (cases_Bool (are_compared v w)) [
      | inl compared ↦
          let many : length ms ≡ length v.parts = ap length (are ∙ matches-compared v w compared) ∙ length-map-range_with_len (match_of v w) 0 (length v.parts) in
          absurd (false≢true (past ∙ lt-ltb i (length ms) (omega arith)))
      | inr uncompared ↦ sym (compared_match-uncompared v w i uncompared)
    ]

pub compared_match-inside : (v w : PlainView) (i : ℕ) (m : Option ℕ) → m ≡ compared_match v w i → IfSome m (λ j. j < length w.parts)
compared_match-inside v w i None is = tt
compared_match-inside v w i (Some j) is =
    elim (cases_Bool (are_compared v w)) [
      | inl compared ↦ match-inside v w i j (sym (compared_match-compared v w i compared) ∙ sym is)
      | inr uncompared ↦ absurd (none-some j (sym (compared_match-uncompared v w i uncompared) ∙ sym is))
    ]

-- ---- where two types lead

pair_of-none : (i : ℕ) (o : Option ℕ) → pair_of i o None ≡ None
pair_of-none i None = refl
pair_of-none i (Some to) = refl

pub partner_at-match : (v w : PlainView) (i : ℕ) → partner_at v w i ≡ pair_of i (to_of (part_at v i)) (compared_match v w i)
unfolding partner_at
partner_at-match v w i =
    elim (cases_Bool (are_compared v w)) [
      | inl compared ↦ rw compared (ap (pair_of i (to_of (part_at v i))) (sym (compared_match-compared v w i compared)))
      | inr uncompared ↦ rw uncompared (sym (ap (pair_of i (to_of (part_at v i))) (compared_match-uncompared v w i uncompared) ∙ pair_of-none i (to_of (part_at v i))))
    ]

next_of-pair : (v w : PlainView) (way : Way) (i : ℕ) (m : Option ℕ) → m ≡ compared_match v w i → next_of v w way i ≡ led_by v w way (pair_of i (to_of (part_at v i)) m)
unfolding next_of
next_of-pair v w way i m is = ap (led_by v w way) (partner_at-match v w i ∙ ap (pair_of i (to_of (part_at v i))) (sym is))

pub next_of-none : (v w : PlainView) (way : Way) (i : ℕ) → None ≡ compared_match v w i → None ≡ next_of v w way i
next_of-none v w way i none = sym (next_of-pair v w way i None none ∙ ap (led_by v w way) (pair_of-none i (to_of (part_at v i))))

led_to : (v w : PlainView) (way : Way) (i j : ℕ) (o : Option ℕ) → to_of (part_at v i) ≡ o → led_by v w way (pair_of i o (Some j)) ≡ triple_of (after way (part_at v i)) o (to_of (part_at w j))
led_to v w way i j None is = refl
led_to v w way i j (Some a) is = ap (λ o. triple_of (after way (part_at v i)) o (to_of (part_at w j))) is

-- where the two parts lead that the code reads
next_of-some : (v w : PlainView) (way : Way) (i j : ℕ) → Some j ≡ compared_match v w i → next_of v w way i ≡ triple_of (after way (part_at v i)) (to_of (part_at v i)) (to_of (part_at w j))
next_of-some v w way i j is = next_of-pair v w way i (Some j) is ∙ led_to v w way i j (to_of (part_at v i)) refl

-- the next triple, as the code reads it
pub next_of-read : (v w : PlainView) (way : Way) (i j : ℕ) (p q : PlainPart) (o n : Option ℕ) (u : Way) → Some j ≡ compared_match v w i → p ≡ part_at v i → q ≡ part_at w j → o ≡ to_of p → n ≡ to_of q → u ≡ after way p → triple_of u o n ≡ next_of v w way i
next_of-read v w way i j p q o n u is old new old_to new_to by =
    ap (λ x. triple_of x o n) (by ∙ ap (after way) old) ∙ ap (λ x. triple_of (after way (part_at v i)) x n) (old_to ∙ ap to_of old) ∙ ap (triple_of (after way (part_at v i)) (to_of (part_at v i))) (new_to ∙ ap to_of new)
    ∙ sym (next_of-some v w way i j is)

-- a node is known by its number
pub by_number : (o n : Option ℕ) → option_map (λ i. i) o ≡ n → o ≡ n
by_number None n is = is
by_number (Some i) n is = is

-- ---- rules that speak of parts are asked of types whose parts are compared

single : (k : ℕ) (r d : Rule) → k < 1 → get_or (r ∷ []) k d ≡ r
single zero r d lt = refl
single (suc k) r d lt = absurd (omega arith)

pub asked_of_parts : (v w : PlainView) (k : ℕ) (d : Rule) → k < length (rules_asked v w) → speaks_of_parts (get_or (rules_asked v w) k d) ≡ true → are_compared v w ≡ true
asked_of_parts v w k d inside speaks =
    elim (cases_Bool (same_kind v.kind w.kind)) [
      | inl same ↦ elim (cases_Bool (is_declaration v w)) [
        | inl declared ↦
            let inside' = rw (same, declared) at inside in
            let speaks' = rw (same, declared) at speaks in
            absurd (false≢true (ap speaks_of_parts (sym (single k DeclarationTag d inside')) ∙ speaks'))
        | inr defined ↦ rw (same, defined) refl
      ]
      | inr differ ↦
          let inside' = rw differ at inside in
          let speaks' = rw differ at speaks in
          absurd (false≢true (ap speaks_of_parts (sym (single k KindOfType d inside')) ∙ speaks'))
    ]
