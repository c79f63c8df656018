-- The first position that fails, as the first place.
use Rattle.std.proofs.Common.{◌≡◌, ◌<◌, ◌+◌, ◌-◌, ℕ, suc, List, [], ◌∷◌, ◌++◌, map, refl, sym, ◌∙◌, ap, subst, arith, append-nil}
use Rattle.std.specs.List.{range_with_len, AllByRecursion}
use Rattle.cert_check.specs.declared.refused.Refused.{Refused}
use Rattle.std.specs.Prelude.{Result, Ok, Err}
use Rattle.cert_check.specs.Accepted.{Case, Place, Keeps, Settles, each, refused, joined}
use Rattle.cert_check.specs.Finds.{IsFirst}
use Rattle.cert_check.proofs.First.{each-from, join}
use Rattle.cert_check.proofs.PairLemmas.{RefusalOrder, from_zero, told_later}

map_places : (place : ℕ → Place) (xs ys : List ℕ) → map place (xs ++ ys) ≡ map place xs ++ map place ys
map_places place [] ys = refl
map_places place (x ∷ xs) ys = ap (λ (ps : List Place). place x ∷ ps) (map_places place xs ys)

pub each_kept : (c : Case) (place : ℕ → Place) (count : ℕ) → ((k : ℕ) → k < count → Keeps c (place k)) → AllByRecursion (Keeps c) (each place count)
each_kept c place count kept = each-from (Keeps c) place 0 count (λ k from below. kept k (omega arith))

pub each_told : (c : Case) (place : ℕ → Place) (count k : ℕ) (answer : Refused) → IsFirst (λ j. Keeps c (place j)) count k → answer ≡ refused c (place k) → RefusalOrder c (each place count) answer
each_told c place count k answer first is =
    let m : ℕ = count - k - 1 in
    let e : count ≡ k + suc m = omega (arith, first.inside) in
    let whole : each place count ≡ each place k ++ (place k ∷ map place (range_with_len (k + 1) m)) =
    ap (λ (n : ℕ). each place n) e ∙ ap (map place) (from_zero k (suc m)) ∙ map_places place (range_with_len 0 k) (range_with_len k (suc m)) in
    subst (λ (ps : List Place). RefusalOrder c ps answer) (sym whole) (
      place k,
      record {
        before = each place k;
        after = map place (range_with_len (k + 1) m);
        stands = refl;
        kept = each_kept c place k first.before;
        fails = first.fails;
      },
      is,
    )

-- ---- groups of places

pub joined-from : (c : Case) (gs : List (List Place)) → AllByRecursion (AllByRecursion (Keeps c)) gs → AllByRecursion (Keeps c) (joined gs)
joined-from c [] all = tt
joined-from c (g ∷ gs) all = join (Keeps c) g (joined gs) all.0 (joined-from c gs all.1)

-- the groups before one
pub group_told : (c : Case) (before : List (List Place)) (group : List Place) (after : List (List Place)) (answer : Refused) → AllByRecursion (AllByRecursion (Keeps c)) before → RefusalOrder c group answer → RefusalOrder c (joined (before ++ group ∷ after)) answer
group_told c [] group after answer kept told = told_later c [] group (joined after) answer tt told
group_told c (g ∷ before) group after answer kept told =
    let later = group_told c before group after answer kept.1 told in
    subst (λ (ps : List Place). RefusalOrder c (g ++ ps) answer) (append-nil (joined (before ++ group ∷ after))) (told_later c g (joined (before ++ group ∷ after)) [] answer kept.0 later)

-- the last group
pub settled_last : (c : Case) (before : List (List Place)) (group : List Place) (answer : Result Unit Refused) → AllByRecursion (AllByRecursion (Keeps c)) before → Settles c group answer → Settles c (joined (before ++ group ∷ [])) answer
settled_last c before group (Ok x) kept settles = joined-from c (before ++ group ∷ []) (join (AllByRecursion (Keeps c)) before (group ∷ []) kept (settles, tt))
settled_last c before group (Err answer) kept told = group_told c before group [] answer kept told
