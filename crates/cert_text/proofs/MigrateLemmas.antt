-- Each pair line both ways.
use Rattle.std.proofs.Common.{◌≡◌, ◌<◌, ◌≤◌, ◌+◌, ◌*◌, ◌^◌, ℕ, zero, suc, Bool, List, [], ◌∷◌, ◌++◌, length, get_or, take, map, refl, sym, ◌∙◌, ap, subst, arith}
use Rattle.std.specs.List.{All, AllPairs, flat_map}
use Rattle.std.specs.Cmp.{nat_cmp_is}
use Rattle.std.specs.Ordering.{nat_cmp, bool_cmp, ordering_then}
use Rattle.std.specs.declared.cmp.Ordering.{Ordering}
use Rattle.std.specs.declared.cmp.Ordering.TheVariants.{Less, Equal, Greater}
use Rattle.std.proofs.lemmas.List.{take_more}
use Rattle.std.proofs.lemmas.List.Concat.{flat_map-append}
use Rattle.std.proofs.lemmas.List.Elements.{All-cons, All-nil}
use Rattle.std.proofs.lemmas.List.Kept.{AllPairs-cons}
use Rattle.abi_types.specs.declared.kind.Way.{Way}
use Rattle.abi_types.specs.declared.kind.Way.TheVariants.{Direct, Pointer}
use Rattle.cert_text.specs.Certs.{PlainCert, PlainCert1, PairLine, IsCert, IsCert1, IsPairBelow, pair_cmp, is_pointer, as_direct, both_ways, migrated}
use Rattle.cert_text.proofs.BodyLemmas.{All-of_map, AllPairs-of_map}

-- ---- one more line

pub ways_more : (lines : List (ℕ × ℕ)) (i : ℕ) (d : ℕ × ℕ) (pairs one two : List PairLine) → i < length lines → pairs ≡ flat_map both_ways (take i lines) → one ≡ pairs ++ ((get_or lines i d).0, (get_or lines i d).1, Direct) ∷ [] → two ≡ one ++ ((get_or lines i d).0, (get_or lines i d).1, Pointer) ∷ [] → two ≡ flat_map both_ways (take (i + 1) lines)
ways_more lines i d pairs one two lt so first second =
    let x = get_or lines i d in
    let direct : PairLine = (x.0, x.1, Direct) in
    let pointer : PairLine = (x.0, x.1, Pointer) in
    let e : flat_map both_ways (take (i + 1) lines) ≡ flat_map both_ways (take i lines) ++ direct ∷ pointer ∷ [] =
    ap (flat_map both_ways) (take_more lines i d lt) ∙ flat_map-append both_ways (take i lines) (x ∷ []) in
    second ∙ ap (λ (ps : List PairLine). ps ++ pointer ∷ []) (first ∙ ap (λ (ps : List PairLine). ps ++ direct ∷ []) so) ∙ two_more (flat_map both_ways (take i lines)) direct pointer ∙ sym e where
      two_more : (ps : List PairLine) (a b : PairLine) → (ps ++ a ∷ []) ++ b ∷ [] ≡ ps ++ a ∷ b ∷ []
      two_more [] a b = refl
      two_more (p ∷ ps) a b = ap (λ (qs : List PairLine). p ∷ qs) (two_more ps a b)

-- ---- order

abbrev IsLess : PairLine → PairLine → Type 0
IsLess x y = pair_cmp x y ≡ Less

abbrev IsLower : ℕ × ℕ → ℕ × ℕ → Type 0
IsLower x y = pair_cmp (as_direct x) (as_direct y) ≡ Less

first_less : (o : Ordering) → ordering_then o Equal ≡ Less → o ≡ Less
first_less Less e = refl
first_less Equal e = cc
first_less Greater e = cc

less_any : (x y : ℕ × ℕ) (v w : Way) → IsLower x y → IsLess (x.0, x.1, v) (y.0, y.1, w)
less_any x y v w lower = ap (λ (o : Ordering). ordering_then o (bool_cmp (is_pointer v) (is_pointer w))) (first_less (ordering_then (nat_cmp x.0 y.0) (nat_cmp x.1 y.1)) lower)

tie : (n : ℕ) → nat_cmp n n ≡ Equal
tie n = sym (nat_cmp_is n n Equal refl)

ways_less : (x : ℕ × ℕ) → IsLess (x.0, x.1, Direct) (x.0, x.1, Pointer)
ways_less x =
    ap (λ (o : Ordering). ordering_then (ordering_then o (nat_cmp x.1 x.1)) (bool_cmp (is_pointer Direct) (is_pointer Pointer))) (tie x.0)
    ∙ ap (λ (o : Ordering). ordering_then o (bool_cmp (is_pointer Direct) (is_pointer Pointer))) (tie x.1)

below_all : (x : ℕ × ℕ) (v : Way) (ps : List (ℕ × ℕ)) → All (IsLower x) ps → All (IsLess (x.0, x.1, v)) (flat_map both_ways ps)
below_all x v [] all = All-nil (IsLess (x.0, x.1, v))
below_all x v (p ∷ ps) all =
    let P = IsLess (x.0, x.1, v) in
    let here = all 0 p (omega arith) in
    All-cons P (p.0, p.1, Direct) ((p.0, p.1, Pointer) ∷ flat_map both_ways ps) (less_any x p v Direct here)
    (All-cons P (p.0, p.1, Pointer) (flat_map both_ways ps) (less_any x p v Pointer here) (below_all x v ps (λ k d lt. all (suc k) d (omega (arith, lt)))))

rises : (ps : List (ℕ × ℕ)) → AllPairs IsLower ps → AllPairs IsLess (flat_map both_ways ps)
rises [] all = λ i j d less lt. absurd (omega (arith, lt))
rises (p ∷ ps) all =
    let tail : AllPairs IsLower ps = λ i j d less lt. all (suc i) (suc j) d (omega (arith, less)) (omega (arith, lt)) in
    let head : All (IsLower p) ps = λ k d lt. all 0 (suc k) d (omega arith) (omega (arith, lt)) in
    let rest = flat_map both_ways ps in
    AllPairs-cons IsLess (p.0, p.1, Direct) ((p.0, p.1, Pointer) ∷ rest) (All-cons (IsLess (p.0, p.1, Direct)) (p.0, p.1, Pointer) rest (ways_less p) (below_all p Direct ps head))
    (AllPairs-cons IsLess (p.0, p.1, Pointer) rest (below_all p Pointer ps head) (rises ps tail))

-- ---- numbers

all_below : (ps : List (ℕ × ℕ)) → All (λ p. IsPairBelow (2 ^ 64) (as_direct p)) ps → All (IsPairBelow (2 ^ 64)) (flat_map both_ways ps)
all_below [] all = All-nil (IsPairBelow (2 ^ 64))
all_below (p ∷ ps) all =
    let P = IsPairBelow (2 ^ 64) in
    let here = all 0 p (omega arith) in
    All-cons P (p.0, p.1, Direct) ((p.0, p.1, Pointer) ∷ flat_map both_ways ps) here
    (All-cons P (p.0, p.1, Pointer) (flat_map both_ways ps) here (all_below ps (λ k d lt. all (suc k) d (omega (arith, lt)))))

twice : (ps : List (ℕ × ℕ)) → length (flat_map both_ways ps) ≡ 2 * length ps
twice [] = refl
twice (p ∷ ps) = let rest = twice ps in let e : suc (suc (length (flat_map both_ways ps))) ≡ 2 * suc (length ps) = omega (arith, rest) in e

pub migrated_kept : (c : PlainCert1) → IsCert1 c → IsCert (migrated c)
migrated_kept c kept =
    let is = kept.is in
    let n = is.numbers in
    record {
      binds = is.binds;
      alike_old = is.alike_old;
      alike_new = is.alike_new;
      pairs = rises c.pairs (AllPairs-of_map IsLess as_direct c.pairs is.pairs);
      numbers = record {
        old_digest = n.old_digest;
        new_digest = n.new_digest;
        rules_digest = n.rules_digest;
        binds = n.binds;
        alike_old = n.alike_old;
        alike_new = n.alike_new;
        pairs = all_below c.pairs (All-of_map (IsPairBelow (2 ^ 64)) as_direct c.pairs n.pairs);
      };
      fits = omega (arith, kept.fits, twice c.pairs);
    }

-- the certificate of these lists is the migrated one
pub migrated_as : (c : PlainCert1) (bs os ns : List (ℕ × ℕ)) (ps : List PairLine) → IsCert1 c → bs ≡ c.binds → os ≡ c.alike_old → ns ≡ c.alike_new → ps ≡ flat_map both_ways c.pairs → IsCert (record { old_digest = c.old_digest; new_digest = c.new_digest; rules_digest = c.rules_digest; binds = bs; alike_old = os; alike_new = ns; pairs = ps })
migrated_as c bs os ns ps kept b o n p =
    let mk : List (ℕ × ℕ) → List (ℕ × ℕ) → List (ℕ × ℕ) → List PairLine → PlainCert =
    λ xs ys zs qs. record { old_digest = c.old_digest; new_digest = c.new_digest; rules_digest = c.rules_digest; binds = xs; alike_old = ys; alike_new = zs; pairs = qs } in
    let e : mk bs os ns ps ≡ migrated c =
    ap (λ xs. mk xs os ns ps) b ∙ ap (λ ys. mk c.binds ys ns ps) o ∙ ap (λ zs. mk c.binds c.alike_old zs ps) n ∙ ap (mk c.binds c.alike_old c.alike_new) p in
    subst IsCert (sym e) (migrated_kept c kept)
