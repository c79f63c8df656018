-- The lines of a certificate, and one more of them.
use Rattle.std.proofs.Common.{◌≡◌, ◌<◌, ◌≤◌, ◌+◌, ◌^◌, ◌⊎◌, inl, inr, ℕ, zero, suc, Bool, true, false, List, [], ◌∷◌, ◌++◌, length, get_or, map, Option, Some, None, refl, sym, ◌∙◌, ap, subst, arith, append_assoc, length-append, lit<}
use Rattle.std.specs.List.{All, AllPairs}
use Rattle.std.proofs.lemmas.List.{get_or-append-add, get_or_append_left, get_or-map, append-nil, length-map, map-append}
use Rattle.cert_text.specs.Certs.{PlainCert, PairLine}
use Rattle.cert_text.specs.Grammar.{body, bind_of, alike_old_of, alike_new_of, pair_of}
use Rattle.cert_text.specs.Faults.{rank, may_follow, is_end}
use Rattle.cert_text.specs.Steps.{with_line}
use Rattle.cert_text.specs.declared.line.Line.{Line}
use Rattle.cert_text.specs.declared.line.Line.TheVariants.{Bind, AlikeOld, AlikeNew, Pair, End}
use Rattle.cert_text.proofs.OrderLemmas.{rank_rises}

-- ---- parts of joined lists

front_inside : {X : Type 0} (xs ys : List X) (k : ℕ) → k < length xs → k < length (xs ++ ys)
front_inside {X} xs ys k lt = omega (arith, length-append xs ys, lt)

pub All-front : {X : Type 0} (P : X → Type 0) (xs ys : List X) → All P (xs ++ ys) → All P xs
All-front {X} P xs ys all k d lt = subst P (get_or_append_left xs ys d k lt) (all k d (front_inside xs ys k lt))

pub All-back : {X : Type 0} (P : X → Type 0) (xs ys : List X) → All P (xs ++ ys) → All P ys
All-back {X} P xs ys all k d lt = subst P (get_or-append-add xs ys k d) (all (length xs + k) d (omega (arith, length-append xs ys, lt)))

pub All-of_map : {X Y : Type 0} (P : Y → Type 0) (f : X → Y) (xs : List X) → All P (map f xs) → All (λ x. P (f x)) xs
All-of_map {X} {Y} P f xs all k d lt = subst P (get_or-map f xs k d (f d) lt) (all k (f d) (omega (arith, length-map xs f, lt)))

pub AllPairs-front : {X : Type 0} (R : X → X → Type 0) (xs ys : List X) → AllPairs R (xs ++ ys) → AllPairs R xs
AllPairs-front {X} R xs ys all i j d less lt =
    subst (λ (x : X). R x (get_or xs j d)) (get_or_append_left xs ys d i (omega (arith, less, lt)))
    (subst (R (get_or (xs ++ ys) i d)) (get_or_append_left xs ys d j lt) (all i j d less (front_inside xs ys j lt)))

pub AllPairs-back : {X : Type 0} (R : X → X → Type 0) (xs ys : List X) → AllPairs R (xs ++ ys) → AllPairs R ys
AllPairs-back {X} R xs ys all i j d less lt =
    subst (λ (x : X). R x (get_or ys j d)) (get_or-append-add xs ys i d)
    (subst (R (get_or (xs ++ ys) (length xs + i) d)) (get_or-append-add xs ys j d) (all (length xs + i) (length xs + j) d (omega (arith, less)) (omega (arith, length-append xs ys, lt))))

pub AllPairs-of_map : {X Y : Type 0} (R : Y → Y → Type 0) (f : X → Y) (xs : List X) → AllPairs R (map f xs) → AllPairs (λ x y. R (f x) (f y)) xs
AllPairs-of_map {X} {Y} R f xs all i j d less lt =
    subst (λ (y : Y). R y (f (get_or xs j d))) (get_or-map f xs i d (f d) (omega (arith, less, lt)))
    (subst (R (get_or (map f xs) i (f d))) (get_or-map f xs j d (f d) lt) (all i j (f d) less (omega (arith, length-map xs f, lt))))

pub AllPairs-weaker : {X : Type 0} (R S : X → X → Type 0) → ((x y : X) → R x y → S x y) → (xs : List X) → AllPairs R xs → AllPairs S xs
AllPairs-weaker {X} R S weaker xs all i j d less lt = weaker (get_or xs i d) (get_or xs j d) (all i j d less lt)

-- ---- the four groups

unfoldable pub groups : List (ℕ × ℕ) → List (ℕ × ℕ) → List (ℕ × ℕ) → List PairLine → List Line
groups bs os ns ps = map bind_of bs ++ (map alike_old_of os ++ (map alike_new_of ns ++ map pair_of ps))

pub body-groups : (c : PlainCert) → body c ≡ groups c.binds c.alike_old c.alike_new c.pairs
unfolding body groups
body-groups c = refl

-- ---- one more line

lift : (front inner more last : List Line) → inner ≡ more ++ last → front ++ inner ≡ (front ++ more) ++ last
lift front inner more last e = ap (λ (xs : List Line). front ++ xs) e ∙ sym (append_assoc front more last)

grown : {X : Type 0} (f : X → Line) (xs : List X) (x : X) → map f (xs ++ x ∷ []) ≡ map f xs ++ f x ∷ []
grown {X} f xs x = map-append f xs (x ∷ [])

grown_last : {X : Type 0} (f : X → Line) (xs : List X) (x : X) → map f (xs ++ x ∷ []) ++ [] ≡ (map f xs ++ []) ++ f x ∷ []
grown_last {X} f xs x = append-nil (map f (xs ++ x ∷ [])) ∙ grown f xs x ∙ ap (λ (ys : List Line). ys ++ f x ∷ []) (sym (append-nil (map f xs)))

grow_bind : (bs os ns : List (ℕ × ℕ)) (ps : List PairLine) (x : ℕ × ℕ) → os ≡ [] → ns ≡ [] → ps ≡ [] → groups (bs ++ x ∷ []) os ns ps ≡ groups bs os ns ps ++ bind_of x ∷ []
unfolding groups
grow_bind bs [] [] [] x e f g = grown_last bind_of bs x
grow_bind bs (o ∷ os) ns ps x e f g = cc
grow_bind bs [] (n ∷ ns) ps x e f g = cc
grow_bind bs [] [] (p ∷ ps) x e f g = cc

grow_old : (bs os ns : List (ℕ × ℕ)) (ps : List PairLine) (x : ℕ × ℕ) → ns ≡ [] → ps ≡ [] → groups bs (os ++ x ∷ []) ns ps ≡ groups bs os ns ps ++ alike_old_of x ∷ []
unfolding groups
grow_old bs os [] [] x f g = lift (map bind_of bs) (map alike_old_of (os ++ x ∷ []) ++ []) (map alike_old_of os ++ []) (alike_old_of x ∷ []) (grown_last alike_old_of os x)
grow_old bs os (n ∷ ns) ps x f g = cc
grow_old bs os [] (p ∷ ps) x f g = cc

grow_new : (bs os ns : List (ℕ × ℕ)) (ps : List PairLine) (x : ℕ × ℕ) → ps ≡ [] → groups bs os (ns ++ x ∷ []) ps ≡ groups bs os ns ps ++ alike_new_of x ∷ []
unfolding groups
grow_new bs os ns [] x g =
    lift (map bind_of bs) (map alike_old_of os ++ (map alike_new_of (ns ++ x ∷ []) ++ [])) (map alike_old_of os ++ (map alike_new_of ns ++ [])) (alike_new_of x ∷ [])
    (lift (map alike_old_of os) (map alike_new_of (ns ++ x ∷ []) ++ []) (map alike_new_of ns ++ []) (alike_new_of x ∷ []) (grown_last alike_new_of ns x))
grow_new bs os ns (p ∷ ps) x g = cc

grow_pair : (bs os ns : List (ℕ × ℕ)) (ps : List PairLine) (x : PairLine) → groups bs os ns (ps ++ x ∷ []) ≡ groups bs os ns ps ++ pair_of x ∷ []
unfolding groups
grow_pair bs os ns ps x =
    let last = pair_of x ∷ [] in
    lift (map bind_of bs) (map alike_old_of os ++ (map alike_new_of ns ++ map pair_of (ps ++ x ∷ []))) (map alike_old_of os ++ (map alike_new_of ns ++ map pair_of ps)) last
    (lift (map alike_old_of os) (map alike_new_of ns ++ map pair_of (ps ++ x ∷ [])) (map alike_new_of ns ++ map pair_of ps) last
    (lift (map alike_new_of ns) (map pair_of (ps ++ x ∷ [])) (map pair_of ps) last (grown pair_of ps x)))

-- what comes before a line is of no later kind
abbrev Before : Line → Line → Type 0
Before line x = may_follow x line ≡ true

none_left : {X : Type 0} (f : X → Line) (r : ℕ) (same : (x : X) → rank (f x) ≡ r) (xs : List X) (rest : List Line) (line : Line) → All (Before line) (map f xs ++ rest) → rank line < r → xs ≡ []
none_left {X} f r same [] rest line all less = refl
none_left {X} f r same (x ∷ xs) rest line all less = absurd (omega (arith, rank_rises (f x) line (all 0 line (omega arith)), same x, less))

record AreEmpty (os ns : List (ℕ × ℕ)) (ps : List PairLine) (line : Line) : Type 0 where
  old : rank line < 1 → os ≡ []
  new : rank line < 2 → ns ≡ []
  pairs : rank line < 3 → ps ≡ []

are_empty : (bs os ns : List (ℕ × ℕ)) (ps : List PairLine) (line : Line) → All (Before line) (groups bs os ns ps) → AreEmpty os ns ps line
unfolding groups
are_empty bs os ns ps line all =
    let rest1 = All-back (Before line) (map bind_of bs) (map alike_old_of os ++ (map alike_new_of ns ++ map pair_of ps)) all in
    let rest2 = All-back (Before line) (map alike_old_of os) (map alike_new_of ns ++ map pair_of ps) rest1 in
    let rest3 = All-back (Before line) (map alike_new_of ns) (map pair_of ps) rest2 in
    record {
      old = none_left alike_old_of 1 (λ x. refl) os (map alike_new_of ns ++ map pair_of ps) line rest1;
      new = none_left alike_new_of 2 (λ x. refl) ns (map pair_of ps) line rest2;
      pairs = none_left pair_of 3 (λ x. refl) ps [] line (subst (All (Before line)) (sym (append-nil (map pair_of ps))) rest3);
    }

body_more : (c : PlainCert) (line : Line) → AreEmpty c.alike_old c.alike_new c.pairs line → is_end (Some line) ≡ false → body (with_line c line) ≡ body c ++ line ∷ []
unfolding body groups
body_more c (Bind i j) e going = grow_bind c.binds c.alike_old c.alike_new c.pairs (i, j) (e.old (lit< tt)) (e.new (lit< tt)) (e.pairs (lit< tt))
body_more c (AlikeOld i j) e going = grow_old c.binds c.alike_old c.alike_new c.pairs (i, j) (e.new (lit< tt)) (e.pairs (lit< tt))
body_more c (AlikeNew i j) e going = grow_new c.binds c.alike_old c.alike_new c.pairs (i, j) (e.pairs (lit< tt))
body_more c (Pair i j w) e going = grow_pair c.binds c.alike_old c.alike_new c.pairs (i, j, w)
body_more c End e going = cc

pub body-with : (c : PlainCert) (line : Line) → All (λ x. may_follow x line ≡ true) (body c) → is_end (Some line) ≡ false → body (with_line c line) ≡ body c ++ line ∷ []
body-with c line all going = body_more c line (are_empty c.binds c.alike_old c.alike_new c.pairs line (subst (All (Before line)) (body-groups c) all)) going
