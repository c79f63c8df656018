-- Lines in order have no fault.
use Rattle.std.proofs.Common.{◌≡◌, ◌<◌, ◌≤◌, ◌+◌, nat_lt, ℕ, suc, Bool, true, false, List, [], ◌∷◌, ◌++◌, get_or, map, Option, Some, None, refl, sym, ◌∙◌, subst, arith, lit<, lit≤}
use Rattle.std.specs.List.{All, AllPairs}
use Rattle.std.specs.Ordering.{nat_cmp, bool_cmp, ordering_then}
use Rattle.std.specs.declared.cmp.Ordering.{Ordering}
use Rattle.std.specs.declared.cmp.Ordering.TheVariants.{Less, Equal, Greater}
use Rattle.std.proofs.lemmas.Bool.{lt-ltb}
use Rattle.std.proofs.lemmas.List.Elements.{All-append, All-map, All-weaker}
use Rattle.std.proofs.lemmas.List.Kept.{AllPairs-cons}
use Rattle.abi_types.specs.declared.kind.Way.{Way}
use Rattle.abi_types.specs.declared.kind.Way.TheVariants.{Direct, Pointer}
use Rattle.cert_text.specs.Certs.{PlainCert, PairLine, IsCert, first_cmp, pair_cmp, is_pointer}
use Rattle.cert_text.specs.Grammar.{HasNumbers, IsWay, spelling, body, bind_of, alike_old_of, alike_new_of, pair_of}
use Rattle.cert_text.specs.Faults.{rank, may_follow, is_end, is_above, before_then, way_before, order_fault, body_fault}
use Rattle.cert_text.specs.declared.line.Version.{Version}
use Rattle.cert_text.specs.declared.line.Line.{Line}
use Rattle.cert_text.specs.declared.line.Line.TheVariants.{Bind, AlikeOld, AlikeNew, Pair, End}
use Rattle.cert_text.proofs.OrderLemmas.{lex_less, lex_same}
use Rattle.cert_text.proofs.BodyLemmas.{groups, body-groups}
use Rattle.cert_text.proofs.ReadingLemmas.{Follows}
use Rattle.cert_text.proofs.CompleteLemmas.{form_read}
use Rattle.abi_types.proofs.lemmas.Numbers.{nat_less_is}
use Rattle.abi_base.proofs.lemmas.Orders.{nat_equal}

-- ---- what lists in order say of their lines

bind_follows : (x y : ℕ × ℕ) → first_cmp x y ≡ Less → Follows (bind_of x) (bind_of y)
unfolding may_follow
bind_follows x y e = lex_same 0 0 (nat_lt x.0 y.0) refl (lt-ltb x.0 y.0 (nat_less_is x.0 y.0 e))

old_follows : (x y : ℕ × ℕ) → first_cmp x y ≡ Less → Follows (alike_old_of x) (alike_old_of y)
unfolding may_follow
old_follows x y e = lex_same 1 1 (nat_lt x.0 y.0) refl (lt-ltb x.0 y.0 (nat_less_is x.0 y.0 e))

new_follows : (x y : ℕ × ℕ) → first_cmp x y ≡ Less → Follows (alike_new_of x) (alike_new_of y)
unfolding may_follow
new_follows x y e = lex_same 2 2 (nat_lt x.0 y.0) refl (lt-ltb x.0 y.0 (nat_less_is x.0 y.0 e))

way_follows : (v w : Way) → bool_cmp (is_pointer v) (is_pointer w) ≡ Less → way_before v w ≡ true
way_follows Direct Direct e = cc
way_follows Direct Pointer e = refl
way_follows Pointer Direct e = cc
way_follows Pointer Pointer e = cc

lex_from : (m n : ℕ) (t : Bool) (rest : Ordering) (o : Ordering) → nat_cmp m n ≡ o → (rest ≡ Less → t ≡ true) → ordering_then o rest ≡ Less → before_then m n t ≡ true
lex_from m n t rest Less is next e = lex_less m n t (nat_less_is m n is)
lex_from m n t rest Equal is next e = lex_same m n t (nat_equal m n is) (next e)
lex_from m n t rest Greater is next e = cc

then_then : (a b c : Ordering) → ordering_then (ordering_then a b) c ≡ ordering_then a (ordering_then b c)
then_then Less b c = refl
then_then Equal b c = refl
then_then Greater b c = refl

pair_follows : (x y : PairLine) → pair_cmp x y ≡ Less → Follows (pair_of x) (pair_of y)
unfolding may_follow
pair_follows x y e =
    let ways = bool_cmp (is_pointer x.2) (is_pointer y.2) in
    let news = ordering_then (nat_cmp x.1 y.1) ways in
    let flat : ordering_then (nat_cmp x.0 y.0) news ≡ Less = sym (then_then (nat_cmp x.0 y.0) (nat_cmp x.1 y.1) ways) ∙ e in
    let news_before : news ≡ Less → before_then x.1 y.1 (way_before x.2 y.2) ≡ true = lex_from x.1 y.1 (way_before x.2 y.2) ways (nat_cmp x.1 y.1) refl (way_follows x.2 y.2) in
    lex_same 3 3 (before_then x.0 y.0 (before_then x.1 y.1 (way_before x.2 y.2))) refl
    (lex_from x.0 y.0 (before_then x.1 y.1 (way_before x.2 y.2)) news (nat_cmp x.0 y.0) refl news_before flat)

later_kind : (x y : Line) → rank x < rank y → Follows x y
unfolding may_follow
later_kind x y lt = lex_less (rank x) (rank y) (is_above x y) lt

-- ---- pairs of joined lists

pairs_map : {X : Type 0} (f : X → Line) (R : X → X → Type 0) → ((x y : X) → R x y → Follows (f x) (f y)) → (xs : List X) → AllPairs R xs → AllPairs Follows (map f xs)
pairs_map {X} f R follows [] all = λ i j d less lt. absurd (omega (arith, lt))
pairs_map {X} f R follows (x ∷ xs) all =
    let tail : AllPairs R xs = λ i j d less lt. all (suc i) (suc j) d (omega (arith, less)) (omega (arith, lt)) in
    let head : All (R x) xs = λ k d lt. all 0 (suc k) d (omega arith) (omega (arith, lt)) in
    AllPairs-cons Follows (f x) (map f xs) (All-map (Follows (f x)) f xs (All-weaker (R x) (λ (y : X). Follows (f x) (f y)) (follows x) xs head)) (pairs_map f R follows xs tail)

pairs_joined : (xs ys : List Line) → AllPairs Follows xs → AllPairs Follows ys → All (λ x. All (Follows x) ys) xs → AllPairs Follows (xs ++ ys)
pairs_joined [] ys one other across = other
pairs_joined (x ∷ xs) ys one other across =
    let tail : AllPairs Follows xs = λ i j d less lt. one (suc i) (suc j) d (omega (arith, less)) (omega (arith, lt)) in
    let head : All (Follows x) xs = λ k d lt. one 0 (suc k) d (omega arith) (omega (arith, lt)) in
    AllPairs-cons Follows x (xs ++ ys) (All-append (Follows x) xs ys head (across 0 x (omega arith))) (pairs_joined xs ys tail other (λ k d lt. across (suc k) d (omega (arith, lt))))

-- lines of kinds up to one, before lines of later kinds
abbrev IsUpTo : ℕ → Line → Type 0
IsUpTo r x = rank x ≤ r

abbrev IsFrom : ℕ → Line → Type 0
IsFrom r x = r ≤ rank x

across : (r : ℕ) (xs ys : List Line) → All (IsUpTo r) xs → All (IsFrom (r + 1)) ys → All (λ x. All (Follows x) ys) xs
across r xs ys one other = All-weaker (IsUpTo r) (λ x. All (Follows x) ys) (λ x up. All-weaker (IsFrom (r + 1)) (Follows x) (λ y from. later_kind x y (omega (arith, up, from))) ys other) xs one

of_kind : {X : Type 0} (f : X → Line) (P : Line → Type 0) → ((x : X) → P (f x)) → (xs : List X) → All P (map f xs)
of_kind {X} f P each xs = All-map P f xs (λ k d lt. each (get_or xs k d))

in_order : (c : PlainCert) → IsCert c → AllPairs Follows (groups c.binds c.alike_old c.alike_new c.pairs)
unfolding groups
in_order c kept =
    let bs = map bind_of c.binds in
    let os = map alike_old_of c.alike_old in
    let ns = map alike_new_of c.alike_new in
    let ps = map pair_of c.pairs in
    let pairs = pairs_map pair_of (λ x y. pair_cmp x y ≡ Less) pair_follows c.pairs kept.pairs in
    let news = pairs_joined ns ps (pairs_map alike_new_of (λ x y. first_cmp x y ≡ Less) new_follows c.alike_new kept.alike_new) pairs
    (across 2 ns ps (of_kind alike_new_of (IsUpTo 2) (λ x. lit≤ tt) c.alike_new) (of_kind pair_of (IsFrom 3) (λ x. lit≤ tt) c.pairs)) in
    let olds = pairs_joined os (ns ++ ps) (pairs_map alike_old_of (λ x y. first_cmp x y ≡ Less) old_follows c.alike_old kept.alike_old) news
    (across 1 os (ns ++ ps) (of_kind alike_old_of (IsUpTo 1) (λ x. lit≤ tt) c.alike_old) (All-append (IsFrom 2) ns ps (of_kind alike_new_of (IsFrom 2) (λ x. lit≤ tt) c.alike_new) (of_kind pair_of (IsFrom 2) (λ x. lit≤ tt) c.pairs))) in
    pairs_joined bs (os ++ (ns ++ ps)) (pairs_map bind_of (λ x y. first_cmp x y ≡ Less) bind_follows c.binds kept.binds) olds
    (across 0 bs (os ++ (ns ++ ps)) (of_kind bind_of (IsUpTo 0) (λ x. lit≤ tt) c.binds)
    (All-append (IsFrom 1) os (ns ++ ps) (of_kind alike_old_of (IsFrom 1) (λ x. lit≤ tt) c.alike_old) (All-append (IsFrom 1) ns ps (of_kind alike_new_of (IsFrom 1) (λ x. lit≤ tt) c.alike_new) (of_kind pair_of (IsFrom 1) (λ x. lit≤ tt) c.pairs))))

pub body_in_order : (c : PlainCert) → IsCert c → AllPairs Follows (body c)
body_in_order c kept = subst (AllPairs Follows) (sym (body-groups c)) (in_order c kept)

-- no line of the body is the last one
abbrev pub IsBody : Line → Type 0
IsBody x = is_end (Some x) ≡ false

bodies : (c : PlainCert) → All IsBody (groups c.binds c.alike_old c.alike_new c.pairs)
unfolding groups
bodies c =
    All-append IsBody (map bind_of c.binds) (map alike_old_of c.alike_old ++ (map alike_new_of c.alike_new ++ map pair_of c.pairs)) (of_kind bind_of IsBody (λ x. refl) c.binds)
    (All-append IsBody (map alike_old_of c.alike_old) (map alike_new_of c.alike_new ++ map pair_of c.pairs) (of_kind alike_old_of IsBody (λ x. refl) c.alike_old)
    (All-append IsBody (map alike_new_of c.alike_new) (map pair_of c.pairs) (of_kind alike_new_of IsBody (λ x. refl) c.alike_new) (of_kind pair_of IsBody (λ x. refl) c.pairs)))

pub body_bodies : (c : PlainCert) → All IsBody (body c)
body_bodies c = subst (All IsBody) (sym (body-groups c)) (bodies c)

-- the ways of its pair lines are those that a version has
abbrev pub HasWays : Version → PlainCert → Type 0
HasWays v c = All (λ (line : PairLine). IsWay v line.2) c.pairs

numbers_of : (v : Version) (c : PlainCert) → IsCert c → HasWays v c → All (HasNumbers v) (groups c.binds c.alike_old c.alike_new c.pairs)
unfolding groups
numbers_of v c kept ways =
    let P = HasNumbers v in
    let n = kept.numbers in
    All-append P (map bind_of c.binds) (map alike_old_of c.alike_old ++ (map alike_new_of c.alike_new ++ map pair_of c.pairs)) (All-map P bind_of c.binds n.binds)
    (All-append P (map alike_old_of c.alike_old) (map alike_new_of c.alike_new ++ map pair_of c.pairs) (All-map P alike_old_of c.alike_old n.alike_old)
    (All-append P (map alike_new_of c.alike_new) (map pair_of c.pairs) (All-map P alike_new_of c.alike_new n.alike_new)
    (All-map P pair_of c.pairs (λ k d lt. let line = n.pairs k d lt in (line.0, line.1, ways k d lt)))))

pub body_numbers : (v : Version) (c : PlainCert) → IsCert c → HasWays v c → All (HasNumbers v) (body c)
body_numbers v c kept ways = subst (All (HasNumbers v)) (sym (body-groups c)) (numbers_of v c kept ways)

-- ---- a run of lines

-- the line may stand behind the one before it
abbrev PathLeadsTo : Option Line → Line → Type 0
PathLeadsTo None x = Unit {0}
PathLeadsTo (Some before) x = Follows before x

no_order_fault : (number : ℕ) (before : Option Line) (x : Line) → PathLeadsTo before x → order_fault number before x ≡ None
no_order_fault number None x leads = refl
no_order_fault number (Some before) x leads = let e : may_follow before x ≡ true = leads in rw e refl

before_end : (x : Line) → IsBody x → Follows x End
before_end (Bind i j) is = later_kind (Bind i j) End (lit< tt)
before_end (AlikeOld i j) is = later_kind (AlikeOld i j) End (lit< tt)
before_end (AlikeNew i j) is = later_kind (AlikeNew i j) End (lit< tt)
before_end (Pair i j w) is = later_kind (Pair i j w) End (lit< tt)
before_end End is = cc

leads_end : (before : Option Line) → is_end before ≡ false → PathLeadsTo before End
leads_end None going = tt
leads_end (Some x) going = before_end x going

last_line : (v : Version) (number : ℕ) (before : Option Line) → is_end before ≡ false → body_fault v number before (spelling v End ∷ []) [] ≡ None
unfolding body_fault
last_line v number before going =
    let form = form_read v End tt in
    let order = no_order_fault number before End (leads_end before going) in
    rw (going, form, order) refl

pub run : (v : Version) (number : ℕ) (before : Option Line) (xs : List Line) → is_end before ≡ false → All (HasNumbers v) xs → All IsBody xs → All (PathLeadsTo before) xs → AllPairs Follows xs → body_fault v number before (map (spelling v) xs ++ spelling v End ∷ []) [] ≡ None
unfolding body_fault
run v number before [] going numbers bodies leads pairs = last_line v number before going
run v number before (x ∷ xs) going numbers bodies leads pairs =
    let form = form_read v x (numbers 0 x (omega arith)) in
    let order = no_order_fault number before x (leads 0 x (omega arith)) in
    let rest = run v (number + 1) (Some x) xs (bodies 0 x (omega arith)) (λ k d lt. numbers (suc k) d (omega (arith, lt))) (λ k d lt. bodies (suc k) d (omega (arith, lt))) (λ k d lt. pairs 0 (suc k) d (omega arith) (omega (arith, lt))) (λ i j d less lt. pairs (suc i) (suc j) d (omega (arith, less)) (omega (arith, lt))) in
    rw (going, form, order) rest
