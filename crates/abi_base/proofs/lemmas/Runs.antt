-- A run goes on as its step does, whatever the fuel, where a measure falls.
use Rattle.std.proofs.Common.{◌≡◌, ℕ, zero, suc, ◌<◌, ◌≤◌, List, [], ◌∷◌, ◌++◌, length, Result, Ok, Err, refl, sym, ap, ◌∙◌, arith, append_assoc}
use Rattle.std.specs.Prelude.{All}
use Rattle.std.proofs.lemmas.List.Elements.{All-nil, All-cons}
use Rattle.std.proofs.lemmas.List.{append-nil}
use Rattle.abi_base.specs.Runs.{Run, ended, put_front, continue, run, Chain}

-- a step whose states go down by a measure
pub record Falls {S X E : Type 0} (step : S → Result (X × S) E) (measure : S → ℕ) : Type 0 where
  pub falls : (s : S) (x : X) (next : S) → step s ≡ Ok (x, next) → measure next < measure s

-- enough fuel is as good as more
pub same_run : {S X E : Type 0} (step : S → Result (X × S) E) (late : E) (measure : S → ℕ) (n m : ℕ) (s : S) → Falls step measure → measure s < n → measure s < m → run step late n s ≡ run step late m s
unfolding run
same_run step late measure zero m s falls ln lm = absurd (omega arith)
same_run step late measure (suc n) zero s falls ln lm = absurd (omega arith)
same_run {S = S} {X = X} {E = E} step late measure (suc n) (suc m) s falls ln lm =
    cases (step s) refl (λ next lt. same_run step late measure n m next falls (omega arith) (omega arith))
  where
    cases : (r : Result (X × S) E) → step s ≡ r → ((next : S) → measure next < measure s → run step late n next ≡ run step late m next) → continue r (run step late n) ≡ continue r (run step late m)
    cases (Ok (x, next)) is others = ap (λ (q : Run X E). put_front x q) (others next (falls.falls s x next is))
    cases (Err e) is others = refl

pub run_more : {S X E : Type 0} (step : S → Result (X × S) E) (late : E) (measure : S → ℕ) (n : ℕ) (s : S) (x : X) (next : S) → Falls step measure → measure s ≤ n → step s ≡ Ok (x, next) → run step late (suc n) s ≡ put_front x (run step late (suc n) next)
unfolding run
run_more {X = X} {E = E} step late measure n s x next falls le is =
    let lt = falls.falls s x next is in
    rw is (ap (λ (q : Run X E). put_front x q) (same_run step late measure n (suc n) next falls (omega arith) (omega arith)))

pub run_end : {S X E : Type 0} (step : S → Result (X × S) E) (late : E) (n : ℕ) (s : S) (e : E) → step s ≡ Err e → run step late (suc n) s ≡ ended e
unfolding run
run_end step late n s e is = rw is refl

-- ---- what was read before, and what is still read

abbrev pub put_before : {X E : Type 0} → List X → Run X E → Run X E
put_before xs r = record { items = xs ++ r.items; end = r.end }

pub put_before-front : {X E : Type 0} (xs : List X) (x : X) (r : Run X E) → put_before xs (put_front x r) ≡ put_before (xs ++ x ∷ []) r
put_before-front {X = X} {E = E} xs x r = ap (λ (ys : List X). let q : Run X E = record { items = ys; end = r.end } in q) (sym (append_assoc xs (x ∷ []) r.items))

-- what holds of the end, from what each state keeps
pub run_ends : {S X E : Type 0} (P : S → Type 0) (Q : E → Type 0) (step : S → Result (X × S) E) (late : E) (n : ℕ) (s : S)
    → ((s : S) (x : X) (next : S) → P s → step s ≡ Ok (x, next) → P next) → ((s : S) (e : E) → P s → step s ≡ Err e → Q e) → Q late
    → P s → Q (run step late n s).end
unfolding run
run_ends P Q step late zero s keeps ends q p = q
run_ends {S = S} {X = X} {E = E} P Q step late (suc n) s keeps ends q p =
    cases (step s) refl (λ next pn. run_ends P Q step late n next keeps ends q pn)
  where
    cases : (r : Result (X × S) E) → step s ≡ r → ((next : S) → P next → Q (run step late n next).end) → Q (continue r (run step late n)).end
    cases (Ok (x, next)) is others = others next (keeps s x next p is)
    cases (Err e) is others = ends s e p is

-- a loop that keeps `what was read, then what is left, is the whole`: one turn, and the last
pub loop_more : {S X E : Type 0} (step : S → Result (X × S) E) (late : E) (measure : S → ℕ) (n : ℕ) (s : S) (x : X) (next : S) (xs : List X) (whole : Run X E)
    → Falls step measure → measure s ≤ n → step s ≡ Ok (x, next)
    → put_before xs (run step late (suc n) s) ≡ whole → put_before (xs ++ x ∷ []) (run step late (suc n) next) ≡ whole
loop_more {X = X} {E = E} step late measure n s x next xs whole falls le is so_far =
    sym (put_before-front xs x (run step late (suc n) next))
    ∙ ap (λ (q : Run X E). put_before xs q) (sym (run_more step late measure n s x next falls le is))
    ∙ so_far

pub loop_end : {S X E : Type 0} (step : S → Result (X × S) E) (late : E) (n : ℕ) (s : S) (e : E) (xs : List X) (whole : Run X E)
    → step s ≡ Err e → put_before xs (run step late (suc n) s) ≡ whole → (whole.items ≡ xs) × (whole.end ≡ e)
loop_end {X = X} {E = E} step late n s e xs whole is so_far =
    let last = run_end step late n s e is in (
      ap (λ (q : Run X E). q.items) (sym so_far) ∙ ap (λ (q : Run X E). xs ++ q.items) last ∙ append-nil xs,
      ap (λ (q : Run X E). q.end) (sym so_far) ∙ ap (λ (q : Run X E). q.end) last,
    )

-- ---- a run is the one chain

pub run_chain : {S X E : Type 0} (step : S → Result (X × S) E) (late : E) (measure : S → ℕ) (n : ℕ) (s : S) → Falls step measure → measure s < n
    → Chain step s (run step late n s).items (run step late n s).end
unfolding run
run_chain step late measure zero s falls lt = absurd (omega arith)
run_chain {S = S} {X = X} {E = E} step late measure (suc n) s falls lt = cases (step s) refl (λ next below. run_chain step late measure n next falls (omega arith))
  where
    cases : (r : Result (X × S) E) → step s ≡ r → ((next : S) → measure next < measure s → Chain step next (run step late n next).items (run step late n next).end)
        → Chain step s (continue r (run step late n)).items (continue r (run step late n)).end
    cases (Ok (x, next)) is others = (next, is, others next (falls.falls s x next is))
    cases (Err e) is others = is

pub chain_run : {S X E : Type 0} (step : S → Result (X × S) E) (late : E) (n : ℕ) (s : S) (xs : List X) (e : E) → length xs < n → Chain step s xs e
    → run step late n s ≡ record { items = xs; end = e }
unfolding run
chain_run step late zero s xs e lt h = absurd (omega arith)
chain_run step late (suc n) s [] e lt h = rw h refl
chain_run {X = X} {E = E} step late (suc n) s (x ∷ xs) e lt h = rw h.1 (ap (λ (q : Run X E). put_front x q) (chain_run step late n h.0 xs e (omega arith) h.2))

-- ---- what holds of all of a run

-- what holds of each item that a step gives, holds of all of a run
pub run_all : {S X E : Type 0} (P : X → Type 0) (step : S → Result (X × S) E) (late : E) → ((s : S) (x : X) (next : S) → step s ≡ Ok (x, next) → P x)
    → (n : ℕ) (s : S) → All P (run step late n s).items
unfolding run
run_all P step late each zero s = All-nil P
run_all {S = S} {X = X} {E = E} P step late each (suc n) s = cases (step s) (λ x next is. each s x next is) (λ next. run_all P step late each n next)
  where
    cases : (r : Result (X × S) E) → ((x : X) (next : S) → r ≡ Ok (x, next) → P x) → ((next : S) → All P (run step late n next).items) → All P (continue r (run step late n)).items
    cases (Ok (x, next)) here others = All-cons P x (run step late n next).items (here x next refl) (others next)
    cases (Err e) here others = All-nil P
