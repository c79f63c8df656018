-- The parameters of a function stand in order behind its result.
use Rattle.std.proofs.Common.{◌≡◌, ◌<◌, ◌≤◌, ℕ, zero, suc, Bool, true, List, [], ◌∷◌, length, take, get_or, refl, sym, ◌∙◌, ap, subst, arith}
use Rattle.std.specs.List.{filter, list_all}
use Rattle.std.proofs.lemmas.Bool.{and_parts}
use Rattle.std.proofs.lemmas.List.Sums.{AllPass-from_list_all}
use Rattle.abi_types.specs.declared.kind.Kind.{Kind}
use Rattle.abi_types.specs.declared.kind.Kind.TheVariants as kind
use Rattle.abi_types.specs.Types.{PlainPart, Outcome, Param, PlainView}
use Rattle.abi_types.specs.Forms.{is_function, is_param, are_of_function}
use Rattle.abi_types.specs.Graphs.{part_at, no_part}
use Rattle.abi_types.specs.Parts.{like}
use Rattle.pair_rules.specs.Matching.{number_of}
use Rattle.pair_rules.proofs.lemmas.Places.{number_of-filter}

param-is : (p : PlainPart) → is_param p ≡ true → (to : ℕ) × (p ≡ Param to)
param-is (Param to) e = (to, refl)
param-is p e = absurd cc

all-length : (xs : List PlainPart) → list_all is_param xs ≡ true → length (filter is_param xs) ≡ length xs
all-length [] all = refl
all-length (x ∷ xs) all =
    let both = and_parts (is_param x) (list_all is_param xs) all in
    rw both.0 (ap suc (all-length xs both.1))

all-before : (xs : List PlainPart) (k : ℕ) → list_all is_param xs ≡ true → k ≤ length xs → length (filter is_param (take k xs)) ≡ k
all-before [] zero all le = refl
all-before [] (suc k) all le = absurd (omega arith)
all-before (x ∷ xs) zero all le = refl
all-before (x ∷ xs) (suc k) all le =
    let both = and_parts (is_param x) (list_all is_param xs) all in
    rw both.0 (ap suc (all-before xs k both.1 (omega arith)))

-- the k-th parameter
pub record IsParam (xs : List PlainPart) (k : ℕ) : Type 0 where
  pub inside : suc k < length xs
  pub to : ℕ
  pub is : get_or xs (suc k) no_part ≡ Param to
  pub before : length (filter is_param (take (suc k) xs)) ≡ k

pub param-at : (xs : List PlainPart) (k : ℕ) → are_of_function xs ≡ true → k < length (filter is_param xs) → IsParam xs k
param-at (Outcome a ∷ xs) k e lt =
    let many = all-length xs e in
    let below : k < length xs = omega arith in
    let is = param-is (get_or xs k no_part) (AllPass-from_list_all is_param xs e k no_part below) in
    record { inside = omega arith; to = is.0; is = is.1; before = all-before xs k e (omega arith) }
param-at xs k e lt = absurd cc

likes-params : (to : ℕ) (q : PlainPart) → like (Param to) q ≡ is_param q
likes-params to (Param b) = refl
likes-params to q = refl

pub param-number : (v : PlainView) (k : ℕ) → IsParam v.parts k → number_of v (suc k) ≡ k
param-number v k at =
    let P : (PlainPart → Bool) → Type 0 = λ f. length (filter f (take (suc k) v.parts)) ≡ k in
    let likes : like (part_at v (suc k)) ≡ is_param = ap like at.is ∙ (λ i q. likes-params at.to q i) in
    number_of-filter v (suc k) ∙ subst P (sym likes) at.before

pub function-kind : (k : Kind) → is_function k ≡ true → k ≡ kind.Function
function-kind kind.Function e = refl
function-kind k e = absurd cc
