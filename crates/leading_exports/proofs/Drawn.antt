-- The arrows between visits are steps over representatives, and each such step has one.
use Rattle.std.proofs.Common.{◌≡◌, ◌+◌, ℕ, Bool, true, false, if◌then◌else◌, List, [], ◌∷◌, ◌++◌, length, Option, Some, None, refl, sym, ◌∙◌, ap, subst}
use Rattle.std.specs.Prelude.{◌↔◌, Contains, flat_map, slice_get}
use Rattle.std.specs.List.{range_with_len}
use Rattle.std.proofs.lemmas.List.{append-nil, append_assoc}
use Rattle.std.proofs.lemmas.Option.{slice_get_within}
use Rattle.std.proofs.lemmas.Grind.{flat_map-append}
use Rattle.abi_base.proofs.lemmas.Contained.{at_front, in_one, in_none, in_range}
use Rattle.abi_base.proofs.lemmas.Ranges.{below_more}
use Rattle.abi_types.specs.Graphs.{view_at}
use Rattle.pair_rules.specs.Steps.{Triple, is_marked, step, IsStep}
use Rattle.pair_explorer.specs.declared.visits.Visit.{Visit}
use Rattle.pair_explorer.specs.Scopes.{Scope, rep_step}
use Rattle.pair_explorer.specs.Visits.{seen, has, IsVisit}
use Rattle.leading_exports.specs.Numbers.{AreNumbers, IsNumberOf, number_in}
use Rattle.leading_exports.specs.Drawing.{all_arrows, arrow_found, arrow_to, arrows_along, arrows_by, arrows_from, arrows_upto}
use Rattle.leading_exports.specs.Walks.{IsWalk}
use Rattle.pair_rules.proofs.lemmas.Lists.{from_flat_map, in_flat_map}
use Rattle.pair_explorer.proofs.lemmas.Steps.{IsRepStep, rep_step-parts}

-- ---- one after another

flat_map_next : {Y : Type 0} (f : ℕ → List Y) (n : ℕ) → flat_map f (range_with_len 0 (n + 1)) ≡ flat_map f (range_with_len 0 n) ++ f n
flat_map_next {Y} f n =
    ap (flat_map f) (below_more n) ∙ flat_map-append f (range_with_len 0 n) (n ∷ [])
    ∙ ap (λ (ys : List Y). flat_map f (range_with_len 0 n) ++ ys) (append-nil (f n))

pub along_none : (s : Scope) (entries : List (Triple × ℕ)) (n : ℕ) (x : Triple) (arrows : List (ℕ × ℕ)) → arrows ≡ arrows ++ arrows_along s entries n x 0
unfolding arrows_along
along_none s entries n x arrows = sym (append-nil arrows)

pub along_more : (s : Scope) (entries : List (Triple × ℕ)) (n : ℕ) (x : Triple) (start arrows more : List (ℕ × ℕ)) (i : ℕ) (next : Option Triple) → arrows ≡ start ++ arrows_along s entries n x i → next ≡ rep_step s x i
    → more ≡ arrows ++ arrow_to entries n next → more ≡ start ++ arrows_along s entries n x (i + 1)
unfolding arrows_along
along_more s entries n x start arrows more i next are is grows =
    let so_far : List (ℕ × ℕ) = flat_map (λ j. arrow_to entries n (rep_step s x j)) (range_with_len 0 i) in
    grows ∙ ap (λ o. arrows ++ arrow_to entries n o) is ∙ ap (λ (ys : List (ℕ × ℕ)). ys ++ arrow_to entries n (rep_step s x i)) are
    ∙ append_assoc start so_far (arrow_to entries n (rep_step s x i)) ∙ ap (λ (ys : List (ℕ × ℕ)). start ++ ys) (sym (flat_map_next (λ j. arrow_to entries n (rep_step s x j)) i))

pub upto_none : (s : Scope) (visits : List Visit) (entries : List (Triple × ℕ)) → arrows_upto s visits entries 0 ≡ []
unfolding arrows_upto
upto_none s visits entries = refl

pub upto_more : (s : Scope) (visits : List Visit) (entries : List (Triple × ℕ)) (arrows more : List (ℕ × ℕ)) (n : ℕ) → arrows ≡ arrows_upto s visits entries n → more ≡ arrows ++ arrows_from s visits entries n → more ≡ arrows_upto s visits entries (n + 1)
unfolding arrows_upto
upto_more s visits entries arrows more n are grows =
    grows ∙ ap (λ (ys : List (ℕ × ℕ)). ys ++ arrows_from s visits entries n) are ∙ sym (flat_map_next (arrows_from s visits entries) n)

-- ---- from the visit of a number

pub from_marked : (s : Scope) (visits : List Visit) (entries : List (Triple × ℕ)) (n : ℕ) (v : Visit) → slice_get visits n ≡ Some v → is_marked s.task v.old v.way ≡ true → arrows_from s visits entries n ≡ []
unfolding arrows_from
from_marked s visits entries n v at marked = ap (arrows_by s entries n) at ∙ rw marked refl

pub from_unmarked : (s : Scope) (visits : List Visit) (entries : List (Triple × ℕ)) (n : ℕ) (v : Visit) → slice_get visits n ≡ Some v → is_marked s.task v.old v.way ≡ false
    → arrows_from s visits entries n ≡ arrows_along s entries n (seen v) (length (view_at s.task.old v.old).parts)
unfolding arrows_from
from_unmarked s visits entries n v at unmarked = ap (arrows_by s entries n) at ∙ rw unmarked refl

-- ---- what arrows are

-- a step leads over representatives from what a visit with a number visits to what another one does
pub record IsArrow (s : Scope) (visits : List Visit) (m n : ℕ) : Type 0 where
  pub from : Visit
  pub at : slice_get visits m ≡ Some from
  pub part : ℕ
  pub to : Triple
  pub leads : rep_step s (seen from) part ≡ Some to
  pub is : IsNumberOf visits to n

-- what an arrow to a triple tells
record IsFound (entries : List (Triple × ℕ)) (k : ℕ) (o : Option Triple) (m n : ℕ) : Type 0 where
  pub to : Triple
  pub is : o ≡ Some to
  pub number : number_in entries to ≡ Some n
  pub from : k ≡ m

found_parts : (entries : List (Triple × ℕ)) (k m n : ℕ) (o : Option Triple) → Contains (arrow_to entries k o) (m, n) → IsFound entries k o m n
found_parts entries k m n None there = absurd (in_none (m, n) there)
found_parts entries k m n (Some y) there = go (number_in entries y) refl there where
  go : (found : Option ℕ) → number_in entries y ≡ found → Contains (arrow_found k found) (m, n) → IsFound entries k (Some y) m n
  go None is there = absurd (in_none (m, n) there)
  go (Some j) is there =
      let same : ◌≡◌ {A = ℕ × ℕ} (k, j) (m, n) = in_one (k, j) (m, n) there in
      record { to = y; is = refl; number = is ∙ ap (λ (p : ℕ × ℕ). Some p.1) same; from = ap (λ (p : ℕ × ℕ). p.0) same }

module _ (s : Scope) (visits : List Visit) (entries : List (Triple × ℕ)) (numbers : AreNumbers visits entries) (m n : ℕ) where
  arrow_along : (k : ℕ) (v : Visit) (count : ℕ) → slice_get visits k ≡ Some v → Contains (arrows_along s entries k (seen v) count) (m, n) → IsArrow s visits m n
  unfolding arrows_along
  arrow_along k v count at there =
      let found = from_flat_map (λ i. arrow_to entries k (rep_step s (seen v) i)) (range_with_len 0 count) (m, n) there in
      let is = found_parts entries k m n (rep_step s (seen v) found.0) found.2 in
      record { from = v; at = ap (slice_get visits) (sym is.from) ∙ at; part = found.0; to = is.to; leads = is.is; is = numbers.sound is.to n is.number }

  arrow_from : (k : ℕ) → Contains (arrows_from s visits entries k) (m, n) → IsArrow s visits m n
  unfolding arrows_from
  arrow_from k there = go (slice_get visits k) refl there where
    go : (o : Option Visit) → slice_get visits k ≡ o → Contains (arrows_by s entries k o) (m, n) → IsArrow s visits m n
    go None is there = absurd (in_none (m, n) there)
    go (Some v) is there = marked (is_marked s.task v.old v.way) there where
      marked : (b : Bool) → Contains (if b then [] else arrows_along s entries k (seen v) (length (view_at s.task.old v.old).parts)) (m, n) → IsArrow s visits m n
      marked true there = absurd (in_none (m, n) there)
      marked false there = arrow_along k v (length (view_at s.task.old v.old).parts) is there

  pub arrow_is : Contains (all_arrows s visits entries) (m, n) → IsArrow s visits m n
  unfolding arrows_upto
  arrow_is there = let found = from_flat_map (arrows_from s visits entries) (range_with_len 0 (length visits)) (m, n) there in arrow_from found.0 found.2

-- ---- each step has an arrow

-- what the laws below say of steps and visits
pub record StepLaws (s : Scope) : Type 0 where
  pub visited : (visits : List Visit) (x : Triple) → (has visits x ≡ true) ↔ IsVisit visits x
  pub exact : (x y : Triple) (i : ℕ) → (step s.task x i ≡ Some y) ↔ IsStep s.task x i y

-- an arrow leads from a number to a visit of the triple
pub record HasArrow (s : Scope) (visits : List Visit) (entries : List (Triple × ℕ)) (m : ℕ) (y : Triple) : Type 0 where
  pub number : ℕ
  pub is : IsNumberOf visits y number
  pub arrow : Contains (all_arrows s visits entries) (m, number)

-- a triple that was visited has a number
pub record HasVisit (visits : List Visit) (entries : List (Triple × ℕ)) (x : Triple) : Type 0 where
  pub number : ℕ
  pub found : number_in entries x ≡ Some number
  pub is : IsNumberOf visits x number

module _ (s : Scope) (laws : StepLaws s) (visits : List Visit) (entries : List (Triple × ℕ)) (walk : IsWalk s visits entries) where
  pub visit_of : (x : Triple) → has visits x ≡ true → HasVisit visits entries x
  visit_of x visited =
      let v = (laws.visited visits x).0 visited in
      let number = walk.numbers.each v.number v.visit (slice_get_within visits v.number v.visit v.at) v.at in
      let P : Triple → Type 0 = λ y. number_in entries y ≡ Some number.number in
      let found : number_in entries x ≡ Some number.number = subst P v.is number.is in
      record { number = number.number; found = found; is = walk.numbers.sound x number.number found }

  module _ (m : ℕ) (v : Visit) (at : slice_get visits m ≡ Some v) (i : ℕ) (y : Triple) (leads : rep_step s (seen v) i ≡ Some y) where
    stepped : IsRepStep s (seen v) i y
    stepped = rep_step-parts s (seen v) y i leads

    visited : has visits y ≡ true
    visited = let P : Triple → Type 0 = λ z. has visits z ≡ true in subst P stepped.is (walk.explored.partners m i v stepped.to at stepped.stepped)

    is_step : IsStep s.task (seen v) i stepped.to
    is_step = (laws.exact (seen v) stepped.to i).0 stepped.stepped

    there : (n : ℕ) → number_in entries y ≡ Some n → Contains (arrow_to entries m (rep_step s (seen v) i)) (m, n)
    there n found =
        let one : arrow_to entries m (rep_step s (seen v) i) ≡ (m, n) ∷ [] = ap (arrow_to entries m) leads ∙ ap (arrow_found m) found in
        let P : List (ℕ × ℕ) → Type 0 = λ xs. Contains xs (m, n) in
        subst P (sym one) (at_front (m, n) [])

    along : (n : ℕ) → number_in entries y ≡ Some n → Contains (arrows_along s entries m (seen v) (length (view_at s.task.old v.old).parts)) (m, n)
    unfolding arrows_along
    along n found =
        in_flat_map (λ j. arrow_to entries m (rep_step s (seen v) j)) (range_with_len 0 (length (view_at s.task.old v.old).parts)) i (m, n)
        (in_range (length (view_at s.task.old v.old).parts) i is_step.partners.old_inside) (there n found)

    all : (n : ℕ) → number_in entries y ≡ Some n → Contains (all_arrows s visits entries) (m, n)
    unfolding arrows_upto
    all n found =
        let P : List (ℕ × ℕ) → Type 0 = λ xs. Contains xs (m, n) in
        in_flat_map (arrows_from s visits entries) (range_with_len 0 (length visits)) m (m, n) (in_range (length visits) m (slice_get_within visits m v at))
        (subst P (sym (from_unmarked s visits entries m v at is_step.unmarked)) (along n found))

    pub arrow_there : HasArrow s visits entries m y
    arrow_there = let to = visit_of y visited in record { number = to.number; is = to.is; arrow = all to.number to.found }
