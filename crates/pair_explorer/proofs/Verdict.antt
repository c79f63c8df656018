-- What an exploration says of all nodes.
use Rattle.std.proofs.Common.{◌≡◌, ◌<◌, ◌≤◌, ℕ, zero, suc, Bool, true, false, length, slice_get, List, [], ◌++◌, map, Some, refl, sym, ◌∙◌, ap, subst, inl, inr, arith}
use Rattle.std.specs.List.{Contains}
use Rattle.std.proofs.lemmas.Bool.{cases_order, cases_Bool}
use Rattle.std.proofs.lemmas.List.Elements.{Contains-append_left, Contains-append_right, Contains-append_cases}
use Rattle.std.proofs.lemmas.Option.{slice_get_within, same_Some}
use Rattle.abi_base.proofs.lemmas.Lists.{at_below, map-nil, left-nil, right-nil}
use Rattle.abi_base.proofs.lemmas.Contained.{in_none, in_map, in_map_cases}
use Rattle.pair_rules.specs.declared.rules.Broken.{Broken}
use Rattle.pair_rules.specs.Steps.{Task, Triple, is_marked, breaks_of}
use Rattle.pair_rules.specs.Paths.{Path, From, Then, IsReachable, PathLeadsTo}
use Rattle.pair_rules.specs.Closed.{AreCompatible, IsClosed, HoldsRoots}
use Rattle.pair_explorer.specs.declared.visits.Visit.{Visit}
use Rattle.pair_explorer.specs.Scopes.{Scope, rep, rep_step, LeadsByRep}
use Rattle.pair_explorer.specs.Visits.{seen, has, IsVisit, Along}
use Rattle.pair_explorer.specs.Explorations.{IsExploration, visit_breaks, breaks_below}
use Rattle.pair_explorer.specs.ByClass.{IsSound, IsTold, IsToldBy, IsReached, covers}
use Rattle.pair_explorer.proofs.Growth.{has_found}
use Rattle.pair_explorer.proofs.Leading.{rep_step_of}
use Rattle.pair_explorer.proofs.Loop.{breaks_below-more}
use Rattle.pair_explorer.proofs.Order.{same_path}
use Rattle.pair_explorer.proofs.Representatives.{AreUnseen, rep_twice, marked_same, breaks_same, rep_step_same, goes, comes}
use Rattle.pair_explorer.proofs.lemmas.Steps.{rep_step-parts}

-- ---- the breaks of visits

pub visit_breaks-marked : (t : Task) (n : ℕ) (v : Visit) → is_marked t v.old v.way ≡ true → visit_breaks t n v ≡ []
unfolding visit_breaks
visit_breaks-marked t n v marked = rw marked refl

pub visit_breaks-unmarked : (t : Task) (n : ℕ) (v : Visit) → is_marked t v.old v.way ≡ false → visit_breaks t n v ≡ map (λ b. (n, b)) (breaks_of t (seen v))
unfolding visit_breaks
visit_breaks-unmarked t n v unmarked = rw unmarked refl

breaks_from_none : (t : Task) (n : ℕ) (v : Visit) → visit_breaks t n v ≡ [] → is_marked t v.old v.way ≡ false → breaks_of t (seen v) ≡ []
breaks_from_none t n v none unmarked = map-nil (λ b. (n, b)) (breaks_of t (seen v)) (sym (visit_breaks-unmarked t n v unmarked) ∙ none)

none_from_breaks : (t : Task) (n : ℕ) (v : Visit) → (is_marked t v.old v.way ≡ false → breaks_of t (seen v) ≡ []) → visit_breaks t n v ≡ []
none_from_breaks t n v none =
    elim (cases_Bool (is_marked t v.old v.way)) [
      | inl marked ↦ visit_breaks-marked t n v marked
      | inr unmarked ↦ visit_breaks-unmarked t n v unmarked ∙ ap (map (λ b. (n, b))) (none unmarked)
    ]

-- where no visit breaks a rule, this one breaks none
none_below : (t : Task) (vs : List Visit) (m n : ℕ) (v : Visit) → breaks_below t vs m ≡ [] → m ≤ length vs → n < m → slice_get vs n ≡ Some v → visit_breaks t n v ≡ []
none_below t vs zero n v none le lt at = absurd (omega arith)
none_below t vs (suc m) n v none le lt at =
    let last = at_below vs m (omega arith) in
    let split = sym (breaks_below-more t vs m last.0 last.1) ∙ none in
    elim (cases_order n m) [
      | inl same ↦
          let is : last.0 ≡ v = same_Some last.0 v (sym last.1 ∙ ap (slice_get vs) (sym same) ∙ at) in
          ap (λ k. visit_breaks t k v) same ∙ ap (visit_breaks t m) (sym is) ∙ right-nil (breaks_below t vs m) (visit_breaks t m last.0) split
      | inr (inl below) ↦ none_below t vs m n v (left-nil (breaks_below t vs m) (visit_breaks t m last.0) split) (omega arith) below at
      | inr (inr above) ↦ absurd (omega arith)
    ]

pub breaks_below-zero : (t : Task) (vs : List Visit) → breaks_below t vs 0 ≡ []
unfolding breaks_below
breaks_below-zero t vs = refl

none_below_all : (t : Task) (vs : List Visit) (m : ℕ) → m ≤ length vs → ((n : ℕ) (v : Visit) → slice_get vs n ≡ Some v → visit_breaks t n v ≡ []) → breaks_below t vs m ≡ []
none_below_all t vs zero le none = breaks_below-zero t vs
none_below_all t vs (suc m) le none =
    let v = at_below vs m (omega arith) in
    breaks_below-more t vs m v.0 v.1 ∙ ap (λ xs. xs ++ visit_breaks t m v.0) (none_below_all t vs m (omega arith) none) ∙ none m v.0 v.1

-- a visit with a number, unmarked, breaks the rule
record IsBrokenAt (t : Task) (vs : List Visit) (n : ℕ) (b : Broken) : Type 0 where
  visit : Visit
  at : slice_get vs n ≡ Some visit
  unmarked : is_marked t visit.old visit.way ≡ false
  breaks : Contains (breaks_of t (seen visit)) b

broken_visit : (t : Task) (vs : List Visit) (m n : ℕ) (v : Visit) (b : Broken) → slice_get vs m ≡ Some v → Contains (visit_breaks t m v) (n, b) → IsBrokenAt t vs n b
broken_visit t vs m n v b at contains =
    elim (cases_Bool (is_marked t v.old v.way)) [
      | inl marked ↦ absurd (in_none {X = ℕ × Broken} (n, b) (subst (λ (xs : List (ℕ × Broken)). Contains xs (n, b)) (visit_breaks-marked t m v marked) contains))
      | inr unmarked ↦
          let source = in_map_cases {X = Broken} {Y = ℕ × Broken} (λ c. (m, c)) (breaks_of t (seen v)) (n, b) (subst (λ (xs : List (ℕ × Broken)). Contains xs (n, b)) (visit_breaks-unmarked t m v unmarked) contains) in
          let number : m ≡ n = ap (λ (p : ℕ × Broken). p.0) source.2 in
          let is : source.0 ≡ b = ap (λ (p : ℕ × Broken). p.1) source.2 in
          record { visit = v; at = ap (slice_get vs) (sym number) ∙ at; unmarked = unmarked; breaks = subst (Contains (breaks_of t (seen v))) is source.1 }
    ]

broken_below : (t : Task) (vs : List Visit) (m n : ℕ) (b : Broken) → m ≤ length vs → Contains (breaks_below t vs m) (n, b) → IsBrokenAt t vs n b
broken_below t vs zero n b le contains = absurd (in_none {X = ℕ × Broken} (n, b) (subst (λ (xs : List (ℕ × Broken)). Contains xs (n, b)) (breaks_below-zero t vs) contains))
broken_below t vs (suc m) n b le contains =
    let v = at_below vs m (omega arith) in
    elim (Contains-append_cases (breaks_below t vs m) (visit_breaks t m v.0) (n, b) (subst (λ (xs : List (ℕ × Broken)). Contains xs (n, b)) (breaks_below-more t vs m v.0 v.1) contains)) [
      | inl earlier ↦ broken_below t vs m n b (omega arith) earlier
      | inr here ↦ broken_visit t vs m n v.0 b v.1 here
    ]

told_below : (t : Task) (vs : List Visit) (m n : ℕ) (v : Visit) (b : Broken) → m ≤ length vs → n < m → slice_get vs n ≡ Some v → is_marked t v.old v.way ≡ false → Contains (breaks_of t (seen v)) b → Contains (breaks_below t vs m) (n, b)
told_below t vs zero n v b le lt at unmarked breaks = absurd (omega arith)
told_below t vs (suc m) n v b le lt at unmarked breaks =
    let last = at_below vs m (omega arith) in
    subst (λ (xs : List (ℕ × Broken)). Contains xs (n, b)) (sym (breaks_below-more t vs m last.0 last.1)) (elim (cases_order n m) [
      | inl same ↦
          let is : v ≡ last.0 = same_Some v last.0 (sym at ∙ ap (slice_get vs) same ∙ last.1) in
          let here : Contains (visit_breaks t n v) (n, b) = subst (λ (xs : List (ℕ × Broken)). Contains xs (n, b)) (sym (visit_breaks-unmarked t n v unmarked)) (in_map {X = Broken} {Y = ℕ × Broken} (λ c. (n, c)) (breaks_of t (seen v)) b breaks) in
          let moved : visit_breaks t n v ≡ visit_breaks t m last.0 = ap (λ k. visit_breaks t k v) same ∙ ap (visit_breaks t m) is in
          Contains-append_right (breaks_below t vs m) (visit_breaks t m last.0) (n, b) (subst (λ (xs : List (ℕ × Broken)). Contains xs (n, b)) moved here)
      | inr (inl below) ↦ Contains-append_left (breaks_below t vs m) (visit_breaks t m last.0) (n, b) (told_below t vs m n v b (omega arith) below at unmarked breaks)
      | inr (inr above) ↦ absurd (omega arith)
    ])

-- ---- all nodes

-- what the law of closed relations says
abbrev pub HoldReachable : Type 0
HoldReachable = (t : Task) (r : Triple → Bool) (path : Path) (x : Triple) → IsClosed t r → HoldsRoots t r → PathLeadsTo t path x → r x ≡ true

module _ (unseen : AreUnseen) (s : Scope) (vs : List Visit) (broken : List (ℕ × Broken)) (sound : IsSound s) (explored : IsExploration s vs broken) where
  -- the representatives of a visit are itself
  visit_rep : (x : Triple) (there : IsVisit vs (rep s x)) → rep s (seen there.visit) ≡ rep s x
  visit_rep x there = ap (rep s) there.is ∙ rep_twice unseen s sound x

  -- what a path over representatives leads to was reached
  reached : (path : Path) (z : Triple) → LeadsByRep s path z → has vs z ≡ true
  reached (From export) z (k, root, at, is, e) = ap (has vs) e ∙ explored.roots k root at
  reached (Then path part) z (y, leads, stepped) =
      let there = has_found vs y (reached path y leads) in
      let to = rep_step-parts s (seen there.visit) z part (ap (λ x. rep_step s x part) there.is ∙ stepped) in
      ap (has vs) (sym to.is) ∙ explored.partners there.number part there.visit to.to there.at to.stepped

  -- without a break, the triples whose representatives were reached are a closed relation
  pub closed_from_none : broken ≡ [] → IsClosed s.task (covers s vs)
  closed_from_none none =
      let none' : breaks_below s.task vs (length vs) ≡ [] = sym explored.breaks ∙ none in
      record {
        keeps = λ x h unmarked.
            let there = has_found vs (rep s x) h in
            let same = visit_rep x there in
            let unmarked' = marked_same unseen s sound (seen there.visit) x same ∙ unmarked in
            let none_there = none_below s.task vs (length vs) there.number there.visit none' (omega arith) (slice_get_within vs there.number there.visit there.at) there.at in
            sym (breaks_same unseen s sound (seen there.visit) x same) ∙ breaks_from_none s.task there.number there.visit none_there unmarked';
        leads_on = λ x y i h stepped.
            let there = has_found vs (rep s x) h in
            let same = visit_rep x there in
            let to = rep_step-parts s (seen there.visit) (rep s y) i (rep_step_same unseen s sound (seen there.visit) x i same ∙ rep_step_of s x y i stepped) in
            ap (has vs) (sym to.is) ∙ explored.partners there.number i there.visit to.to there.at to.stepped;
      }

  pub compatible_from_none : broken ≡ [] → AreCompatible s.task
  compatible_from_none none = (covers s vs, closed_from_none none, explored.roots)

  -- what is reachable is covered
  pub covered : (x : Triple) → IsReachable s.task x → covers s vs x ≡ true
  covered x (path, leads) = reached path (rep s x) (goes unseen s sound path x leads)

  -- what was reached are the representatives of a reachable triple
  pub reached_is : (z : Triple) → has vs z ≡ true → IsReached s z
  reached_is z h =
      let there = has_found vs z h in
      let path = explored.reached there.number there.visit there.at in
      let x = comes unseen s sound path.0 (seen there.visit) path.2 in
      record { triple = x.0; path = path.0; leads = x.1; is = x.2 ∙ there.is }

  pub reached_from : (z : Triple) → IsReached s z → has vs z ≡ true
  reached_from z r = ap (has vs) (sym r.is) ∙ covered r.triple (r.path, r.leads)

  -- where types are compatible, no visit breaks a rule
  pub none_from_compatible : HoldReachable → AreCompatible s.task → broken ≡ []
  none_from_compatible holds (r, closed, roots) =
      explored.breaks ∙ none_below_all s.task vs (length vs) (omega arith) (λ n v at.
      let path = explored.reached n v at in
      let x = comes unseen s sound path.0 (seen v) path.2 in
      let same : rep s x.0 ≡ rep s (seen v) = x.2 ∙ sym (explored.represented n v at) in
      none_from_breaks s.task n v (λ unmarked.
      sym (breaks_same unseen s sound x.0 (seen v) same) ∙ closed.keeps x.0 (holds s.task r path.0 x.0 closed roots x.1) (marked_same unseen s sound x.0 (seen v) same ∙ unmarked)))

  same_reps : (x : Triple) (v : Visit) (n : ℕ) → slice_get vs n ≡ Some v → rep s x ≡ seen v → rep s x ≡ rep s (seen v)
  same_reps x v n at is = is ∙ sym (explored.represented n v at)

  -- what a path along a visit that breaks a rule leads to
  told_of : (n : ℕ) (b : Broken) (path : Path) (at : IsBrokenAt s.task vs n b) (x : Triple) → Along vs n path → PathLeadsTo s.task path x → rep s x ≡ seen at.visit → IsToldBy s vs n b path
  told_of n b path at x along leads is =
      let same = same_reps x at.visit n at.at is in
      record {
        triple = x;
        leads = leads;
        first = λ other y leads_y same_y. explored.first n at.visit path other at.at along (subst (LeadsByRep s other) (same_y ∙ is) (goes unseen s sound other y leads_y));
        unmarked = marked_same unseen s sound x (seen at.visit) same ∙ at.unmarked;
        breaks = subst (λ (bs : List Broken). Contains bs b) (sym (breaks_same unseen s sound x (seen at.visit) same)) at.breaks;
        visit = at.visit;
        at = at.at;
        is = is;
      }

  -- a path along a visit leads to it
  leads_there : (n : ℕ) (v : Visit) (path : Path) → slice_get vs n ≡ Some v → Along vs n path → LeadsByRep s path (seen v)
  leads_there n v path at along =
      let own = explored.reached n v at in
      subst (λ p. LeadsByRep s p (seen v)) (same_path vs n own.0 path own.1 along) own.2

  pub told_by : (n : ℕ) (b : Broken) (path : Path) → Contains broken (n, b) → Along vs n path → IsToldBy s vs n b path
  told_by n b path contains along =
      let at = broken_below s.task vs (length vs) n b (omega arith) (subst (λ (xs : List (ℕ × Broken)). Contains xs (n, b)) explored.breaks contains) in
      let x = comes unseen s sound path (seen at.visit) (leads_there n at.visit path at.at along) in
      told_of n b path at x.0 along x.1 x.2

  pub told : (x : Triple) (b : Broken) → IsReachable s.task x → is_marked s.task x.old x.way ≡ false → Contains (breaks_of s.task x) b → IsTold s vs broken x b
  told x b (path, leads) unmarked breaks =
      let there = has_found vs (rep s x) (reached path (rep s x) (goes unseen s sound path x leads)) in
      let same = visit_rep x there in
      let unmarked' = marked_same unseen s sound (seen there.visit) x same ∙ unmarked in
      let breaks' = subst (λ (bs : List Broken). Contains bs b) (sym (breaks_same unseen s sound (seen there.visit) x same)) breaks in
      record {
        number = there.number;
        visit = there.visit;
        at = there.at;
        is = sym there.is;
        told = subst (λ (xs : List (ℕ × Broken)). Contains xs (there.number, b)) (sym explored.breaks) (told_below s.task vs (length vs) there.number there.visit b (omega arith) (slice_get_within vs there.number there.visit there.at) there.at unmarked' breaks');
      }
