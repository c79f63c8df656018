-- What the exploration keeps from visit to visit.
use Rattle.std.proofs.Common.{◌≡◌, ◌<◌, ◌≤◌, ℕ, zero, suc, ◌+◌, true, length, slice_get, List, [], ◌∷◌, ◌++◌, flat_map, Some, refl, sym, ◌∙◌, ap, inl, inr, arith, append-nil}
use Rattle.std.specs.List.{range_with_len}
use Rattle.std.proofs.lemmas.Bool.{cases_order, cases_Bool, false≢true}
use Rattle.std.proofs.lemmas.Grind.{flat_map-append}
use Rattle.std.proofs.lemmas.Option.{slice_get_within, same_Some}
use Rattle.abi_base.proofs.lemmas.Lists.{at_below}
use Rattle.abi_base.proofs.lemmas.Ranges.{range_suc}
use Rattle.abi_types.specs.Graphs.{view_at}
use Rattle.pair_rules.specs.declared.rules.Broken.{Broken}
use Rattle.pair_rules.specs.Steps.{PlainRoot, Task, Triple, is_marked}
use Rattle.pair_rules.specs.Paths.{Path, From, Then, root_triple}
use Rattle.pair_explorer.specs.declared.visits.Parent.{Parent}
use Rattle.pair_explorer.specs.declared.visits.Parent.TheVariants.{Root, Step}
use Rattle.pair_explorer.specs.declared.visits.Visit.{Visit}
use Rattle.pair_explorer.specs.Scopes.{Scope, rep, rep_step, LeadsByRep}
use Rattle.pair_explorer.specs.Visits.{seen, has, Along, AreEarlier, IsEarlier}
use Rattle.pair_explorer.specs.Adding.{visit_of, entered, next_visit, root_visit, expanded}
use Rattle.pair_explorer.specs.Explorations.{visit_breaks, some_breaks, breaks_below, IsExploration}
use Rattle.pair_explorer.proofs.Growth.{Extends, Extends-refl, has_there}
use Rattle.pair_explorer.proofs.Order.{IsThereBy, first_of, same_path, path_before}
use Rattle.pair_explorer.proofs.Visited.{IsLed, IsVisited, IsVisited-none, IsEntered-entered, IsThereBy-Extends}
use Rattle.pair_explorer.proofs.Leading.{IsGround, IsUnder, under-more, step-part, rep_step_of, next_visit-parts, next_visit_at, root_visit-parts, root_visit_at, MayEnter-next, MayEnter-root}
use Rattle.pair_explorer.proofs.lemmas.Steps.{rep_step-parts}

pub record IsGoing (s : Scope) (vs : List Visit) (m : ℕ) (broken : List (ℕ × Broken)) : Type 0 where
  pub visited : IsVisited s vs
  pub roots : (k : ℕ) (root : PlainRoot) → slice_get s.task.roots k ≡ Some root → IsThereBy vs (rep s (root_triple root)) (Root root.export)
  pub partners : (n i : ℕ) (v : Visit) (y : Triple) → n < m → slice_get vs n ≡ Some v → rep_step s (seen v) i ≡ Some y → IsThereBy vs y (Step n i)
  pub under : (n : ℕ) (u : Visit) → slice_get vs n ≡ Some u → IsUnder m u.parent
  pub breaks : broken ≡ breaks_below s.task vs m
  pub place : m ≤ length vs

-- the roots are visited first
pub IsGoing-start : (s : Scope) → IsGround s → IsGoing s (entered (root_visit s) (length s.task.roots) []) 0 []
unfolding breaks_below
IsGoing-start s ground =
    let start = IsEntered-entered s (root_visit s) (length s.task.roots) [] (IsVisited-none s) (MayEnter-root s ground) in
    record {
      visited = start.visited;
      roots = λ k root e. start.entered k (visit_of (rep s (root_triple root)) (Root root.export)) (slice_get_within s.task.roots k root e) (root_visit_at s k root e);
      partners = λ n i v y lt at e. absurd (omega arith);
      under = λ n u at. elim (start.sources n u at) [
        | inl none ↦ cc
        | inr root ↦ let p = root_visit-parts s root.0 u root.2 in rw p.parent tt
      ];
      breaks = refl;
      place = omega arith;
    }

-- ---- the breaks of the first visits

breaks_below-suc : (t : Task) (vs : List Visit) (m : ℕ) → breaks_below t vs (suc m) ≡ breaks_below t vs m ++ some_breaks t m (slice_get vs m)
unfolding breaks_below
breaks_below-suc t vs m =
    let f : ℕ → List (ℕ × Broken) = λ i. some_breaks t i (slice_get vs i) in
    let at : 0 + m ≡ m = omega arith in
    ap (flat_map f) (range_suc 0 m ∙ ap (λ k. range_with_len 0 m ++ k ∷ []) at) ∙ flat_map-append f (range_with_len 0 m) (m ∷ []) ∙ ap (λ xs. flat_map f (range_with_len 0 m) ++ xs) (append-nil (f m))

pub breaks_below-more : (t : Task) (vs : List Visit) (m : ℕ) (v : Visit) → slice_get vs m ≡ Some v → breaks_below t vs (suc m) ≡ breaks_below t vs m ++ visit_breaks t m v
breaks_below-more t vs m v at = breaks_below-suc t vs m ∙ ap (λ o. breaks_below t vs m ++ some_breaks t m o) at

breaks_below-zero : (t : Task) (vs ws : List Visit) → breaks_below t vs 0 ≡ breaks_below t ws 0
unfolding breaks_below
breaks_below-zero t vs ws = refl

breaks_below-Extends : (t : Task) (vs ws : List Visit) (m : ℕ) → Extends vs ws → m ≤ length vs → breaks_below t vs m ≡ breaks_below t ws m
breaks_below-Extends t vs ws zero grows le = breaks_below-zero t vs ws
breaks_below-Extends t vs ws (suc m) grows le =
    let v = at_below vs m (omega arith) in
    breaks_below-more t vs m v.0 v.1 ∙ ap (λ xs. xs ++ visit_breaks t m v.0) (breaks_below-Extends t vs ws m grows (omega arith)) ∙ sym (breaks_below-more t ws m v.0 (grows.kept m v.0 v.1))

-- ---- one visit on

-- one visit on, where what it leads to was added
IsGoing-next : (s : Scope) (vs ws : List Visit) (m : ℕ) (broken : List (ℕ × Broken)) (v : Visit) → slice_get vs m ≡ Some v → IsGoing s vs m broken → IsVisited s ws → Extends vs ws
    → ((i : ℕ) (y : Triple) → rep_step s (seen v) i ≡ Some y → IsThereBy ws y (Step m i)) → ((n : ℕ) (u : Visit) → slice_get ws n ≡ Some u → IsUnder (suc m) u.parent)
    → IsGoing s ws (suc m) (broken ++ visit_breaks s.task m v)
IsGoing-next s vs ws m broken v at was visited grows leads under =
    let at' = grows.kept m v at in
    record {
      visited = visited;
      roots = λ k root e. IsThereBy-Extends vs ws (rep s (root_triple root)) (Root root.export) grows (was.roots k root e);
      partners = λ n i u y lt there e. elim (cases_order n m) [
        | inl same ↦
            let is : u ≡ v = same_Some u v (sym there ∙ ap (slice_get ws) same ∙ at') in
            rw same (leads i y (ap (λ (w : Visit). rep_step s (seen w) i) (sym is) ∙ e))
        | inr (inl below) ↦
            let w = at_below vs n (omega (arith, was.place)) in
            let is : u ≡ w.0 = same_Some u w.0 (sym there ∙ grows.kept n w.0 w.1) in
            IsThereBy-Extends vs ws y (Step n i) grows (was.partners n i w.0 y below w.1 (ap (λ (w : Visit). rep_step s (seen w) i) (sym is) ∙ e))
        | inr (inr above) ↦ absurd (omega arith)
      ];
      under = under;
      breaks = ap (λ xs. xs ++ visit_breaks s.task m v) (was.breaks ∙ breaks_below-Extends s.task vs ws m grows was.place) ∙ sym (breaks_below-more s.task ws m v at');
      place = omega (arith, slice_get_within ws m v at');
    }

pub IsGoing-more : (s : Scope) → IsGround s → (vs : List Visit) (m : ℕ) (broken : List (ℕ × Broken)) (v : Visit) → slice_get vs m ≡ Some v → IsGoing s vs m broken → IsGoing s (expanded s vs m v) (suc m) (broken ++ visit_breaks s.task m v)
unfolding expanded
IsGoing-more s ground vs m broken v at was =
    elim (cases_Bool (is_marked s.task v.old v.way)) [
      | inl marked ↦ rw marked (IsGoing-next s vs vs m broken v at was was.visited (Extends-refl vs)
          (λ i y e. let parts = rep_step-parts s (seen v) y i e in absurd (false≢true (sym (step-part s ground (seen v) parts.to i parts.stepped).0 ∙ marked)))
          (λ n u at_n. under-more m (suc m) u.parent (omega arith) (was.under n u at_n)))
      | inr unmarked ↦
          let all = IsEntered-entered s (next_visit s m (seen v)) (length (view_at s.task.old v.old).parts) vs was.visited (MayEnter-next s vs m v ground at was.under) in
          rw unmarked (IsGoing-next s vs _ m broken v at was all.visited all.grows
          (λ i y e.
          let parts = rep_step-parts s (seen v) y i e in
          all.entered i (visit_of y (Step m i)) (step-part s ground (seen v) parts.to i parts.stepped).1 (next_visit_at s m i (seen v) y e))
          (λ n u at_n. elim (all.sources n u at_n) [
            | inl there ↦ under-more m (suc m) u.parent (omega arith) (was.under n u there)
            | inr new ↦ let p = next_visit-parts s m new.0 (seen v) u new.2 in rw p.0 (omega arith)
          ]))
    ]

-- ---- the end

-- the path to each visit, along what led to it
pub along_below : (s : Scope) (vs : List Visit) → IsVisited s vs → (k n : ℕ) (v : Visit) → n < k → slice_get vs n ≡ Some v → (path : Path) × Along vs n path
along_below s vs was zero n v lt at = absurd (omega arith)
along_below s vs was (suc k) n v lt at = go v.parent refl (was.led n v at) (λ m u before at_m. along_below s vs was k m u (omega arith) at_m) where
  go : (parent : Parent) → v.parent ≡ parent → IsLed s vs n (seen v) parent → ((m : ℕ) (u : Visit) → m < n → slice_get vs m ≡ Some u → (path : Path) × Along vs m path) → (path : Path) × Along vs n path
  go (Root export) is led earlier = (From export, (v, at, is))
  go (Step pair part) is (u, before, at_u, leads) earlier =
      let p = earlier pair u before at_u in
      (Then p.0 part, (pair, v, at, is, p.1))

-- the path along what led to a visit leads to it
pub leads_along : (s : Scope) (vs : List Visit) → IsVisited s vs → (path : Path) (n : ℕ) (v : Visit) → slice_get vs n ≡ Some v → Along vs n path → LeadsByRep s path (seen v)
leads_along s vs was (From export) n v at (u, at_u, is_u) =
    let same = same_Some u v (sym at_u ∙ at) in
    let is : v.parent ≡ Root export = rw same at is_u in
    rw is at (was.led n v at)
leads_along s vs was (Then path part) n v at (pair, u, at_u, is_u, along) =
    let same = same_Some u v (sym at_u ∙ at) in
    let is : v.parent ≡ Step pair part = rw same at is_u in
    let l = rw is at (was.led n v at) in
    (seen l.0, leads_along s vs was path pair l.0 l.2 along, l.3)

are_earlier : (s : Scope) (vs : List Visit) → IsVisited s vs → AreEarlier vs
are_earlier s vs was = λ n v at. go n (seen v) v.parent (was.led n v at) where
  go : (n : ℕ) (x : Triple) (parent : Parent) → IsLed s vs n x parent → IsEarlier n parent
  go n x (Root export) led = tt
  go n x (Step pair part) led = led.1

there : (vs : List Visit) (x : Triple) (parent : Parent) → IsThereBy vs x parent → has vs x ≡ true
there vs x parent t = has_there vs x (record { number = t.place; visit = t.visit; at = t.at; is = t.is })

-- at the end all is explored
pub IsExploration-end : (s : Scope) (vs : List Visit) (m : ℕ) (broken : List (ℕ × Broken)) → IsGoing s vs m broken → length vs ≤ m → IsExploration s vs broken
IsExploration-end s vs m broken was past =
    let whole : m ≡ length vs = omega (arith, was.place) in
    let paths : (n : ℕ) (v : Visit) → slice_get vs n ≡ Some v → (path : Path) × Along vs n path = λ n v at. along_below s vs was.visited (suc n) n v (omega arith) at in
    let partners : (n i : ℕ) (v : Visit) (y : Triple) → slice_get vs n ≡ Some v → rep_step s (seen v) i ≡ Some y → IsThereBy vs y (Step n i) = λ n i v y at e. was.partners n i v y (omega (arith, slice_get_within vs n v at)) at e in
    record {
      roots = λ k root e. there vs (rep s (root_triple root)) (Root root.export) (was.roots k root e);
      partners = λ n i v y at e. there vs (rep s y) (Step n i) (partners n i v (rep s y) at (rep_step_of s (seen v) y i e));
      reached = λ n v at. let p = paths n v at in (p.0, p.1, leads_along s vs was.visited p.0 n v at p.1);
      first = λ n v path other at along leads.
          let h = first_of s vs was.visited.ordered paths was.roots partners other (seen v) leads in
          let one = was.visited.once h.place n h.visit v h.at at h.is in
          let same = same_path vs n h.path path (rw one at h.along) along in
          rw same at h.first;
      ascending = λ m n path later lt along along_later. path_before vs was.visited.ordered m n path later lt along along_later;
      earlier = are_earlier s vs was.visited;
      once = was.visited.once;
      represented = λ n v at. (was.visited.placed n v at).own;
      inside = λ n v at. ((was.visited.placed n v at).old, (was.visited.placed n v at).new);
      breaks = was.breaks ∙ ap (breaks_below s.task vs) whole;
    }
