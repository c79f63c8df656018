-- What a step over representatives leads to.
use Rattle.std.proofs.Common.{◌≡◌, ◌<◌, ◌≤◌, ℕ, false, length, slice_get, List, [], Option, Some, None, refl, sym, ◌∙◌, ap, subst, inl, inr, arith}
use Rattle.std.specs.Prelude.{◌↔◌}
use Rattle.std.specs.Option.{option_map}
use Rattle.std.proofs.lemmas.Option.{slice_get_within, same_Some, none-some}
use Rattle.abi_types.specs.Types.{PlainView}
use Rattle.abi_types.specs.Graphs.{view_at, IsGraph}
use Rattle.pair_rules.specs.Steps.{PlainRoot, Task, Triple, is_marked, step, next_of, IsStep}
use Rattle.pair_rules.specs.Stable.{IsInside}
use Rattle.pair_rules.specs.Paths.{root_triple}
use Rattle.type_classes.specs.Classes.{PlainClasses, AreSound, rep_of}
use Rattle.pair_explorer.specs.declared.visits.Parent.{Parent}
use Rattle.pair_explorer.specs.declared.visits.Parent.TheVariants.{Root, Step}
use Rattle.pair_explorer.specs.declared.visits.Visit.{Visit}
use Rattle.pair_explorer.specs.Scopes.{Scope, AreGraphs, IsScope, rep, rep_step}
use Rattle.pair_explorer.specs.Visits.{seen}
use Rattle.pair_explorer.specs.Adding.{visit_of, visit_to, visit_of_root, next_visit, root_visit}
use Rattle.pair_explorer.proofs.Order.{LedBefore}
use Rattle.pair_explorer.proofs.Visited.{IsPlaced, MayFollow, MayEnter}
use Rattle.pair_rules.proofs.lemmas.Triples.{triple_eq}
use Rattle.pair_explorer.proofs.lemmas.Steps.{rep_step-parts, step-is}

-- what the law of steps says
pub record AreSteps (t : Task) : Type 0 where
  pub exact : (x y : Triple) (i : ℕ) → (step t x i ≡ Some y) ↔ IsStep t x i y
  pub inside : (x y : Triple) (i : ℕ) → IsGraph t.old → IsGraph t.new → step t x i ≡ Some y → IsInside t y

-- what a caller keeps, what the types of graphs and classes keep, and what steps are
pub record IsGround (s : Scope) : Type 0 where
  pub steps : AreSteps s.task
  pub scope : IsScope s
  pub graphs : AreGraphs s
  pub old : AreSound s.old
  pub new : AreSound s.new

-- ---- steps

pub rep_step_of : (s : Scope) (x y : Triple) (i : ℕ) → step s.task x i ≡ Some y → rep_step s x i ≡ Some (rep s y)
unfolding rep_step
rep_step_of s x y i e = ap (option_map (rep s)) e

-- a step along a part leads on from an unmarked node, and the part is there
pub step-part : (s : Scope) → IsGround s → (x y : Triple) (i : ℕ) → step s.task x i ≡ Some y → (is_marked s.task x.old x.way ≡ false) × (i < length (view_at s.task.old x.old).parts)
step-part s ground x y i e = let is = (ground.steps.exact x y i).0 e in (is.unmarked, is.partners.old_inside)

-- and what it leads to is there
pub next-inside : (s : Scope) (x to : Triple) (i : ℕ) (v w : PlainView) → AreSteps s.task → AreGraphs s → is_marked s.task x.old x.way ≡ false → v ≡ view_at s.task.old x.old → w ≡ view_at s.task.new x.new → Some to ≡ next_of v w x.way i → IsInside s.task to
next-inside s x to i v w steps graphs unmarked old new e = steps.inside x to i graphs.old graphs.new (step-is s x i v w unmarked old new ∙ sym e)

pub next_visit-none : (s : Scope) (n i : ℕ) (x : Triple) (v w : PlainView) → is_marked s.task x.old x.way ≡ false → v ≡ view_at s.task.old x.old → w ≡ view_at s.task.new x.new → None ≡ next_of v w x.way i → None ≡ next_visit s n x i
unfolding next_visit rep_step
next_visit-none s n i x v w unmarked old new e = ap (λ o. visit_to (Step n i) (option_map (rep s) o)) (e ∙ sym (step-is s x i v w unmarked old new))

pub next_visit-is : (s : Scope) (n i : ℕ) (x to : Triple) (v w : PlainView) (r q : ℕ) → is_marked s.task x.old x.way ≡ false → v ≡ view_at s.task.old x.old → w ≡ view_at s.task.new x.new → Some to ≡ next_of v w x.way i → r ≡ rep_of s.old to.old → q ≡ rep_of s.new to.new
    → Some (record { old = r; new = q; way = to.way; parent = Step n i }) ≡ next_visit s n x i
unfolding next_visit rep_step
next_visit-is s n i x to v w r q unmarked old new e is_r is_q =
    let mk : ℕ → ℕ → Option Visit = λ a b. Some (record { old = a; new = b; way = to.way; parent = Step n i }) in
    ap (λ a. mk a q) is_r ∙ ap (mk (rep_of s.old to.old)) is_q ∙ ap (λ o. visit_to (Step n i) (option_map (rep s) o)) (e ∙ sym (step-is s x i v w unmarked old new))

-- ---- representatives

rep_inside : (c : PlainClasses) (i n : ℕ) → AreSound c → length c.nodes ≡ n → i < n → rep_of c i < n
rep_inside c i n sound many lt = omega (arith, sound.inside i (omega arith), many)

pub rep-own : (s : Scope) (x : Triple) → IsGround s → rep s (rep s x) ≡ rep s x
rep-own s x ground = triple_eq (rep s (rep s x)) (rep s x) (ground.old.own x.old) (ground.new.own x.new) refl

pub rep-placed : (s : Scope) (x : Triple) → IsGround s → x.old < length s.task.old → x.new < length s.task.new → IsPlaced s (rep s x)
rep-placed s x ground old new = record {
  old = rep_inside s.old x.old (length s.task.old) ground.old (ap length ground.scope.nodes.old_nodes) old;
  new = rep_inside s.new x.new (length s.task.new) ground.new (ap length ground.scope.nodes.new_nodes) new;
  own = rep-own s x ground;
}

pub rep_step-placed : (s : Scope) (x z : Triple) (i : ℕ) → IsGround s → rep_step s x i ≡ Some z → IsPlaced s z
rep_step-placed s x z i ground e =
    let parts = rep_step-parts s x z i e in
    let inside = ground.steps.inside x parts.to i ground.graphs.old ground.graphs.new parts.stepped in
    subst (IsPlaced s) parts.is (rep-placed s parts.to ground inside.old inside.new)

-- ---- visits of steps and of roots

pub next_visit-parts : (s : Scope) (m i : ℕ) (x : Triple) (v : Visit) → next_visit s m x i ≡ Some v → (v.parent ≡ Step m i) × (rep_step s x i ≡ Some (seen v))
unfolding next_visit
next_visit-parts s m i x v e = go (rep_step s x i) refl e where
  go : (o : Option Triple) → rep_step s x i ≡ o → visit_to (Step m i) o ≡ Some v → (v.parent ≡ Step m i) × (rep_step s x i ≡ Some (seen v))
  go None is e = absurd (none-some v e)
  go (Some z) is e =
      let same = same_Some (visit_of z (Step m i)) v e in
      (sym (ap (λ (y : Visit). y.parent) same), is ∙ ap (λ (y : Visit). Some (seen y)) same)

pub next_visit_at : (s : Scope) (m i : ℕ) (x z : Triple) → rep_step s x i ≡ Some z → next_visit s m x i ≡ Some (visit_of z (Step m i))
unfolding next_visit
next_visit_at s m i x z e = ap (visit_to (Step m i)) e

pub root_visit_at : (s : Scope) (k : ℕ) (root : PlainRoot) → slice_get s.task.roots k ≡ Some root → root_visit s k ≡ Some (visit_of (rep s (root_triple root)) (Root root.export))
unfolding root_visit
root_visit_at s k root e = ap (visit_of_root s) e

pub record IsRootVisit (s : Scope) (k : ℕ) (v : Visit) : Type 0 where
  pub root : PlainRoot
  pub at : slice_get s.task.roots k ≡ Some root
  pub parent : v.parent ≡ Root root.export
  pub is : rep s (root_triple root) ≡ seen v

pub root_visit-parts : (s : Scope) (k : ℕ) (v : Visit) → root_visit s k ≡ Some v → IsRootVisit s k v
unfolding root_visit
root_visit-parts s k v e = go (slice_get s.task.roots k) refl e where
  go : (o : Option PlainRoot) → slice_get s.task.roots k ≡ o → visit_of_root s o ≡ Some v → IsRootVisit s k v
  go None is e = absurd (none-some v e)
  go (Some root) is e =
      let same = same_Some (visit_of (rep s (root_triple root)) (Root root.export)) v e in
      record { root = root; at = is; parent = sym (ap (λ (y : Visit). y.parent) same); is = ap seen same }

MayFollow-next : (s : Scope) (ws : List Visit) (m i : ℕ) (v x : Visit) → IsGround s → slice_get ws m ≡ Some v → next_visit s m (seen v) i ≡ Some x → MayFollow s ws x
MayFollow-next s ws m i v x ground at e =
    let parts = next_visit-parts s m i (seen v) x e in
    record { led = rw parts.0 (v, slice_get_within ws m v at, at, parts.1); placed = rep_step-placed s (seen v) (seen x) i ground parts.1 }

MayFollow-root : (s : Scope) (ws : List Visit) (k : ℕ) (x : Visit) → IsGround s → root_visit s k ≡ Some x → MayFollow s ws x
MayFollow-root s ws k x ground e =
    let parts = root_visit-parts s k x e in
    let inside = ground.scope.nodes.roots k parts.root parts.at in
    record {
      led = rw parts.parent (k, parts.root, parts.at, refl, sym parts.is);
      placed = subst (IsPlaced s) parts.is (rep-placed s (root_triple parts.root) ground inside.0 inside.1);
    }

-- what led to a visit is of a visit before number m
abbrev pub IsUnder : ℕ → Parent → Type 0
IsUnder m (Root export) = Unit {0}
IsUnder m (Step pair part) = pair < m

under-before : (m k : ℕ) (parent : Parent) → IsUnder m parent → LedBefore parent (Step m k)
under-before m k (Root export) under = tt
under-before m k (Step pair part) under = inl under

pub under-more : (m n : ℕ) (parent : Parent) → m ≤ n → IsUnder m parent → IsUnder n parent
under-more m n (Root export) le under = tt
under-more m n (Step pair part) le under = omega (arith, under)

pub MayEnter-next : (s : Scope) (vs : List Visit) (m : ℕ) (v : Visit) → IsGround s → slice_get vs m ≡ Some v → ((n : ℕ) (u : Visit) → slice_get vs n ≡ Some u → IsUnder m u.parent) → MayEnter s (next_visit s m (seen v)) vs
MayEnter-next s vs m v ground at under = record {
  follow = λ ws i x grows e. MayFollow-next s ws m i v x ground (grows.kept m v at) e;
  rising = λ j k x y lt e f.
      let p = next_visit-parts s m j (seen v) x e in
      let q = next_visit-parts s m k (seen v) y f in
      rw (p.0, q.0) (inr (refl, lt));
  after = λ k x e n u at_n.
      let p = next_visit-parts s m k (seen v) x e in
      rw p.0 (under-before m k u.parent (under n u at_n));
}

pub MayEnter-root : (s : Scope) → IsGround s → MayEnter s (root_visit s) []
MayEnter-root s ground = record {
  follow = λ ws k x grows e. MayFollow-root s ws k x ground e;
  rising = λ j k x y lt e f.
      let p = root_visit-parts s j x e in
      let q = root_visit-parts s k y f in
      rw (p.parent, q.parent) (ground.scope.ascending j k p.root q.root lt p.at q.at);
  after = λ k x e n u at_n. absurd (none-some u at_n);
}
