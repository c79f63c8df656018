-- Visits of triples, each led to and each but once.
use Rattle.std.proofs.Common.{◌≡◌, ◌<◌, ℕ, zero, suc, false, List, [], ◌∷◌, ◌++◌, length, slice_get, Option, Some, None, refl, sym, ◌∙◌, ap, subst, inl, inr, ◌⊎◌, arith}
use Rattle.std.proofs.lemmas.Bool.{cases_order, cases_Bool, false≢true}
use Rattle.std.proofs.lemmas.Option.{slice_get_within, same_Some, none-some}
use Rattle.pair_rules.specs.Steps.{PlainRoot, Triple}
use Rattle.pair_rules.specs.Paths.{root_triple}
use Rattle.pair_explorer.specs.declared.visits.Parent.{Parent}
use Rattle.pair_explorer.specs.declared.visits.Parent.TheVariants.{Root, Step}
use Rattle.pair_explorer.specs.declared.visits.Visit.{Visit}
use Rattle.pair_explorer.specs.Scopes.{Scope, rep, rep_step}
use Rattle.pair_explorer.specs.Visits.{seen, has}
use Rattle.pair_explorer.specs.Adding.{added, added_some, entered}
use Rattle.pair_explorer.proofs.Order.{AreOrdered, LedBefore, IsThereBy}
use Rattle.abi_base.proofs.lemmas.Lists.{slice_get-append, slice_get_last, slice_get_push_cases}
use Rattle.pair_explorer.proofs.Growth.{Extends, Extends-refl, Extends-trans, Extends-added, has-at, has_found}

-- the triple is that of a root, or a step leads to it from an earlier visit
abbrev pub IsLed : Scope → List Visit → ℕ → Triple → Parent → Type 0
IsLed s vs n x (Root export) = (k : ℕ) × (root : PlainRoot) × (slice_get s.task.roots k ≡ Some root) × (root.export ≡ export) × (x ≡ rep s (root_triple root))
IsLed s vs n y (Step pair part) = (u : Visit) × (pair < n) × (slice_get vs pair ≡ Some u) × (rep_step s (seen u) part ≡ Some y)

pub IsLed-Extends : (s : Scope) {vs ws : List Visit} (n : ℕ) (x : Triple) (parent : Parent) → Extends vs ws → IsLed s vs n x parent → IsLed s ws n x parent
IsLed-Extends s n x (Root export) grows led = led
IsLed-Extends s n x (Step pair part) grows (u, before, at, leads) = (u, before, grows.kept pair u at, leads)

-- the triple is one of representatives, which are nodes
pub record IsPlaced (s : Scope) (x : Triple) : Type 0 where
  pub old : x.old < length s.task.old
  pub new : x.new < length s.task.new
  pub own : rep s x ≡ x

pub record IsVisited (s : Scope) (vs : List Visit) : Type 0 where
  pub led : (n : ℕ) (v : Visit) → slice_get vs n ≡ Some v → IsLed s vs n (seen v) v.parent
  pub placed : (n : ℕ) (v : Visit) → slice_get vs n ≡ Some v → IsPlaced s (seen v)
  pub once : (m n : ℕ) (u v : Visit) → slice_get vs m ≡ Some u → slice_get vs n ≡ Some v → seen u ≡ seen v → m ≡ n
  pub ordered : AreOrdered vs

-- what may be put after `vs`
pub record MayFollow (s : Scope) (vs : List Visit) (x : Visit) : Type 0 where
  pub led : IsLed s vs (length vs) (seen x) x.parent
  pub placed : IsPlaced s (seen x)

pub IsVisited-none : (s : Scope) → IsVisited s []
IsVisited-none s = record {
  led = λ n v e. absurd (none-some v e);
  placed = λ n v e. absurd (none-some v e);
  once = λ m n u v e f g. absurd (none-some u e);
  ordered = λ m n u v lt e f. absurd (none-some u e);
}

module _ (s : Scope) (vs : List Visit) (x : Visit) (was : IsVisited s vs) (may : MayFollow s vs x) where
  pushed-led : (n : ℕ) (v : Visit) → slice_get (vs ++ x ∷ []) n ≡ Some v → IsLed s (vs ++ x ∷ []) n (seen v) v.parent
  pushed-led n v e =
      let grows : Extends vs (vs ++ x ∷ []) = record { kept = λ n v e. slice_get-append vs (x ∷ []) n v e } in
      elim (slice_get_push_cases vs x n v e) [
        | inl there ↦ IsLed-Extends s n (seen v) v.parent grows (was.led n v there)
        | inr last ↦ rw (last.0, ← last.1) (IsLed-Extends s (length vs) (seen x) x.parent grows may.led)
      ]

  pushed-placed : (n : ℕ) (v : Visit) → slice_get (vs ++ x ∷ []) n ≡ Some v → IsPlaced s (seen v)
  pushed-placed n v e =
      elim (slice_get_push_cases vs x n v e) [
        | inl there ↦ was.placed n v there
        | inr last ↦ subst (λ w. IsPlaced s (seen w)) last.1 may.placed
      ]

  pushed-once : has vs (seen x) ≡ false → (m n : ℕ) (u v : Visit) → slice_get (vs ++ x ∷ []) m ≡ Some u → slice_get (vs ++ x ∷ []) n ≡ Some v → seen u ≡ seen v → m ≡ n
  pushed-once new m n u v at_m at_n same =
      elim (slice_get_push_cases vs x m u at_m) [
        | inl m_there ↦ elim (slice_get_push_cases vs x n v at_n) [
          | inl n_there ↦ was.once m n u v m_there n_there same
          | inr n_last ↦ absurd (false≢true (sym new ∙ ap (has vs) (ap seen n_last.1 ∙ sym same) ∙ has-at vs m u m_there))
        ]
        | inr m_last ↦ elim (slice_get_push_cases vs x n v at_n) [
          | inl n_there ↦ absurd (false≢true (sym new ∙ ap (has vs) (ap seen m_last.1 ∙ same) ∙ has-at vs n v n_there))
          | inr n_last ↦ m_last.0 ∙ sym n_last.0
        ]
      ]

  pushed-ordered : ((n : ℕ) (u : Visit) → slice_get vs n ≡ Some u → LedBefore u.parent x.parent) → AreOrdered (vs ++ x ∷ [])
  pushed-ordered above m n u v lt at_m at_n =
      elim (slice_get_push_cases vs x n v at_n) [
        | inl n_there ↦ elim (slice_get_push_cases vs x m u at_m) [
          | inl m_there ↦ was.ordered m n u v lt m_there n_there
          | inr m_last ↦ absurd (omega (arith, m_last.0, slice_get_within vs n v n_there))
        ]
        | inr n_last ↦ elim (slice_get_push_cases vs x m u at_m) [
          | inl m_there ↦ rw (← n_last.1) (above m u m_there)
          | inr m_last ↦ absurd (omega (arith, m_last.0, n_last.0))
        ]
      ]

-- the visits of `vs` are led to before x
abbrev pub ComesAfter : List Visit → Visit → Type 0
ComesAfter vs x = (n : ℕ) (u : Visit) → slice_get vs n ≡ Some u → LedBefore u.parent x.parent

pub IsVisited-added : (s : Scope) (vs : List Visit) (x : Visit) → IsVisited s vs → MayFollow s vs x → ComesAfter vs x → IsVisited s (added vs x)
unfolding added
IsVisited-added s vs x was may above =
    elim (cases_Bool (has vs (seen x))) [
      | inl there ↦ rw there was
      | inr new ↦ rw new (record { led = pushed-led s vs x was may; placed = pushed-placed s vs x was may; once = pushed-once s vs x was may new; ordered = pushed-ordered s vs x was may above })
    ]

-- the triple of x is there, led to no later than x
pub IsThereBy-added : (vs : List Visit) (x : Visit) → ComesAfter vs x → IsThereBy (added vs x) (seen x) x.parent
unfolding added
IsThereBy-added vs x above =
    elim (cases_Bool (has vs (seen x))) [
      | inl there ↦
          let f = has_found vs (seen x) there in
          rw there (record { place = f.number; visit = f.visit; at = f.at; is = f.is; by = inl (above f.number f.visit f.at) })
      | inr new ↦ rw new (record { place = length vs; visit = x; at = slice_get_last vs x; is = refl; by = inr refl })
    ]

pub IsThereBy-Extends : (vs ws : List Visit) (x : Triple) (parent : Parent) → Extends vs ws → IsThereBy vs x parent → IsThereBy ws x parent
IsThereBy-Extends vs ws x parent grows t = record { place = t.place; visit = t.visit; at = grows.kept t.place t.visit t.at; is = t.is; by = t.by }

-- each visit stood there, or is x
pub added-sources : (vs : List Visit) (x : Visit) (n : ℕ) (u : Visit) → slice_get (added vs x) n ≡ Some u → (slice_get vs n ≡ Some u) ⊎ (x ≡ u)
unfolding added
added-sources vs x n u at =
    elim (cases_Bool (has vs (seen x))) [
      | inl there ↦ inl (rw there at at)
      | inr new ↦ elim (slice_get_push_cases vs x n u (rw new at at)) [ inl was ↦ inl was | inr last ↦ inr last.1 ]
    ]

-- what is kept where more visits are entered
pub record IsEntered (s : Scope) (f : ℕ → Option Visit) (n : ℕ) (vs ws : List Visit) : Type 0 where
  pub visited : IsVisited s ws
  pub grows : Extends vs ws
  pub entered : (k : ℕ) (x : Visit) → k < n → f k ≡ Some x → IsThereBy ws (seen x) x.parent
  pub sources : (m : ℕ) (u : Visit) → slice_get ws m ≡ Some u → (slice_get vs m ≡ Some u) ⊎ ((k : ℕ) × (k < n) × (f k ≡ Some u))

-- visits that may be entered in their order
pub record MayEnter (s : Scope) (f : ℕ → Option Visit) (vs : List Visit) : Type 0 where
  pub follow : (ws : List Visit) (k : ℕ) (x : Visit) → Extends vs ws → f k ≡ Some x → MayFollow s ws x
  pub rising : (j k : ℕ) (x y : Visit) → j < k → f j ≡ Some x → f k ≡ Some y → LedBefore x.parent y.parent
  pub after : (k : ℕ) (x : Visit) → f k ≡ Some x → ComesAfter vs x

comes_after : (s : Scope) (f : ℕ → Option Visit) (n : ℕ) (vs ws : List Visit) (x : Visit) → IsEntered s f n vs ws → MayEnter s f vs → f n ≡ Some x → ComesAfter ws x
comes_after s f n vs ws x before may e m u at =
    elim (before.sources m u at) [
      | inl was ↦ may.after n x e m u was
      | inr new ↦ may.rising new.0 n u x new.1 new.2 e
    ]

IsEntered-more : (s : Scope) (f : ℕ → Option Visit) (n : ℕ) (vs ws : List Visit) (o : Option Visit) → IsEntered s f n vs ws → f n ≡ o → MayEnter s f vs → IsEntered s f (suc n) vs (added_some ws o)
IsEntered-more s f n vs ws None before e may = record {
  visited = before.visited;
  grows = before.grows;
  entered = λ k x lt there. elim (cases_order k n) [
    | inl same ↦ absurd (none-some x (sym e ∙ ap f (sym same) ∙ there))
    | inr (inl below) ↦ before.entered k x below there
    | inr (inr above) ↦ absurd (omega arith)
  ];
  sources = λ m u at. elim (before.sources m u at) [ inl was ↦ inl was | inr new ↦ inr (new.0, omega (arith, new.1), new.2) ];
}
IsEntered-more s f n vs ws (Some v) before e may = record {
  visited = IsVisited-added s ws v before.visited (may.follow ws n v before.grows e) (comes_after s f n vs ws v before may e);
  grows = Extends-trans before.grows (Extends-added ws v);
  entered = λ k x lt there. elim (cases_order k n) [
    | inl same ↦ let is : v ≡ x = same_Some v x (sym e ∙ ap f (sym same) ∙ there) in rw (← is) (IsThereBy-added ws v (comes_after s f n vs ws v before may e))
    | inr (inl below) ↦ IsThereBy-Extends ws (added ws v) (seen x) x.parent (Extends-added ws v) (before.entered k x below there)
    | inr (inr above) ↦ absurd (omega arith)
  ];
  sources = λ m u at. elim (added-sources ws v m u at) [
    | inl was ↦ elim (before.sources m u was) [ inl first ↦ inl first | inr new ↦ inr (new.0, omega (arith, new.1), new.2) ]
    | inr is ↦ inr (n, omega arith, rw (← is) e)
  ];
}

pub IsEntered-entered : (s : Scope) (f : ℕ → Option Visit) (n : ℕ) (vs : List Visit) → IsVisited s vs → MayEnter s f vs → IsEntered s f n vs (entered f n vs)
unfolding entered
IsEntered-entered s f zero vs was may = record { visited = was; grows = Extends-refl vs; entered = λ k x lt e. absurd (omega arith); sources = λ m u at. inl at }
IsEntered-entered s f (suc n) vs was may =
    let before = IsEntered-entered s f n vs was may in
    IsEntered-more s f n vs (entered f n vs) (f n) before refl may
