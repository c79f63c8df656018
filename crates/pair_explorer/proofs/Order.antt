-- The order of paths, and the order of what led to visits.
use Rattle.std.proofs.Common.{◌≡◌, ◌<◌, ℕ, List, slice_get, Some, refl, sym, ◌∙◌, ap, subst, inl, inr, ◌⊎◌, arith}
use Rattle.std.proofs.lemmas.Option.{same_Some}
use Rattle.pair_rules.specs.Steps.{PlainRoot, Triple}
use Rattle.pair_rules.specs.Paths.{Path, From, Then, root_triple, IsBefore, IsNotAfter}
use Rattle.pair_explorer.specs.declared.visits.Parent.{Parent}
use Rattle.pair_explorer.specs.declared.visits.Parent.TheVariants.{Root, Step}
use Rattle.pair_explorer.specs.declared.visits.Visit.{Visit}
use Rattle.pair_explorer.specs.Scopes.{Scope, rep, rep_step, LeadsByRep}
use Rattle.pair_explorer.specs.Visits.{seen, Along}

-- what leads to a visit comes before what leads to another
abbrev pub LedBefore : Parent → Parent → Type 0
LedBefore (Root j) (Root k) = j < k
LedBefore (Root j) (Step n k) = Unit {0}
LedBefore (Step m j) (Root k) = ⊥
LedBefore (Step m j) (Step n k) = (m < n) ⊎ ((m ≡ n) × (j < k))

-- before it, or the same
abbrev pub LedNotAfter : Parent → Parent → Type 0
LedNotAfter p q = LedBefore p q ⊎ (p ≡ q)

pub IsBefore-trans : (p q r : Path) → IsBefore p q → IsBefore q r → IsBefore p r
IsBefore-trans (From j) (From k) (From l) a b = omega arith
IsBefore-trans (From j) (From k) (Then r l) a b = tt
IsBefore-trans (From j) (Then q k) (From l) a b = absurd b
IsBefore-trans (From j) (Then q k) (Then r l) a b = tt
IsBefore-trans (Then p j) (From k) r a b = absurd a
IsBefore-trans (Then p j) (Then q k) (From l) a b = absurd b
IsBefore-trans (Then p j) (Then q k) (Then r l) (inl a) (inl b) = inl (IsBefore-trans p q r a b)
IsBefore-trans (Then p j) (Then q k) (Then r l) (inl a) (inr b) = inl (rw (← b.0) a)
IsBefore-trans (Then p j) (Then q k) (Then r l) (inr a) (inl b) = inl (rw a.0 b)
IsBefore-trans (Then p j) (Then q k) (Then r l) (inr a) (inr b) = inr (a.0 ∙ b.0, omega arith)

pub IsBefore-not_after : (p q r : Path) → IsBefore p q → IsNotAfter q r → IsBefore p r
IsBefore-not_after p q r a (inl b) = IsBefore-trans p q r a b
IsBefore-not_after p q r a (inr b) = rw (← b) a

pub IsNotAfter-trans : (p q r : Path) → IsNotAfter p q → IsNotAfter q r → IsNotAfter p r
IsNotAfter-trans p q r (inl a) b = inl (IsBefore-not_after p q r a b)
IsNotAfter-trans p q r (inr a) b = subst (λ x. IsNotAfter x r) (sym a) b

pub IsBefore-irreflexive : (p : Path) → IsBefore p p → ⊥
IsBefore-irreflexive (From j) before = omega arith
IsBefore-irreflexive (Then p j) (inl before) = IsBefore-irreflexive p before
IsBefore-irreflexive (Then p j) (inr same) = omega (arith, same.1)

-- one visit has one path
pub same_path : (vs : List Visit) (n : ℕ) (p q : Path) → Along vs n p → Along vs n q → p ≡ q
same_path vs n (From j) (From k) (u, at_u, is_u) (v, at_v, is_v) = let same = same_Some u v (sym at_u ∙ at_v) in let e : Root j ≡ Root k = sym is_u ∙ ap (λ (x : Visit). x.parent) same ∙ is_v in cc
same_path vs n (From j) (Then q k) (u, at_u, is_u) (m, v, at_v, is_v, along) = let same = same_Some u v (sym at_u ∙ at_v) in let e : Root j ≡ Step m k = sym is_u ∙ ap (λ (x : Visit). x.parent) same ∙ is_v in cc
same_path vs n (Then p j) (From k) (m, u, at_u, is_u, along) (v, at_v, is_v) = let same = same_Some u v (sym at_u ∙ at_v) in let e : Step m j ≡ Root k = sym is_u ∙ ap (λ (x : Visit). x.parent) same ∙ is_v in cc
same_path vs n (Then p j) (Then q k) (m, u, at_u, is_u, along_p) (l, v, at_v, is_v, along_q) =
    let same = same_Some u v (sym at_u ∙ at_v) in
    let e : Step m j ≡ Step l k = sym is_u ∙ ap (λ (x : Visit). x.parent) same ∙ is_v in
    let places : m ≡ l = cc in
    let parts : j ≡ k = cc in
    let paths = same_path vs m p q along_p (rw places along_q) in
    rw (paths, parts) refl

-- visits stand in the order of what led to them
abbrev pub AreOrdered : List Visit → Type 0
AreOrdered vs = (m n : ℕ) (u v : Visit) → m < n → slice_get vs m ≡ Some u → slice_get vs n ≡ Some v → LedBefore u.parent v.parent

-- the paths of what stands before come before
pub path_before : (vs : List Visit) → AreOrdered vs → (a b : ℕ) (p q : Path) → a < b → Along vs a p → Along vs b q → IsBefore p q
path_before vs ordered a b (From j) (From k) lt (u, at_u, is_u) (v, at_v, is_v) = let o = ordered a b u v lt at_u at_v in rw (is_u, is_v) at o
path_before vs ordered a b (From j) (Then q k) lt along_p along_q = tt
path_before vs ordered a b (Then p j) (From k) lt (m, u, at_u, is_u, along) (v, at_v, is_v) = let o = ordered a b u v lt at_u at_v in rw (is_u, is_v) at o
path_before vs ordered a b (Then p j) (Then q k) lt (m, u, at_u, is_u, along_p) (n, v, at_v, is_v, along_q) =
    let o = rw (is_u, is_v) at (ordered a b u v lt at_u at_v) in
    let o' : (m < n) ⊎ ((m ≡ n) × (j < k)) = o in
    elim o' [
      | inl below ↦ inl (path_before vs ordered m n p q below along_p along_q)
      | inr same ↦ inr (same_path vs m p q along_p (rw same.0 along_q), same.1)
    ]

-- a visit of the triple that is led to no later than the parent says
pub record IsThereBy (vs : List Visit) (x : Triple) (parent : Parent) : Type 0 where
  pub place : ℕ
  pub visit : Visit
  pub at : slice_get vs place ≡ Some visit
  pub is : seen visit ≡ x
  pub by : LedNotAfter visit.parent parent

-- the path that leads to the triple along the visits, no later than another path
pub record HasFirst (vs : List Visit) (x : Triple) (q : Path) : Type 0 where
  pub place : ℕ
  pub visit : Visit
  pub at : slice_get vs place ≡ Some visit
  pub is : seen visit ≡ x
  pub path : Path
  pub along : Along vs place path
  pub first : IsNotAfter path q

module _ (s : Scope) (vs : List Visit) (ordered : AreOrdered vs) (paths : (n : ℕ) (v : Visit) → slice_get vs n ≡ Some v → (path : Path) × Along vs n path) where
  from_root : (x : Triple) (k : ℕ) → IsThereBy vs x (Root k) → HasFirst vs x (From k)
  from_root x k there = go (paths there.place there.visit there.at).0 (paths there.place there.visit there.at).1 where
    go : (path : Path) → Along vs there.place path → HasFirst vs x (From k)
    go (From j) (u, at_u, is_u) =
        let same = same_Some u there.visit (sym at_u ∙ there.at) in
        let P : Parent → Type 0 = λ q. LedNotAfter q (Root k) in
        let by : LedNotAfter (Root j) (Root k) = subst P (ap (λ (x : Visit). x.parent) (sym same) ∙ is_u) there.by in
        record {
          place = there.place;
          visit = there.visit;
          at = there.at;
          is = there.is;
          path = From j;
          along = (u, at_u, is_u);
          first = elim by [ inl below ↦ inl below | inr e ↦ let parts : j ≡ k = cc in inr (ap From parts) ];
        }
    go (Then p j) (m, u, at_u, is_u, along) =
        let same = same_Some u there.visit (sym at_u ∙ there.at) in
        let P : Parent → Type 0 = λ q. LedNotAfter q (Root k) in
        let by : LedNotAfter (Step m j) (Root k) = subst P (ap (λ (x : Visit). x.parent) (sym same) ∙ is_u) there.by in
        elim by [ inl never ↦ absurd never | inr e ↦ cc ]

  from_step : (y : Triple) (m i : ℕ) (p q : Path) → Along vs m p → IsNotAfter p q → IsThereBy vs y (Step m i) → HasFirst vs y (Then q i)
  from_step y m i p q along_p first there = go (paths there.place there.visit there.at).0 (paths there.place there.visit there.at).1 where
    go : (path : Path) → Along vs there.place path → HasFirst vs y (Then q i)
    go (From j) along = record {
      place = there.place;
      visit = there.visit;
      at = there.at;
      is = there.is;
      path = From j;
      along = along;
      first = inl tt;
    }
    go (Then r j) (n, u, at_u, is_u, along) =
        let same = same_Some u there.visit (sym at_u ∙ there.at) in
        let P : Parent → Type 0 = λ q. LedNotAfter q (Step m i) in
        let by : LedNotAfter (Step n j) (Step m i) = subst P (ap (λ (x : Visit). x.parent) (sym same) ∙ is_u) there.by in
        record {
          place = there.place;
          visit = there.visit;
          at = there.at;
          is = there.is;
          path = Then r j;
          along = (n, u, at_u, is_u, along);
          first = not_after n j r by along;
        }
      where
        not_after : (n j : ℕ) (r : Path) → LedNotAfter (Step n j) (Step m i) → Along vs n r → IsNotAfter (Then r j) (Then q i)
        not_after n j r (inl (inl below)) along = inl (inl (IsBefore-not_after r p q (path_before vs ordered n m r p below along along_p) first))
        not_after n j r (inl (inr (same, lt))) along =
            let is = same_path vs m r p (rw same at along) along_p in
            elim first [ inl before ↦ inl (inl (rw is before)) | inr e ↦ inl (inr (is ∙ e, lt)) ]
        not_after n j r (inr e) along =
            let same : n ≡ m = cc in
            let parts : j ≡ i = cc in
            let is = same_path vs m r p (rw same at along) along_p in
            elim first [ inl before ↦ inl (inl (rw is before)) | inr e' ↦ inr (rw (is ∙ e', parts) refl) ]

  pub first_of : ((k : ℕ) (root : PlainRoot) → slice_get s.task.roots k ≡ Some root → IsThereBy vs (rep s (root_triple root)) (Root root.export)) → ((m i : ℕ) (u : Visit) (y : Triple) → slice_get vs m ≡ Some u → rep_step s (seen u) i ≡ Some y → IsThereBy vs y (Step m i)) → (q : Path) (x : Triple) → LeadsByRep s q x → HasFirst vs x q
  first_of roots partners (From export) x (k, root, at, is, leads) =
      let here = roots k root at in
      from_root x export (rw (leads, ← is) here)
  first_of roots partners (Then q i) y (x, leads, stepped) =
      let h = first_of roots partners q x leads in
      from_step y h.place i h.path q h.along h.first (partners h.place i h.visit y h.at (ap (λ z. rep_step s z i) h.is ∙ stepped))
