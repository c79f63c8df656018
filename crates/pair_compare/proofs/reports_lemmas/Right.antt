-- The breaks of an exploration, each row once, are right findings.
use Rattle.std.proofs.Common.{◌≡◌, ◌<◌, ◌≤◌, ℕ, true, false, List, map, length, slice_get, Some, refl, sym, ◌∙◌, ap, subst, inl, inr, ◌⊎◌, arith}
use Rattle.std.specs.List.{Contains}
use Rattle.std.proofs.lemmas.Bool.{cases_order}
use Rattle.std.proofs.lemmas.Option.{same_Some}
use Rattle.abi_base.proofs.lemmas.Contained.{in_map, in_map_cases}
use Rattle.abi_base.specs.Lists.{AreFirsts, HasSame}
use Rattle.abi_base.proofs.lemmas.Lists.{AreFirsts-all, contains_at, at_contains, map_source}
use Rattle.abi_types.specs.declared.kind.Way.TheVariants.{Direct}
use Rattle.abi_types.specs.Types.{PlainNode}
use Rattle.abi_types.specs.Rules.{rule_place}
use Rattle.pair_rules.specs.declared.rules.Broken.{Broken}
use Rattle.pair_rules.specs.Stable.{IsInside}
use Rattle.pair_rules.specs.Steps.{Triple, is_marked, breaks_of}
use Rattle.pair_rules.specs.Paths.{Path, IsNotAfter, IsReachable, PathLeadsTo}
use Rattle.type_classes.specs.Alike.{AreAlike}
use Rattle.type_classes.specs.Classes.{IsLeast, rep_of}
use Rattle.pair_explorer.specs.declared.visits.Visit.{Visit}
use Rattle.pair_explorer.specs.Scopes.{Scope, rep}
use Rattle.pair_explorer.specs.Visits.{seen}
use Rattle.pair_explorer.specs.Routes.{path_at}
use Rattle.pair_explorer.specs.Explorations.{IsExploration}
use Rattle.pair_explorer.specs.ByClass.{IsToldBy, IsToldBefore}
use Rattle.pair_compare.specs.reports.Findings.{Finding, detail_at}
use Rattle.pair_compare.specs.reports.Reports.{AreRight, IsTrueBreak, IsFound, IsFoundBefore, IsAlikeTo, LeadsTo, IsOwn}
use Rattle.pair_compare.specs.reports.TypeFindings.{IsCoarse, found_of, finding_of, same_told, told_breaks, findings_of}
use Rattle.pair_compare.proofs.reports_lemmas.AlikeDetails.{same_detail}
use Rattle.pair_compare.proofs.reports_lemmas.BelowLaws.{PathLaws, ExplorationLaws, TextLaws}
use Rattle.pair_compare.proofs.reports_lemmas.VisitLemmas.{visit_of}
use Rattle.pair_compare.proofs.reports_lemmas.SameRows.{IsSameRow, IsSameRow-trans, same_row-parts, same_row-from, same_row-itself, same_row-turned}
use Rattle.pair_rules.proofs.lemmas.Triples.{triple_eq}

pub finding_of-at : (vs : List Visit) (p : ℕ × Broken) (v : Visit) → slice_get vs p.0 ≡ Some v → finding_of vs p ≡ record { path = path_at vs p.0; old = v.old; new = v.new; broken = p.1 }
unfolding finding_of
finding_of-at vs p v at = ap (found_of (path_at vs p.0) p.1) at

module _ (paths : PathLaws) (below : ExplorationLaws) (texts : TextLaws) (s : Scope) (vs : List Visit) (broken : List (ℕ × Broken)) (coarse : IsCoarse s) (explored : IsExploration s vs broken) where
  kept : List (ℕ × Broken)
  kept = told_breaks s.task vs broken

  are_firsts : AreFirsts (same_told s.task vs) IsToldBefore broken kept
  unfolding kept
  are_firsts = AreFirsts-all (same_told s.task vs) IsToldBefore (λ p. same_row-itself s.task (finding_of vs p)) (λ p q. same_row-turned s.task texts.places (finding_of vs p) (finding_of vs q)) broken (λ m n p q lt at_m at_n. below.ordered s vs broken m n p q explored lt at_m at_n)

  same_parts : (f g : ℕ × Broken) → same_told s.task vs f g ≡ true → IsSameRow s.task (finding_of vs f) (finding_of vs g)
  same_parts f g e = same_row-parts texts.places s.task (finding_of vs f) (finding_of vs g) e

  leads_inside : (path : Path) (x : Triple) → PathLeadsTo s.task path x → IsInside s.task x
  leads_inside path x leads = paths.nodes s.task path x coarse.graphs.old coarse.graphs.new (λ k root at. let i = coarse.sound.scope.nodes.roots k root at in record { old = i.0; new = i.1 }) leads

  -- a break that an exploration gives, and what it tells
  pub record IsAt (p : ℕ × Broken) : Type 0 where
    pub visit : Visit
    pub at : slice_get vs p.0 ≡ Some visit
    pub by_path : IsToldBy s vs p.0 p.1 (path_at vs p.0)
    pub is : rep s by_path.triple ≡ seen visit
    pub finding : finding_of vs p ≡ record { path = path_at vs p.0; old = visit.old; new = visit.new; broken = p.1 }

  pub is_at : (p : ℕ × Broken) → Contains broken p → IsAt p
  is_at p c =
      let v = visit_of s vs broken explored p c in
      let by = below.sound s vs broken p.0 p.1 (path_at vs p.0) coarse.sound explored c (below.along vs p.0 v.0 explored.earlier v.1) in
      record { visit = v.0; at = v.1; by_path = by; is = by.is ∙ ap seen (same_Some by.visit v.0 (sym by.at ∙ v.1)); finding = finding_of-at vs p v.0 v.1 }

  is_kept : (k : ℕ) (p : ℕ × Broken) → slice_get kept k ≡ Some p → IsAt p
  is_kept k p at = let f = are_firsts.from k p at in is_at p (contains_at broken f.0 p f.1)

  -- the nodes of a visit stand for their classes
  own_old : (n : ℕ) (v : Visit) → slice_get vs n ≡ Some v → rep_of s.old v.old ≡ v.old
  own_old n v at = ap (λ (z : Triple). z.old) (explored.represented n v at)

  own_new : (n : ℕ) (v : Visit) → slice_get vs n ≡ Some v → rep_of s.new v.new ≡ v.new
  own_new n v at = ap (λ (z : Triple). z.new) (explored.represented n v at)

  alike_old : (a b : ℕ) → a < length s.task.old → b < length s.task.old → rep_of s.old a ≡ rep_of s.old b → AreAlike s.task.old a b
  alike_old a b lt_a lt_b e =
      let nodes = coarse.sound.scope.nodes.old_nodes in
      subst (λ (ns : List PlainNode). AreAlike ns a b) nodes ((coarse.old a b (rw nodes lt_a) (rw nodes lt_b)).0 e)

  alike_new : (a b : ℕ) → a < length s.task.new → b < length s.task.new → rep_of s.new a ≡ rep_of s.new b → AreAlike s.task.new a b
  alike_new a b lt_a lt_b e =
      let nodes = coarse.sound.scope.nodes.new_nodes in
      subst (λ (ns : List PlainNode). AreAlike ns a b) nodes ((coarse.new a b (rw nodes lt_a) (rw nodes lt_b)).0 e)

  rep_old : (a b : ℕ) → a < length s.task.old → b < length s.task.old → AreAlike s.task.old a b → rep_of s.old a ≡ rep_of s.old b
  rep_old a b lt_a lt_b e =
      let nodes = coarse.sound.scope.nodes.old_nodes in
      (coarse.old a b (rw nodes lt_a) (rw nodes lt_b)).1 (subst (λ (ns : List PlainNode). AreAlike ns a b) (sym nodes) e)

  rep_new : (a b : ℕ) → a < length s.task.new → b < length s.task.new → AreAlike s.task.new a b → rep_of s.new a ≡ rep_of s.new b
  rep_new a b lt_a lt_b e =
      let nodes = coarse.sound.scope.nodes.new_nodes in
      (coarse.new a b (rw nodes lt_a) (rw nodes lt_b)).1 (subst (λ (ns : List PlainNode). AreAlike ns a b) (sym nodes) e)

  alike_to : (x : Triple) (n : ℕ) (v : Visit) → IsInside s.task x → slice_get vs n ≡ Some v → rep s x ≡ seen v → IsAlikeTo s.task x v.old v.new
  alike_to x n v inside at is =
      let there = explored.inside n v at in
      record {
        old = alike_old x.old v.old inside.old there.0 (ap (λ (z : Triple). z.old) is ∙ sym (own_old n v at));
        new = alike_new x.new v.new inside.new there.1 (ap (λ (z : Triple). z.new) is ∙ sym (own_new n v at));
      }

  detail_to : (x : Triple) (a b : ℕ) (r : Broken) → IsAlikeTo s.task x a b → detail_at s.task x.old x.new r ≡ detail_at s.task a b r
  detail_to x a b r alike = same_detail texts s.task x.old a x.new b r alike.old alike.new

  -- ---- true breaks

  true_at : (p : ℕ × Broken) → IsAt p → IsTrueBreak s.task (finding_of vs p)
  true_at p a =
      let x = a.by_path.triple in
      let near = alike_to x p.0 a.visit (leads_inside (path_at vs p.0) x a.by_path.leads) a.at a.is in
      subst (IsTrueBreak s.task) (sym a.finding) (record {
        triple = x;
        leads = record { leads = a.by_path.leads; unmarked = a.by_path.unmarked; alike = near };
        breaks = a.by_path.breaks;
        detail = detail_to x a.visit.old a.visit.new p.1 near;
      })

  -- what is told of, by the place where it is kept
  record IsKept (f : Finding) : Type 0 where
    place : ℕ
    item : ℕ × Broken
    kept_at : slice_get kept place ≡ Some item
    is : finding_of vs item ≡ f
    source : IsAt item

  kept_from : (f : Finding) → Contains (map (finding_of vs) kept) f → IsKept f
  kept_from f c =
      let m = in_map_cases (finding_of vs) kept f c in
      let k = at_contains kept m.0 m.1 in
      record { place = k.0; item = m.0; kept_at = k.1; is = m.2; source = is_kept k.0 m.0 k.1 }

  kept_at_place : (k : ℕ) (f : Finding) → slice_get (map (finding_of vs) kept) k ≡ Some f → (p : ℕ × Broken) × (slice_get kept k ≡ Some p) × (finding_of vs p ≡ f)
  kept_at_place k f at = let m = map_source (finding_of vs) kept k f at in (m.item, m.at, m.is)

  -- ---- all breaks

  -- what is kept for a break of a triple
  record IsFor (x : Triple) (b : Broken) : Type 0 where
    number : ℕ
    visit : Visit
    visited : slice_get vs number ≡ Some visit
    is : rep s x ≡ seen visit
    among : Contains broken (number, b)
    first : HasSame (same_told s.task vs) IsToldBefore kept (number, b)

  for_break : (x : Triple) (b : Broken) → IsReachable s.task x → is_marked s.task x.old x.way ≡ false → Contains (breaks_of s.task x) b → IsFor x b
  for_break x b reachable unmarked breaks =
      let h = below.complete s vs broken x b coarse.sound explored reachable unmarked breaks in
      let k = at_contains broken (h.number, b) h.told in
      record { number = h.number; visit = h.visit; visited = h.at; is = h.is; among = h.told; first = are_firsts.there k.0 (h.number, b) k.1 }

  found : (x : Triple) (b : Broken) → IsReachable s.task x → is_marked s.task x.old x.way ≡ false → Contains (breaks_of s.task x) b → IsFound s.task (map (finding_of vs) kept) x b
  found x b reachable unmarked breaks =
      let h = for_break x b reachable unmarked breaks in
      let f : Finding = record { path = path_at vs h.number; old = h.visit.old; new = h.visit.new; broken = b } in
      let g = finding_of vs h.first.item in
      let here : finding_of vs (h.number, b) ≡ f = finding_of-at vs (h.number, b) h.visit h.visited in
      let same : IsSameRow s.task f g = subst (λ e. IsSameRow s.task e g) here (same_parts (h.number, b) h.first.item h.first.is) in
      let near = alike_to x h.number h.visit (leads_inside reachable.0 x reachable.1) h.visited h.is in
      record {
        finding = g;
        among = in_map (finding_of vs) kept h.first.item (contains_at kept h.first.place h.first.item h.first.at);
        alike = record { old = subst (AreAlike s.task.old x.old) same.old near.old; new = subst (AreAlike s.task.new x.new) same.new near.new };
        rule = sym same.rule;
        detail = sym same.detail ∙ sym (detail_to x h.visit.old h.visit.new b near);
      }

  -- ---- once

  -- the rule, the nodes and the detail tell findings apart
  pub once : (m n : ℕ) (f g : Finding) → slice_get (findings_of s.task vs broken) m ≡ Some f → slice_get (findings_of s.task vs broken) n ≡ Some g → IsSameRow s.task f g → m ≡ n
  unfolding kept
  once m n f g at_m at_n same =
      let p = kept_at_place m f at_m in
      let q = kept_at_place n g at_n in
      are_firsts.once m n p.0 q.0 p.1 q.1 (same_row-from s.task (finding_of vs p.0) (finding_of vs q.0) (subst (λ h. IsSameRow s.task h (finding_of vs q.0)) (sym p.2) (subst (IsSameRow s.task f) (sym q.2) same)))

  -- ---- in order

  told_at : (p : ℕ × Broken) → IsAt p → Finding
  told_at p a = record { path = path_at vs p.0; old = a.visit.old; new = a.visit.new; broken = p.1 }

  ordered : (p q : ℕ × Broken) (a : IsAt p) (b : IsAt q) → IsToldBefore p q → IsFoundBefore (told_at p a) (told_at q b)
  unfolding told_at
  ordered p q a b (inl before) = inl (explored.ascending p.0 q.0 (path_at vs p.0) (path_at vs q.0) before (below.along vs p.0 a.visit explored.earlier a.at) (below.along vs q.0 b.visit explored.earlier b.at))
  ordered p q a b (inr (same, before)) = inr (ap (path_at vs) same, before)

  paths_in_order : (p q : ℕ × Broken) → IsAt p → IsAt q → IsToldBefore p q → IsFoundBefore (finding_of vs p) (finding_of vs q)
  unfolding told_at
  paths_in_order p q a b before = subst (λ f. IsFoundBefore f (finding_of vs q)) (sym a.finding) (subst (IsFoundBefore (told_at p a)) (sym b.finding) (ordered p q a b before))

  ascending : (m n : ℕ) (f g : Finding) → m < n → slice_get (map (finding_of vs) kept) m ≡ Some f → slice_get (map (finding_of vs) kept) n ≡ Some g → IsFoundBefore f g
  ascending m n f g lt at_m at_n =
      let p = kept_at_place m f at_m in
      let q = kept_at_place n g at_n in
      subst (λ h. IsFoundBefore h g) p.2 (subst (IsFoundBefore (finding_of vs p.0)) q.2 (paths_in_order p.0 q.0 (is_kept m p.0 p.1) (is_kept n q.0 q.1) (are_firsts.ascending m n p.0 q.0 lt p.1 q.1)))

  -- ---- the first of all

  -- what is kept for a break with the row of one that is kept is that one
  is_the_one : (k : ℕ) (p y : ℕ × Broken) → slice_get kept k ≡ Some p → IsSameRow s.task (finding_of vs p) (finding_of vs y) → HasSame (same_told s.task vs) IsToldBefore kept y → IsToldBefore p y ⊎ (p ≡ y)
  is_the_one k p y at same first =
      let there = same_parts y first.item first.is in
      let one = are_firsts.once k first.place p first.item at first.at (same_row-from s.task (finding_of vs p) (finding_of vs first.item) (IsSameRow-trans s.task (finding_of vs p) (finding_of vs y) (finding_of vs first.item) same there)) in
      let is : p ≡ first.item = same_Some p first.item (sym at ∙ ap (slice_get kept) one ∙ first.at) in
      subst (λ q. IsToldBefore q y ⊎ (q ≡ y)) (sym is) first.order

  no_later : (p y : ℕ × Broken) → IsToldBefore p y ⊎ (p ≡ y) → p.0 ≤ y.0
  no_later p y (inl (inl before)) = omega arith
  no_later p y (inl (inr (same, before))) = omega arith
  no_later p y (inr e) = let same : p.0 ≡ y.0 = ap (λ (q : ℕ × Broken). q.0) e in omega arith

  path_no_later : (m n : ℕ) (u v : Visit) → slice_get vs m ≡ Some u → slice_get vs n ≡ Some v → m ≤ n → IsNotAfter (path_at vs m) (path_at vs n)
  path_no_later m n u v at_m at_n le =
      elim (cases_le m n le) [
        | inl before ↦ inl (explored.ascending m n (path_at vs m) (path_at vs n) before (below.along vs m u explored.earlier at_m) (below.along vs n v explored.earlier at_n))
        | inr same ↦ inr (ap (path_at vs) same)
      ]
    where
      cases_le : (m n : ℕ) → m ≤ n → (m < n) ⊎ (m ≡ n)
      cases_le m n le = elim (cases_order m n) [ inl same ↦ inr same | inr (inl before) ↦ inl before | inr (inr above) ↦ absurd (omega arith) ]

  -- the triple of a break breaks what its representatives break
  breaks_at : (p : ℕ × Broken) (a : IsAt p) → breaks_of s.task a.by_path.triple ≡ breaks_of s.task (seen a.visit)
  breaks_at p a = below.breaks s a.by_path.triple (seen a.visit) coarse.sound (a.is ∙ sym (explored.represented p.0 a.visit a.at))

  first_at : (k : ℕ) (p : ℕ × Broken) → slice_get kept k ≡ Some p → (a : IsAt p) → (other : Path) (x : Triple) → LeadsTo s.task other x a.visit.old a.visit.new → IsNotAfter (path_at vs p.0) other
  unfolding told_at
  first_at k p at a other x to =
      let v = a.visit in
      let inside = leads_inside other x to.leads in
      let v_inside = explored.inside p.0 v a.at in
      let old = rep_old x.old v.old inside.old v_inside.0 to.alike.old in
      let new = rep_new x.new v.new inside.new v_inside.1 to.alike.new in
      let z : Triple = record { old = v.old; new = v.new; way = x.way } in
      let same : rep s x ≡ rep s z = triple_eq (rep s x) (rep s z) old new refl in
      let breaks_v : Contains (breaks_of s.task (seen v)) p.1 = subst (λ (bs : List Broken). Contains bs p.1) (breaks_at p a) a.by_path.breaks in
      let breaks_x : Contains (breaks_of s.task x) p.1 = subst (λ (bs : List Broken). Contains bs p.1) (sym (below.breaks s x z coarse.sound same)) breaks_v in
      let h = for_break x p.1 (other, to.leads) to.unmarked breaks_x in
      let u_old : h.visit.old ≡ v.old = sym (ap (λ (y : Triple). y.old) h.is) ∙ old ∙ own_old p.0 v a.at in
      let u_new : h.visit.new ≡ v.new = sym (ap (λ (y : Triple). y.new) h.is) ∙ new ∙ own_new p.0 v a.at in
      let b = is_at (h.number, p.1) h.among in
      let here : finding_of vs (h.number, p.1) ≡ record { path = path_at vs h.number; old = h.visit.old; new = h.visit.new; broken = p.1 } = finding_of-at vs (h.number, p.1) h.visit h.visited in
      let row : IsSameRow s.task (finding_of vs p) (finding_of vs (h.number, p.1)) = subst (λ f. IsSameRow s.task f (finding_of vs (h.number, p.1))) (sym a.finding) (subst (IsSameRow s.task (told_at p a)) (sym here) (record {
        rule = refl;
        old = sym u_old;
        new = sym u_new;
        detail = ap (λ i. detail_at s.task i v.new p.1) (sym u_old) ∙ ap (λ i. detail_at s.task h.visit.old i p.1) (sym u_new);
      })) in
      let le = no_later p (h.number, p.1) (is_the_one k p (h.number, p.1) at row h.first) in
      let before = path_no_later p.0 h.number v h.visit a.at h.visited le in
      let own : rep s b.by_path.triple ≡ seen h.visit = b.is ∙ ap seen (same_Some b.visit h.visit (sym b.at ∙ h.visited)) in
      paths.not_after (path_at vs p.0) (path_at vs h.number) other before (b.by_path.first other x to.leads (h.is ∙ sym own))

  first_path : (f : Finding) → Contains (map (finding_of vs) kept) f → (other : Path) (x : Triple) → LeadsTo s.task other x f.old f.new → IsNotAfter f.path other
  first_path f c =
      let k = kept_from f c in
      let is = sym k.source.finding ∙ k.is in
      subst (λ (g : Finding). (other : Path) (x : Triple) → LeadsTo s.task other x g.old g.new → IsNotAfter g.path other) is (first_at k.place k.item k.kept_at k.source)

  -- ---- the least part

  least_at : (k : ℕ) (p : ℕ × Broken) → slice_get kept k ≡ Some p → (a : IsAt p) → (b : Broken) → Contains (breaks_of s.task (record { old = a.visit.old; new = a.visit.new; way = Direct })) b
      → b.rule ≡ p.1.rule → detail_at s.task a.visit.old a.visit.new b ≡ detail_at s.task a.visit.old a.visit.new p.1 → p.1.part ≤ b.part
  unfolding told_at
  least_at k p at a b breaks rule detail =
      let v = a.visit in
      let breaks_x : Contains (breaks_of s.task a.by_path.triple) b = subst (λ (bs : List Broken). Contains bs b) (sym (breaks_at p a)) breaks in
      let h = for_break a.by_path.triple b (path_at vs p.0, a.by_path.leads) a.by_path.unmarked breaks_x in
      let number : h.number ≡ p.0 = explored.once h.number p.0 h.visit v h.visited a.at (sym h.is ∙ a.is) in
      let here : finding_of vs (h.number, b) ≡ record { path = path_at vs h.number; old = v.old; new = v.new; broken = b } = finding_of-at vs (h.number, b) v (ap (slice_get vs) number ∙ a.at) in
      let row : IsSameRow s.task (finding_of vs p) (finding_of vs (h.number, b)) = subst (λ f. IsSameRow s.task f (finding_of vs (h.number, b))) (sym a.finding) (subst (IsSameRow s.task (told_at p a)) (sym here) (record { rule = sym rule; old = refl; new = refl; detail = sym detail })) in
      least (is_the_one k p (h.number, b) at row h.first) number
    where
      least : {n : ℕ} → IsToldBefore p (n, b) ⊎ (p ≡ (n, b)) → n ≡ p.0 → p.1.part ≤ b.part
      least (inl (inl before)) number = absurd (omega (arith, number))
      least (inl (inr (same, inl earlier))) number = absurd (omega (arith, earlier, ap rule_place rule))
      least (inl (inr (same, inr (r, earlier)))) number = omega (arith, earlier)
      least (inr e) number = let part : p.1.part ≡ b.part = ap (λ (q : ℕ × Broken). q.1.part) e in omega (arith, part)

  least_part : (f : Finding) → Contains (map (finding_of vs) kept) f → (b : Broken) → Contains (breaks_of s.task (record { old = f.old; new = f.new; way = Direct })) b
      → b.rule ≡ f.broken.rule → detail_at s.task f.old f.new b ≡ detail_at s.task f.old f.new f.broken → f.broken.part ≤ b.part
  least_part f c =
      let k = kept_from f c in
      let is = sym k.source.finding ∙ k.is in
      subst (λ (g : Finding). (b : Broken) → Contains (breaks_of s.task (record { old = g.old; new = g.new; way = Direct })) b → b.rule ≡ g.broken.rule → detail_at s.task g.old g.new b ≡ detail_at s.task g.old g.new g.broken → g.broken.part ≤ b.part) is (least_at k.place k.item k.kept_at k.source)

  -- ---- the least entries

  least_old : (n : ℕ) (v : Visit) → slice_get vs n ≡ Some v → IsLeast s.task.old v.old
  least_old n v at j inside e =
      let same = rep_old j v.old inside (explored.inside n v at).0 e ∙ own_old n v at in
      let least = coarse.sound.old.least j in
      rw (same, coarse.sound.scope.nodes.old_nodes) at least

  least_new : (n : ℕ) (v : Visit) → slice_get vs n ≡ Some v → IsLeast s.task.new v.new
  least_new n v at j inside e =
      let same = rep_new j v.new inside (explored.inside n v at).1 e ∙ own_new n v at in
      let least = coarse.sound.new.least j in
      rw (same, coarse.sound.scope.nodes.new_nodes) at least

  least_entry : (f : Finding) → Contains (map (finding_of vs) kept) f → IsOwn s.task.old f.old × IsOwn s.task.new f.new
  least_entry f c =
      let k = kept_from f c in
      let a = k.source in
      let inside = explored.inside k.item.0 a.visit a.at in
      subst (λ (g : Finding). IsOwn s.task.old g.old × IsOwn s.task.new g.new) (sym a.finding ∙ k.is) ((inside.0, least_old k.item.0 a.visit a.at), (inside.1, least_new k.item.0 a.visit a.at))

  pub are_right : AreRight s.task (findings_of s.task vs broken)
  unfolding kept
  are_right = record {
    true_breaks = λ f c. let k = kept_from f c in subst (IsTrueBreak s.task) k.is (true_at k.item k.source);
    all_breaks = found;
    first_paths = first_path;
    ascending = ascending;
    least_parts = least_part;
    least_entries = least_entry;
  }
