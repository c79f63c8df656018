-- Two right reports on the same libraries are one.
use Rattle.std.proofs.Common.{◌≡◌, ◌<◌, ◌≤◌, ◌++◌, ℕ, List, length, map, sym, ◌∙◌, ap, subst, inl, inr, arith}
use Rattle.std.specs.List.{Contains}
use Rattle.abi_types.specs.declared.kind.Way.TheVariants.{Direct}
use Rattle.abi_types.specs.declared.rule.Rule.{Rule}
use Rattle.abi_types.specs.Rules.{rule_place}
use Rattle.abi_types.specs.Types.{PlainNode, PlainView}
use Rattle.abi_types.specs.Graphs.{IsGraph, view_at, node_at}
use Rattle.report.specs.declared.row.Row.{Row}
use Rattle.pair_rules.specs.BreakOrder.{IsBrokenBefore}
use Rattle.pair_rules.specs.declared.rules.Broken.{Broken}
use Rattle.pair_rules.specs.TypeRules.{breaks}
use Rattle.pair_rules.specs.Stable.{IsInside}
use Rattle.pair_rules.specs.Steps.{Task, Triple, breaks_of}
use Rattle.pair_rules.specs.Paths.{Path, IsBefore, IsNotAfter, PathLeadsTo}
use Rattle.type_classes.specs.Alike.{AreAlike}
use Rattle.cert_check.specs.Compatible.{Sides, task_of}
use Rattle.pair_compare.specs.reports.ExportRows.{export_rows}
use Rattle.pair_compare.specs.reports.Findings.{Finding, detail_at}
use Rattle.pair_compare.specs.reports.Reports.{AreRight, AreRightRows, IsAlikeTo, IsFoundBefore, IsOwn, IsRightReport, row_of}
use Rattle.pair_compare.proofs.reports_lemmas.BelowLaws.{PathLaws}
use Rattle.pair_compare.proofs.reports_lemmas.OneList.{one_list}
use Rattle.pair_compare.proofs.reports_lemmas.RootLemmas.{roots_inside}

-- ---- the order is strict

broken_both : (b c : Broken) → IsBrokenBefore b c → IsBrokenBefore c b → ⊥
broken_both b c (inl x) (inl y) = omega (arith, x, y)
broken_both b c (inl x) (inr (same, y)) = omega (arith, x, ap rule_place same)
broken_both b c (inr (same, x)) (inl y) = omega (arith, y, ap rule_place same)
broken_both b c (inr (same, x)) (inr (again, y)) = omega (arith, x, y)

module _ (paths : PathLaws) where
  path_both : (p q : Path) → IsNotAfter p q → IsNotAfter q p → p ≡ q
  path_both p q (inr e) b = e
  path_both p q (inl a) (inr e) = sym e
  path_both p q (inl a) (inl b) = absurd (paths.irreflexive p (paths.transitive p q p a b))

  found_both : (f g : Finding) → IsFoundBefore f g → IsFoundBefore g f → ⊥
  found_both f g (inl a) (inl b) = paths.irreflexive f.path (paths.transitive f.path g.path f.path a b)
  found_both f g (inl a) (inr (same, b)) = paths.irreflexive f.path (subst (IsBefore f.path) same a)
  found_both f g (inr (same, a)) (inl b) = paths.irreflexive g.path (subst (IsBefore g.path) same b)
  found_both f g (inr (same, a)) (inr (again, b)) = broken_both f.broken g.broken a b

-- ---- equal in all

finding_eq : (f g : Finding) → f.path ≡ g.path → f.old ≡ g.old → f.new ≡ g.new → f.broken.rule ≡ g.broken.rule → f.broken.part ≡ g.broken.part → f ≡ g
finding_eq f g a b c d e =
    let with : Path → ℕ → ℕ → Rule → ℕ → Finding = λ path old new rule part. record { path = path; old = old; new = new; broken = record { rule = rule; part = part } } in
    ap (λ x. with x f.old f.new f.broken.rule f.broken.part) a ∙ ap (λ x. with g.path x f.new f.broken.rule f.broken.part) b ∙ ap (λ x. with g.path g.old x f.broken.rule f.broken.part) c
    ∙ ap (λ x. with g.path g.old g.new x f.broken.part) d ∙ ap (with g.path g.old g.new g.broken.rule) e

-- what is used of alike nodes
pub record AlikeLaws : Type 0 where
  pub symmetric : (nodes : List PlainNode) (i j : ℕ) → AreAlike nodes i j → AreAlike nodes j i
  pub transitive : (nodes : List PlainNode) (i j k : ℕ) → IsGraph nodes → i < length nodes → j < length nodes → k < length nodes → AreAlike nodes i j → AreAlike nodes j k → AreAlike nodes i k
  pub old : (nodes : List PlainNode) (i j : ℕ) (w : PlainView) → AreAlike nodes i j → breaks (view_at nodes i) w ≡ breaks (view_at nodes j) w
  pub new : (nodes : List PlainNode) (i j : ℕ) (v : PlainView) → AreAlike nodes i j → breaks v (view_at nodes i) ≡ breaks v (view_at nodes j)

module _ (paths : PathLaws) (laws : AlikeLaws) (t : Task) (old_graph : IsGraph t.old) (new_graph : IsGraph t.new) (leads_inside : (path : Path) (x : Triple) → PathLeadsTo t path x → IsInside t x) where
  -- nodes that are alike to one and stand for all alike to them are one
  one_node : (nodes : List PlainNode) → IsGraph nodes → (x a b : ℕ) → x < length nodes → IsOwn nodes a → IsOwn nodes b → AreAlike nodes x a → AreAlike nodes x b → a ≡ b
  one_node nodes graph x a b inside own_a own_b to_a to_b =
      let ab = laws.transitive nodes a x b graph own_a.0 inside own_b.0 (laws.symmetric nodes x a to_a) to_b in
      let low = own_a.1 b own_b.0 (laws.symmetric nodes a b ab) in
      let high = own_b.1 a own_a.0 ab in
      let same : (node_at nodes a).entry ≡ (node_at nodes b).entry = omega (arith, low, high) in
      graph.apart a b own_a.0 own_b.0 same

  -- a triple breaks the rules that alike nodes break
  breaks_there : (x : Triple) (a b : ℕ) → IsAlikeTo t x a b → breaks_of t x ≡ breaks_of t (record { old = a; new = b; way = Direct })
  breaks_there x a b alike = laws.old t.old x.old a (view_at t.new x.new) alike.old ∙ laws.new t.new x.new b (view_at t.old a) alike.new

  -- what one report tells the other tells too
  record IsTwin (gs : List Finding) (f : Finding) : Type 0 where
    twin : Finding
    among : Contains gs twin
    old : f.old ≡ twin.old
    new : f.new ≡ twin.new
    rule : f.broken.rule ≡ twin.broken.rule
    detail : detail_at t f.old f.new f.broken ≡ detail_at t twin.old twin.new twin.broken
    path : IsNotAfter twin.path f.path
    part : twin.broken.part ≤ f.broken.part

  twin_of : (fs gs : List Finding) → AreRight t fs → AreRight t gs → (f : Finding) → Contains fs f → IsTwin gs f
  twin_of fs gs right_f right_g f h =
      let true_f = right_f.true_breaks f h in
      let x = true_f.triple in
      let inside = leads_inside f.path x true_f.leads.leads in
      let there = right_g.all_breaks x f.broken (f.path, true_f.leads.leads) true_f.leads.unmarked true_f.breaks in
      let g = there.finding in
      let own_f = right_f.least_entries f h in
      let own_g = right_g.least_entries g there.among in
      let old = one_node t.old old_graph x.old f.old g.old inside.old own_f.0 own_g.0 true_f.leads.alike.old there.alike.old in
      let new = one_node t.new new_graph x.new f.new g.new inside.new own_f.1 own_g.1 true_f.leads.alike.new there.alike.new in
      let detail = sym true_f.detail ∙ sym there.detail in
      let here : Contains (breaks_of t (record { old = g.old; new = g.new; way = Direct })) f.broken = subst (λ (bs : List Broken). Contains bs f.broken) (breaks_there x g.old g.new there.alike) true_f.breaks in
      record {
        twin = g;
        among = there.among;
        old = old;
        new = new;
        rule = sym there.rule;
        detail = detail;
        path = right_g.first_paths g there.among f.path x (record { leads = true_f.leads.leads; unmarked = true_f.leads.unmarked; alike = there.alike });
        part = right_g.least_parts g there.among f.broken here (sym there.rule) (ap (λ i. detail_at t i g.new f.broken) (sym old) ∙ ap (λ i. detail_at t f.old i f.broken) (sym new) ∙ detail);
      }

  -- and what the other tells in its place is the same
  told_too : (fs gs : List Finding) → AreRight t fs → AreRight t gs → (f : Finding) → Contains fs f → Contains gs f
  told_too fs gs right_f right_g f h =
      let a = twin_of fs gs right_f right_g f h in
      let g = a.twin in
      let true_g = right_g.true_breaks g a.among in
      let near : IsAlikeTo t true_g.triple f.old f.new = record { old = subst (AreAlike t.old true_g.triple.old) (sym a.old) true_g.leads.alike.old; new = subst (AreAlike t.new true_g.triple.new) (sym a.new) true_g.leads.alike.new } in
      let path = path_both paths f.path g.path (right_f.first_paths f h g.path true_g.triple (record { leads = true_g.leads.leads; unmarked = true_g.leads.unmarked; alike = near })) a.path in
      let here : Contains (breaks_of t (record { old = f.old; new = f.new; way = Direct })) g.broken = subst (λ (bs : List Broken). Contains bs g.broken) (breaks_there true_g.triple f.old f.new near) true_g.breaks in
      let low = right_f.least_parts f h g.broken here (sym a.rule) (ap (λ i. detail_at t i f.new g.broken) a.old ∙ ap (λ i. detail_at t g.old i g.broken) a.new ∙ sym a.detail) in
      let part : f.broken.part ≡ g.broken.part = omega (arith, low, a.part) in
      subst (Contains gs) (sym (finding_eq f g path a.old a.new a.rule part)) a.among

  one_telling : (fs gs : List Finding) → AreRight t fs → AreRight t gs → fs ≡ gs
  one_telling fs gs right_f right_g =
      one_list IsFoundBefore (λ f before. found_both paths f f before before) (found_both paths) fs gs right_f.ascending right_g.ascending (told_too fs gs right_f right_g) (told_too gs fs right_g right_f)

one_rows : PathLaws → AlikeLaws → (s : Sides) → IsGraph s.old.graph → IsGraph s.new.graph → (first other : List Row) → AreRightRows s first → AreRightRows s other → first ≡ other
one_rows paths laws s old new first other a b =
    let t = task_of s in
    a.are ∙ ap (map (row_of s)) (one_telling paths laws t old new (λ path x leads. paths.nodes t path x old new (roots_inside s) leads) a.findings b.findings a.right b.right) ∙ sym b.are

pub one_report : PathLaws → AlikeLaws → (s : Sides) → IsGraph s.old.graph → IsGraph s.new.graph → (first other : List Row) → IsRightReport s first → IsRightReport s other → first ≡ other
one_report paths laws s old new first other a b =
    a.are ∙ ap (λ rows. export_rows s ++ rows) (one_rows paths laws s old new a.type_rows b.type_rows a.right b.right) ∙ sym b.are
