-- What the row of a break is made of is there.
use Rattle.std.proofs.Common.{◌≡◌, ◌<◌, ℕ, Bool, true, false, List, length, slice_get, Some, sym, ◌∙◌, ap, subst}
use Rattle.std.specs.Prelude.{◌↔◌, MatchBool}
use Rattle.std.specs.List.{Contains}
use Rattle.std.proofs.lemmas.Option.{same_Some}
use Rattle.abi_types.specs.Graphs.{IsGraph, view_at}
use Rattle.abi_types.specs.Types.{PlainView}
use Rattle.report.specs.Details.{IsInside}
use Rattle.pair_rules.specs.declared.rules.Broken.{Broken}
use Rattle.pair_rules.specs.TypeRules.{breaks, breaks_part, breaks_whole, rules_asked, speaks_of_parts, IsBroken}
use Rattle.pair_rules.specs.Paths.{Path, PathLeadsTo}
use Rattle.pair_rules.specs.Steps.{Task, Triple, breaks_of}
use Rattle.pair_explorer.specs.declared.visits.Visit.{Visit}
use Rattle.pair_explorer.specs.ByClass.{IsSound, IsToldBy}
use Rattle.pair_explorer.specs.Explorations.{IsExploration}
use Rattle.pair_explorer.specs.Routes.{path_at}
use Rattle.pair_explorer.specs.Scopes.{Scope, rep}
use Rattle.pair_explorer.specs.Visits.{seen, Along, AreEarlier}
use Rattle.cert_check.specs.Compatible.{Sides, task_of}
use Rattle.pair_compare.specs.reports.PathTexts.{IsWalk}
use Rattle.pair_compare.specs.reports.Readable.{AreReadable}
use Rattle.pair_compare.specs.reports.TypeFindings.{IsExplored}
use Rattle.pair_compare.proofs.reports_lemmas.RowLemmas.{old_graph, new_graph}
use Rattle.pair_compare.proofs.reports_lemmas.VisitLemmas.{visit_of}

-- what the laws below say that is used here
pub record ReadingLaws : Type 0 where
  pub sound : (s : Scope) (visits : List Visit) (broken : List (ℕ × Broken)) (n : ℕ) (b : Broken) (path : Path) → IsSound s → IsExploration s visits broken
      → Contains broken (n, b) → Along visits n path → IsToldBy s visits n b path
  pub same_breaks : (s : Scope) (x y : Triple) → IsSound s → rep s x ≡ rep s y → breaks_of s.task x ≡ breaks_of s.task y
  pub along : (visits : List Visit) (n : ℕ) (v : Visit) → AreEarlier visits → slice_get visits n ≡ Some v → Along visits n (path_at visits n)
  pub said : (v w : PlainView) (b : Broken) → Contains (breaks v w) b ↔ (Contains (rules_asked v w) b.rule × IsBroken v w b)
  pub walks : (s : Sides) (path : Path) (x : Triple) → IsGraph s.old.graph → IsGraph s.new.graph → PathLeadsTo (task_of s) path x → IsWalk s.old path

-- the same of a task
record IsThere (t : Task) (visits : List Visit) (p : ℕ × Broken) : Type 0 where
  visit : Visit
  at : slice_get visits p.0 ≡ Some visit
  old : visit.old < length t.old
  new : visit.new < length t.new
  part : IsInside (view_at t.old visit.old) p.1
  triple : Triple
  leads : PathLeadsTo t (path_at visits p.0) triple

part_inside : (v w : PlainView) (b : Broken) (speaks : Bool) → MatchBool speaks ((b.part < length v.parts) × (breaks_part b.rule v w b.part ≡ true)) ((b.part ≡ 0) × (breaks_whole b.rule v w ≡ true)) → speaks ≡ true → b.part < length v.parts
part_inside v w b true broken is = broken.0
part_inside v w b false broken is = cc

is_there : ReadingLaws → (s : Scope) (vs : List Visit) (broken : List (ℕ × Broken)) → IsSound s → IsExploration s vs broken → (p : ℕ × Broken) → Contains broken p → IsThere s.task vs p
is_there laws s vs broken sound explored p h =
    let v = visit_of s vs broken explored p h in
    let by = laws.sound s vs broken p.0 p.1 (path_at vs p.0) sound explored h (laws.along vs p.0 v.0 explored.earlier v.1) in
    let is : rep s by.triple ≡ seen v.0 = by.is ∙ ap seen (same_Some by.visit v.0 (sym by.at ∙ v.1)) in
    let same = laws.same_breaks s by.triple (seen v.0) sound (is ∙ sym (explored.represented p.0 v.0 v.1)) in
    let breaks_here : Contains (breaks_of s.task (seen v.0)) p.1 = subst (λ (bs : List Broken). Contains bs p.1) same by.breaks in
    let broken_here = ((laws.said (view_at s.task.old v.0.old) (view_at s.task.new v.0.new) p.1).0 breaks_here).1 in
    let inside = explored.inside p.0 v.0 v.1 in
    record {
      visit = v.0;
      at = v.1;
      old = inside.0;
      new = inside.1;
      part = part_inside (view_at s.task.old v.0.old) (view_at s.task.new v.0.new) p.1 (speaks_of_parts p.1.rule) broken_here;
      triple = by.triple;
      leads = by.leads;
    }

pub readable : ReadingLaws → (s : Sides) (vs : List Visit) (broken : List (ℕ × Broken)) → IsExplored (task_of s) vs broken → AreReadable s vs broken
readable laws s vs broken e = record {
  earlier = e.exploration.earlier;
  each = λ p h.
      let there : IsThere (task_of s) vs p = subst (λ (t : Task). IsThere t vs p) e.is (is_there laws e.scope vs broken e.coarse.sound e.exploration p h) in
      record {
        visit = there.visit;
        at = there.at;
        old = there.old;
        new = there.new;
        part = there.part;
        walk = laws.walks s (path_at vs p.0) there.triple (old_graph s vs broken e) (new_graph s vs broken e) there.leads;
      };
}
