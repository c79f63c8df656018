-- The rows of what is told.
use Rattle.std.proofs.Common.{◌≡◌, ℕ, List, [], ◌∷◌, map, slice_get, Some, refl, sym, ◌∙◌, ap, subst}
use Rattle.std.specs.Prelude.{◌↔◌}
use Rattle.std.specs.List.{Contains}
use Rattle.std.proofs.lemmas.Option.{none-some}
use Rattle.abi_base.specs.Lists.{firsts_after}
use Rattle.abi_base.proofs.lemmas.Lists.{AreFirsts-all, contains_at, map-nil, map_source}
use Rattle.abi_types.specs.Graphs.{IsGraph}
use Rattle.abi_types.specs.declared.rule.Rule.{Rule}
use Rattle.abi_types.specs.Rules.{rule_place}
use Rattle.report.specs.declared.row.Row.{Row}
use Rattle.pair_rules.specs.Closed.{AreCompatible}
use Rattle.pair_rules.specs.declared.rules.Broken.{Broken}
use Rattle.pair_rules.specs.Steps.{Task}
use Rattle.pair_explorer.specs.declared.visits.Visit.{Visit}
use Rattle.pair_explorer.specs.ByClass.{IsSound}
use Rattle.pair_explorer.specs.Explorations.{IsExploration}
use Rattle.pair_explorer.specs.Scopes.{Scope}
use Rattle.cert_check.specs.Compatible.{Sides, task_of}
use Rattle.pair_compare.specs.reports.Findings.{Finding}
use Rattle.pair_compare.specs.reports.Reports.{AreRight, AreOneRow, AreRightRows, row_of}
use Rattle.pair_compare.specs.reports.TypeFindings.{IsExplored, finding_of, findings_of, same_told, told_breaks, type_rows}
use Rattle.pair_compare.proofs.reports_lemmas.BelowLaws.{PathLaws, ExplorationLaws, TextLaws}
use Rattle.pair_compare.proofs.reports_lemmas.Right.{are_right, once}
use Rattle.pair_compare.proofs.reports_lemmas.SameRows.{IsSameRow, same_row-itself, same_row-turned}

-- no two findings tell the same
abbrev pub AreApart : Task → List Finding → Type 0
AreApart t findings = (m n : ℕ) (f g : Finding) → slice_get findings m ≡ Some f → slice_get findings n ≡ Some g → IsSameRow t f g → m ≡ n

-- two of the rows of right findings that are equal in rule, detail and entries are of findings that tell the same
same_told_from_rows : (s : Sides) (findings : List Finding) → IsGraph s.old.graph → IsGraph s.new.graph → AreRight (task_of s) findings → (f g : Finding) → Contains findings f → Contains findings g
    → AreOneRow (row_of s f) (row_of s g) → IsSameRow (task_of s) f g
unfolding row_of
same_told_from_rows s findings old new right f g in_f in_g one =
    let own_f = right.least_entries f in_f in
    let own_g = right.least_entries g in_g in
    record {
      rule = one.rule;
      old = old.apart f.old g.old own_f.0.0 own_g.0.0 one.old_entry;
      new = new.apart f.new g.new own_f.1.0 own_g.1.0 one.new_entry;
      detail = one.detail;
    }

right_rows : (s : Sides) (findings : List Finding) → IsGraph s.old.graph → IsGraph s.new.graph → AreRight (task_of s) findings → AreApart (task_of s) findings → AreRightRows s (map (row_of s) findings)
right_rows s findings old new right apart = record {
  findings = findings;
  are = refl;
  right = right;
  once = λ m n a b at_m at_n one.
      let p = map_source (row_of s) findings m a at_m in
      let q = map_source (row_of s) findings n b at_n in
      let same : AreOneRow (row_of s p.item) (row_of s q.item) = subst (λ (r : Row). AreOneRow r (row_of s q.item)) (sym p.is) (subst (AreOneRow a) (sym q.is) one) in
      apart m n p.item q.item p.at q.at (same_told_from_rows s findings old new right p.item q.item (contains_at findings m p.item p.at) (contains_at findings n q.item q.at) same);
}

-- the graphs of what was explored
pub old_graph : (s : Sides) (vs : List Visit) (broken : List (ℕ × Broken)) → IsExplored (task_of s) vs broken → IsGraph s.old.graph
old_graph s vs broken e = subst (λ (t : Task). IsGraph t.old) e.is e.coarse.graphs.old

pub new_graph : (s : Sides) (vs : List Visit) (broken : List (ℕ × Broken)) → IsExplored (task_of s) vs broken → IsGraph s.new.graph
new_graph s vs broken e = subst (λ (t : Task). IsGraph t.new) e.is e.coarse.graphs.new

pub told_right : PathLaws → ExplorationLaws → TextLaws → (s : Sides) (vs : List Visit) (broken : List (ℕ × Broken)) → IsExplored (task_of s) vs broken → AreRightRows s (type_rows s vs broken)
unfolding type_rows
told_right paths below texts s vs broken e =
    let right : AreRight (task_of s) (findings_of (task_of s) vs broken) = subst (λ (t : Task). AreRight t (findings_of t vs broken)) e.is (are_right paths below texts e.scope vs broken e.coarse e.exploration) in
    let apart : AreApart (task_of s) (findings_of (task_of s) vs broken) = subst (λ (t : Task). AreApart t (findings_of t vs broken)) e.is (once paths below texts e.scope vs broken e.coarse e.exploration) in
    right_rows s (findings_of (task_of s) vs broken) (old_graph s vs broken e) (new_graph s vs broken e) right apart

-- ---- a row is told exactly where there is a break

-- no two rules stand at one place
abbrev pub PlacesAreOwn : Type 0
PlacesAreOwn = (one other : Rule) → rule_place one ≡ rule_place other → one ≡ other

rows_from_none : (s : Sides) (vs : List Visit) (broken : List (ℕ × Broken)) → broken ≡ [] → type_rows s vs broken ≡ []
unfolding type_rows firsts_after
rows_from_none s vs broken e = ap (λ bs. map (row_of s) (findings_of (task_of s) vs bs)) e

none_from_rows : PlacesAreOwn → (s : Sides) (vs : List Visit) (broken : List (ℕ × Broken)) → type_rows s vs broken ≡ [] → broken ≡ []
unfolding type_rows
none_from_rows places s vs [] e = refl
none_from_rows places s vs (p ∷ broken) e =
    let t = task_of s in
    let told = told_breaks t vs (p ∷ broken) in
    let none = map-nil (finding_of vs) told (map-nil (row_of s) (map (finding_of vs) told) e) in
    let firsts = AreFirsts-all (same_told t vs) (λ p q. Unit {0}) (λ p. same_row-itself t (finding_of vs p)) (λ p q. same_row-turned t places (finding_of vs p) (finding_of vs q)) (p ∷ broken) (λ m n x y lt at_m at_n. tt) in
    let first = firsts.there 0 p refl in
    absurd (none-some first.item (sym (ap (λ (xs : List (ℕ × Broken)). slice_get xs first.place) none) ∙ first.at))

-- the types are compatible exactly where an exploration finds no break
abbrev pub NoBreakIsCompatible : Type 0
NoBreakIsCompatible = (s : Scope) (visits : List Visit) (broken : List (ℕ × Broken)) → IsSound s → IsExploration s visits broken → (broken ≡ []) ↔ AreCompatible s.task

pub no_type_row : PlacesAreOwn → NoBreakIsCompatible → (s : Sides) (vs : List Visit) (broken : List (ℕ × Broken)) → IsExplored (task_of s) vs broken → (type_rows s vs broken ≡ []) ↔ AreCompatible (task_of s)
no_type_row places law s vs broken e =
    let at_scope = law e.scope vs broken e.coarse.sound e.exploration in (
      λ none. subst AreCompatible e.is (at_scope.0 (none_from_rows places s vs broken none)),
      λ fits. rows_from_none s vs broken (at_scope.1 (subst AreCompatible (sym e.is) fits)),
    )
