-- Alike nodes have the same details.
use Rattle.std.proofs.Common.{◌≡◌, ℕ, List, sym, ◌∙◌, ap}
use Rattle.abi_types.specs.Graphs.{view_at}
use Rattle.abi_types.specs.ClassLooks.{Look, view_seen}
use Rattle.abi_types.specs.Types.{PlainNode}
use Rattle.report.specs.TypeRows.{type_detail}
use Rattle.type_classes.specs.Alike.{AreAlike}
use Rattle.pair_rules.specs.declared.rules.Broken.{Broken}
use Rattle.pair_rules.specs.Steps.{Task}
use Rattle.pair_compare.specs.reports.Findings.{detail_at}
use Rattle.pair_compare.proofs.reports_lemmas.BelowLaws.{TextLaws}

nowhere : ℕ → ℕ
nowhere i = 0

-- alike nodes look the same, but for which nodes their parts name
alike_views : (nodes : List PlainNode) (a b : ℕ) → AreAlike nodes a b → view_seen nowhere (view_at nodes a) ≡ view_seen nowhere (view_at nodes b)
unfolding nowhere
alike_views nodes a b (r, is, related) = ap (λ (l : Look). l.view) (is.shapes a b related)

-- a break has one detail in alike nodes
pub same_detail : TextLaws → (t : Task) (a b c d : ℕ) (r : Broken) → AreAlike t.old a b → AreAlike t.new c d → detail_at t a c r ≡ detail_at t b d r
unfolding detail_at
same_detail laws t a b c d r old new =
    sym (laws.details nowhere nowhere r.rule (view_at t.old a) (view_at t.new c) r.part)
    ∙ ap (λ v. type_detail r.rule v (view_seen nowhere (view_at t.new c)) r.part) (alike_views t.old a b old)
    ∙ ap (λ w. type_detail r.rule (view_seen nowhere (view_at t.old b)) w r.part) (alike_views t.new c d new)
    ∙ laws.details nowhere nowhere r.rule (view_at t.old b) (view_at t.new d) r.part
