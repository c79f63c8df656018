-- Steps over representatives, as the code takes them.
use Rattle.std.proofs.Common.{◌≡◌, ℕ, false, Option, Some, None, sym, ◌∙◌, ap}
use Rattle.std.specs.Option.{option_map}
use Rattle.abi_types.specs.Types.{PlainView}
use Rattle.abi_types.specs.Graphs.{view_at, IsGraph}
use Rattle.pair_rules.specs.Stable.{IsInside}
use Rattle.pair_rules.specs.Steps.{Triple, is_marked, step, next_of}
use Rattle.type_classes.specs.Classes.{rep_of}
use Rattle.pair_explorer.specs.Scopes.{Scope, AreGraphs, rep, rep_step}
use Rattle.pair_explorer.proofs.lemmas.Steps.{step-is}

-- ---- as the code steps

-- what a step leads to is there
pub next-inside : (s : Scope) (x to : Triple) (i : ℕ) (v w : PlainView) → ((x y : Triple) (i : ℕ) → IsGraph s.task.old → IsGraph s.task.new → step s.task x i ≡ Some y → IsInside s.task y) → AreGraphs s
    → is_marked s.task x.old x.way ≡ false → v ≡ view_at s.task.old x.old → w ≡ view_at s.task.new x.new → Some to ≡ next_of v w x.way i → IsInside s.task to
next-inside s x to i v w law graphs unmarked old new e = law x to i graphs.old graphs.new (step-is s x i v w unmarked old new ∙ sym e)

pub rep_step-none : (s : Scope) (i : ℕ) (x : Triple) (v w : PlainView) → is_marked s.task x.old x.way ≡ false → v ≡ view_at s.task.old x.old → w ≡ view_at s.task.new x.new → None ≡ next_of v w x.way i → None ≡ rep_step s x i
unfolding rep_step
rep_step-none s i x v w unmarked old new e = ap (option_map (rep s)) (e ∙ sym (step-is s x i v w unmarked old new))

pub rep_step-is : (s : Scope) (i : ℕ) (x to : Triple) (v w : PlainView) (r q : ℕ) → is_marked s.task x.old x.way ≡ false → v ≡ view_at s.task.old x.old → w ≡ view_at s.task.new x.new → Some to ≡ next_of v w x.way i
    → r ≡ rep_of s.old to.old → q ≡ rep_of s.new to.new → Some (record { old = r; new = q; way = to.way }) ≡ rep_step s x i
unfolding rep_step
rep_step-is s i x to v w r q unmarked old new e is_r is_q =
    let mk : ℕ → ℕ → Option Triple = λ a b. Some (record { old = a; new = b; way = to.way }) in
    ap (λ a. mk a q) is_r ∙ ap (mk (rep_of s.old to.old)) is_q ∙ ap (option_map (rep s)) (e ∙ sym (step-is s x i v w unmarked old new))
