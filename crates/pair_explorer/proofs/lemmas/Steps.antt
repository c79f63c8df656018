-- Steps over representatives.
use Rattle.std.proofs.Common.{◌≡◌, ℕ, Some, Option, None, refl, false, sym, ◌∙◌, ap, ◌<◌, length, List, arith}
use Rattle.pair_rules.specs.Steps.{Triple, step, is_marked, next_of}
use Rattle.pair_explorer.specs.Scopes.{Scope, rep, rep_step}
use Rattle.std.specs.Option.{option_map}
use Rattle.std.proofs.lemmas.Option.{same_Some, none-some}
use Rattle.abi_types.specs.Types.{PlainView, PlainNode}
use Rattle.abi_types.specs.Graphs.{view_at}

-- what leads on over representatives
pub record IsRepStep (s : Scope) (x : Triple) (i : ℕ) (z : Triple) : Type 0 where
  pub to : Triple
  pub stepped : step s.task x i ≡ Some to
  pub is : rep s to ≡ z

pub rep_step-parts : (s : Scope) (x z : Triple) (i : ℕ) → rep_step s x i ≡ Some z → IsRepStep s x i z
unfolding rep_step
rep_step-parts s x z i e = go (step s.task x i) refl e where
  go : (o : Option Triple) → step s.task x i ≡ o → option_map (rep s) o ≡ Some z → IsRepStep s x i z
  go None is e = absurd (none-some z e)
  go (Some y) is e = record { to = y; stepped = is; is = same_Some (rep s y) z e }

-- the step that the code takes
pub step-is : (s : Scope) (x : Triple) (i : ℕ) (v w : PlainView) → is_marked s.task x.old x.way ≡ false → v ≡ view_at s.task.old x.old → w ≡ view_at s.task.new x.new → step s.task x i ≡ next_of v w x.way i
unfolding step
step-is s x i v w unmarked old new = rw unmarked (ap (λ u. next_of u (view_at s.task.new x.new) x.way i) (sym old) ∙ ap (λ u. next_of v u x.way i) (sym new))

-- a number that is read fits where the nodes are
pub node-fits : (a b : ℕ) (xs ys : List PlainNode) → a ≡ b → xs ≡ ys → b < length ys → a < length xs
node-fits a b xs ys same nodes lt = let e = ap length nodes in omega arith
