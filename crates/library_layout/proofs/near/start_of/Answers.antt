use Rattle.std.proofs.Common.{ℕ, take, ◌∙◌, ap}
use Rattle.std.proofs.lemmas.List.{take_min}
use Rattle.library_layout.proofs.near.start_of.Goals as goal

pub returns : goal.returns
returns c = ap (λ (n : ℕ). take n c.args.tag.now) c.min.ensures ∙ take_min 64 c.args.tag.now
