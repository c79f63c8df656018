use Rattle.std.proofs.Common.{◌≡◌, ◌∙◌, Some, slice_get, length, map, ap}
use Rattle.std.proofs.lemmas.List.{take_all, length-map}
use Rattle.abi_base.proofs.lemmas.Lists.{slice_get-mapped}
use Rattle.type_reach.specs.Facts.{facts_of}
use Rattle.type_reach.specs.Summaries.{summary_of}
use Rattle.type_reach.proofs.summaries.summaries_of.Goals as goal

pub returns-clause-summaries : goal.returns-clause-summaries
returns-clause-summaries c =
    let facts = c.args.facts.now in
    let whole : c.facts.summaries.items ≡ map summary_of facts = c.facts.invariant ∙ ap (map summary_of) (take_all c.facts.k facts c.facts-test.false) in
    record {
      count = ap length whole ∙ length-map facts summary_of ∙ c.requires.count;
      each = λ i e at. ap (λ xs. slice_get xs i) whole ∙ slice_get-mapped summary_of facts i (facts_of c.args.dwarf.now (Some e)) (c.requires.each i e at);
      shallow = c.requires.shallow;
    }
