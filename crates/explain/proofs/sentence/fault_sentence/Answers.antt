use Rattle.std.proofs.Common.{rules, ◌<◌, ◌^◌, ◌∙◌, ap, string_bytes}
use Rattle.explain.proofs.LineLemmas.{joined, mark_line}
use Rattle.explain.specs.Lines.{is_one_line}
use Rattle.explain.specs.Sentences.{fault_mark}
use Rattle.explain.proofs.sentence.fault_sentence.Goals as goal

pub returns-clause-line : goal.returns-clause-line
returns-clause-line c =
    let small : c.args.fault.at < 2 ^ 64 = search rules in
    ap is_one_line c.in_ok-push_mark.ensures ∙ joined (string_bytes c.in_ok-text.text) (fault_mark c.args.fault) c.in_ok-text.ensures.line (mark_line c.args.fault small)
