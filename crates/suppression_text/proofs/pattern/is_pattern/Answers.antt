use Rattle.std.proofs.Common.{ap, sym, ◌∙◌, ◌≡◌, true, false}
use Rattle.std.specs.Str.{is_utf8}
use Rattle.suppression_text.specs.Patterns as spec
use Rattle.suppression_text.proofs.PatternLemmas.{is_pattern-read, is_pattern-refused, is_pattern-bytes}
use Rattle.suppression_text.proofs.pattern.is_pattern.Goals as goal

pub returns-in_default-clause-read : goal.returns-in_default-clause-read
returns-in_default-clause-read c = sym (is_pattern-bytes c.args.text.now c.in_default.ensures.none)

pub returns-in-Ok-clause-read : goal.returns-in-Ok-clause-read
returns-in-Ok-clause-read c =
    let text = c.in-Some.ensures.text in
    let is : spec.is_pattern c.in-Some.source.now ≡ true = is_pattern-read c.in-Some.source.now c.in-Ok.parsed.hir _ (rw c.bytes_config.ensures at c.in-Ok.ensures.ok) (ap is_utf8 text.0 ∙ text.1) in
    sym (ap spec.is_pattern (sym text.0) ∙ is)

pub returns-in_default-kind-clause-read : goal.returns-in_default-kind-clause-read
returns-in_default-kind-clause-read c =
    let text = c.in-Some.ensures.text in
    let is : spec.is_pattern c.in-Some.source.now ≡ false = is_pattern-refused c.in-Some.source.now c.in-Err.error.kind c.in_default-kind.not-OutOfMemory (rw c.bytes_config.ensures at c.in-Err.ensures.err) (ap is_utf8 text.0 ∙ text.1) in
    sym (ap spec.is_pattern (sym text.0) ∙ is)
