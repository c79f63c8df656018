use Rattle.std.proofs.Common.{◌∙◌, refl, ap}
use Rattle.std.specs.Str.{is_utf8}
use Rattle.suppression_text.proofs.PatternLemmas.{searches}
use Rattle.suppression_text.proofs.pattern.Pattern.compile.Goals as goal

pub invariant_of-result : goal.invariant_of-result
invariant_of-result c =
    let text = c.in-Some.ensures.text in
    searches c.in-Ok.regex _ refl c.in-Ok.ensures.config c.in-Ok.ensures.read (ap is_utf8 (c.in-Ok.ensures.source ∙ text.0) ∙ text.1)
