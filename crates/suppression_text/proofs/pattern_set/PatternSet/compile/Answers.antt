use Rattle.std.proofs.Common.{◌≡◌, ◌∙◌, ℕ, List, true, map, ap, sym, subst}
use Rattle.std.specs.Prelude.{All}
use Rattle.std.specs.Borrow.{Bor}
use Rattle.std.specs.Str.{is_utf8}
use Rattle.std.proofs.lemmas.List.Elements.{All-map}
use Rattle.suppression_text.proofs.PatternLemmas.{searches_for_one}
use Rattle.suppression_text.proofs.pattern_set.PatternSet.compile.Goals as goal

pub invariant_of-result : goal.invariant_of-result
invariant_of-result c =
    let now : Bor (List ℕ) → List ℕ = λ text. text.now in
    let IsText : List ℕ → Type 0 = λ text. is_utf8 text ≡ true in
    let texts = All-map IsText now c.in_ok-sources.sources.items c.in_ok-sources.ensures.utf8 in
    searches_for_one c.in-Ok.set.regexes.items c.in-Ok.ensures.read (subst (All IsText) (sym (c.in-Ok.ensures.sources ∙ ap (map now) c.as_slice.ensures.value)) texts)
