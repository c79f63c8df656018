use Rattle.std.proofs.Common.{rules, ◌∙◌, ℕ, List, Bor}
use Rattle.std.proofs.lemmas.Iterator.{YieldsList-from_slice}
use Rattle.std.proofs.lemmas.Iterator.Search.{find_from_yields_List}
use borrow.Author.Tests.{tests}
use Rattle.cli_args.specs.WrongWords.{is_help_with_value}
use Rattle.cli_args.proofs.FoundLemmas.{find_texts}
use Rattle.cli_args.proofs.wrong.help_with_value.Goals as goal

pub returns : goal.returns
returns c =
    let found = find_from_yields_List (λ (w : Bor (List ℕ)). is_help_with_value w.now) _ _ c.find.result c.find.ensures.ran (YieldsList-from_slice c.args.words.now cc) (λ x b q k. search (rules, tests)) in
    find_texts is_help_with_value c.args.words.now c.copied.result (c.copied.ensures ∙ found)
