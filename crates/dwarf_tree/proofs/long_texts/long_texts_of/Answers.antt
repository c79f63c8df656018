-- One more long text.
use Rattle.std.proofs.Common.{List, sym, subst}
use Rattle.std.specs.Prelude.{All}
use Rattle.dwarf_tree.specs.declared.long_texts.LongText.{LongText}
use Rattle.dwarf_tree.specs.LongTexts.{IsLongText}
use Rattle.dwarf_tree.proofs.LongTextLemmas.{long_texts_more}
use Rattle.dwarf_tree.proofs.long_texts.long_texts_of.Goals as goal

pub texts-preserved : goal.texts-preserved
texts-preserved c =
    let P : List LongText → Type 0 = λ texts. All (IsLongText c.args.info.now) texts in
    subst P (sym c.in_ok-push.ensures.items) (long_texts_more c.args.info.now c.texts.texts.items c.texts.at c.in-Some.letters.now c.texts.invariant c.in-Some.ensures.found)
