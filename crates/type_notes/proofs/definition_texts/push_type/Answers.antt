-- Entry by entry.
use Rattle.std.proofs.Common.{◌∙◌, ◌-◌, ◌+◌, ◌++◌, ℕ, List, sym, ap, string_bytes}
use Rattle.std.proofs.lemmas.List.{append-nil}
use Rattle.type_reach.specs.References.{Type_}
use Rattle.type_notes.specs.DefinitionTexts.{goes_on, type_text, type_word}
use Rattle.type_notes.proofs.DefinitionLemmas.{append_apart, text_void, text_next, text_last, text_end}
use Rattle.type_notes.proofs.definition_texts.push_type.Goals as goal

pub returns-in-None : goal.returns-in-None
returns-in-None c =
    let d = c.args.dwarf.now in
    c.in_ok-push_str-in-None.ensures.bytes ∙ ap (λ (xs : List ℕ). string_bytes c.chain.text ++ xs) (sym (text_void d 513 c.chain.passed c.chain-test.true) ∙ ap (λ (r : Type_). type_text d (513 - c.chain.passed) r) (sym c.in-None.is))
    ∙ c.chain.invariant.same

pub returns-then-not-goes_on : goal.returns-then-not-goes_on
returns-then-not-goes_on c =
    let d = c.args.dwarf.now in
    c.in_ok-push_word-in-Some.ensures
    ∙ ap (λ (xs : List ℕ). string_bytes c.chain.text ++ xs)
    (sym (text_last d 513 c.chain.passed c.in-Some.e c.chain-test.true (sym (ap goes_on c.role_of.ensures) ∙ sym c.goes_on.ensures ∙ c.if-not-goes_on.true)) ∙ ap (λ (r : Type_). type_text d (513 - c.chain.passed) r) (sym c.in-Some.is))
    ∙ c.chain.invariant.same

pub chain-preserved : goal.chain-preserved
chain-preserved c =
    let d = c.args.dwarf.now in
    record {
      inside = c.type_of-at.ensures.inside;
      same =
          append_apart (string_bytes c.chain.text) _ _ _ c.in_ok-push_word-in-Some.ensures
          ∙ ap (λ (xs : List ℕ). string_bytes c.chain.text ++ xs)
          (ap (λ (r : Type_). type_word d c.in-Some.e ++ type_text d (513 - (c.chain.passed + 1)) r) c.type_of-at.ensures.found
          ∙ sym (text_next d 513 c.chain.passed c.in-Some.e c.chain-test.true (sym (ap goes_on c.role_of.ensures) ∙ sym c.goes_on.ensures ∙ c.if-not-goes_on.false)) ∙ ap (λ (r : Type_). type_text d (513 - c.chain.passed) r) (sym c.in-Some.is))
          ∙ c.chain.invariant.same;
    }

pub returns : goal.returns
returns c =
    sym (append-nil (string_bytes c.chain.text)) ∙ ap (λ (xs : List ℕ). string_bytes c.chain.text ++ xs) (sym (text_end c.args.dwarf.now 513 c.chain.passed c.chain.at c.chain-test.false)) ∙ c.chain.invariant.same
