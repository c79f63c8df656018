use Rattle.std.proofs.Common.{◌++◌, ℕ, List, [], ◌∷◌, string_bytes, flat_map, ◌∙◌, ap, sym, map-id, append_assoc}
use Rattle.std.proofs.lemmas.List.{append-nil}
use Rattle.std.proofs.lemmas.Grind.{flat_map-append}
use Rattle.std.proofs.lemmas.Iterator.{YieldsList-from_chars}
use Rattle.std.proofs.lemmas.Iterator.Consumers.{YieldsList-end}
use Rattle.explain.specs.Lines.{shown_char}
use Rattle.explain.proofs.lines.push_in_line.Goals as goal

pub loop-c-preserved : goal.loop-c-preserved
loop-c-preserved c =
    c.in_ok-push_char.ensures ∙ ap (λ (b : List ℕ). b ++ shown_char c.in-Some.c) c.loop-c.invariant
    ∙ append_assoc (string_bytes c.args.text.now) (flat_map shown_char c.loop-c.yielded) (shown_char c.in-Some.c)
    ∙ ap (λ (b : List ℕ). string_bytes c.args.text.now ++ b)
    (ap (λ (b : List ℕ). flat_map shown_char c.loop-c.yielded ++ b) (sym (append-nil (shown_char c.in-Some.c))) ∙ sym (flat_map-append shown_char c.loop-c.yielded (c.in-Some.c ∷ [])))

pub returns : goal.returns
returns c =
    let done = YieldsList-end (YieldsList-from_chars c.args.line.now c.utf8.line cc) c.loop-c.yielded _ c.loop-c.yielded_by _ _ c.in-None.is c.next.ensures.steps in
    c.loop-c.invariant ∙ ap (λ cs. string_bytes c.args.text.now ++ flat_map shown_char cs) (sym (map-id c.loop-c.yielded) ∙ done.0)
