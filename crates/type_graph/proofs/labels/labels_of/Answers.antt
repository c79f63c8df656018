use Rattle.std.proofs.Common.{◌++◌, ◌∙◌, map, ap, sym, subst}
use Rattle.std.proofs.lemmas.List.{append_assoc}
use Rattle.std.proofs.lemmas.Result.{err_from_is_err_and}
use Rattle.abi_base.proofs.lemmas.Outcomes.{on_limit_weaker}
use Rattle.abi_types.specs.Plain.{plain_label}
use Rattle.type_reach.specs.Flat.{own_label, labels_of}
use Rattle.type_reach.specs.TypeLaws.{IsShallow}
use Rattle.type_graph.proofs.LabelLemmas.{is-next, labels-start, labels-more, own-first, labels-pass}
use Rattle.type_graph.proofs.labels.labels_of.Goals as goal

pub passed-init : goal.passed-init
passed-init c = record {
  is = ap (λ xs. map plain_label xs ++ labels_of c.args.dwarf.now c.args.ty) c.new-labels.ensures.items;
  shallow = c.requires.shallow;
  inside = c.requires.inside;
  letters = labels-start c.new-labels.result.items c.args.letters.now c.new-labels.ensures.items c.requires.sound;
}

pub passed-preserved : goal.passed-preserved
passed-preserved c =
    let d = c.args.dwarf.now in
    let e = c.in-Some.e in
    let was = c.passed.invariant in
    let shallow = subst (IsShallow d) c.in-Some.is was.shallow in
    let next = is-next d (c.laws_of_types.ensures d) e c.passed_to-next.result shallow c.passed_to-next.ensures.passed c.passed_to-next.ensures.last in
    let pushed = c.in_ok-push_label.ensures in
    record {
      is =
          ap (λ xs. xs ++ labels_of d c.passed_to-next.result) pushed.label
          ∙ append_assoc (map plain_label c.passed.labels.items) (own_label d e) (labels_of d c.passed_to-next.result)
          ∙ ap (λ ls. map plain_label c.passed.labels.items ++ ls) (next.labels ∙ ap (labels_of d) (sym c.in-Some.is))
          ∙ was.is;
      shallow = next.shallow;
      inside = c.passed_to-next.ensures.inside;
      letters = labels-more (map plain_label c.passed.labels.items) (own_label d e) _ c.args.letters.now c.passed.letters _ pushed.label pushed.letters was.letters;
    }

pub passed-smaller : goal.passed-smaller
passed-smaller c =
    let d = c.args.dwarf.now in
    let shallow = subst (IsShallow d) c.in-Some.is c.passed.invariant.shallow in
    let next = is-next d (c.laws_of_types.ensures d) c.in-Some.e c.passed_to-next.result shallow c.passed_to-next.ensures.passed c.passed_to-next.ensures.last in
    rw c.in-Some.is next.fewer

pub returns-in_err-push_label-clause-past : goal.returns-in_err-push_label-clause-past
returns-in_err-push_label-clause-past c =
    let d = c.args.dwarf.now in
    let e = c.in-Some.e in
    let was = c.passed.invariant in
    let rest = own-first d (c.laws_of_types.ensures d) e (subst (IsShallow d) c.in-Some.is was.shallow) in
    let all = ap (λ ls. map plain_label c.passed.labels.items ++ ls) (rest.1 ∙ ap (labels_of d) (sym c.in-Some.is)) ∙ was.is in
    let p = err_from_is_err_and c.from_residual.result c.from_residual.ensures.1 in
    rw (p.1, p.2) (on_limit_weaker c.in_err-push_label.field-0.0 _ _
    (λ l h. labels-pass (map plain_label c.passed.labels.items) (own_label d e) rest.0 (labels_of d c.args.ty) c.args.letters.now c.passed.letters l all was.letters h)
    c.in_err-push_label.ensures.past)
