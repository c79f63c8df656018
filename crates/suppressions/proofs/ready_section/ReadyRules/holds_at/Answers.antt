use Rattle.std.proofs.Common.{◌≡◌, ◌∙◌, List, length, sym, ap, subst, arith}
use Rattle.std.specs.Prelude.{slice_index_or}
use Rattle.std.proofs.lemmas.List.{length-map}
use Rattle.std.proofs.lemmas.List.Elements.{Contains-get_or}
use Rattle.suppression_text.specs.Rules.{PlainSection}
use Rattle.suppressions.specs.Handles.{PlainHandle, AreAt, handle_of, handles_of}
use Rattle.suppressions.specs.Holding.{one_section_holds}
use Rattle.suppressions.specs.PlainHandles.{plain_handle}
use Rattle.suppressions.specs.PlainSubjects.{plain_subject}
use Rattle.suppressions.proofs.HoldLemmas.{one_of}
use Rattle.suppressions.proofs.ready_section.ReadyRules.holds_at.Goals as goal

pub one_holds-requires : goal.one_holds-requires
one_holds-requires c = λ k d inside.
    let numbers = c.find.result.now in
    let place = (c.find.ensures (slice_index_or numbers k d)).0 (Contains-get_or numbers k d inside) in
    let below = place.0 in
    let len : length c.self.inside.order ≡ length c.as_mut_slice.result.now = ap length c.self.invariant.0 ∙ length-map c.self.inside.sections.items handle_of ∙ ap length (sym c.as_mut_slice.ensures.value) in
    omega arith

pub returns-clause-some : goal.returns-clause-some
returns-clause-some c =
    let sections = c.args.self.now in
    let s = plain_subject c.args.subject.now in
    let numbers = c.find.result.now in
    let handle = plain_handle c.args.handle in
    let are : AreAt (handles_of sections) handle numbers = subst (λ (handles : List PlainHandle). AreAt handles handle numbers) (c.self.invariant.0 ∙ ap handles_of c.self.view_is) c.find.ensures in
    one_of s sections handle numbers c.one_holds.result are
    (c.one_holds.ensures.some ∙ ap (λ (ss : List PlainSection). one_section_holds ss s numbers) (c.as_mut_slice.ensures.value ∙ c.self.view_is))
