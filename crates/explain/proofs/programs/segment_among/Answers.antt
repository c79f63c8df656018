use Rattle.std.proofs.Common.{◌∙◌, ℕ, List, Option, sym}
use Rattle.explain.specs.Programs.{is_of_type, header_with}
use Rattle.explain.proofs.ProgramLemmas.{given_here, given_later, none_given}
use Rattle.explain.proofs.programs.segment_among.Goals as goal

pub loop-index-preserved : goal.loop-index-preserved
loop-index-preserved c =
    let g : ℕ → Option (List ℕ) = header_with c.args.bytes.now c.args.table in
    sym (given_later g (is_of_type c.args.wanted) c.loop-index.index c.args.count c.loop-index-test.true (sym c.in_default.ensures.found)) ∙ c.loop-index.invariant

pub returns-in-Some-clause-found : goal.returns-in-Some-clause-found
returns-in-Some-clause-found c =
    let g : ℕ → Option (List ℕ) = header_with c.args.bytes.now c.args.table in
    sym (given_here g (is_of_type c.args.wanted) c.loop-index.index c.args.count c.in-Some.header.now c.loop-index-test.true (sym c.in-Some.ensures.found)) ∙ c.loop-index.invariant

pub returns-clause-found : goal.returns-clause-found
returns-clause-found c =
    let g : ℕ → Option (List ℕ) = header_with c.args.bytes.now c.args.table in
    sym (none_given g (is_of_type c.args.wanted) c.loop-index.index c.args.count c.loop-index-test.false) ∙ c.loop-index.invariant
