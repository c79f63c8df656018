-- The sorted lines.
use Rattle.std.proofs.Common.{◌∙◌, ◌^◌}
use Rattle.cert_text.specs.Certs.{IsBelow}
use Rattle.pair_compare.proofs.certificates_lemmas.FoundLemmas.{alike_made, below_moved}
use Rattle.pair_compare.proofs.certificates.alike.alike_lines.Goals as goal

pub returns-clause-lines : goal.returns-clause-lines
returns-clause-lines g c =
    alike_made (record { stands = c.classes_stand_by_their_least_entries.ensures.stands; alone = c.classes_stand_by_their_least_entries.ensures.alone }) c.lines_stand_in_the_order_of_their_numbers.ensures c.args.classes.now c.args.graph.now
    c.requires.nodes c.known-2.ensures c.requires.coarsest c.known.ensures c.into_vec-lines.result.items c.sort.new.lines.items c.of.result
    (c.into_vec-lines.ensures ∙ c.in_ok-lines_of.ensures.lines) c.sort.ensures.moved c.sort.ensures.sorted c.of.ensures

pub returns-clause-numbers : goal.returns-clause-numbers
returns-clause-numbers g c =
    below_moved (IsBelow (2 ^ 64)) c.in_ok-lines_of.field-0 c.into_vec-lines.result.items c.sort.new.lines.items c.of.result c.in_ok-lines_of.ensures.numbers c.into_vec-lines.ensures c.sort.ensures.moved c.of.ensures
