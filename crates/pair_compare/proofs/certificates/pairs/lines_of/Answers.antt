-- A line more.
use Rattle.std.proofs.Common.{◌^◌, ◌<◌, arith}
use Rattle.std.proofs.lemmas.List.Elements.{All-push}
use Rattle.std.specs.List.{All}
use Rattle.std.proofs.Common.{subst, sym}
use Rattle.cert_text.specs.Certs.{IsPairBelow}
use Rattle.pair_compare.proofs.certificates_lemmas.VisitLemmas.{lines_more}
use Rattle.pair_compare.proofs.certificates.pairs.lines_of.Goals as goal

pub loop-number-preserved : goal.loop-number-preserved
loop-number-preserved c =
    let a : c.entry_of-old_entry.result < 2 ^ 64 = omega arith in
    let b : c.entry_of-new_entry.result < 2 ^ 64 = omega arith in (
      lines_more c.args.old.now c.args.new.now c.args.visits.now c.loop-number.number c.visit-visit.result c.loop-number.lines.items c.push.new.self.items c.entry_of-old_entry.result c.entry_of-new_entry.result
          c.loop-number.invariant.0 c.visit-visit.ensures c.entry_of-old_entry.ensures c.entry_of-new_entry.ensures c.in_ok-push.ensures.items,
      subst (All (IsPairBelow (2 ^ 64))) (sym c.in_ok-push.ensures.items)
          (All-push (IsPairBelow (2 ^ 64)) c.loop-number.lines.items (c.entry_of-old_entry.result, c.entry_of-new_entry.result, c.visit-visit.result.way) c.loop-number.invariant.1 (a, b)),
    )
