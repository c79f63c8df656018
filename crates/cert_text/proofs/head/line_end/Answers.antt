use Rattle.std.proofs.Common.{sym}
use Rattle.cert_text.proofs.FeedLemmas.{rests, stands}
use Rattle.cert_text.proofs.head.line_end.Goals as goal

pub returns-in-None : goal.returns-in-None
returns-in-None c = rests c.args.bytes.now c.args.at (sym c.in-None.ensures)

pub returns-in-Some : goal.returns-in-Some
returns-in-Some c = stands c.args.bytes.now c.args.at c.in-Some.length c.requires (sym c.in-Some.ensures)
