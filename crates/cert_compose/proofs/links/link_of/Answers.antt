use Rattle.std.proofs.Common.{sym}
use Rattle.abi_types.specs.Plain.{plain_export}
use Rattle.cert_compose.specs.CertifiedChain.{chain_of}
use Rattle.cert_compose.proofs.LinkLemmas.{no_other, two_places}
use Rattle.cert_compose.proofs.links.link_of.Goals as goal

pub returns-in-None-bind_in-2 : goal.returns-in-None-bind_in-2
returns-in-None-bind_in-2 c = no_other (chain_of c.args.ground.now) (plain_export c.args.export.now) (plain_export c.in-Some.between.now) c.in-Some.ensures (sym c.in-None-bind_in-2.ensures)

pub returns-then-straight-place : goal.returns-then-straight-place
returns-then-straight-place c =
    two_places (chain_of c.args.ground.now) (plain_export c.args.export.now) (plain_export c.in-Some.between.now) c.in-Some-bind_in.straight c.in-Some-bind_in-2.place c.in-Some.ensures
    (sym c.in-Some-bind_in.ensures) (sym c.in-Some-bind_in-2.ensures) c.if-straight-place.true
