use Rattle.abi_types.specs.Plain.{plain_export}
use Rattle.cert_compose.specs.CertifiedChain.{chain_of}
use Rattle.cert_compose.proofs.LinkLemmas.{typed_some}
use Rattle.cert_compose.proofs.links.keeps_typed.Goals as goal

pub returns-in-Some : goal.returns-in-Some
returns-in-Some c =
    typed_some (chain_of c.args.ground.now) c.args.k (plain_export c.export_at-export.result.now) c.export_at-export.ensures (plain_export c.in-Some.link.between.now) (plain_export c.in-Some.link.partner.now)
    c.keeps_type.result c.in-Some.ensures c.keeps_type.ensures
