-- Short lists are gone through.
use Rattle.abi_types.specs.Parts.{plain_part}
use Rattle.abi_types.proofs.LikeLemmas.{like_before_read}
use Rattle.abi_types.proofs.parts.Parts.like_before.Goals as goal

pub returns-in-None : goal.returns-in-None
returns-in-None g c =
    let f = plain_part g.Ix.Index.number_of in
    like_before_read f c.as_slice-items.result.now c.args.self.now c.args.i c.index-items-i.result c.count_like.result c.as_slice-items.ensures c.requires c.index-items-i.is c.count_like.ensures
