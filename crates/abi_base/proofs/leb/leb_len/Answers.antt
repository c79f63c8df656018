use Rattle.abi_base.proofs.lemmas.Leb.{inside_ten}
use Rattle.abi_base.proofs.leb.leb_len.Goals as goal

pub returns-in-Some-clause-inside : goal.returns-in-Some-clause-inside
returns-in-Some-clause-inside c = inside_ten c.args.bytes.now c.ten_from.result.now c.args.at c.in-Some.more c.ten_from.ensures c.in-Some.ensures.inside
