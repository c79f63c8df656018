use Rattle.std.proofs.Common.{◌≡◌, ℕ, List, rules, subst}
use Rattle.abi_types.specs.Types.{PlainNode}
use Rattle.library_read.specs.Libraries.{library_of}
use Rattle.library_layout.specs.Structures.{IsOtherIn}
use Rattle.library_layout.proofs.libraries.near_tags.Goals as goal

pub returns-clause-other : goal.returns-clause-other
returns-clause-other c =
    let graph : c.graph-2.result.now ≡ (library_of c.args.library.now).graph = search rules in
    let tag : c.as_bytes-2.result.now ≡ c.args.tag.now = search rules in
    let here = subst (λ (t : List ℕ). IsOtherIn c.graph-2.result.now t c.other_in-other.result) tag c.other_in-other.ensures in
    subst (λ (nodes : List PlainNode). IsOtherIn nodes c.args.tag.now c.other_in-other.result) graph here
