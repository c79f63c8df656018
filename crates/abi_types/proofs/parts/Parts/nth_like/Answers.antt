-- The place is one of the list.
use Rattle.std.proofs.Common.{◌≡◌, rules}
use Rattle.abi_types.specs.Parts.{plain_part, like}
use Rattle.abi_types.specs.Parts.{place_of as the_place_of}
use Rattle.abi_types.proofs.LikeLemmas.{place_of-within}
use Rattle.abi_types.proofs.LookupLemmas.{found_is}
use Rattle.abi_types.proofs.parts.Parts.nth_like.Goals as goal

pub returns-in-None-clause-inside : goal.returns-in-None-clause-inside
returns-in-None-clause-inside g c =
    let e : c.place_of.result ≡ the_place_of (like (plain_part g.Jx.Index.number_of c.args.part.now)) c.args.k c.args.self.now = search rules in
    place_of-within (like (plain_part g.Jx.Index.number_of c.args.part.now)) c.args.k c.args.self.now c.place_of.result e

pub place_in-requires : goal.place_in-requires
place_in-requires g c = c.in-Some.ensures.order

pub returns-in-Some-clause-place : goal.returns-in-Some-clause-place
returns-in-Some-clause-place g c =
    found_is c.in-Some.lookup.now c.args.self.now (plain_part g.Jx.Index.number_of c.args.part.now) c.args.k c.in-Some.ensures c.place_in.result c.place_in.ensures

pub returns-in-Some-clause-inside : goal.returns-in-Some-clause-inside
returns-in-Some-clause-inside g c =
    let part = plain_part g.Jx.Index.number_of c.args.part.now in
    let e = found_is c.in-Some.lookup.now c.args.self.now part c.args.k c.in-Some.ensures c.place_in.result c.place_in.ensures in
    place_of-within (like part) c.args.k c.args.self.now c.place_in.result e
