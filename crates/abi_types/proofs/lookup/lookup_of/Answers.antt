-- One more part at each step.
use Rattle.std.proofs.Common.{◌≡◌, ◌<◌, ◌≤◌, ◌∙◌, length, get_or, map, ap, sym}
use Rattle.std.proofs.lemmas.List.{length-map, get_or-map}
use Rattle.abi_types.specs.Graphs.{no_part}
use Rattle.abi_types.specs.Parts.{plain_part}
use Rattle.abi_types.proofs.LookupLemmas.{IsFilling-start, IsFilling-pushed, IsFilling-end}
use Rattle.abi_types.proofs.lookup.lookup_of.Goals as goal

pub loop-i-init : goal.loop-i-init
loop-i-init g c =
    IsFilling-start (map (plain_part g.Ix.Index.number_of) c.args.items.now) c.new-counts.result c.new-numbers.result.items c.new-places.result.items c.new-counts.ensures.empty c.new-numbers.ensures.items c.new-places.ensures.items

pub loop-i-preserved : goal.loop-i-preserved
loop-i-preserved g c =
    let f = plain_part g.Ix.Index.number_of in
    let items = c.args.items.now in
    let inside : c.loop-i.i < length (map f items) = rw (length-map items f) c.loop-i-test.true in
    let here : get_or (map f items) c.loop-i.i no_part ≡ f c.index-items-i.result = get_or-map f items c.loop-i.i c.index-items-i.result no_part c.loop-i-test.true ∙ ap f (sym c.index-items-i.is) in
    IsFilling-pushed (map f items) c.loop-i.i c.loop-i.counts c.count_up.new.counts c.loop-i.numbers.items c.push.new.self.items c.loop-i.places.items c.push-in-loop-i.new.self.items (f c.index-items-i.result) c.in_ok-number.number c.named_place.result inside
    here c.in_ok-number.ensures.number c.loop-i.invariant c.in_ok-number.ensures.counts c.named_place.ensures c.in_ok-push.ensures.items c.in_ok-push-2.ensures.items

pub returns-clause-lookup : goal.returns-clause-lookup
returns-clause-lookup g c =
    let f = plain_part g.Ix.Index.number_of in
    let items = c.args.items.now in
    let past : length (map f items) ≤ c.loop-i.i = rw (length-map items f) c.loop-i-test.false in
    let inside : c.loop-i.i ≤ length (map f items) = rw (length-map items f) c.loop-i.auto.i-end in
    IsFilling-end (map f items) c.loop-i.i c.loop-i.counts c.loop-i.places.items (record { numbers = c.loop-i.numbers; places = c.in_order-places.result }) past inside c.loop-i.invariant c.in_order-places.ensures.all c.in_order-places.ensures.order
