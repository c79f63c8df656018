-- All places are the same.
use Rattle.abi_types.specs.declared.place.Place.TheVariants as place
use Rattle.type_classes.proofs.SameLemmas.{same_all}
use Rattle.type_classes.proofs.same.same_params.Goals as goal

pub returns : goal.returns
returns c t = same_all place.Nothing c.args.one.now c.args.other.now c.loop-k.k c.loop-k-test.false c.if-one-other.false c.loop-k.invariant
