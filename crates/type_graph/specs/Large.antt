-- Whether a type is too large, by its facts.
use Rattle.std.specs.Prelude.{◌||◌, Bool, nat_lt}
use Rattle.abi_base.specs.Limits.{weight_limit}
use Rattle.abi_types.specs.Limits.{size_limit, align_limit, room_limit}
use Rattle.type_reach.specs.declared.facts.Facts.{Facts}

abbrev pub are_too_large : Facts → Bool
are_too_large x =
    nat_lt size_limit x.size
    || (nat_lt size_limit x.count
    || (nat_lt weight_limit x.weight || (nat_lt align_limit x.align || (nat_lt room_limit x.rooms || x.beyond))))
