use Rattle.std.proofs.Common.{◌≡◌, map, take}
use Rattle.commands.specs.Commands.{plain_place}
use Rattle.commands.specs.Read.{roles_of}
use Rattle.commands.proofs.read.roles_in.Given as goal

abbrev pub invariant-loop-place : goal.invariant-loop-place
invariant-loop-place l = l.roles.items ≡ roles_of (map plain_place (take l.place-index l.places))
