use Rattle.std.proofs.Common.{◌≡◌, ◌<◌, ◌-◌, length}
use Rattle.dwarf_entries.proofs.ChainLemmas.{rest_of, last_or}
use Rattle.dwarf_entries.proofs.links.Links.origin.Given as goal

abbrev pub invariant-chain : goal.invariant-chain
invariant-chain l = (l.at < length l.self.entries) × (last_or (rest_of l.self (9 - l.followed) l.at) l.fn.e ≡ last_or (rest_of l.self 9 l.fn.e) l.fn.e)
