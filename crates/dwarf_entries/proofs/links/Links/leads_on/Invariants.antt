use Rattle.std.proofs.Common.{◌≡◌, ◌<◌, ◌-◌, length}
use Rattle.dwarf_entries.specs.Chains.{after_links}
use Rattle.dwarf_entries.proofs.links.Links.leads_on.Given as goal

abbrev pub invariant-chain : goal.invariant-chain
invariant-chain l = (l.at < length l.self.entries) × (after_links l.self l.at (l.links - l.followed) ≡ after_links l.self l.fn.e l.links)
