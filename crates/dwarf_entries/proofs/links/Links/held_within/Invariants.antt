use Rattle.std.proofs.Common.{◌≡◌, ◌<◌, ◌-◌, length}
use Rattle.std.specs.Prelude.{is_some, find}
use Rattle.dwarf_tree.specs.Trees.{own_of}
use Rattle.dwarf_entries.proofs.ChainLemmas.{rest_of}
use Rattle.dwarf_entries.proofs.links.Links.held_within.Given as goal

abbrev pub invariant-chain : goal.invariant-chain
invariant-chain l =
    (l.at < length l.self.entries)
    × (find (λ f. is_some (own_of l.self f l.name)) (rest_of l.self (l.entries - l.followed) l.at) ≡ find (λ f. is_some (own_of l.self f l.name)) (rest_of l.self l.entries l.fn.e))
