-- The letters of a new version go last.
use Rattle.std.proofs.Common.{List, ℕ, map, subst, sym}
use Rattle.side_notes.specs.VersionNames.{AreNamed}
use Rattle.side_notes.proofs.NameLemmas.{AreNamed-more, bytes_at, pushed}
use Rattle.side_notes.proofs.version_list.VersionList.add.Goals as goal

pub invariant_of-self-in-Continue-branch-3 : goal.invariant_of-self-in-Continue-branch-3
invariant_of-self-in-Continue-branch-3 c =
    let names : List (List ℕ) = map bytes_at c.self.inside.list.items in
    let P : List (List ℕ) → Type 0 = λ ns. AreNamed c.insert.new.self ns in
    subst P (sym (pushed c.self.inside.list.items c.reserve.new.self.items c.push.new.self.items c.args.version c.in_ok-reserve.ensures.items c.in_ok-push.ensures.items))
    (AreNamed-more c.self.inside.known c.insert.new.self names c.args.version.now c.self.invariant c.in_ok-insert.ensures.updates.0)
