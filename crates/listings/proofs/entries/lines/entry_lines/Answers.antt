use Rattle.std.proofs.Common.{◌≡◌, List, ℕ, OnOk, rules, subst}
use Rattle.elf.specs.sections.DebugSections.{debug_abbrev, debug_info}
use Rattle.dwarf_units.specs.Limits.{HaveFewAttributes}
use Rattle.listings.proofs.entries.lines.entry_lines.Goals as goal

pub returns-clause-within : goal.returns-clause-within
returns-clause-within c =
    let sections = c.debug_sections-sections.result in
    let info : sections.info.now ≡ debug_info c.args.library.now = search rules in
    let abbrevs : sections.abbrev.now ≡ debug_abbrev c.args.library.now = search rules in
    let one = subst (λ (i : List ℕ). OnOk c.lines_of.result (HaveFewAttributes i sections.abbrev.now)) info c.lines_of.ensures.within in
    subst (λ (a : List ℕ). OnOk c.lines_of.result (HaveFewAttributes (debug_info c.args.library.now) a)) abbrevs one
