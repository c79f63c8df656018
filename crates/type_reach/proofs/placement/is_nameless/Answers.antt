use Rattle.std.proofs.Common.{not, ap, sym, ◌∙◌}
use Rattle.type_reach.proofs.NameLemmas.{member-is-read, without-name}
use Rattle.type_reach.proofs.placement.is_nameless.Goals as goal

pub returns-then-tag-eq-DW_TAG_member : goal.returns-then-tag-eq-DW_TAG_member
returns-then-tag-eq-DW_TAG_member c =
    let d = c.args.dwarf.now in
    let m = c.args.m in
    let read = member-is-read _ (sym c.tag.ensures ∙ c.if-tag-eq-DW_TAG_member.true) in
    ap not c.is_there.ensures ∙ without-name d m (c.types_and_names_are_there.ensures.names d m c.known.ensures.entries c.requires read)
