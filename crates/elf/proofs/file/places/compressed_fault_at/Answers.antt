use Rattle.std.proofs.Common.{sym, ◌∙◌}
use Rattle.elf.proofs.file_lemmas.NameLemmas.{plain_fault}
use Rattle.elf.proofs.file.places.compressed_fault_at.Goals as goal

pub returns-then-not-is_compressed : goal.returns-then-not-is_compressed
returns-then-not-is_compressed c =
    plain_fault c.args.bytes.now c.args.names.now c.names_from.result.now c.args.number c.section_in-header.result c.args.sections c.requires.table c.requires.names c.section_in-header.ensures
    c.names_from.ensures (sym c.is_compressed.ensures ∙ c.if-not-is_compressed.true)
