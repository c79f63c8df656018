use Rattle.abi_base.proofs.lemmas.Leb.{uleb_of_one_byte}
use Rattle.dwarf_forms.proofs.abbreviations.reading.short_number.Goals as goal

pub returns-in-Some-clause-found : goal.returns-in-Some-clause-found
returns-in-Some-clause-found c = uleb_of_one_byte c.args.bytes.now c.args.at c.in-Some.byte.now c.in-Some.ensures.lookup.3.0 (c.in-Some.ensures.lookup.3.1 0) c.if-byte-lt-MORE.true
