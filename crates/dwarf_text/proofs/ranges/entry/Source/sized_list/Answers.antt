use Rattle.dwarf_text.proofs.ranges_lemmas.ByteLemmas.{list_size, list_none, list_fault}
use Rattle.dwarf_text.proofs.ranges.entry.Source.sized_list.Goals as goal

pub returns-in-Ok-clause-size : goal.returns-in-Ok-clause-size
returns-in-Ok-clause-size c = list_size c.args.self.now.addr.now c.args.self.now.addr_base c.args.self.now.entry c.args.self.now.bytes.now c.args.at c.in-Ok.entry c.in-Ok.ensures.read

pub returns-in-Ok-clause-none : goal.returns-in-Ok-clause-none
returns-in-Ok-clause-none c = list_none c.args.self.now.addr.now c.args.self.now.addr_base c.args.self.now.entry c.args.self.now.bytes.now c.args.at c.in-Ok.entry c.in-Ok.ensures.read

pub returns-in-Err-clause-none : goal.returns-in-Err-clause-none
returns-in-Err-clause-none c = list_fault c.args.self.now.addr.now c.args.self.now.addr_base c.args.self.now.entry c.args.self.now.bytes.now c.args.at c.in-Err.field-0 c.in-Err.ensures.read
