use Rattle.std.proofs.Common.{List, ◌++◌, ap, ◌∙◌}
use Rattle.std.proofs.Common.{ℕ, ◌+◌, length}
use Rattle.trial_libraries.specs.Bytes.{filled, string_table}
use Rattle.trial_libraries.specs.Libraries.{section_header}
use Rattle.trial_libraries.proofs.Placing.{Put, sections_are, table_is}
use Rattle.trial_libraries.proofs.file.lay_out.Goals as goal

-- what the calls put in the file
put : (c : goal.In_ok-put_section-5) → Put c.args.symbols.now c.args.names.now c.args.units.now c.new.result.items c.put_section.new.layout.sections.items c.put_section-2.new.layout.sections.items c.put_section-3.new.layout.sections.items c.put_section-4.new.layout.sections.items c.put_section-5.new.layout.sections.items
unfolding string_table
put c = record {
  first = c.new.ensures.items;
  symbols = c.in_ok-put_section.ensures.sections;
  names = c.in_ok-put_section-2.ensures.sections;
  abbreviated = c.in_ok-put_section-3.ensures.sections ∙ ap (λ (x : List ℕ). c.put_section-2.new.layout.sections.items ++ filled x) c.abbreviation_table.ensures;
  units = c.in_ok-put_section-4.ensures.sections;
  last = c.in_ok-put_section-5.ensures.sections;
}

pub returns-clause-sections : goal.returns-clause-sections
returns-clause-sections c = sections_are c.args.symbols.now c.args.names.now c.args.units.now (put c)

pub returns-clause-table : goal.returns-clause-table
unfolding string_table
returns-clause-table c = table_is c.args.symbols.now c.args.names.now c.args.units.now (put c) (record {
  first = c.in_ok-from_slice.ensures.items;
  symbols = c.in_ok-put_section.ensures.table;
  names = c.in_ok-put_section-2.ensures.table;
  abbreviated = c.in_ok-put_section-3.ensures.table ∙ ap (λ (x : List ℕ). c.put_section-2.new.layout.table.items ++ section_header 17 1 (64 + length c.put_section-2.new.layout.sections.items) (length x) 0 0 0) c.abbreviation_table.ensures;
  units = c.in_ok-put_section-4.ensures.table;
  last = c.in_ok-put_section-5.ensures.table;
})
