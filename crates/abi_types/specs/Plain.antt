-- Exports and labels of the code, without the addresses of their names in memory.
use Rattle.std.specs.Prelude.{List, map}
use Rattle.std.specs.Option.{option_copied}
use Rattle.abi_types.specs.declared.export.Export.{Export}
use Rattle.abi_types.specs.declared.view.Label.{Label}
use Rattle.abi_types.specs.Exports.{PlainExport}
use Rattle.abi_types.specs.Types.{PlainLabel}

abbrev pub plain_export : Export → PlainExport
plain_export e = record {
  symbol = e.symbol;
  name = e.name.now;
  version = option_copied e.version;
  index = e.index;
  hidden = e.hidden;
  kind = e.kind;
  absolute = e.absolute;
  value = e.value;
  size = e.size;
  declared = e.declared.now;
  entry = e.entry;
}

abbrev pub plain_exports : List Export → List PlainExport
plain_exports exports = map plain_export exports

abbrev pub plain_label : Label → PlainLabel
plain_label label = record { kind = label.kind; name = label.name.now }
