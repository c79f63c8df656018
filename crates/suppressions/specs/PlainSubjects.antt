-- The subjects of the code as plain data, without addresses.
use Rattle.std.specs.Option.{option_copied}
use Rattle.suppressions.specs.declared.subject.Subject.{Subject}
use Rattle.suppressions.specs.Subjects.{PlainSubject}

abbrev pub plain_subject : Subject → PlainSubject
plain_subject s = record {
  kind = s.kind;
  name = s.name.now;
  symbol = option_copied s.symbol;
  version = option_copied s.version;
  soname = option_copied s.soname;
  type_kind = option_copied s.type_kind;
  way = option_copied s.way;
}
