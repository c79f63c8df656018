-- A line of the code, without the addresses of its names.
use Rattle.suppression_text.specs.declared.line.Line.{Line}
use Rattle.suppression_text.specs.declared.line.Line.TheVariants as code
use Rattle.suppression_text.specs.Lines.{Form, Comment, Head, Property, Other}

abbrev pub plain_line : Line → Form
plain_line code.Comment = Comment
plain_line (code.Head name) = Head name.now
plain_line (code.Property name value) = Property name.now value.now
plain_line code.Other = Other
