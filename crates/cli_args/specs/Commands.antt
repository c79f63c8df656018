-- The commands: what each may request, and a row for each with its word, what it takes, and how it makes a request of that.
use Rattle.std.specs.Prelude.{◌≡◌, ◌==◌, ℕ, Bool, true, false, List, [], ◌∷◌, Option, Some, None, codes, map, if◌then◌else◌, option_map, slice_get, unwrap_or}
use Rattle.std.specs.List.{concat, slice_split}
use Rattle.std.specs.Borrow.{Bor}
use Rattle.std.specs.Str.{bytes_eq}
use Rattle.report.specs.declared.styles.report_option.ReportStyle.{ReportStyle}
use Rattle.cli_args.specs.declared.commands.CommandName.{CommandName}
use Rattle.cli_args.specs.declared.commands.CommandName.TheVariants.{Check, Verify, Entries, Exports, Trial, Migrate, Compose, Layout, App}
use Rattle.cli_args.specs.declared.commands.CommandRow.{CommandRow}
use Rattle.cli_args.specs.declared.commands.Makings.{Makings}
use Rattle.cli_args.specs.declared.commands.Makings.TheVariants.{Words, Style, Count}
use Rattle.cli_args.specs.declared.commands.Request.{Request}
use Rattle.cli_args.specs.declared.commands.Request.TheVariants as code

-- a request, with the names of its inputs, the style of its report, the number of functions of its trial, and the tag of its
-- structure
pub data PlainRequest : Type 0 where
  check : (rules : Option (List ℕ)) (report : ReportStyle) (old new : List ℕ) → PlainRequest
  verify : (rules : Option (List ℕ)) (old new certificate : List ℕ) → PlainRequest
  entries : (library : List ℕ) → PlainRequest
  exports : (library : List ℕ) → PlainRequest
  trial : (count : ℕ) → PlainRequest
  migrate : (rules : Option (List ℕ)) (old new certificate : List ℕ) → PlainRequest
  compose : (first middle last certificate1 certificate2 : List ℕ) → PlainRequest
  layout : (library tag : List ℕ) → PlainRequest
  app : (rules : Option (List ℕ)) (report : ReportStyle) (program old new : List ℕ) → PlainRequest

-- a word of the code, without its address
abbrev pub plain_word : Option (Bor (List ℕ)) → Option (List ℕ)
plain_word = option_map (λ word. word.now)

-- a request of the code, as plain data without addresses
abbrev pub plain_request : Request → PlainRequest
plain_request (code.Check asked) = check (plain_word asked.rules) asked.report asked.old.now asked.new.now
plain_request (code.Verify asked) = verify (plain_word asked.rules) asked.old.now asked.new.now asked.certificate.now
plain_request (code.Entries library) = entries library.now
plain_request (code.Exports library) = exports library.now
plain_request (code.Trial count) = trial count
plain_request (code.Migrate asked) = migrate (plain_word asked.rules) asked.old.now asked.new.now asked.certificate.now
plain_request (code.Compose asked) = compose asked.first.now asked.middle.now asked.last.now asked.certificate1.now asked.certificate2.now
plain_request (code.Layout asked) = layout asked.library.now asked.tag.now
plain_request (code.App asked) = app (plain_word asked.rules) asked.report asked.program.now asked.old.now asked.new.now

-- How a command makes its request: of its arguments, and of the rule file if one is named; of a style as well, so that it takes
-- `--report`; or of its only argument, which is a number.
pub data Making : Type 0 where
  of_words : ((rules : Option (List ℕ)) (words : List (List ℕ)) → PlainRequest) → Making
  of_style : ((rules : Option (List ℕ)) (style : ReportStyle) (words : List (List ℕ)) → PlainRequest) → Making
  of_count : ((count : ℕ) → PlainRequest) → Making

-- What a command takes: its word, whether it takes `--rules`, and its arguments as the usage names them.
pub record Row : Type 0 where
  pub word : List ℕ
  pub takes_rules : Bool
  pub arguments : List (List ℕ)
  pub making : Making

-- the argument at a position
abbrev pub word_at : List (List ℕ) → ℕ → List ℕ
word_at words index = unwrap_or (slice_get words index) []

-- the row of a command
abbrev pub row_of : CommandName → Row
row_of Check = record {
  word = codes "check";
  takes_rules = true;
  arguments = codes "OLD" ∷ codes "NEW" ∷ [];
  making = of_style (λ rules style words. check rules style (word_at words 0) (word_at words 1));
}
row_of Verify = record {
  word = codes "verify";
  takes_rules = true;
  arguments = codes "OLD" ∷ codes "NEW" ∷ codes "CERT" ∷ [];
  making = of_words (λ rules words. verify rules (word_at words 0) (word_at words 1) (word_at words 2));
}
row_of Entries = record { word = codes "entries"; takes_rules = false; arguments = codes "LIB" ∷ []; making = of_words (λ rules words. entries (word_at words 0)) }
row_of Exports = record { word = codes "exports"; takes_rules = false; arguments = codes "LIB" ∷ []; making = of_words (λ rules words. exports (word_at words 0)) }
row_of Trial = record { word = codes "trial"; takes_rules = false; arguments = codes "N" ∷ []; making = of_count trial }
row_of Migrate = record {
  word = codes "migrate";
  takes_rules = true;
  arguments = codes "OLD" ∷ codes "NEW" ∷ codes "CERT" ∷ [];
  making = of_words (λ rules words. migrate rules (word_at words 0) (word_at words 1) (word_at words 2));
}
row_of Compose = record {
  word = codes "compose";
  takes_rules = false;
  arguments = codes "A" ∷ codes "B" ∷ codes "C" ∷ codes "CERT1" ∷ codes "CERT2" ∷ [];
  making = of_words (λ rules words. compose (word_at words 0) (word_at words 1) (word_at words 2) (word_at words 3) (word_at words 4));
}
row_of Layout = record {
  word = codes "layout";
  takes_rules = false;
  arguments = codes "LIB" ∷ codes "TAG" ∷ [];
  making = of_words (λ rules words. layout (word_at words 0) (word_at words 1));
}
row_of App = record {
  word = codes "app";
  takes_rules = true;
  arguments = codes "APP" ∷ codes "OLD" ∷ codes "NEW" ∷ [];
  making = of_style (λ rules style words. app rules style (word_at words 0) (word_at words 1) (word_at words 2));
}

-- all commands, in the order of the usage
abbrev pub all_commands : List CommandName
all_commands = Check ∷ Verify ∷ Entries ∷ Exports ∷ Trial ∷ Migrate ∷ App ∷ Compose ∷ Layout ∷ []

-- ---- what follows from the rows

-- what a request is made of, as the code has it
abbrev pub makings_of : Making → Makings
makings_of (of_words make) = Words
makings_of (of_style make) = Style
makings_of (of_count make) = Count

-- a row of the code says what the row of its command says, with the arguments as one text that has a space (32) between each two
pub record IsRow (row : CommandRow) : Type 0 where
  pub word : row.word.now ≡ (row_of row.name).word
  pub rules : row.takes_rules ≡ (row_of row.name).takes_rules
  pub makings : row.makings ≡ makings_of (row_of row.name).making
  pub arguments : slice_split (λ byte. byte == 32) row.arguments.now ≡ (row_of row.name).arguments

-- a command takes `--report`
abbrev pub takes_report : Makings → Bool
takes_report Words = false
takes_report Style = true
takes_report Count = false

abbrev pub named_among : List CommandName → List ℕ → Option CommandName
named_among [] word = None
named_among (name ∷ rest) word = if bytes_eq word (row_of name).word then Some name else named_among rest word

-- the command with this name
unfoldable pub command_named : List ℕ → Option CommandName
command_named word = named_among all_commands word

-- the usage of a command: abi COMMAND [--rules FILE] [--report STYLE] ARGUMENTS
abbrev pub usage_of : Row → List ℕ
usage_of row = concat (codes "abi " ∷ row.word ∷ (if row.takes_rules then codes " [--rules FILE]" else [])
    ∷ (if takes_report (makings_of row.making) then codes " [--report text|table|counts|first|own]" else []) ∷ map (λ argument. 32 ∷ argument) row.arguments)

-- the usage lines of these commands, the first one behind this word; every line ends with a line feed (10)
abbrev pub usage_lines : List CommandName → (head : List ℕ) → List ℕ
usage_lines [] head = []
usage_lines (name ∷ rest) head = concat (head ∷ usage_of (row_of name) ∷ (10 ∷ []) ∷ usage_lines rest (codes "       ") ∷ [])

-- the usage text
abbrev pub usage_text : List ℕ
usage_text = usage_lines all_commands (codes "usage: ")
