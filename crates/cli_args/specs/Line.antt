-- The command line, and how `clap` parses it: the kind of error with which it refuses the arguments, or the values of COMMAND,
-- FILES and the two options.
use Rattle.std.specs.Prelude.{◌≡◌, ◌≢◌, ℕ, List, [], ◌∷◌, ◌++◌, Some, None, Ok, Err, Option, Result, codes, true, unwrap_or}
use Rattle.clap.specs.Words.{App, Rule, Row, new_app, new_rule, with_rule, fault_of, matches_of, first_of, all_of, rows_of, found_of}
use Rattle.clap.specs.Lexer.{usize_max}
use Rattle.clap.specs.declared.error.kind.ErrorKind.{ErrorKind}
use Rattle.clap.specs.declared.error.kind.ErrorKind.TheVariants.{DisplayHelp, OutOfMemory}
use Rattle.clap.specs.declared.builder.action.ArgAction.TheVariants.{Set, Append}
use Rattle.clap.specs.declared.parser.matches.ArgMatches.{ArgMatches}
use Rattle.cli_args.specs.declared.line.Refused.{Refused}
use Rattle.cli_args.specs.declared.line.Refused.TheVariants.{Help, Wrong, NoMemory}

-- an option with a value
abbrev pub valued_rule : List ℕ → Rule
valued_rule name = record (new_rule name) { long = Some name; action = Some Set }

-- the command, which is required
abbrev pub command_rule : Rule
command_rule = record (new_rule (codes "command")) { required = true; action = Some Set }

-- any number of files
abbrev pub files_rule : Rule
files_rule = record (new_rule (codes "files")) { action = Some Append; range = Some (record { start_inclusive = 0; end_inclusive = usize_max }) }

-- the line: `abi [--rules FILE] [--report STYLE] COMMAND FILES..`, where options may stand anywhere
abbrev pub line_app : App
line_app = with_rule (with_rule (with_rule (with_rule (record (new_app (codes "abi")) {
  top = record (new_app (codes "abi")).top { no_binary_name = true };
}) (valued_rule (codes "rules"))) (valued_rule (codes "report"))) command_rule) files_rule

-- the result of `clap`: matches, its help, or a refusal for any other cause
abbrev pub Answers : List (List ℕ) → Result ArgMatches Refused → Type 0
Answers words (Ok m) = (fault_of line_app words ≡ []) × (rows_of (found_of m) ≡ matches_of line_app words)
Answers words (Err Help) = fault_of line_app words ≡ DisplayHelp ∷ []
Answers words (Err Wrong) = (kind : ErrorKind) × (kind ≢ DisplayHelp) × (fault_of line_app words ≡ kind ∷ [])
Answers words (Err NoMemory) = Unit {0}

-- what `clap` finds in the words, where a refusal is the kind of its error; if memory runs out, nothing is known
abbrev pub Finds : List (List ℕ) → Result ArgMatches ErrorKind → Type 0
Finds words (Ok m) = (fault_of line_app words ≡ []) × (rows_of (found_of m) ≡ matches_of line_app words)
Finds words (Err kind) = kind ≢ OutOfMemory → fault_of line_app words ≡ kind ∷ []

-- the values in a line that `clap` accepts
pub record PlainLine : Type 0 where
  pub command : Option (List ℕ)
  pub files : List (List ℕ)
  pub rules : Option (List ℕ)
  pub report : Option (List ℕ)

-- the values that `clap` found
abbrev pub line_in : List Row → PlainLine
line_in rows = record {
  command = first_of (codes "command") rows;
  files = unwrap_or (all_of (codes "files") rows) [];
  rules = first_of (codes "rules") rows;
  report = first_of (codes "report") rows;
}

-- an option with its value, if it is given
abbrev pub option_words : List ℕ → Option (List ℕ) → List (List ℕ)
option_words name None = []
option_words name (Some given) = name ∷ given ∷ []

-- the words of a line in the order of the usage: COMMAND [--rules FILE] [--report STYLE] FILES..
abbrev pub words_of : (command : List ℕ) (rules report : Option (List ℕ)) (files : List (List ℕ)) → List (List ℕ)
words_of command rules report files = command ∷ (option_words (codes "--rules") rules ++ (option_words (codes "--report") report ++ files))
