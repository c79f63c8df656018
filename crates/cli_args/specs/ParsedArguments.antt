-- The meaning of the arguments of a command line.
use Rattle.std.specs.Prelude.{◌==◌, ◌&&◌, ◌||◌, ℕ, Bool, not, List, [], ◌∷◌, length, Option, Some, None, codes, if◌then◌else◌, is_some, option_map, option_and_then}
use Rattle.std.specs.Str.{bytes_eq}
use Rattle.clap.specs.Words.{Kinds, Row as Found, fault_of, matches_of}
use Rattle.clap.specs.declared.error.kind.ErrorKind.TheVariants.{DisplayHelp}
use Rattle.report.specs.declared.styles.report_option.ReportStyle.{ReportStyle}
use Rattle.report.specs.declared.styles.report_option.ReportStyle.TheVariants.{Text, Table, Counts, First, Own}
use Rattle.cli_args.specs.Commands.{Making, PlainRequest, Row, command_named, makings_of, of_count, of_style, of_words, row_of, takes_report, word_at}
use Rattle.cli_args.specs.Line.{PlainLine, line_app, line_in}
use Rattle.cli_args.specs.Release.{is_version_alone}
use Rattle.cli_args.specs.Trials.{trial_count_of}
use Rattle.cli_args.specs.declared.wrong.OptionName.{OptionName}
use Rattle.cli_args.specs.declared.wrong.OptionName.TheVariants.{Rules, Report}

-- the meaning of the arguments: a request, the help, the version, or an error, which is answered with the usage
pub data PlainArguments : Type 0 where
  request : PlainRequest → PlainArguments
  help : PlainArguments
  version : PlainArguments
  usage : PlainArguments

-- the style with this name
unfoldable pub report_style_named : List ℕ → Option ReportStyle
report_style_named word = if bytes_eq word (codes "text") then Some Text
    else (if bytes_eq word (codes "table") then Some Table
    else (if bytes_eq word (codes "counts") then Some Counts
    else (if bytes_eq word (codes "first") then Some First
    else (if bytes_eq word (codes "own") then Some Own else None))))

-- the style that is given, or `text` if none is
abbrev pub style_of : Option (List ℕ) → Option ReportStyle
style_of None = Some Text
style_of (Some word) = report_style_named word

-- the given option that a command does not take
abbrev pub needless_of : Row → (has_rules has_report : Bool) → Option OptionName
needless_of row has_rules has_report =
    if has_report && not (takes_report (makings_of row.making)) then Some Report
    else (if has_rules && not row.takes_rules then Some Rules else None)

-- the request that is made of the rule file, the style and the arguments, if the style and the number are valid
abbrev pub made_of : Making → (rules : Option (List ℕ)) (style : Option ReportStyle) (words : List (List ℕ)) → Option PlainRequest
made_of (of_words make) rules style words = Some (make rules words)
made_of (of_style make) rules style words = option_map (λ s. make rules s words) style
made_of (of_count make) rules style words = option_map make (trial_count_of (word_at words 0))

-- The request of a command with these arguments and options: it takes all options that are given, and this many arguments.
abbrev pub request_of : Row → (words : List (List ℕ)) (rules report : Option (List ℕ)) → Option PlainRequest
request_of row words rules report =
    if is_some (needless_of row (is_some rules) (is_some report)) || not (length words == length row.arguments) then None
    else made_of row.making rules (style_of report) words

-- the request of a line that `clap` accepts
abbrev pub request_on : PlainLine → Option PlainRequest
request_on line = option_and_then (λ name. request_of (row_of name) line.files line.rules line.report) (option_and_then command_named line.command)

abbrev pub request_or_usage : Option PlainRequest → PlainArguments
request_or_usage (Some asked) = request asked
request_or_usage None = usage

-- the meaning of arguments in which `clap` finds faults of these kinds, or, if it finds none, these rows
abbrev pub judged_by : Kinds → List Found → PlainArguments
judged_by [] rows = request_or_usage (request_on (line_in rows))
judged_by (DisplayHelp ∷ rest) rows = help
judged_by (kind ∷ rest) rows = usage

-- The meaning of the arguments. It is the version exactly if they are `--version` alone. It is the help exactly if `clap` answers them
-- with its help. It is the usage exactly if `clap` refuses other arguments for another cause, or if it accepts them but the command,
-- the number of files, an option, the style or the number is not valid.
unfoldable pub arguments_by : List (List ℕ) → PlainArguments
arguments_by words = if is_version_alone words then version else judged_by (fault_of line_app words) (matches_of line_app words)
