-- What is wrong with arguments that form no request, and which argument it is.
use Rattle.std.specs.Prelude.{◌==◌, ◌&&◌, ◌||◌, ℕ, Bool, true, not, List, [], ◌∷◌, length, Contains, IfSome, Option, Some, None, codes, count_by, find, if◌then◌else◌, is_none, is_some, nat_eq, nat_lt}
use Rattle.std.specs.List.{starts_with}
use Rattle.std.specs.Str.{bytes_eq}
use Rattle.clap.specs.Words.{Kinds, fault_of, matches_of}
use Rattle.clap.specs.declared.error.kind.ErrorKind.{ErrorKind}
use Rattle.clap.specs.declared.error.kind.ErrorKind.TheVariants as kind
use Rattle.cli_args.specs.Line.{PlainLine, line_app, line_in}
use Rattle.cli_args.specs.Commands.{Row, command_named, makings_of, row_of, word_at}
use Rattle.cli_args.specs.ParsedArguments.{needless_of, style_of}
use Rattle.cli_args.specs.Release.{is_version_alone}
use Rattle.cli_args.specs.Trials.{trial_count_of}
use Rattle.cli_args.specs.declared.commands.CommandName.{CommandName}
use Rattle.cli_args.specs.declared.commands.Makings.{Makings}
use Rattle.cli_args.specs.declared.commands.Makings.TheVariants.{Words, Style, Count}
use Rattle.cli_args.specs.declared.wrong.OptionName.{OptionName}
use Rattle.cli_args.specs.declared.wrong.WrongWords.{WrongWords}
use Rattle.cli_args.specs.declared.wrong.WrongWords.TheVariants as code

-- What is wrong, with the argument at fault. In a line that `clap` accepts: no command is given, or the command is unknown; the
-- command does not take an option, or takes a different number of arguments; the style is unknown; the number of a trial is not
-- valid. In arguments that `clap` refuses: the option is unknown, lacks its value, is given twice or takes no value; or the
-- arguments are wrong in another way.
pub data PlainWrong : Type 0 where
  missing_command : PlainWrong
  unknown_command : (word : List ℕ) → PlainWrong
  needless_option : (command : List ℕ) (option : OptionName) → PlainWrong
  wrong_count : (command : List ℕ) (wanted given : ℕ) → PlainWrong
  unknown_style : (word : List ℕ) → PlainWrong
  wrong_number : (word : List ℕ) → PlainWrong
  unknown_option : (word : List ℕ) → PlainWrong
  missing_value : (option : List ℕ) → PlainWrong
  repeated_option : (option : List ℕ) → PlainWrong
  needless_value : (option : List ℕ) → PlainWrong
  other_words : PlainWrong

-- the result of the code, as plain data without addresses
abbrev pub plain_wrong : WrongWords → PlainWrong
plain_wrong code.MissingCommand = missing_command
plain_wrong (code.UnknownCommand word) = unknown_command word.now
plain_wrong (code.NeedlessOption command option) = needless_option command.now option
plain_wrong (code.WrongCount command wanted given) = wrong_count command.now wanted given
plain_wrong (code.UnknownStyle word) = unknown_style word.now
plain_wrong (code.WrongNumber word) = wrong_number word.now
plain_wrong (code.UnknownOption word) = unknown_option word.now
plain_wrong (code.MissingValue option) = missing_value option.now
plain_wrong (code.RepeatedOption option) = repeated_option option.now
plain_wrong (code.NeedlessValue option) = needless_value option.now
plain_wrong code.OtherWords = other_words

-- ---- lines that `clap` accepts

-- the given style is unknown
abbrev pub wrong_style : (report : Option (List ℕ)) → Option PlainWrong
wrong_style None = None
wrong_style (Some word) = if is_none (style_of (Some word)) then Some (unknown_style word) else None

-- the single argument is not a valid number of a trial
abbrev pub wrong_trial : (words : List (List ℕ)) → Option PlainWrong
wrong_trial words = if is_none (trial_count_of (word_at words 0)) then Some (wrong_number (word_at words 0)) else None

-- what is wrong with the arguments of a command, if their number is right
abbrev pub wrong_value : Makings → (words : List (List ℕ)) (report : Option (List ℕ)) → Option PlainWrong
wrong_value Words words report = None
wrong_value Style words report = wrong_style report
wrong_value Count words report = wrong_trial words

-- what is wrong with the number of a command's arguments, or with one of them
abbrev pub wrong_count_of : Row → (command : List ℕ) (words : List (List ℕ)) (report : Option (List ℕ)) → Option PlainWrong
wrong_count_of row command words report =
    if length words == length row.arguments then wrong_value (makings_of row.making) words report else Some (wrong_count command (length row.arguments) (length words))

abbrev pub or_needless : (command : List ℕ) → Option OptionName → Option PlainWrong → Option PlainWrong
or_needless command (Some option) next = Some (needless_option command option)
or_needless command None next = next

-- what is wrong with a command, its options and its arguments
abbrev pub wrong_of : Row → (command : List ℕ) (words : List (List ℕ)) (rules report : Option (List ℕ)) → Option PlainWrong
wrong_of row command words rules report =
    or_needless command (needless_of row (is_some rules) (is_some report)) (wrong_count_of row command words report)

abbrev pub wrong_named : (command : List ℕ) → Option CommandName → (words : List (List ℕ)) (rules report : Option (List ℕ)) → Option PlainWrong
wrong_named command None words rules report = Some (unknown_command command)
wrong_named command (Some name) words rules report = wrong_of (row_of name) command words rules report

abbrev pub wrong_with : Option (List ℕ) → (words : List (List ℕ)) (rules report : Option (List ℕ)) → Option PlainWrong
wrong_with None words rules report = Some missing_command
wrong_with (Some command) words rules report = wrong_named command (command_named command) words rules report

-- what is wrong with a line that `clap` accepts
abbrev pub wrong_on : PlainLine → Option PlainWrong
wrong_on line = wrong_with line.command line.files line.rules line.report

-- ---- arguments that `clap` refuses

-- the word is `--rules`, alone or with a value
abbrev pub is_rules_word : List ℕ → Bool
is_rules_word word = bytes_eq word (codes "--rules") || starts_with nat_eq word (codes "--rules=")

-- the word is `--report`, alone or with a value
abbrev pub is_report_word : List ℕ → Bool
is_report_word word = bytes_eq word (codes "--report") || starts_with nat_eq word (codes "--report=")

-- the word is `--help` with a value
abbrev pub is_help_with_value : List ℕ → Bool
is_help_with_value word = starts_with nat_eq word (codes "--help=")

-- the word begins with `-`, and is longer
abbrev pub is_like_option : List ℕ → Bool
is_like_option word = starts_with nat_eq word (codes "-") && not (bytes_eq word (codes "-"))

-- the word looks like an option, but is neither one of the two options nor `--`
abbrev pub is_unknown_option : List ℕ → Bool
is_unknown_option word = is_like_option word && not (bytes_eq word (codes "--") || (is_rules_word word || is_report_word word))

-- the word is one of the two options, without a value
abbrev pub is_bare_option : List ℕ → Bool
is_bare_option word = bytes_eq word (codes "--rules") || bytes_eq word (codes "--report")

-- the first of these words is not a value
abbrev pub lacks_value : List (List ℕ) → Bool
lacks_value [] = true
lacks_value (word ∷ rest) = is_like_option word

-- the word is an option without a value, and the next word is not a value
abbrev pub is_without_value : List ℕ → (rest : List (List ℕ)) → Bool
is_without_value word rest = is_bare_option word && lacks_value rest

-- the first option that lacks its value
unfoldable pub without_value : List (List ℕ) → Option (List ℕ)
without_value [] = None
without_value (word ∷ rest) = if is_without_value word rest then Some word else without_value rest

-- the word is one of the two options, and the option is given more than once
abbrev pub is_repeated : List (List ℕ) → List ℕ → Bool
is_repeated words word = is_rules_word word && nat_lt 1 (count_by is_rules_word words)
    || is_report_word word && nat_lt 1 (count_by is_report_word words)

abbrev pub or_other : (List ℕ → PlainWrong) → Option (List ℕ) → PlainWrong
or_other named None = other_words
or_other named (Some word) = named word

-- What is wrong with arguments that `clap` refuses for this cause. If an argument looks like what `clap` refuses, it is named.
abbrev pub refused_by : ErrorKind → List (List ℕ) → PlainWrong
refused_by kind.MissingRequiredArgument words = missing_command
refused_by kind.UnknownArgument words = or_other unknown_option (find is_unknown_option words)
refused_by kind.InvalidValue words = or_other missing_value (without_value words)
refused_by kind.ArgumentConflict words = or_other repeated_option (find (is_repeated words) words)
refused_by kind.TooManyValues words = or_other needless_value (find is_help_with_value words)
refused_by kind.InvalidSubcommand words = other_words
refused_by kind.NoEquals words = other_words
refused_by kind.ValueValidation words = other_words
refused_by kind.TooFewValues words = other_words
refused_by kind.WrongNumberOfValues words = other_words
refused_by kind.MissingSubcommand words = other_words
refused_by kind.DisplayHelp words = other_words
refused_by kind.DisplayHelpOnMissingArgumentOrSubcommand words = other_words
refused_by kind.DisplayVersion words = other_words
refused_by kind.Io words = other_words
refused_by kind.Format words = other_words
refused_by kind.OutOfMemory words = other_words

-- ---- all arguments

-- what is wrong with arguments in which `clap` finds faults of these kinds, or, if it finds none, this line
abbrev pub wrong_by : Kinds → PlainLine → List (List ℕ) → Option PlainWrong
wrong_by [] line words = wrong_on line
wrong_by (kind.DisplayHelp ∷ rest) line words = None
wrong_by (cause ∷ rest) line words = Some (refused_by cause words)

-- What is wrong with the arguments, if they form no request. Nothing is wrong with `--version` alone.
unfoldable pub wrong_in : List (List ℕ) → Option PlainWrong
wrong_in words = if is_version_alone words then None else wrong_by (fault_of line_app words) (line_in (matches_of line_app words)) words

-- ---- properties

-- the argument that is named, of arguments that `clap` refuses
abbrev pub refused_word : PlainWrong → Option (List ℕ)
refused_word (unknown_option word) = Some word
refused_word (missing_value option) = Some option
refused_word (repeated_option option) = Some option
refused_word (needless_value option) = Some option
refused_word missing_command = None
refused_word (unknown_command word) = None
refused_word (needless_option command option) = None
refused_word (wrong_count command wanted given) = None
refused_word (unknown_style word) = None
refused_word (wrong_number word) = None
refused_word other_words = None

-- if `clap` refuses the arguments and one is named, it is one of them
abbrev pub NamesOne : List (List ℕ) → Option PlainWrong → Type 0
NamesOne words None = Unit {0}
NamesOne words (Some wrong) = IfSome (refused_word wrong) (Contains words)
