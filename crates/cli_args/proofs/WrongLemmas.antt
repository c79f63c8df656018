-- Something is wrong with words exactly where they ask for nothing.
use Rattle.std.proofs.Common.{◌≡◌, ◌≢◌, ◌∙◌, ℕ, Bool, true, false, List, [], ◌∷◌, length, Ok, Option, Some, None, option_map, ap, sym, refl, true≢false}
use Rattle.std.specs.Prelude.{◌==◌, ◌||◌, ◌↔◌, IsSome, if◌then◌else◌, is_none, is_some, not, option_and_then}
use Rattle.clap.specs.Words.{Kinds, Row as Found, fault_of, found_of, matches_of, rows_of}
use Rattle.clap.specs.declared.error.kind.ErrorKind.{ErrorKind}
use Rattle.clap.specs.declared.parser.matches.ArgMatches.{ArgMatches}
use Rattle.clap.specs.declared.error.kind.ErrorKind.TheVariants as kind
use Rattle.report.specs.declared.styles.report_option.ReportStyle.{ReportStyle}
use Rattle.cli_args.specs.Line.{Finds, PlainLine, line_app, line_in}
use Rattle.cli_args.specs.Release.{is_version_alone}
use Rattle.cli_args.specs.Trials.{trial_count_of}
use Rattle.cli_args.specs.Commands.{Making, PlainRequest, Row, command_named, makings_of, of_count, of_style, of_words, row_of, word_at}
use Rattle.cli_args.specs.ParsedArguments.{PlainArguments, arguments_by, judged_by, made_of, needless_of, request_of, request_on, request_or_usage, style_of, usage, version}
use Rattle.cli_args.specs.WrongWords.{PlainWrong, or_needless, plain_wrong, refused_by, unknown_style, wrong_by, wrong_count, wrong_count_of, wrong_in, wrong_named, wrong_number, wrong_of, wrong_on, wrong_value, wrong_with}
use Rattle.cli_args.specs.declared.commands.CommandName.{CommandName}
use Rattle.cli_args.specs.declared.wrong.OptionName.{OptionName}
use Rattle.cli_args.specs.declared.wrong.WrongWords.{WrongWords}

-- something is wrong, or a request is asked for
abbrev Apart : Option PlainWrong → Option PlainRequest → Type 0
Apart None None = ⊥
Apart None (Some asked) = Unit {0}
Apart (Some wrong) None = Unit {0}
Apart (Some wrong) (Some asked) = ⊥

-- a style that is none is wrong
styled : (word : List ℕ) (f : ReportStyle → PlainRequest) (style : Option ReportStyle) →
    Apart (if is_none style then Some (unknown_style word) else None) (option_map f style)
styled word f None = tt
styled word f (Some style) = tt

-- a number that is none is wrong
numbered : (word : List ℕ) (f : ℕ → PlainRequest) (count : Option ℕ) → Apart (if is_none count then Some (wrong_number word) else None) (option_map f count)
numbered word f None = tt
numbered word f (Some n) = tt

-- ---- one command

valued : (making : Making) (rules : Option (List ℕ)) (words : List (List ℕ)) (report : Option (List ℕ)) →
    Apart (wrong_value (makings_of making) words report) (made_of making rules (style_of report) words)
valued (of_words make) rules words report = tt
valued (of_style make) rules words None = tt
valued (of_style make) rules words (Some word) = styled word (λ style. make rules style words) (style_of (Some word))
valued (of_count make) rules words report = numbered (word_at words 0) make (trial_count_of (word_at words 0))

counted : (right : Bool) (wrong : PlainWrong) (value : Option PlainWrong) (asked : Option PlainRequest) → Apart value asked →
    Apart (if right then value else Some wrong) (if not right then None else asked)
counted true wrong value asked apart = apart
counted false wrong value asked apart = tt

optioned : (command : List ℕ) (needless : Option OptionName) (right : Bool) (next : Option PlainWrong) (asked : Option PlainRequest) →
    Apart next (if not right then None else asked) → Apart (or_needless command needless next) (if is_some needless || not right then None else asked)
optioned command None right next asked apart = apart
optioned command (Some option) right next asked apart = tt

row_apart : (row : Row) (command : List ℕ) (words : List (List ℕ)) (rules report : Option (List ℕ)) → Apart (wrong_of row command words rules report) (request_of row words rules report)
row_apart row command words rules report =
    let right = length words == length row.arguments in
    let value = wrong_value (makings_of row.making) words report in
    let asked = made_of row.making rules (style_of report) words in
    optioned command (needless_of row (is_some rules) (is_some report)) right (wrong_count_of row command words report) asked
    (counted right (wrong_count command (length row.arguments) (length words)) value asked (valued row.making rules words report))

-- ---- lines

named_apart : (command : List ℕ) (found : Option CommandName) (files : List (List ℕ)) (rules report : Option (List ℕ)) →
    Apart (wrong_named command found files rules report) (option_and_then (λ name. request_of (row_of name) files rules report) found)
named_apart command None files rules report = tt
named_apart command (Some name) files rules report = row_apart (row_of name) command files rules report

with_apart : (command : Option (List ℕ)) (files : List (List ℕ)) (rules report : Option (List ℕ)) →
    Apart (wrong_with command files rules report) (option_and_then (λ name. request_of (row_of name) files rules report) (option_and_then command_named command))
with_apart None files rules report = tt
with_apart (Some command) files rules report = named_apart command (command_named command) files rules report

-- ---- all words

-- nothing is wrong with `--version` alone
abbrev pub wrong_if : Bool → Kinds → List (List ℕ) → Option PlainWrong
wrong_if is_alone kinds words = if is_alone then None else wrong_by kinds (line_in (matches_of line_app words)) words

-- something is wrong where the words ask for nothing, and nothing where they ask for something
abbrev pub Fits : Option PlainWrong → PlainArguments → Type 0
Fits None asked = asked ≢ usage
Fits (Some wrong) asked = asked ≡ usage

line_fits : (wrong : Option PlainWrong) (asked : Option PlainRequest) → Apart wrong asked → Fits wrong (request_or_usage asked)
line_fits None None apart = absurd apart
line_fits None (Some asked) apart = λ e. absurd cc
line_fits (Some wrong) None apart = refl
line_fits (Some wrong) (Some asked) apart = absurd apart

by_fits : (kinds : Kinds) (words : List (List ℕ)) → Fits (wrong_by kinds (line_in (matches_of line_app words)) words) (judged_by kinds (matches_of line_app words))
by_fits [] words =
    let line = line_in (matches_of line_app words) in
    line_fits (wrong_on line) (request_on line) (with_apart line.command line.files line.rules line.report)
by_fits (kind.DisplayHelp ∷ rest) words = λ e. absurd cc
by_fits (kind.InvalidValue ∷ rest) words = refl
by_fits (kind.UnknownArgument ∷ rest) words = refl
by_fits (kind.InvalidSubcommand ∷ rest) words = refl
by_fits (kind.NoEquals ∷ rest) words = refl
by_fits (kind.ValueValidation ∷ rest) words = refl
by_fits (kind.TooManyValues ∷ rest) words = refl
by_fits (kind.TooFewValues ∷ rest) words = refl
by_fits (kind.WrongNumberOfValues ∷ rest) words = refl
by_fits (kind.ArgumentConflict ∷ rest) words = refl
by_fits (kind.MissingRequiredArgument ∷ rest) words = refl
by_fits (kind.MissingSubcommand ∷ rest) words = refl
by_fits (kind.DisplayHelpOnMissingArgumentOrSubcommand ∷ rest) words = refl
by_fits (kind.DisplayVersion ∷ rest) words = refl
by_fits (kind.Io ∷ rest) words = refl
by_fits (kind.Format ∷ rest) words = refl
by_fits (kind.OutOfMemory ∷ rest) words = refl

pub words_fit : (words : List (List ℕ)) → Fits (wrong_in words) (arguments_by words)
unfolding wrong_in arguments_by
words_fit words = go (is_version_alone words)
  where
    go : (b : Bool) → Fits (wrong_if b (fault_of line_app words) words) (if b then version else judged_by (fault_of line_app words) (matches_of line_app words))
    go true = λ e. absurd cc
    go false = by_fits (fault_of line_app words) words

pub exact_of : (found : Option WrongWords) (asked : PlainArguments) → Fits (option_map plain_wrong found) asked → (IsSome found ↔ (asked ≡ usage))
exact_of None asked other = (λ e. absurd (true≢false (sym e)), λ e. absurd (other e))
exact_of (Some wrong) asked is = (λ e. is, λ e. refl)

-- ---- what is wrong, by what `clap` answers

pub wrong_version : (words : List (List ℕ)) → is_version_alone words ≡ true → None ≡ wrong_in words
unfolding wrong_in
wrong_version words alone = ap (λ (b : Bool). wrong_if b (fault_of line_app words) words) (sym alone)

of_kinds : (words : List (List ℕ)) (kinds : Kinds) → is_version_alone words ≡ false → fault_of line_app words ≡ kinds → wrong_by kinds (line_in (matches_of line_app words)) words ≡ wrong_in words
unfolding wrong_in
of_kinds words kinds other e =
    ap (λ (k : Kinds). wrong_by k (line_in (matches_of line_app words)) words) (sym e) ∙ ap (λ (b : Bool). wrong_if b (fault_of line_app words) words) (sym other)

pub wrong_taken : (words : List (List ℕ)) (m : ArgMatches) → is_version_alone words ≡ false → Finds words (Ok m) → wrong_on (line_in (rows_of (found_of m))) ≡ wrong_in words
wrong_taken words m other a = ap (λ (rows : List Found). wrong_on (line_in rows)) a.1 ∙ of_kinds words [] other a.0

pub wrong_helped : (words : List (List ℕ)) → is_version_alone words ≡ false → fault_of line_app words ≡ kind.DisplayHelp ∷ [] → None ≡ wrong_in words
wrong_helped words other e = of_kinds words (kind.DisplayHelp ∷ []) other e

of_kind : (k : ErrorKind) (line : PlainLine) (words : List (List ℕ)) → k ≢ kind.DisplayHelp → Some (refused_by k words) ≡ wrong_by (k ∷ []) line words
of_kind kind.DisplayHelp line words other = absurd (other refl)
of_kind kind.InvalidValue line words other = refl
of_kind kind.UnknownArgument line words other = refl
of_kind kind.InvalidSubcommand line words other = refl
of_kind kind.NoEquals line words other = refl
of_kind kind.ValueValidation line words other = refl
of_kind kind.TooManyValues line words other = refl
of_kind kind.TooFewValues line words other = refl
of_kind kind.WrongNumberOfValues line words other = refl
of_kind kind.ArgumentConflict line words other = refl
of_kind kind.MissingRequiredArgument line words other = refl
of_kind kind.MissingSubcommand line words other = refl
of_kind kind.DisplayHelpOnMissingArgumentOrSubcommand line words other = refl
of_kind kind.DisplayVersion line words other = refl
of_kind kind.Io line words other = refl
of_kind kind.Format line words other = refl
of_kind kind.OutOfMemory line words other = refl

pub wrong_refused : (words : List (List ℕ)) (k : ErrorKind) → is_version_alone words ≡ false → k ≢ kind.DisplayHelp → fault_of line_app words ≡ k ∷ []
    → Some (refused_by k words) ≡ wrong_in words
wrong_refused words k other no_help e = of_kind k (line_in (matches_of line_app words)) words no_help ∙ of_kinds words (k ∷ []) other e
