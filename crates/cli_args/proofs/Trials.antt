-- A trial is of 1 to 50,000 functions.
use Rattle.std.proofs.Common.{◌≡◌, ◌≤◌, ◌&&◌, ℕ, Bool, cond, true, false, List, Option, Some, None, subst, refl, option_map}
use Rattle.std.specs.Prelude.{◌==◌, ◌||◌, if◌then◌else◌, is_some, length, not, option_and_then, nat_le}
use Rattle.std.specs.Str.Parse.{digits_value}
use Rattle.std.proofs.lemmas.Bool.{leb-true}
use Rattle.abi_base.proofs.lemmas.Bools.{and_is_true}
use Rattle.report.specs.declared.styles.report_option.ReportStyle.{ReportStyle}
use Rattle.cli_args.specs.Line.{PlainLine}
use Rattle.cli_args.specs.Trials.{is_decimal, is_trial_count, most_count, trial_count_of}
use Rattle.cli_args.specs.Commands.{PlainRequest, command_named, row_of, trial, word_at}
use Rattle.cli_args.specs.ParsedArguments.{PlainArguments, request, style_of, made_of, needless_of, request_of, request_on, request_or_usage, arguments_by}
use Rattle.cli_args.specs.declared.commands.CommandName.{CommandName}
use Rattle.cli_args.specs.declared.commands.CommandName.TheVariants.{Trial}
use Rattle.cli_args.proofs.Judging.{judged_all}

-- the number of a trial is one that may be asked for
abbrev pub IsRightTrial : PlainRequest → Type 0
IsRightTrial (trial n) = (1 ≤ n) × (n ≤ most_count)
IsRightTrial other = Unit {0}

abbrev AsksRight : PlainArguments → Type 0
AsksRight (request asked) = IsRightTrial asked
AsksRight other = Unit {0}

counted : (n : ℕ) (a : Bool) → (a && is_trial_count n) ≡ true → (1 ≤ n) × (n ≤ most_count)
counted n a e =
    let least = and_is_true (nat_le 1 n) (nat_le n most_count) (and_is_true a (is_trial_count n) e).1 in
    (leb-true 1 n least.0, leb-true n most_count least.1)

right_count : (word : List ℕ) → AsksRight (request_or_usage (option_map trial (trial_count_of word)))
unfolding trial_count_of
right_count word = go (is_decimal word && is_trial_count (digits_value 10 word)) refl
  where
    go : (b : Bool) → (is_decimal word && is_trial_count (digits_value 10 word)) ≡ b → AsksRight (request_or_usage (option_map trial (cond b (Some (digits_value 10 word)) None)))
    go true e = counted (digits_value 10 word) (is_decimal word) e
    go false e = tt

-- what a command makes of its arguments, by its name: only `trial` asks for a number
right_made : (name : CommandName) (rules : Option (List ℕ)) (style : Option ReportStyle) (words : List (List ℕ)) → AsksRight (request_or_usage (made_of (row_of name).making rules style words))
right_made Trial rules style words = right_count (word_at words 0)
right_made name rules None words = tt
right_made name rules (Some style) words = tt

unless : (wrong : Bool) (asked : Option PlainRequest) → AsksRight (request_or_usage asked) → AsksRight (request_or_usage (if wrong then None else asked))
unless true asked right = tt
unless false asked right = right

right_request : (name : Option CommandName) (words : List (List ℕ)) (rules report : Option (List ℕ))
    → AsksRight (request_or_usage (option_and_then (λ n. request_of (row_of n) words rules report) name))
right_request None words rules report = tt
right_request (Some name) words rules report =
    unless (is_some (needless_of (row_of name) (is_some rules) (is_some report)) || not (length words == length (row_of name).arguments))
    (made_of (row_of name).making rules (style_of report) words) (right_made name rules (style_of report) words)

right_line : (line : PlainLine) → AsksRight (request_or_usage (request_on line))
right_line line = right_request (option_and_then command_named line.command) line.files line.rules line.report

pub right : (words : List (List ℕ)) (n : ℕ) → arguments_by words ≡ request (trial n) → (1 ≤ n) × (n ≤ most_count)
right words n e = subst AsksRight e (judged_all AsksRight tt tt tt right_line words)
