-- What words ask for, by what `clap` answers to them.
use Rattle.std.proofs.Common.{◌≡◌, ◌≢◌, ◌∙◌, ℕ, Bool, true, false, List, [], ◌∷◌, Option, Some, None, Ok, Err, ap, codes, sym, refl, true≢false, inl}
use Rattle.std.specs.Prelude.{if◌then◌else◌}
use Rattle.clap.specs.Words.{Kinds, Row, IsAmong, rows_of, found_of, fault_of, matches_of}
use Rattle.clap.specs.declared.error.kind.ErrorKind.{ErrorKind}
use Rattle.clap.specs.declared.error.kind.ErrorKind.TheVariants as kind
use Rattle.clap.specs.declared.parser.matches.ArgMatches.{ArgMatches}
use Rattle.cli_args.specs.Line.{PlainLine, line_app, line_in, Answers}
use Rattle.cli_args.specs.Commands.{PlainRequest}
use Rattle.cli_args.specs.ParsedArguments.{PlainArguments, request, help, usage, version, judged_by, request_on, request_or_usage, arguments_by}
use Rattle.cli_args.specs.Release.{is_version_alone}
use Rattle.cli_args.specs.declared.line.Refused.TheVariants.{Help, Wrong}
use Rattle.cli_args.proofs.VersionAlone.{alone_is, taken_is_other}

other_is_usage : (k : ErrorKind) (rows : List Row) → k ≢ kind.DisplayHelp → usage ≡ judged_by (k ∷ []) rows
other_is_usage kind.DisplayHelp rows other = absurd (other refl)
other_is_usage kind.InvalidValue rows other = refl
other_is_usage kind.UnknownArgument rows other = refl
other_is_usage kind.InvalidSubcommand rows other = refl
other_is_usage kind.NoEquals rows other = refl
other_is_usage kind.ValueValidation rows other = refl
other_is_usage kind.TooManyValues rows other = refl
other_is_usage kind.TooFewValues rows other = refl
other_is_usage kind.WrongNumberOfValues rows other = refl
other_is_usage kind.ArgumentConflict rows other = refl
other_is_usage kind.MissingRequiredArgument rows other = refl
other_is_usage kind.MissingSubcommand rows other = refl
other_is_usage kind.DisplayHelpOnMissingArgumentOrSubcommand rows other = refl
other_is_usage kind.DisplayVersion rows other = refl
other_is_usage kind.Io rows other = refl
other_is_usage kind.Format rows other = refl
other_is_usage kind.OutOfMemory rows other = refl

-- the words are `--version` alone, or `clap` reads them
abbrev read_if : Bool → List (List ℕ) → PlainArguments
read_if is_alone words = if is_alone then version else judged_by (fault_of line_app words) (matches_of line_app words)

pub when_version : (words : List (List ℕ)) → is_version_alone words ≡ true → version ≡ arguments_by words
unfolding arguments_by
when_version words alone = ap (λ (b : Bool). read_if b words) (sym alone)

by_kinds : (words : List (List ℕ)) (kinds : Kinds) → is_version_alone words ≡ false → fault_of line_app words ≡ kinds → judged_by kinds (matches_of line_app words) ≡ arguments_by words
unfolding arguments_by
by_kinds words kinds other e = ap (λ (k : Kinds). judged_by k (matches_of line_app words)) (sym e) ∙ ap (λ (b : Bool). read_if b words) (sym other)

module _ (words : List (List ℕ)) (other : is_version_alone words ≡ false) where
  pub when_taken : (m : ArgMatches) → Answers words (Ok m) → request_or_usage (request_on (line_in (rows_of (found_of m)))) ≡ arguments_by words
  when_taken m a = ap (λ (rows : List Row). request_or_usage (request_on (line_in rows))) a.1 ∙ by_kinds words [] other a.0

  pub when_help : Answers words (Err Help) → help ≡ arguments_by words
  when_help a = by_kinds words (kind.DisplayHelp ∷ []) other a

  pub when_wrong : Answers words (Err Wrong) → usage ≡ arguments_by words
  when_wrong a = other_is_usage a.0 (matches_of line_app words) a.1 ∙ by_kinds words (a.0 ∷ []) other a.2

-- ---- where words are told the help

abbrev is_help : PlainArguments → Bool
is_help (request asked) = false
is_help help = true
is_help version = false
is_help usage = false

no_help : (asked : Option PlainRequest) → is_help (request_or_usage asked) ≡ false
no_help (Some asked) = refl
no_help None = refl

never : (C : Type 0) → false ≡ true → C
never C e = absurd (true≢false (sym e))

helped : (kinds : Kinds) (rows : List Row) → is_help (judged_by kinds rows) ≡ true → IsAmong kind.DisplayHelp kinds
helped [] rows e = absurd (true≢false (sym e ∙ no_help (request_on (line_in rows))))
helped (kind.DisplayHelp ∷ rest) rows e = inl refl
helped (kind.InvalidValue ∷ rest) rows e = never _ e
helped (kind.UnknownArgument ∷ rest) rows e = never _ e
helped (kind.InvalidSubcommand ∷ rest) rows e = never _ e
helped (kind.NoEquals ∷ rest) rows e = never _ e
helped (kind.ValueValidation ∷ rest) rows e = never _ e
helped (kind.TooManyValues ∷ rest) rows e = never _ e
helped (kind.TooFewValues ∷ rest) rows e = never _ e
helped (kind.WrongNumberOfValues ∷ rest) rows e = never _ e
helped (kind.ArgumentConflict ∷ rest) rows e = never _ e
helped (kind.MissingRequiredArgument ∷ rest) rows e = never _ e
helped (kind.MissingSubcommand ∷ rest) rows e = never _ e
helped (kind.DisplayHelpOnMissingArgumentOrSubcommand ∷ rest) rows e = never _ e
helped (kind.DisplayVersion ∷ rest) rows e = never _ e
helped (kind.Io ∷ rest) rows e = never _ e
helped (kind.Format ∷ rest) rows e = never _ e
helped (kind.OutOfMemory ∷ rest) rows e = never _ e

pub help_is_answered : (words : List (List ℕ)) → arguments_by words ≡ help → IsAmong kind.DisplayHelp (fault_of line_app words)
unfolding arguments_by
help_is_answered words e = go (is_version_alone words) (ap is_help e)
  where
    go : (b : Bool) → is_help (read_if b words) ≡ true → IsAmong kind.DisplayHelp (fault_of line_app words)
    go true h = never _ h
    go false h = helped (fault_of line_app words) (matches_of line_app words) h

-- ---- where words are told the version

abbrev is_version : PlainArguments → Bool
is_version (request asked) = false
is_version help = false
is_version version = true
is_version usage = false

no_version : (asked : Option PlainRequest) → is_version (request_or_usage asked) ≡ false
no_version (Some asked) = refl
no_version None = refl

read_is_other : (kinds : Kinds) (rows : List Row) → is_version (judged_by kinds rows) ≡ false
read_is_other [] rows = no_version (request_on (line_in rows))
read_is_other (kind.DisplayHelp ∷ rest) rows = refl
read_is_other (kind.InvalidValue ∷ rest) rows = refl
read_is_other (kind.UnknownArgument ∷ rest) rows = refl
read_is_other (kind.InvalidSubcommand ∷ rest) rows = refl
read_is_other (kind.NoEquals ∷ rest) rows = refl
read_is_other (kind.ValueValidation ∷ rest) rows = refl
read_is_other (kind.TooManyValues ∷ rest) rows = refl
read_is_other (kind.TooFewValues ∷ rest) rows = refl
read_is_other (kind.WrongNumberOfValues ∷ rest) rows = refl
read_is_other (kind.ArgumentConflict ∷ rest) rows = refl
read_is_other (kind.MissingRequiredArgument ∷ rest) rows = refl
read_is_other (kind.MissingSubcommand ∷ rest) rows = refl
read_is_other (kind.DisplayHelpOnMissingArgumentOrSubcommand ∷ rest) rows = refl
read_is_other (kind.DisplayVersion ∷ rest) rows = refl
read_is_other (kind.Io ∷ rest) rows = refl
read_is_other (kind.Format ∷ rest) rows = refl
read_is_other (kind.OutOfMemory ∷ rest) rows = refl

pub version_is_alone : (words : List (List ℕ)) → arguments_by words ≡ version → words ≡ codes "--version" ∷ []
unfolding arguments_by
version_is_alone words e = go (is_version_alone words) refl (ap is_version e)
  where
    go : (b : Bool) → is_version_alone words ≡ b → is_version (read_if b words) ≡ true → words ≡ codes "--version" ∷ []
    go true alone h = alone_is words alone
    go false other h = never _ (sym (read_is_other (fault_of line_app words) (matches_of line_app words)) ∙ h)

pub alone_is_version : (words : List (List ℕ)) → words ≡ codes "--version" ∷ [] → arguments_by words ≡ version
alone_is_version words is = ap arguments_by is ∙ sym (when_version (codes "--version" ∷ []) refl)

pub taken_asks : (words : List (List ℕ)) → fault_of line_app words ≡ [] → arguments_by words ≡ request_or_usage (request_on (line_in (matches_of line_app words)))
taken_asks words e = sym (by_kinds words [] (taken_is_other words e) e)

-- what holds of every request, of the usage, the help and the version holds of what words ask for
pub judged_all : (P : PlainArguments → Type 0) → P help → P version → P usage → ((line : PlainLine) → P (request_or_usage (request_on line))) → (words : List (List ℕ)) → P (arguments_by words)
unfolding arguments_by
judged_all P at_help at_version at_usage at_request words = either (is_version_alone words)
  where
    go : (kinds : Kinds) (rows : List Row) → P (judged_by kinds rows)
    go [] rows = at_request (line_in rows)
    go (kind.DisplayHelp ∷ rest) rows = at_help
    go (kind.InvalidValue ∷ rest) rows = at_usage
    go (kind.UnknownArgument ∷ rest) rows = at_usage
    go (kind.InvalidSubcommand ∷ rest) rows = at_usage
    go (kind.NoEquals ∷ rest) rows = at_usage
    go (kind.ValueValidation ∷ rest) rows = at_usage
    go (kind.TooManyValues ∷ rest) rows = at_usage
    go (kind.TooFewValues ∷ rest) rows = at_usage
    go (kind.WrongNumberOfValues ∷ rest) rows = at_usage
    go (kind.ArgumentConflict ∷ rest) rows = at_usage
    go (kind.MissingRequiredArgument ∷ rest) rows = at_usage
    go (kind.MissingSubcommand ∷ rest) rows = at_usage
    go (kind.DisplayHelpOnMissingArgumentOrSubcommand ∷ rest) rows = at_usage
    go (kind.DisplayVersion ∷ rest) rows = at_usage
    go (kind.Io ∷ rest) rows = at_usage
    go (kind.Format ∷ rest) rows = at_usage
    go (kind.OutOfMemory ∷ rest) rows = at_usage

    either : (b : Bool) → P (read_if b words)
    either true = at_version
    either false = go (fault_of line_app words) (matches_of line_app words)
