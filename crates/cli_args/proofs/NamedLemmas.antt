-- Where `clap` refuses words, the word that is named is one of them.
use Rattle.std.proofs.Common.{◌≡◌, ℕ, Bool, true, false, List, [], ◌∷◌, length, Option, Some, None, sym, refl, subst}
use Rattle.std.specs.Prelude.{◌==◌, Contains, IfSome, find, if◌then◌else◌, is_none}
use Rattle.std.proofs.lemmas.List.Elements.{Contains-append_left, Contains-append_right, Contains-push}
use Rattle.clap.specs.Words.{Kinds, fault_of, matches_of}
use Rattle.clap.specs.declared.error.kind.ErrorKind.{ErrorKind}
use Rattle.clap.specs.declared.error.kind.ErrorKind.TheVariants as kind
use Rattle.cli_args.specs.Line.{PlainLine, line_app, line_in}
use Rattle.cli_args.specs.Commands.{command_named, makings_of, row_of, word_at}
use Rattle.cli_args.specs.ParsedArguments.{needless_of, style_of}
use Rattle.cli_args.specs.Release.{is_version_alone}
use Rattle.cli_args.specs.Trials.{trial_count_of}
use Rattle.cli_args.specs.WrongWords.{NamesOne, PlainWrong, is_help_with_value, is_repeated, is_unknown_option, is_without_value, missing_value, needless_value, or_needless, or_other, refused_by, refused_word, repeated_option, unknown_option, unknown_style, without_value, wrong_by, wrong_count, wrong_count_of, wrong_in, wrong_named, wrong_number, wrong_style, wrong_trial, wrong_value, wrong_with}
use Rattle.cli_args.specs.declared.commands.CommandName.{CommandName}
use Rattle.cli_args.specs.declared.commands.Makings.{Makings}
use Rattle.cli_args.specs.declared.commands.Makings.TheVariants.{Words, Style, Count}
use Rattle.cli_args.specs.declared.wrong.OptionName.{OptionName}

-- ---- what is found is there

first_or : (b : Bool) (y x : List ℕ) (ys : List (List ℕ)) (next : Option (List ℕ)) → (next ≡ Some x → Contains ys x) → (if b then Some y else next) ≡ Some x → Contains (y ∷ ys) x
first_or true y x ys next rest e =
    let same : y ≡ x = cc in
    subst (λ (z : List ℕ). Contains (y ∷ ys) z) same (Contains-append_left (y ∷ []) ys y (Contains-push [] y))
first_or false y x ys next rest e = Contains-append_right (y ∷ []) ys x (rest e)

found : (p : List ℕ → Bool) (xs : List (List ℕ)) (x : List ℕ) → find p xs ≡ Some x → Contains xs x
found p [] x e = absurd cc
found p (y ∷ ys) x e = first_or (p y) y x ys (find p ys) (found p ys x) e

lacking : (xs : List (List ℕ)) (x : List ℕ) → without_value xs ≡ Some x → Contains xs x
unfolding without_value
lacking [] x e = absurd cc
lacking (y ∷ ys) x e = first_or (is_without_value y ys) y x ys (without_value ys) (lacking ys x) e

-- ---- what is named

named_or : (named : List ℕ → PlainWrong) (o : Option (List ℕ)) (words : List (List ℕ)) → ((w : List ℕ) → refused_word (named w) ≡ Some w)
    → ((x : List ℕ) → o ≡ Some x → Contains words x) → NamesOne words (Some (or_other named o))
named_or named None words is there = tt
named_or named (Some w) words is there = subst (λ (o : Option (List ℕ)). IfSome o (Contains words)) (sym (is w)) (there w refl)

refused_there : (cause : ErrorKind) (words : List (List ℕ)) → NamesOne words (Some (refused_by cause words))
refused_there kind.UnknownArgument words = named_or unknown_option (find is_unknown_option words) words (λ w. refl) (found is_unknown_option words)
refused_there kind.InvalidValue words = named_or missing_value (without_value words) words (λ w. refl) (lacking words)
refused_there kind.ArgumentConflict words = named_or repeated_option (find (is_repeated words) words) words (λ w. refl) (found (is_repeated words) words)
refused_there kind.TooManyValues words = named_or needless_value (find is_help_with_value words) words (λ w. refl) (found is_help_with_value words)
refused_there kind.MissingRequiredArgument words = tt
refused_there kind.InvalidSubcommand words = tt
refused_there kind.NoEquals words = tt
refused_there kind.ValueValidation words = tt
refused_there kind.TooFewValues words = tt
refused_there kind.WrongNumberOfValues words = tt
refused_there kind.MissingSubcommand words = tt
refused_there kind.DisplayHelp words = tt
refused_there kind.DisplayHelpOnMissingArgumentOrSubcommand words = tt
refused_there kind.DisplayVersion words = tt
refused_there kind.Io words = tt
refused_there kind.Format words = tt
refused_there kind.OutOfMemory words = tt

-- ---- lines that `clap` takes name none

either : (words : List (List ℕ)) (b : Bool) (one other : Option PlainWrong) → NamesOne words one → NamesOne words other → NamesOne words (if b then one else other)
either words true one other p q = p
either words false one other p q = q

of_style : (words : List (List ℕ)) (report : Option (List ℕ)) → NamesOne words (wrong_style report)
of_style words None = tt
of_style words (Some word) = either words (is_none (style_of (Some word))) (Some (unknown_style word)) None tt tt

of_trial : (words files : List (List ℕ)) → NamesOne words (wrong_trial files)
of_trial words files = either words (is_none (trial_count_of (word_at files 0))) (Some (wrong_number (word_at files 0))) None tt tt

of_value : (words : List (List ℕ)) (makings : Makings) (files : List (List ℕ)) (report : Option (List ℕ)) → NamesOne words (wrong_value makings files report)
of_value words Words files report = tt
of_value words Style files report = of_style words report
of_value words Count files report = of_trial words files

of_option : (words : List (List ℕ)) (command : List ℕ) (option : Option OptionName) (next : Option PlainWrong) → NamesOne words next → NamesOne words (or_needless command option next)
of_option words command None next p = p
of_option words command (Some option) next p = tt

of_name : (words : List (List ℕ)) (command : List ℕ) (found : Option CommandName) (files : List (List ℕ)) (rules report : Option (List ℕ)) →
    NamesOne words (wrong_named command found files rules report)
of_name words command None files rules report = tt
of_name words command (Some name) files rules report =
    let row = row_of name in
    let wanted = length row.arguments in
    of_option words command (needless_of row _ _) (wrong_count_of row command files report)
    (either words (length files == wanted) (wrong_value (makings_of row.making) files report) (Some (wrong_count command wanted (length files))) (of_value words (makings_of row.making) files report) tt)

of_command : (words : List (List ℕ)) (command : Option (List ℕ)) (files : List (List ℕ)) (rules report : Option (List ℕ)) → NamesOne words (wrong_with command files rules report)
of_command words None files rules report = tt
of_command words (Some command) files rules report = of_name words command (command_named command) files rules report

-- ---- all words

by_kinds : (kinds : Kinds) (line : PlainLine) (words : List (List ℕ)) → NamesOne words (wrong_by kinds line words)
by_kinds [] line words = of_command words line.command line.files line.rules line.report
by_kinds (kind.DisplayHelp ∷ rest) line words = tt
by_kinds (kind.UnknownArgument ∷ rest) line words = refused_there kind.UnknownArgument words
by_kinds (kind.InvalidValue ∷ rest) line words = refused_there kind.InvalidValue words
by_kinds (kind.ArgumentConflict ∷ rest) line words = refused_there kind.ArgumentConflict words
by_kinds (kind.TooManyValues ∷ rest) line words = refused_there kind.TooManyValues words
by_kinds (kind.MissingRequiredArgument ∷ rest) line words = tt
by_kinds (kind.InvalidSubcommand ∷ rest) line words = tt
by_kinds (kind.NoEquals ∷ rest) line words = tt
by_kinds (kind.ValueValidation ∷ rest) line words = tt
by_kinds (kind.TooFewValues ∷ rest) line words = tt
by_kinds (kind.WrongNumberOfValues ∷ rest) line words = tt
by_kinds (kind.MissingSubcommand ∷ rest) line words = tt
by_kinds (kind.DisplayHelpOnMissingArgumentOrSubcommand ∷ rest) line words = tt
by_kinds (kind.DisplayVersion ∷ rest) line words = tt
by_kinds (kind.Io ∷ rest) line words = tt
by_kinds (kind.Format ∷ rest) line words = tt
by_kinds (kind.OutOfMemory ∷ rest) line words = tt

pub names_one : (words : List (List ℕ)) → NamesOne words (wrong_in words)
unfolding wrong_in
names_one words = go (is_version_alone words)
  where
    go : (b : Bool) → NamesOne words (if b then None else wrong_by (fault_of line_app words) (line_in (matches_of line_app words)) words)
    go true = tt
    go false = by_kinds (fault_of line_app words) (line_in (matches_of line_app words)) words
