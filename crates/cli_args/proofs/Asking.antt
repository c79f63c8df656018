-- What a command, its options and its files ask for, where the other words begin with no `-`.
use Rattle.std.proofs.Common.{◌≡◌, ◌≢◌, ◌∙◌, ◌≤◌, ◌<◌, ◌^◌, false, ℕ, List, [], ◌∷◌, Option, Some, None, length, codes, ap, refl, arith}
use Rattle.std.specs.Prelude.{◌++◌, fold, option_map, IfSome}
use Rattle.std.specs.Fmt.{decimal}
use Rattle.std.specs.List.{All, AllByRecursion}
use Rattle.std.proofs.lemmas.List.Elements.{All-head, All-tail}
use Rattle.std.proofs.lemmas.Option.{same_Some}
use Rattle.clap.specs.Lexer.{usize_max}
use Rattle.clap.specs.Kinds.{Kinds, or_else, values_kinds}
use Rattle.clap.specs.Walk.{Held, Text, Walk, finished, idle, nothing_held, settled, walk_from, walked}
use Rattle.clap.specs.Simple.{built}
use Rattle.clap.specs.Faults.{check_fault, defaults_fault, fault_of, walk_fault}
use Rattle.clap.specs.declared.builder.value_parser.ValueParser.TheVariants as vp
use Rattle.clap.proofs.FaultLemmas.{leaf_fault}
use Rattle.clap.proofs.OnLiterals.{clap_on_literals}
use Rattle.report.specs.declared.styles.report_option.ReportStyle.TheVariants as style
use Rattle.cli_args.specs.Trials.{most_count}
use Rattle.cli_args.specs.Words.{IsNoOption}
use Rattle.cli_args.specs.Line.{PlainLine, line_app, line_in, option_words, words_of}
use Rattle.cli_args.specs.Commands.{app, check, command_named, compose, entries, exports, layout, migrate, trial, verify}
use Rattle.cli_args.specs.ParsedArguments.{arguments_by, request, request_on, request_or_usage}
use Rattle.cli_args.proofs.Counting.{decimal_counts}
use Rattle.cli_args.proofs.Lines.{line_with}
use Rattle.cli_args.proofs.Judging.{taken_asks}
use Rattle.cli_args.proofs.PlainWords.{IsBefore, after_files, any_number, at, command_read, files_read, first_read, held_fault, no_command_fault, no_files_fault, no_first_fault, no_options_fault, options_read, report_option, rules, rules_option, shape, texts_pass, with_command, with_files, with_option}

-- ---- what is held behind the command and its options

held : Text → Option Text → Option Text → Held
held command given style = with_option (codes "report") style (with_option (codes "rules") given (with_command command))

right_command : (command : Text) → held_fault (with_command command) ≡ []
unfolding clap_on_literals
right_command command = refl

right_rules : (command : Text) (given : Option Text) → held_fault (with_option (codes "rules") given (with_command command)) ≡ []
unfolding clap_on_literals
right_rules command None = refl
right_rules command (Some file) = refl

right_held : (command : Text) (given style : Option Text) → held_fault (held command given style) ≡ []
unfolding held clap_on_literals
right_held command None None = refl
right_held command None (Some word) = refl
right_held command (Some file) None = refl
right_held command (Some file) (Some word) = refl

before : (command : Text) (given style : Option Text) → IsBefore (held command given style)
unfolding held clap_on_literals
before command None None = refl
before command None (Some word) = refl
before command (Some file) None = refl
before command (Some file) (Some word) = refl

-- ---- the walk

ended : Held → List Text → Walk
ended h [] = at h idle 2
ended h (file ∷ rest) = after_files h (file ∷ rest)

files_end : (h : Held) (files : List Text) → AllByRecursion IsNoOption files → IsBefore h → fold (walked rules []) (at h idle 2) files ≡ ended h files
unfolding ended
files_end h [] all first = refl
files_end h (file ∷ rest) all first = ap (λ (w : Walk). fold (walked rules []) w rest) (first_read h file all.0 first) ∙ files_read h (file ∷ []) rest all.1

no_fault_in_files : (h : Held) (files : List Text) → AllByRecursion IsNoOption files → IsBefore h → held_fault h ≡ [] → walk_fault shape [] (at h idle 2) files ≡ []
unfolding walk_fault
no_fault_in_files h [] all first right = refl
no_fault_in_files h (file ∷ rest) all first right =
    ap (λ (k : Kinds). or_else k (walk_fault shape [] (walked rules [] (at h idle 2) file) rest)) (no_first_fault h file all.0 first right)
    ∙ ap (λ (w : Walk). walk_fault shape [] w rest) (first_read h file all.0 first) ∙ no_files_fault h (file ∷ []) rest all.1

pub record IsPlain (command : Text) (given style : Option Text) (files : List Text) : Type 0 where
  pub command_is : IsNoOption command
  pub rules_are : IfSome given IsNoOption
  pub style_is : IfSome style IsNoOption
  pub files_are : AllByRecursion IsNoOption files

module _ (command : Text) (given style : Option Text) (files : List Text) (plain : IsPlain command given style files) where
  walk_ends : fold (walked rules []) (walk_from nothing_held) (words_of command given style files) ≡ ended (held command given style) files
  unfolding held
  walk_ends =
      ap (λ (w : Walk). fold (walked rules []) w (option_words (codes "--rules") given ++ (option_words (codes "--report") style ++ files))) (command_read command plain.command_is)
      ∙ options_read (codes "--rules") (codes "rules") rules_option given (with_command command) (option_words (codes "--report") style ++ files) plain.rules_are
      ∙ options_read (codes "--report") (codes "report") report_option style (with_option (codes "rules") given (with_command command)) files plain.style_is
      ∙ files_end (held command given style) files plain.files_are (before command given style)

  no_walk_fault : walk_fault shape [] (walk_from nothing_held) (words_of command given style files) ≡ []
  unfolding walk_fault held
  no_walk_fault =
      let rest = option_words (codes "--rules") given ++ (option_words (codes "--report") style ++ files) in
      ap (λ (k : Kinds). or_else k (walk_fault shape [] (walked rules [] (walk_from nothing_held) command) rest)) (no_command_fault command plain.command_is)
      ∙ ap (λ (w : Walk). walk_fault shape [] w rest) (command_read command plain.command_is)
      ∙ no_options_fault (codes "--rules") (codes "rules") rules_option given (with_command command) (option_words (codes "--report") style ++ files) plain.rules_are (right_command command)
      ∙ no_options_fault (codes "--report") (codes "report") report_option style (with_option (codes "rules") given (with_command command)) files plain.style_is (right_rules command given)
      ∙ no_fault_in_files (held command given style) files plain.files_are (before command given style) (right_held command given style)

-- ---- what is found at the end

later_fault : Held → Kinds
later_fault end = or_else (defaults_fault (settled rules end).rows rules) (check_fault shape (finished rules end) false)

no_later_fault : (command : Text) (given style : Option Text) → later_fault (held command given style) ≡ []
unfolding later_fault held clap_on_literals
no_later_fault command None None = refl
no_later_fault command None (Some word) = refl
no_later_fault command (Some file) None = refl
no_later_fault command (Some file) (Some word) = refl

no_later_files_fault : (command : Text) (given style : Option Text) (file : Text) (rest : List Text) → later_fault (with_files (held command given style) (file ∷ rest)) ≡ []
unfolding later_fault held clap_on_literals
no_later_files_fault command None None file rest = refl
no_later_files_fault command None (Some word) file rest = refl
no_later_files_fault command (Some given) None file rest = refl
no_later_files_fault command (Some given) (Some word) file rest = refl

files_pass : (h : Held) (file : Text) (rest : List Text) → length (file ∷ rest) ≤ usize_max → held_fault (with_files h (file ∷ rest)) ≡ []
files_pass h file rest few =
    ap (λ (k : Kinds). or_else k (values_kinds false vp.String (file ∷ rest))) (any_number (length (file ∷ rest)) few) ∙ texts_pass (file ∷ rest)

end_fault : Held → Kinds
end_fault end = or_else (held_fault end) (later_fault end)

no_end_fault : (command : Text) (given style : Option Text) (files : List Text) → length files ≤ usize_max → end_fault (ended (held command given style) files).held ≡ []
unfolding ended end_fault
no_end_fault command given style [] few =
    ap (λ (k : Kinds). or_else k (later_fault (held command given style))) (right_held command given style) ∙ no_later_fault command given style
no_end_fault command given style (file ∷ rest) few =
    ap (λ (k : Kinds). or_else k (later_fault (with_files (held command given style) (file ∷ rest)))) (files_pass (held command given style) file rest few)
    ∙ no_later_files_fault command given style file rest

found_line : (command : Text) (given style : Option Text) (files : List Text)
    → line_in (finished rules (ended (held command given style) files).held) ≡ line_with (Some command) files given style
unfolding ended held clap_on_literals
found_line command None None [] = refl
found_line command None None (file ∷ rest) = refl
found_line command None (Some word) [] = refl
found_line command None (Some word) (file ∷ rest) = refl
found_line command (Some given) None [] = refl
found_line command (Some given) None (file ∷ rest) = refl
found_line command (Some given) (Some word) [] = refl
found_line command (Some given) (Some word) (file ∷ rest) = refl

no_fault : (words : List Text) (end : Walk) → fold (walked rules []) (walk_from nothing_held) words ≡ end → walk_fault shape [] (walk_from nothing_held) words ≡ []
    → end_fault end.held ≡ [] → fault_of line_app words ≡ []
unfolding end_fault later_fault
no_fault words end ends passed right =
    leaf_fault (built line_app) nothing_held words refl
    ∙ ap (λ (k : Kinds). or_else k (end_fault (fold (walked rules []) (walk_from nothing_held) words).held)) passed
    ∙ ap (λ (w : Walk). end_fault w.held) ends ∙ right

pub line_asks : (command : Text) (given style : Option Text) (files : List Text) → IsPlain command given style files → length files ≤ usize_max
    → arguments_by (words_of command given style files) ≡ request_or_usage (request_on (line_with (Some command) files given style))
line_asks command given style files plain few =
    let words = words_of command given style files in
    let ends = walk_ends command given style files plain in
    taken_asks words (no_fault words _ ends (no_walk_fault command given style files plain) (no_end_fault command given style files few))
    ∙ ap (λ (l : PlainLine). request_or_usage (request_on l)) (ap (λ (w : Walk). line_in (finished rules w.held)) ends ∙ found_line command given style files)

by_recursion : (files : List Text) → All IsNoOption files → AllByRecursion IsNoOption files
by_recursion [] all = tt
by_recursion (file ∷ rest) all = (All-head IsNoOption file rest all, by_recursion rest (All-tail IsNoOption file rest all))

pub usage_line_asks : (command : Text) (given style : Option Text) (files : List Text) → IsNoOption command → IfSome given IsNoOption → IfSome style IsNoOption → All IsNoOption files
    → length files < 2 ^ 64 → arguments_by (words_of command given style files) ≡ request_or_usage (request_on (line_with (Some command) files given style))
usage_line_asks command given style files c r s f few =
    line_asks command given style files (record { command_is = c; rules_are = r; style_is = s; files_are = by_recursion files f }) (omega (arith, few))

plain_words_ask : (command : Text) (files : List Text) → IsNoOption command → AllByRecursion IsNoOption files → length files ≤ usize_max
    → arguments_by (command ∷ files) ≡ request_or_usage (request_on (line_with (Some command) files None None))
plain_words_ask command files plain all few = line_asks command None None files (record { command_is = plain; rules_are = tt; style_is = tt; files_are = all }) few

-- ---- the commands

letter : (x : ℕ) → x ≢ 45 → Some x ≢ Some 45
letter x other e = other (same_Some x 45 e)

pub check_asks : (old new : Text) → IsNoOption old → IsNoOption new → arguments_by (codes "check" ∷ old ∷ new ∷ []) ≡ request (check None style.Text old new)
unfolding command_named
check_asks old new o n = plain_words_ask (codes "check") (old ∷ new ∷ []) (letter 99 (λ e. absurd (omega (arith, e)))) (o, (n, tt)) (omega arith)

pub verify_asks : (old new certificate : Text) → IsNoOption old → IsNoOption new → IsNoOption certificate
    → arguments_by (codes "verify" ∷ old ∷ new ∷ certificate ∷ []) ≡ request (verify None old new certificate)
unfolding command_named
verify_asks old new certificate o n c =
    plain_words_ask (codes "verify") (old ∷ new ∷ certificate ∷ []) (letter 118 (λ e. absurd (omega (arith, e)))) (o, (n, (c, tt))) (omega arith)

pub migrate_asks : (old new certificate : Text) → IsNoOption old → IsNoOption new → IsNoOption certificate
    → arguments_by (codes "migrate" ∷ old ∷ new ∷ certificate ∷ []) ≡ request (migrate None old new certificate)
unfolding command_named
migrate_asks old new certificate o n c =
    plain_words_ask (codes "migrate") (old ∷ new ∷ certificate ∷ []) (letter 109 (λ e. absurd (omega (arith, e)))) (o, (n, (c, tt))) (omega arith)

pub compose_asks : (first middle last certificate1 certificate2 : Text) → IsNoOption first → IsNoOption middle → IsNoOption last → IsNoOption certificate1 → IsNoOption certificate2
    → arguments_by (codes "compose" ∷ first ∷ middle ∷ last ∷ certificate1 ∷ certificate2 ∷ []) ≡ request (compose first middle last certificate1 certificate2)
unfolding command_named
compose_asks first middle last certificate1 certificate2 a b c d e =
    plain_words_ask (codes "compose") (first ∷ middle ∷ last ∷ certificate1 ∷ certificate2 ∷ []) (letter 99 (λ same. absurd (omega (arith, same)))) (a, (b, (c, (d, (e, tt))))) (omega arith)

pub layout_asks : (library tag : Text) → IsNoOption library → IsNoOption tag → arguments_by (codes "layout" ∷ library ∷ tag ∷ []) ≡ request (layout library tag)
unfolding command_named
layout_asks library tag l t = plain_words_ask (codes "layout") (library ∷ tag ∷ []) (letter 108 (λ e. absurd (omega (arith, e)))) (l, (t, tt)) (omega arith)

pub app_asks : (program old new : Text) → IsNoOption program → IsNoOption old → IsNoOption new → arguments_by (codes "app" ∷ program ∷ old ∷ new ∷ []) ≡ request (app None style.Text program old new)
unfolding command_named
app_asks program old new p o n =
    plain_words_ask (codes "app") (program ∷ old ∷ new ∷ []) (letter 97 (λ e. absurd (omega (arith, e)))) (p, (o, (n, tt))) (omega arith)

pub entries_asks : (library : Text) → IsNoOption library → arguments_by (codes "entries" ∷ library ∷ []) ≡ request (entries library)
unfolding command_named
entries_asks library l = plain_words_ask (codes "entries") (library ∷ []) (letter 101 (λ e. absurd (omega (arith, e)))) (l, tt) (omega arith)

pub exports_asks : (library : Text) → IsNoOption library → arguments_by (codes "exports" ∷ library ∷ []) ≡ request (exports library)
unfolding command_named
exports_asks library l = plain_words_ask (codes "exports") (library ∷ []) (letter 101 (λ e. absurd (omega (arith, e)))) (l, tt) (omega arith)

pub trial_asks : (n : ℕ) → 1 ≤ n → n ≤ most_count → arguments_by (codes "trial" ∷ decimal n ∷ []) ≡ request (trial n)
unfolding command_named
trial_asks n least most =
    let count = decimal_counts n least most in
    plain_words_ask (codes "trial") (decimal n ∷ []) (letter 116 (λ e. absurd (omega (arith, e)))) (count.1, tt) (omega arith)
    ∙ ap (λ (o : Option ℕ). request_or_usage (option_map trial o)) count.0
