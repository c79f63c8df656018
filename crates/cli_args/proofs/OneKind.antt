-- `clap` has at most one kind of error at the words, where the command has no subcommand.
use Rattle.std.proofs.Common.{◌≡◌, ◌≤◌, ◌+◌, ◌&&◌, ℕ, Bool, cond, true, false, not, zero, suc, subst, sym, arith, List, [], ◌∷◌, length, drop, min, Option, Some, None, is_some}
use Rattle.std.specs.Prelude.{encode_utf8, slice_get, nat_lt, ◌==◌, ◌||◌}
use Rattle.std.specs.List.{list_any}
use Rattle.std.specs.Option.{option_map_or}
use Rattle.std.specs.Str.{bytes_eq, chars}
use Rattle.clap.specs.Values.{refused_kind}
use Rattle.clap.specs.ValueTests.{accepts}
use Rattle.clap.specs.Facts.{explicit_source, parser_of_value, unwrap_or_range}
use Rattle.clap.specs.Takes.{is_given}
use Rattle.clap.specs.Lexer.{long_of, short_of}
use Rattle.clap.specs.Matches.{count_text}
use Rattle.clap.specs.declared.error.kind.ErrorKind.TheVariants as kind
use Rattle.clap.specs.Walk.{count_of, has_row, is_empty, is_pending, takes_several, Held, Rule, Row, Step, Text, Waiting, Walk, idle, option, positional, next, trailing, subcommand, value, action_of, arg_by_id, arg_by_index, arg_by_long, arg_by_short, attached_value, most_values, reacted, settled, takes_values, values_or_missing, walk, walk_from, walked, with_default, word_met, finished, nothing_held}
use Rattle.clap.specs.Simple.{App, Shape, argument_words, built}
use Rattle.clap.specs.Kinds.{Kinds, check_kinds, or_else, range_kinds, request_kinds, value_kinds, values_kinds}
use Rattle.clap.specs.Faults.{fault_of, action_fault, use_fault, settle_fault, react_fault, option_fault, long_fault, short_fault, bundle_step_fault, flags_fault, bundle_fault, flag_word_fault, other_fault, word_fault, positional_fault, stray_fault, step_fault, turn_fault, walk_fault, given_default_fault, default_fault, defaults_fault, check_fault, level_fault, count_fault, values_fault, repeat_fault}
use Rattle.clap.specs.declared.builder.action.ArgAction.{ArgAction}
use Rattle.clap.specs.declared.builder.action.ArgAction.TheVariants as action
use Rattle.clap.specs.declared.builder.value_parser.ValueParser.{ValueParser}
use Rattle.clap.specs.declared.error.kind.ErrorKind.{ErrorKind}
use Rattle.clap.proofs.FaultLemmas.{leaf_fault}

record One (kinds : Kinds) : Type 0 where
  most : length kinds ≤ 1

none : One []
none = record { most = omega arith }

single : (k : ErrorKind) → One (k ∷ [])
single k = record { most = omega arith }

either : (b : Bool) (x y : Kinds) → One x → One y → One (cond b x y)
either true x y p q = p
either false x y p q = q

then_one : (a b : Kinds) → One a → One b → One (or_else a b)
then_one [] b p q = q
then_one (k ∷ ks) b p q = p

value_one : (ignore : Bool) (parser : ValueParser) (text : Text) → One (value_kinds ignore parser text)
value_one ignore parser text = either (accepts ignore parser text) [] (refused_kind parser ∷ []) none (single (refused_kind parser))

values_one : (ignore : Bool) (parser : ValueParser) (vs : List Text) → One (values_kinds ignore parser vs)
values_one ignore parser [] = none
values_one ignore parser (v ∷ vs) = then_one (value_kinds ignore parser v) (values_kinds ignore parser vs) (value_one ignore parser v) (values_one ignore parser vs)

range_shape : (a b c d e : Bool) → One (cond a (kind.InvalidValue ∷ []) (cond b (cond c [] (kind.WrongNumberOfValues ∷ []))
    (cond d (kind.TooFewValues ∷ []) (cond e (kind.TooManyValues ∷ []) []))))
range_shape true b c d e = single kind.InvalidValue
range_shape false true true d e = none
range_shape false true false d e = single kind.WrongNumberOfValues
range_shape false false c true e = single kind.TooFewValues
range_shape false false c false true = single kind.TooManyValues
range_shape false false c false false = none

range_one : (least most n : ℕ) → One (range_kinds least most n)
range_one least most n = range_shape (nat_lt 0 least && n == 0) (least == most) (least == n) (nat_lt n least) (nat_lt most n)

request_one : (x : ArgAction) → One (request_kinds x)
request_one action.Set = none
request_one action.Append = none
request_one action.SetTrue = none
request_one action.SetFalse = none
request_one action.Count = none
request_one action.Help = single kind.DisplayHelp
request_one action.HelpShort = single kind.DisplayHelp
request_one action.HelpLong = single kind.DisplayHelp
request_one action.Version = single kind.DisplayVersion

all_one : (a : Rule) (values : List Text) → One (values_fault a values)
all_one a values = values_one a.ignore_case (parser_of_value a.parser) values

count_one : (a : Rule) (values : List Text) (rows : List Row) → One (count_fault a values rows)
count_one a [] rows = value_one a.ignore_case (parser_of_value a.parser) (count_text (min (count_of a.id rows + 1) 255))
count_one a (v ∷ vs) rows = all_one a (v ∷ vs)

set_one : (again : Bool) (a : Rule) (values : List Text) (rows : List Row) → One (action_fault action.Set again a values rows)
set_one again a values rows =
    then_one (repeat_fault again a.id rows) (values_fault a values)
    (either (has_row a.id rows && not again) (kind.ArgumentConflict ∷ []) [] (single kind.ArgumentConflict) none) (all_one a values)

action_one : (x : ArgAction) (again : Bool) (a : Rule) (values : List Text) (rows : List Row) → One (action_fault x again a values rows)
action_one action.Set again a values rows = set_one again a values rows
action_one action.SetTrue again a values rows = set_one again a values rows
action_one action.SetFalse again a values rows = set_one again a values rows
action_one action.Append again a values rows = all_one a values
action_one action.Count again a values rows = count_one a values rows
action_one action.Help again a values rows = single kind.DisplayHelp
action_one action.HelpShort again a values rows = single kind.DisplayHelp
action_one action.HelpLong again a values rows = single kind.DisplayHelp
action_one action.Version again a values rows = single kind.DisplayVersion

use_one : (again : Bool) (a : Rule) (values : List Text) (rows : List Row) → One (use_fault again a values rows)
use_one again a values rows =
    then_one (range_kinds (unwrap_or_range a.range).start_inclusive (most_values a) (length values))
    (action_fault (action_of a) again a (values_or_missing a values) rows)
    (range_one (unwrap_or_range a.range).start_inclusive (most_values a) (length values))
    (action_one (action_of a) again a (values_or_missing a values) rows)

found_one : (again : Bool) (found : Option Rule) (values : List Text) (rows : List Row) → One (option_map_or (λ a. use_fault again a values rows) found [])
found_one again None values rows = none
found_one again (Some a) values rows = use_one again a values rows

pending_one : (c : List Rule) (again : Bool) (pending : Option (Text × List Text)) (rows : List Row) →
    One (option_map_or (λ p. option_map_or (λ a. use_fault again a p.1 rows) (arg_by_id c p.0) []) pending [])
pending_one c again None rows = none
pending_one c again (Some p) rows = found_one again (arg_by_id c p.0) p.1 rows

settle_one : (c : List Rule) (again : Bool) (h : Held) → One (settle_fault c again h)
settle_one c again h = pending_one c again h.pending h.rows

react_one : (c : List Rule) (again : Bool) (a : Rule) (values : List Text) (h : Held) → One (react_fault c again a values h)
react_one c again a values h =
    then_one (settle_fault c again h) (use_fault again a values (settled c h).rows) (settle_one c again h) (use_one again a values (settled c h).rows)

option_one : (c : List Rule) (again : Bool) (a : Rule) (v : Option Text) (h : Held) → One (option_fault c again a v h)
option_one c again a (Some v) h = react_one c again a (v ∷ []) h
option_one c again a None h = settle_one c again h

long_one : (c : List Rule) (again : Bool) (found : Option Rule) (v : Option Text) (h : Held) → One (long_fault c again found v h)
long_one c again None v h = single kind.UnknownArgument
long_one c again (Some a) v h =
    either (takes_values a) (option_fault c again a v h) (cond (is_some v) (kind.TooManyValues ∷ []) (react_fault c again a [] h))
    (option_one c again a v h)
    (either (is_some v) (kind.TooManyValues ∷ []) (react_fault c again a [] h) (single kind.TooManyValues) (react_one c again a [] h))

short_one : (c : List Rule) (again : Bool) (found : Option Rule) (rest : Text) (h : Held) (later : Held → Kinds) → ((i : Held) → One (later i)) →
    One (short_fault c again found rest h later)
short_one c again None rest h later each = single kind.UnknownArgument
short_one c again (Some a) rest h later each =
    either (takes_values a) (option_fault c again a (attached_value rest) h) (or_else (react_fault c again a [] h) (later (reacted c a [] h)))
    (option_one c again a (attached_value rest) h)
    (then_one (react_fault c again a [] h) (later (reacted c a [] h)) (react_one c again a [] h) (each (reacted c a [] h)))

bundle_step_one : (c : List Rule) (again : Bool) (x : Option ℕ) (flags : Text) (skip : ℕ) (h : Held) (later : Text → ℕ → Held → Kinds) →
    ((t : Text) (n : ℕ) (i : Held) → One (later t n i)) → One (bundle_step_fault c again x flags skip h later)
bundle_step_one c again None flags skip h later each = none
bundle_step_one c again (Some x) flags zero h later each =
    short_one c again (arg_by_short c x) (drop (length (encode_utf8 x)) flags) h (later (drop (length (encode_utf8 x)) flags) 0) (each (drop (length (encode_utf8 x)) flags) 0)
bundle_step_one c again (Some x) flags (suc skip) h later each = each (drop (length (encode_utf8 x)) flags) skip h

flags_one : (c : List Rule) (again : Bool) (k : ℕ) (flags : Text) (skip : ℕ) (h : Held) → One (flags_fault c again k flags skip h)
unfolding flags_fault
flags_one c again zero flags skip h = none
flags_one c again (suc k) flags skip h =
    bundle_step_one c again (slice_get (chars flags) 0) flags skip h (flags_fault c again k) (flags_one c again k)

short_word_one : (c : List Rule) (again : Bool) (found : Option Text) (h : Held) → One (option_map_or (λ flags. bundle_fault c again flags h) found [])
short_word_one c again None h = none
short_word_one c again (Some flags) h = flags_one c again (length flags) flags h.skip (record h { skip = 0 })

flag_word_one : (c : List Rule) (again : Bool) (found : Option (Text × Option Text)) (word : Text) (h : Held) → One (flag_word_fault c again found word h)
flag_word_one c again (Some p) word h = long_one c again (arg_by_long c p.0) p.1 h
flag_word_one c again None word h = short_word_one c again (short_of word) h

other_one : (s : Shape) (word : Text) (h : Held) → One (other_fault s None word h)
other_one s word h =
    either (bytes_eq word (45 ∷ 45 ∷ [])) [] (flag_word_fault s.rules s.args_override_self (long_of word) word h) none
    (flag_word_one s.rules s.args_override_self (long_of word) word h)

word_one : (s : Shape) (is_trailing : Bool) (waiting : Waiting) (word : Text) (h : Held) → One (word_fault s [] is_trailing waiting word h)
word_one s is_trailing idle word h = either is_trailing [] (other_fault s None word h) none (other_one s word h)
word_one s is_trailing (option id) word h = either is_trailing [] (other_fault s None word h) none (other_one s word h)
word_one s is_trailing positional word h = either is_trailing [] (other_fault s None word h) none (other_one s word h)

first_one : (b : Bool) (x y : Kinds) → b ≡ true → One x → One (cond b x y)
first_one true x y is p = p
first_one false x y is p = absurd cc

to_one : (s : Shape) (h : Held) (found : Option Rule) → s.is_leaf ≡ true →
    One (option_map_or (λ a. positional_fault s.rules s.args_override_self a h) found (stray_fault s))
to_one s h None leaf = first_one s.is_leaf (kind.UnknownArgument ∷ []) (kind.UnknownArgument ∷ kind.InvalidSubcommand ∷ []) leaf (single kind.UnknownArgument)
to_one s h (Some a) leaf =
    either (is_pending a h.pending && takes_several a) [] (settle_fault s.rules s.args_override_self h) none (settle_one s.rules s.args_override_self h)

step_one : (s : Shape) (position : ℕ) (h : Held) (step : Step) → s.is_leaf ≡ true → One (step_fault s position h step)
step_one s position h (next waiting) leaf = none
step_one s position h (trailing p) leaf = none
step_one s position h (subcommand name) leaf = none
step_one s position h value leaf = to_one s h (arg_by_index s.rules position) leaf

turn_one : (s : Shape) (w : Walk) (word : Text) → s.is_leaf ≡ true → One (turn_fault s [] w word)
turn_one s w word leaf =
    let met = word_met s.rules [] w.is_trailing w.waiting w.position word w.held in
    let here = word_fault s [] w.is_trailing w.waiting word w.held in
    let after = step_fault s w.position met.0 met.1 in
    either (is_some w.stopped) [] (or_else here after) none
    (then_one here after (word_one s w.is_trailing w.waiting word w.held) (step_one s w.position met.0 met.1 leaf))

walk_one : (s : Shape) (w : Walk) (words : List Text) → s.is_leaf ≡ true → One (walk_fault s [] w words)
unfolding walk_fault
walk_one s w [] leaf = none
walk_one s w (word ∷ rest) leaf =
    then_one (turn_fault s [] w word) (walk_fault s [] (walked s.rules [] w word) rest) (turn_one s w word leaf) (walk_one s (walked s.rules [] w word) rest leaf)

default_one : (rows : List Row) (a : Rule) → One (default_fault rows a)
default_one rows a =
    either (has_row a.id rows || is_empty a.defaults) [] (given_default_fault a a.defaults) none
    (then_one (request_kinds (action_of a)) (values_fault a a.defaults) (request_one (action_of a)) (all_one a a.defaults))

defaults_one : (rows : List Row) (rules : List Rule) → One (defaults_fault rows rules)
unfolding defaults_fault
defaults_one rows [] = none
defaults_one rows (a ∷ rest) =
    then_one (default_fault rows a) (defaults_fault (with_default rows a) rest) (default_one rows a) (defaults_one (with_default rows a) rest)

check_one : (x y z : Bool) → One (check_kinds x y z)
check_one true y z = single kind.DisplayHelpOnMissingArgumentOrSubcommand
check_one false true z = single kind.MissingSubcommand
check_one false false true = single kind.MissingRequiredArgument
check_one false false false = none

check_fault_one : (s : Shape) (rows : List Row) (has : Bool) → One (check_fault s rows has)
check_fault_one s rows has = check_one (not has && (s.arg_required_else_help && not (list_any (λ r. explicit_source r.source) rows)))
    (not has && s.subcommand_required)
    (not (s.subcommand_negates_reqs && has) && list_any (λ a. a.required && not (is_given a.id rows)) s.rules)

level_one : (s : Shape) (h : Held) (words : List Text) → s.is_leaf ≡ true → One (level_fault s [] h words false [])
level_one s h words leaf =
    let end = (walk s.rules [] h words).held in
    let on_settling = settle_fault s.rules s.args_override_self end in
    let on_defaults = defaults_fault (settled s.rules end).rows s.rules in
    let on_check = check_fault s (finished s.rules end) false in
    then_one (walk_fault s [] (walk_from h) words) (or_else on_settling (or_else on_defaults on_check)) (walk_one s (walk_from h) words leaf)
    (then_one on_settling (or_else on_defaults on_check) (settle_one s.rules s.args_override_self end)
    (then_one on_defaults on_check (defaults_one (settled s.rules end).rows s.rules) (check_fault_one s (finished s.rules end) false)))

-- at most one kind of error
pub one_kind : (a : App) (words : List Text) → (built a).subs ≡ [] → (built a).top.is_leaf ≡ true → length (fault_of a words) ≤ 1
one_kind a words none leaf =
    let one : One (fault_of a words) = subst One (sym (leaf_fault (built a) nothing_held (argument_words a words) none))
    (level_one (built a).top nothing_held (argument_words a words) leaf) in
    one.most
