-- Where help is among the kinds that a command can answer with, a word asks for it.
use Rattle.std.proofs.Common.{◌≡◌, ◌∙◌, ◌+◌, ◌&&◌, ◌⊎◌, inl, inr, ℕ, Bool, cond, true, false, not, zero, suc, refl, ap, sym, arith, List, [], ◌∷◌, length, drop, min, Option, Some, None, is_some, codes, true≢false, option_map}
use Rattle.std.specs.Prelude.{encode_utf8, slice_get, nat_lt, ◌==◌, ◌||◌, option_and_then, fold}
use Rattle.std.specs.List.{Any, list_any}
use Rattle.std.specs.Option.{option_map_or}
use Rattle.std.specs.Str.{bytes_eq, chars}
use Rattle.clap.specs.Values.{refused_kind, is_request}
use Rattle.clap.specs.ValueTests.{accepts}
use Rattle.clap.specs.Lexer.{long_of, short_of}
use Rattle.clap.specs.Matches.{count_text}
use Rattle.clap.specs.Facts.{explicit_source, parser_of_value, unwrap_or_range}
use Rattle.clap.specs.Takes.{is_given}
use Rattle.clap.specs.Walk.{count_of, has_row, is_empty, is_pending, takes_several, Held, Rule, Row, Step, Text, Waiting, Walk, idle, option, positional, next, trailing, subcommand, value, action_of, arg_by_id, arg_by_index, arg_by_long, arg_by_short, most_values, settled, takes_values, values_or_missing, walk, walk_from, walked, with_default, word_met, finished, nothing_held}
use Rattle.clap.specs.Simple.{Shape}
use Rattle.clap.specs.Kinds.{IsAmong, Kinds, check_kinds, or_else, range_kinds, value_kinds, values_kinds}
use Rattle.clap.specs.Faults.{action_fault, use_fault, settle_fault, react_fault, option_fault, long_fault, short_fault, bundle_step_fault, flags_fault, bundle_fault, flag_word_fault, other_fault, word_fault, positional_fault, stray_fault, step_fault, turn_fault, walk_fault, given_default_fault, default_fault, defaults_fault, check_fault, level_fault, count_fault, values_fault, repeat_fault}
use Rattle.clap.specs.declared.builder.action.ArgAction.{ArgAction}
use Rattle.clap.specs.declared.builder.action.ArgAction.TheVariants as action
use Rattle.clap.specs.declared.builder.value_parser.ValueParser.{ValueParser}
use Rattle.clap.specs.declared.builder.value_parser.ValueParser.TheVariants as vp
use Rattle.std.specs.List.{list_all}
use Rattle.abi_base.proofs.lemmas.Bools.{and_is_true}
use Rattle.clap.specs.declared.error.kind.ErrorKind.{ErrorKind}
use Rattle.clap.specs.declared.error.kind.ErrorKind.TheVariants as kind
use Rattle.cli_args.specs.Words.{AsksForHelp}
use Rattle.cli_args.proofs.CalmWalks.{Calm, CalmWalk, IsCalm, IsCalmFound, IsCalmPending, Plain, calm_walked, calm_word}

abbrev is_help : ErrorKind → Bool
is_help kind.DisplayHelp = true
is_help _ = false

-- where help is among the kinds, C holds
pub record Only (C : Type 0) (kinds : Kinds) : Type 0 where
  pub gives : IsAmong kind.DisplayHelp kinds → C

nothing : (C : Type 0) → Only C []
nothing C = record { gives = λ h. absurd h }

single : (C : Type 0) (k : ErrorKind) → is_help k ≡ false → Only C (k ∷ [])
single C k other = record { gives = λ h. elim h [ inl e ↦ absurd (true≢false (ap is_help e ∙ other)) | inr x ↦ absurd x ] }

granted : (C : Type 0) (kinds : Kinds) → C → Only C kinds
granted C kinds c = record { gives = λ h. c }

either : (C : Type 0) (b : Bool) (x y : Kinds) → Only C x → Only C y → Only C (cond b x y)
either C true x y p q = p
either C false x y p q = q

then_only : (C : Type 0) (a b : Kinds) → Only C a → Only C b → Only C (or_else a b)
then_only C [] b p q = q
then_only C (k ∷ ks) b p q = p

into : (C D : Type 0) (kinds : Kinds) → (C → D) → Only C kinds → Only D kinds
into C D kinds f p = record { gives = λ h. f (p.gives h) }

refused_other : (parser : ValueParser) → is_help (refused_kind parser) ≡ false
refused_other vp.String = refl
refused_other vp.NonEmptyString = refl
refused_other vp.Bool = refl
refused_other vp.Boolish = refl
refused_other vp.Falsey = refl
refused_other (vp.Signed a b) = refl
refused_other (vp.Unsigned a b) = refl
refused_other vp.Float = refl
refused_other vp.Char = refl
refused_other (vp.Names names) = refl
refused_other (vp.Values values) = refl

value_only : (C : Type 0) (ignore : Bool) (parser : ValueParser) (text : Text) → Only C (value_kinds ignore parser text)
value_only C ignore parser text = either C (accepts ignore parser text) [] (refused_kind parser ∷ []) (nothing C) (single C (refused_kind parser) (refused_other parser))

values_only : (C : Type 0) (ignore : Bool) (parser : ValueParser) (vs : List Text) → Only C (values_kinds ignore parser vs)
values_only C ignore parser [] = nothing C
values_only C ignore parser (v ∷ vs) = then_only C (value_kinds ignore parser v) (values_kinds ignore parser vs) (value_only C ignore parser v) (values_only C ignore parser vs)

range_shape : (C : Type 0) (a b c d e : Bool) → Only C (cond a (kind.InvalidValue ∷ []) (cond b (cond c [] (kind.WrongNumberOfValues ∷ []))
    (cond d (kind.TooFewValues ∷ []) (cond e (kind.TooManyValues ∷ []) []))))
range_shape C true b c d e = single C kind.InvalidValue refl
range_shape C false true true d e = nothing C
range_shape C false true false d e = single C kind.WrongNumberOfValues refl
range_shape C false false c true e = single C kind.TooFewValues refl
range_shape C false false c false true = single C kind.TooManyValues refl
range_shape C false false c false false = nothing C

range_only : (C : Type 0) (least most n : ℕ) → Only C (range_kinds least most n)
range_only C least most n = range_shape C (nat_lt 0 least && n == 0) (least == most) (least == n) (nat_lt n least) (nat_lt most n)

all_only : (C : Type 0) (a : Rule) (values : List Text) → Only C (values_fault a values)
all_only C a values = values_only C a.ignore_case (parser_of_value a.parser) values

count_only : (C : Type 0) (a : Rule) (values : List Text) (rows : List Row) → Only C (count_fault a values rows)
count_only C a [] rows = value_only C a.ignore_case (parser_of_value a.parser) (count_text (min (count_of a.id rows + 1) 255))
count_only C a (v ∷ vs) rows = all_only C a (v ∷ vs)

set_only : (C : Type 0) (again : Bool) (a : Rule) (values : List Text) (rows : List Row) → Only C (action_fault action.Set again a values rows)
set_only C again a values rows =
    then_only C (repeat_fault again a.id rows) (values_fault a values)
    (either C (has_row a.id rows && not again) (kind.ArgumentConflict ∷ []) [] (single C kind.ArgumentConflict refl) (nothing C)) (all_only C a values)

action_only : (C : Type 0) (x : ArgAction) (again : Bool) (a : Rule) (values : List Text) (rows : List Row) → is_request x ≡ false → Only C (action_fault x again a values rows)
action_only C action.Set again a values rows calm = set_only C again a values rows
action_only C action.SetTrue again a values rows calm = set_only C again a values rows
action_only C action.SetFalse again a values rows calm = set_only C again a values rows
action_only C action.Append again a values rows calm = all_only C a values
action_only C action.Count again a values rows calm = count_only C a values rows
action_only C action.Help again a values rows calm = absurd (true≢false calm)
action_only C action.HelpShort again a values rows calm = absurd (true≢false calm)
action_only C action.HelpLong again a values rows calm = absurd (true≢false calm)
action_only C action.Version again a values rows calm = absurd (true≢false calm)

use_only : (C : Type 0) (again : Bool) (a : Rule) (values : List Text) (rows : List Row) → IsCalm a → Only C (use_fault again a values rows)
use_only C again a values rows calm =
    then_only C (range_kinds (unwrap_or_range a.range).start_inclusive (most_values a) (length values))
    (action_fault (action_of a) again a (values_or_missing a values) rows)
    (range_only C (unwrap_or_range a.range).start_inclusive (most_values a) (length values))
    (action_only C (action_of a) again a (values_or_missing a values) rows calm)

found_only : (C : Type 0) (again : Bool) (found : Option Rule) (values : List Text) (rows : List Row) → IsCalmFound found → Only C (option_map_or (λ a. use_fault again a values rows) found [])
found_only C again None values rows calm = nothing C
found_only C again (Some a) values rows calm = use_only C again a values rows calm

pending_only : (C : Type 0) (c : List Rule) (again : Bool) (pending : Option (Text × List Text)) (rows : List Row) → IsCalmPending c pending →
    Only C (option_map_or (λ p. option_map_or (λ a. use_fault again a p.1 rows) (arg_by_id c p.0) []) pending [])
pending_only C c again None rows calm = nothing C
pending_only C c again (Some p) rows calm = found_only C again (arg_by_id c p.0) p.1 rows calm

settle_only : (C : Type 0) (c : List Rule) (again : Bool) (h : Held) → Calm c h → Only C (settle_fault c again h)
settle_only C c again h calm = pending_only C c again h.pending h.rows calm.pending

-- ---- what asks for help

react_only : (C : Type 0) (c : List Rule) (again : Bool) (a : Rule) (values : List Text) (h : Held) → IsCalm a → Calm c h → Only C (react_fault c again a values h)
react_only C c again a values h own calm =
    then_only C (settle_fault c again h) (use_fault again a values (settled c h).rows) (settle_only C c again h calm) (use_only C again a values (settled c h).rows own)

option_only : (C : Type 0) (c : List Rule) (again : Bool) (a : Rule) (v : Option Text) (h : Held) → IsCalm a → Calm c h → Only C (option_fault c again a v h)
option_only C c again a (Some v) h own calm = react_only C c again a (v ∷ []) h own calm
option_only C c again a None h own calm = settle_only C c again h calm

long_only : (C : Type 0) (c : List Rule) (again : Bool) (found : Option Rule) (v : Option Text) (h : Held) → ((a : Rule) → found ≡ Some a → IsCalm a ⊎ C) → Calm c h →
    Only C (long_fault c again found v h)
long_only C c again None v h says calm = single C kind.UnknownArgument refl
long_only C c again (Some a) v h says calm = elim (says a refl) [
  | inr asks ↦ granted C (long_fault c again (Some a) v h) asks
  | inl own ↦ either C (takes_values a) (option_fault c again a v h) (cond (is_some v) (kind.TooManyValues ∷ []) (react_fault c again a [] h))
      (option_only C c again a v h own calm)
      (either C (is_some v) (kind.TooManyValues ∷ []) (react_fault c again a [] h) (single C kind.TooManyValues refl) (react_only C c again a [] h own calm))
]

short_only : (C : Type 0) (c : List Rule) (again : Bool) (found : Option Rule) (rest : Text) (h : Held) (later : Held → Kinds) → ((a : Rule) → found ≡ Some a → C) →
    Only C (short_fault c again found rest h later)
short_only C c again None rest h later says = single C kind.UnknownArgument refl
short_only C c again (Some a) rest h later says = granted C (short_fault c again (Some a) rest h later) (says a refl)

bundle_step_only : (C : Type 0) (c : List Rule) (again : Bool) → Plain c → (x : Option ℕ) (flags : Text) (skip : ℕ) (h : Held) (later : Text → ℕ → Held → Kinds) → skip ≡ 0 →
    (x ≡ Some 104 → C) → Only C (bundle_step_fault c again x flags skip h later)
bundle_step_only C c again p None flags skip h later none says = nothing C
bundle_step_only C c again p (Some x) flags zero h later none says =
    short_only C c again (arg_by_short c x) (drop (length (encode_utf8 x)) flags) h (later (drop (length (encode_utf8 x)) flags) 0)
    (λ a e. says (ap Some (p.by_short x a e).0))
bundle_step_only C c again p (Some x) flags (suc skip) h later none says = absurd (omega (arith, none))

flags_only : (C : Type 0) (c : List Rule) (again : Bool) → Plain c → (k : ℕ) (flags : Text) (skip : ℕ) (h : Held) → skip ≡ 0 → (slice_get (chars flags) 0 ≡ Some 104 → C) →
    Only C (flags_fault c again k flags skip h)
unfolding flags_fault
flags_only C c again p zero flags skip h none says = nothing C
flags_only C c again p (suc k) flags skip h none says =
    bundle_step_only C c again p (slice_get (chars flags) 0) flags skip h (flags_fault c again k) none says

short_word_only : (C : Type 0) (c : List Rule) (again : Bool) → Plain c → (found : Option Text) (h : Held) → Calm c h →
    (option_and_then (λ flags. slice_get (chars flags) 0) found ≡ Some 104 → C) → Only C (option_map_or (λ flags. bundle_fault c again flags h) found [])
short_word_only C c again p None h calm says = nothing C
short_word_only C c again p (Some flags) h calm says = flags_only C c again p (length flags) flags h.skip (record h { skip = 0 }) calm.skip says

flag_word_only : (C : Type 0) (c : List Rule) (again : Bool) → Plain c → (found : Option (Text × Option Text)) (word : Text) (h : Held) → Calm c h →
    (option_map (λ q. q.0) found ≡ Some (codes "help") → C) → (option_and_then (λ flags. slice_get (chars flags) 0) (short_of word) ≡ Some 104 → C) →
    Only C (flag_word_fault c again found word h)
flag_word_only C c again p (Some q) word h calm by_long by_short =
    long_only C c again (arg_by_long c q.0) q.1 h
    (λ a e. elim (p.by_long q.0 a e) [ inl own ↦ inl own | inr same ↦ inr (by_long (ap Some same)) ]) calm
flag_word_only C c again p None word h calm by_long by_short = short_word_only C c again p (short_of word) h calm by_short

other_only : (s : Shape) → Plain s.rules → (word : Text) (h : Held) → Calm s.rules h → Only (AsksForHelp word) (other_fault s None word h)
other_only s p word h calm =
    let C = AsksForHelp word in
    either C (bytes_eq word (45 ∷ 45 ∷ [])) [] (flag_word_fault s.rules s.args_override_self (long_of word) word h) (nothing C)
    (flag_word_only C s.rules s.args_override_self p (long_of word) word h calm (λ e. inl e) (λ e. inr e))

word_only : (s : Shape) → Plain s.rules → (is_trailing : Bool) (waiting : Waiting) (word : Text) (h : Held) → Calm s.rules h →
    Only (AsksForHelp word) (word_fault s [] is_trailing waiting word h)
word_only s p is_trailing idle word h calm = either (AsksForHelp word) is_trailing [] (other_fault s None word h) (nothing (AsksForHelp word)) (other_only s p word h calm)
word_only s p is_trailing (option id) word h calm = either (AsksForHelp word) is_trailing [] (other_fault s None word h) (nothing (AsksForHelp word)) (other_only s p word h calm)
word_only s p is_trailing positional word h calm = either (AsksForHelp word) is_trailing [] (other_fault s None word h) (nothing (AsksForHelp word)) (other_only s p word h calm)

stray_only : (C : Type 0) (b : Bool) → Only C (cond b (kind.UnknownArgument ∷ []) (kind.UnknownArgument ∷ kind.InvalidSubcommand ∷ []))
stray_only C true = single C kind.UnknownArgument refl
stray_only C false = record {
  gives = λ h. elim h [
    | inl e ↦ absurd (true≢false (ap is_help e))
    | inr x ↦ elim x [ inl e ↦ absurd (true≢false (ap is_help e)) | inr y ↦ absurd y ]
  ];
}

to_only : (C : Type 0) (s : Shape) (h : Held) (found : Option Rule) → Calm s.rules h →
    Only C (option_map_or (λ a. positional_fault s.rules s.args_override_self a h) found (stray_fault s))
to_only C s h None calm = stray_only C s.is_leaf
to_only C s h (Some a) calm =
    either C (is_pending a h.pending && takes_several a) [] (settle_fault s.rules s.args_override_self h) (nothing C) (settle_only C s.rules s.args_override_self h calm)

step_only : (C : Type 0) (s : Shape) (position : ℕ) (h : Held) (step : Step) → Calm s.rules h → Only C (step_fault s position h step)
step_only C s position h (next waiting) calm = nothing C
step_only C s position h (trailing q) calm = nothing C
step_only C s position h (subcommand name) calm = nothing C
step_only C s position h value calm = to_only C s h (arg_by_index s.rules position) calm

turn_only : (s : Shape) → Plain s.rules → (w : Walk) (word : Text) → CalmWalk s.rules w → Only (AsksForHelp word) (turn_fault s [] w word)
turn_only s p w word calm =
    let C = AsksForHelp word in
    let met = word_met s.rules [] w.is_trailing w.waiting w.position word w.held in
    let here = word_fault s [] w.is_trailing w.waiting word w.held in
    let after = step_fault s w.position met.0 met.1 in
    let ok = calm_word s.rules p w.is_trailing w.waiting w.position word w.held calm.waiting calm.held in
    either C (is_some w.stopped) [] (or_else here after) (nothing C)
    (then_only C here after (word_only s p w.is_trailing w.waiting word w.held calm.held) (step_only C s w.position met.0 met.1 ok.0))

any_first : (word : Text) (rest : List Text) → AsksForHelp word → Any AsksForHelp (word ∷ rest)
any_first word rest asks = (0, word, omega arith, refl, asks)

any_later : (word : Text) (rest : List Text) → Any AsksForHelp rest → Any AsksForHelp (word ∷ rest)
any_later word rest some = (suc some.0, some.1, omega (arith, some.2), some.3, some.4)

walk_only : (s : Shape) → Plain s.rules → (w : Walk) (words : List Text) → CalmWalk s.rules w → Only (Any AsksForHelp words) (walk_fault s [] w words)
unfolding walk_fault
walk_only s p w [] calm = nothing (Any AsksForHelp [])
walk_only s p w (word ∷ rest) calm =
    let C = Any AsksForHelp (word ∷ rest) in
    then_only C (turn_fault s [] w word) (walk_fault s [] (walked s.rules [] w word) rest)
    (into (AsksForHelp word) C (turn_fault s [] w word) (any_first word rest) (turn_only s p w word calm))
    (into (Any AsksForHelp rest) C (walk_fault s [] (walked s.rules [] w word) rest) (any_later word rest)
    (walk_only s p (walked s.rules [] w word) rest (calm_walked s.rules p w word calm)))

calm_end : (c : List Rule) → Plain c → (w : Walk) (words : List Text) → CalmWalk c w → CalmWalk c (fold (walked c []) w words)
calm_end c p w [] calm = calm
calm_end c p w (word ∷ rest) calm = calm_end c p (walked c [] w word) rest (calm_walked c p w word calm)

first_only : (C : Type 0) (a b : Bool) (x : Kinds) → b ≡ true → Only C (cond (a || b) [] x)
first_only C true b x is = nothing C
first_only C false true x is = nothing C
first_only C false false x is = absurd (true≢false (sym is))

defaults_only : (C : Type 0) (rows : List Row) (rules : List Rule) → list_all (λ a. is_empty a.defaults) rules ≡ true → Only C (defaults_fault rows rules)
unfolding defaults_fault
defaults_only C rows [] bare = nothing C
defaults_only C rows (a ∷ rest) bare =
    let both = and_is_true (is_empty a.defaults) (list_all (λ r. is_empty r.defaults) rest) bare in
    then_only C (default_fault rows a) (defaults_fault (with_default rows a) rest)
    (first_only C (has_row a.id rows) (is_empty a.defaults) (given_default_fault a a.defaults) both.0) (defaults_only C (with_default rows a) rest both.1)

check_only : (C : Type 0) (x y z : Bool) → Only C (check_kinds x y z)
check_only C true y z = single C kind.DisplayHelpOnMissingArgumentOrSubcommand refl
check_only C false true z = single C kind.MissingSubcommand refl
check_only C false false true = single C kind.MissingRequiredArgument refl
check_only C false false false = nothing C

check_fault_only : (C : Type 0) (s : Shape) (rows : List Row) (has : Bool) → Only C (check_fault s rows has)
check_fault_only C s rows has = check_only C (not has && (s.arg_required_else_help && not (list_any (λ r. explicit_source r.source) rows)))
    (not has && s.subcommand_required)
    (not (s.subcommand_negates_reqs && has) && list_any (λ a. a.required && not (is_given a.id rows)) s.rules)

calm_start : (c : List Rule) → CalmWalk c (walk_from nothing_held)
calm_start c = record { held = record { pending = tt; skip = refl }; waiting = tt }

pub level_only : (s : Shape) → Plain s.rules → (words : List Text) → list_all (λ a. is_empty a.defaults) s.rules ≡ true →
    Only (Any AsksForHelp words) (level_fault s [] nothing_held words false [])
level_only s p words bare =
    let C = Any AsksForHelp words in
    let end = (walk s.rules [] nothing_held words).held in
    let on_settling = settle_fault s.rules s.args_override_self end in
    let on_defaults = defaults_fault (settled s.rules end).rows s.rules in
    let on_check = check_fault s (finished s.rules end) false in
    let ended = calm_end s.rules p (walk_from nothing_held) words (calm_start s.rules) in
    then_only C (walk_fault s [] (walk_from nothing_held) words) (or_else on_settling (or_else on_defaults on_check))
    (walk_only s p (walk_from nothing_held) words (calm_start s.rules))
    (then_only C on_settling (or_else on_defaults on_check) (settle_only C s.rules s.args_override_self end ended.held)
    (then_only C on_defaults on_check (defaults_only C (settled s.rules end).rows s.rules bare) (check_fault_only C s (finished s.rules end) false)))
