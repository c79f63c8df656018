-- How `clap` walks over a command, its options and its files, where the words that are no option begin with no `-` (45).
use Rattle.std.proofs.Common.{◌≡◌, ◌∙◌, ◌≤◌, ◌++◌, ℕ, Bool, cond, true, false, List, [], ◌∷◌, Option, Some, None, codes, ap, sym, refl, arith, eqb-true, append_assoc, append-nil}
use Rattle.std.specs.Prelude.{slice_get, fold, unwrap_or, IfSome, ◌==◌, ◌&&◌}
use Rattle.std.specs.Str.{bytes_eq}
use Rattle.std.specs.Option.{option_map_or}
use Rattle.std.specs.List.{AllByRecursion}
use Rattle.std.proofs.lemmas.Slice.Eq.{bytes_eq-Decides}
use Rattle.clap.specs.Lexer.{long_of, short_of, usize_max}
use Rattle.clap.specs.Kinds.{Kinds, or_else, range_kinds, values_kinds}
use Rattle.clap.specs.Walk.{Held, Rule, Step, Text, Waiting, Walk, idle, option, positional, trailing, after_step, arg_by_index, long_or_other, is_pending, nothing_held, plain_word, pushed, settled, short_or_plain, subcommand_met, subcommand_or_other, takes_several, walk_from, walked, word_met}
use Rattle.clap.specs.Simple.{Shape, built}
use Rattle.clap.specs.Faults.{bundle_fault, flag_word_fault, other_fault, settle_fault, step_fault, turn_fault, walk_fault, word_fault}
use Rattle.clap.specs.declared.builder.value_parser.ValueParser.TheVariants as vp
use Rattle.clap.proofs.OnLiterals.{clap_on_literals}
use Rattle.cli_args.specs.Words.{IsNoOption}
use Rattle.cli_args.specs.Line.{line_app, files_rule, option_words}

-- ---- such a word is no long option, no short option and not `--`

not_minus : (x : ℕ) (xs : Text) → IsNoOption (x ∷ xs) → (x == 45) ≡ false
not_minus x xs plain = go (x == 45) refl
  where
    go : (b : Bool) → (x == 45) ≡ b → b ≡ false
    go true e = absurd (plain (ap Some (eqb-true x 45 e)))
    go false e = refl

no_long : (word : Text) → IsNoOption word → long_of word ≡ None
no_long [] plain = refl
no_long (x ∷ xs) plain = rw (not_minus x xs plain) refl

no_short : (word : Text) → IsNoOption word → short_of word ≡ None
no_short [] plain = refl
no_short (x ∷ xs) plain = rw (not_minus x xs plain) refl

no_dashes : (word : Text) → IsNoOption word → bytes_eq word (45 ∷ 45 ∷ []) ≡ false
no_dashes word plain = go (bytes_eq word (45 ∷ 45 ∷ [])) refl
  where
    go : (b : Bool) → bytes_eq word (45 ∷ 45 ∷ []) ≡ b → b ≡ false
    go true e = absurd (plain (ap (λ (w : Text). slice_get w 0) ((bytes_eq-Decides word (45 ∷ 45 ∷ [])).0 e)))
    go false e = refl

-- ---- so it is a value of what waits, or of a positional

abbrev pub at : Held → Waiting → ℕ → Walk
at h waiting position = record { held = h; waiting = waiting; position = position; is_trailing = false; stopped = None }

abbrev IsNoName : Waiting → Type 0
IsNoName waiting = (word : Text) → subcommand_met [] waiting word ≡ None

met : (c : List Rule) (waiting : Waiting) (position : ℕ) (word : Text) (h : Held) → IsNoOption word → IsNoName waiting
    → word_met c [] false waiting position word h ≡ plain_word c waiting word h
met c waiting position word h plain free =
    ap (λ (s : Option Text). subcommand_or_other c s waiting position word h) (free word)
    ∙ ap (λ (b : Bool). cond b (h, trailing position) (long_or_other c waiting word (long_of word) h)) (no_dashes word plain)
    ∙ ap (λ (l : Option (Text × Option Text)). long_or_other c waiting word l h) (no_long word plain)
    ∙ ap (λ (s : Option Text). short_or_plain c waiting word s h) (no_short word plain)

stepped : (c : List Rule) (waiting : Waiting) (position : ℕ) (word : Text) (h : Held) → IsNoOption word → IsNoName waiting
    → walked c [] (at h waiting position) word ≡ after_step c word (at h waiting position) (plain_word c waiting word h).0 (plain_word c waiting word h).1
unfolding walked
stepped c waiting position word h plain free =
    ap (λ (m : Held × Step). after_step c word (at h waiting position) m.0 m.1) (met c waiting position word h plain free)

no_word_fault : (s : Shape) (waiting : Waiting) (word : Text) (h : Held) → IsNoOption word → IsNoName waiting → word_fault s [] false waiting word h ≡ []
no_word_fault s waiting word h plain free =
    ap (λ (o : Option Text). other_fault s o word h) (free word)
    ∙ ap (λ (b : Bool). cond b [] (flag_word_fault s.rules s.args_override_self (long_of word) word h)) (no_dashes word plain)
    ∙ ap (λ (l : Option (Text × Option Text)). flag_word_fault s.rules s.args_override_self l word h) (no_long word plain)
    ∙ ap (λ (o : Option Text). option_map_or (λ flags. bundle_fault s.rules s.args_override_self flags h) o []) (no_short word plain)

turned : (s : Shape) (waiting : Waiting) (position : ℕ) (word : Text) (h : Held) → IsNoOption word → IsNoName waiting
    → turn_fault s [] (at h waiting position) word ≡ step_fault s position (plain_word s.rules waiting word h).0 (plain_word s.rules waiting word h).1
turned s waiting position word h plain free =
    let m = word_met s.rules [] false waiting position word h in
    ap (λ (k : Kinds). or_else k (step_fault s position m.0 m.1)) (no_word_fault s waiting word h plain free)
    ∙ ap (λ (n : Held × Step). step_fault s position n.0 n.1) (met s.rules waiting position word h plain free)

-- ---- the command

abbrev pub shape : Shape
shape = (built line_app).top

abbrev pub rules : List Rule
rules = shape.rules

abbrev pub held_fault : Held → Kinds
held_fault h = settle_fault rules shape.args_override_self h

abbrev pub with_command : Text → Held
with_command command = record { rows = []; pending = Some (codes "command", command ∷ []); skip = 0 }

pub command_read : (command : Text) → IsNoOption command → walked rules [] (walk_from nothing_held) command ≡ at (with_command command) idle 2
command_read command plain = stepped rules idle 1 command nothing_held plain (λ word. refl)

pub no_command_fault : (command : Text) → IsNoOption command → turn_fault shape [] (walk_from nothing_held) command ≡ []
no_command_fault command plain = turned shape idle 1 command nothing_held plain (λ word. refl)

-- ---- an option and its value

-- the option waits for its value
abbrev waiting_held : Text → Held → Held
waiting_held id h = record (settled rules h) { pending = Some (id, []) }

abbrev valued_held : Text → Text → Held → Held
valued_held id text h = record (settled rules h) { pending = Some (id, text ∷ []) }

abbrev pub with_option : Text → Option Text → Held → Held
with_option id None h = h
with_option id (Some text) h = valued_held id text h

-- the word names the option of this id
pub record IsOption (word id : Text) : Type 0 where
  opens : (h : Held) → walked rules [] (at h idle 2) word ≡ at (waiting_held id h) (option id) 2
  no_fault : (h : Held) → held_fault h ≡ [] → turn_fault shape [] (at h idle 2) word ≡ []
  takes : (h : Held) (text : Text)
      → after_step rules text (at (waiting_held id h) (option id) 2) (plain_word rules (option id) text (waiting_held id h)).0 (plain_word rules (option id) text (waiting_held id h)).1
      ≡ at (valued_held id text h) idle 2

pub rules_option : IsOption (codes "--rules") (codes "rules")
unfolding clap_on_literals
rules_option = record { opens = λ h. refl; no_fault = λ h right. ap (λ (k : Kinds). or_else k []) right; takes = λ h text. refl }

pub report_option : IsOption (codes "--report") (codes "report")
unfolding clap_on_literals
report_option = record { opens = λ h. refl; no_fault = λ h right. ap (λ (k : Kinds). or_else k []) right; takes = λ h text. refl }

option_read : (word id : Text) → IsOption word id → (h : Held) (text : Text) → IsNoOption text
    → walked rules [] (walked rules [] (at h idle 2) word) text ≡ at (valued_held id text h) idle 2
option_read word id is h text plain =
    ap (λ (w : Walk). walked rules [] w text) (is.opens h) ∙ stepped rules (option id) 2 text (waiting_held id h) plain (λ w. refl) ∙ is.takes h text

pub options_read : (word id : Text) → IsOption word id → (given : Option Text) (h : Held) (rest : List Text) → IfSome given IsNoOption
    → fold (walked rules []) (at h idle 2) (option_words word given ++ rest) ≡ fold (walked rules []) (at (with_option id given h) idle 2) rest
options_read word id is None h rest plain = refl
options_read word id is (Some text) h rest plain = ap (λ (w : Walk). fold (walked rules []) w rest) (option_read word id is h text plain)

no_value_fault : (word id : Text) → IsOption word id → (h : Held) (text : Text) → IsNoOption text → turn_fault shape [] (walked rules [] (at h idle 2) word) text ≡ []
no_value_fault word id is h text plain =
    ap (λ (w : Walk). turn_fault shape [] w text) (is.opens h) ∙ turned shape (option id) 2 text (waiting_held id h) plain (λ w. refl)

pub no_options_fault : (word id : Text) → IsOption word id → (given : Option Text) (h : Held) (rest : List Text) → IfSome given IsNoOption → held_fault h ≡ []
    → walk_fault shape [] (at h idle 2) (option_words word given ++ rest) ≡ walk_fault shape [] (at (with_option id given h) idle 2) rest
unfolding walk_fault
no_options_fault word id is None h rest plain right = refl
no_options_fault word id is (Some text) h rest plain right =
    let opened = walked rules [] (at h idle 2) word in
    ap (λ (k : Kinds). or_else k (walk_fault shape [] opened (text ∷ rest))) (is.no_fault h right)
    ∙ ap (λ (k : Kinds). or_else k (walk_fault shape [] (walked rules [] opened text) rest)) (no_value_fault word id is h text plain)
    ∙ ap (λ (w : Walk). walk_fault shape [] w rest) (option_read word id is h text plain)

-- ---- the files

abbrev files_arg : Rule
files_arg = unwrap_or (arg_by_index rules 2) files_rule

-- the files are not what is held
abbrev pub IsBefore : Held → Type 0
IsBefore h = is_pending files_arg h.pending ≡ false

abbrev pub with_files : Held → List Text → Held
with_files h files = record (settled rules h) { pending = Some (codes "files", files) }

abbrev pub after_files : Held → List Text → Walk
after_files h files = at (with_files h files) positional 2

pub first_read : (h : Held) (file : Text) → IsNoOption file → IsBefore h → walked rules [] (at h idle 2) file ≡ after_files h (file ∷ [])
first_read h file plain before =
    stepped rules idle 2 file h plain (λ word. refl)
    ∙ ap (λ (b : Bool). at (pushed (codes "files") file (cond (b && takes_several files_arg) h (settled rules h))) positional 2) before

later_read : (h : Held) (files : List Text) (file : Text) → IsNoOption file → walked rules [] (after_files h files) file ≡ after_files h (files ++ file ∷ [])
later_read h files file plain = stepped rules positional 2 file (with_files h files) plain (λ word. refl)

pub files_read : (h : Held) (files rest : List Text) → AllByRecursion IsNoOption rest → fold (walked rules []) (after_files h files) rest ≡ after_files h (files ++ rest)
files_read h files [] plain = ap (after_files h) (sym (append-nil files))
files_read h files (file ∷ rest) plain =
    ap (λ (w : Walk). fold (walked rules []) w rest) (later_read h files file plain.0)
    ∙ files_read h (files ++ file ∷ []) rest plain.1 ∙ ap (after_files h) (append_assoc files (file ∷ []) rest)

pub no_first_fault : (h : Held) (file : Text) → IsNoOption file → IsBefore h → held_fault h ≡ [] → turn_fault shape [] (at h idle 2) file ≡ []
no_first_fault h file plain before right =
    turned shape idle 2 file h plain (λ word. refl) ∙ ap (λ (b : Bool). cond (b && takes_several files_arg) [] (held_fault h)) before ∙ right

no_later_fault : (h : Held) (files : List Text) (file : Text) → IsNoOption file → turn_fault shape [] (after_files h files) file ≡ []
no_later_fault h files file plain = turned shape positional 2 file (with_files h files) plain (λ word. refl)

pub no_files_fault : (h : Held) (files rest : List Text) → AllByRecursion IsNoOption rest → walk_fault shape [] (after_files h files) rest ≡ []
unfolding walk_fault
no_files_fault h files [] plain = refl
no_files_fault h files (file ∷ rest) plain =
    ap (λ (k : Kinds). or_else k (walk_fault shape [] (walked rules [] (after_files h files) file) rest)) (no_later_fault h files file plain.0)
    ∙ ap (λ (w : Walk). walk_fault shape [] w rest) (later_read h files file plain.0)
    ∙ no_files_fault h (files ++ file ∷ []) rest plain.1

-- ---- their number and their texts

pub texts_pass : (files : List Text) → values_kinds false vp.String files ≡ []
texts_pass [] = refl
texts_pass (file ∷ rest) = texts_pass rest

pub any_number : (n : ℕ) → n ≤ usize_max → range_kinds 0 usize_max n ≡ []
any_number n few = grind arith
