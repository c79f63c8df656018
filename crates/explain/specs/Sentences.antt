-- The sentences for users.
use Rattle.std.specs.Prelude.{◌≡◌, ◌==◌, ◌&&◌, ◌++◌, ℕ, Bool, false, List, [], ◌∷◌, codes, decimal, if◌then◌else◌, nat_lt}
use Rattle.std.specs.List.{concat}
use Rattle.abi_base.specs.Fault.{fault_number, fault_name}
use Rattle.abi_base.specs.declared.fault.Fault.{Fault}
use Rattle.abi_base.specs.declared.remark.SizedExports.{SizedExports}
use Rattle.abi_base.specs.declared.remark.Remark.{Remark}
use Rattle.cli_args.specs.WrongWords.{PlainWrong, missing_command, unknown_command, needless_option, wrong_count, unknown_style, wrong_number, unknown_option, missing_value, repeated_option, needless_value, other_words}
use Rattle.cli_args.specs.declared.wrong.OptionName.{OptionName}
use Rattle.cli_args.specs.declared.wrong.OptionName.TheVariants.{Rules, Report}
use Rattle.explain.specs.Faults.{fault_words, has_more}
use Rattle.explain.specs.Lines.{in_line}
use Rattle.explain.specs.NearCommands.{IsOfUnknown, count_words}

-- the sentence about an input at a path
abbrev pub said_of : List ℕ → List ℕ → List ℕ
said_of path said = concat (in_line path ∷ codes ": " ∷ in_line said ∷ [])

-- the number, the name and the position of a fault
abbrev pub fault_mark : Fault → List ℕ
fault_mark fault = concat (codes " (fault " ∷ decimal (fault_number fault.kind) ∷ codes " " ∷ fault_name fault.kind ∷ codes " at " ∷ decimal fault.at ∷ codes ")" ∷ [])

-- The sentence about an input at a path, with these bytes, that has this fault: the fault in words, and then its number, its name and
-- its position. `more` says what a rule file may have in place of the line; only an unknown
-- section and an unknown property have it.
pub record SaysFault (path : List ℕ) (fault : Fault) (bytes text : List ℕ) : Type 0 where
  pub more : List ℕ
  pub only : has_more fault.kind ≡ false → more ≡ []
  pub is : text ≡ concat (said_of path (fault_words fault bytes ++ more) ∷ fault_mark fault ∷ [])

-- the words about a library some of whose exports have no type in the debug information
abbrev pub untyped_words : SizedExports → List ℕ
untyped_words exports =
    if exports.untyped == exports.all then codes "the debug information has no types for the exports: only names, versions, kinds and the sizes of objects were compared; compile with -g to compare types"
    else concat (codes "the debug information has no type for " ∷ decimal exports.untyped ∷ codes " of the " ∷ decimal exports.all ∷ codes " exports that have a size: of these only names, versions, kinds and the sizes of objects were compared" ∷ [])

-- a library has exports with a size, but types for none of them
abbrev pub lacks_types : SizedExports → Bool
lacks_types exports = nat_lt 0 exports.all && (exports.untyped == exports.all)

-- a library has a type for an export with a size
abbrev pub has_types : SizedExports → Bool
has_types exports = nat_lt exports.untyped exports.all

-- the new library lost the types that the old one has
abbrev pub loses_types : Remark → Bool
loses_types remark = has_types remark.old && lacks_types remark.new

-- the words about a library without types, if the old one, at this path, has some
abbrev pub lost_words : List ℕ → List ℕ
lost_words old =
    concat (codes "the debug information has no types for the exports, but that of " ∷ old ∷ codes " has: whether their types broke cannot be told" ∷ [])

-- the words about a library none of whose exports has a size
abbrev pub sizeless_words : List ℕ
sizeless_words = codes "none of its exports has a size: names, versions and kinds were compared, and types only where an export without a size has one"

-- the words about a certificate that does not prove what it should
abbrev pub refused_words : (old new : List ℕ) → List ℕ
refused_words old new = concat (codes "the certificate does not prove that " ∷ new ∷ codes " may replace " ∷ old ∷ [])

-- the words about the first of two certificates that do not compose
abbrev pub uncomposed_words : (second first last : List ℕ) → List ℕ
uncomposed_words second first last = concat (codes "with " ∷ second ∷ codes " it does not prove that " ∷ last ∷ codes " may replace " ∷ first ∷ [])

-- the sentence about an unknown command, which offers the nearest one, or lists all if none is near
abbrev pub SaysUnknown : List ℕ → List ℕ → Type 0
SaysUnknown word text = (words : List ℕ) × IsOfUnknown word words × (text ≡ said_of word words)

-- the words about an option that a command does not take
abbrev pub needless_words : OptionName → List ℕ
needless_words Rules = codes "it takes no --rules FILE"
needless_words Report = codes "it takes no --report STYLE"

-- The sentence about wrong arguments: what is wrong with the argument at fault, if there is one.
abbrev pub SaysWrong : PlainWrong → List ℕ → Type 0
SaysWrong missing_command text = text ≡ codes "no command is given"
SaysWrong (unknown_command word) text = SaysUnknown word text
SaysWrong (needless_option command option) text = text ≡ said_of command (needless_words option)
SaysWrong (wrong_count command wanted given) text = text ≡ said_of command (count_words command given)
SaysWrong (unknown_style word) text = text ≡ said_of word (codes "it is no style of reports; the styles are text, table, counts, first and own")
SaysWrong (wrong_number word) text = text ≡ said_of word (codes "it is no number from 1 to 50000 in decimal")
SaysWrong (unknown_option word) text = text ≡ said_of word (codes "it is no option; the options are --rules FILE and --report STYLE")
SaysWrong (missing_value option) text = text ≡ said_of option (codes "the option has no value")
SaysWrong (repeated_option option) text = text ≡ said_of option (codes "the option is given twice")
SaysWrong (needless_value option) text = text ≡ said_of option (codes "the option takes no value")
SaysWrong other_words text = text ≡ codes "the words fit no command"

-- what is said of arguments of which one is not UTF-8
abbrev pub encoding_words : List ℕ
encoding_words = codes "an argument is not UTF-8; only files whose names are UTF-8 can be given"

-- the words about a rule file with a line whose value contains ` #` or ` ;`
abbrev pub comment_words : List ℕ → List ℕ
comment_words line = concat (codes "a comment stands on a line of its own, so what looks like one is a part of the value: " ∷ line ∷ [])
