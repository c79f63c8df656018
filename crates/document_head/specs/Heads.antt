-- The members of a document that the outcome, the arguments and the printed text decide.
use Rattle.std.specs.Prelude.{◌≡◌, ◌⊎◌, ℕ, Bool, true, false, List, [], ◌∷◌, Option, Some, None, codes, unwrap_or}
use Rattle.std.specs.Str.{IsUtf8}
use Rattle.abi_base.specs.Fault.{fault_number, fault_name}
use Rattle.abi_base.specs.declared.fault.Fault.{Fault}
use Rattle.abi_base.specs.declared.remark.Remark.{Remark}
use Rattle.abi_base.specs.declared.remark.SizedExports.{SizedExports}
use Rattle.cli_args.specs.Given.{command_of, given_in}
use Rattle.commands.specs.Inputs.{input_word}
use Rattle.commands.specs.Outcomes.{exit_number}
use Rattle.commands.specs.declared.input.Input.{Input}
use Rattle.commands.specs.declared.outcome.Outcome.{Outcome}
use Rattle.commands.specs.declared.outcome.Outcome.TheVariants.{Judged, Unreadable, ReadFault, Help, Usage, NoMemory, WriteFault}
use Rattle.commands.specs.declared.verdict.Verdict.{Verdict}
use Rattle.commands.specs.declared.verdict.Verdict.TheVariants.{Yes, No, Refused, Done}
use Rattle.serde_json.specs.Data.{Data, null, number, unsigned, string, object, Members, member, no_members, put}
use Rattle.serde_json.specs.Find.{get}

-- the object has this value as the member of this name
abbrev pub HasMember : (name : List ℕ) (value document : Data) → Type 0
HasMember name value document = get name document ≡ Some value

-- ---- the values of the members

-- the first argument, and the empty text if there is none
abbrev pub first_word : List (List ℕ) → List ℕ
first_word [] = []
first_word (word ∷ rest) = word

-- the word that stands where a command does, wherever the options stand; if the arguments are no line, the first argument: the member
-- `command`
abbrev pub command_word : List (List ℕ) → List ℕ
command_word words = unwrap_or (command_of (given_in words)) (first_word words)

abbrev pub verdict_word : Verdict → List ℕ
verdict_word Yes = codes "yes"
verdict_word No = codes "no"
verdict_word Refused = codes "refused"
verdict_word Done = codes "done"

-- the word for an outcome: the member `answer`
abbrev pub answer_word : Outcome → List ℕ
answer_word (Judged verdict untyped) = verdict_word verdict
answer_word (Unreadable which fault) = codes "unreadable"
answer_word (ReadFault which) = codes "read fault"
answer_word Help = codes "help"
answer_word Usage = codes "usage"
answer_word (NoMemory cause) = codes "no memory"
answer_word WriteFault = codes "write fault"

-- a fault: its input, its number, its name and its place
abbrev pub fault_object : Input → Fault → Data
fault_object which fault =
    object (member (codes "at") (number (unsigned fault.at)) (member (codes "input") (string (input_word which)) (member (codes "name") (string (fault_name fault.kind)) (member (codes "number") (number (unsigned (fault_number fault.kind))) no_members))))

-- the fault of the outcome, or null if it has none: the member `fault`
abbrev pub fault_value : Outcome → Data
fault_value (Judged verdict untyped) = null
fault_value (Unreadable which fault) = fault_object which fault
fault_value (ReadFault which) = null
fault_value Help = null
fault_value Usage = null
fault_value (NoMemory cause) = null
fault_value WriteFault = null

-- how many exports of a library have a size, and how many of them have no type
abbrev pub sized_object : SizedExports → Data
sized_object exports =
    object (member (codes "all") (number (unsigned exports.all)) (member (codes "untyped") (number (unsigned exports.untyped)) no_members))

abbrev pub remark_value : Option Remark → Data
remark_value None = null
remark_value (Some remark) =
    object (member (codes "new") (sized_object remark.new) (member (codes "old") (sized_object remark.old) no_members))

-- these numbers for both libraries, or null if the outcome has none: the member `untyped`
abbrev pub untyped_value : Outcome → Data
untyped_value (Judged verdict untyped) = remark_value untyped
untyped_value (Unreadable which fault) = null
untyped_value (ReadFault which) = null
untyped_value Help = null
untyped_value Usage = null
untyped_value (NoMemory cause) = null
untyped_value WriteFault = null

-- the verdict is no, so that the text is a report, and the array of the breaks stands in its place
abbrev pub is_no : Verdict → Bool
is_no Yes = false
is_no No = true
is_no Refused = false
is_no Done = false

abbrev pub is_report : Outcome → Bool
is_report (Judged verdict untyped) = is_no verdict
is_report (Unreadable which fault) = false
is_report (ReadFault which) = false
is_report Help = false
is_report Usage = false
is_report (NoMemory cause) = false
is_report WriteFault = false

-- the value is this text, or null if its bytes are not UTF-8
abbrev pub IsTextOf : List ℕ → Data → Type 0
IsTextOf bytes value = (IsUtf8 bytes × (value ≡ string bytes)) ⊎ ((¬ (IsUtf8 bytes)) × (value ≡ null))

abbrev pub IsTextIf : (is_report : Bool) → List ℕ → Data → Type 0
IsTextIf true text value = value ≡ null
IsTextIf false text value = IsTextOf text value

-- the value is the text that `abi` prints, or null if the breaks replace it
abbrev pub IsTextMember : Outcome → (text : List ℕ) (value : Data) → Type 0
IsTextMember outcome text value = IsTextIf (is_report outcome) text value

-- the member `text` is this value
abbrev pub HasText : Outcome → (text : List ℕ) (document : Data) → Type 0
HasText outcome text document = (value : Data) × IsTextMember outcome text value × HasMember (codes "text") value document

-- ---- what the code adds to the other members, the last one first

abbrev pub with_outcome : (command : List ℕ) → Outcome → Members → Members
with_outcome command outcome others =
    put (codes "status") (number (unsigned (exit_number outcome))) (put (codes "answer") (string (answer_word outcome)) (put (codes "command") (string command) (put (codes "format") (number (unsigned 1)) others)))

abbrev pub with_remarks : Outcome → Members → Members
with_remarks outcome others = put (codes "untyped") (untyped_value outcome) (put (codes "fault") (fault_value outcome) others)

abbrev pub with_all : (command : List ℕ) → Outcome → (text : Data) → Members → Members
with_all command outcome text others = put (codes "text") text (with_remarks outcome (with_outcome command outcome others))
