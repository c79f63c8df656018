-- The objects of the inputs in a document. A file is the list of its bytes.
use Rattle.std.specs.Prelude.{◌≡◌, ◌⊎◌, ◌≤◌, ◌&&◌, ℕ, Bool, true, false, List, [], ◌∷◌, Option, Some, None, codes, if◌then◌else◌, is_none, length}
use Rattle.hex.specs.Hex.{encode_lower}
use Rattle.sha2.specs.Sha256.{sha256}
use Rattle.abi_base.specs.Limits.{input_limit}
use Rattle.commands.specs.Commands.{PlainFile}
use Rattle.commands.specs.Inputs.{input_word}
use Rattle.commands.specs.Read.{HasBytes}
use Rattle.commands.specs.declared.input.Input.{Input}
use Rattle.commands.specs.declared.input.Input.TheVariants.{Old, New, Rules, Certificate, Library, First, Middle, Last, Certificate1, Certificate2, App}
use Rattle.elf.specs.file.Elf.{elf_fault}
use Rattle.elf.specs.symbols.Dynamic.{dynamic_fault, soname_of}
use Rattle.commands.specs.declared.outcome.Outcome.{Outcome}
use Rattle.serde_json.specs.Data.{Data, null, string, array, object, Members, member, no_members, put}
use Rattle.serde_json.specs.View.{items_of}
use Rattle.document_head.specs.Heads.{HasMember, IsTextOf, is_report}

-- an input is a library or an application: neither a rule file nor a certificate
abbrev pub is_library : Input → Bool
is_library Old = true
is_library New = true
is_library Rules = false
is_library Certificate = false
is_library Library = true
is_library First = true
is_library Middle = true
is_library Last = true
is_library Certificate1 = false
is_library Certificate2 = false
is_library App = true

-- the soname in a file, if neither its header, its sections nor its dynamic table have a fault
unfoldable pub soname_in : List ℕ → Option (List ℕ)
soname_in file = if is_none (elf_fault file) && is_none (dynamic_fault file) then soname_of file else None

-- the value is this soname as a text, or null if there is none or it is not UTF-8
abbrev pub IsNameOf : Option (List ℕ) → Data → Type 0
IsNameOf None value = value ≡ null
IsNameOf (Some name) value = IsTextOf name value

-- the member `soname`: null for an input that is no library
abbrev pub IsSoname : Input → (file : List ℕ) → Data → Type 0
IsSoname which file value = IsNameOf (if is_library which then soname_in file else None) value

-- the member `sha256`: the SHA-256 in lower-case hexadecimal (FIPS 180-4), or null if it is not wanted
abbrev pub digest_value : (with_digests : Bool) (file : List ℕ) → Data
digest_value true file = string (encode_lower (sha256 file))
digest_value false file = null

-- the object of an input: its role, its name, its SHA-256 and its soname
abbrev pub input_object : PlainFile → (digest soname : Data) → Data
input_object input digest soname =
    object (member (codes "input") (string (input_word input.0)) (member (codes "name") (string input.1) (member (codes "sha256") digest (member (codes "soname") soname no_members))))

-- What a document shows of inputs: whether their digests, and the bytes of an input, if they were read.
pub record Shown : Type 1 where
  pub digests : Bool
  pub has : Input → List ℕ → Type 0

-- with digests or without, and the bytes that were read of the inputs with these roles
abbrev pub shown_of : (with_digests : Bool) (roles : List Input) (all : List (List ℕ)) → Shown
shown_of with_digests roles all = record { digests = with_digests; has = HasBytes roles all }

-- the object of an input with these bytes
pub record IsOfFile (with_digests : Bool) (input : PlainFile) (file : List ℕ) (value : Data) : Type 0 where
  pub soname : Data
  pub soname_is : IsSoname input.0 file soname
  pub is : value ≡ input_object input (digest_value with_digests file) soname

-- the object of an input whose bytes were read
pub record IsOfBytes (shown : Shown) (input : PlainFile) (value : Data) : Type 0 where
  pub file : List ℕ
  pub read : shown.has input.0 file
  pub within : length file ≤ input_limit
  pub of_file : IsOfFile shown.digests input file value

-- the object of an input: by the bytes that were read, or without facts about them if it was not read whole
abbrev pub IsInput : (shown : Shown) → PlainFile → Data → Type 0
IsInput shown input value = IsOfBytes shown input value ⊎ (value ≡ input_object input null null)

-- one object for each input, in order
abbrev pub AreInputs : (shown : Shown) → List PlainFile → List Data → Type 0
AreInputs shown [] [] = Unit {0}
AreInputs shown [] (value ∷ values) = ⊥
AreInputs shown (input ∷ inputs) [] = ⊥
AreInputs shown (input ∷ inputs) (value ∷ values) = IsInput shown input value × AreInputs shown inputs values

-- the member `inputs` is the array of their objects
abbrev pub HasInputs : (shown : Shown) → List PlainFile → (document : Data) → Type 0
HasInputs shown files document =
    (values : List Data) × AreInputs shown files values × HasMember (codes "inputs") (array (items_of values)) document

-- ---- facts about types

-- the facts about the types that breaks name, or null if there is no report
abbrev pub facts_value : Outcome → Members → Data
facts_value outcome facts = if is_report outcome then object facts else null

-- a member of facts about types
abbrev pub HasFacts : (name : List ℕ) → Outcome → (document : Data) → Type 0
HasFacts name outcome document = (facts : Members) × HasMember name (facts_value outcome facts) document

-- what the code adds about the inputs, the last member first
pub record AddsInputs (outcome : Outcome) (shown : Shown) (files : List PlainFile) (old new : Members) : Type 0 where
  pub places : Members
  pub types : Members
  pub values : List Data
  pub are : AreInputs shown files values
  pub is : new ≡ put (codes "inputs") (array (items_of values)) (put (codes "types") (facts_value outcome types) (put (codes "places") (facts_value outcome places) old))
