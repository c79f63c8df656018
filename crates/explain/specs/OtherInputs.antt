-- Certificates of other files: the input that a refusal with the number 70 is about, and what is said of it.
use Rattle.std.specs.Prelude.{◌≡◌, ◌++◌, ℕ, List, [], ◌∷◌, Option, Some, None, codes, find}
use Rattle.std.specs.List.{concat}
use Rattle.std.specs.Str.{bytes_eq}
use Rattle.commands.specs.Commands.{PlainFile}
use Rattle.commands.specs.declared.input.Input.{Input}
use Rattle.commands.specs.declared.input.Input.TheVariants as input
use Rattle.explain.specs.Notes.{OnName}
use Rattle.explain.specs.Sentences.{said_of}
use Rattle.explain.specs.declared.other_inputs.OtherInput.{OtherInput}
use Rattle.explain.specs.declared.other_inputs.OtherInput.TheVariants.{Old, New, Rules, FirstOld, FirstNew, FirstRules, SecondOld, SecondNew, SecondRules}

-- The answer that is about an input. Its last number is a line of the certificate: line 2 has the digest of the old library, line 3
-- that of the new one, and line 4 that of the rule file. `compose` has two certificates.
abbrev pub answer_on : OtherInput → List ℕ
answer_on Old = codes "refused 70 OtherInput 2" ++ 10 ∷ []
answer_on New = codes "refused 70 OtherInput 3" ++ 10 ∷ []
answer_on Rules = codes "refused 70 OtherInput 4" ++ 10 ∷ []
answer_on FirstOld = codes "refused first 70 OtherInput 2" ++ 10 ∷ []
answer_on FirstNew = codes "refused first 70 OtherInput 3" ++ 10 ∷ []
answer_on FirstRules = codes "refused first 70 OtherInput 4" ++ 10 ∷ []
answer_on SecondOld = codes "refused second 70 OtherInput 2" ++ 10 ∷ []
answer_on SecondNew = codes "refused second 70 OtherInput 3" ++ 10 ∷ []
answer_on SecondRules = codes "refused second 70 OtherInput 4" ++ 10 ∷ []

abbrev pub all_others : List OtherInput
all_others = Old ∷ New ∷ Rules ∷ FirstOld ∷ FirstNew ∷ FirstRules ∷ SecondOld ∷ SecondNew ∷ SecondRules ∷ []

-- the input that an answer is about, if the answer is one of these
unfoldable pub other_input : List ℕ → Option OtherInput
other_input answer = find (λ other. bytes_eq answer (answer_on other)) all_others

-- the words about a file that is not the one of the certificate with this role
abbrev pub other_words : (role certificate : List ℕ) → List ℕ
other_words role certificate = concat (codes "it is not the " ∷ role ∷ codes " of the certificate " ∷ certificate ∷ [])

-- the words about a certificate with a rule file, if none is given
abbrev pub ruleless_words : List ℕ
ruleless_words = codes "it was made with a rule file, and none is given"

-- The sentence on an input that is not the one of a certificate with this role: on the input, or on the certificate if the input has
-- no name, as a rule file that is not given.
abbrev pub TellsOf : List PlainFile → (certificate which : Input) → (role : List ℕ) → Option (List ℕ) → Type 0
TellsOf files certificate which role sentence = OnName files certificate (λ name. OnName files which
    (λ path. sentence ≡ Some (said_of path (other_words role name)))
    (sentence ≡ Some (said_of name ruleless_words))) (sentence ≡ None)

-- for each input, the certificate, the input that should be the one of the certificate, and its role there
abbrev pub TellsOther : List PlainFile → OtherInput → Option (List ℕ) → Type 0
TellsOther files Old sentence = TellsOf files input.Certificate input.Old (codes "old library") sentence
TellsOther files New sentence = TellsOf files input.Certificate input.New (codes "new library") sentence
TellsOther files Rules sentence = TellsOf files input.Certificate input.Rules (codes "rule file") sentence
TellsOther files FirstOld sentence = TellsOf files input.Certificate1 input.First (codes "old library") sentence
TellsOther files FirstNew sentence = TellsOf files input.Certificate1 input.Middle (codes "new library") sentence
TellsOther files FirstRules sentence = TellsOf files input.Certificate1 input.Rules (codes "rule file") sentence
TellsOther files SecondOld sentence = TellsOf files input.Certificate2 input.Middle (codes "old library") sentence
TellsOther files SecondNew sentence = TellsOf files input.Certificate2 input.Last (codes "new library") sentence
TellsOther files SecondRules sentence = TellsOf files input.Certificate2 input.Rules (codes "rule file") sentence

-- the sentence on an answer, if it is about an input that is not the one of a certificate
abbrev pub TellsOtherInput : List PlainFile → Option OtherInput → Option (List ℕ) → Type 0
TellsOtherInput files (Some other) sentence = TellsOther files other sentence
TellsOtherInput files None sentence = sentence ≡ None
