-- The limits that the inputs of the commands on two libraries, on certificates and on trials pass, from their bytes.
use Rattle.std.specs.Prelude.{◌≡◌, ◌<◌, ◌⊎◌, ℕ, List, [], ◌∷◌, length}
use Rattle.abi_base.specs.Budgets.{allowed}
use Rattle.abi_base.specs.declared.limit.Limit.{Limit}
use Rattle.abi_base.specs.declared.limit.Limit.TheVariants.{Certificate, ComposedLines, PairParts}
use Rattle.abi_types.specs.Libraries.{PlainLibrary}
use Rattle.app_check.specs.Imports.{PlainImport, imports_of}
use Rattle.app_check.specs.Imports as imports
use Rattle.cert_check.specs.Compatible.{Sides}
use Rattle.cert_check.specs.Fitting.{lines_allowed, lines_weight}
use Rattle.cert_compose.specs.Chains.{PlainChain}
use Rattle.cert_compose.specs.Composed.{IsComposed}
use Rattle.cert_compose.specs.Limits.{CompositionPasses}
use Rattle.cert_text.specs.Certs.{PlainCert, PlainCert1, migrated}
use Rattle.cert_text.specs.Grammar.{IsSpelled, IsSpelled1}
use Rattle.library_read.specs.Libraries.{library_of}
use Rattle.library_read.specs.Limits.{LibraryPasses}
use Rattle.pair_compare.specs.Limits.{ComparisonPasses}
use Rattle.suppression_text.specs.Classes.{PassesClasses}
use Rattle.suppression_text.specs.Rules.{PlainRules, rules_of}
use Rattle.suppressions.specs.Limits.{MarksPass}
use Rattle.library_check.specs.Applications.{sides_used}
use Rattle.library_check.specs.Compositions.{AreAccepted, PlainFiles, chain_with}
use Rattle.library_check.specs.Judgements.{ruled}
use Rattle.library_check.specs.trial.Trials.{new_library, old_library}

-- one of two libraries passes the limit where it is read
abbrev pub PairPasses : List ℕ → List ℕ → Limit → Type 0
PairPasses old new l = LibraryPasses old l ⊎ LibraryPasses new l

abbrev pub pair_passes : List (List ℕ) → Limit → Type 0
pair_passes (old ∷ new ∷ []) l = PairPasses old new l
pair_passes all l = ⊥

-- one of them does, or the rule file
abbrev pub InputsPass : List ℕ → List ℕ → List ℕ → Limit → Type 0
InputsPass old new rules l = PairPasses old new l ⊎ PassesClasses rules l

abbrev pub inputs_pass : List (List ℕ) → Limit → Type 0
inputs_pass (old ∷ new ∷ rules ∷ []) l = InputsPass old new rules l
inputs_pass all l = ⊥

-- The rule file passes the limit where it is applied to the old library, or the two libraries do where they are compared in all that it
-- does not suppress.
abbrev pub JudgementPasses : PlainLibrary → PlainLibrary → PlainRules → Limit → Type 0
JudgementPasses old new rules l = MarksPass rules old l ⊎ ComparisonPasses (ruled old new rules) l

-- The limit that two libraries and a rule file pass: where they are read, or after that.
abbrev pub CheckPasses : List ℕ → List ℕ → List ℕ → Limit → Type 0
CheckPasses old new rules l = InputsPass old new rules l ⊎ JudgementPasses (library_of old) (library_of new) (rules_of rules) l

-- ---- `verify`

-- The limit is that on parts of pairs of types: the types of the certificate's pair lines have more parts to compare than it allows.
abbrev pub LinesPass : Sides → PlainCert → Limit → Type 0
LinesPass s cert l = (l ≡ PairParts) × (lines_allowed s < lines_weight s cert.pairs)

-- the rule file passes the limit where it is applied, or the certificate does
abbrev pub SettlementPasses : PlainLibrary → PlainLibrary → PlainRules → PlainCert → Limit → Type 0
SettlementPasses old new rules cert l = MarksPass rules old l ⊎ LinesPass (ruled old new rules) cert l

-- the text spells a certificate of which that holds
abbrev pub TextPasses : PlainLibrary → PlainLibrary → PlainRules → List ℕ → Limit → Type 0
TextPasses old new rules certificate l = (cert : PlainCert) × IsSpelled certificate cert × SettlementPasses old new rules cert l

-- The limit that two libraries, a rule file and a certificate pass: where they are read, or after that.
abbrev pub VerifyPasses : List ℕ → List ℕ → List ℕ → List ℕ → Limit → Type 0
VerifyPasses old new rules certificate l = InputsPass old new rules l ⊎ TextPasses (library_of old) (library_of new) (rules_of rules) certificate l

-- ---- `app`

-- The rule file passes the limit where it is applied to the old library, or the two libraries do where they are compared for these
-- imports.
abbrev pub UsedPass : List PlainImport → PlainLibrary → PlainLibrary → PlainRules → Limit → Type 0
UsedPass imports old new rules l = MarksPass rules old l ⊎ ComparisonPasses (sides_used imports old new rules) l

-- The limit that an application, two libraries and a rule file pass: where they are read, or after that.
abbrev pub AppPasses : List ℕ → List ℕ → List ℕ → List ℕ → Limit → Type 0
AppPasses app old new rules l =
    imports.AppPasses app l ⊎ (InputsPass old new rules l ⊎ UsedPass (imports_of app) (library_of old) (library_of new) (rules_of rules) l)

-- ---- `migrate`

-- the text spells a certificate of version 1, and for the migrated certificate that holds
abbrev pub OldTextPasses : PlainLibrary → PlainLibrary → PlainRules → List ℕ → Limit → Type 0
OldTextPasses old new rules certificate l = (cert : PlainCert1) × IsSpelled1 certificate cert × SettlementPasses old new rules (migrated cert) l

-- The limit that two libraries, a rule file and a certificate of version 1 pass: where they are read, or after that.
abbrev pub MigratePasses : List ℕ → List ℕ → List ℕ → List ℕ → Limit → Type 0
MigratePasses old new rules certificate l =
    InputsPass old new rules l ⊎ OldTextPasses (library_of old) (library_of new) (rules_of rules) certificate l

-- ---- `compose`

-- the limit is that on the pair lines of a composed certificate, or that on its bytes, and this certificate has more
abbrev pub WritingPasses : PlainCert → Limit → Type 0
WritingPasses cert l =
    ((l ≡ ComposedLines) × (allowed ComposedLines 0 < length cert.pairs))
    ⊎ ((l ≡ Certificate) × (text : List ℕ) × IsSpelled text cert × (allowed Certificate 0 < length text))

-- the certificate that two certificates compose passes the limit where it is written
abbrev pub ComposedPasses : PlainChain → Limit → Type 0
ComposedPasses ch l = (cert : PlainCert) × IsComposed ch cert × WritingPasses cert l

-- both certificates are accepted, and pass the limit where they are composed, or what they compose does where it is written
abbrev pub JoinPasses : PlainChain → Limit → Type 0
JoinPasses ch l = AreAccepted ch × (CompositionPasses ch l ⊎ ComposedPasses ch l)

-- the second certificate passes the limit where it is checked, with an empty rule file, or both do after that
abbrev pub SecondPasses : PlainChain → Limit → Type 0
SecondPasses ch l = SettlementPasses ch.middle ch.last (rules_of []) ch.other l ⊎ JoinPasses ch l

-- the first certificate passes the limit where it is checked, with an empty rule file, or both do after that
abbrev pub ChainPasses : PlainChain → Limit → Type 0
ChainPasses ch l = SettlementPasses ch.first ch.middle (rules_of []) ch.one l ⊎ SecondPasses ch l

-- one of three libraries passes the limit where it is read
abbrev pub LibrariesPass : List ℕ → List ℕ → List ℕ → Limit → Type 0
LibrariesPass first middle last l = LibraryPasses first l ⊎ (LibraryPasses middle l ⊎ LibraryPasses last l)

-- the texts spell two certificates that pass the limit
abbrev pub TextsPass : PlainFiles → Limit → Type 0
TextsPass p l =
    (one other : PlainCert) × IsSpelled p.certificate1 one × IsSpelled p.certificate2 other × ChainPasses (chain_with p one other) l

-- The limit that three libraries and two certificates pass: where the libraries are read, or after that.
abbrev pub ComposePasses : PlainFiles → Limit → Type 0
ComposePasses p l = LibrariesPass p.first p.middle p.last l ⊎ TextsPass p l

-- ---- `trial`

-- The limit that the two libraries of a trial pass: as `check` of them does, with an empty rule file.
abbrev pub TrialPasses : ℕ → Limit → Type 0
TrialPasses n l = CheckPasses (old_library n) (new_library n) [] l
