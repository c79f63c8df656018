-- What is said of a certificate for libraries and a rule file that were read holds of their bytes and of its text.
use Rattle.std.proofs.Common.{◌≡◌, ℕ, List, Option, Some, None, subst}
use Rattle.abi_types.specs.Graphs.{IsGraph}
use Rattle.abi_types.specs.Libraries.{AreNumbered, PlainLibrary}
use Rattle.abi_types.specs.declared.library.Marks.{Marks}
use Rattle.cert_check.specs.Accepted.{Case, IsAccepted, asked}
use Rattle.cert_check.specs.Compatible.{IsCompatible, sides, task_of}
use Rattle.cert_check.specs.declared.refused.Refused.{Refused}
use Rattle.cert_text.specs.Certs.{PlainCert}
use Rattle.cert_text.specs.Grammar.{IsSpelled}
use Rattle.pair_compare.specs.Marking.{AreMarksOf}
use Rattle.library_read.specs.Libraries.{library_of}
use Rattle.pair_rules.specs.Stable.{AreEven}
use Rattle.suppression_text.specs.Rules.{PlainRules, rules_of}
use Rattle.suppressions.specs.Marks.{marks_of}
use Rattle.library_check.specs.Checks.{sides_of}
use Rattle.library_check.specs.Judgements.{ruled}
use Rattle.library_check.specs.Verifications.{IsSettled, IsVerified, case_for}

-- an accepted certificate is a proof
abbrev pub Proves : Type 0
Proves = (c : Case) → AreNumbered c.sides.old.exports → IsGraph c.sides.old.graph → IsGraph c.sides.new.graph → AreEven (task_of c.sides) → IsAccepted c → IsCompatible c.sides

pub settled : Proves → (old new : PlainLibrary) (rules : PlainRules) (marks : Marks) (cert : PlainCert) → marks ≡ marks_of rules old → AreMarksOf old marks
    → AreNumbered old.exports → IsGraph old.graph → IsGraph new.graph → IsAccepted (asked old new marks cert) → IsSettled (case_for (ruled old new rules) cert) None
settled law old new rules marks cert are marked numbered old_graph new_graph accepted =
    let kept : IsAccepted (case_for (ruled old new rules) cert) = subst (λ (m : Marks). IsAccepted (asked old new m cert)) are accepted in
    let even : AreEven (task_of (ruled old new rules)) = subst (λ (m : Marks). AreEven (task_of (sides old new m))) are (marked.even new) in
    (law (case_for (ruled old new rules) cert) numbered old_graph new_graph even kept, kept)

of_text : (old new rules certificate : List ℕ) (cert : PlainCert) (said : Option Refused) → IsSpelled certificate cert → IsSettled (case_for (sides_of old new rules) cert) said → IsVerified old new rules certificate said
of_text old new rules certificate cert None spelled is = (is.0, record { cert = cert; spelled = spelled; accepted = is.1 })
of_text old new rules certificate cert (Some refusal) spelled is = record { cert = cert; spelled = spelled; fails = is }

pub of_texts : (old new rules certificate : List ℕ) (old_library new_library : PlainLibrary) (read : PlainRules) (cert : PlainCert) (said : Option Refused)
    → old_library ≡ library_of old → new_library ≡ library_of new → read ≡ rules_of rules → IsSpelled certificate cert
    → IsSettled (case_for (ruled old_library new_library read) cert) said → IsVerified old new rules certificate said
of_texts old new rules certificate old_library new_library read cert said old_is new_is rules_is spelled is =
    let one = subst (λ (l : PlainLibrary). IsSettled (case_for (ruled l new_library read) cert) said) old_is is in
    let two = subst (λ (l : PlainLibrary). IsSettled (case_for (ruled (library_of old) l read) cert) said) new_is one in
    let three = subst (λ (r : PlainRules). IsSettled (case_for (ruled (library_of old) (library_of new) r) cert) said) rules_is two in
    of_text old new rules certificate cert said spelled three
