-- When the result of a comparison of two libraries is right.
use Rattle.std.specs.Prelude.{◌≡◌, ◌≤◌, List, []}
use Rattle.report.specs.declared.row.Row.{Row}
use Rattle.cert_text.specs.Certs.{PlainCert}
use Rattle.cert_check.specs.Accepted.{IsAccepted}
use Rattle.cert_check.specs.Compatible.{Sides, IsCompatible}
use Rattle.cert_check.specs.Fitting.{lines_allowed, lines_weight}
use Rattle.pair_compare.specs.certificates.Certificates.{IsCertificateOf}
use Rattle.pair_compare.specs.reports.Reports.{IsRightReport}
use Rattle.pair_compare.specs.declared.comparing.Comparison.{Comparison}
use Rattle.pair_compare.specs.declared.comparing.Comparison.TheVariants.{Compatible, Broken}

-- The new library may replace the old one. The certificate is the one of these two libraries, and it is accepted.
pub record IsProved (s : Sides) (cert : PlainCert) : Type 0 where
  pub compatible : IsCompatible s
  pub certificate : IsCertificateOf s cert
  pub accepted : IsAccepted (record { sides = s; cert = cert })

-- The new library may not replace the old one. The rows are the right report on these two libraries, and there is at least one row.
pub record IsRefuted (s : Sides) (rows : List Row) : Type 0 where
  pub incompatible : IsCompatible s → ⊥
  pub report : IsRightReport s rows
  pub told : rows ≡ [] → ⊥

abbrev pub IsRight : Sides → Comparison → Type 0
IsRight s (Compatible cert) = IsProved s cert
IsRight s (Broken rows) = IsRefuted s rows

-- The checker has room for the certificate: its pair lines count no more than it allows.
abbrev pub IsFitting : Sides → Comparison → Type 0
IsFitting s (Compatible cert) = lines_weight s cert.pairs ≤ lines_allowed s
IsFitting s (Broken rows) = Unit {0}
