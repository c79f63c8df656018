-- Paths along parts.
use Rattle.std.proofs.Common.{◌≡◌, ℕ, List, [], ◌∷◌, refl}
use Rattle.pair_rules.specs.Paths.{Path, Then}
use Rattle.pair_explorer.specs.Routes.{followed}
use Rattle.pair_compare.specs.reports.Findings.{export_of}

pub export_of-followed : (path : Path) (parts : List ℕ) → export_of (followed path parts) ≡ export_of path
export_of-followed path [] = refl
export_of-followed path (part ∷ parts) = export_of-followed (Then path part) parts
