-- By the first part.
use Rattle.std.proofs.Common.{◌≡◌, List, [], ◌∷◌, length, refl, arith}
use Rattle.std.specs.Prelude.{count_by, cond}
use Rattle.std.proofs.lemmas.List.Sums.{sum_by-cons}
use Rattle.abi_types.specs.Types.{PlainPart, Member, Enumerator, Target, Element, Outcome, Param}
use Rattle.abi_types.specs.Forms.{is_param}
use Rattle.abi_types.specs.Graphs.{params_of}
use Rattle.abi_types.proofs.laws.params_are_counted.Goals as goal

counted : (parts : List PlainPart) → length (params_of parts) ≡ count_by is_param parts
counted [] = refl
counted (Param to ∷ parts) = let later = counted parts in omega (arith, sum_by-cons (λ (p : PlainPart). cond (is_param p) 1 0) (Param to) parts)
counted (Member name bit width to ∷ parts) = let later = counted parts in omega (arith, sum_by-cons (λ (p : PlainPart). cond (is_param p) 1 0) (Member name bit width to) parts)
counted (Enumerator name value ∷ parts) = let later = counted parts in omega (arith, sum_by-cons (λ (p : PlainPart). cond (is_param p) 1 0) (Enumerator name value) parts)
counted (Target to ∷ parts) = let later = counted parts in omega (arith, sum_by-cons (λ (p : PlainPart). cond (is_param p) 1 0) (Target to) parts)
counted (Element to ∷ parts) = let later = counted parts in omega (arith, sum_by-cons (λ (p : PlainPart). cond (is_param p) 1 0) (Element to) parts)
counted (Outcome to ∷ parts) = let later = counted parts in omega (arith, sum_by-cons (λ (p : PlainPart). cond (is_param p) 1 0) (Outcome to) parts)

pub returns : goal.returns
returns c = counted
