-- What the names count under which exports are declared.
use Rattle.std.proofs.Common.{◌≡◌, ◌<◌, ◌≤◌, ◌+◌, ◌-◌, ◌++◌, ℕ, List, length, map, take, drop, get_or, refl, sym, ap, ◌∙◌, arith}
use Rattle.std.specs.Prelude.{sum_by}
use Rattle.std.proofs.lemmas.List.{get_or-append_right, get_or-drop, get_or-map, length-map, length-take}
use Rattle.std.proofs.lemmas.List.Sums.{sum_by_more, sum_by_more_le}
use Rattle.abi_base.specs.Budgets.{BudgetState, allowed, with_taken}
use Rattle.abi_base.specs.declared.limit.Limit.TheVariants.{DeclaredNames}
use Rattle.abi_base.proofs.lemmas.Budgets.{SpentOn}
use Rattle.abi_types.specs.declared.export.Export.{Export}
use Rattle.abi_types.specs.Exports.{PlainExport}
use Rattle.abi_types.specs.Plain.{plain_export, plain_exports}
use Rattle.dwarf_entries.specs.Debug.{PlainDwarf}
use Rattle.library_read.specs.Exports.{typed}
use Rattle.library_read.specs.Limits.{declared_letters, PassesDeclared}

-- the export that gets its type next is as it was before
reads : (d : PlainDwarf) (before now : List Export) (k : ℕ) (e : Export) → k < length before → length now ≡ length before → e ≡ get_or now k e → plain_exports now ≡ map (typed d) (take k (plain_exports before)) ++ drop k (plain_exports before) → get_or (plain_exports before) k (plain_export e) ≡ plain_export e
reads d before now k e inside many read so_far =
    let all : List PlainExport = plain_exports before in
    let here : plain_export e ≡ get_or (plain_exports now) k (plain_export e) = ap plain_export read ∙ sym (get_or-map plain_export now k e (plain_export e) (omega arith)) in
    let size : length (map (typed d) (take k all)) ≡ k = omega (arith, inside, length-map (take k all) (typed d), length-take k all, length-map before plain_export) in
    let none : k - k ≡ 0 = omega arith in
    let same : k + 0 ≡ k = omega arith in
    sym (here ∙ ap (λ (xs : List PlainExport). get_or xs k (plain_export e)) so_far
    ∙ get_or-append_right (map (typed d) (take k all)) (drop k all) k k (plain_export e) size (omega arith)
    ∙ ap (λ (i : ℕ). get_or (drop k all) i (plain_export e)) none
    ∙ get_or-drop k all 0 (plain_export e)
    ∙ ap (λ (i : ℕ). get_or all i (plain_export e)) same)

costs : (d : PlainDwarf) (before now : List Export) (k : ℕ) (e new : Export) → k < length before → length now ≡ length before → e ≡ get_or now k e → plain_exports now ≡ map (typed d) (take k (plain_exports before)) ++ drop k (plain_exports before) → plain_export new ≡ typed d (plain_export e)
    → declared_letters d (get_or (plain_exports before) k (plain_export e)) ≡ length (plain_export new).declared
costs d before now k e new inside many read so_far is =
    ap (declared_letters d) (reads d before now k e inside many read so_far) ∙ ap (λ (x : PlainExport). length x.declared) (sym is)

pub declared-more : (d : PlainDwarf) (bytes : ℕ) (before now : List Export) (k : ℕ) (e new : Export) (b c : BudgetState) → k < length before → length now ≡ length before → e ≡ get_or now k e → plain_exports now ≡ map (typed d) (take k (plain_exports before)) ++ drop k (plain_exports before) → plain_export new ≡ typed d (plain_export e)
    → SpentOn DeclaredNames bytes (declared_letters d) (take k (plain_exports before)) b → c ≡ with_taken b (length (plain_export new).declared) → b.taken + length (plain_export new).declared ≤ b.most → SpentOn DeclaredNames bytes (declared_letters d) (take (k + 1) (plain_exports before)) c
declared-more d bytes before now k e new b c inside many read so_far is was took fits =
    let all : List PlainExport = plain_exports before in
    let lt : k < length all = omega (arith, inside, length-map before plain_export) in
    let more = sum_by_more (declared_letters d) all k (plain_export e) lt in
    let cost = costs d before now k e new inside many read so_far is in
    let left = ap (λ (x : BudgetState). x.taken) took in
    let most = ap (λ (x : BudgetState). x.most) took in
    record { limit_is = ap (λ (x : BudgetState). x.limit) took ∙ was.limit_is; most = most ∙ was.most; taken = omega (arith, left, was.taken, more, cost); within = omega (arith, left, most, fits) }

pub declared-past : (d : PlainDwarf) (bytes : ℕ) (before now : List Export) (k : ℕ) (e new : Export) (b : BudgetState) → k < length before → length now ≡ length before → e ≡ get_or now k e → plain_exports now ≡ map (typed d) (take k (plain_exports before)) ++ drop k (plain_exports before) → plain_export new ≡ typed d (plain_export e)
    → SpentOn DeclaredNames bytes (declared_letters d) (take k (plain_exports before)) b → b.most < b.taken + length (plain_export new).declared → PassesDeclared d (plain_exports before) bytes b.limit
declared-past d bytes before now k e new b inside many read so_far is was above =
    let all : List PlainExport = plain_exports before in
    let lt : k < length all = omega (arith, inside, length-map before plain_export) in
    let more = sum_by_more_le (declared_letters d) all k (plain_export e) lt in
    let cost = costs d before now k e new inside many read so_far is in
    (was.limit_is, omega (arith, above, was.most, was.taken, more, cost))
