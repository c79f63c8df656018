-- What the rows so far count.
use Rattle.std.proofs.Common.{◌≡◌, ◌<◌, ◌≤◌, ℕ, zero, suc, ◌+◌, List, [], ◌∷◌, ◌++◌, map, take, drop, length, get_or, refl, sym, ◌∙◌, ap, inl, inr, arith, length-append}
use Rattle.std.proofs.Math.Seq.{take-append_seam}
use Rattle.std.specs.List.{sum_by}
use Rattle.std.proofs.lemmas.Bool.{cases_lt}
use Rattle.std.proofs.lemmas.List.{map-append, take-append-drop, take_all}
use Rattle.std.proofs.lemmas.List.Sums.{sum_by-append, sum_by_more, sum_by_more_le, sum_by_push}
use Rattle.abi_base.specs.Budgets.{BudgetState, with_taken}
use Rattle.abi_base.specs.declared.limit.Limit.TheVariants.{Report}
use Rattle.pair_rules.specs.declared.rules.Broken.{Broken}
use Rattle.pair_explorer.specs.declared.visits.Visit.{Visit}
use Rattle.report.specs.declared.row.Row.{Row}
use Rattle.cert_check.specs.Compatible.{Sides, task_of}
use Rattle.pair_compare.specs.Limits.{IsRoom, ReportPasses, row_size}
use Rattle.pair_compare.specs.reports.ExportRows.{export_rows, rows_at, rows_upto, soname_rows}
use Rattle.pair_compare.specs.reports.Reports.{AreRightRows, row_of}
use Rattle.pair_compare.specs.reports.Rooms.{AreTooLong, IsTaken}
use Rattle.pair_compare.specs.reports.TypeFindings.{IsExplored, finding_of, told_breaks, type_rows}
use Rattle.pair_compare.proofs.reports_lemmas.NoneLemmas.{rows_upto-more}
use Rattle.pair_compare.proofs.reports_lemmas.ToldLemmas.{rows_all, rows_with}

module _ {A : Type 0} (most : ℕ) (cost : A → ℕ) where
  pub taken_none : (items : List A) (room : BudgetState) → items ≡ [] → room.limit ≡ Report → room.most ≡ most → room.taken ≡ 0 → IsTaken most cost items room
  taken_none items room none limit_is most_is taken = record {
    limit_is = limit_is;
    most_is = most_is;
    taken = taken ∙ ap (sum_by cost) (sym none);
    within = omega (arith, taken);
  }

  pub taken_more : (items : List A) (k n : ℕ) (d : A) (room next : BudgetState) → IsTaken most cost (take k items) room → k < length items → cost (get_or items k d) ≡ n → room.taken + n ≤ room.most → next ≡ with_taken room n
      → IsTaken most cost (take (k + 1) items) next
  taken_more items k n d room next so_far lt costs fits took = record {
    limit_is = ap (λ (b : BudgetState). b.limit) took ∙ so_far.limit_is;
    most_is = ap (λ (b : BudgetState). b.most) took ∙ so_far.most_is;
    taken = omega (arith, ap (λ (b : BudgetState). b.taken) took, so_far.taken, sum_by_more cost items k d lt, costs);
    within = omega (arith, ap (λ (b : BudgetState). b.taken) took, ap (λ (b : BudgetState). b.most) took, fits);
  }

  pub taken_past : (items : List A) (k n : ℕ) (d : A) (room : BudgetState) → IsTaken most cost (take k items) room → k < length items → cost (get_or items k d) ≡ n → room.most < room.taken + n → most < sum_by cost items
  taken_past items k n d room so_far lt costs above = omega (arith, above, so_far.most_is, so_far.taken, sum_by_more_le cost items k d lt, costs)

  pub taken_push : (items more : List A) (item : A) (n : ℕ) (room next : BudgetState) → IsTaken most cost items room → more ≡ items ++ item ∷ [] → cost item ≡ n → room.taken + n ≤ room.most → next ≡ with_taken room n → IsTaken most cost more next
  taken_push items more item n room next so_far grown costs fits took = record {
    limit_is = ap (λ (b : BudgetState). b.limit) took ∙ so_far.limit_is;
    most_is = ap (λ (b : BudgetState). b.most) took ∙ so_far.most_is;
    taken = omega (arith, ap (λ (b : BudgetState). b.taken) took, so_far.taken, ap (sum_by cost) grown, sum_by_push cost items item, costs);
    within = omega (arith, ap (λ (b : BudgetState). b.taken) took, ap (λ (b : BudgetState). b.most) took, fits);
  }

  pub push_past : (items : List A) (item : A) (n : ℕ) (room : BudgetState) → IsTaken most cost items room → cost item ≡ n → room.most < room.taken + n → most < sum_by cost (items ++ item ∷ [])
  push_past items item n room so_far costs above = omega (arith, above, so_far.most_is, so_far.taken, sum_by_push cost items item, costs)

-- ---- the rows of the first exports

upto_rises : (s : Sides) (m n : ℕ) → m ≤ n → sum_by row_size (rows_upto s m) ≤ sum_by row_size (rows_upto s n)
upto_rises s m zero le = let e : m ≡ 0 = omega arith in rw e (omega arith)
upto_rises s m (suc n) le =
    let one : n + 1 ≡ suc n = omega arith in
    let more : sum_by row_size (rows_upto s (suc n)) ≡ sum_by row_size (rows_upto s n) + sum_by row_size (rows_at s n) =
    ap (λ k. sum_by row_size (rows_upto s k)) (sym one) ∙ ap (sum_by row_size) (rows_upto-more s n) ∙ sum_by-append row_size (rows_upto s n) (rows_at s n) in
    elim (cases_lt n m) [
      | inl above ↦ let e : m ≡ suc n = omega arith in rw e (omega arith)
      | inr within ↦ omega (arith, upto_rises s m n within, more)
    ]

pub upto_past : (s : Sides) (start : List Row) (most k : ℕ) → k ≤ length s.old.exports → most < sum_by row_size (start ++ (soname_rows s.old.soname s.new.soname ++ rows_upto s k)) → most < sum_by row_size (start ++ export_rows s)
unfolding export_rows
upto_past s start most k le above =
    let front = soname_rows s.old.soname s.new.soname in
    let all = rows_upto s (length s.old.exports) in
    omega (arith, above, upto_rises s k (length s.old.exports) le, sum_by-append row_size start (front ++ rows_upto s k), sum_by-append row_size front (rows_upto s k), sum_by-append row_size start (front ++ all), sum_by-append row_size front all)

-- ---- the rows of the first breaks

pub told_past : (s : Sides) (vs : List Visit) (start : List Row) (kept broken : List (ℕ × Broken)) (most i : ℕ) → kept ≡ told_breaks (task_of s) vs broken → most < sum_by row_size (rows_with s vs start (take i kept)) → most < sum_by row_size (start ++ type_rows s vs broken)
told_past s vs start kept broken most i is above =
    let of : ℕ × Broken → Row = λ p. row_of s (finding_of vs p) in
    let whole : rows_with s vs start kept ≡ start ++ type_rows s vs broken = rows_all s vs start (rows_with s vs start kept) kept broken (length kept) (ap (rows_with s vs start) (sym (all kept))) is (omega arith) in
    let split : map of kept ≡ map of (take i kept) ++ map of (drop i kept) = ap (map of) (sym (take-append-drop i kept)) ∙ map-append of (take i kept) (drop i kept) in
    omega (arith, above, ap (sum_by row_size) whole, sum_by-append row_size start (map of (take i kept)), sum_by-append row_size start (map of kept), ap (sum_by row_size) split, sum_by-append row_size (map of (take i kept)) (map of (drop i kept)))
  where
    all : (xs : List (ℕ × Broken)) → take (length xs) xs ≡ xs
    all xs = take_all (length xs) xs (omega arith)

-- ---- the report

pub room_taken : (s : Sides) (rows : List Row) (room : BudgetState) → rows ≡ [] → IsRoom s room → IsTaken room.most row_size rows room
room_taken s rows room none is =
    taken_none room.most row_size rows room none (ap (λ (b : BudgetState). b.limit) is.fresh_is) refl (ap (λ (b : BudgetState). b.taken) is.fresh_is)

pub rows_pass : (s : Sides) (vs : List Visit) (broken : List (ℕ × Broken)) (room : BudgetState) → IsRoom s room → AreRightRows s (type_rows s vs broken) → room.most < sum_by row_size (export_rows s ++ type_rows s vs broken) → ReportPasses s
rows_pass s vs broken room is right above = record {
  old = is.old;
  new = is.new;
  old_is = is.old_is;
  new_is = is.new_is;
  more = inl (record {
    rows = export_rows s ++ type_rows s vs broken;
    right = record { type_rows = type_rows s vs broken; are = refl; right = right };
    more = omega (arith, above, ap (λ (b : BudgetState). b.most) is.fresh_is);
  });
}

pub details_pass : (s : Sides) (vs : List Visit) (broken : List (ℕ × Broken)) → IsExplored (task_of s) vs broken → AreTooLong s vs broken → ReportPasses s
details_pass s vs broken explored long = record {
  old = long.old;
  new = long.new;
  old_is = long.old_is;
  new_is = long.new_is;
  more = inr (record { visits = vs; broken = broken; explored = explored; more = long.more });
}

pub front_less : (front back : List Row) → sum_by row_size front ≤ sum_by row_size (front ++ back)
front_less front back = omega (arith, sum_by-append row_size front back)

pub moved_taken : (most other : ℕ) (rows moved : List Row) (room : BudgetState) → most ≡ other → rows ≡ moved → IsTaken most row_size rows room → IsTaken other row_size moved room
moved_taken most other rows moved room same are taken = record {
  limit_is = taken.limit_is;
  most_is = taken.most_is ∙ same;
  taken = taken.taken ∙ ap (sum_by row_size) are;
  within = taken.within;
}

pub front_taken : (most : ℕ) (rows first later more : List Row) (room : BudgetState) → first ≡ rows → later ≡ rows ++ more → IsTaken most row_size rows room → (length first ≤ length later) × IsTaken room.most row_size (take (length first) later) room
front_taken most rows first later more room is grown taken =
    let front : take (length first) later ≡ rows = ap (λ (n : ℕ). take n later) (ap length is) ∙ ap (take (length rows)) grown ∙ take-append_seam rows more in
    (omega (arith, ap length is, ap length grown, length-append rows more), moved_taken most room.most rows (take (length first) later) room (sym taken.most_is) (sym front) taken)
