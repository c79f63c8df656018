-- Keeping the auxiliary entries of a need one by one.
use Rattle.std.proofs.Common.{◌≡◌, ℕ, ◌+◌, ◌<◌, ◌≤◌, Bool, true, false, cond, List, [], ◌∷◌, Option, Some, None, refl, sym, ◌∙◌, ap, arith}
use Rattle.std.specs.Prelude.{find, nat_eq, ◌==◌}
use Rattle.std.specs.List.{range_with_len, list_any}
use Rattle.std.specs.Option.{option_map, option_or}
use Rattle.std.proofs.lemmas.List.Folds.{find-append}
use Rattle.std.proofs.lemmas.List.FromFn.{map-range_with_len_more}
use Rattle.abi_base.specs.declared.fault.FaultKind.TheVariants as kind
use Rattle.abi_base.specs.declared.fault.Refusal.{Refusal}
use Rattle.abi_base.specs.Outcome.{fault_if, Refuses}
use Rattle.elf_needs.specs.declared.kept.Need.{Need}
use Rattle.elf_needs.specs.declared.records.Auxiliary.{Auxiliary}
use Rattle.elf_needs.specs.Needs.{Entry, PlainNeed, entry_place, entry_count, entry_of, is_bad_entry, has_bad_entry, first_entries, entries_of_need, said_by, need_among, bad_need_at}
use Rattle.elf_needs.specs.Plain.{ByIndex, need_under, plain_need, plain_entry}
use Rattle.elf_needs.proofs.Ranges.{any_at, none_more}

-- what one more entry adds
grown_at : (a : Option PlainNeed) (b : Option Entry) (t : Bool) (need : PlainNeed) (e : Entry) → need ≡ said_by e
    → option_or (option_or a (option_map said_by b)) (cond t (Some need) None) ≡ option_or a (option_map said_by (option_or b (cond t (Some e) None)))
grown_at (Some x) b t need e is = refl
grown_at None (Some x) t need e is = refl
grown_at None None true need e is = ap (λ (n : PlainNeed). Some n) is
grown_at None None false need e is = refl

-- A need was kept under an index, where none stood there.
abbrev pub Keeps : ByIndex → ByIndex → ℕ → Need → Type 0
Keeps now next index need = (q : ℕ) → need_under next q ≡ option_or (need_under now q) (cond (nat_eq index q) (Some (plain_need need)) None)

pub record KeptBefore (table strings : List ℕ) (k n at : ℕ) (initial now : ByIndex) : Type 0 where
  pub place : at ≡ entry_place table k n
  pub kept : (q : ℕ) → need_under now q ≡ option_or (need_under initial q) (need_among (first_entries table strings k n) q)
  pub sound : list_any (is_bad_entry table strings k) (range_with_len 0 n) ≡ false

nothing_more : (o : Option PlainNeed) → o ≡ option_or o None
nothing_more None = refl
nothing_more (Some x) = refl

pub kept_none : (table strings : List ℕ) (k at : ℕ) (initial : ByIndex) → at ≡ entry_place table k 0 → KeptBefore table strings k 0 at initial initial
kept_none table strings k at initial place = record { place = place; kept = λ q. nothing_more (need_under initial q); sound = refl }

pub kept_more : (table strings : List ℕ) (k n at : ℕ) (initial now next : ByIndex) (auxiliary : Auxiliary) → KeptBefore table strings k n at initial now
    → is_bad_entry table strings k n ≡ false → plain_entry auxiliary ≡ entry_of table strings k n → auxiliary.next ≡ entry_place table k (n + 1)
    → Keeps now next auxiliary.index auxiliary.need → KeptBefore table strings k (n + 1) auxiliary.next initial next
kept_more table strings k n at initial now next auxiliary so_far whole read place keeps = record {
  place = place;
  kept = λ q. kept_at q;
  sound = none_more (is_bad_entry table strings k) n so_far.sound whole;
}
  where
    entry : Entry
    entry = entry_of table strings k n

    kept_at : (q : ℕ) → need_under next q ≡ option_or (need_under initial q) (need_among (first_entries table strings k (n + 1)) q)
    kept_at q =
        keeps q
        ∙ ap (λ (o : Option PlainNeed). option_or o (cond (nat_eq auxiliary.index q) (Some (plain_need auxiliary.need)) None)) (so_far.kept q)
        ∙ ap (λ (e : Entry). option_or (option_or (need_under initial q) (need_among (first_entries table strings k n) q)) (cond (nat_eq e.index q) (Some (said_by e)) None)) read
        ∙ grown_at (need_under initial q) (find (λ e. e.index == q) (first_entries table strings k n)) (nat_eq (entry_of table strings k n).index q) (said_by (entry_of table strings k n)) (entry_of table strings k n) refl
        ∙ ap (λ (o : Option Entry). option_or (need_under initial q) (option_map said_by o))
        (sym (find-append (λ e. e.index == q) (first_entries table strings k n) (entry_of table strings k n ∷ []))
        ∙ ap (λ (l : List Entry). find (λ e. e.index == q) l) (sym (map-range_with_len_more (entry_of table strings k) 0 n n (omega arith))))

-- a bad entry is refused at the number of its need
pub refuses_entry : (table strings : List ℕ) (k j : ℕ) (refusal : Refusal) → j < entry_count table k → is_bad_entry table strings k j ≡ true → refusal ≡ bad_need_at k
    → Refuses refusal (fault_if (has_bad_entry table strings k) kind.VersionNeed k)
refuses_entry table strings k j refusal lt bad is =
    let any : has_bad_entry table strings k ≡ true = any_at (is_bad_entry table strings k) (entry_count table k) j lt bad in
    rw (is, any) refl

-- a list that was read whole has no bad entry
pub none_bad : (table strings : List ℕ) (k n at count : ℕ) (initial now : ByIndex) → KeptBefore table strings k n at initial now → count ≡ entry_count table k → n ≤ count → count ≤ n
    → fault_if (has_bad_entry table strings k) kind.VersionNeed k ≡ None
none_bad table strings k n at count initial now so_far is le ge =
    let same : n ≡ entry_count table k = omega arith in
    let none : has_bad_entry table strings k ≡ false = rw same at so_far.sound in
    rw none refl

pub all_kept : (table strings : List ℕ) (k n at count : ℕ) (initial now : ByIndex) → KeptBefore table strings k n at initial now → count ≡ entry_count table k → n ≤ count → count ≤ n
    → (q : ℕ) → need_under now q ≡ option_or (need_under initial q) (need_among (entries_of_need table strings k) q)
all_kept table strings k n at count initial now so_far is le ge q =
    let same : n ≡ entry_count table k = omega arith in
    so_far.kept q ∙ ap (λ (m : ℕ). option_or (need_under initial q) (need_among (first_entries table strings k m) q)) same
