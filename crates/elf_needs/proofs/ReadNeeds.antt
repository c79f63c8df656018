-- Reading the needs of a table one by one.
use Rattle.std.proofs.Common.{◌≡◌, ℕ, ◌+◌, ◌-◌, ◌<◌, Bool, true, false, List, [], ◌∷◌, ◌++◌, map, Option, Some, None, refl, sym, ◌∙◌, ap, arith}
use Rattle.std.specs.Prelude.{find, nat_eq, ◌==◌, ◌||◌}
use Rattle.std.specs.List.{range_with_len, flat_map}
use Rattle.std.specs.Option.{option_map, option_or}
use Rattle.std.specs.HashMap.{get, IsEmpty}
use Rattle.std.proofs.lemmas.List.Folds.{find-append}
use Rattle.std.proofs.lemmas.List.{append-nil}
use Rattle.std.proofs.lemmas.Grind.{common_steps, flat_map-append}
use Rattle.abi_base.proofs.lemmas.Ranges.{below_more}
use Rattle.abi_base.specs.declared.fault.Fault.{Fault}
use Rattle.abi_base.specs.declared.fault.FaultKind.TheVariants as kind
use Rattle.abi_base.specs.declared.fault.Refusal.{Refusal}
use Rattle.abi_base.specs.declared.fault.Refusal.TheVariants as refusal
use Rattle.abi_base.specs.Outcome.{first, fault_if, Refuses}
use Rattle.abi_base.proofs.lemmas.Outcomes.{first_from, first_from-step, first_from-here, fault_if-none}
use Rattle.elf_needs.specs.Needs.{Entry, PlainNeed, place_of, is_malformed, has_bad_entry, need_fault, bad_need_at, entries_of_need, entries_of, said_by, need_among}
use Rattle.elf_needs.specs.Plain.{ByIndex, need_under}

pub record ReadBefore (table strings : List ℕ) (count number at : ℕ) (by_index : ByIndex) : Type 0 where
  pub place : at ≡ place_of table number
  pub kept : (q : ℕ) → need_under by_index q ≡ need_among (entries_of table strings number) q
  pub judged : first_from (need_fault table strings count) number count ≡ first (map (need_fault table strings count) (range_with_len 0 count))

under_nothing : (by_index : ByIndex) (index : ℕ) → IsEmpty by_index → get nat_eq by_index index ≡ None
under_nothing by_index index empty = grind (arith, common_steps)

-- under no index of an empty map stands a need
pub none_under : (by_index : ByIndex) (index : ℕ) → IsEmpty by_index → need_under by_index index ≡ None
none_under by_index index empty = rw (under_nothing by_index index empty) refl

pub read_none : (table strings : List ℕ) (count : ℕ) (by_index : ByIndex) → IsEmpty by_index → ReadBefore table strings count 0 0 by_index
unfolding place_of
read_none table strings count by_index empty =
    let all : count - 0 ≡ count = omega arith in
    record {
      place = refl;
      kept = λ q. none_under by_index q empty;
      judged = rw all refl;
    }

-- a bad need is refused at its number
pub refuses : (table strings : List ℕ) (count number at : ℕ) (by_index : ByIndex) (refusal : Refusal) → ReadBefore table strings count number at by_index → number < count
    → need_fault table strings count number ≡ Some (record { kind = kind.VersionNeed; at = number }) → refusal ≡ bad_need_at number
    → Refuses refusal (first (map (need_fault table strings count) (range_with_len 0 count)))
refuses table strings count number at by_index refusal so_far lt bad is =
    rw is (sym so_far.judged ∙ first_from-here (need_fault table strings count) number count (record { kind = kind.VersionNeed; at = number }) lt bad)

-- the fault of a need that is malformed by itself
pub malformed_fault : (table strings : List ℕ) (count k : ℕ) → is_malformed table strings count k ≡ true → need_fault table strings count k ≡ Some (record { kind = kind.VersionNeed; at = k })
malformed_fault table strings count k bad = rw bad refl

-- the fault of a need of which an entry is bad
entries_fault : (a b : Bool) (k : ℕ) (fault : Fault) → fault_if b kind.VersionNeed k ≡ Some fault → fault_if (a || b) kind.VersionNeed k ≡ Some fault
entries_fault true true k fault is = is
entries_fault false true k fault is = is
entries_fault true false k fault is = absurd cc
entries_fault false false k fault is = absurd cc

pub passes_on : (table strings : List ℕ) (count number at : ℕ) (by_index : ByIndex) (refusal : Refusal) → ReadBefore table strings count number at by_index → number < count
    → Refuses refusal (fault_if (has_bad_entry table strings number) kind.VersionNeed number)
    → Refuses refusal (first (map (need_fault table strings count) (range_with_len 0 count)))
passes_on table strings count number at by_index (refusal.Fault fault) so_far lt judged =
    sym so_far.judged
    ∙ first_from-here (need_fault table strings count) number count fault lt (entries_fault (is_malformed table strings count number) (has_bad_entry table strings number) number fault judged)
passes_on table strings count number at by_index (refusal.NoMemory cause) so_far lt judged = judged

also : (b : Option Entry) (c : Option Entry) → option_or (option_map said_by b) (option_map said_by c) ≡ option_map said_by (option_or b c)
also None c = refl
also (Some x) c = refl

-- a need that is not malformed, and of which no entry is bad, has no fault
pub sound_need : (table strings : List ℕ) (count number : ℕ) → is_malformed table strings count number ≡ false → fault_if (has_bad_entry table strings number) kind.VersionNeed number ≡ None
    → need_fault table strings count number ≡ None
sound_need table strings count number whole none = rw (whole, fault_if-none (has_bad_entry table strings number) kind.VersionNeed number none) refl

pub read_more : (table strings : List ℕ) (count number at next_at : ℕ) (by_index next : ByIndex) → ReadBefore table strings count number at by_index → number < count
    → is_malformed table strings count number ≡ false → fault_if (has_bad_entry table strings number) kind.VersionNeed number ≡ None → next_at ≡ place_of table (number + 1)
    → ((q : ℕ) → need_under next q ≡ option_or (need_under by_index q) (need_among (entries_of_need table strings number) q))
    → ReadBefore table strings count (number + 1) next_at next
read_more table strings count number at next_at by_index next so_far lt whole none place kept = record {
  place = place;
  kept = λ q. kept_at q;
  judged = sym (first_from-step (need_fault table strings count) number count lt (sound_need table strings count number whole none)) ∙ so_far.judged;
}
  where
    grown : entries_of table strings (number + 1) ≡ entries_of table strings number ++ entries_of_need table strings number
    grown =
        ap (flat_map (entries_of_need table strings)) (below_more number)
        ∙ flat_map-append (entries_of_need table strings) (range_with_len 0 number) (number ∷ [])
        ∙ ap (λ (l : List Entry). entries_of table strings number ++ l) (append-nil (entries_of_need table strings number))

    kept_at : (q : ℕ) → need_under next q ≡ need_among (entries_of table strings (number + 1)) q
    kept_at q =
        kept q
        ∙ ap (λ (o : Option PlainNeed). option_or o (need_among (entries_of_need table strings number) q)) (so_far.kept q)
        ∙ also (find (λ e. e.index == q) (entries_of table strings number)) (find (λ e. e.index == q) (entries_of_need table strings number))
        ∙ ap (λ (o : Option Entry). option_map said_by o)
        (sym (find-append (λ e. e.index == q) (entries_of table strings number) (entries_of_need table strings number))
        ∙ ap (λ (l : List Entry). find (λ e. e.index == q) l) (sym grown))
