-- How many exports of an old library are compared with a new one, how many a rule file drops, and how many bind to no new one.
use Rattle.std.specs.Prelude.{ℕ, Bool, true, false, List, length, map, count_by, is_some, Option, None, slice_index_or}
use Rattle.std.specs.List.{range_with_len}
use Rattle.side_notes.specs.contracts.counts.FatePartialEq.TheImpl.{ghosts}
use Rattle.side_notes.specs.declared.counts.Counts.{Counts}
use Rattle.side_notes.specs.declared.counts.Fate.{Fate}
use Rattle.side_notes.specs.declared.counts.Fate.TheVariants.{Dropped, Compared, Gone}

-- by whether a rule drops an export and whether it binds
abbrev pub fate_by : Bool → Bool → Fate
fate_by true bound = Dropped
fate_by false true = Compared
fate_by false false = Gone

-- the fate of the export at a position, by which exports are dropped and by the place to which each binds
abbrev pub fate_at : List Bool → List (Option ℕ) → ℕ → Fate
fate_at dropped bound k = fate_by (slice_index_or dropped k false) (is_some (slice_index_or bound k None))

-- the fates of all exports, in their order
abbrev pub fates : List Bool → List (Option ℕ) → List Fate
fates dropped bound = map (fate_at dropped bound) (range_with_len 0 (length bound))

abbrev pub is_in : Fate → Fate → Bool
is_in fate other = ghosts.eq other fate

-- how many exports have a fate
abbrev pub count_of : Fate → List Bool → List (Option ℕ) → ℕ
count_of fate dropped bound = count_by (is_in fate) (fates dropped bound)

abbrev pub counts_of : List Bool → List (Option ℕ) → Counts
counts_of dropped bound = record { compared = count_of Compared dropped bound; dropped = count_of Dropped dropped bound; gone = count_of Gone dropped bound }
