-- What the loops over inputs and sinks keep.
use Rattle.std.proofs.Common.{◌≡◌, ◌≤◌, ◌<◌, ◌+◌, ◌-◌, eqb, ◌||◌, ◌&&◌, ◌==◌, nat_lt, Bool, true, false, IsSome, IfSome, ℕ, List, length, take, drop, Option, Some, None, arith, subst, sym, ap, ◌∙◌, length-drop}
use Rattle.std.proofs.Math.Seq.{take-add}
use Rattle.std.proofs.lemmas.Slice.{between_to_end}
use Rattle.std.proofs.KnownBytes.{Appends-trans, Keeps-refl, Keeps-trans}
use Rattle.std.proofs.lemmas.Bool.Decides.{nat_tests}
use Rattle.std.specs.List.{list_any}
use Rattle.std.specs.Io.KnownBytes.{Appends, Consumes, Keeps}
use Rattle.abi_base.specs.Causes.{NeverFall, SameCounts, Unfailing, count_after, is_listed}

pub record WrittenSoFar {S : Type 0} (held : S → Option (List ℕ)) (faults : S → ℕ) (made : S → ℕ → Option Bool) (room : S → Option ℕ) (first now : S) (bytes : List ℕ) (done : ℕ) : Type 0 where
  pub within : done ≤ length bytes
  pub still : Unfailing made first → Unfailing made now
  pub steady : (space : ℕ) → Unfailing made first → room first ≡ Some space → length bytes ≤ space → (room now ≡ Some (space - done)) × (faults now ≡ faults first)
  pub appended : Appends (held first) (held now) (take done bytes)
  pub later : faults first ≤ faults now

-- ---- where no call is made to fail

-- a write does not fail where there is room
pub no_failed_write : (made : Option Bool) (room : Option ℕ) (failed : Bool) (len r : ℕ) → made ≡ Some false → room ≡ Some r → 0 < r → failed ≡ true
    → IfSome made (λ fails. IfSome room (λ o. failed ≡ (fails || nat_lt 0 len && o == 0))) → ⊥
no_failed_write made room failed len r made_is room_is some is_failed fails =
    let one = subst (λ m. IfSome m (λ f. IfSome room (λ o. failed ≡ (f || nat_lt 0 len && o == 0)))) made_is fails in
    let two : failed ≡ (false || nat_lt 0 len && r == 0) = subst (λ o. IfSome o (λ n. failed ≡ (false || nat_lt 0 len && n == 0))) room_is one in
    grind (arith, nat_tests, two, is_failed, some)

-- one write more
pub written_more : {S : Type 0} (held : S → Option (List ℕ)) (faults : S → ℕ) (made : S → ℕ → Option Bool) (room : S → Option ℕ) (first now next : S) (bytes : List ℕ) (done count : ℕ)
    → WrittenSoFar held faults made room first now bytes done
    → count ≤ length (take (length bytes - done) (drop done bytes)) → Appends (held now) (held next) (take count (take (length bytes - done) (drop done bytes))) → faults now ≤ faults next
    → faults next ≡ faults now → ((k : ℕ) → made next k ≡ made now (k + 1)) → IfSome (room now) (λ r. room next ≡ Some (r - count))
    → WrittenSoFar held faults made room first next bytes (done + count)
written_more held faults made room first now next bytes done count so_far bound more later same calls taken =
    let rest : take (length bytes - done) (drop done bytes) ≡ drop done bytes = between_to_end bytes done (length bytes) (omega arith) in
    let fits : count ≤ length (drop done bytes) = subst (λ (l : List ℕ). count ≤ length l) rest bound in
    record {
      within = omega (arith, so_far.within, length-drop done bytes);
      still = λ unfailing k. calls k ∙ so_far.still unfailing (k + 1);
      steady = λ space unfailing there enough.
          let before = so_far.steady space unfailing there enough in
          let left : room next ≡ Some (space - done - count) = subst (λ o. IfSome o (λ r. room next ≡ Some (r - count))) before.0 taken in
          let sum : space - done - count ≡ space - (done + count) = omega arith in
          (left ∙ ap Some sum, same ∙ before.1);
      appended = subst (λ (l : List ℕ). Appends (held first) (held next) l) (sym (take-add done count bytes))
          (Appends-trans _ _ _ _ _ so_far.appended (subst (λ (l : List ℕ). Appends (held now) (held next) (take count l)) rest more));
      later = omega (arith, so_far.later);
    }

pub record ReadSoFar {I : Type 0} (told : I → List ℕ → Option (List ℕ)) (faults : I → List ℕ → ℕ) (answers_to : I → List ℕ → Type 0) (left : I → Option (List ℕ)) (given : I → ℕ) (made : I → ℕ → Option Bool) (first now : I) (name bytes piece : List ℕ) : Type 0 where
  pub same : (other : List ℕ) → told now other ≡ told first other
  pub later : NeverFall (faults first) (faults now)
  pub current : answers_to now name
  pub consumed : Consumes (told first name) (left now) bytes
  pub counted : given now ≡ count_after 0 (length bytes)
  pub room : 0 < length piece
  pub still : Unfailing made first → Unfailing made now
  pub steady : Unfailing made first → IsSome (told first name) → SameCounts (faults first) (faults now)

-- a read after one that gave nothing
pub kept_read : (a b c : Option (List ℕ)) (bs : List ℕ) → Keeps a b → Consumes b c bs → Consumes a c bs
kept_read None b c bs kept read = tt
kept_read (Some xs) None c bs kept read = absurd kept
kept_read (Some xs) (Some ys) None bs kept read = absurd read
kept_read (Some xs) (Some ys) (Some zs) bs kept read = sym kept ∙ read

pub ruleset kept = (kept_read, Keeps-refl, Keeps-trans)

-- which calls are listed, one call later
pub listed_later : (failing : List ℕ) (calls k : ℕ) → is_listed failing (count_after calls 1) k ≡ is_listed failing calls (k + 1)
listed_later failing calls k =
    let same : count_after (count_after calls 1) (k + 1) ≡ count_after calls (k + 1 + 1) = omega arith in
    ap (λ (n : ℕ). list_any (λ call. eqb call n) failing) same
