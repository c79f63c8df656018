-- Listeners, chosen one after another by their styles.
use Rattle.std.proofs.Common.{◌≡◌, ◌≤◌, ◌<◌, ◌+◌, ℕ, Bool, true, false, cond, List, [], ◌∷◌, ◌++◌, length, map, filter, take, drop, get_or, refl, sym, ◌∙◌, ap, subst, arith, length-drop, append-nil, All}
use Rattle.std.specs.List.{remove}
use Rattle.std.proofs.lemmas.List.{take_more, take_all, drop_more}
use Rattle.std.proofs.lemmas.List.Elements.{All-drop, All-get_or, All-append, All-cons, All-nil, filter-append}
use Rattle.report.specs.Listening.{Voice}
use Rattle.report.specs.declared.row.Row.{Row}
use Rattle.report.specs.declared.styles.report_option.ReportStyle.{ReportStyle}
use Rattle.report.specs.styles.Wanted.{is_wanted, wanted_voices}

module _ {B : Type 0} (heard : B → List Row) (voice : B → Voice) (wanted : ReportStyle) (all : List B) where
  abbrev pub picks : B → Bool
  picks b = is_wanted wanted (voice b).style

  -- of the first listeners those that are wanted were kept
  pub record Chooses (waiting kept : List B) : Type 0 where
    pub done : ℕ
    pub within : done ≤ length all
    pub left : waiting ≡ drop done all
    pub unheard : All (λ b. heard b ≡ []) waiting
    pub kept_unheard : All (λ b. heard b ≡ []) kept
    pub are : kept ≡ filter (λ b. is_wanted wanted (voice b).style) (take done all)

  pub chooses_first : All (λ b. heard b ≡ []) all → Chooses all []
  chooses_first unheard = record { done = 0; within = omega arith; left = refl; unheard = unheard; kept_unheard = All-nil (λ b. heard b ≡ []); are = refl }

  module _ (waiting kept : List B) (b : B) (so_far : Chooses waiting kept) (some : 0 < length waiting) (is : b ≡ get_or waiting 0 b) where
    inside : so_far.done < length all
    inside = omega (arith, some, ap length so_far.left, length-drop so_far.done all)

    split : waiting ≡ get_or all so_far.done b ∷ drop (so_far.done + 1) all
    split = so_far.left ∙ drop_more all so_far.done b inside

    here : get_or all so_far.done b ≡ b
    here = sym (is ∙ ap (λ (l : List B). get_or l 0 b) split)

    more : take (so_far.done + 1) all ≡ take so_far.done all ++ b ∷ []
    more = take_more all so_far.done b inside ∙ ap (λ (x : B). take so_far.done all ++ x ∷ []) here

    wanted_more : filter picks (take (so_far.done + 1) all) ≡ filter picks (take so_far.done all) ++ filter picks (b ∷ [])
    wanted_more = ap (filter picks) more ∙ filter-append picks (take so_far.done all) (b ∷ [])

    silent : heard b ≡ []
    silent = subst (λ (x : B). heard x ≡ []) (sym is) (All-get_or (λ (x : B). heard x ≡ []) waiting 0 b some so_far.unheard)

    pub chooses_one : is_wanted wanted (voice b).style ≡ true → Chooses (remove waiting 0) (kept ++ b ∷ [])
    chooses_one is_so =
        let one : filter picks (b ∷ []) ≡ b ∷ [] = rw is_so refl in
        record {
          done = so_far.done + 1;
          within = omega (arith, inside);
          left = ap (λ (l : List B). drop 1 l) split;
          unheard = All-drop (λ (x : B). heard x ≡ []) 1 waiting so_far.unheard;
          kept_unheard = All-append (λ (x : B). heard x ≡ []) kept (b ∷ []) so_far.kept_unheard (All-cons (λ (x : B). heard x ≡ []) b [] silent (All-nil (λ (x : B). heard x ≡ [])));
          are = ap (λ (l : List B). l ++ b ∷ []) so_far.are ∙ ap (λ (l : List B). filter picks (take so_far.done all) ++ l) (sym one) ∙ sym wanted_more;
        }

    pub passes_one : is_wanted wanted (voice b).style ≡ false → Chooses (remove waiting 0) kept
    passes_one is_not =
        let none : filter picks (b ∷ []) ≡ [] = rw is_not refl in
        record {
          done = so_far.done + 1;
          within = omega (arith, inside);
          left = ap (λ (l : List B). drop 1 l) split;
          unheard = All-drop (λ (x : B). heard x ≡ []) 1 waiting so_far.unheard;
          kept_unheard = so_far.kept_unheard;
          are = so_far.are ∙ sym (append-nil (filter picks (take so_far.done all))) ∙ ap (λ (l : List B). filter picks (take so_far.done all) ++ l) (sym none) ∙ sym wanted_more;
        }

  -- the same for equal lists
  pub chooses_at : (waiting waiting' kept kept' : List B) → Chooses waiting kept → waiting' ≡ waiting → kept' ≡ kept → Chooses waiting' kept'
  chooses_at waiting waiting' kept kept' so_far w k = record {
    done = so_far.done;
    within = so_far.within;
    left = w ∙ so_far.left;
    unheard = subst (All (λ (x : B). heard x ≡ [])) (sym w) so_far.unheard;
    kept_unheard = subst (All (λ (x : B). heard x ≡ [])) (sym k) so_far.kept_unheard;
    are = k ∙ so_far.are;
  }

  pub chosen : (waiting kept : List B) → Chooses waiting kept → length waiting ≡ 0 → kept ≡ filter (λ b. is_wanted wanted (voice b).style) all
  chosen waiting kept so_far none =
      let past : length all ≤ so_far.done = omega (arith, none, ap length so_far.left, length-drop so_far.done all) in
      so_far.are ∙ ap (λ (l : List B). filter picks l) (take_all so_far.done all past)

-- the voices of the kept listeners
filtered : {B : Type 0} (voice : B → Voice) (wanted : ReportStyle) (b : B) (test : Bool) (kept : List B) (voices : List Voice) → map voice kept ≡ voices
    → map voice (cond test (b ∷ kept) kept) ≡ cond test (voice b ∷ voices) voices
filtered voice wanted b true kept voices is = ap (λ (l : List Voice). voice b ∷ l) is
filtered voice wanted b false kept voices is = is

pub voices_of : {B : Type 0} (voice : B → Voice) (wanted : ReportStyle) (all : List B) → map voice (filter (λ b. is_wanted wanted (voice b).style) all) ≡ wanted_voices wanted (map voice all)
voices_of voice wanted [] = refl
voices_of voice wanted (b ∷ all) =
    filtered voice wanted b (is_wanted wanted (voice b).style) (filter (λ x. is_wanted wanted (voice x).style) all) (wanted_voices wanted (map voice all)) (voices_of voice wanted all)
