-- Exports as the code reads them, and their lines.
use Rattle.std.proofs.Common.{◌≡◌, ◌+◌, ℕ, false, true, List, [], ◌++◌, length, Option, Some, None, refl, sym, ◌∙◌, ap, slice_get, slice_index_or}
use Rattle.std.specs.Prelude.{option_to_list}
use Rattle.abi_types.specs.Exports.{PlainExport}
use Rattle.cert_check.specs.Compatible.{Sides, bound}
use Rattle.pair_compare.specs.certificates.Lines.{line_between, line_from, bind_line, bind_lines}
use Rattle.pair_compare.specs.certificates.LineLists.{binds_below}
use Rattle.cert_check.specs.Given.{StandInOrder}

-- ---- the line of one export

pub line_dropped : (s : Sides) (k : ℕ) → slice_index_or s.marks.exports k false ≡ true → bind_line s k ≡ None
unfolding bind_line
line_dropped s k dropped = go (slice_get s.old.exports k) where
  go : (o : Option PlainExport) → line_from s k o ≡ None
  go None = refl
  go (Some e) = rw dropped refl

line_kept : (s : Sides) (k : ℕ) (e : PlainExport) → slice_get s.old.exports k ≡ Some e → slice_index_or s.marks.exports k false ≡ false → bind_line s k ≡ line_between e (bound s e)
unfolding bind_line
line_kept s k e at kept =
    let here : line_from s k (Some e) ≡ line_between e (bound s e) = rw kept refl in
    ap (line_from s k) at ∙ here

pub line_unbound : (s : Sides) (k : ℕ) (e : PlainExport) → slice_get s.old.exports k ≡ Some e → slice_index_or s.marks.exports k false ≡ false → bound s e ≡ None → bind_line s k ≡ None
line_unbound s k e at kept none = line_kept s k e at kept ∙ ap (line_between e) none

pub line_bound : (s : Sides) (k : ℕ) (e f : PlainExport) → slice_get s.old.exports k ≡ Some e → slice_index_or s.marks.exports k false ≡ false → bound s e ≡ Some f → bind_line s k ≡ Some (e.symbol, f.symbol)
line_bound s k e f at kept binds = line_kept s k e at kept ∙ ap (line_between e) binds

-- ---- the lines of the first exports

-- lines that are given for numbers stand in the order of the numbers
abbrev pub GivenLaw : Type 0
GivenLaw = (line : ℕ → Option (ℕ × ℕ)) → StandInOrder line

pub binds-zero : (s : Sides) → binds_below s 0 ≡ []
unfolding binds_below
binds-zero s = refl

pub binds-more : GivenLaw → (s : Sides) (n : ℕ) (line : Option (ℕ × ℕ)) (lines more : List (ℕ × ℕ)) → lines ≡ binds_below s n → line ≡ bind_line s n → more ≡ lines ++ option_to_list line → more ≡ binds_below s (n + 1)
unfolding binds_below
binds-more given s n line lines more so_far is pushed =
    pushed ∙ ap (λ (ls : List (ℕ × ℕ)). ls ++ option_to_list line) so_far ∙ ap (λ (o : Option (ℕ × ℕ)). binds_below s n ++ option_to_list o) is ∙ sym ((given (bind_line s)).more n)

pub binds-all : (s : Sides) (n : ℕ) (lines : List (ℕ × ℕ)) → n ≡ length s.old.exports → lines ≡ binds_below s n → lines ≡ bind_lines s
unfolding binds_below bind_lines
binds-all s n lines all so_far = so_far ∙ ap (λ (m : ℕ). binds_below s m) all
