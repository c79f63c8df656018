-- Texts that are made piece by piece.
use Rattle.std.proofs.Common.{◌≡◌, ℕ, zero, suc, ◌+◌, List, [], ◌∷◌, ◌++◌, sym, ap, ◌∙◌, arith}
use Rattle.std.specs.List.{flat_map, range_with_len}
use Rattle.std.proofs.lemmas.List.{flat_map_more}
use Rattle.abi_base.proofs.lemmas.Ranges.{range_suc, below_more}

-- one piece more
pub pieces_more : (piece : ℕ → List ℕ) (old text : List ℕ) (n : ℕ) → text ≡ old ++ flat_map piece (range_with_len 0 n) → text ++ piece n ≡ old ++ flat_map piece (range_with_len 0 (n + 1))
pieces_more piece old text n so_far =
    ap (λ (l : List ℕ). l ++ piece n) so_far ∙ flat_map_more piece old (range_with_len 0 n) n ∙ ap (λ (l : List ℕ). old ++ flat_map piece l) (sym (below_more n))
