-- Nodes that were copied so far, and one more.
use Rattle.std.proofs.Common.{◌≡◌, ◌<◌, ◌+◌, ◌++◌, ◌∷◌, [], ℕ, List, length, take, sym, ◌∙◌, ap}
use Rattle.std.proofs.lemmas.List.{take_more}
use Rattle.abi_types.specs.Types.{PlainNode}
use Rattle.abi_types.specs.Graphs.{node_at, void_node}

pub copied_more : (nodes grown graph : List PlainNode) (k at : ℕ) (node : PlainNode) → nodes ≡ take k graph → k < length graph → at ≡ k
    → node ≡ node_at graph at → grown ≡ nodes ++ node ∷ [] → grown ≡ take (k + 1) graph
copied_more nodes grown graph k at node before inside is one pushed =
    pushed ∙ ap (λ xs. xs ++ node ∷ []) before ∙ ap (λ n. take k graph ++ n ∷ []) (one ∙ ap (node_at graph) is) ∙ sym (take_more graph k void_node inside)
