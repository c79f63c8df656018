-- The objects of inputs, one more.
use Rattle.std.proofs.Common.{◌≡◌, ◌∙◌, ◌+◌, ◌<◌, ◌≤◌, ℕ, Bool, List, [], ◌∷◌, ◌++◌, length, get_or, map, take, ap, sym, subst, inl}
use Rattle.std.proofs.lemmas.List.{map-append, take_more}
use Rattle.abi_base.specs.Limits.{input_limit}
use Rattle.commands.specs.Commands.{PlainFile, plain_file}
use Rattle.commands.specs.Read.{HasBytes}
use Rattle.commands.specs.declared.place.File.{File}
use Rattle.commands.specs.declared.input.Input.{Input}
use Rattle.serde_json.specs.Data.{Data}
use Rattle.document_head.specs.Inputs.{AreInputs, IsInput, IsOfFile, Shown, shown_of}

pub one_more : (shown : Shown) (inputs : List PlainFile) (values : List Data) (input : PlainFile) (value : Data)
    → AreInputs shown inputs values → IsInput shown input value → AreInputs shown (inputs ++ input ∷ []) (values ++ value ∷ [])
one_more shown [] [] input value all one = (one, tt)
one_more shown [] (other ∷ values) input value all one = absurd all
one_more shown (other ∷ inputs) [] input value all one = absurd all
one_more shown (first ∷ inputs) (other ∷ values) input value all one = (all.0, one_more shown inputs values input value all.1 one)

-- the same for the inputs before a place of a list
pub more_at : (shown : Shown) (files : List File) (i : ℕ) (d : File) (old new : List Data) (value : Data) → i < length files
    → AreInputs shown (map plain_file (take i files)) old → IsInput shown (plain_file (get_or files i d)) value → new ≡ old ++ value ∷ []
    → AreInputs shown (map plain_file (take (i + 1) files)) new
more_at shown files i d old new value inside all one is =
    let here : map plain_file (take i files) ++ plain_file (get_or files i d) ∷ [] ≡ map plain_file (take (i + 1) files) =
    sym (ap (λ (fs : List File). map plain_file fs) (take_more files i d inside) ∙ map-append plain_file (take i files) (get_or files i d ∷ [])) in
    subst (λ (vs : List Data). AreInputs shown (map plain_file (take (i + 1) files)) vs) (sym is)
    (subst (λ (inputs : List PlainFile). AreInputs shown inputs (old ++ value ∷ [])) here
    (one_more shown (map plain_file (take i files)) old (plain_file (get_or files i d)) value all one))

-- the object of an input that was read
pub of_read : (with_digests : Bool) (roles : List Input) (all : List (List ℕ)) (input : PlainFile) (file : List ℕ) (value : Data)
    → HasBytes roles all input.0 file → length file ≤ input_limit → IsOfFile with_digests input file value → IsInput (shown_of with_digests roles all) input value
of_read with_digests roles all input file value has within is = inl (record { file = file; read = has; within = within; of_file = is })
