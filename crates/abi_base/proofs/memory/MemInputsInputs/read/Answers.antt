use Rattle.std.proofs.Common.{subst}
use Rattle.abi_base.specs.Files.{Files, CopiesFront, rest_at}
use Rattle.abi_base.proofs.FilesLemmas.{rest_taken, rest_ended}
use Rattle.abi_base.proofs.memory.MemInputsInputs.read.Goals as goal

pub returns-clause-bytes : goal.returns-clause-bytes
returns-clause-bytes c =
    let m = c.args.self.now in
    let count = c.copy_rest-count.result in
    let copied = subst (λ (files : Files). CopiesFront (rest_at files m.current m.at) c.args.into.now c.copy_rest-count.new.into count) c.deref.ensures.value c.copy_rest-count.ensures.copied in
    (rest_taken _ m.at count c.copy_rest-count.new.into copied.copied, λ none some. rest_ended _ m.at count none (copied.some (rw copied.same_room at some)))
