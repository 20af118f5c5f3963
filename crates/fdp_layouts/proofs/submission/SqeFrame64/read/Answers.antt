use Rattle.std.proofs.Common.{rules, ap, ◌∙◌, [], ◌∷◌}
use Rattle.fdp_layouts.specs.Frame.{unpacked}
use Rattle.fdp_layouts.specs.Submission.{flags_parts}
use Rattle.fdp_layouts.proofs.SubmissionApart.{sqe_by_numbers}
use Rattle.fdp_layouts.proofs.submission.SqeFrame64.read.Goals as goal

pub returns-clause-holds : goal.returns-clause-holds
returns-clause-holds c =
    let flags = c.in-Some-from_code.ensures.1 ∙ ap (unpacked flags_parts) c.read_u8.ensures in (
      search rules,
      λ i. (c.read_u8-opcode.ensures i ∷ []) ∷ flags i ∷ (c.read_u16-cid.ensures i ∷ []) ∷ (c.read_u32-nsid.ensures i ∷ []) ∷ (c.read_u32-cdw2.ensures i ∷ []) ∷ (c.read_u32-cdw3.ensures i ∷ [])
          ∷ (c.read_u64-mptr.ensures i ∷ []) ∷ c.read_bytes-dptr.ensures i ∷ (c.read_u32-cdw10.ensures i ∷ []) ∷ (c.read_u32-cdw11.ensures i ∷ []) ∷ (c.read_u32-cdw12.ensures i ∷ [])
          ∷ (c.read_u32-cdw13.ensures i ∷ []) ∷ (c.read_u32-cdw14.ensures i ∷ []) ∷ (c.read_u32-cdw15.ensures i ∷ []) ∷ [],
    )

pub returns-clause-known : goal.returns-clause-known
returns-clause-known c = sqe_by_numbers _
