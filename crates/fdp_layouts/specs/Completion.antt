-- The layout of completion queue entries.
use Rattle.std.specs.Prelude.{ℕ, List, [], ◌∷◌}
use Rattle.fdp_base.specs.EventCodes.{bit}
use Rattle.fdp_layouts.specs.Frame.{Part, Field, any, number}
use Rattle.fdp_layouts.specs.declared.completion.Cqe.{Cqe}
use Rattle.fdp_layouts.specs.declared.completion.StatusField.{StatusField}
use Rattle.fdp_layouts.specs.declared.completion.StatusCodeType.{StatusCodeType}
use Rattle.fdp_layouts.specs.declared.completion.StatusCodeType.TheVariants as types
use Rattle.fdp_layouts.specs.declared.completion.RetryDelay.{RetryDelay}
use Rattle.fdp_layouts.specs.declared.completion.RetryDelay.TheVariants as delays

abbrev pub sct_code : StatusCodeType → ℕ
sct_code types.Generic = 0
sct_code types.CommandSpecific = 1
sct_code types.MediaAndDataIntegrity = 2
sct_code types.PathRelated = 3
sct_code types.Reserved4 = 4
sct_code types.Reserved5 = 5
sct_code types.Reserved6 = 6
sct_code types.VendorSpecific = 7

abbrev pub crd_code : RetryDelay → ℕ
crd_code delays.None = 0
crd_code delays.First = 1
crd_code delays.Second = 2
crd_code delays.Third = 3

-- phase bit 0, SC 8:1, SCT 11:9, CRD 13:12, M 14, DNR 15
abbrev pub status_parts : List Part
status_parts = any 1 ∷ any 8 ∷ any 3 ∷ any 2 ∷ any 1 ∷ any 1 ∷ []

abbrev pub status_numbers : StatusField → List ℕ
status_numbers s = bit s.phase ∷ s.sc ∷ sct_code s.sct ∷ crd_code s.crd ∷ bit s.more ∷ bit s.dnr ∷ []

-- DW0 0+4, DW1 4+4, SQ head 8+2, SQ identifier 10+2, CID 12+2, status 14+2
abbrev pub cqe : List Field
cqe =
    number 0 4 ∷ number 4 4 ∷ number 8 2 ∷ number 10 2 ∷ number 12 2 ∷ record { at = 14; parts = status_parts } ∷ []

abbrev pub cqe_numbers : Cqe → List (List ℕ)
cqe_numbers c =
    (c.dw0 ∷ []) ∷ (c.dw1 ∷ []) ∷ (c.sq_head ∷ []) ∷ (c.sq_id ∷ []) ∷ (c.cid ∷ []) ∷ status_numbers c.status ∷ []
