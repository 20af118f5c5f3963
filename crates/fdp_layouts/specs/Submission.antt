-- The layout of submission queue entries.
use Rattle.std.specs.Prelude.{ℕ, List, [], ◌∷◌}
use Rattle.fdp_layouts.specs.Frame.{Part, Field, any, zeros, number, opaque}
use Rattle.fdp_layouts.specs.declared.submission.Sqe.{Sqe}
use Rattle.fdp_layouts.specs.declared.submission.EntryFlags.{EntryFlags}
use Rattle.fdp_layouts.specs.declared.submission.Fuse.{Fuse}
use Rattle.fdp_layouts.specs.declared.submission.Fuse.TheVariants as fuses
use Rattle.fdp_layouts.specs.declared.submission.Psdt.{Psdt}
use Rattle.fdp_layouts.specs.declared.submission.Psdt.TheVariants as psdts

abbrev pub fuse_code : Fuse → ℕ
fuse_code fuses.Normal = 0
fuse_code fuses.First = 1
fuse_code fuses.Second = 2
fuse_code fuses.Reserved = 3

abbrev pub psdt_code : Psdt → ℕ
psdt_code psdts.Prp = 0
psdt_code psdts.SglMetadataBuffer = 1
psdt_code psdts.SglMetadataSegment = 2
psdt_code psdts.Reserved = 3

-- FUSE bits 1:0, bits 5:2 zero, PSDT bits 7:6
abbrev pub flags_parts : List Part
flags_parts = any 2 ∷ zeros 4 ∷ any 2 ∷ []

abbrev pub flags_numbers : EntryFlags → List ℕ
flags_numbers f = fuse_code f.fuse ∷ 0 ∷ psdt_code f.psdt ∷ []

-- opcode 0+1, flags 1+1, CID 2+2, NSID 4+4, CDW2 8+4, CDW3 12+4, MPTR 16+8, DPTR 24+16, CDW10 40+4 to CDW15 60+4
abbrev pub sqe : List Field
sqe =
    number 0 1 ∷ record { at = 1; parts = flags_parts } ∷ number 2 2 ∷ number 4 4 ∷ number 8 4 ∷ number 12 4
    ∷ number 16 8 ∷ opaque 24 16 ∷ number 40 4 ∷ number 44 4 ∷ number 48 4 ∷ number 52 4 ∷ number 56 4 ∷ number 60 4 ∷ []

abbrev pub sqe_numbers : Sqe → List (List ℕ)
sqe_numbers s =
    (s.opcode ∷ []) ∷ flags_numbers s.flags ∷ (s.cid ∷ []) ∷ (s.nsid ∷ []) ∷ (s.cdw2 ∷ []) ∷ (s.cdw3 ∷ [])
    ∷ (s.mptr ∷ []) ∷ s.dptr ∷ (s.cdw10 ∷ []) ∷ (s.cdw11 ∷ []) ∷ (s.cdw12 ∷ []) ∷ (s.cdw13 ∷ []) ∷ (s.cdw14 ∷ []) ∷ (s.cdw15 ∷ []) ∷ []
