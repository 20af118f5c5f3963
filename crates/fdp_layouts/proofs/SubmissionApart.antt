-- An entry of a submission queue is known by its numbers.
use Rattle.std.proofs.Common.{◌≡◌, ℕ, ◌==◌, refl, sym, ap, ◌∙◌}
use Rattle.std.specs.Prelude.{if◌then◌else◌}
use Rattle.fdp_layouts.specs.declared.submission.Sqe.{Sqe}
use Rattle.fdp_layouts.specs.declared.submission.EntryFlags.{EntryFlags}
use Rattle.fdp_layouts.specs.declared.submission.Fuse.{Fuse}
use Rattle.fdp_layouts.specs.declared.submission.Fuse.TheVariants as fuses
use Rattle.fdp_layouts.specs.declared.submission.Psdt.{Psdt}
use Rattle.fdp_layouts.specs.declared.submission.Psdt.TheVariants as psdts
use Rattle.fdp_layouts.specs.Submission.{fuse_code, psdt_code, flags_numbers, sqe_numbers}

fuse_of : ℕ → Fuse
fuse_of n = if n == 0 then fuses.Normal else (if n == 1 then fuses.First else (if n == 2 then fuses.Second else fuses.Reserved))

fuse_of_code : (f : Fuse) → fuse_of (fuse_code f) ≡ f
unfolding fuse_of
fuse_of_code fuses.Normal = refl
fuse_of_code fuses.First = refl
fuse_of_code fuses.Second = refl
fuse_of_code fuses.Reserved = refl

psdt_of : ℕ → Psdt
psdt_of n = if n == 0 then psdts.Prp else (if n == 1 then psdts.SglMetadataBuffer else (if n == 2 then psdts.SglMetadataSegment else psdts.Reserved))

psdt_of_code : (p : Psdt) → psdt_of (psdt_code p) ≡ p
unfolding psdt_of
psdt_of_code psdts.Prp = refl
psdt_of_code psdts.SglMetadataBuffer = refl
psdt_of_code psdts.SglMetadataSegment = refl
psdt_of_code psdts.Reserved = refl

flags_by_numbers : (v w : EntryFlags) → flags_numbers v ≡ flags_numbers w → v ≡ w
flags_by_numbers v w e =
    let fuses-same : fuse_code v.fuse ≡ fuse_code w.fuse = cc in
    let fuse = sym (fuse_of_code v.fuse) ∙ ap fuse_of fuses-same ∙ fuse_of_code w.fuse in
    let psdts-same : psdt_code v.psdt ≡ psdt_code w.psdt = cc in
    let psdt = sym (psdt_of_code v.psdt) ∙ ap psdt_of psdts-same ∙ psdt_of_code w.psdt in
    λ i. record { fuse = fuse i; psdt = psdt i }

pub sqe_by_numbers : (v w : Sqe) → sqe_numbers v ≡ sqe_numbers w → v ≡ w
sqe_by_numbers v w e =
    let opcode : v.opcode ≡ w.opcode = cc in
    let flags = flags_by_numbers v.flags w.flags (cc) in
    let cid : v.cid ≡ w.cid = cc in
    let nsid : v.nsid ≡ w.nsid = cc in
    let cdw2 : v.cdw2 ≡ w.cdw2 = cc in
    let cdw3 : v.cdw3 ≡ w.cdw3 = cc in
    let mptr : v.mptr ≡ w.mptr = cc in
    let dptr : v.dptr ≡ w.dptr = cc in
    let cdw10 : v.cdw10 ≡ w.cdw10 = cc in
    let cdw11 : v.cdw11 ≡ w.cdw11 = cc in
    let cdw12 : v.cdw12 ≡ w.cdw12 = cc in
    let cdw13 : v.cdw13 ≡ w.cdw13 = cc in
    let cdw14 : v.cdw14 ≡ w.cdw14 = cc in
    let cdw15 : v.cdw15 ≡ w.cdw15 = cc in
    λ i. record { opcode = opcode i; flags = flags i; cid = cid i; nsid = nsid i; cdw2 = cdw2 i; cdw3 = cdw3 i; mptr = mptr i; dptr = dptr i; cdw10 = cdw10 i; cdw11 = cdw11 i; cdw12 = cdw12 i; cdw13 = cdw13 i; cdw14 = cdw14 i; cdw15 = cdw15 i }
