-- The parts of the FDP Events log page are known by their numbers.
use Rattle.std.proofs.Common.{◌≡◌, ℕ, ◌+◌, ◌*◌, ◌/◌, ◌%◌, Bool, true, false, ◌==◌, refl, sym, ap, ◌∙◌}
use Rattle.std.specs.Prelude.{if◌then◌else◌}
use Rattle.fdp_base.specs.declared.event.EventFlags.{EventFlags}
use Rattle.fdp_base.specs.declared.event.EventKind.{EventKind}
use Rattle.fdp_base.specs.declared.event.EventKind.TheVariants as kinds
use Rattle.fdp_base.specs.EventCodes.{bit, flags_code, kind_code}
use Rattle.fdp_layouts.specs.declared.events.EventHead.{EventHead}
use Rattle.fdp_layouts.specs.declared.events.EventDesc.{EventDesc}
use Rattle.fdp_layouts.specs.declared.events.ReallocatedDesc.{ReallocatedDesc}
use Rattle.fdp_layouts.specs.Events.{event_head_numbers, kind_numbers, event_flags_numbers, event_desc_numbers, reallocated_desc_numbers}
use Rattle.fdp_layouts.proofs.Bits.{bit_apart}

pub event_head_by_numbers : (v w : EventHead) → event_head_numbers v ≡ event_head_numbers w → v ≡ w
event_head_by_numbers v w e =
    let events : v.events ≡ w.events = cc in
    λ i. record { events = events i }

kind_of : ℕ → EventKind
kind_of n =
    if n == 0x00 then kinds.NotFullyWritten else (if n == 0x01 then kinds.TimeLimitExceeded else (if n == 0x02 then kinds.HandlesModified
    else (if n == 0x03 then kinds.InvalidPlacementIdentifier else (if n == 0x80 then kinds.MediaReallocated else kinds.ImplicitlyModified))))

kind_of_code : (k : EventKind) → kind_of (kind_code k) ≡ k
unfolding kind_of
kind_of_code kinds.NotFullyWritten = refl
kind_of_code kinds.TimeLimitExceeded = refl
kind_of_code kinds.HandlesModified = refl
kind_of_code kinds.InvalidPlacementIdentifier = refl
kind_of_code kinds.MediaReallocated = refl
kind_of_code kinds.ImplicitlyModified = refl

kind_by_numbers : (v w : EventKind) → kind_numbers v ≡ kind_numbers w → v ≡ w
kind_by_numbers v w e =
    let same : kind_code v ≡ kind_code w = cc in
    sym (kind_of_code v) ∙ ap kind_of same ∙ kind_of_code w

-- a flag is a bit of the code of all three
bits_of_flags : (a b c : Bool) → ((bit a + 2 * bit b + 4 * bit c) % 2 ≡ bit a) × ((bit a + 2 * bit b + 4 * bit c) / 2 % 2 ≡ bit b) × ((bit a + 2 * bit b + 4 * bit c) / 4 ≡ bit c)
bits_of_flags true true true = (refl, refl, refl)
bits_of_flags true true false = (refl, refl, refl)
bits_of_flags true false true = (refl, refl, refl)
bits_of_flags true false false = (refl, refl, refl)
bits_of_flags false true true = (refl, refl, refl)
bits_of_flags false true false = (refl, refl, refl)
bits_of_flags false false true = (refl, refl, refl)
bits_of_flags false false false = (refl, refl, refl)

event_flags_by_numbers : (v w : EventFlags) → event_flags_numbers v ≡ event_flags_numbers w → v ≡ w
event_flags_by_numbers v w e =
    let same : flags_code v ≡ flags_code w = cc in
    let x = bits_of_flags v.pid_valid v.nsid_valid v.location_valid in
    let y = bits_of_flags w.pid_valid w.nsid_valid w.location_valid in
    let pid_valid = bit_apart v.pid_valid w.pid_valid (sym x.0 ∙ ap (λ (n : ℕ). n % 2) same ∙ y.0) in
    let nsid_valid = bit_apart v.nsid_valid w.nsid_valid (sym x.1 ∙ ap (λ (n : ℕ). n / 2 % 2) same ∙ y.1) in
    let location_valid = bit_apart v.location_valid w.location_valid (sym x.2 ∙ ap (λ (n : ℕ). n / 4) same ∙ y.2) in
    λ i. record { pid_valid = pid_valid i; nsid_valid = nsid_valid i; location_valid = location_valid i }

pub event_desc_by_numbers : (v w : EventDesc) → event_desc_numbers v ≡ event_desc_numbers w → v ≡ w
event_desc_by_numbers v w e =
    let kind = kind_by_numbers v.kind w.kind (cc) in
    let flags = event_flags_by_numbers v.flags w.flags (cc) in
    let pid : v.pid ≡ w.pid = cc in
    let timestamp : v.timestamp ≡ w.timestamp = cc in
    let nsid : v.nsid ≡ w.nsid = cc in
    let specific : v.specific ≡ w.specific = cc in
    let rg : v.rg ≡ w.rg = cc in
    let ruhid : v.ruhid ≡ w.ruhid = cc in
    let vendor : v.vendor ≡ w.vendor = cc in
    λ i. record { kind = kind i; flags = flags i; pid = pid i; timestamp = timestamp i; nsid = nsid i; specific = specific i; rg = rg i; ruhid = ruhid i; vendor = vendor i }

pub reallocated_desc_by_numbers : (v w : ReallocatedDesc) → reallocated_desc_numbers v ≡ reallocated_desc_numbers w → v ≡ w
reallocated_desc_by_numbers v w e =
    let lba_valid = bit_apart v.lba_valid w.lba_valid (cc) in
    let nlbam : v.nlbam ≡ w.nlbam = cc in
    let lba : v.lba ≡ w.lba = cc in
    λ i. record { lba_valid = lba_valid i; nlbam = nlbam i; lba = lba i }
