-- What the rows of a checkpoint say of what they were made of.
use Rattle.std.proofs.Common.{◌≡◌, ◌⊎◌, ℕ, ◌+◌, ◌-◌, Bool, true, false, List, length, take, Option, Some, None, refl, sym, ap, ◌∙◌, arith, inl, inr}
use Rattle.std.specs.Prelude.{◌==◌, if◌then◌else◌, slice_index}
use Rattle.std.proofs.lemmas.List.{length-replicate, take_all}
use Rattle.fdp_base.specs.declared.event.Event.{Event}
use Rattle.fdp_base.specs.declared.event.EventFlags.{EventFlags}
use Rattle.fdp_base.specs.declared.event.EventKind.{EventKind}
use Rattle.fdp_base.specs.declared.event.EventKind.TheVariants as kinds
use Rattle.fdp_base.specs.EventCodes.{flags_code, kind_code}
use Rattle.fdp_rules.specs.LogPages.{event_bytes}
use Rattle.fdp_records.specs.Bytes.{◌⊕◌, laid, part, value}
use Rattle.fdp_records.proofs.Laying.{AreHeld, laid_held}
use Rattle.fdp_records.proofs.Telling.{byte_held, number_back, number_held, part_held}
use Rattle.fdp_snapshot.specs.declared.keys.HandleRow.{HandleRow}
use Rattle.fdp_snapshot.specs.declared.space.Space.{Space}
use Rattle.fdp_snapshot.specs.Events.{IsPlain, event_at, flags_at}
use Rattle.fdp_snapshot.specs.Lengths.{space_ascends}
use Rattle.fdp_snapshot.specs.Rows.{IsEntry, IsSpaceRow, configuration_bytes, configuration_in, entry_of, page_by, page_bytes, page_in, space_bytes, space_in, space_pieces, zeros}
use Rattle.fdp_snapshot.specs.Sizes.{EventFits, RowFits, SpaceFits}
use Rattle.fdp_snapshot.proofs.Spaces.{not_zero}

pub configuration_back : (x : HandleRow) → RowFits x → configuration_in (configuration_bytes x) ≡ x
configuration_back x fits = let mask : value (2 ⊕ 2) (configuration_bytes x) ≡ x.persistent = number_back 2 x.persistent fits in λ i. record { handles = x.handles; persistent = mask i }

-- ---- the page of a block

page_again : (page : Option ℕ) → page_by (entry_of page) ≡ page
page_again None = refl
page_again (Some n) = some (n + 1) n (not_zero (n + 1) (λ e. absurd (omega arith))) (omega arith) where
  some : (m n : ℕ) → (m == 0) ≡ false → m - 1 ≡ n → page_by m ≡ Some n
  some m n e is = of_test (m == 0) e where
    of_test : (b : Bool) → b ≡ false → (if b then None else Some (m - 1)) ≡ Some n
    of_test true e = absurd cc
    of_test false e = ap Some is

pub page_back : (page : Option ℕ) → IsEntry page → page_in (page_bytes page) ≡ page
page_back page fits = ap page_by (number_back 4 (entry_of page) fits) ∙ page_again page

-- ---- a namespace

is_true : (n : ℕ) (b : Bool) → n ≡ (if b then 1 else 0) → (n == 1) ≡ b
is_true n true e = ap (λ (m : ℕ). m == 1) e
is_true n false e = ap (λ (m : ℕ). m == 1) e

said : (bytes : List ℕ) (x : Space) → (value (0 ⊕ 8) bytes == 0) ≡ false → value (0 ⊕ 8) bytes ≡ x.size → value (8 ⊕ 8) bytes ≡ x.birth → (slice_index bytes 16 == 1) ≡ x.given
    → part (24 ⊕ slice_index bytes 17) bytes ≡ x.handles → space_in bytes ≡ Some x
said bytes x some a b d e = of_test (value (0 ⊕ 8) bytes == 0) some where
  of_test : (t : Bool) → t ≡ false → (if t then None else Some (record { size = value (0 ⊕ 8) bytes; birth = value (8 ⊕ 8) bytes; given = slice_index bytes 16 == 1; handles = part (24 ⊕ slice_index bytes 17) bytes })) ≡ Some x
  of_test true t = absurd cc
  of_test false t = λ i. Some (record { size = a i; birth = b i; given = d i; handles = e i })

abbrev pub SpaceIs : Option Space → Type 0
SpaceIs x = IsSpaceRow x × SpaceFits x

pub space_back : (x : Option Space) → SpaceIs x → space_in (space_bytes x) ≡ x
unfolding space_bytes AreHeld
space_back None is = refl
space_back (Some x) is =
    let row = laid (space_pieces x) (zeros 40) in
    let h = laid_held 0 40 (space_pieces x) (zeros 40) (length-replicate {A = ℕ} 40 0) (space_ascends x) in
    let size : value (0 ⊕ 8) row ≡ x.size = number_held 0 8 x.size row is.1.0 h.0 in
    let birth : value (8 ⊕ 8) row ≡ x.birth = number_held 8 8 x.birth row is.1.1 h.1.0 in
    let given : (slice_index row 16 == 1) ≡ x.given = is_true (slice_index row 16) x.given (byte_held 16 (if x.given then 1 else 0) row h.1.1.0) in
    let count : slice_index row 17 ≡ length x.handles = byte_held 17 (length x.handles) row h.1.1.1.0 in
    let full : take 16 x.handles ≡ x.handles = take_all 16 x.handles is.0.handles in
    let list : part (24 ⊕ length x.handles) row ≡ take 16 x.handles = part_held 24 (length x.handles) (take 16 x.handles) row (ap length full) h.1.1.1.1.0 in
    let some : (value (0 ⊕ 8) row == 0) ≡ false = ap (λ (n : ℕ). n == 0) size ∙ not_zero x.size (λ e. absurd (omega (arith, is.0.blocks, e))) in
    said row x some size birth given (ap (λ (n : ℕ). part (24 ⊕ n) row) count ∙ list ∙ full)

-- ---- an event

flags_again : (a b d : Bool) → flags_at (flags_code (record { pid_valid = a; nsid_valid = b; location_valid = d })) ≡ record { pid_valid = a; nsid_valid = b; location_valid = d }
flags_again true true true = refl
flags_again true true false = refl
flags_again true false true = refl
flags_again true false false = refl
flags_again false true true = refl
flags_again false true false = refl
flags_again false false true = refl
flags_again false false false = refl

flags_back : (f : EventFlags) → flags_at (flags_code f) ≡ f
flags_back f = flags_again f.pid_valid f.nsid_valid f.location_valid

abbrev pub EventIs : Event → Type 0
EventIs e = IsPlain e × EventFits e

abbrev event_with : EventKind → EventFlags → ℕ → ℕ → ℕ → ℕ → ℕ → ℕ → ℕ → Event
event_with kind flags pid position nsid moved lba rg ruh = record { kind = kind; flags = flags; pid = pid; position = position; nsid = nsid; moved = moved; lba = lba; rg = rg; ruh = ruh }

none_of : (code n : ℕ) → (code ≡ 0x80) ⊎ (n ≡ 0) → (code ≡ 0x80 → ⊥) → 0 ≡ n
none_of code n (inl e) other = absurd (other e)
none_of code n (inr e) other = sym e

event_again : (kind : EventKind) (flags : EventFlags) (pid position nsid moved lba rg ruh : ℕ) → IsPlain (event_with kind flags pid position nsid moved lba rg ruh)
    → EventFits (event_with kind flags pid position nsid moved lba rg ruh) → event_at (event_bytes (event_with kind flags pid position nsid moved lba rg ruh)) ≡ event_with kind flags pid position nsid moved lba rg ruh
event_again kinds.NotFullyWritten flags pid position nsid moved lba rg ruh plain fits =
    let bytes = event_bytes (event_with kinds.NotFullyWritten flags pid position nsid moved lba rg ruh) in
    let f = flags_back flags in
    let p : value (2 ⊕ 2) bytes ≡ pid = number_back 2 pid fits.pid in
    let q : value (4 ⊕ 8) bytes ≡ position = number_back 8 position fits.position in
    let n : value (12 ⊕ 4) bytes ≡ nsid = number_back 4 nsid fits.nsid in
    let m : value (18 ⊕ 2) bytes ≡ moved = none_of (kind_code kinds.NotFullyWritten) moved plain.moved (λ e. absurd (omega (arith, e))) in
    let l : value (20 ⊕ 8) bytes ≡ lba = none_of (kind_code kinds.NotFullyWritten) lba plain.lba (λ e. absurd (omega (arith, e))) in
    let r : value (32 ⊕ 2) bytes ≡ rg = number_back 2 rg fits.rg in
    λ i. record { kind = kinds.NotFullyWritten; flags = f i; pid = p i; position = q i; nsid = n i; moved = m i; lba = l i; rg = r i; ruh = ruh }
event_again kinds.TimeLimitExceeded flags pid position nsid moved lba rg ruh plain fits =
    let bytes = event_bytes (event_with kinds.TimeLimitExceeded flags pid position nsid moved lba rg ruh) in
    let f = flags_back flags in
    let p : value (2 ⊕ 2) bytes ≡ pid = number_back 2 pid fits.pid in
    let q : value (4 ⊕ 8) bytes ≡ position = number_back 8 position fits.position in
    let n : value (12 ⊕ 4) bytes ≡ nsid = number_back 4 nsid fits.nsid in
    let m : value (18 ⊕ 2) bytes ≡ moved = none_of (kind_code kinds.TimeLimitExceeded) moved plain.moved (λ e. absurd (omega (arith, e))) in
    let l : value (20 ⊕ 8) bytes ≡ lba = none_of (kind_code kinds.TimeLimitExceeded) lba plain.lba (λ e. absurd (omega (arith, e))) in
    let r : value (32 ⊕ 2) bytes ≡ rg = number_back 2 rg fits.rg in
    λ i. record { kind = kinds.TimeLimitExceeded; flags = f i; pid = p i; position = q i; nsid = n i; moved = m i; lba = l i; rg = r i; ruh = ruh }
event_again kinds.HandlesModified flags pid position nsid moved lba rg ruh plain fits =
    let bytes = event_bytes (event_with kinds.HandlesModified flags pid position nsid moved lba rg ruh) in
    let f = flags_back flags in
    let p : value (2 ⊕ 2) bytes ≡ pid = number_back 2 pid fits.pid in
    let q : value (4 ⊕ 8) bytes ≡ position = number_back 8 position fits.position in
    let n : value (12 ⊕ 4) bytes ≡ nsid = number_back 4 nsid fits.nsid in
    let m : value (18 ⊕ 2) bytes ≡ moved = none_of (kind_code kinds.HandlesModified) moved plain.moved (λ e. absurd (omega (arith, e))) in
    let l : value (20 ⊕ 8) bytes ≡ lba = none_of (kind_code kinds.HandlesModified) lba plain.lba (λ e. absurd (omega (arith, e))) in
    let r : value (32 ⊕ 2) bytes ≡ rg = number_back 2 rg fits.rg in
    λ i. record { kind = kinds.HandlesModified; flags = f i; pid = p i; position = q i; nsid = n i; moved = m i; lba = l i; rg = r i; ruh = ruh }
event_again kinds.InvalidPlacementIdentifier flags pid position nsid moved lba rg ruh plain fits =
    let bytes = event_bytes (event_with kinds.InvalidPlacementIdentifier flags pid position nsid moved lba rg ruh) in
    let f = flags_back flags in
    let p : value (2 ⊕ 2) bytes ≡ pid = number_back 2 pid fits.pid in
    let q : value (4 ⊕ 8) bytes ≡ position = number_back 8 position fits.position in
    let n : value (12 ⊕ 4) bytes ≡ nsid = number_back 4 nsid fits.nsid in
    let m : value (18 ⊕ 2) bytes ≡ moved = none_of (kind_code kinds.InvalidPlacementIdentifier) moved plain.moved (λ e. absurd (omega (arith, e))) in
    let l : value (20 ⊕ 8) bytes ≡ lba = none_of (kind_code kinds.InvalidPlacementIdentifier) lba plain.lba (λ e. absurd (omega (arith, e))) in
    let r : value (32 ⊕ 2) bytes ≡ rg = number_back 2 rg fits.rg in
    λ i. record { kind = kinds.InvalidPlacementIdentifier; flags = f i; pid = p i; position = q i; nsid = n i; moved = m i; lba = l i; rg = r i; ruh = ruh }
event_again kinds.MediaReallocated flags pid position nsid moved lba rg ruh plain fits =
    let bytes = event_bytes (event_with kinds.MediaReallocated flags pid position nsid moved lba rg ruh) in
    let f = flags_back flags in
    let p : value (2 ⊕ 2) bytes ≡ pid = number_back 2 pid fits.pid in
    let q : value (4 ⊕ 8) bytes ≡ position = number_back 8 position fits.position in
    let n : value (12 ⊕ 4) bytes ≡ nsid = number_back 4 nsid fits.nsid in
    let m : value (18 ⊕ 2) bytes ≡ moved = number_back 2 moved fits.moved in
    let l : value (20 ⊕ 8) bytes ≡ lba = number_back 8 lba fits.lba in
    let r : value (32 ⊕ 2) bytes ≡ rg = number_back 2 rg fits.rg in
    λ i. record { kind = kinds.MediaReallocated; flags = f i; pid = p i; position = q i; nsid = n i; moved = m i; lba = l i; rg = r i; ruh = ruh }
event_again kinds.ImplicitlyModified flags pid position nsid moved lba rg ruh plain fits =
    let bytes = event_bytes (event_with kinds.ImplicitlyModified flags pid position nsid moved lba rg ruh) in
    let f = flags_back flags in
    let p : value (2 ⊕ 2) bytes ≡ pid = number_back 2 pid fits.pid in
    let q : value (4 ⊕ 8) bytes ≡ position = number_back 8 position fits.position in
    let n : value (12 ⊕ 4) bytes ≡ nsid = number_back 4 nsid fits.nsid in
    let m : value (18 ⊕ 2) bytes ≡ moved = none_of (kind_code kinds.ImplicitlyModified) moved plain.moved (λ e. absurd (omega (arith, e))) in
    let l : value (20 ⊕ 8) bytes ≡ lba = none_of (kind_code kinds.ImplicitlyModified) lba plain.lba (λ e. absurd (omega (arith, e))) in
    let r : value (32 ⊕ 2) bytes ≡ rg = number_back 2 rg fits.rg in
    λ i. record { kind = kinds.ImplicitlyModified; flags = f i; pid = p i; position = q i; nsid = n i; moved = m i; lba = l i; rg = r i; ruh = ruh }

pub event_back : (e : Event) → EventIs e → event_at (event_bytes e) ≡ e
event_back e is = event_again e.kind e.flags e.pid e.position e.nsid e.moved e.lba e.rg e.ruh is.0 is.1
