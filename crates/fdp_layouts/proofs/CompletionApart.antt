-- A completion is known by its numbers.
use Rattle.std.proofs.Common.{◌≡◌, ℕ, ◌==◌, refl, sym, ap, ◌∙◌}
use Rattle.std.specs.Prelude.{if◌then◌else◌}
use Rattle.fdp_layouts.specs.declared.completion.Cqe.{Cqe}
use Rattle.fdp_layouts.specs.declared.completion.StatusField.{StatusField}
use Rattle.fdp_layouts.specs.declared.completion.StatusCodeType.{StatusCodeType}
use Rattle.fdp_layouts.specs.declared.completion.StatusCodeType.TheVariants as types
use Rattle.fdp_layouts.specs.declared.completion.RetryDelay.{RetryDelay}
use Rattle.fdp_layouts.specs.declared.completion.RetryDelay.TheVariants as delays
use Rattle.fdp_layouts.specs.Completion.{sct_code, crd_code, status_numbers, cqe_numbers}
use Rattle.fdp_layouts.proofs.Bits.{bit_apart}

type_of : ℕ → StatusCodeType
type_of n =
    if n == 0 then types.Generic else (if n == 1 then types.CommandSpecific else (if n == 2 then types.MediaAndDataIntegrity else (if n == 3 then types.PathRelated
    else (if n == 4 then types.Reserved4 else (if n == 5 then types.Reserved5 else (if n == 6 then types.Reserved6 else types.VendorSpecific))))))

type_of_code : (t : StatusCodeType) → type_of (sct_code t) ≡ t
unfolding type_of
type_of_code types.Generic = refl
type_of_code types.CommandSpecific = refl
type_of_code types.MediaAndDataIntegrity = refl
type_of_code types.PathRelated = refl
type_of_code types.Reserved4 = refl
type_of_code types.Reserved5 = refl
type_of_code types.Reserved6 = refl
type_of_code types.VendorSpecific = refl

delay_of : ℕ → RetryDelay
delay_of n = if n == 0 then delays.None else (if n == 1 then delays.First else (if n == 2 then delays.Second else delays.Third))

delay_of_code : (d : RetryDelay) → delay_of (crd_code d) ≡ d
unfolding delay_of
delay_of_code delays.None = refl
delay_of_code delays.First = refl
delay_of_code delays.Second = refl
delay_of_code delays.Third = refl

status_by_numbers : (v w : StatusField) → status_numbers v ≡ status_numbers w → v ≡ w
status_by_numbers v w e =
    let phase = bit_apart v.phase w.phase (cc) in
    let sc : v.sc ≡ w.sc = cc in
    let types-same : sct_code v.sct ≡ sct_code w.sct = cc in
    let sct = sym (type_of_code v.sct) ∙ ap type_of types-same ∙ type_of_code w.sct in
    let delays-same : crd_code v.crd ≡ crd_code w.crd = cc in
    let crd = sym (delay_of_code v.crd) ∙ ap delay_of delays-same ∙ delay_of_code w.crd in
    let more = bit_apart v.more w.more (cc) in
    let dnr = bit_apart v.dnr w.dnr (cc) in
    λ i. record { phase = phase i; sc = sc i; sct = sct i; crd = crd i; more = more i; dnr = dnr i }

pub cqe_by_numbers : (v w : Cqe) → cqe_numbers v ≡ cqe_numbers w → v ≡ w
cqe_by_numbers v w e =
    let dw0 : v.dw0 ≡ w.dw0 = cc in
    let dw1 : v.dw1 ≡ w.dw1 = cc in
    let sq_head : v.sq_head ≡ w.sq_head = cc in
    let sq_id : v.sq_id ≡ w.sq_id = cc in
    let cid : v.cid ≡ w.cid = cc in
    let status = status_by_numbers v.status w.status (cc) in
    λ i. record { dw0 = dw0 i; dw1 = dw1 i; sq_head = sq_head i; sq_id = sq_id i; cid = cid i; status = status i }
