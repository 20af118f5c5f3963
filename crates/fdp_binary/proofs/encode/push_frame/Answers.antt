use Rattle.std.proofs.Common.{◌++◌, ◌*◌, ◌∙◌, ap, sym, subst, length}
use Rattle.std.specs.Prelude.{flat_map}
use Rattle.std.specs.Int.{to_le_bytes, w16}
use Rattle.fdp_base.specs.declared.command.Command.TheVariants as commands
use Rattle.fdp_queues.specs.Data.{range_bytes, with_attributes}
use Rattle.fdp_binary.specs.Carrying.{IsCarried}
use Rattle.fdp_binary.proofs.Laid.{on_ok, when_ok}
use Rattle.fdp_binary.proofs.Made.{framed, payload-size, pids-bytes, ranges-bytes}
use Rattle.fdp_binary.proofs.encode.push_frame.Goals as goal

pub returns-in_ok-push_front-in-Write-clause-ok : goal.returns-in_ok-push_front-in-Write-clause-ok
returns-in_ok-push_front-in-Write-clause-ok c =
    let w = c.in-Write.write in
    let carried = subst (IsCarried c.args.block) c.in-Write.is c.requires.carried in
    when_ok _ _ c.push_payload.result
    (framed c.args.block c.args.command.now (commands.Write w) c.args.work.now c.args.into.now.items c.push_front.new.into.items c.push_payload.new.into.items _ c.in-Write.is c.in_ok-push_front-in-Write.ensures.ok (sym (payload-size c.args.block w.count w.payload c.requires.block carried.2)))
    c.push_payload.ensures.ok

pub returns-in_ok-push_front-in-Dealloc-clause-ok : goal.returns-in_ok-push_front-in-Dealloc-clause-ok
returns-in_ok-push_front-in-Dealloc-clause-ok c =
    let d = c.in-Dealloc.dealloc in
    let mid = c.push_front-in-Dealloc.new.into.items in
    let new = c.push_ranges.new.into.items in
    when_ok _ _ c.push_ranges.result
    (λ e. framed c.args.block c.args.command.now (commands.Dealloc d) c.args.work.now c.args.into.now.items mid new _ c.in-Dealloc.is c.in_ok-push_front-in-Dealloc.ensures.ok
    (ap (λ rs. 16 * length rs) c.as_slice-ranges.ensures ∙ sym (ranges-bytes d.ranges))
    (e ∙ ap (λ rs. mid ++ flat_map (λ range. range_bytes (with_attributes 0 range)) rs) c.as_slice-ranges.ensures))
    c.push_ranges.ensures.ok

pub returns-in_ok-push_front-in-Update-clause-ok : goal.returns-in_ok-push_front-in-Update-clause-ok
returns-in_ok-push_front-in-Update-clause-ok c =
    let u = c.in-Update.update in
    let mid = c.push_front-in-Update.new.into.items in
    let new = c.push_pids.new.into.items in
    when_ok _ _ c.push_pids.result
    (λ e. framed c.args.block c.args.command.now (commands.Update u) c.args.work.now c.args.into.now.items mid new _ c.in-Update.is c.in_ok-push_front-in-Update.ensures.ok
    (ap (λ ps. 2 * length ps) c.as_slice-pids.ensures ∙ sym (pids-bytes u.pids))
    (e ∙ ap (λ ps. mid ++ flat_map (to_le_bytes w16) ps) c.as_slice-pids.ensures))
    c.push_pids.ensures.ok

pub returns-in_ok-push_front-in-Write-clause-fits : goal.returns-in_ok-push_front-in-Write-clause-fits
returns-in_ok-push_front-in-Write-clause-fits c = on_ok _ c.push_payload.result c.in_ok-push_front-in-Write.ensures.fits

pub returns-in_ok-push_front-in-Dealloc-clause-fits : goal.returns-in_ok-push_front-in-Dealloc-clause-fits
returns-in_ok-push_front-in-Dealloc-clause-fits c = on_ok _ c.push_ranges.result c.in_ok-push_front-in-Dealloc.ensures.fits

pub returns-in_ok-push_front-in-Update-clause-fits : goal.returns-in_ok-push_front-in-Update-clause-fits
returns-in_ok-push_front-in-Update-clause-fits c = on_ok _ c.push_pids.result c.in_ok-push_front-in-Update.ensures.fits

pub returns-in_ok-push_front-in-SetEvents-clause-fits : goal.returns-in_ok-push_front-in-SetEvents-clause-fits
returns-in_ok-push_front-in-SetEvents-clause-fits c = on_ok _ c.extend_from_slice.result c.in_ok-push_front-in-SetEvents.ensures.fits
