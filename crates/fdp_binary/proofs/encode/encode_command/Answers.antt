use Rattle.std.proofs.Common.{◌≡◌, ◌++◌, subst, length}
use Rattle.fdp_layouts.specs.Frame.{Fits}
use Rattle.fdp_layouts.specs.Submission.{sqe, sqe_numbers}
use Rattle.fdp_queues.specs.declared.work.Work.{Work}
use Rattle.fdp_queues.specs.Data.{data_of}
use Rattle.fdp_queues.specs.Entry.{entry_bytes}
use Rattle.fdp_binary.specs.Front.{head}
use Rattle.fdp_binary.proofs.Made.{frame-made}
use Rattle.fdp_binary.proofs.Refused.{no-frame}
use Rattle.fdp_binary.proofs.encode.encode_command.Goals as goal

pub returns-then-not-is_carried-clause-err : goal.returns-then-not-is_carried-clause-err
returns-then-not-is_carried-clause-err c = λ frame is. no-frame c.args.block c.args.command.now frame c.if-not-is_carried.ensures is

pub returns-in-Ok-clause-ok : goal.returns-in-Ok-clause-ok
returns-in-Ok-clause-ok c =
    let old = c.args.into.now.items in
    let new = c.push_frame.new.into.items in
    let body = data_of c.args.block c.args.command.now in
    frame-made c.args.block c.args.command.now old new c.requires c.if-not-is_carried.ensures c.see_numbers.ensures
    (subst (λ (w : Work). Fits sqe (sqe_numbers w.sqe)) c.work_of.ensures c.in-Ok.ensures.fits)
    (subst (λ (w : Work). new ≡ old ++ head w.admin (length body) ++ entry_bytes w.sqe ++ body) c.work_of.ensures c.in-Ok.ensures.ok)
