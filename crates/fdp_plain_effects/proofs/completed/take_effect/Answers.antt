use Rattle.fdp_plain_effects.proofs.completed.take_effect.Goals as goal

pub returns-in-Write-clause-state : goal.returns-in-Write-clause-state
returns-in-Write-clause-state c =
    let ready = rw c.in-Write.is at c.requires.ready in
    rw c.in-Write.is (c.write_blocks.ensures.state c.args.queue c.in-Write.write.dtype c.in-Write.write.dspec c.in-Write.write.count c.in-Write.write.payload ready.going ready.going_is ready.made)

pub returns-in-Zero-clause-state : goal.returns-in-Zero-clause-state
returns-in-Zero-clause-state c = rw c.in-Zero.is (c.zero_blocks.ensures.state c.args.queue)

pub returns-in-Dealloc-clause-state : goal.returns-in-Dealloc-clause-state
returns-in-Dealloc-clause-state c = rw c.in-Dealloc.is (c.deallocate.ensures.state c.args.queue)

pub returns-in-Delete-clause-state : goal.returns-in-Delete-clause-state
returns-in-Delete-clause-state c = cc (c.delete_namespace.ensures.state c.args.queue)

pub returns-in-Update-clause-state : goal.returns-in-Update-clause-state
returns-in-Update-clause-state c = rw c.in-Update.is (rw c.as_slice.ensures at (c.update_handles.ensures.state c.args.queue c.in-Update.update.mo))

pub returns-in-SetFdp-clause-state : goal.returns-in-SetFdp-clause-state
returns-in-SetFdp-clause-state c = cc (c.set_fdp.ensures.state c.args.queue c.in-SetFdp.set.group)

pub returns-in-SetEvents-clause-state : goal.returns-in-SetEvents-clause-state
returns-in-SetEvents-clause-state c = rw c.in-SetEvents.is (c.set_events.ensures.state c.args.queue)

pub returns-in-Create-clause-state : goal.returns-in-Create-clause-state
returns-in-Create-clause-state c =
    let ready = rw c.in-Create.is at c.requires.ready in
    rw c.in-Create.is (c.create_made.ensures.state c.args.queue ready.1)
