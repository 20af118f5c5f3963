use Rattle.std.proofs.Common.{◌∙◌, ◌-◌, ◌+◌, ℕ, ap, sym}
use Rattle.fdp_image.specs.Outline.{outline_before}
use Rattle.fdp_outline.specs.Outline.{said_by}
use Rattle.fdp_outline.proofs.Applying.{outline-cleared, outline-updated}
use Rattle.fdp_outline.proofs.Naming.{absent_place, create_few, create_free, create_id, create_size, delete_there, events_known, first_page_good, kinds_few, kinds_there, moved_victim, some_pages, there_good, write_pages}
use Rattle.fdp_outline.proofs.Places.{id_is}
use Rattle.fdp_outline.proofs.Telling.{handles-before, outline-moved, outline-shut, outline-written}
use Rattle.fdp_outline.proofs.outline.Outline.make.Goals as goal

pub make_invalid-requires-clause-page : goal.make_invalid-requires-clause-page
make_invalid-requires-clause-page c =
    let fit = rw c.in-Write.is at c.requires.fit in
    first_page_good c.args.config.now (said_by c.args.self.now) _ (some_pages c.args.config.now (said_by c.args.self.now) c.requires.config) (write_pages c.args.config.now (said_by c.args.self.now) _ _ _ _ _ fit)

pub keep_created-requires-clause-nsid : goal.keep_created-requires-clause-nsid
keep_created-requires-clause-nsid c =
    let fit = rw c.in-Create.is at c.requires.fit in
    id_is _ (create_id c.args.config.now (said_by c.args.self.now) _ _ _ _ fit)

pub keep_created-requires-clause-absent : goal.keep_created-requires-clause-absent
keep_created-requires-clause-absent c =
    let fit = rw c.in-Create.is at c.requires.fit in
    absent_place c.args.self.now _ (create_free c.args.config.now (said_by c.args.self.now) _ _ _ _ fit)

pub keep_created-requires-clause-size : goal.keep_created-requires-clause-size
keep_created-requires-clause-size c =
    let fit = rw c.in-Create.is at c.requires.fit in
    create_size c.args.config.now (said_by c.args.self.now) _ _ _ _ fit

pub keep_created-requires-clause-few : goal.keep_created-requires-clause-few
keep_created-requires-clause-few c =
    let fit = rw c.in-Create.is at c.requires.fit in
    create_few c.args.config.now (said_by c.args.self.now) _ _ _ _ fit

pub keep_deleted-requires : goal.keep_deleted-requires
keep_deleted-requires c =
    let fit = rw c.in-Delete.is at c.requires.fit in
    id_is _ (there_good c.args.self.now _ (delete_there c.args.config.now (said_by c.args.self.now) _ fit))

pub keep_kinds-requires : goal.keep_kinds-requires
keep_kinds-requires c =
    let fit = rw c.in-SetEvents.is at c.requires.fit in
    kinds_few c.args.config.now c.args.self.now _ _ _ c.requires.config c.requires.index fit

pub make_moved-requires-clause-unit : goal.make_moved-requires-clause-unit
make_moved-requires-clause-unit c =
    let fit = rw c.in-Moved.is at c.requires.fit in
    moved_victim c.args.config.now (said_by c.args.self.now) _ _ _ _ fit

pub returns-then-pid_invalid : goal.returns-then-pid_invalid
returns-then-pid_invalid c r totals at h lists = rw c.in-Write.is (rw c.if-pid_invalid.true (c.make_invalid.ensures r c.in-Write.slba totals at h))

pub returns-else-pid_invalid : goal.returns-else-pid_invalid
returns-else-pid_invalid c r totals at h lists =
    rw c.in-Write.is (rw c.if-pid_invalid.false (outline-written c.args.config.now r c.args.self.now totals c.args.position _ _ _ _ c.known.ensures.summary at h))

pub returns-in-Clear : goal.returns-in-Clear
returns-in-Clear c r totals at h lists = rw c.in-Clear.is (outline-cleared c.args.config.now r c.args.self.now totals _ _ c.known.ensures.summary h)

pub returns-in-Update : goal.returns-in-Update
returns-in-Update c r totals at h lists =
    rw c.in-Update.is
    (outline-updated c.args.config.now r c.args.self.now c.make_closed.new.self totals c.in-Update.nsid c.in-Update.closed c.in-Update.pids.now
    (c.make_closed.ensures (outline_before c.args.config.now r totals.position) (ap (λ (p : ℕ). p - 1 + 1) at ∙ sym c.event_position-at.ensures) (handles-before c.args.config.now r c.args.self.now totals.position c.in-Update.nsid h))
    h)

pub returns-in-Create : goal.returns-in-Create
returns-in-Create c r totals at h lists = rw c.in-Create.is (c.keep_created.ensures c.args.config.now r totals at h)

pub returns-in-Delete : goal.returns-in-Delete
returns-in-Delete c r totals at h lists = rw c.in-Delete.is (c.keep_deleted.ensures c.args.config.now r totals h)

pub returns-in-SetFdp : goal.returns-in-SetFdp
returns-in-SetFdp c r totals at h lists = rw c.in-SetFdp.is (c.keep_setting.ensures c.args.config.now r totals h)

pub returns-in-SetEvents : goal.returns-in-SetEvents
returns-in-SetEvents c r totals at h lists =
    let fit = rw c.in-SetEvents.is at c.requires.fit in
    rw c.in-SetEvents.is
    (c.keep_kinds.ensures c.args.config.now r totals (kinds_there c.args.config.now c.args.self.now _ _ _ fit) (events_known c.args.config.now (said_by c.args.self.now) _ _ _ fit).1 h)

pub returns-in-Moved : goal.returns-in-Moved
returns-in-Moved c r totals at h lists =
    let listed = rw c.in-Moved.is at lists in
    rw c.in-Moved.is
    (outline-moved c.args.config.now r c.args.self.now c.make_moved.new.self totals c.args.position c.in-Moved.victim c.in-Moved.first c.in-Moved.second c.in-Moved.handles.now c.args.moved.now at listed
    (c.make_moved.ensures (outline_before c.args.config.now r c.args.position) (sym c.event_position.ensures)) h)

pub returns-in-Shut : goal.returns-in-Shut
returns-in-Shut c r totals at h lists =
    rw c.in-Shut.is
    (outline-shut c.args.config.now r c.args.self.now c.keep_shut.new.self totals c.args.position _ _ at (c.keep_shut.ensures (outline_before c.args.config.now r c.args.position) (sym c.event_position-in-Shut.ensures)) h)
