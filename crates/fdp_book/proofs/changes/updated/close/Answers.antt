use Rattle.std.proofs.Common.{◌≡◌, ◌∙◌, ◌<◌, Option, Some, None, ap, arith, false, refl, subst, sym}
use Rattle.std.specs.Option.{option_map_or}
use Rattle.fdp_book.specs.Book.{state_in}
use Rattle.fdp_commands.specs.Targets.{target_at}
use Rattle.fdp_book.specs.Changes.{AreMarked}
use Rattle.fdp_book.proofs.Making.Marking.{named-low}
use Rattle.fdp_rules.specs.Effect.{is_partly_written, updated_at}
use Rattle.fdp_rules.specs.Target.{Target, named_by}
use Rattle.fdp_book.proofs.changes.updated.close.Goals as goal

pub is_partly_written-partly-requires-clause-handle : goal.is_partly_written-partly-requires-clause-handle
is_partly_written-partly-requires-clause-handle c =
    named-low c.args.book.now.config (state_in c.args.book.now) c.args.nsid c.args.pid (target_at c.in-Some.named) c.known.ensures.config c.known.ensures.orderly.state (sym c.in-Some.ensures.value)

pub close_handle-requires-clause-group : goal.close_handle-requires-clause-group
close_handle-requires-clause-group c =
    let low : c.in-Some.named.rg < c.args.book.now.config.groups = c.in-Some.ensures.group in omega (arith, low, c.known.ensures.config.ranges.groups.1)

pub close_handle-requires-clause-handle : goal.close_handle-requires-clause-handle
close_handle-requires-clause-handle c =
    named-low c.args.book.now.config (state_in c.args.book.now) c.args.nsid c.args.pid (target_at c.in-Some.named) c.known.ensures.config c.known.ensures.orderly.state (sym c.in-Some.ensures.value)

pub returns-in-Some-clause-closes : goal.returns-in-Some-clause-closes
returns-in-Some-clause-closes c references h =
    let b = c.args.book.now in
    let named : named_by b.config (state_in b) c.args.nsid c.args.pid ≡ Some (target_at c.in-Some.named) = sym c.in-Some.ensures.value in
    c.close_handle.ensures.closes b.config (state_in b) references c.is_partly_written-partly.ensures h
    ∙ sym (ap (λ (o : Option Target). option_map_or (λ (t : Target). is_partly_written b.config (references t.rg t.ruh)) o false) named)

pub returns-in-Some-clause-marks : goal.returns-in-Some-clause-marks
returns-in-Some-clause-marks c references h =
    let b = c.args.book.now in
    let named : named_by b.config (state_in b) c.args.nsid c.args.pid ≡ Some (target_at c.in-Some.named) = sym c.in-Some.ensures.value in
    subst (λ (o : Option Target). AreMarked b.config (state_in b) c.close_handle.new.marks (option_map_or (updated_at b.config references) o references)) (sym named)
    (c.close_handle.ensures.marks b.config (state_in b) references (target_at c.in-Some.named) c.is_partly_written-partly.ensures h refl refl)

pub returns-in-None-clause-closes : goal.returns-in-None-clause-closes
returns-in-None-clause-closes c references h =
    let b = c.args.book.now in
    let named : named_by b.config (state_in b) c.args.nsid c.args.pid ≡ None = sym c.in-None.ensures.value in
    sym (ap (λ (o : Option Target). option_map_or (λ (t : Target). is_partly_written b.config (references t.rg t.ruh)) o false) named)

pub returns-in-None-clause-marks : goal.returns-in-None-clause-marks
returns-in-None-clause-marks c references h =
    let b = c.args.book.now in
    let named : named_by b.config (state_in b) c.args.nsid c.args.pid ≡ None = sym c.in-None.ensures.value in
    subst (λ (o : Option Target). AreMarked b.config (state_in b) c.args.marks.now (option_map_or (updated_at b.config references) o references)) (sym named) h
