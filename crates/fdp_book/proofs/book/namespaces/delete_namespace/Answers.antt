use Rattle.std.proofs.Common.{List, Option, length, refl, subst, sym}
use Rattle.fdp_book.specs.declared.flight.Flight.{Flight}
use Rattle.fdp_book.specs.Namespaces.{HasFlights, Releases}
use Rattle.fdp_book.proofs.Deleting.{apart-pointers, deletes}
use Rattle.fdp_book.proofs.book.namespaces.delete_namespace.Goals as goal

pub release_writes-requires : goal.release_writes-requires
release_writes-requires c =
    subst (λ (fs : List (Option Flight)). HasFlights c.args.tables.now.outline fs c.args.tables.now.pages) (sym c.deref.ensures.value) (record { at = c.requires.pointers.at; are = c.requires.pointers.flown })

pub clear_blocks-requires-clause-pointers : goal.clear_blocks-requires-clause-pointers
clear_blocks-requires-clause-pointers c =
    apart-pointers c.args.tables.now c.args.nsid c.release_writes.new.pages c.requires.pointers
    (subst (λ (fs : List (Option Flight)). Releases c.args.tables.now.outline fs c.args.nsid (length fs) c.args.tables.now.pages c.release_writes.new.pages) c.deref.ensures.value c.release_writes.ensures)

pub returns : goal.returns
returns c =
    deletes c.args.tables.now c.args.nsid c.size-size.result c.clear_blocks.new.map c.delete.new.self c.release_writes.new.pages c.clear_blocks.new.pages c.size-size.ensures.value
    (subst (λ (fs : List (Option Flight)). Releases c.args.tables.now.outline fs c.args.nsid (length fs) c.args.tables.now.pages c.release_writes.new.pages) c.deref.ensures.value c.release_writes.ensures)
    c.clear_blocks.ensures c.delete.ensures.blocks c.delete.ensures.sizes c.delete.ensures.geometry _ refl refl refl
