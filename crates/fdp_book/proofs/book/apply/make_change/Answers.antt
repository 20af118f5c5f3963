use Rattle.std.proofs.Common.{◌∙◌, ℕ, ◌*◌, List, Option, None, ap, refl, replicate, slice_get, subst, sym}
use Rattle.fdp_base.specs.declared.command.Command.{Command}
use Rattle.fdp_base.specs.declared.command.Range.{Range}
use Rattle.fdp_book.specs.Applying.{MayChange, StandBehind}
use Rattle.fdp_book.specs.Clearing.{Clears}
use Rattle.fdp_book.specs.Commanded.{AppliesTo}
use Rattle.fdp_book.specs.Room.{places_made}
use Rattle.fdp_book.specs.Updating.{Updates}
use Rattle.fdp_book.proofs.Applying.{create-behind, create-can, create-places, delete-behind, delete-nsid, delete-pointers, events-behind, ranges-behind, ranges-within, set-behind, set-can, set-pages, update-behind, update-can, zero-behind, zero-within}
use Rattle.fdp_rules.specs.Effect.{is_in_ranges}
use Rattle.fdp_book.proofs.book.apply.make_change.Goals as goal

-- ---- a zeroing

pub clear_blocks-requires-clause-within : goal.clear_blocks-requires-clause-within
clear_blocks-requires-clause-within c =
    zero-within c.args.config.now c.args.tables.now c.args.tables.now _ (subst (λ (k : Command). MayChange c.args.config.now c.args.tables.now k) c.in-Zero.is c.requires.may)

pub returns-in-Zero-clause-behind : goal.returns-in-Zero-clause-behind
returns-in-Zero-clause-behind c =
    subst (λ (k : Command). StandBehind c.args.config.now k c.args.tables.now (record c.args.tables.now { map = c.clear_blocks.new.map; pages = c.clear_blocks.new.pages })) (sym c.in-Zero.is)
    (zero-behind c.args.config.now c.args.tables.now _ _ (record { clears = c.clear_blocks.ensures; rest = refl }))

-- ---- a deallocation

pub clear_ranges-requires-clause-within : goal.clear_ranges-requires-clause-within
clear_ranges-requires-clause-within c = λ index range there some.
    ranges-within c.args.config.now c.args.tables.now c.args.tables.now _ (subst (λ (k : Command). MayChange c.args.config.now c.args.tables.now k) c.in-Dealloc.is c.requires.may) index range
    (ap (λ (xs : List Range). slice_get xs index) (sym c.as_slice-ranges.ensures) ∙ there) some

pub returns-in-Dealloc-clause-behind : goal.returns-in-Dealloc-clause-behind
returns-in-Dealloc-clause-behind c =
    subst (λ (k : Command). StandBehind c.args.config.now k c.args.tables.now (record c.args.tables.now { map = c.clear_ranges.new.map; pages = c.clear_ranges.new.pages })) (sym c.in-Dealloc.is)
    (ranges-behind c.args.config.now c.args.tables.now _ _ (subst (λ (k : Command). MayChange c.args.config.now c.args.tables.now k) c.in-Dealloc.is c.requires.may)
    (record { clears = subst (λ (xs : List Range). Clears c.in-Dealloc.dealloc.nsid (is_in_ranges xs) c.args.tables.now.map c.clear_ranges.new.map c.args.tables.now.pages c.clear_ranges.new.pages) c.as_slice-ranges.ensures c.clear_ranges.ensures; rest = refl }))

-- ---- a deletion

pub delete_namespace-requires-clause-nsid : goal.delete_namespace-requires-clause-nsid
delete_namespace-requires-clause-nsid c =
    delete-nsid c.args.config.now c.args.tables.now c.args.tables.now _ (subst (λ (k : Command). MayChange c.args.config.now c.args.tables.now k) c.in-Delete.is c.requires.may)

pub delete_namespace-requires-clause-pointers : goal.delete_namespace-requires-clause-pointers
delete_namespace-requires-clause-pointers c =
    delete-pointers c.args.config.now c.args.tables.now c.args.tables.now _ (subst (λ (k : Command). MayChange c.args.config.now c.args.tables.now k) c.in-Delete.is c.requires.may)

pub returns-in-Delete-clause-behind : goal.returns-in-Delete-clause-behind
returns-in-Delete-clause-behind c =
    subst (λ (k : Command). StandBehind c.args.config.now k c.args.tables.now c.delete_namespace.new.tables) (sym c.in-Delete.is)
    (delete-behind c.args.config.now c.args.tables.now _ _ c.delete_namespace.ensures)

-- ---- an update

pub update_handles-requires : goal.update_handles-requires
update_handles-requires c =
    update-can c.args.config.now c.args.tables.now c.args.tables.now _ (subst (λ (k : Command). MayChange c.args.config.now c.args.tables.now k) c.in-Update.is c.requires.may)

pub returns-in-Update-clause-behind : goal.returns-in-Update-clause-behind
returns-in-Update-clause-behind c =
    subst (λ (k : Command). StandBehind c.args.config.now k c.args.tables.now c.update_handles.new.tables) (sym c.in-Update.is)
    (update-behind c.args.config.now c.args.tables.now _ _ (subst (λ (xs : List ℕ). Updates c.args.config.now c.args.tables.now c.update_handles.new.tables c.in-Update.update.nsid xs) c.as_slice-pids.ensures c.update_handles.ensures))

-- ---- a placement setting

pub set_placement-requires : goal.set_placement-requires
set_placement-requires c =
    set-can c.args.config.now c.args.tables.now c.args.tables.now _ (subst (λ (k : Command). MayChange c.args.config.now c.args.tables.now k) c.in-SetFdp.is c.requires.may)

pub returns-in-SetFdp-clause-behind : goal.returns-in-SetFdp-clause-behind
returns-in-SetFdp-clause-behind c =
    subst (λ (k : Command). StandBehind c.args.config.now k c.args.tables.now c.set_placement.new.tables) (sym c.in-SetFdp.is)
    (set-behind c.args.config.now c.args.tables.now _ _ c.set_placement.ensures)

pub returns-in-SetFdp-clause-pages : goal.returns-in-SetFdp-clause-pages
returns-in-SetFdp-clause-pages c =
    subst (λ (k : Command). AppliesTo c.args.config.now k c.args.tables.now.pages c.set_placement.new.tables.pages) (sym c.in-SetFdp.is)
    (set-pages c.args.config.now c.args.tables.now c.set_placement.new.tables c.in-SetFdp.set
    (set-can c.args.config.now c.args.tables.now c.args.tables.now c.in-SetFdp.set (subst (λ (k : Command). MayChange c.args.config.now c.args.tables.now k) c.in-SetFdp.is c.requires.may))
    c.set_placement.ensures)

-- ---- a creation

pub create_namespace-requires-clause-may : goal.create_namespace-requires-clause-may
create_namespace-requires-clause-may c =
    create-can c.args.config.now c.args.tables.now c.args.tables.now _ (subst (λ (k : Command). MayChange c.args.config.now c.args.tables.now k) c.in-Create.is c.requires.may)

pub create_namespace-requires-clause-places : goal.create_namespace-requires-clause-places
create_namespace-requires-clause-places c =
    let none : ℕ → List (Option ℕ) = λ n. replicate n None in
    c.requires.places
    ∙ ap (λ (k : Command). none (places_made k (c.args.config.now.groups * c.args.config.now.units * c.args.config.now.unit_pages))) c.in-Create.is
    ∙ ap none (create-places c.args.config.now c.args.tables.now c.args.tables.now _ (subst (λ (k : Command). MayChange c.args.config.now c.args.tables.now k) c.in-Create.is c.requires.may))

pub returns-in-Create-clause-behind : goal.returns-in-Create-clause-behind
returns-in-Create-clause-behind c =
    subst (λ (k : Command). StandBehind c.args.config.now k c.args.tables.now c.create_namespace.new.tables) (sym c.in-Create.is)
    (create-behind c.args.config.now c.args.tables.now _ _ c.create_namespace.ensures)

-- ---- a setting of events

pub returns-in-SetEvents-clause-behind : goal.returns-in-SetEvents-clause-behind
returns-in-SetEvents-clause-behind c =
    subst (λ (k : Command). StandBehind c.args.config.now k c.args.tables.now c.args.tables.now) (sym c.in-SetEvents.is)
    (events-behind c.args.config.now c.args.tables.now c.args.tables.now _)
