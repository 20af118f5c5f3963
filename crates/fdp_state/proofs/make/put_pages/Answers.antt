use Rattle.std.proofs.Common.{◌∙◌, ℕ, List, length, ap, refl, subst, sym}
use Rattle.fdp_base.specs.declared.command.Range.{Range}
use Rattle.fdp_records.specs.declared.change.Change.{Change}
use Rattle.fdp_records.specs.declared.change.Change.TheVariants as changes
use Rattle.std.specs.Prelude.{OnOk}
use Rattle.fdp_image.specs.Fits.{lie_within, lies_within, names_what_is}
use Rattle.fdp_state.specs.Made.{HasPagesAfter}
use Rattle.fdp_state.specs.Parts.{reading_of}
use Rattle.fdp_state.proofs.Making.{made-none}
use Rattle.fdp_outline.proofs.Naming.{create_free, create_id, delete_there, moved_victim}
use Rattle.fdp_state.proofs.Named.{clear_there, clear_within, moved_first, moved_second, write_within}
use Rattle.fdp_state.proofs.make.put_pages.Goals as goal

pub put_write-requires-clause-within : goal.put_write-requires-clause-within
put_write-requires-clause-within c =
    ap (λ (xs : List ℕ). lies_within (reading_of c.args.parts.now) c.in-Write.nsid c.in-Write.slba (length xs)) c.as_slice.ensures
    ∙ write_within c.args.config.now (reading_of c.args.parts.now) c.in-Write.nsid c.in-Write.slba c.in-Write.pid c.in-Write.pid_invalid _ (sym (ap (names_what_is c.args.config.now (reading_of c.args.parts.now)) c.in-Write.is) ∙ c.requires.fit)

pub returns-in-Write-clause-made : goal.returns-in-Write-clause-made
returns-in-Write-clause-made c =
    subst (λ (change : Change). HasPagesAfter c.args.config.now change c.args.parts.now c.put_write.new.parts)
    (sym (c.in-Write.is ∙ ap (changes.Write c.in-Write.nsid c.in-Write.slba c.in-Write.pid c.in-Write.pid_invalid) (sym c.as_slice.ensures)))
    (c.put_write.ensures.made c.args.config.now c.in-Write.pid c.in-Write.pid_invalid)

pub clear-requires-clause-there : goal.clear-requires-clause-there
clear-requires-clause-there c = clear_there c.args.config.now (reading_of c.args.parts.now) c.in-Clear.nsid _ (sym (ap (names_what_is c.args.config.now (reading_of c.args.parts.now)) c.in-Clear.is) ∙ c.requires.fit)

pub create-requires-clause-id : goal.create-requires-clause-id
create-requires-clause-id c = create_id c.args.config.now (reading_of c.args.parts.now) c.in-Create.nsid c.in-Create.size c.in-Create.given _ (sym (ap (names_what_is c.args.config.now (reading_of c.args.parts.now)) c.in-Create.is) ∙ c.requires.fit)

pub create-requires-clause-free : goal.create-requires-clause-free
create-requires-clause-free c = create_free c.args.config.now (reading_of c.args.parts.now) c.in-Create.nsid c.in-Create.size c.in-Create.given _ (sym (ap (names_what_is c.args.config.now (reading_of c.args.parts.now)) c.in-Create.is) ∙ c.requires.fit)

pub delete-requires-clause-there : goal.delete-requires-clause-there
delete-requires-clause-there c = delete_there c.args.config.now (reading_of c.args.parts.now) c.in-Delete.nsid (sym (ap (names_what_is c.args.config.now (reading_of c.args.parts.now)) c.in-Delete.is) ∙ c.requires.fit)

pub returns-in-Delete-clause-made : goal.returns-in-Delete-clause-made
returns-in-Delete-clause-made c = subst (λ (change : Change). HasPagesAfter c.args.config.now change c.args.parts.now c.delete.new.parts) (sym c.in-Delete.is) (c.delete.ensures.made c.args.config.now)

pub clear-requires-clause-within : goal.clear-requires-clause-within
clear-requires-clause-within c =
    ap (λ (xs : List Range). lie_within (reading_of c.args.parts.now) c.in-Clear.nsid xs) c.as_slice-in-Clear.ensures
    ∙ clear_within c.args.config.now (reading_of c.args.parts.now) c.in-Clear.nsid _ (sym (ap (names_what_is c.args.config.now (reading_of c.args.parts.now)) c.in-Clear.is) ∙ c.requires.fit)

pub returns-in-Clear-clause-made : goal.returns-in-Clear-clause-made
returns-in-Clear-clause-made c =
    subst (λ (change : Change). HasPagesAfter c.args.config.now change c.args.parts.now c.clear.new.parts)
    (sym (c.in-Clear.is ∙ ap (changes.Clear c.in-Clear.nsid) (sym c.as_slice-in-Clear.ensures)))
    (c.clear.ensures.made c.args.config.now)

pub returns-in-Create-clause-made : goal.returns-in-Create-clause-made
returns-in-Create-clause-made c =
    subst (λ (change : Change). OnOk c.create.result (HasPagesAfter c.args.config.now change c.args.parts.now c.create.new.parts)) (sym c.in-Create.is)
    (c.create.ensures.made c.args.config.now c.in-Create.given _)

pub move_pages-requires-clause-victim : goal.move_pages-requires-clause-victim
move_pages-requires-clause-victim c =
    moved_victim c.args.config.now (reading_of c.args.parts.now) c.in-Moved.victim c.in-Moved.first c.in-Moved.second c.in-Moved.handles
    (sym (ap (names_what_is c.args.config.now (reading_of c.args.parts.now)) c.in-Moved.is) ∙ c.requires.fit)

pub move_pages-requires-clause-first : goal.move_pages-requires-clause-first
move_pages-requires-clause-first c =
    moved_first c.args.config.now (reading_of c.args.parts.now) c.in-Moved.victim c.in-Moved.first c.in-Moved.second c.in-Moved.handles
    (sym (ap (names_what_is c.args.config.now (reading_of c.args.parts.now)) c.in-Moved.is) ∙ c.requires.fit)

pub move_pages-requires-clause-second : goal.move_pages-requires-clause-second
move_pages-requires-clause-second c =
    moved_second c.args.config.now (reading_of c.args.parts.now) c.in-Moved.victim c.in-Moved.first c.in-Moved.second c.in-Moved.handles
    (sym (ap (names_what_is c.args.config.now (reading_of c.args.parts.now)) c.in-Moved.is) ∙ c.requires.fit)

pub returns-in-Moved-clause-made : goal.returns-in-Moved-clause-made
returns-in-Moved-clause-made c =
    subst (λ (change : Change). OnOk c.move_pages.result (HasPagesAfter c.args.config.now change c.args.parts.now c.move_pages.new.parts)) (sym c.in-Moved.is)
    (c.move_pages.ensures.made c.in-Moved.handles)

pub returns-in-Update-clause-made : goal.returns-in-Update-clause-made
returns-in-Update-clause-made c =
    subst (λ (change : Change). HasPagesAfter c.args.config.now change c.args.parts.now c.args.parts.now) (sym c.in-Update.is)
    (made-none c.args.config.now _ c.args.parts.now c.requires.sound (λ position n. refl) (λ n l. refl))

pub returns-in-SetFdp-clause-made : goal.returns-in-SetFdp-clause-made
returns-in-SetFdp-clause-made c =
    subst (λ (change : Change). HasPagesAfter c.args.config.now change c.args.parts.now c.args.parts.now) (sym c.in-SetFdp.is)
    (made-none c.args.config.now _ c.args.parts.now c.requires.sound (λ position n. refl) (λ n l. refl))

pub returns-in-SetEvents-clause-made : goal.returns-in-SetEvents-clause-made
returns-in-SetEvents-clause-made c =
    subst (λ (change : Change). HasPagesAfter c.args.config.now change c.args.parts.now c.args.parts.now) (sym c.in-SetEvents.is)
    (made-none c.args.config.now _ c.args.parts.now c.requires.sound (λ position n. refl) (λ n l. refl))

pub returns-in-Shut-clause-made : goal.returns-in-Shut-clause-made
returns-in-Shut-clause-made c =
    subst (λ (change : Change). HasPagesAfter c.args.config.now change c.args.parts.now c.args.parts.now) (sym c.in-Shut.is)
    (made-none c.args.config.now _ c.args.parts.now c.requires.sound (λ position n. refl) (λ n l. refl))
