use Rattle.std.proofs.Common.{◌≡◌, ◌<◌, ◌≤◌, ◌∙◌, List, ap, arith, length, map, refl, subst, sym}
use Rattle.fdp_base.specs.declared.entry.Copied.{Copied}
use Rattle.fdp_base.specs.declared.entry.Entry.TheVariants as entries
use Rattle.fdp_book.specs.Book.{point_in}
use Rattle.fdp_outline.specs.declared.moved_block.MovedBlock.{MovedBlock}
use Rattle.fdp_owners.specs.OwnerTable.{owner_at}
use Rattle.fdp_durability.specs.fdp_pages.PageTables.{PageTables, copies_at}
use Rattle.fdp_durability.specs.fdp_readings.Changes.{copies_of_blocks}
use Rattle.fdp_records.specs.Borrowed.{change_of}
use Rattle.fdp_rules.specs.Sites.{moved_blocks}
use Rattle.fdp_units.specs.UnitTable.{Cut}
use Rattle.fdp_keeper.specs.Moves.{CanBeNamed, moved_of}
use Rattle.fdp_keeper.proofs.Naming.{blocks-moved, can-be-named, copies-are, none-counted, none-moved, of-move, some-counted, some-moved}
use Rattle.fdp_keeper.proofs.saved_move.save_move.Goals as goal

pub move_change-change-requires-clause-named : goal.move_change-change-requires-clause-named
move_change-change-requires-clause-named g c =
    let b = c.args.book.now in
    let t = b.pages in
    let rg = c.args.rg in
    let pass = c.requires.due.0 in
    let is = c.requires.due.1 in
    let owners = owner_at t.owners in
    let items : c.list_copies.new.copies.items ≡ copies_of_blocks owners pass.copies =
    c.list_copies.ensures.copies ∙ ap (λ (x : PageTables). copies_of_blocks (owner_at x.owners) (copies_at x rg)) c.pages.ensures ∙ ap (copies_of_blocks owners) (copies-are t rg pass is) in
    let found : 0 < length (copies_of_blocks owners pass.copies) = subst (λ (xs : List Copied). 0 < length xs) (c.as_slice.ensures.value ∙ items) (some-counted (length c.as_slice.result.now) (sym c.is_empty.ensures ∙ c.if-is_empty.false)) in
    let few : length (copies_of_blocks owners pass.copies) ≤ 256 = subst (λ (xs : List Copied). length xs ≤ 256) items c.list_copies.ensures.few in
    let group : rg < length t.units.groups = omega (arith, c.requires.group, ap (λ (k : Cut). k.groups) c.known.ensures.units.cut) in
    subst CanBeNamed (sym (c.as_slice-3.ensures.value ∙ items)) (can-be-named b.config t rg pass c.known.ensures.config c.known.ensures.units.cut c.known.ensures.joined group is few found)

pub move_pass-requires-clause-change : goal.move_pass-requires-clause-change
move_pass-requires-clause-change g c =
    let b = c.args.book.now in
    let t = b.pages in
    let rg = c.args.rg in
    let pass = c.requires.due.0 in
    let is = c.requires.due.1 in
    let owners = owner_at t.owners in
    let items : c.list_copies.new.copies.items ≡ copies_of_blocks owners pass.copies =
    c.list_copies.ensures.copies ∙ ap (λ (x : PageTables). copies_of_blocks (owner_at x.owners) (copies_at x rg)) c.pages.ensures ∙ ap (copies_of_blocks owners) (copies-are t rg pass is) in
    let none : length (copies_of_blocks owners pass.copies) ≡ 0 = ap length (sym (c.as_slice.ensures.value ∙ items)) ∙ none-counted (length c.as_slice.result.now) (sym c.is_empty.ensures ∙ c.if-is_empty.true) in
    blocks-moved b.config (point_in b) _ _ t rg pass c.known.ensures.orderly c.known.ensures.led.led c.requires.group is c.requires.due.2 ∙ none-moved owners pass.copies none

pub returns-then-is_empty-clause-none : goal.returns-then-is_empty-clause-none
returns-then-is_empty-clause-none g c _ =
    let b = c.args.book.now in
    let t = b.pages in
    let rg = c.args.rg in
    let pass = c.requires.due.0 in
    let is = c.requires.due.1 in
    let owners = owner_at t.owners in
    let items : c.list_copies.new.copies.items ≡ copies_of_blocks owners pass.copies =
    c.list_copies.ensures.copies ∙ ap (λ (x : PageTables). copies_of_blocks (owner_at x.owners) (copies_at x rg)) c.pages.ensures ∙ ap (copies_of_blocks owners) (copies-are t rg pass is) in
    let none : length (copies_of_blocks owners pass.copies) ≡ 0 = ap length (sym (c.as_slice.ensures.value ∙ items)) ∙ none-counted (length c.as_slice.result.now) (sym c.is_empty.ensures ∙ c.if-is_empty.true) in
    (blocks-moved b.config (point_in b) _ _ t rg pass c.known.ensures.orderly c.known.ensures.led.led c.requires.group is c.requires.due.2 ∙ none-moved owners pass.copies none, refl, refl)

pub move_pass-requires-2-clause-change : goal.move_pass-requires-2-clause-change
move_pass-requires-2-clause-change g c =
    let b = c.args.book.now in
    let t = b.pages in
    let rg = c.args.rg in
    let group : rg < length t.units.groups = omega (arith, c.requires.group, ap (λ (k : Cut). k.groups) c.known.ensures.units.cut) in
    let copies = c.as_slice-3.ensures.value ∙ c.list_copies.ensures.copies ∙ ap (λ (x : PageTables). copies_of_blocks (owner_at x.owners) (copies_at x rg)) c.pages.ensures in
    let blocks = c.list_copies.ensures.blocks ∙ ap (λ (x : PageTables). map (moved_of (owner_at x.owners)) (copies_of_blocks (owner_at x.owners) (copies_at x rg))) c.pages.ensures in
    let ruhs = c.as_slice-4.ensures.value ∙ c.list_ruhs.ensures.ruhs ∙ ap (map (λ (x : MovedBlock). x.ruh)) (c.as_slice-2.ensures.value ∙ sym c.as_slice-5.ensures.value) in (
      of-move b.config (point_in b) _ _ t rg c.requires.due.0 (change_of c.move_change-change.result) c.known.ensures.orderly c.known.ensures.standing c.known.ensures.led.led c.requires.group c.known.ensures.units.cut c.known.ensures.joined group c.requires.due.1 c.requires.due.2
          c.as_slice-3.result.now c.as_slice-4.result.now c.as_slice-5.result.now copies (c.as_slice-5.ensures.value ∙ blocks) ruhs c.move_change-change.ensures.change,
      c.move_change-change.ensures.limits,
    )

pub returns-clause-some : goal.returns-clause-some
returns-clause-some g c =
    let b = c.args.book.now in
    let t = b.pages in
    let rg = c.args.rg in
    let pass = c.requires.due.0 in
    let is = c.requires.due.1 in
    let owners = owner_at t.owners in
    let items : c.list_copies.new.copies.items ≡ copies_of_blocks owners pass.copies =
    c.list_copies.ensures.copies ∙ ap (λ (x : PageTables). copies_of_blocks (owner_at x.owners) (copies_at x rg)) c.pages.ensures ∙ ap (copies_of_blocks owners) (copies-are t rg pass is) in
    let found : 0 < length (copies_of_blocks owners pass.copies) = subst (λ (xs : List Copied). 0 < length xs) (c.as_slice.ensures.value ∙ items) (some-counted (length c.as_slice.result.now) (sym c.is_empty.ensures ∙ c.if-is_empty.false)) in
    let names = blocks-moved b.config (point_in b) _ _ t rg pass c.known.ensures.orderly c.known.ensures.led.led c.requires.group is c.requires.due.2 in
    let group : rg < length t.units.groups = omega (arith, c.requires.group, ap (λ (k : Cut). k.groups) c.known.ensures.units.cut) in
    let copies = c.as_slice-3.ensures.value ∙ c.list_copies.ensures.copies ∙ ap (λ (x : PageTables). copies_of_blocks (owner_at x.owners) (copies_at x rg)) c.pages.ensures in
    let blocks = c.list_copies.ensures.blocks ∙ ap (λ (x : PageTables). map (moved_of (owner_at x.owners)) (copies_of_blocks (owner_at x.owners) (copies_at x rg))) c.pages.ensures in
    let ruhs = c.as_slice-4.ensures.value ∙ c.list_ruhs.ensures.ruhs ∙ ap (map (λ (x : MovedBlock). x.ruh)) (c.as_slice-2.ensures.value ∙ sym c.as_slice-5.ensures.value) in (
      λ none. some-moved owners pass.copies found (sym names ∙ none),
      c.save-saved.ensures.saves (entries.Moved (record { rg = rg; blocks = moved_blocks (point_in b) rg })) c.as_slice-5.result.now
          (of-move b.config (point_in b) _ _ t rg pass (change_of c.move_change-change.result) c.known.ensures.orderly c.known.ensures.standing c.known.ensures.led.led c.requires.group c.known.ensures.units.cut c.known.ensures.joined group is c.requires.due.2
          c.as_slice-3.result.now c.as_slice-4.result.now c.as_slice-5.result.now copies (c.as_slice-5.ensures.value ∙ blocks) ruhs c.move_change-change.ensures.change),
    )
