use Rattle.std.proofs.Common.{◌≡◌, ◌∙◌, ◌<◌, ◌++◌, ◌∷◌, [], ap, List, refl, subst, sym, arith}
use Rattle.fdp_base.specs.declared.config.Geometry.{Geometry}
use Rattle.fdp_base.specs.declared.entry.BlockName.{BlockName}
use Rattle.fdp_base.specs.declared.entry.Entry.{Entry}
use Rattle.fdp_book.specs.declared.tables.Tables.{Tables}
use Rattle.fdp_book.specs.Book.{BookSeen}
use Rattle.fdp_book.specs.Held.{IsHeld, book_of}
use Rattle.fdp_book.specs.Logged.{Logged}
use Rattle.fdp_book.specs.Relocating.{IsMoveChange, MovesPass}
use Rattle.fdp_book.proofs.Held.Moved.{all-moved-out, can-make-move, generation-moved, held-moved, moved-behind, moved_entry, owners-are, pass-blocks, pass-follows, pass-movable}
use Rattle.fdp_readings.specs.fdp_pages.PageTables.{PageTables, passes_at}
use Rattle.fdp_owners.specs.OwnerTable.{owner_at}
use Rattle.fdp_readings.specs.fdp_pages.Steps.{HasSize, Recounts, ended_move}
use Rattle.fdp_passes.specs.declared.due.Due.TheVariants.{Move}
use Rattle.fdp_passes.specs.Due.{IsDue}
use Rattle.fdp_passes.specs.GroupPasses.{GroupPasses}
use Rattle.std.specs.Prelude.{option_map, slice_set}
use Rattle.fdp_rules.specs.History.{point_of}
use Rattle.fdp_rules.specs.Sites.{moved_blocks}
use Rattle.fdp_book.proofs.Numbers.{numbers-logged, numbers-on, small-totals}
use Rattle.fdp_book.specs.Outlined.{CanMakeMove, IsOutlineBehind, MakesMove}
use Rattle.fdp_book.specs.Saving.{AreSmall}
use Rattle.fdp_records.specs.Borrowed.{change_of}
use Rattle.fdp_book.proofs.book.Book.move_pass.Goals as goal
use Rattle.fdp_readings.specs.fdp_locations.Held.{pages_held}

pub move_copies-requires-clause-movable : goal.move_copies-requires-clause-movable
move_copies-requires-clause-movable c =
    let old = c.self.inside in
    let low = subst (λ (x : BookSeen). c.args.rg < x.config.groups) (sym c.self.view_is) c.requires.group in
    let is_due = subst (λ (x : BookSeen). IsDue (passes_at x.pages c.args.rg) x.pages.units x.pages.owners c.args.rg Move) (sym c.self.view_is) c.requires.due in
    pass-movable old.config old.origin.found (pages_held old.config old.origin.cells) old.log.entries old.tables c.args.rg c.self.invariant.held c.joined.ensures low is_due

pub move_copies-requires-clause-lead : goal.move_copies-requires-clause-lead
move_copies-requires-clause-lead c =
    let old = c.self.inside in
    let held : IsHeld old.config old.origin.found (pages_held old.config old.origin.cells) old.log.entries old.tables = c.self.invariant.held in
    ((point_of old.config old.origin.found old.log.entries).state, record { at = held.pages_are.at; owned = held.pages_are.led.owned; leads = held.pages_are.leads })

pub move_copies-requires-clause-cut : goal.move_copies-requires-clause-cut
move_copies-requires-clause-cut c =
    let held = c.self.invariant.held in
    held.units_are.cut ∙ ap (λ (g : Geometry). record { unit_pages = g.unit_pages; group_units = g.units; groups = g.groups }) (sym held.map_is.geometry)

pub end_move-requires-clause-moved : goal.end_move-requires-clause-moved
end_move-requires-clause-moved c =
    let old = c.self.inside in
    let low = subst (λ (x : BookSeen). c.args.rg < x.config.groups) (sym c.self.view_is) c.requires.group in
    let is_due = subst (λ (x : BookSeen). IsDue (passes_at x.pages c.args.rg) x.pages.units x.pages.owners c.args.rg Move) (sym c.self.view_is) c.requires.due in
    all-moved-out old.config old.origin.found (pages_held old.config old.origin.cells) old.log.entries old.tables c.args.rg c.self.invariant.held c.joined.ensures low is_due c.move_copies.new.tables c.move_copies.ensures.tables

pub make_move-requires-clause-small : goal.make_move-requires-clause-small
make_move-requires-clause-small c =
    let old = c.self.inside in
    subst (λ (t : Tables). AreSmall t.outline.totals) (sym c.move_copies.ensures.tables.kept.rest) (small-totals old.config old.origin old.log old.tables c.position.result c.self.invariant c.position.ensures.position c.position.ensures.small c.position.ensures.few)

pub make_move-requires-clause-can : goal.make_move-requires-clause-can
make_move-requires-clause-can c =
    let old = c.self.inside in
    let b : BookSeen = book_of old.config old.origin old.log old.tables in
    let change = option_map change_of c.args.change in
    subst (λ (t : Tables). CanMakeMove old.config change c.args.blocks.now t.outline) (sym c.move_copies.ensures.tables.kept.rest)
    (can-make-move b old.tables c.args.rg change c.args.blocks.now c.self.invariant.held (subst (λ (x : BookSeen). IsMoveChange x c.args.rg change c.args.blocks.now) (sym c.self.view_is) c.requires.change))

-- the outline behind it
behind : (c : goal.After-push) → IsOutlineBehind c.self.inside.config c.self.inside.origin.found c.self.inside.log.entries (moved_entry c.args.rg (moved_blocks (point_of c.self.inside.config c.self.inside.origin.found c.self.inside.log.entries) c.args.rg)) c.make_move.new.outline
behind c =
    let old = c.self.inside in
    let b : BookSeen = book_of old.config old.origin old.log old.tables in
    let change = option_map change_of c.args.change in
    let low = subst (λ (x : BookSeen). c.args.rg < x.config.groups) (sym c.self.view_is) c.requires.group in
    let is_due = subst (λ (x : BookSeen). IsDue (passes_at x.pages c.args.rg) x.pages.units x.pages.owners c.args.rg Move) (sym c.self.view_is) c.requires.due in
    moved-behind b old.tables c.args.rg change c.args.blocks.now c.make_move.new.outline c.self.invariant.held
    (pass-follows old.config old.origin.found (pages_held old.config old.origin.cells) old.log.entries old.tables c.args.rg c.self.invariant.held c.joined.ensures low is_due) (subst (λ (x : BookSeen). IsMoveChange x c.args.rg change c.args.blocks.now) (sym c.self.view_is) c.requires.change)
    (subst (λ (t : Tables). MakesMove old.config change c.args.blocks.now t.outline c.make_move.new.outline) c.move_copies.ensures.tables.kept.rest c.make_move.ensures)

pub invariant_of-self : goal.invariant_of-self
invariant_of-self c =
    let old = c.self.inside in
    let rg = c.args.rg in
    let low = subst (λ (x : BookSeen). rg < x.config.groups) (sym c.self.view_is) c.requires.group in
    let is_due = subst (λ (x : BookSeen). IsDue (passes_at x.pages rg) x.pages.units x.pages.owners rg Move) (sym c.self.view_is) c.requires.due in
    let now : Tables = record c.move_copies.new.tables { outline = c.make_move.new.outline; pages = c.end_move.new.self } in
    let blocks : List BlockName = moved_blocks (point_of old.config old.origin.found old.log.entries) rg in
    let listed : c.from_vec.result ≡ blocks = c.from_vec.ensures ∙ c.move_copies.ensures.names ∙ pass-blocks old.config old.origin.found (pages_held old.config old.origin.cells) old.log.entries old.tables rg c.self.invariant.held c.joined.ensures low is_due in
    let entries : c.push.new.self.entries ≡ old.log.entries ++ moved_entry rg blocks ∷ [] =
    c.push.ensures.entries_are
    ∙ ap (λ (x : Logged). x.entries ++ moved_entry rg c.from_vec.result ∷ []) c.take_list-names.ensures.kept
    ∙ ap (λ (xs : List BlockName). old.log.entries ++ moved_entry rg xs ∷ []) listed in
    record {
      held = subst (λ (es : List Entry). IsHeld old.config old.origin.found (pages_held old.config old.origin.cells) es now) (sym entries)
          (held-moved old.config old.origin.found (pages_held old.config old.origin.cells) old.log.entries old.tables rg c.self.invariant.held c.joined.ensures low is_due c.move_copies.new.tables c.move_copies.ensures.tables now
          (ap (λ (x : PageTables). record c.move_copies.new.tables { outline = c.make_move.new.outline; pages = x }) c.end_move.ensures) (behind c));
      before_is = c.push.ensures.before_is ∙ ap (λ (x : Logged). x.before) c.take_list-names.ensures.kept ∙ c.self.invariant.before_is;
      names_are = c.push.ensures.names_are ∙ ap (λ (x : Logged). x.names) c.take_list-names.ensures.kept ∙ c.self.invariant.names_are;
      numbers = numbers-logged old.tables.outline.generation now.outline.generation c.take_list-names.new.self c.push.new.self _ (generation-moved old.config old.origin.found old.log.entries rg blocks old.tables.outline now.outline c.self.invariant.held.outline_is (behind c)) c.push.ensures
          (numbers-on old.tables.outline.generation old.log c.take_list-names.new.self (ap (λ (x : Logged). x.spent) c.take_list-names.ensures.kept) (omega (arith, ap (λ (x : Logged). x.room) c.take_list-names.ensures.kept)) c.self.invariant.numbers);
    }

pub returns : goal.returns
returns c =
    let old = c.self.inside in
    let rg = c.args.rg in
    let b : BookSeen = book_of old.config old.origin old.log old.tables in
    let low = subst (λ (x : BookSeen). rg < x.config.groups) (sym c.self.view_is) c.requires.group in
    let is_due = subst (λ (x : BookSeen). IsDue (passes_at x.pages rg) x.pages.units x.pages.owners rg Move) (sym c.self.view_is) c.requires.due in
    let now : Tables = record c.move_copies.new.tables { outline = c.make_move.new.outline; pages = c.end_move.new.self } in
    let new : BookSeen = book_of old.config old.origin c.push.new.self now in
    let blocks : List BlockName = moved_blocks (point_of old.config old.origin.found old.log.entries) rg in
    let listed : c.from_vec.result ≡ blocks = c.from_vec.ensures ∙ c.move_copies.ensures.names ∙ pass-blocks old.config old.origin.found (pages_held old.config old.origin.cells) old.log.entries old.tables rg c.self.invariant.held c.joined.ensures low is_due in
    let changes = c.move_copies.ensures.tables.kept.pages in
    let moved : MovesPass b new rg = record {
      longer = record {
        config_is = refl;
        found_is = refl;
        opened_is = refl;
        entries_are = c.push.ensures.entries_are
            ∙ ap (λ (x : Logged). x.entries ++ moved_entry rg c.from_vec.result ∷ []) c.take_list-names.ensures.kept
            ∙ ap (λ (xs : List BlockName). old.log.entries ++ moved_entry rg xs ∷ []) listed;
        spare_is = c.push.ensures.spare_is ∙ ap (λ (x : Logged). x.spare) c.take_list-names.ensures.kept;
        spent_is = c.push.ensures.spent_is ∙ ap (λ (x : Logged). x.spent) c.take_list-names.ensures.kept;
        room_is = c.push.ensures.room_is ∙ ap (λ (x : Logged). x.room) c.take_list-names.ensures.kept;
      };
      move_is = c.push.ensures.move_is ∙ ap (λ (x : Logged). x.may_move) c.take_list-names.ensures.kept;
      follows = pass-follows old.config old.origin.found (pages_held old.config old.origin.cells) old.log.entries old.tables rg c.self.invariant.held c.joined.ensures low is_due;
      owners = ap (λ (x : PageTables). owner_at x.owners) c.end_move.ensures ∙ owners-are old.config old.origin.found (pages_held old.config old.origin.cells) old.log.entries old.tables rg c.self.invariant.held c.joined.ensures low is_due c.move_copies.new.tables c.move_copies.ensures.tables;
      size = subst (λ (x : PageTables). HasSize old.tables.pages.owners x.owners) (sym c.end_move.ensures) changes.size;
      units = subst (λ (x : PageTables). Recounts old.tables.pages.units x.units x.owners) (sym c.end_move.ensures) changes.units;
      handles = ap (λ (x : PageTables). x.handles) c.end_move.ensures ∙ changes.handles;
      passes = ap (λ (x : PageTables). x.passes) c.end_move.ensures ∙ ap (λ (ps : List GroupPasses). slice_set ps rg (ended_move (passes_at (record old.tables.pages { passes = ps }) rg))) changes.passes;
    } in
    record { moved = subst (λ (x : BookSeen). MovesPass x new rg) c.self.view_is moved }
