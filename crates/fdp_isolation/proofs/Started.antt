-- The start of a write keeps apart what was: the flash was not called.
use Rattle.std.proofs.Common.{◌≡◌, ℕ, true, List, [], ◌∷◌, refl, sym, ◌∙◌, ap, subst}
use Rattle.fdp_base.specs.declared.command.Command.{Command}
use Rattle.fdp_base.specs.declared.entry.Entry.{Entry}
use Rattle.fdp_base.specs.declared.entry.Entry.TheVariants as entries
use Rattle.fdp_base.specs.declared.entry.Started.{Started}
use Rattle.fdp_book.specs.declared.ticket.Ticket.{Ticket}
use Rattle.fdp_book.specs.Book.{BookSeen, IsLed, IsLonger, point_in, state_in}
use Rattle.fdp_book.specs.Steps.{Starts}
use Rattle.fdp_flash.specs.declared.cell.Cell.{Cell}
use Rattle.fdp_isolation.specs.Laned.{AreLaned, IsKnown}
use Rattle.fdp_isolation.proofs.Entries.{quiet-one}
use Rattle.fdp_isolation.proofs.Keeping.{laned-still, owners-fill, taken-kept}
use Rattle.fdp_isolation.proofs.Owning.{KeepsOwners, StoodBehind, book-owners, started-site, stood-renamed}
use Rattle.fdp_owners.specs.OwnerTable.{owner_at}
use Rattle.fdp_book.specs.fdp_pages.Steps.{ChangesOwners}
use Rattle.fdp_pointers.specs.Contents.{content_at, renamed_by}
use Rattle.fdp_pointers.proofs.Steps.{contents-renamed}
use Rattle.fdp_rules.specs.Next.{next}
use Rattle.fdp_rules.specs.Point.{Point}
use Rattle.fdp_book.proofs.Longer.{point-one, written-one}

pub laned-started : (old new : BookSeen) (queue number : ℕ) (command : Command) (ticket : Ticket) (cells : List Cell) → IsKnown old → IsLed new
    → Starts old new queue number command ticket → ChangesOwners old.pages new.pages
    → AreLaned old cells → AreLaned new cells
laned-started old new queue number command ticket cells known led starts changes h =
    let s : Started = record { queue = queue; number = number; command = command; rg = starts.target.rg; ruh = starts.target.ruh; pid_valid = starts.target.valid } in
    let e : Entry = entries.Started s in
    let longer : IsLonger old new (e ∷ []) = starts.step in
    let point : point_in new ≡ next old.config (point_in old) e = point-one old new e longer in
    let sites : (point_in new).trail.site ≡ (point_in old).trail.site = ap (λ (p : Point). p.trail.site) point ∙ started-site old.config (point_in old) s in
    let stood : StoodBehind (content_at old.config (state_in old)) (content_at old.config (state_in new)) =
    subst (λ (p : Point). StoodBehind (content_at old.config (state_in old)) (content_at old.config p.state)) (sym point)
    (stood-renamed (renamed_by (state_in old) e) _ _ (contents-renamed true old.config (point_in old) e known.orderly.state (starts.follows true) refl)) in
    let keeps : KeepsOwners (owner_at old.pages.owners) (owner_at new.pages.owners) = book-owners old new known.led led longer.config_is (written-one old new e longer) sites stood in
    laned-still old new (e ∷ []) cells cells (quiet-one true old new e longer refl known.orderly (starts.follows true) h.placed)
    (owners-fill old.pages new.pages changes)
    (taken-kept old new (e ∷ []) longer (λ spot x owned. let was = keeps spot x owned in (was.0, was.1)) (λ unit. refl))
    (λ unit lies page spare bytes low is. is)
    (λ unit. refl)
    h
