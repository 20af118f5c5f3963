-- What entries of relocation leave of a state.
use Rattle.std.proofs.Common.{◌≡◌, ℕ, List, [], ◌∷◌, ◌++◌, Option, refl, sym, ◌∙◌, ap, append_assoc, subst, ◌≢◌}
use Rattle.std.proofs.lemmas.List.Elements.{All-head, All-tail}
use mathlib.Core.List.{append-nil}
use Rattle.fdp_base.specs.declared.config.DriveConfig.{DriveConfig}
use Rattle.fdp_base.specs.declared.entry.Entry.{Entry}
use Rattle.fdp_base.specs.declared.entry.Entry.TheVariants as entries
use Rattle.fdp_keeper.specs.fdp_book.declared.ticket.Ticket.{Ticket}
use Rattle.fdp_keeper.specs.fdp_book.Book.{BookSeen, IsLonger, state_in}
use Rattle.fdp_keeper.specs.fdp_book.Steps.{IsWaiting}
use Rattle.fdp_keeper.specs.fdp_book.Tickets.{IsTicketOf}
use Rattle.fdp_keeper.proofs.fdp_book.Kept.{there-alike}
use Rattle.fdp_relocation.specs.Entries.{AreRelocationIn, IsRelocationIn, KeepsState}
use Rattle.fdp_rules.proofs.Pushes.{point_of-push}
use Rattle.fdp_rules.specs.Change.{after, changed_by}
use Rattle.fdp_rules.specs.History.{Found, point_of}
use Rattle.fdp_rules.specs.Next.{next}
use Rattle.fdp_rules.specs.PlainState.{Going, PlainState}
use Rattle.fdp_rules.specs.Point.{Point}
use Rattle.fdp_rules.specs.Sites.{is_there}
use Rattle.fdp_keeper.proofs.fdp_book.Longer.{point-as}
use Rattle.fdp_base.specs.EntryKinds.{ServesNone}

pub keeps-self : (s : PlainState) → KeepsState s s
keeps-self s = record { enabled = refl; index = refl; generation = refl; reports = refl; namespaces = refl; blocks = refl; references = refl; going = refl; media = refl }

pub keeps-then : (s m n : PlainState) → KeepsState s m → KeepsState m n → KeepsState s n
keeps-then s m n f g = record {
  enabled = g.enabled ∙ f.enabled;
  index = g.index ∙ f.index;
  generation = g.generation ∙ f.generation;
  reports = g.reports ∙ f.reports;
  namespaces = g.namespaces ∙ f.namespaces;
  blocks = g.blocks ∙ f.blocks;
  references = g.references ∙ f.references;
  going = g.going ∙ f.going;
  media = g.media ∙ f.media;
}

-- an entry of relocation serves no host, and tells of no opening
pub quiet-entry : (c : DriveConfig) (rg : ℕ) (e : Entry) → IsRelocationIn c rg e → ServesNone e × (e ≢ entries.Reopened)
quiet-entry c rg (entries.Host h) inside = absurd inside
quiet-entry c rg (entries.Started s) inside = absurd inside
quiet-entry c rg (entries.Placed placed) inside = absurd inside
quiet-entry c rg (entries.Shut s) inside = absurd inside
quiet-entry c rg entries.Reopened inside = absurd inside
quiet-entry c rg (entries.Copied x) inside = (record { host = refl; started = refl; placed = refl }, λ e. cc)
quiet-entry c rg (entries.Moved m) inside = (record { host = refl; started = refl; placed = refl }, λ e. cc)
quiet-entry c rg (entries.Erased e) inside = (record { host = refl; started = refl; placed = refl }, λ e. cc)
quiet-entry c rg (entries.Retired r) inside = (record { host = refl; started = refl; placed = refl }, λ e. cc)
quiet-entry c rg (entries.Aside a) inside = (record { host = refl; started = refl; placed = refl }, λ e. cc)
quiet-entry c rg (entries.Worn w) inside = (record { host = refl; started = refl; placed = refl }, λ e. cc)

-- one entry
pub keeps-entry : (c : DriveConfig) (p : Point) (rg : ℕ) (e : Entry) → IsRelocationIn c rg e → KeepsState p.state (next c p e).state
unfolding next after changed_by
keeps-entry c p rg (entries.Host h) inside = absurd inside
keeps-entry c p rg (entries.Started s) inside = absurd inside
keeps-entry c p rg (entries.Placed placed) inside = absurd inside
keeps-entry c p rg (entries.Copied x) inside = record { enabled = refl; index = refl; generation = refl; reports = refl; namespaces = refl; blocks = refl; references = refl; going = refl; media = refl }
keeps-entry c p rg (entries.Moved m) inside = record { enabled = refl; index = refl; generation = refl; reports = refl; namespaces = refl; blocks = refl; references = refl; going = refl; media = refl }
keeps-entry c p rg (entries.Erased e) inside = record { enabled = refl; index = refl; generation = refl; reports = refl; namespaces = refl; blocks = refl; references = refl; going = refl; media = refl }
keeps-entry c p rg (entries.Retired r) inside = record { enabled = refl; index = refl; generation = refl; reports = refl; namespaces = refl; blocks = refl; references = refl; going = refl; media = refl }
keeps-entry c p rg (entries.Aside a) inside = record { enabled = refl; index = refl; generation = refl; reports = refl; namespaces = refl; blocks = refl; references = refl; going = refl; media = refl }
keeps-entry c p rg (entries.Shut s) inside = absurd inside
keeps-entry c p rg (entries.Worn w) inside = record { enabled = refl; index = refl; generation = refl; reports = refl; namespaces = refl; blocks = refl; references = refl; going = refl; media = refl }
keeps-entry c p rg entries.Reopened inside = absurd inside

-- entries behind a history
keeps-entries : (c : DriveConfig) (found : Found) (rg : ℕ) (before es : List Entry) → AreRelocationIn c rg es → KeepsState (point_of c found before).state (point_of c found (before ++ es)).state
keeps-entries c found rg before [] inside = subst (λ (xs : List Entry). KeepsState (point_of c found before).state (point_of c found xs).state) (sym (append-nil before)) (keeps-self (point_of c found before).state)
keeps-entries c found rg before (e ∷ es) inside =
    let p : Point = point_of c found before in
    let one : KeepsState p.state (point_of c found (before ++ e ∷ [])).state =
    subst (λ (q : Point). KeepsState p.state q.state) (sym (point_of-push c found before e)) (keeps-entry c p rg e (All-head (IsRelocationIn c rg) e es inside)) in
    let rest : KeepsState (point_of c found (before ++ e ∷ [])).state (point_of c found ((before ++ e ∷ []) ++ es)).state = keeps-entries c found rg (before ++ e ∷ []) es (All-tail (IsRelocationIn c rg) e es inside) in
    subst (λ (xs : List Entry). KeepsState p.state (point_of c found xs).state) (append_assoc before (e ∷ []) es)
    (keeps-then p.state (point_of c found (before ++ e ∷ [])).state (point_of c found ((before ++ e ∷ []) ++ es)).state one rest)

-- a book with these entries more
pub keeps-longer : (old new : BookSeen) (rg : ℕ) (es : List Entry) → IsLonger old new es → AreRelocationIn old.config rg es → KeepsState (state_in old) (state_in new)
keeps-longer old new rg es longer inside =
    let is : point_of new.config new.found new.entries ≡ point_of old.config old.found (old.entries ++ es) = point-as old new es longer in
    subst (λ (p : Point). KeepsState (state_in old) p.state) (sym is) (keeps-entries old.config old.found rg old.entries es inside)

-- ---- writes that are going

pub keeps-ticket : (s n : PlainState) (ticket : Ticket) (g : Going) → KeepsState s n → IsTicketOf s ticket g → IsTicketOf n ticket g
keeps-ticket s n ticket g k h = record { going_is = ap (λ (f : ℕ → Option Going). f ticket.queue) k.going ∙ h.going_is; number_is = h.number_is; position_is = h.position_is }

pub keeps-there : (s n : PlainState) (g : Going) → KeepsState s n → is_there n g ≡ is_there s g
keeps-there s n g k = there-alike s n g k.namespaces

pub keeps-waiting : (old new : BookSeen) (ticket : Ticket) → KeepsState (state_in old) (state_in new) → IsWaiting old ticket → IsWaiting new ticket
keeps-waiting old new ticket k h = record { going = h.going; ticket_is = keeps-ticket (state_in old) (state_in new) ticket h.going k h.ticket_is; asked = h.asked }
