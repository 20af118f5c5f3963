-- Owners that a page had before, with the same spare.
use Rattle.std.proofs.Common.{◌≡◌, ℕ, true, false, ◌∷◌, List, Option, Some, None, refl, sym, ◌∙◌, ap, subst}
use Rattle.std.specs.Prelude.{if◌then◌else◌, option_map}
use Rattle.fdp_base.specs.declared.command.Command.{Command}
use Rattle.fdp_base.specs.declared.config.DriveConfig.{DriveConfig}
use Rattle.fdp_base.specs.declared.entry.Entry.TheVariants as entries
use Rattle.fdp_base.specs.declared.entry.Reply.{Reply}
use Rattle.fdp_base.specs.declared.entry.Shut.{Shut}
use Rattle.fdp_base.specs.declared.entry.Started.{Started}
use Rattle.fdp_base.specs.declared.entry.Spot.{Spot}
use Rattle.fdp_base.specs.declared.spare.DataSpare.{DataSpare}
use Rattle.fdp_base.specs.declared.status.Status.{Status}
use Rattle.fdp_base.specs.CommandKinds.{is_write}
use Rattle.fdp_book.specs.Book.{BookSeen, IsLed, point_in, state_in, written_in}
use Rattle.fdp_history.specs.OrderlyState.{IsOrderlyState}
use Rattle.fdp_isolation.proofs.Entries.{no}
use Rattle.fdp_book.specs.fdp_locations.Located.{AreLed, next_in}
use Rattle.fdp_book.specs.fdp_locations.Written.{IsWritten, Written}
use Rattle.fdp_owners.specs.declared.owner.Owner.{Owner}
use Rattle.fdp_owners.specs.Owned.{IsOwned, page_of}
use Rattle.fdp_owners.specs.OwnerTable.{owner_at, pointer_of}
use Rattle.fdp_book.specs.fdp_pages.PageTables.{PageTables}
use Rattle.fdp_pointers.specs.Contents.{PageContent, content_at, ended_by}
use Rattle.fdp_pointers.specs.Facts.{Page}
use Rattle.fdp_pointers.specs.Pointers.{Behind, Pointer, renamed}
use Rattle.fdp_pointers.proofs.Changes.{IsMade, content-ended, everywhere}
use Rattle.fdp_pointers.proofs.Renaming.{behind-renamed}
use Rattle.fdp_pointers.proofs.Tables.{site-at}
use Rattle.fdp_rules.specs.Change.{after, changed_by, is_media_error}
use Rattle.fdp_rules.specs.Next.{next}
use Rattle.fdp_rules.specs.Answer.{bare}
use Rattle.fdp_rules.specs.PlainState.{Going, PageName}
use Rattle.fdp_rules.specs.Point.{Point}
use Rattle.fdp_rules.specs.Sites.{traced_by}
use Rattle.fdp_rules.specs.Step.{MaySucceed}

-- each page that has an owner had one before, with the same spare
abbrev pub KeepsOwners : (Spot → Option Owner) → (Spot → Option Owner) → Type 0
KeepsOwners old new = (spot : Spot) (x : Owner) → new spot ≡ Some x → (y : Owner) × (old spot ≡ Some y) × (y.spare ≡ x.spare)

-- ---- pointers that get what stood behind others

-- what stands behind a pointer now stood behind one before
abbrev pub StoodBehind : Behind PageContent → Behind PageContent → Type 0
StoodBehind old new = (p : Pointer) (x : PageContent) → new p ≡ Some x → (q : Pointer) × (old q ≡ Some x)

pub stood-renamed : (r : Pointer → Option Pointer) (old new : Behind PageContent) → new ≡ renamed r old → StoodBehind old new
stood-renamed r old new same p x e = let was = behind-renamed r old p x (ap (λ (f : Behind PageContent). f p) (sym same) ∙ e) in (was.0, was.2)

-- two spares of one page are one
same-spare : (written : Spot → Option Written) (a b : Spot) (s t : DataSpare) (bytes : List ℕ) → IsWritten written a s bytes → IsWritten written b t bytes → a ≡ b → s ≡ t
same-spare written a b s t bytes h k same = let page : record { spare = s; bytes = bytes } ≡ record { spare = t; bytes = bytes } = one (sym h ∙ ap written same ∙ k) in ap (λ (w : Written). w.spare) page where
  one : {x y : Written} → Some x ≡ Some y → x ≡ y
  one e = cc

-- the owner of a page, by where it lies and what its spare says
owned-at : (owners : Spot → Option Owner) (p : Pointer) (y : Page) (spot : Spot) (s : DataSpare) → IsOwned owners p y → y.spot ≡ spot → y.spare ≡ s → (w : Owner) × (owners spot ≡ Some w) × (w.spare ≡ s)
owned-at owners p y spot s h same spare = (h.owner, ap owners (sym same) ∙ h.is_owner, h.spare ∙ spare)

-- a page that has an owner had one before, where the sites and what pages hold are as they were
module _ (c : DriveConfig) (p q : Point) (written : Spot → Option Written) (at to : Behind Page) (t now : PageTables) (was : AreLed c p written at t) (is : AreLed c q written to now) (sites : q.trail.site ≡ p.trail.site) (stood : StoodBehind (content_at c p.state) (content_at c q.state)) where
  pub owners-kept : KeepsOwners (owner_at t.owners) (owner_at now.owners)
  owners-kept spot x e =
      let leads : to (pointer_of x) ≡ Some (page_of spot x) = is.owned.led spot x e in
      let content = site-at c q (next_in now.units) to is.table (pointer_of x) (page_of spot x) leads in
      let before = stood (pointer_of x) content.0 content.1 in
      let site : p.trail.site content.0.name ≡ Some spot = ap (λ (f : PageName → Option Spot). f content.0.name) (sym sites) ∙ content.2 in
      let led = led-at before.0 content.0 spot before.1 site in
      let owner = was.owned.owned before.0 led.0 led.1 in
      let old_written = was.holds before.0 led.0 content.0 led.1 before.1 in
      let new_written = is.holds (pointer_of x) (page_of spot x) content.0 leads content.1 in
      owned-at (owner_at t.owners) before.0 led.0 spot x.spare owner led.2 (same-spare written led.0.spot spot led.0.spare x.spare content.0.bytes old_written new_written led.2) where
        led-at : (k : Pointer) (y : PageContent) (s : Spot) → content_at c p.state k ≡ Some y → p.trail.site y.name ≡ Some s → (z : Page) × (at k ≡ Some z) × (z.spot ≡ s)
        led-at k y s content site = there (at k) refl (sym (was.table.follows k) ∙ ap (option_map (λ (z : PageContent). p.trail.site z.name)) content ∙ ap (λ (o : Option Spot). Some o) site) where
          there : (o : Option Page) → at k ≡ o → option_map (λ (z : Page). Some z.spot) (at k) ≡ Some (Some s) → (z : Page) × (at k ≡ Some z) × (z.spot ≡ s)
          there None none e = absurd (nothing (ap (option_map (λ (z : Page). Some z.spot)) (sym none) ∙ e)) where
            nothing : None ≡ Some (Some s) → ⊥
            nothing e = cc
          there (Some z) some e = (z, some, spot-of (ap (option_map (λ (z : Page). Some z.spot)) (sym some) ∙ e)) where
            spot-of : Some (Some z.spot) ≡ Some (Some s) → z.spot ≡ s
            spot-of e = cc

-- ---- the end of a command

-- the end of a command leaves the contents of other writes; one whose change is made was whole
ended-content : (c : DriveConfig) (p : Point) (queue number : ℕ) (command : Command) (reply : Reply) (moment : ℕ) → IsOrderlyState c p.state → IsMade p.state queue reply.applied command
    → content_at c (next c p (entries.Host (record { queue = queue; number = number; command = command; reply = reply; moment = moment }))).state ≡ renamed (ended_by p.state queue reply.applied command) (content_at c p.state)
unfolding next after changed_by
ended-content c p queue number command reply moment orderly made = everywhere _ _ (content-ended c p.state queue command reply.applied (if is_media_error reply.status then moment ∷ p.state.media else p.state.media) orderly made)

stood-made : (c : DriveConfig) (p : Point) (queue number : ℕ) (command : Command) (reply : Reply) (moment : ℕ) → IsOrderlyState c p.state → IsMade p.state queue reply.applied command
    → StoodBehind (content_at c p.state) (content_at c (next c p (entries.Host (record { queue = queue; number = number; command = command; reply = reply; moment = moment }))).state)
stood-made c p queue number command reply moment orderly made = stood-renamed (ended_by p.state queue reply.applied command) _ _ (ended-content c p queue number command reply moment orderly made)

-- a change that is not made
pub stood-unmade : (c : DriveConfig) (p : Point) (queue number : ℕ) (command : Command) (reply : Reply) (moment : ℕ) → IsOrderlyState c p.state → reply.applied ≡ false
    → StoodBehind (content_at c p.state) (content_at c (next c p (entries.Host (record { queue = queue; number = number; command = command; reply = reply; moment = moment }))).state)
stood-unmade c p queue number command reply moment orderly unmade = stood-made c p queue number command reply moment orderly (λ made. absurd (no (sym made ∙ unmade)))

-- a command other than a write puts nothing behind a pointer
pub stood-other : (c : DriveConfig) (p : Point) (queue number : ℕ) (command : Command) (reply : Reply) (moment : ℕ) → IsOrderlyState c p.state → is_write command ≡ false
    → StoodBehind (content_at c p.state) (content_at c (next c p (entries.Host (record { queue = queue; number = number; command = command; reply = reply; moment = moment }))).state)
stood-other c p queue number command reply moment orderly other = stood-made c p queue number command reply moment orderly (λ made write. absurd (no (sym write ∙ other)))

-- a write that may succeed is whole, whatever the status with which it is answered
pub stood-written : (c : DriveConfig) (p : Point) (queue : ℕ) (g : Going) (status : Status) (moment : ℕ) → IsOrderlyState c p.state → p.state.going queue ≡ Some g → MaySucceed c p g
    → StoodBehind (content_at c p.state) (content_at c (next c p (entries.Host (record { queue = queue; number = g.number; command = g.command; reply = bare status true; moment = moment }))).state)
stood-written c p queue g status moment orderly going may = stood-made c p queue g.number g.command (bare status true) moment orderly (λ made write. record { g = g; going = going; same = refl; there = may.there; placed = may.placed })

-- ---- books

-- what was put into the pages stays, and what stands behind the pointers stood there before
pub book-owners : (old new : BookSeen) → IsLed old → IsLed new → new.config ≡ old.config → written_in new ≡ written_in old → (point_in new).trail.site ≡ (point_in old).trail.site → StoodBehind (content_at old.config (state_in old)) (content_at old.config (state_in new))
    → KeepsOwners (owner_at old.pages.owners) (owner_at new.pages.owners)
book-owners old new was is config written sites stood =
    let led : AreLed old.config (point_in new) (written_in old) is.at new.pages =
    subst (λ (c : DriveConfig). AreLed c (point_in new) (written_in old) is.at new.pages) config (subst (λ (w : Spot → Option Written). AreLed new.config (point_in new) w is.at new.pages) written is.led) in
    owners-kept old.config (point_in old) (point_in new) (written_in old) was.at is.at old.pages new.pages was.led led sites stood

-- the sites where a command ends, or a write is let go, or a handle is shut
pub host-site : (c : DriveConfig) (p : Point) (queue number : ℕ) (command : Command) (reply : Reply) (moment : ℕ) → (next c p (entries.Host (record { queue = queue; number = number; command = command; reply = reply; moment = moment }))).trail.site ≡ p.trail.site
unfolding next traced_by
host-site c p queue number command reply moment = refl

pub started-site : (c : DriveConfig) (p : Point) (s : Started) → (next c p (entries.Started s)).trail.site ≡ p.trail.site
unfolding next traced_by
started-site c p s = refl

pub shut-site : (c : DriveConfig) (p : Point) (s : Shut) → (next c p (entries.Shut s)).trail.site ≡ p.trail.site
unfolding next traced_by
shut-site c p s = refl

pub shut-content : (c : DriveConfig) (p : Point) (s : Shut) → content_at c (next c p (entries.Shut s)).state ≡ content_at c p.state
unfolding next after changed_by
shut-content c p s = refl
